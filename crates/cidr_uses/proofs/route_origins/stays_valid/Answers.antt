use Rattle.cidr_routes.specs.declared.origins.Validity.TheVariants.{Valid}
use Rattle.cidr_uses.proofs.route_origins.stays_valid.Goals as goal

pub returns-in-Valid : goal.returns-in-Valid
returns-in-Valid g c =
    let (vrp, held, matches) = c.in-Valid.ensures in
    c.is_valid.ensures.1 (c.one_validity_fits.ensures c.args.more.now (g.C.BitString.bits c.args.route.now) c.args.origin c.validity-after.result Valid
    c.validity-after.ensures (vrp, c.requires vrp held, matches))
