use Rattle.std.proofs.Common.{ap, ◌∙◌}
use Rattle.cidr_ext.specs.texts.Zones.{names_of}
use Rattle.cidr_ext.proofs.ZoneNames.{all_end, has_zones}
use Rattle.cidr_ext.proofs.reverse.AnyCidrReverseName.reverse_zones.Goals as goal

pub unwrap-requires : goal.unwrap-requires
unwrap-requires g c =
    let zone = rw (c.family.ensures, c.network_length.ensures.value) at c.zone_length-len.ensures.zone in
    let fits = rw c.family.ensures at c.zone_length-len.ensures.fits in
    has_zones (g.C.PrivCidr.family_of c.args.self.now) _ c.zone_length-len.result _ c.subnets.result zone fits c.subnets.ensures.value

pub _new-requires : goal._new-requires
_new-requires g c =
    let zone = rw (c.family.ensures, c.network_length.ensures.value) at c.zone_length-len.ensures.zone in
    all_end (g.C.PrivCidr.family_of c.args.self.now) (g.C.PrivCidr.prefix c.args.self.now) _ c.zone_length-len.result c.unwrap.result zone
    (rw c.unwrap.ensures at c.subnets.ensures.exactly)

pub returns : goal.returns
returns g c =
    let zone = rw (c.family.ensures, c.network_length.ensures.value) at c.zone_length-len.ensures.zone in
    (c.zone_length-len.result, zone, c._new.ensures ∙ ap names_of (rw c.unwrap.ensures at c.subnets.ensures.value))
