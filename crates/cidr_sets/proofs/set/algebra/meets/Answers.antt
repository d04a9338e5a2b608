use Rattle.std.proofs.Common.{map, sym, ◌∙◌}
use Rattle.std.proofs.lemmas.Bool.Decides.{not_from_Decides}
use Rattle.cidr_sets.proofs.Algebra.{meets_covered, meets_first}
use Rattle.cidr_sets.proofs.set.algebra.meets.Goals as goal

pub returns-then-covers : goal.returns-then-covers
returns-then-covers g c =
    let f = g.C.BitString.bits in (
      λ t. meets_covered (map f c.args.networks.now) (f c.args.network.now) c.has_at_most_129_bits.ensures (c.covers.ensures.0 c.if-covers.true),
      λ m. c.if-covers.true,
    )

pub returns-else-covers : goal.returns-else-covers
returns-else-covers g c =
    let f = g.C.BitString.bits in
    let told = meets_first f (map f c.args.networks.now) (f c.args.network.now) c.first_inside.result c.requires
    (not_from_Decides c.covers.result c.covers.ensures c.if-covers.false) c.first_inside.ensures in
    (λ t. told.0 (sym c.is_some.ensures ∙ t), λ m. c.is_some.ensures ∙ told.1 m)
