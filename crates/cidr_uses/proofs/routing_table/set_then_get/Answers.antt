use Rattle.std.proofs.Common.{refl, ap, inl, inr}
use Rattle.cidr_uses.proofs.Routes.{contains_key}
use Rattle.cidr_uses.proofs.routing_table.set_then_get.Goals as goal

pub unreachable-requires : goal.unreachable-requires
unreachable-requires g c =
    let row : g.row.C.Denot × g.row.V.Denot = (c.args.network, c.args.value) in
    c.in-None.ensures.value (contains_key c.insert.new.self.rows row ((c.in_ok-insert.ensures.ok row).1 (inl refl)))

pub returns-clause-got : goal.returns-clause-got
returns-clause-got g c = elim ((c.in_ok-insert.ensures.ok (c.args.network, c.in-Some.got.now)).0 c.in-Some.ensures.value) [
  | inl same ↦ ap (λ row. row.1) same
  | inr other ↦ absurd (other.0 refl)
]
