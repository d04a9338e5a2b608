use Rattle.std.proofs.Common.{◌+◌, eqb-true, eq-eqb, sym, ◌∙◌}
use Rattle.cidr_table.proofs.SharedHalves.{halves_from_shared, shared_from_halves}
use Rattle.cidr_table.proofs.table.cover.are_halves.Goals as goal

pub returns-then-len : goal.returns-then-len
returns-then-len g c =
    let n = c.shared_prefix_len.result in
    let len = c.len-then-len.result in
    let p = g.C.BitString.bits c.args.lower.now in
    let q = g.C.BitString.bits c.args.upper.now in
    let same = sym c.len.ensures.value ∙ c.if-len.true ∙ c.len-2.ensures.value in (
      λ e. halves_from_shared n p q c.shared_prefix_len.ensures c.requires same
          (eqb-true (n + 1) len e ∙ c.len-then-len.ensures.value),
      λ h. eq-eqb (n + 1) len (shared_from_halves n p q c.shared_prefix_len.ensures h
          ∙ sym c.len-then-len.ensures.value),
    )
