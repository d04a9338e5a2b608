use Rattle.std.proofs.Common.{◌≡◌, sym, ap, ◌∙◌, arith, ◌+◌, ◌-◌, ◌*◌, ◌%◌, ◌^◌}
use Rattle.std.proofs.lemmas.Nat.{one_shl}
use Rattle.cidr_lookup.proofs.Blocks.{rest, start_at}
use Rattle.cidr_lookup.proofs.building.rest_of.Goals as goal

pub returns : goal.returns
returns g c =
    let p = g.A.Address.padding in
    let q = 82 - c.padding.result in
    let at = start_at g.A.Address.value c.args.starts.now c.args.range c.index-starts-range.result c.index-starts-range.is c.requires ∙ sym c.number.ensures.value in
    let size : q + p ≡ 82 = omega (arith, c.padding.ensures.value, c.padding.ensures.few) in
    ap (λ m. c.number.result % m * 2 ^ p) (one_shl q 128 (omega arith))
    ∙ (rest c.number.result p q ∙ (ap (λ k. c.number.result * 2 ^ p % 2 ^ k) size ∙ ap (λ s. s * 2 ^ p % 2 ^ 82) (sym at)))
