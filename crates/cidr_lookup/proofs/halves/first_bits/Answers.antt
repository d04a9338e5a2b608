use Rattle.std.proofs.Common.{◌≡◌, sym, ◌∙◌, ap, arith, ◌+◌, ◌-◌, ◌*◌, ◌/◌, ◌^◌}
use Rattle.std.proofs.lemmas.Nat.{shr_high, shr-shr}
use Rattle.cidr_lookup.proofs.Blocks.{scaled}
use Rattle.cidr_lookup.proofs.halves.first_bits.Goals as goal

pub returns : goal.returns
returns c =
    let n = c.args.high * 2 ^ 64 + c.args._low in
    let e : 64 + (c.args.shift - 66) ≡ c.args.shift - 2 = omega arith in
    let upper : n / 2 ^ 64 ≡ c.args.high = shr_high c.args.high 64 c.args._low (omega (arith, c.ranges._low)) in
    ap (λ h. h / 2 ^ (c.args.shift - 66)) (sym upper) ∙ (shr-shr n 64 (c.args.shift - 66) ∙ (ap (λ k. n / 2 ^ k) e ∙ sym (scaled n 2 c.args.shift (omega arith))))
