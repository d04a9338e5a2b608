use Rattle.std.proofs.Common.{◌≡◌, sym, ◌∙◌, ap, arith, ◌+◌, ◌*◌, ◌/◌, ◌%◌, ◌^◌}
use Rattle.std.proofs.lemmas.Nat.{shr_high, shr-shr}
use Rattle.cidr_lookup.proofs.Blocks.{scaled}
use Rattle.cidr_lookup.proofs.halves.list_bits.Goals as goal

pub returns : goal.returns
returns c =
    let n = c.args.high * 2 ^ 64 + c.args._low in
    let upper : n / 2 ^ 64 ≡ c.args.high = shr_high c.args.high 64 c.args._low (omega (arith, c.ranges._low)) in
    ap (λ h. h / 2 ^ 16 % 2 ^ 32) (sym upper) ∙ ap (λ m. m % 2 ^ 32) (shr-shr n 64 16 ∙ sym (scaled n 2 82 (omega arith)))
