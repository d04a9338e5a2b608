use Rattle.std.proofs.Common.{sym, ◌∙◌, ap, arith, ◌+◌, ◌*◌, ◌/◌, ◌^◌}
use Rattle.std.proofs.lemmas.Nat.{shr_high, shr-shr}
use Rattle.cidr_lookup.proofs.halves.first_part.Goals as goal

pub returns-clause-value : goal.returns-clause-value
returns-clause-value c =
    let n = c.args.high * 2 ^ 64 + c.args._low in
    ap (λ h. h / 2 ^ 58) (sym (shr_high c.args.high 64 c.args._low (omega (arith, c.ranges._low)))) ∙ shr-shr n 64 58
