use Rattle.std.proofs.Common.{◌≡◌, ◌∙◌, ap, arith, ◌-◌, ◌^◌}
use Rattle.cidr_lookup.proofs.Numbers.{all_set}
use Rattle.cidr_lookup.proofs.key.ones.Goals as goal

pub returns : goal.returns
returns c =
    let e : 128 - (128 - c.args.bits) ≡ c.args.bits = omega arith in
    all_set 128 (128 - c.args.bits) (omega arith) ∙ ap (λ b. 2 ^ b - 1) e
