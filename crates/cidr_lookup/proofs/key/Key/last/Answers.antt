use Rattle.std.proofs.Common.{◌≡◌, ◌∙◌, ap, arith, ◌-◌, ◌^◌, ◌≤◌}
use Rattle.std.proofs.Math.Pow.{pow_mono}
use Rattle.cidr_lookup.proofs.Numbers.{ends_within}
use Rattle.cidr_lookup.proofs.key.Key.last.Goals as goal

pub overflow_add-result : goal.overflow_add-result
overflow_add-result g c =
    let w = g.A.Address.width in
    let len = c.args.self.now.len in
    let ones : c.ones.result ≡ 2 ^ (w - len) - 1 = c.ones.ensures ∙ ap (λ n. 2 ^ (n - len) - 1) c.width.ensures.value in
    let most : 2 ^ w ≤ 2 ^ 128 = pow_mono {j = 128} (omega (arith, c.width.ensures.value, c.width.ensures.fits)) in
    omega (arith, ends_within w (g.A.Address.value c.args.self.now.address, len) c.requires, most, ones, c.number.ensures.value)
