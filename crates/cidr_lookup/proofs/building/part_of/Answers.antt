use Rattle.std.proofs.Common.{◌≡◌, sym, ap, ap₂, ◌∙◌, arith, ◌-◌, ◌*◌, ◌/◌, ◌%◌, ◌^◌, ◌<◌, ◌≤◌, ℕ, get_or, map}
use Rattle.std.proofs.Math.Nat.{mod-eq_of_lt}
use Rattle.std.proofs.Math.Pow.{pow_mono}
use Rattle.std.proofs.lemmas.Nat.{mod_below, mul-le, mul-mod_first}
use Rattle.cidr_lookup.proofs.Blocks.{scaled, start_at}
use Rattle.cidr_lookup.proofs.building.part_of.Goals as goal

-- six bits with at most six zeros behind them fit
six_bits : (n p : ℕ) → p ≤ 6 → n % 64 * 2 ^ p % 2 ^ 128 % 64 ≡ n * 2 ^ p / 2 ^ 0 % 64
six_bits n p few =
    let most : 2 ^ p ≤ 2 ^ 6 = pow_mono {j = 6} few in
    let less : n % 64 < 64 = mod_below n 64 (omega arith) in
    let small : n % 64 * 2 ^ p < 2 ^ 128 = omega (arith, mul-le (n % 64) (2 ^ p) 64 (2 ^ 6) (omega (arith, less)) most) in
    let whole : n * 2 ^ p / 2 ^ 0 ≡ n * 2 ^ p = omega arith in
    ap (λ m. m % 64) (mod-eq_of_lt small) ∙ (mul-mod_first n (2 ^ p) 64 ∙ ap (λ m. m % 64) (sym whole))

pub returns-then-steps-eq1 : goal.returns-then-steps-eq1
returns-then-steps-eq1 g c =
    let at = start_at g.A.Address.value c.args.starts.now c.args.range c.index-starts-range.result c.index-starts-range.is c.requires.range ∙ sym c.number-number.ensures.value in
    let none : 6 * (c.args.steps - 1) ≡ 0 = omega (arith, c.if-steps-eq1.true) in
    six_bits c.number-number.result c.padding.result c.padding.ensures.few
    ∙ (ap₂ (λ n p. n * 2 ^ p / 2 ^ 0 % 64) (sym at) c.padding.ensures.value ∙ ap (λ s. get_or (map g.A.Address.value c.args.starts.now) c.args.range 0 * 2 ^ g.A.Address.padding / 2 ^ s % 64) (sym none))

pub returns : goal.returns
returns g c =
    let at = start_at g.A.Address.value c.args.starts.now c.args.range c.index-starts-range.result c.index-starts-range.is c.requires.range ∙ sym c.number-number.ensures.value in
    let shift = 6 * (c.args.steps - 1) in
    ap (λ m. m % 64) (sym (scaled c.number-number.result c.padding-2.result shift (omega (arith, c.padding-2.ensures.few, c.requires.some, c.if-steps-eq1.false))))
    ∙ ap₂ (λ n p. n * 2 ^ p / 2 ^ shift % 64) (sym at) c.padding-2.ensures.value
