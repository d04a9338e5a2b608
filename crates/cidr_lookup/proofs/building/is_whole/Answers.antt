use Rattle.std.proofs.Common.{◌≡◌, sym, ap, ◌∙◌, arith, ◌+◌, ◌-◌, ◌*◌, ◌/◌, ◌^◌, ◌<◌, ◌≤◌, get_or, length, map}
use Rattle.std.proofs.lemmas.Bool.{ltb-true, lt-ltb}
use Rattle.cidr_lookup.proofs.Blocks.{scaled, start_at}
use Rattle.cidr_lookup.proofs.building.is_whole.Goals as goal

pub overflow_mul-result : goal.overflow_mul-result
overflow_mul-result g c = omega (arith, c.requires.steps, c.requires.wide)

pub overflow_shr-result : goal.overflow_shr-result
overflow_shr-result g c = omega (arith, c.requires.steps, c.requires.wide)

pub returns : goal.returns
returns g c =
    let steps = c.args.steps in
    let padding = g.A.Address.padding in
    let number = c.number.result in
    let start = get_or (map g.A.Address.value c.args.starts.now) (c.args.range + 1) 0 in
    let more : c.args.range + 1 < length c.args.starts.now = omega (arith, c.requires.range, c.if-next-starts.false) in
    let at : start ≡ number = start_at g.A.Address.value c.args.starts.now (c.args.range + 1) c.index-starts-next.result c.index-starts-next.is more ∙ sym c.number.ensures.value in
    let zeros : padding ≤ 6 * steps = omega (arith, c.padding.ensures.value, c.padding.ensures.few, c.requires.some) in
    let upper : start * 2 ^ padding / 2 ^ (6 * steps) ≡ number / 2 ^ (6 * steps - c.padding.result) =
    ap (λ s. s * 2 ^ padding / 2 ^ (6 * steps)) at ∙ (scaled number padding (6 * steps) zeros ∙ ap (λ p. number / 2 ^ (6 * steps - p)) (sym c.padding.ensures.value)) in (
      λ t _. omega (arith, ltb-true c.args.block (number / 2 ^ (6 * steps - c.padding.result)) t, upper),
      λ h. lt-ltb c.args.block (number / 2 ^ (6 * steps - c.padding.result)) (omega (arith, h more, upper)),
    )
