use Rattle.std.proofs.Common.{ap, ap₂, ◌∙◌, arith, ◌+◌, ◌-◌, ◌*◌, ◌/◌, ◌%◌, ◌^◌, ◌≤◌}
use Rattle.std.proofs.Math.Nat.{mod-eq_of_lt}
use Rattle.cidr_lookup.proofs.Blocks.{address_fits, before_fits, block_address_fits, first_address}
use Rattle.cidr_lookup.proofs.building.first_of.Goals as goal

pub overflow_mul-within : goal.overflow_mul-within
overflow_mul-within g c = omega (arith, c.requires.steps, c.requires.wide)

pub overflow_shl-within : goal.overflow_shl-within
overflow_shl-within g c = omega (arith, c.requires.steps, c.requires.wide)

pub overflow_mul-result : goal.overflow_mul-result
overflow_mul-result g c = omega (arith, c.requires.steps, c.requires.wide)

pub returns : goal.returns
returns g c =
    let steps = c.args.steps in
    let block = c.args.block in
    let part = c.args.part in
    let padding = g.A.Address.padding in
    let zeros : padding ≤ 6 = omega (arith, c.padding.ensures.value, c.padding.ensures.few) in
    let wide : g.A.Address.width ≤ 128 = omega (arith, c.width.ensures.value, c.width.ensures.fits) in
    let low = mod-eq_of_lt (block_address_fits steps block part padding c.requires.some c.requires.part zeros g.A.Address.width wide c.requires.block) in
    let high = mod-eq_of_lt (before_fits steps block part padding c.requires.some c.requires.part zeros (omega (arith, c.requires.steps, c.requires.wide))) in
    ap₂ (λ a b. a + b) (ap (λ p. block * 2 ^ (6 * steps - p) % 2 ^ 128) c.padding.ensures.value ∙ low) (ap₂ (λ b p. b / 2 ^ p) high c.padding-2.ensures.value)
    ∙ first_address steps block part padding c.requires.some c.requires.part zeros

pub overflow_add-result : goal.overflow_add-result
overflow_add-result g c =
    let steps = c.args.steps in
    let block = c.args.block in
    let part = c.args.part in
    let padding = g.A.Address.padding in
    let zeros : padding ≤ 6 = omega (arith, c.padding.ensures.value, c.padding.ensures.few) in
    let wide : g.A.Address.width ≤ 128 = omega (arith, c.width.ensures.value, c.width.ensures.fits) in
    let low = mod-eq_of_lt (block_address_fits steps block part padding c.requires.some c.requires.part zeros g.A.Address.width wide c.requires.block) in
    let high = mod-eq_of_lt (before_fits steps block part padding c.requires.some c.requires.part zeros (omega (arith, c.requires.steps, c.requires.wide))) in
    let is = ap₂ (λ a b. a + b) (ap (λ p. block * 2 ^ (6 * steps - p) % 2 ^ 128) c.padding.ensures.value ∙ low) (ap₂ (λ b p. b / 2 ^ p) high c.padding-2.ensures.value)
    ∙ first_address steps block part padding c.requires.some c.requires.part zeros in
    omega (arith, is, address_fits steps block part padding c.requires.some c.requires.part zeros g.A.Address.width wide c.requires.block)
