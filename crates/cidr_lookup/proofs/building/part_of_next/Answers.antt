use Rattle.std.proofs.Common.{◌≡◌, sym, ap, ◌∙◌, arith, ◌+◌, ◌-◌, ◌*◌, ◌/◌, ◌%◌, ◌^◌, get_or, length, map}
use Rattle.std.proofs.lemmas.Bool.{iff_false}
use Rattle.std.proofs.lemmas.Nat.{le-div, pow_pos}
use Rattle.cidr_lookup.proofs.Blocks.{begun, part_of, parts_behind}
use Rattle.cidr_lookup.proofs.building.part_of_next.Goals as goal

pub returns-then-is_whole-clause-before : goal.returns-then-is_whole-clause-before
returns-then-is_whole-clause-before g c = λ part l more.
    let next = get_or (map g.A.Address.value c.args.starts.now) (c.args.range + 1) 0 * 2 ^ g.A.Address.padding in
    omega (arith, l, parts_behind c.args.steps c.args.block next c.requires.some (c.is_whole.ensures.0 c.if-is_whole.true more))

pub returns-clause-inner : goal.returns-clause-inner
returns-clause-inner g c = λ l.
    let j = c.args.range + 1 in
    let steps = c.args.steps in
    let next = get_or (map g.A.Address.value c.args.starts.now) j 0 * 2 ^ g.A.Address.padding in
    let at = begun j (length c.args.starts.now) c.args.block (next / 2 ^ (6 * steps)) (iff_false c.is_whole.ensures c.if-is_whole.false) in
    let here : next / 2 ^ (6 * steps) ≡ c.args.block =
    omega (arith, at.1, le-div c.args.block next (2 ^ (6 * steps)) (pow_pos (6 * steps)) (c.requires.behind at.0)) in
    let digit : next / 2 ^ (6 * (steps - 1)) % 64 ≡ c.part_of.result = sym c.part_of.ensures in
    (at.0, part_of steps c.args.block next c.requires.some here ∙ ap (λ d. c.args.block * 64 + d) digit)

pub returns-clause-before : goal.returns-clause-before
returns-clause-before g c = λ part l more.
    let j = c.args.range + 1 in
    let steps = c.args.steps in
    let next = get_or (map g.A.Address.value c.args.starts.now) j 0 * 2 ^ g.A.Address.padding in
    let at = begun j (length c.args.starts.now) c.args.block (next / 2 ^ (6 * steps)) (iff_false c.is_whole.ensures c.if-is_whole.false) in
    let here : next / 2 ^ (6 * steps) ≡ c.args.block =
    omega (arith, at.1, le-div c.args.block next (2 ^ (6 * steps)) (pow_pos (6 * steps)) (c.requires.behind at.0)) in
    let digit : next / 2 ^ (6 * (steps - 1)) % 64 ≡ c.part_of.result = sym c.part_of.ensures in
    omega (arith, l, part_of steps c.args.block next c.requires.some here ∙ ap (λ d. c.args.block * 64 + d) digit)
