use Rattle.std.proofs.Common.{arith, ◌+◌, ◌-◌, ◌*◌, ◌^◌, get_or, map}
use Rattle.std.proofs.lemmas.Nat.{pow_pos}
use Rattle.cidr_lookup.proofs.Blocks.{far, start_at}
use Rattle.cidr_lookup.proofs.building.last_upto.Goals as goal

pub returns-then-number-clause-next : goal.returns-then-number-clause-next
returns-then-number-clause-next g c = λ more.
    let next = c.loop-range.range + 1 in
    let at = start_at g.A.Address.value c.args.starts.now next c.index-starts-range.result c.index-starts-range.is more in
    far (get_or (map g.A.Address.value c.args.starts.now) next 0) ((c.args.block * 64 + c.args.part) * 2 ^ (6 * (c.args.steps - 1))) (2 ^ g.A.Address.padding)
    (pow_pos g.A.Address.padding) (omega (arith, at, c.number.ensures.value, c.first_of-number.ensures, c.if-number.true))
