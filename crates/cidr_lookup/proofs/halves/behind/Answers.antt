use Rattle.std.proofs.Common.{arith}
use Rattle.cidr_lookup.proofs.Blocks.{halves_behind, room_behind}
use Rattle.cidr_lookup.proofs.halves.behind.Goals as goal

pub overflow_add-result : goal.overflow_add-result
overflow_add-result c = omega (arith, room_behind c.args.high c.args.low c.args.count (omega (arith, c.requires.few)) (omega (arith, c.ranges.low)))

pub returns : goal.returns
returns c = halves_behind c.args.high c.args.low c.args.count (omega (arith, c.requires.few)) (omega (arith, c.ranges.low))
