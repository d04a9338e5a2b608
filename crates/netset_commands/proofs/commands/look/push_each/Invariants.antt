use Rattle.std.proofs.Common.{map, option_map, take, Ok}
use Rattle.netset_commands.specs.LookUps.{LooksEach}
use Rattle.netset_commands.proofs.commands.look.push_each.Given as goal

abbrev pub invariant-loop-one : goal.invariant-loop-one
invariant-loop-one g l =
    LooksEach (g.T.LookUps.rows l.table) (map (option_map (λ one. one.0)) (take l.one-index l.found)) (g.S.Sink.state l.fn.out) (g.S.Sink.state l.out) l.fn.block l.block (Ok l.any)
