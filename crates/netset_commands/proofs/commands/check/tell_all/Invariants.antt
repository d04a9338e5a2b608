use Rattle.std.proofs.Common.{◌*◌}
use Rattle.netset_commands.specs.Findings.{AreNoted}
use Rattle.netset_commands.proofs.commands.check.tell_all.Given as goal

-- the findings of the entries before this index
abbrev pub invariant-loop-index : goal.invariant-loop-index
invariant-loop-index g l =
    AreNoted l.entries (l.index * 5) (g.S.Sink.state l.fn.out) (g.S.Sink.state l.out) l.messages.block l.messages.verdict
