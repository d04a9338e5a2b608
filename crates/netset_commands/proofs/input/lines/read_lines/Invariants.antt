use Rattle.std.specs.Option.{IfSome}
use Rattle.netset_commands.proofs.LinesRead.{LinesRead}
use Rattle.netset_commands.proofs.input.lines.read_lines.Given as goal

abbrev pub invariant-loop-number : goal.invariant-loop-number
invariant-loop-number g l =
    IfSome l.fn.reader.left (λ text. LinesRead (g.K.LineKind.says l.kind l.list_form l.fn.said) text l.reader.left l.said l.number)
