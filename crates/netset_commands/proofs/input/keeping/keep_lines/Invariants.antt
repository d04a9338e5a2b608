use Rattle.netset_commands.proofs.Telling.{IsKeeping}
use Rattle.netset_commands.proofs.input.keeping.keep_lines.Given as goal

abbrev pub invariant-loop-number : goal.invariant-loop-number
invariant-loop-number g l =
    IsKeeping l.fn.kind l.list_form l.file l.skips (g.E.Sink.state l.fn.err) l.fn.block l.fn.reader.left l.reader.left (g.E.Sink.state l.err) l.block l.found l.said l.text.items l.number
