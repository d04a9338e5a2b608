use Rattle.netset_commands.specs.Causes.{FileFails}
use Rattle.netset_commands.proofs.Causes.{output_cause}
use Rattle.netset_commands.proofs.Classed.{class_told}
use Rattle.netset_commands.proofs.commands.class.class.Goals as goal

pub returns-in-Ok-clause-answers : goal.returns-in-Ok-clause-answers
returns-in-Ok-clause-answers g c =
    class_told (g.F.Sources.contents c.args.sources.now) c.args.operand.now c.in-Ok.address c.class_line-line.result.0.bytes c.class_line-line.result.1
    (g.O.Sink.state c.args.out.now) (g.O.Sink.state c.write_text.new.out) c.write_text.result c.by_output.result c.in-Ok.ensures.value c.class_line-line.ensures
    (rw c.as_str.ensures.value at c.write_text.ensures) (rw c.verdict_of.ensures at c.by_output.ensures)

pub returns-in-Ok-clause-cause : goal.returns-in-Ok-clause-cause
returns-in-Ok-clause-cause g c = output_cause (FileFails (g.F.Sources.contents c.args.sources.now) (g.F.Sources.reasons c.args.sources.now)) _ _ _ c.by_output.result c.by_output.ensures

pub returns-in-Err-clause-answers : goal.returns-in-Err-clause-answers
returns-in-Err-clause-answers g c = c.tell_classes.ensures.answers c.in-Err.ensures.value.1
