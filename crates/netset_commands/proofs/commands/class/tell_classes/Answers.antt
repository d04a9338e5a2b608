use Rattle.std.proofs.Common.{◌∙◌}
use Rattle.netset_commands.proofs.Causes.{file_cause}
use Rattle.netset_commands.proofs.Classed.{classes_cut, classes_lost, classes_told}
use Rattle.netset_commands.proofs.commands.class.tell_classes.Goals as goal

pub returns-in-Ok-look_all-clause-answers : goal.returns-in-Ok-look_all-clause-answers
returns-in-Ok-look_all-clause-answers g c = λ none.
    rw c.verdict_of.ensures (classes_told (g.F.Sources.contents c.args.sources.now) c.args.file _ (g.O.Sink.state c.args.out.now)
    (g.O.Sink.state c.look_all.new.out) none (λ text contents. c.in-Ok-new.ensures.left ∙ c.in-Ok.ensures.left text contents)
    c.in-Ok-look_all.found c.in-Ok-look_all.ensures.looks)

pub returns-in-Err-Reading-clause-answers : goal.returns-in-Err-Reading-clause-answers
returns-in-Err-Reading-clause-answers g c = λ none.
    rw c.unread.ensures (classes_cut (g.F.Sources.contents c.args.sources.now) c.args.file _ (g.O.Sink.state c.args.out.now)
    (g.O.Sink.state c.look_all.new.out) none (λ text contents. c.in-Ok-new.ensures.left ∙ c.in-Ok.ensures.left text contents)
    c.in-Err-Reading.e (rw c.in-Err-Reading.field-0-is at c.in-Err-Reading.ensures.looks))

pub returns-clause-answers : goal.returns-clause-answers
returns-clause-answers g c = λ none.
    classes_lost (g.F.Sources.contents c.args.sources.now) c.args.file _ (g.O.Sink.state c.args.out.now) (g.O.Sink.state c.look_all.new.out) none
    (λ text contents. c.in-Ok-new.ensures.left ∙ c.in-Ok.ensures.left text contents)
    (rw c.in-Err-Output.field-0-is at c.in-Err-Output.ensures.looks)

pub returns-in-Err-Reading-clause-cause : goal.returns-in-Err-Reading-clause-cause
returns-in-Err-Reading-clause-cause g c =
    rw c.unread.ensures (file_cause (g.F.Sources.contents c.args.sources.now) (g.F.Sources.reasons c.args.sources.now) c.args.file _ (g.M.Memory.refused c.look_all.new.memory) c.in-Err-Reading.e c.in-Ok.ensures.opened
    (λ text contents. c.in-Ok-new.ensures.left ∙ c.in-Ok.ensures.left text contents) (rw c.in-Err-Reading.field-0-is at c.in-Err-Reading.ensures.cause))
