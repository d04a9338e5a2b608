use Rattle.std.proofs.Common.{◌∙◌, false, inl, refl, true}
use Rattle.netset_commands.specs.declared.errors.CommandError.TheVariants as error
use Rattle.netset_commands.proofs.Causes.{file_causes, not_opened}
use Rattle.netset_commands.proofs.Headed.{opened}
use Rattle.netset_commands.proofs.commands.look.look_in.Goals as goal

pub returns-in-Err-clause-tells : goal.returns-in-Err-clause-tells
returns-in-Err-clause-tells g c = inl (refl, error.Input c.args.file c.in-Err.why, refl, refl)

pub returns-in-Err-clause-cause : goal.returns-in-Err-clause-cause
returns-in-Err-clause-cause g c = not_opened (g.F.Sources.contents c.args.sources.now) (g.F.Sources.reasons c.args.sources.now) c.args.file.now c.in-Err.why c.in-Err.ensures.none c.in-Err.ensures.why

pub returns-in_default-clause-tells : goal.returns-in_default-clause-tells
returns-in_default-clause-tells g c = inl (refl, error.NoMemory, refl, tt)

pub returns-then-seeking-clause-tells : goal.returns-then-seeking-clause-tells
returns-then-seeking-clause-tells g c =
    rw c.if-seeking.true (opened true c.args.seeking.telling c.args.seeking.asked (g.T.LookUps.rows c.args.table.now) (g.F.Sources.contents c.args.sources.now c.args.file.now) _ c.args.file.now
    (g.O.Sink.state c.args.out.now) (g.O.Sink.state c.look_behind.new.out) c.look_behind.result
    (λ text contents. c.in-Ok-new.ensures.left ∙ c.in-Ok.ensures.left text contents) c.look_behind.ensures.tells)

pub returns-then-seeking-clause-cause : goal.returns-then-seeking-clause-cause
returns-then-seeking-clause-cause g c =
    file_causes (g.F.Sources.contents c.args.sources.now) (g.F.Sources.reasons c.args.sources.now) c.args.file.now _ (g.M.Memory.refused c.look_behind.new.memory) c.look_behind.result c.in-Ok.ensures.opened
    (λ text contents. c.in-Ok-new.ensures.left ∙ c.in-Ok.ensures.left text contents) c.look_behind.ensures.cause

pub returns-clause-tells : goal.returns-clause-tells
returns-clause-tells g c =
    rw c.if-seeking.false (opened false c.args.seeking.telling c.args.seeking.asked (g.T.LookUps.rows c.args.table.now) (g.F.Sources.contents c.args.sources.now c.args.file.now) _ c.args.file.now
    (g.O.Sink.state c.args.out.now) (g.O.Sink.state c.look_left.new.out) c.look_left.result
    (λ text contents. c.in-Ok-new.ensures.left ∙ c.in-Ok.ensures.left text contents) c.look_left.ensures.tells)

pub returns-clause-cause : goal.returns-clause-cause
returns-clause-cause g c =
    file_causes (g.F.Sources.contents c.args.sources.now) (g.F.Sources.reasons c.args.sources.now) c.args.file.now _ (g.M.Memory.refused c.look_left.new.memory) c.look_left.result c.in-Ok.ensures.opened
    (λ text contents. c.in-Ok-new.ensures.left ∙ c.in-Ok.ensures.left text contents) c.look_left.ensures.cause
