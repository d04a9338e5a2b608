use Rattle.std.proofs.Common.{inl, inr, refl}
use Rattle.netset_commands.specs.declared.errors.CommandError.TheVariants as error
use Rattle.netset_commands.proofs.Causes.{file_causes, not_opened}
use Rattle.netset_commands.proofs.commands.matching.match_file.Goals as goal

pub returns-in-Err-clause-streams : goal.returns-in-Err-clause-streams
returns-in-Err-clause-streams g c = inl (refl, error.Input c.args.file c.in-Err.why, refl, refl)

pub returns-in_default-clause-streams : goal.returns-in_default-clause-streams
returns-in_default-clause-streams g c = inl (refl, error.NoMemory, refl, tt)

pub returns-clause-streams : goal.returns-clause-streams
returns-clause-streams g c = inr (_, c.in-Ok.ensures.left, rw c.in-Ok-new.ensures.left at c.stream.ensures.streams)

pub returns-in-Err-clause-cause : goal.returns-in-Err-clause-cause
returns-in-Err-clause-cause g c = not_opened (g.F.Sources.contents c.args.sources.now) (g.F.Sources.reasons c.args.sources.now) c.args.file.now c.in-Err.why c.in-Err.ensures.none c.in-Err.ensures.why

pub returns-clause-cause : goal.returns-clause-cause
returns-clause-cause g c =
    file_causes (g.F.Sources.contents c.args.sources.now) (g.F.Sources.reasons c.args.sources.now) c.args.file.now _ (g.M.Memory.refused c.stream.new.memory) c.stream.result c.in-Ok.ensures.opened c.in-Ok.ensures.left
    (rw c.in-Ok-new.ensures.left at c.stream.ensures.cause)
