use Rattle.netset_commands.specs.Causes.{FileFails}
use Rattle.netset_commands.proofs.Operands.{operand_cause, unlisted}
use Rattle.netset_commands.proofs.input.operands.read_listed.Goals as goal

pub returns-in-Ok-clause-reads : goal.returns-in-Ok-clause-reads
returns-in-Ok-clause-reads g c = c.in-Ok.ensures.reads

pub returns-in-Err-clause-reads : goal.returns-in-Err-clause-reads
returns-in-Err-clause-reads g c =
    rw c.operand_error.ensures (unlisted (g.F.Sources.contents c.args.sources.now) (g.F.Sources.reasons c.args.sources.now) c.args.operand (g.M.Memory.refused c.read_file.new.memory) c.in-Err.e
    c.in-Err.ensures.reads c.in-Err.ensures.cause)

pub returns-in-Err-clause-cause : goal.returns-in-Err-clause-cause
returns-in-Err-clause-cause g c =
    rw c.operand_error.ensures (operand_cause (FileFails (g.F.Sources.contents c.args.sources.now) (g.F.Sources.reasons c.args.sources.now)) c.args.operand (g.M.Memory.refused c.read_file.new.memory) c.in-Err.e
    c.in-Err.ensures.cause)
