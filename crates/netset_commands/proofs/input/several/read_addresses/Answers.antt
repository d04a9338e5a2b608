use Rattle.std.proofs.Common.{sym, subst}
use Rattle.std.proofs.lemmas.Result.{err_from_is_err_and}
use Rattle.netset_commands.specs.Answering.{IsFileError}
use Rattle.netset_commands.specs.Stored.{AreFileBytes, by_family}
use Rattle.netset_commands.proofs.Given.{no_file}
use Rattle.netset_commands.proofs.Listed.{are_addresses}
use Rattle.netset_commands.proofs.input.several.read_addresses.Goals as goal

pub returns-in_err-stored-in-Stored-clause-reads : goal.returns-in_err-stored-in-Stored-clause-reads
returns-in_err-stored-in-Stored-clause-reads g c =
    let (y, is, same) = err_from_is_err_and c.from_residual-in_err-stored-in-Stored.result c.from_residual-in_err-stored-in-Stored.ensures.1 in
    rw (is, same) (no_file (IsFileError (g.F.Sources.contents c.args.sources.now c.args.file.now) c.args.file.now)
    (g.F.Sources.contents c.args.sources.now c.args.file.now) c.args.file.now c.as_slice.result.now _ tt
    (subst (AreFileBytes (g.F.Sources.contents c.args.sources.now c.args.file.now)) (sym c.as_slice.ensures.value) (rw c.in-Stored.is at c.in_ok-sets.ensures.gives))
    c.in_err-stored-in-Stored.ensures.checks)

pub returns-in_ok-sets-in-Stored-clause-reads : goal.returns-in_ok-sets-in-Stored-clause-reads
returns-in_ok-sets-in-Stored-clause-reads g c =
    are_addresses (g.F.Sources.contents c.args.sources.now c.args.file.now) c.in-Stored.bytes.items (by_family c.in_ok-stored-in-Stored.stored)
    c.in_ok-sets-in-Stored.sets (rw c.in-Stored.is at c.in_ok-sets.ensures.gives)
    (rw c.as_slice.ensures.value at c.in_ok-stored-in-Stored.ensures.checks) (rw (sym c.in_ok-sets-in-Stored.ensures.made) at c.addresses-sets.ensures)
