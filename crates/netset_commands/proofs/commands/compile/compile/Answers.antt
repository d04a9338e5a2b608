use Rattle.std.proofs.Common.{inl, inr, refl, sym}
use Rattle.std.proofs.lemmas.Result.{err_from_is_err_and}
use Rattle.netset_commands.specs.Rows.{kept}
use Rattle.netset_commands.specs.Causes.{FileFails}
use Rattle.netset_commands.proofs.Causes.{same_cause, uncompiled}
use Rattle.netset_commands.proofs.commands.compile.compile.Goals as goal

pub returns-in-Ok-clause-leaves : goal.returns-in-Ok-clause-leaves
returns-in-Ok-clause-leaves g c = (
  c.in-Some-file.bytes.items,
  rw c.as_slice.ensures.value at c.in-Ok.ensures.saves.0,
  c.in-Ok.ensures.saves.1,
  λ text is. (
    kept c.in_ok-rows.rows,
    c.in_ok-rows.ensures.reads text is,
    rw (sym c.in_ok-file.ensures.made, c.in-Some-file.is) at c.compiled-file.ensures.file,
  ),
)

pub returns-in_default-file-clause-compiled : goal.returns-in_default-file-clause-compiled
returns-in_default-file-clause-compiled g c = inr (
  c.in_default.ensures,
  inr (
    refl,
    λ text is. (
      kept c.in_ok-rows.rows,
      c.in_ok-rows.ensures.reads text is,
      rw (sym c.in_ok-file.ensures.made, c.in_default-file.is) at c.compiled-file.ensures.large,
    ),
  ),
)

pub returns-in-Some-clause-cause : goal.returns-in-Some-clause-cause
returns-in-Some-clause-cause g c =
    uncompiled (g.F.Sources.contents c.args.sources.now)
    (record { memory = g.M.Memory.refused c.args.memory.now; folder = g.D.Folder.refused c.args.folder.now; files = g.F.Sources.reasons c.args.sources.now }) c.args.form c.args.table.now c.args.name.now c.in-Some.e
    (inl c.in-Some.ensures)
    (same_cause (FileFails (g.F.Sources.contents c.args.sources.now) (g.F.Sources.reasons c.args.sources.now)) (g.M.Memory.refused c.args.memory.now) c.args.table.now c.args.name.now c.in-Some.e c.in-Some.ensures)

pub returns-in_err-rows-clause-cause : goal.returns-in_err-rows-clause-cause
returns-in_err-rows-clause-cause g c =
    let (y, is, same) = err_from_is_err_and c.from_residual.result c.from_residual.ensures.1 in
    rw (is, same) (uncompiled (g.F.Sources.contents c.args.sources.now)
    (record { memory = g.M.Memory.refused c.read_table.new.memory; folder = g.D.Folder.refused c.args.folder.now; files = g.F.Sources.reasons c.args.sources.now }) c.args.form c.args.table.now c.args.name.now _
    (inr c.in_err-rows.ensures.reads) c.in_err-rows.ensures.cause)

pub returns-clause-cause : goal.returns-clause-cause
returns-clause-cause g c = inr c.in-Err.ensures.refused

pub returns-clause-leaves : goal.returns-clause-leaves
returns-clause-leaves g c = c.in-Err.ensures.saves.0
