use Rattle.std.proofs.Common.{[], ◌∷◌, inl, refl}
use Rattle.std.proofs.lemmas.Result.{err_from_is_err_and}
use Rattle.netset_commands.specs.Causes.{FileFails}
use Rattle.netset_commands.proofs.AccessLists.{compared_told, first_unread, second_unread}
use Rattle.netset_commands.proofs.Changed.{changes_cause}
use Rattle.netset_commands.proofs.commands.acl.compared.Goals as goal

pub returns-in_err-before-clause-answers : goal.returns-in_err-before-clause-answers
returns-in_err-before-clause-answers g c =
    let (y, is, same) = err_from_is_err_and c.from_residual.result c.from_residual.ensures.1 in
    rw (is, same) (inl (refl, first_unread (g.F.Sources.contents c.args.sources.now) c.args.old.now (c.args.new.now ∷ []) _ c.in_err-before.ensures.reads))

pub returns-in_err-after-clause-answers : goal.returns-in_err-after-clause-answers
returns-in_err-after-clause-answers g c =
    let (y, is, same) = err_from_is_err_and c.from_residual-in_err-after.result c.from_residual-in_err-after.ensures.1 in
    rw (is, same) (inl (
      refl,
      second_unread (g.F.Sources.contents c.args.sources.now) c.args.old.now c.args.new.now c.in_ok-before.before _ c.in_ok-before.ensures.reads
          c.in_err-after.ensures.reads,
    ))

pub returns-clause-answers : goal.returns-clause-answers
returns-clause-answers g c =
    compared_told (g.F.Sources.contents c.args.sources.now) c.args.format c.args.old.now c.args.new.now c.in_ok-before.before c.in_ok-after.after
    (g.M.Memory.refused c.tell_changes.new.memory) (g.O.Sink.state c.args.out.now) (g.O.Sink.state c.tell_changes.new.out) c.tell_changes.result
    c.in_ok-before.ensures.reads c.in_ok-after.ensures.reads c.tell_changes.ensures

pub returns-clause-cause : goal.returns-clause-cause
returns-clause-cause g c =
    changes_cause (FileFails (g.F.Sources.contents c.args.sources.now) (g.F.Sources.reasons c.args.sources.now)) _ c.args.format c.in_ok-before.before c.in_ok-after.after _ _
    c.tell_changes.result c.tell_changes.ensures
