use Rattle.std.proofs.Common.{inl, refl, [], ◌∷◌}
use Rattle.std.proofs.lemmas.Result.{err_from_is_err_and}
use Rattle.netset_commands.proofs.EachFile.{first_not_read}
use Rattle.netset_commands.proofs.Listed.{no_list}
use Rattle.netset_commands.proofs.Matched.{matched_file}
use Rattle.netset_commands.specs.Program.{IsUnread}
use Rattle.netset_commands.proofs.commands.matching.matching.Goals as goal

pub returns-in_err-sets-clause-answers : goal.returns-in_err-sets-clause-answers
returns-in_err-sets-clause-answers g c =
    let (y, is, same) = err_from_is_err_and c.from_residual.result c.from_residual.ensures.1 in
    rw (is, same) (inl (inl (
      refl,
      inl (no_list (IsUnread (g.F.Sources.contents c.args.sources.now) (c.args.list.now ∷ []))
          (g.F.Sources.contents c.args.sources.now c.args.list.now) c.args.list.now _ (λ e h. first_not_read (g.F.Sources.contents c.args.sources.now) c.args.list.now [] e h)
          c.in_err-sets.ensures.reads),
    )))

pub returns-clause-answers : goal.returns-clause-answers
returns-clause-answers g c =
    matched_file (g.F.Sources.contents c.args.sources.now) c.args.picking c.args.list.now c.args.file.now c.in_ok-sets.sets
    (g.O.Sink.state c.args.out.now) (g.O.Sink.state c.match_file.new.out) c.match_file.result c.in_ok-sets.ensures.reads c.match_file.ensures.streams
