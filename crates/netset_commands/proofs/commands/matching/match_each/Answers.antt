use Rattle.std.proofs.Common.{inl, refl, [], ◌∷◌}
use Rattle.std.proofs.lemmas.Result.{err_from_is_err_and}
use Rattle.netset_commands.proofs.Arguments.{bytes_of}
use Rattle.netset_commands.proofs.EachFile.{first_not_read}
use Rattle.netset_commands.proofs.Listed.{no_list}
use Rattle.netset_commands.proofs.MatchedFiles.{matched_each}
use Rattle.netset_commands.specs.Program.{IsUnread}
use Rattle.netset_commands.proofs.commands.matching.match_each.Goals as goal

pub returns-in_err-addresses-clause-answers : goal.returns-in_err-addresses-clause-answers
returns-in_err-addresses-clause-answers g c =
    let (y, is, same) = err_from_is_err_and c.from_residual.result c.from_residual.ensures.1 in
    rw (is, same) (inl (inl (
      refl,
      no_list (IsUnread (g.F.Sources.contents c.args.sources.now) (c.args.list.now ∷ []))
          (g.F.Sources.contents c.args.sources.now c.args.list.now) c.args.list.now _ (λ e h. first_not_read (g.F.Sources.contents c.args.sources.now) c.args.list.now [] e h)
          c.in_err-addresses.ensures.reads,
    )))

pub returns-clause-answers : goal.returns-clause-answers
returns-clause-answers g c =
    matched_each (g.F.Sources.contents c.args.sources.now) c.args.picking c.args.list.now (bytes_of c.args.files.now) c.in_ok-addresses.addresses
    (g.O.Sink.state c.args.out.now) (g.O.Sink.state c.match_files.new.out) c.match_files.result c.in_ok-addresses.ensures.reads c.match_files.ensures.streams
