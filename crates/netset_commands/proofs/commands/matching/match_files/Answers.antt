use Rattle.std.proofs.Common.{◌+◌, refl, sym}
use Rattle.std.proofs.lemmas.Result.{err_from_is_err_and}
use Rattle.cidr_lists.specs.Sets.{IsInSets}
use Rattle.netset_commands.specs.Picking.{PicksOf}
use Rattle.netset_commands.proofs.Arguments.{bytes_of}
use Rattle.netset_commands.proofs.MatchedFiles.{enough_streamed, failed_before, file_failed, file_streamed, files_streamed, none_streamed, not_yet}
use Rattle.netset_commands.proofs.commands.matching.match_files.Goals as goal

pub returns-then-failed-clause-streams : goal.returns-then-failed-clause-streams
returns-then-failed-clause-streams g c =
    failed_before (g.F.Sources.contents c.args.sources.now) c.args.matcher.now.picking.headed (PicksOf c.args.matcher.now.picking (IsInSets c.args.matcher.now.sets.now))
    c.args.matcher.now.picking.written (bytes_of c.args.files.now) (g.O.Sink.state c.args.out.now) (sym c.if-failed.ensures)

pub loop-file-init : goal.loop-file-init
loop-file-init g c = (
  none_streamed (g.F.Sources.contents c.args.sources.now) c.args.matcher.now.picking.headed (PicksOf c.args.matcher.now.picking (IsInSets c.args.matcher.now.sets.now))
      c.args.matcher.now.picking.written (g.O.Sink.state c.args.out.now),
  λ e. refl,
)

pub loop-file-preserved : goal.loop-file-preserved
loop-file-preserved g c = (
  rw c.either-verdict.ensures (file_streamed (g.F.Sources.contents c.args.sources.now) c.args.matcher.now.picking.headed (PicksOf c.args.matcher.now.picking (IsInSets c.args.matcher.now.sets.now))
      c.args.matcher.now.picking.written c.args.files.now c.loop-file.file-index _ (g.O.Sink.state c.args.out.now) (g.O.Sink.state c.loop-file.out) (g.O.Sink.state c.match_file.new.out)
      c.loop-file.verdict c.loop-file-test.true c.loop-file.invariant.0 c.in_ok-one.one c.in_ok-one.ensures.streams),
  not_yet (g.F.Sources.contents c.args.sources.now) c.args.matcher.now.picking.headed (PicksOf c.args.matcher.now.picking (IsInSets c.args.matcher.now.sets.now))
      c.args.matcher.now.picking.written c.needs_no_more.result c.either-verdict.result c.needs_no_more.ensures c.if-needs_no_more.false,
)

pub returns-then-needs_no_more-clause-streams : goal.returns-then-needs_no_more-clause-streams
returns-then-needs_no_more-clause-streams g c =
    let P = PicksOf c.args.matcher.now.picking (IsInSets c.args.matcher.now.sets.now) in
    enough_streamed (g.F.Sources.contents c.args.sources.now) c.args.matcher.now.picking.headed P c.args.matcher.now.picking.written (bytes_of c.args.files.now) (c.loop-file.file-index + 1)
    (g.O.Sink.state c.args.out.now) (g.O.Sink.state c.match_file.new.out) c.either-verdict.result (sym c.if-failed.ensures)
    (rw c.either-verdict.ensures (file_streamed (g.F.Sources.contents c.args.sources.now) c.args.matcher.now.picking.headed P
    c.args.matcher.now.picking.written c.args.files.now c.loop-file.file-index _ (g.O.Sink.state c.args.out.now) (g.O.Sink.state c.loop-file.out) (g.O.Sink.state c.match_file.new.out)
    c.loop-file.verdict c.loop-file-test.true c.loop-file.invariant.0 c.in_ok-one.one c.in_ok-one.ensures.streams))
    (c.needs_no_more.ensures.0 c.if-needs_no_more.true)

pub returns-in_err-one-clause-streams : goal.returns-in_err-one-clause-streams
returns-in_err-one-clause-streams g c =
    let (y, is, same) = err_from_is_err_and c.from_residual.result c.from_residual.ensures.1 in
    rw (is, same) (file_failed (g.F.Sources.contents c.args.sources.now) c.args.matcher.now.picking.headed (PicksOf c.args.matcher.now.picking (IsInSets c.args.matcher.now.sets.now))
    c.args.matcher.now.picking.written c.args.files.now c.loop-file.file-index _ (g.O.Sink.state c.args.out.now) (g.O.Sink.state c.loop-file.out) (g.O.Sink.state c.match_file.new.out)
    c.loop-file.verdict c.loop-file-test.true c.loop-file.invariant.0 _ (sym c.if-failed.ensures) c.loop-file.invariant.1 c.in_err-one.ensures.streams)

pub returns-clause-streams : goal.returns-clause-streams
returns-clause-streams g c =
    files_streamed (g.F.Sources.contents c.args.sources.now) c.args.matcher.now.picking.headed (PicksOf c.args.matcher.now.picking (IsInSets c.args.matcher.now.sets.now))
    c.args.matcher.now.picking.written c.args.files.now c.loop-file.file-index (g.O.Sink.state c.args.out.now) (g.O.Sink.state c.loop-file.out) c.loop-file.verdict
    c.loop-file-test.false (sym c.if-failed.ensures) c.loop-file.invariant.0
