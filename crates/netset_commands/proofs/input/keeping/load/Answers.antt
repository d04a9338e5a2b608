use Rattle.std.proofs.Common.{◌+◌}
use Rattle.std.proofs.lemmas.Result.{err_from_is_err_and}
use Rattle.netset_commands.proofs.Loading.{all_loaded, file_loaded, file_unread, none_loaded, not_kept}
use Rattle.netset_commands.proofs.input.keeping.load.Goals as goal

pub loop-name-init : goal.loop-name-init
loop-name-init g c =
    none_loaded c.args.takes_file c.args.skips (g.F.Sources.contents c.args.sources.now) c.args.kind (g.E.Sink.state c.args.err.now) c.new-lists.result.items c.new-lists.ensures.items

pub returns-in_err-list-clause-loads : goal.returns-in_err-list-clause-loads
returns-in_err-list-clause-loads g c =
    let (y, is, same) = err_from_is_err_and c.from_residual.result c.from_residual.ensures.1 in
    rw (is, same) (file_unread c.args.takes_file c.args.skips (g.F.Sources.contents c.args.sources.now) c.args.kind c.args.names.now c.loop-name.name-index _ (g.E.Sink.state c.args.err.now)
    (g.E.Sink.state c.loop-name.err) c.loop-name.lists.items c.loop-name.found c.loop-name-test.true c.loop-name.invariant (g.E.Sink.state c.keep_list.new.err) _
    c.in_err-list.ensures.keeps)

pub returns-clause-loads : goal.returns-clause-loads
returns-clause-loads g c =
    all_loaded c.args.takes_file c.args.skips (g.F.Sources.contents c.args.sources.now) c.args.kind c.args.names.now c.loop-name.name-index (g.E.Sink.state c.args.err.now)
    (g.E.Sink.state c.loop-name.err) c.loop-name.lists.items c.loop-name.found c.loop-name-test.false c.loop-name.invariant

pub loop-name-preserved : goal.loop-name-preserved
loop-name-preserved g c =
    rw c.in_ok-push.ensures.pushed (file_loaded c.args.takes_file c.args.skips (g.F.Sources.contents c.args.sources.now) c.args.kind c.args.names.now c.loop-name.name-index _ (g.E.Sink.state c.args.err.now)
    (g.E.Sink.state c.loop-name.err) c.loop-name.lists.items c.loop-name.found c.loop-name-test.true c.loop-name.invariant (g.E.Sink.state c.keep_list.new.err)
    c.in_ok-list.is_bad c.in_ok-list.list c.in_ok-list.ensures.keeps)

pub returns-in_err-push-clause-loads : goal.returns-in_err-push-clause-loads
returns-in_err-push-clause-loads g c =
    let (y, is, same) = err_from_is_err_and c.from_residual-in_err-push.result c.from_residual-in_err-push.ensures.1 in
    rw (is, same) (not_kept c.args.takes_file c.args.skips (g.F.Sources.contents c.args.sources.now) c.args.kind c.args.names.now (c.loop-name.name-index + 1) (g.E.Sink.state c.args.err.now)
    (g.E.Sink.state c.keep_list.new.err) _ _
    (file_loaded c.args.takes_file c.args.skips (g.F.Sources.contents c.args.sources.now) c.args.kind c.args.names.now c.loop-name.name-index _ (g.E.Sink.state c.args.err.now)
    (g.E.Sink.state c.loop-name.err) c.loop-name.lists.items c.loop-name.found c.loop-name-test.true c.loop-name.invariant (g.E.Sink.state c.keep_list.new.err)
    c.in_ok-list.is_bad c.in_ok-list.list c.in_ok-list.ensures.keeps))
