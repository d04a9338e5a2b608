use Rattle.std.proofs.Common.{[], refl}
use Rattle.std.proofs.lemmas.Result.{err_from_is_err_and}
use Rattle.netset_commands.proofs.Arguments.{bytes_of}
use Rattle.netset_commands.proofs.EntriesRead.{file_behind, file_fault, no_entries, other_added, other_failed, all_files_at}
use Rattle.netset_commands.proofs.input.entries.read_named.Goals as goal

pub loop-other-init : goal.loop-other-init
loop-other-init g c =
    file_behind (g.F.Sources.contents c.args.sources.now) [] c.args.file.now [] c.add_file.new.entries.items (no_entries (g.F.Sources.contents c.args.sources.now))
    (rw c.new-entries.ensures.items at c.in_ok-add_file.ensures.adds)

pub returns-in_err-add_file-clause-reads : goal.returns-in_err-add_file-clause-reads
returns-in_err-add_file-clause-reads g c =
    let (y, is, same) = err_from_is_err_and c.from_residual.result c.from_residual.ensures.1 in
    rw (is, same) (file_fault (g.F.Sources.contents c.args.sources.now) _ [] (bytes_of c.args.files.now) c.args.file.now [] _ refl
    (no_entries (g.F.Sources.contents c.args.sources.now)) c.in_err-add_file.ensures.adds)

pub loop-other-preserved : goal.loop-other-preserved
loop-other-preserved g c =
    other_added (g.F.Sources.contents c.args.sources.now) c.args.file.now c.args.files.now c.loop-other.other-index _ c.loop-other.entries.items
    c.loop-other-test.true c.loop-other.invariant c.add_file-in-loop-other.new.entries.items c.in_ok-add_file-2.ensures.adds

pub returns-in_err-add_file-2-clause-reads : goal.returns-in_err-add_file-2-clause-reads
returns-in_err-add_file-2-clause-reads g c =
    let (y, is, same) = err_from_is_err_and c.from_residual-in_err-add_file-2.result c.from_residual-in_err-add_file-2.ensures.1 in
    rw (is, same) (other_failed (g.F.Sources.contents c.args.sources.now) c.args.file.now c.args.files.now c.loop-other.other-index _ c.loop-other.entries.items
    c.loop-other-test.true c.loop-other.invariant c.add_file-in-loop-other.new.entries.items _ c.in_err-add_file-2.ensures.adds)

pub returns-clause-reads : goal.returns-clause-reads
returns-clause-reads g c =
    all_files_at (g.F.Sources.contents c.args.sources.now) c.args.file.now c.args.files.now c.loop-other.other-index c.loop-other.entries.items
    c.loop-other-test.false c.loop-other.invariant
