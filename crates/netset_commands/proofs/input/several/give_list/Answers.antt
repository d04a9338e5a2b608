use Rattle.std.proofs.Common.{sym, Ok}
use Rattle.std.proofs.lemmas.Result.{err_from_is_err_and}
use Rattle.netset_commands.proofs.EachFile.{file_set, list_read, networks_copied}
use Rattle.netset_commands.proofs.Stored.{bytes_copied}
use Rattle.netset_commands.proofs.input.several.give_list.Goals as goal

pub returns-in-Some-Lines-Networks-clause-gives : goal.returns-in-Some-Lines-Networks-clause-gives
returns-in-Some-Lines-Networks-clause-gives g c =
    file_set (g.F.Sources.contents c.args.sources.now c.args.file.now) c.args.file.now c.new-lists.result c.extend-added.new.self c.of_lists.result
    c.new-lists.ensures.v4 c.new-lists.ensures.v6
    (networks_copied (g.F.Sources.contents c.args.sources.now c.args.file.now) c.args.file.now c.new-lists.result c.extend-added.new.self c.in-Some-Lines-Networks.kept
    (rw (c.in-Some-Lines-Networks.field-0-is, c.in-Some-Lines-Networks.field-0-0-is) at c.in-Some-Lines-Networks.ensures) (rw (sym c.in_ok-watch-in-Some-Lines-Networks.ensures.made) at c.extend-added.ensures)) c.of_lists.ensures

pub returns-in_err-watch-in-Some-Lines-Networks-clause-cause : goal.returns-in_err-watch-in-Some-Lines-Networks-clause-cause
returns-in_err-watch-in-Some-Lines-Networks-clause-cause g c =
    let (y, is, same) = err_from_is_err_and c.from_residual.result c.from_residual.ensures.1 in
    rw (is, same) c.in_err-watch-in-Some-Lines-Networks.ensures.refused

pub returns-in-Some-Stored-clause-gives : goal.returns-in-Some-Stored-clause-gives
returns-in-Some-Stored-clause-gives g c =
    bytes_copied (g.F.Sources.contents c.args.sources.now c.args.file.now) c.in-Some-Stored.kept.items c.in_ok-bytes-in-Some-Stored.bytes.items
    (rw c.in-Some-Stored.field-0-is at c.in-Some-Stored.ensures) (rw (sym c.in_ok-bytes-in-Some-Stored.ensures.made) at c.clone-bytes.ensures).cases.0

pub returns-in_err-bytes-in-Some-Stored-clause-cause : goal.returns-in_err-bytes-in-Some-Stored-clause-cause
returns-in_err-bytes-in-Some-Stored-clause-cause g c =
    let (y, is, same) = err_from_is_err_and c.from_residual-in_err-bytes-in-Some-Stored.result c.from_residual-in_err-bytes-in-Some-Stored.ensures.1 in
    rw (is, same) c.in_err-bytes-in-Some-Stored.ensures.refused

pub returns-in-Lines-clause-gives : goal.returns-in-Lines-clause-gives
returns-in-Lines-clause-gives g c =
    file_set (g.F.Sources.contents c.args.sources.now c.args.file.now) c.args.file.now c.new-read.result c.read_given.new.said c.of_lists-sets.result
    c.new-read.ensures.v4 c.new-read.ensures.v6
    (list_read (g.F.Sources.contents c.args.sources.now c.args.file.now) c.args.file.now c.new-read.result c.read_given.new.said (Ok tt)
    (rw c.in-Lines.is at c.in_ok-given-in_default.ensures.gives)) c.of_lists-sets.ensures
