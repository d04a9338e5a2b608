use Rattle.std.proofs.Common.{[], inl, refl, option_map}
use Rattle.std.proofs.lemmas.Result.{err_from_is_err_and}
use Rattle.cidr_lists.specs.Formats.{style_in}
use Rattle.cidr_lists.specs.Sets.{networks_of}
use Rattle.netset_commands.specs.Causes.{FileFails}
use Rattle.netset_commands.proofs.AccessLists.{first_unread, permitted_told}
use Rattle.netset_commands.proofs.Combining.{prints_cause}
use Rattle.netset_commands.proofs.commands.acl.permitted.Goals as goal

pub returns-in_err-sets-clause-answers : goal.returns-in_err-sets-clause-answers
returns-in_err-sets-clause-answers g c =
    let (y, is, same) = err_from_is_err_and c.from_residual.result c.from_residual.ensures.1 in
    rw (is, same) (inl (refl, first_unread (g.F.Sources.contents c.args.sources.now) c.args.file.now [] _ c.in_err-sets.ensures.reads))

pub returns-clause-answers : goal.returns-clause-answers
returns-clause-answers g c =
    permitted_told (g.F.Sources.contents c.args.sources.now) (option_map (λ s. style_in s) c.args.style) c.args.file.now c.in_ok-sets.sets
    (g.M.Memory.refused c.write_by.new.memory) (g.O.Sink.state c.args.out.now) (g.O.Sink.state c.write_by.new.out) c.write_by.result c.in_ok-sets.ensures.reads
    c.write_by.ensures

pub returns-clause-cause : goal.returns-clause-cause
returns-clause-cause g c =
    prints_cause (FileFails (g.F.Sources.contents c.args.sources.now) (g.F.Sources.reasons c.args.sources.now)) _ (option_map (λ s. style_in s) c.args.style) (networks_of c.in_ok-sets.sets) _ _
    c.write_by.result c.write_by.ensures
