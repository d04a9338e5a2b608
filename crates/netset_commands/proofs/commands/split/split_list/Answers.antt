use Rattle.std.proofs.Common.{inl, refl, None, option_map}
use Rattle.std.proofs.lemmas.Result.{err_from_is_err_and}
use Rattle.cidr_lists.specs.Formats.{style_in}
use Rattle.cidr_lists.specs.Sets.{networks_of}
use Rattle.netset_commands.specs.Causes.{FileFails}
use Rattle.netset_commands.proofs.Pools.{free_cause, list_split}
use Rattle.netset_commands.proofs.commands.split.split_list.Goals as goal

pub returns-clause-splits : goal.returns-clause-splits
returns-clause-splits g c =
    list_split (g.F.Sources.contents c.args.sources.now) (option_map (λ s. style_in s) c.args.style) c.args.file.now c.args.len c.in_ok-sets.sets (g.O.Sink.state c.args.out.now)
    (g.O.Sink.state c.tell_free.new.out) c.tell_free.result c.in_ok-sets.ensures.reads c.tell_free.ensures

pub returns-clause-cause : goal.returns-clause-cause
returns-clause-cause g c =
    free_cause (FileFails (g.F.Sources.contents c.args.sources.now) (g.F.Sources.reasons c.args.sources.now)) _ (option_map (λ s. style_in s) c.args.style) (networks_of c.in_ok-sets.sets) c.args.len None _ _ c.tell_free.result c.tell_free.ensures

pub returns-in_err-sets-clause-splits : goal.returns-in_err-sets-clause-splits
returns-in_err-sets-clause-splits g c =
    let (y, is, same) = err_from_is_err_and c.from_residual.result c.from_residual.ensures.1 in
    rw (is, same) (inl (refl, _, refl, c.in_err-sets.ensures.reads))
