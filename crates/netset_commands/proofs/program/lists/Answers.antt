use Rattle.std.proofs.Common.{sym, map, option_map, ◌∷◌, Some}
use Rattle.std.proofs.lemmas.Result.{err_from_is_err_and}
use Rattle.cidr_lists.specs.Formats.{style_in}
use Rattle.cidr_lists.specs.Sets.{networks_of}
use Rattle.netset_commands.specs.Causes.{FileFails}
use Rattle.netset_commands.specs.declared.errors.CommandError.TheVariants as error
use Rattle.netset_commands.proofs.Causes.{output_cause}
use Rattle.netset_commands.proofs.Combining.{lists_unread, lists_written, prints_cause, styled_told}
use Rattle.netset_commands.proofs.program.lists.Goals as goal

pub returns-in_err-several-clause-answers : goal.returns-in_err-several-clause-answers
returns-in_err-several-clause-answers g c =
    let (y, is, same) = err_from_is_err_and c.from_residual.result c.from_residual.ensures.1 in
    rw (is, same) (lists_unread (g.F.Sources.contents c.args.sources.now) c.args.operation (option_map (λ s. style_in s) c.args.style)
    (map (λ file. file.now) c.args.files.now) _ (g.O.Sink.state c.args.out.now) c.in_err-several.ensures.reads)

pub returns-in_err-sets-clause-answers : goal.returns-in_err-sets-clause-answers
returns-in_err-sets-clause-answers g c =
    let (y, is, same) = err_from_is_err_and c.from_residual-in_err-sets.result c.from_residual-in_err-sets.ensures.1 in
    rw (is, same) (lists_unread (g.F.Sources.contents c.args.sources.now) c.args.operation (option_map (λ s. style_in s) c.args.style)
    (map (λ file. file.now) c.args.files.now) error.NoMemory (g.O.Sink.state c.args.out.now) tt)

pub returns-in-None-clause-answers : goal.returns-in-None-clause-answers
returns-in-None-clause-answers g c =
    rw c.in-None.is (lists_written (g.F.Sources.contents c.args.sources.now) c.args.operation (map (λ file. file.now) c.args.files.now)
    (c.in_ok-several.several.first ∷ c.in_ok-several.several.others.items) c.in_ok-sets.sets (g.O.Sink.state c.args.out.now) (g.O.Sink.state c.write_made.new.out)
    c.write_made.result c.by_output.result c.in_ok-several.ensures.reads (rw (sym c.in_ok-sets.ensures.made) at c.combination-sets.ensures) c.write_made.ensures c.by_output.ensures)

pub returns-clause-answers : goal.returns-clause-answers
returns-clause-answers g c =
    rw c.in-Some.is (styled_told (g.F.Sources.contents c.args.sources.now) (style_in c.in-Some.style) c.args.operation (map (λ file. file.now) c.args.files.now)
    (c.in_ok-several.several.first ∷ c.in_ok-several.several.others.items) c.in_ok-sets.sets (g.M.Memory.refused c.write_by.new.memory)
    (g.O.Sink.state c.args.out.now) (g.O.Sink.state c.write_by.new.out) c.write_by.result c.in_ok-several.ensures.reads
    (rw (sym c.in_ok-sets.ensures.made) at c.combination-sets.ensures) c.write_by.ensures)

pub returns-in-None-clause-cause : goal.returns-in-None-clause-cause
returns-in-None-clause-cause g c = output_cause (FileFails (g.F.Sources.contents c.args.sources.now) (g.F.Sources.reasons c.args.sources.now)) _ _ _ c.by_output.result c.by_output.ensures

pub returns-clause-cause : goal.returns-clause-cause
returns-clause-cause g c =
    prints_cause (FileFails (g.F.Sources.contents c.args.sources.now) (g.F.Sources.reasons c.args.sources.now)) _ (Some (style_in c.in-Some.style)) (networks_of c.in_ok-sets.sets) _ _
    c.write_by.result c.write_by.ensures
