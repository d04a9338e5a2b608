use Rattle.std.proofs.Common.{sym, map, option_map, ◌∷◌}
use Rattle.std.proofs.lemmas.Result.{err_from_is_err_and}
use Rattle.cidr_lists.specs.Formats.{style_in}
use Rattle.cidr_lists.specs.Sets.{networks_of}
use Rattle.netset_commands.specs.Causes.{FileFails}
use Rattle.netset_commands.proofs.Causes.{argument_cause}
use Rattle.netset_commands.proofs.Combining.{not_in_written, prints_cause}
use Rattle.netset_commands.proofs.commands.inside.not_in.Goals as goal

pub returns-clause-answers : goal.returns-clause-answers
returns-clause-answers g c =
    not_in_written (g.F.Sources.contents c.args.sources.now) (option_map (λ s. style_in s) c.args.style) c.args.net.now (map (λ file. file.now) c.args.files.now) c.in_ok-network.network
    (c.in_ok-several.several.first ∷ c.in_ok-several.several.others.items) c.in_ok-rest.rest c.in_ok-whole.whole c.in_ok-inside.inside
    (g.M.Memory.refused c.write_by.new.memory) (g.O.Sink.state c.args.out.now) (g.O.Sink.state c.write_by.new.out) c.write_by.result c.in_ok-network.ensures c.in_ok-several.ensures.reads
    (rw (sym c.in_ok-rest.ensures.made) at c.combination-rest.ensures) (rw (sym c.in_ok-whole.ensures.made) at c.of_network-whole.ensures) (rw (sym c.in_ok-inside.ensures.made) at c.stepped-inside.ensures) c.write_by.ensures

pub returns-in_err-network-clause-cause : goal.returns-in_err-network-clause-cause
returns-in_err-network-clause-cause g c =
    let (y, is, same) = err_from_is_err_and c.from_residual.result c.from_residual.ensures.1 in
    rw (is, same) (argument_cause (FileFails (g.F.Sources.contents c.args.sources.now) (g.F.Sources.reasons c.args.sources.now)) _ _ c.in_err-network.field-0.0 c.in_err-network.ensures)

pub returns-clause-cause : goal.returns-clause-cause
returns-clause-cause g c =
    prints_cause (FileFails (g.F.Sources.contents c.args.sources.now) (g.F.Sources.reasons c.args.sources.now)) _ (option_map (λ s. style_in s) c.args.style) (networks_of c.in_ok-inside.inside) _ _
    c.write_by.result c.write_by.ensures
