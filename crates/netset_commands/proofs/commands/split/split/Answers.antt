use Rattle.std.proofs.Common.{option_map}
use Rattle.cidr_lists.specs.Formats.{style_in}
use Rattle.netset_commands.specs.Causes.{FileFails}
use Rattle.netset_commands.proofs.Pools.{network_cause, split_in_list, split_in_network}
use Rattle.netset_commands.proofs.commands.split.split.Goals as goal

pub returns-in-Ok-clause-answers : goal.returns-in-Ok-clause-answers
returns-in-Ok-clause-answers g c =
    split_in_network (g.F.Sources.contents c.args.sources.now) (option_map (λ s. style_in s) c.args.style) c.args.operand.now c.args.word.now c.args.len c.in-Ok.network (g.O.Sink.state c.args.out.now)
    (g.O.Sink.state c.split_network.new.out) c.split_network.result c.in-Ok.ensures.value c.split_network.ensures

pub returns-in-Ok-clause-cause : goal.returns-in-Ok-clause-cause
returns-in-Ok-clause-cause g c =
    network_cause (FileFails (g.F.Sources.contents c.args.sources.now) (g.F.Sources.reasons c.args.sources.now)) _ (option_map (λ s. style_in s) c.args.style) c.in-Ok.network c.args.word.now c.args.len _ _ c.split_network.result c.split_network.ensures

pub returns-in-Err-clause-answers : goal.returns-in-Err-clause-answers
returns-in-Err-clause-answers g c =
    split_in_list (g.F.Sources.contents c.args.sources.now) (option_map (λ s. style_in s) c.args.style) c.args.operand.now c.args.word.now c.args.len (g.O.Sink.state c.args.out.now)
    (g.O.Sink.state c.split_list.new.out) c.split_list.result c.in-Err.ensures.value.1 c.split_list.ensures.splits
