use Rattle.netset_commands.specs.Causes.{FileFails}
use Rattle.netset_commands.specs.declared.commands.describe.Description.TheVariants.{Masks}
use Rattle.netset_commands.proofs.Causes.{output_cause}
use Rattle.netset_commands.proofs.Described.{mask_described, networks_described}
use Rattle.netset_commands.proofs.commands.describe.describe_mask.Goals as goal

pub returns-in-Some-clause-answers : goal.returns-in-Some-clause-answers
returns-in-Some-clause-answers g c =
    mask_described (g.F.Sources.contents c.args.sources.now) c.args.operand.now c.in-Some.len (g.O.Sink.state c.args.out.now)
    (g.O.Sink.state c.write_length.new.out) c.write_length.result c.by_output.result c.in-Some.ensures c.write_length.ensures c.by_output.ensures

pub returns-in-Some-clause-cause : goal.returns-in-Some-clause-cause
returns-in-Some-clause-cause g c = output_cause (FileFails (g.F.Sources.contents c.args.sources.now) (g.F.Sources.reasons c.args.sources.now)) _ _ _ c.by_output.result c.by_output.ensures

pub returns-in-None-clause-answers : goal.returns-in-None-clause-answers
returns-in-None-clause-answers g c =
    networks_described (g.F.Sources.contents c.args.sources.now) Masks c.args.operand.now (g.O.Sink.state c.args.out.now)
    (g.O.Sink.state c.describe_networks.new.out) c.describe_networks.result (c.requires, c.in-None.ensures) c.describe_networks.ensures.describes
