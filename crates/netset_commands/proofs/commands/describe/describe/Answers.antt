use Rattle.netset_commands.specs.Causes.{FileFails}
use Rattle.netset_commands.specs.declared.commands.describe.Description.TheVariants.{Zones}
use Rattle.netset_commands.proofs.Causes.{output_cause}
use Rattle.netset_commands.proofs.Described.{length_described, networks_described}
use Rattle.netset_commands.proofs.commands.describe.describe.Goals as goal

pub returns-in-Zones-clause-answers : goal.returns-in-Zones-clause-answers
returns-in-Zones-clause-answers g c =
    rw c.in-Zones.is (networks_described (g.F.Sources.contents c.args.sources.now) Zones c.args.operand.now (g.O.Sink.state c.args.out.now)
    (g.O.Sink.state c.describe_networks.new.out) c.describe_networks.result tt (rw c.in-Zones.is at c.describe_networks.ensures.describes))

pub returns-in-Some-clause-answers : goal.returns-in-Some-clause-answers
returns-in-Some-clause-answers g c =
    rw c.in-Masks.is (length_described (g.F.Sources.contents c.args.sources.now) c.args.operand.now c.in-Some.len (g.O.Sink.state c.args.out.now)
    (g.O.Sink.state c.write_text.new.out) c.write_text.result c.by_output.result c.in-Some.ensures (rw (c.as_str.ensures.value, c.length_lines.ensures) at c.write_text.ensures) c.by_output.ensures)

pub returns-in-Some-clause-cause : goal.returns-in-Some-clause-cause
returns-in-Some-clause-cause g c = output_cause (FileFails (g.F.Sources.contents c.args.sources.now) (g.F.Sources.reasons c.args.sources.now)) _ _ _ c.by_output.result c.by_output.ensures

pub returns-in-None-clause-answers : goal.returns-in-None-clause-answers
returns-in-None-clause-answers g c = rw c.in-Masks.is c.describe_mask.ensures.answers
