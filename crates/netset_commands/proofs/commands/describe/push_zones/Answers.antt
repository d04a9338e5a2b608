use Rattle.std.proofs.Common.{refl}
use Rattle.std.proofs.lemmas.Result.{err_from_is_err_and}
use Rattle.cidr_lists.specs.Printing.{line}
use Rattle.netset_commands.proofs.Described.{zone_names, zones_are}
use Rattle.netset_commands.proofs.Lined.{all_lined, lined_lost, lined_on, none_lined}
use Rattle.netset_commands.proofs.commands.describe.push_zones.Goals as goal

pub loop-name-init : goal.loop-name-init
loop-name-init g c =
    let (len, is, are) = c.reverse_zones-zones.ensures in
    rw (zones_are c.args.network.now len c.reverse_zones-zones.result is are)
    (none_lined line c.reverse_zones-zones.result (g.S.Sink.state c.args.out.now) c.args.block.now)

pub loop-name-preserved : goal.loop-name-preserved
loop-name-preserved g c =
    lined_on line (zone_names c.args.network.now) c.loop-name.zones c.next.new.self (g.S.Sink.state c.args.out.now)
    (g.S.Sink.state c.loop-name.out) (g.S.Sink.state c.push_line.new.out) c.args.block.now c.loop-name.block c.push_line.new.self _ _ c.in-Some.ensures.steps
    refl c.loop-name.invariant (rw (c.as_bytes.ensures.value, c.as_str.ensures.value) at c.in_ok-push_line.ensures)

pub returns-in_err-push_line : goal.returns-in_err-push_line
returns-in_err-push_line g c =
    let (y, is, same) = err_from_is_err_and c.from_residual.result c.from_residual.ensures.1 in
    rw is (lined_lost line (zone_names c.args.network.now) c.loop-name.zones c.next.new.self (g.S.Sink.state c.args.out.now)
    (g.S.Sink.state c.loop-name.out) (g.S.Sink.state c.push_line.new.out) c.args.block.now c.loop-name.block c.push_line.new.self _ _ y c.in-Some.ensures.steps
    refl c.loop-name.invariant (rw (c.as_bytes.ensures.value, c.as_str.ensures.value) at c.in_err-push_line.ensures))

pub returns : goal.returns
returns g c =
    all_lined line (zone_names c.args.network.now) c.loop-name.zones (g.S.Sink.state c.args.out.now) (g.S.Sink.state c.loop-name.out)
    c.args.block.now c.loop-name.block c.in_default.ensures.steps.0 c.loop-name.invariant
