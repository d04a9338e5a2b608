use Rattle.std.proofs.lemmas.Result.{err_from_is_err_and}
use Rattle.netset_commands.specs.Describing.{told_of}
use Rattle.netset_commands.specs.Networks.{ip_of}
use Rattle.netset_commands.proofs.Families.{ip_is}
use Rattle.netset_commands.proofs.WrittenLines.{walk_started, walked_at, walk_lost_at, walk_ended_at}
use Rattle.netset_commands.proofs.commands.describe.write_each.Goals as goal

pub loop-network-init : goal.loop-network-init
loop-network-init g c =
    walk_started (λ network. told_of c.args.what (ip_of g.C.FamilyCidr.FAMILY (g.C.BitString.bits network))) c.args.networks.now (g.S.Sink.state c.args.out.now) c.new-block.result c.new-block.ensures

pub loop-network-preserved : goal.loop-network-preserved
loop-network-preserved g c =
    walked_at (λ network. told_of c.args.what (ip_of g.C.FamilyCidr.FAMILY (g.C.BitString.bits network))) c.args.networks.now c.loop-network.network-index (g.S.Sink.state c.args.out.now)
    (g.S.Sink.state c.loop-network.out) (g.S.Sink.state c.push_told.new.out) c.loop-network.block c.push_told.new.block c.network-item.result
    c.loop-network-test.true c.network-item.is c.loop-network.invariant (rw (ip_is c.to_ip.result g.C.FamilyCidr.FAMILY (g.C.BitString.bits c.network-item.result) c.to_ip.ensures.family c.to_ip.ensures.prefix) at c.in_ok-push_told.ensures)

pub returns-in_err-push_told : goal.returns-in_err-push_told
returns-in_err-push_told g c =
    let (y, is, same) = err_from_is_err_and c.from_residual.result c.from_residual.ensures.1 in
    walk_lost_at (λ network. told_of c.args.what (ip_of g.C.FamilyCidr.FAMILY (g.C.BitString.bits network))) c.args.networks.now c.loop-network.network-index (g.S.Sink.state c.args.out.now)
    (g.S.Sink.state c.loop-network.out) (g.S.Sink.state c.push_told.new.out) c.loop-network.block c.push_told.new.block c.network-item.result
    c.from_residual.result y is c.loop-network-test.true c.network-item.is c.loop-network.invariant (rw (ip_is c.to_ip.result g.C.FamilyCidr.FAMILY (g.C.BitString.bits c.network-item.result) c.to_ip.ensures.family c.to_ip.ensures.prefix) at c.in_err-push_told.ensures)

pub returns : goal.returns
returns g c =
    walk_ended_at (λ network. told_of c.args.what (ip_of g.C.FamilyCidr.FAMILY (g.C.BitString.bits network))) c.args.networks.now c.loop-network.network-index (g.S.Sink.state c.args.out.now)
    (g.S.Sink.state c.loop-network.out) (g.S.Sink.state c.write.new.out) c.loop-network.block c.loop-network.block c.write.result
    c.loop-network-test.false c.loop-network.invariant c.write.ensures.writes
