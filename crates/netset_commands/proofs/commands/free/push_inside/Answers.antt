use Rattle.std.proofs.Common.{None}
use Rattle.std.proofs.lemmas.Result.{err_from_is_err_and}
use Rattle.cidr_lists.specs.Formats.{before_next, layout_in}
use Rattle.netset_commands.specs.Free.{inside_of}
use Rattle.netset_commands.specs.Networks.{ip_of}
use Rattle.netset_commands.proofs.Families.{ip_is}
use Rattle.netset_commands.proofs.Taken.{all_taken, each_lost, each_taken, takes_none}
use Rattle.netset_commands.proofs.commands.free.push_inside.Goals as goal

pub loop-network-init : goal.loop-network-init
loop-network-init g c = takes_none (before_next (layout_in c.args.layout)) c.args.most None (g.S.Sink.state c.args.out.now) c.args.block.now

pub loop-network-preserved : goal.loop-network-preserved
loop-network-preserved g c =
    each_taken (before_next (layout_in c.args.layout)) (λ network. inside_of c.args.len (ip_of g.C.FamilyCidr.FAMILY (g.C.BitString.bits network))) c.args.networks.now
    c.loop-network.network-index c.network-item.result c.loop-network-test.true c.network-item.is c.args.most c.loop-network.left c.in_ok-more.more None
    c.loop-network.last c.in_ok-more.one (g.S.Sink.state c.args.out.now) (g.S.Sink.state c.loop-network.out) (g.S.Sink.state c.push_subnets.new.out)
    c.args.block.now c.loop-network.block c.push_subnets.new.block c.loop-network.invariant (rw (ip_is c.to_ip.result g.C.FamilyCidr.FAMILY (g.C.BitString.bits c.network-item.result) c.to_ip.ensures.family c.to_ip.ensures.prefix) at c.in_ok-more.ensures)

pub returns-in_err-more : goal.returns-in_err-more
returns-in_err-more g c =
    let (y, is, same) = err_from_is_err_and c.from_residual.result c.from_residual.ensures.1 in
    rw is (each_lost (before_next (layout_in c.args.layout)) (λ network. inside_of c.args.len (ip_of g.C.FamilyCidr.FAMILY (g.C.BitString.bits network))) c.args.networks.now
    c.loop-network.network-index c.network-item.result c.loop-network-test.true c.network-item.is c.args.most c.loop-network.left None
    c.loop-network.last y (g.S.Sink.state c.args.out.now) (g.S.Sink.state c.loop-network.out) (g.S.Sink.state c.push_subnets.new.out)
    c.args.block.now c.loop-network.block c.push_subnets.new.block c.loop-network.invariant (rw (ip_is c.to_ip.result g.C.FamilyCidr.FAMILY (g.C.BitString.bits c.network-item.result) c.to_ip.ensures.family c.to_ip.ensures.prefix) at c.in_err-more.ensures))

pub returns : goal.returns
returns g c =
    all_taken (before_next (layout_in c.args.layout)) (λ network. inside_of c.args.len (ip_of g.C.FamilyCidr.FAMILY (g.C.BitString.bits network))) c.args.networks.now
    c.loop-network.network-index c.loop-network-test.false c.args.most c.loop-network.left None c.loop-network.last (g.S.Sink.state c.args.out.now)
    (g.S.Sink.state c.loop-network.out) c.args.block.now c.loop-network.block c.loop-network.invariant
