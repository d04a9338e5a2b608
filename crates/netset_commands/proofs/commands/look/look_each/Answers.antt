use Rattle.std.proofs.Common.{subst, List, Option}
use Rattle.cidr.specs.declared.addr.ip.IpAddr.{IpAddr}
use Rattle.netset_commands.specs.LookUps.{LooksEach}
use Rattle.netset_commands.proofs.Looked.{all_found, same_asked}
use Rattle.netset_commands.proofs.commands.look.look_each.Goals as goal

pub push_each-requires : goal.push_each-requires
push_each-requires g c =
    rw c.as_slice.ensures.value (all_found (g.T.LookUps.is_found c.args.table.now) c.args.asked.now c.find_each-found.result.items c.find_each-found.ensures)

pub returns : goal.returns
returns g c =
    subst (λ (k : List (Option IpAddr)). LooksEach (g.T.LookUps.rows c.args.table.now) k (g.S.Sink.state c.args.out.now) (g.S.Sink.state c.push_each.new.out)
    c.args.block.now c.push_each.new.block c.push_each.result)
    (same_asked (g.T.LookUps.is_found c.args.table.now) c.args.asked.now c.find_each-found.result.items c.find_each-found.ensures)
    (rw c.as_slice.ensures.value at c.push_each.ensures)
