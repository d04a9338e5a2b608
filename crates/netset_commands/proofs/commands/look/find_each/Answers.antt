use Rattle.std.proofs.Common.{arith}
use Rattle.netset_commands.proofs.Looked.{found_on, found_room}
use Rattle.netset_commands.proofs.commands.look.find_each.Goals as goal

pub push-requires : goal.push-requires
push-requires g c = (
  omega arith,
  found_room (g.T.LookUps.is_found c.args.table.now) c.args.asked.now c.loop-ask.ask-index c.loop-ask.found.items c.loop-ask-test.true c.requires c.loop-ask.invariant,
)

pub loop-ask-preserved : goal.loop-ask-preserved
loop-ask-preserved g c =
    found_on (g.T.LookUps.is_found c.args.table.now) c.args.asked.now c.loop-ask.ask-index c.ask-item.result c.loop-ask.found.items c.push.new.self.items c.found_of.result
    c.loop-ask-test.true c.ask-item.is c.loop-ask.invariant c.found_of.ensures c.push.ensures.items
