use Rattle.cidr_lists.specs.Sets.{IsInSets}
use Rattle.netset_commands.proofs.Matched.{picks_by}
use Rattle.netset_commands.proofs.commands.matching.Matcher.picks_by_field.Goals as goal

pub returns : goal.returns
returns c =
    picks_by c.args.self.now.picking.column (IsInSets c.args.self.now.sets.now) c.args.self.now.picking.inverted c.args.line.now c.in_ok-network.network c.have-lies.result c.is_picked.result
    c.is_picked.ensures c.in_ok-network.ensures c.have-lies.ensures
