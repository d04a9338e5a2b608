use Rattle.std.proofs.Common.{sym}
use Rattle.netset_commands.proofs.Listed.{addresses_had}
use Rattle.netset_commands.proofs.input.stored.Stored.addresses.Goals as goal

pub returns : goal.returns
returns c =
    rw (sym c.self.view_is) (addresses_had c.self.inside.tables c.new-lists.result
    (record { v4 = c.push_networks.new.networks; v6 = c.push_networks-2.new.networks }) c.of_lists.result c.new-lists.ensures.v4 c.new-lists.ensures.v6
    c.in_ok-push_networks.ensures c.in_ok-push_networks-2.ensures c.of_lists.ensures)
