use Rattle.std.proofs.Common.{refl}
use Rattle.netset_commands.proofs.input.keeping.Said.add_line.Goals as goal

pub returns-in-Networks-clause-adds : goal.returns-in-Networks-clause-adds
returns-in-Networks-clause-adds g c = rw c.in-Networks.is c.add_list_line.ensures.adds

pub returns-in-Hosts-clause-adds : goal.returns-in-Hosts-clause-adds
returns-in-Hosts-clause-adds g c = rw c.in-Hosts.is c.add_entry_line.ensures.adds

pub returns-in-Rows-clause-adds : goal.returns-in-Rows-clause-adds
returns-in-Rows-clause-adds g c = rw c.in-Rows.is (refl, c.add_row_line.ensures.adds)
