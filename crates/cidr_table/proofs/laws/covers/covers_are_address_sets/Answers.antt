use Rattle.cidr_table.proofs.AddressSets.{covers_by_width, covers_by_ip}
use Rattle.cidr_table.proofs.laws.covers.covers_are_address_sets.Goals as goal

pub returns-clause-width : goal.returns-clause-width
returns-clause-width c = covers_by_width

pub returns-clause-ip : goal.returns-clause-ip
returns-clause-ip c = covers_by_ip
