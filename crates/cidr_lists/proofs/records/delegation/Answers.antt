use Rattle.cidr_lists.proofs.records.delegation.Goals as goal

pub returns-in-Ok : goal.returns-in-Ok
returns-in-Ok c = c.addresses_from.ensures c.in-Ok.ensures
