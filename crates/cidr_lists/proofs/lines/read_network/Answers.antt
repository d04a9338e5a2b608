use Rattle.cidr_lists.proofs.lines.read_network.Goals as goal

pub returns-in-Refused : goal.returns-in-Refused
returns-in-Refused c = rw c.in-Refused.is c.parse.ensures.value

pub returns-in-Cleared : goal.returns-in-Cleared
returns-in-Cleared c = rw c.in-Cleared.is c.cleared_network.ensures

pub returns-in-RefusedWithMasks : goal.returns-in-RefusedWithMasks
returns-in-RefusedWithMasks c = rw c.in-RefusedWithMasks.is c.network_or_masked.ensures

pub returns-in-ClearedWithMasks : goal.returns-in-ClearedWithMasks
returns-in-ClearedWithMasks c = rw c.in-ClearedWithMasks.is c.cleared_or_masked.ensures
