use Rattle.cidr_sets.proofs.Widths.{permitted_at, permitted_ip}
use Rattle.cidr_sets.proofs.laws.permitted_sets_decide_addresses.Goals as goal

pub returns-clause-width : goal.returns-clause-width
returns-clause-width c w v networks set actions within short s = permitted_at w v networks set actions within short s

pub returns-clause-ip : goal.returns-clause-ip
returns-clause-ip c = permitted_ip
