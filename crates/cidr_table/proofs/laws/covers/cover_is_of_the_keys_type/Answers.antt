use Rattle.cidr_table.proofs.Refinements.{holds_key, cover_width, cover_ip}
use Rattle.cidr_table.proofs.laws.covers.cover_is_of_the_keys_type.Goals as goal

pub returns-clause-holds : goal.returns-clause-holds
returns-clause-holds c = holds_key

pub returns-clause-width : goal.returns-clause-width
returns-clause-width c w v keys cover h = cover_width w keys cover h v

pub returns-clause-ip : goal.returns-clause-ip
returns-clause-ip c = cover_ip
