-- A text spells one address of either family at most.
use Rattle.cidr.proofs.EitherAddresses.{one_ip_address}
use Rattle.cidr.proofs.laws.addresses.ip_text_spells_one.Goals as goal

pub returns : goal.returns
returns c = one_ip_address
