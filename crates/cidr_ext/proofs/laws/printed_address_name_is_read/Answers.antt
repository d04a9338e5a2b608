use Rattle.cidr_ext.proofs.NameReading.{printed_address_named}
use Rattle.cidr_ext.proofs.laws.printed_address_name_is_read.Goals as goal

pub returns : goal.returns
returns c = printed_address_named
