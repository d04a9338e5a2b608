use Rattle.cidr_lists.proofs.JsonStrings.{one_value}
use Rattle.cidr_lists.proofs.laws.a_string_says_one_value.Goals as goal

pub returns : goal.returns
returns c = one_value
