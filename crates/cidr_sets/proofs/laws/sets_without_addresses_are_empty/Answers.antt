use Rattle.std.proofs.Common.{[]}
use Rattle.cidr_table.proofs.MapLaws.{contains_nothing}
use Rattle.cidr_sets.proofs.Addresses.{none_reduced, one_list}
use Rattle.cidr_sets.proofs.laws.sets_without_addresses_are_empty.Goals as goal

pub returns : goal.returns
returns c w s h none = one_list w s [] h (none_reduced w) (λ a la. (λ d. absurd (none a la d), λ d. absurd (contains_nothing d.0 d.1)))
