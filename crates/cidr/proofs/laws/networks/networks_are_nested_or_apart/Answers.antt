-- Networks are nested or apart.
use Rattle.cidr.proofs.Nesting.{apart_unless_nested}
use Rattle.cidr.proofs.laws.networks.networks_are_nested_or_apart.Goals as goal

pub returns : goal.returns
returns c p q outside inside = apart_unless_nested p q outside inside
