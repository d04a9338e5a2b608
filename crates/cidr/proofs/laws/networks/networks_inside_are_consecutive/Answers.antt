-- The networks inside one stand together in the order.
use Rattle.cidr.proofs.Nesting.{inside_consecutive}
use Rattle.cidr.proofs.laws.networks.networks_inside_are_consecutive.Goals as goal

pub returns : goal.returns
returns c p q h = inside_consecutive p q h
