-- The walk goes from the one address to the other.
use Rattle.cidr.proofs.traits.sealed_types.HostPairPrivInetPair._covered_addresses.Goals as goal

pub returns : goal.returns
returns g c = rw (c.addresses-first.ensures.first, c.addresses-first.ensures.second) at c.count_to.ensures
