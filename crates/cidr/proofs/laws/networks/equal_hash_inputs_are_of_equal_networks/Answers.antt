-- Equal hash inputs come from equal networks.
use Rattle.std.proofs.Common.{refl, sym}
use Rattle.cidr.specs.declared.family.Family.TheVariants.{Ipv4, Ipv6}
use Rattle.cidr.specs.declared.cidr.combined.IpCidr.TheVariants.{V4, V6}
use Rattle.cidr.specs.declared.cidr.any.AnyIpCidr.TheVariants as any_network
use Rattle.cidr.specs.model.Network.{FitsWidth, network_hash}
use Rattle.cidr.proofs.HashInputs.{network_hashed_apart, in_variant, other_tag, tags01, tags02, tags12}
use Rattle.cidr.proofs.laws.networks.equal_hash_inputs_are_of_equal_networks.Goals as goal

pub returns-clause-ipv4 : goal.returns-clause-ipv4
returns-clause-ipv4 c = network_hashed_apart Ipv4

pub returns-clause-ipv6 : goal.returns-clause-ipv6
returns-clause-ipv6 c = network_hashed_apart Ipv6

pub returns-clause-ip : goal.returns-clause-ip
returns-clause-ip c (V4 a) (V4 b) e f h = in_variant V4 (FitsWidth 32) (network_hash Ipv4) _ (network_hashed_apart Ipv4) a b e f h
returns-clause-ip c (V4 a) (V6 b) e f h = other_tag 0 1 _ _ tags01 h
returns-clause-ip c (V6 a) (V4 b) e f h = other_tag 1 0 _ _ (λ e. tags01 (sym e)) h
returns-clause-ip c (V6 a) (V6 b) e f h = in_variant V6 (FitsWidth 128) (network_hash Ipv6) _ (network_hashed_apart Ipv6) a b e f h

pub returns-clause-any : goal.returns-clause-any
returns-clause-any c any_network.Any any_network.Any e f h = refl
returns-clause-any c any_network.Any (any_network.V4 b) e f h = other_tag 0 1 _ _ tags01 h
returns-clause-any c any_network.Any (any_network.V6 b) e f h = other_tag 0 2 _ _ tags02 h
returns-clause-any c (any_network.V4 a) any_network.Any e f h = other_tag 1 0 _ _ (λ e. tags01 (sym e)) h
returns-clause-any c (any_network.V4 a) (any_network.V4 b) e f h = in_variant any_network.V4 (FitsWidth 32) (network_hash Ipv4) _ (network_hashed_apart Ipv4) a b e f h
returns-clause-any c (any_network.V4 a) (any_network.V6 b) e f h = other_tag 1 2 _ _ tags12 h
returns-clause-any c (any_network.V6 a) any_network.Any e f h = other_tag 2 0 _ _ (λ e. tags02 (sym e)) h
returns-clause-any c (any_network.V6 a) (any_network.V4 b) e f h = other_tag 2 1 _ _ (λ e. tags12 (sym e)) h
returns-clause-any c (any_network.V6 a) (any_network.V6 b) e f h = in_variant any_network.V6 (FitsWidth 128) (network_hash Ipv6) _ (network_hashed_apart Ipv6) a b e f h
