-- Equal hash inputs come from equal hosts.
use Rattle.std.proofs.Common.{sym}
use Rattle.cidr.specs.declared.family.Family.TheVariants.{Ipv4, Ipv6}
use Rattle.cidr.specs.declared.inet.combined.IpInet.TheVariants.{V4, V6}
use Rattle.cidr.specs.model.Host.{IsHost, host_hash}
use Rattle.cidr.proofs.HashInputs.{host_hashed_apart, in_variant, other_tag, tags01}
use Rattle.cidr.proofs.laws.hosts.equal_hash_inputs_are_of_equal_hosts.Goals as goal

pub returns-clause-ipv4 : goal.returns-clause-ipv4
returns-clause-ipv4 c = host_hashed_apart Ipv4

pub returns-clause-ipv6 : goal.returns-clause-ipv6
returns-clause-ipv6 c = host_hashed_apart Ipv6

pub returns-clause-ip : goal.returns-clause-ip
returns-clause-ip c (V4 a) (V4 b) e f h = in_variant V4 (IsHost 32) (host_hash Ipv4) _ (host_hashed_apart Ipv4) a b e f h
returns-clause-ip c (V4 a) (V6 b) e f h = other_tag 0 1 _ _ tags01 h
returns-clause-ip c (V6 a) (V4 b) e f h = other_tag 1 0 _ _ (λ e. tags01 (sym e)) h
returns-clause-ip c (V6 a) (V6 b) e f h = in_variant V6 (IsHost 128) (host_hash Ipv6) _ (host_hashed_apart Ipv6) a b e f h
