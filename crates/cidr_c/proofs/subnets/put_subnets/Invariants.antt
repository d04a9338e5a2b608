use Rattle.std.proofs.Common.{◌≡◌, ◌+◌, ℕ, drop, length}
use Rattle.cidr.specs.either.IpNetwork.{network_family, network_prefix}
use Rattle.cidr_ext.specs.model.Subnets.{IsSubnetAt}
use Rattle.cidr_c.specs.model.Values.{IsIpNetworkValue, family_in, prefix_in}
use Rattle.cidr_c.specs.declared.values.CValue.{CValue}
use Rattle.cidr_c.proofs.SubnetLists.{AreMade}
use Rattle.cidr_c.proofs.subnets.put_subnets.Given as goal

abbrev pub invariant-loop-n : goal.invariant-loop-n
invariant-loop-n l = (length l.out ≡ length l.fn.out)
    × AreMade (λ (i : ℕ) (v : CValue). IsIpNetworkValue v × (family_in v ≡ network_family l.network)
    × IsSubnetAt (network_prefix l.network) l.len (l.index + i) (prefix_in v)) l.n l.out
    × (drop l.n l.out ≡ drop l.n l.fn.out)
