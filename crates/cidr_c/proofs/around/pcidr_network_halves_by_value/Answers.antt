use Rattle.std.proofs.Common.{◌≡◌, [], ◌∷◌, ◌++◌, false, length, true}
use Rattle.cidr.specs.declared.cidr.combined.IpCidr.{IpCidr}
use Rattle.cidr.specs.either.IpNetwork.{network_family, network_prefix}
use Rattle.cidr.specs.model.Network.{width_of}
use Rattle.cidr_c.proofs.Sought.{sought}
use Rattle.cidr_c.specs.model.Networks.{AreIpNetworkValues, ip_networks_in}
use Rattle.cidr_c.specs.model.Values.{IsHostValue, ip_network_in}
use Rattle.cidr_c.proofs.around.pcidr_network_halves_by_value.Goals as goal

pub returns-in-Some : goal.returns-in-Some
returns-in-Some c =
    sought (IsHostValue c.args.host) (λ (n : IpCidr). length (network_prefix n) ≡ width_of (network_family n)) AreIpNetworkValues ip_networks_in
    (λ (n : IpCidr) (made : IpCidr × IpCidr).
    ((network_family made.0 ≡ network_family n) × (network_prefix made.0 ≡ network_prefix n ++ false ∷ []))
    × ((network_family made.1 ≡ network_family n) × (network_prefix made.1 ≡ network_prefix n ++ true ∷ [])))
    c.in-Some.network (ip_network_in c.args.host) c.halves.result (c.args.lower.now, c.args.upper.now)
    (c.put_found_networks.new.first, c.put_found_networks.new.second) c.put_found_networks.result
    c.in-Some.ensures c.halves.ensures c.put_found_networks.ensures
