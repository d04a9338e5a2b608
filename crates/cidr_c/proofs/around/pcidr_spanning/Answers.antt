use Rattle.std.proofs.Common.{refl, Some}
use Rattle.cidr.specs.declared.cidr.any.AnyIpCidr.{AnyIpCidr}
use Rattle.cidr.specs.either.IpNetwork.{any_bits}
use Rattle.cidr_ext.specs.model.Tree.{IsSpanning}
use Rattle.cidr_c.specs.model.Values.{IsNetworkValue, network_in}
use Rattle.cidr_c.proofs.Sought.{sought}
use Rattle.cidr_c.proofs.around.pcidr_spanning.Goals as goal

pub returns-in-Some-Some : goal.returns-in-Some-Some
returns-in-Some-Some c =
    let both = c.in-Some-Some in
    let one = both.ensures.1 in
    let other = both.ensures'.1 in
    sought (IsNetworkValue c.args.one.now × IsNetworkValue c.args.other.now) (λ (p : AnyIpCidr × AnyIpCidr). ⊥) IsNetworkValue network_in
    (λ (p : AnyIpCidr × AnyIpCidr) (span : AnyIpCidr). IsSpanning (any_bits p.0) (any_bits p.1) (any_bits span))
    (both.one, both.other) (network_in c.args.one.now, network_in c.args.other.now) (Some c.spanning.result) c.args.out.now c.put_network.new.out 0
    ((both.ensures.0, both.ensures'.0), cc (one, other)) c.spanning.ensures (refl, c.put_network.ensures.is_network, c.put_network.ensures.network)
