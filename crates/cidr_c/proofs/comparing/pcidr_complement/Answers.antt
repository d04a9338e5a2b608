use Rattle.std.proofs.Common.{map, subst}
use Rattle.cidr.specs.either.IpNetwork.{any_bits}
use Rattle.cidr.specs.declared.cidr.any.AnyIpCidr.{AnyIpCidr}
use Rattle.cidr_sets.specs.model.Sets.{IsComplement}
use Rattle.cidr_c.specs.calls.Batches.{AreNetworkValues, bits_in}
use Rattle.cidr_c.specs.model.Values.{IsNetworkValue, network_in}
use Rattle.cidr_c.proofs.Compared.{complement_of}
use Rattle.cidr_c.proofs.NetworkLists.{delivered, if_ok}
use Rattle.cidr_c.proofs.comparing.pcidr_complement.Goals as goal

pub returns-in-Some : goal.returns-in-Some
returns-in-Some c =
    let read = c.in-Ok.ensures in
    let told = c.in-Some.ensures in
    let networks = bits_in c.args.networks.now in
    let p = any_bits (network_in c.args.within.now) in
    let one = map any_bits c.in-Ok.set in
    delivered (AreNetworkValues c.args.networks.now × IsNetworkValue c.args.within.now) (IsComplement 129 p networks) c.complement_in.result c.args.out.now
    c.deliver.new.out c.args.count.now c.deliver.new.count c.deliver.result (read.0, told.0)
    (if_ok (IsComplement 129 (any_bits c.in-Some.within) one) (IsComplement 129 p networks) c.complement_in.result
    (λ set h. complement_of networks one set p read.1 (subst (λ (n : AnyIpCidr). IsComplement 129 (any_bits n) one set) told.1 h))
    c.complement_in.ensures.set)
    c.deliver.ensures
