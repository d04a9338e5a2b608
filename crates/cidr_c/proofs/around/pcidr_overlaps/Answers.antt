use Rattle.std.proofs.Common.{◌⊎◌}
use Rattle.cidr.specs.declared.cidr.any.AnyIpCidr.{AnyIpCidr}
use Rattle.cidr.specs.either.IpNetwork.{any_bits}
use Rattle.cidr.specs.model.Network.{BeginsWith}
use Rattle.cidr_c.specs.model.Values.{IsNetworkValue, network_in}
use Rattle.cidr_c.proofs.Sought.{both_answered}
use Rattle.cidr_c.proofs.around.pcidr_overlaps.Goals as goal

pub returns-in-Some-Some : goal.returns-in-Some-Some
returns-in-Some-Some c =
    let both = c.in-Some-Some in
    both_answered (IsNetworkValue c.args.one.now) (IsNetworkValue c.args.other.now)
    (λ (n m : AnyIpCidr). BeginsWith (any_bits n) (any_bits m) ⊎ BeginsWith (any_bits m) (any_bits n))
    both.one (network_in c.args.one.now) both.other (network_in c.args.other.now) c.overlaps.result c.yes_or_no.result
    both.ensures both.ensures' c.overlaps.ensures.nested c.yes_or_no.ensures
