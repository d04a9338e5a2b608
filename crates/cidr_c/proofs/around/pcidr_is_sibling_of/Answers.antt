use Rattle.std.proofs.Common.{◌≡◌}
use Rattle.cidr.specs.declared.cidr.combined.IpCidr.{IpCidr}
use Rattle.cidr.specs.either.IpNetwork.{network_family, network_prefix}
use Rattle.cidr_c.proofs.Sought.{both_answered}
use Rattle.cidr_c.specs.model.Values.{IsHostValue, ip_network_in}
use Rattle.cidr_ext.specs.model.Tree.{AreSiblings}
use Rattle.cidr_c.proofs.around.pcidr_is_sibling_of.Goals as goal

pub returns-in-Some-Some : goal.returns-in-Some-Some
returns-in-Some-Some c =
    let both = c.in-Some-Some in
    both_answered (IsHostValue c.args.one.now) (IsHostValue c.args.other.now)
    (λ (n m : IpCidr). (network_family n ≡ network_family m) × AreSiblings (network_prefix n) (network_prefix m))
    both.one (ip_network_in c.args.one.now) both.other (ip_network_in c.args.other.now) c.is_sibling_of.result c.yes_or_no.result
    both.ensures both.ensures' c.is_sibling_of.ensures c.yes_or_no.ensures
