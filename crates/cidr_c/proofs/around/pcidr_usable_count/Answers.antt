use Rattle.std.proofs.Common.{◌≡◌, ◌≤◌, ◌^◌, ℕ, length}
use Rattle.cidr.specs.declared.cidr.combined.IpCidr.{IpCidr}
use Rattle.cidr.specs.either.IpNetwork.{network_family, network_prefix}
use Rattle.cidr_ext.specs.model.Inside.{usable_of}
use Rattle.cidr_c.specs.calls.Calls.{IsAnyValue}
use Rattle.cidr_c.specs.model.Values.{IsHostValue, ip_network_in}
use Rattle.cidr_c.proofs.Sought.{sought}
use Rattle.cidr_c.proofs.around.pcidr_usable_count.Goals as goal

pub returns-in-Some : goal.returns-in-Some
returns-in-Some c =
    sought (IsHostValue c.args.host.now) (λ (n : IpCidr). 2 ^ 64 ≤ length (usable_of (network_family n) (network_prefix n))) IsAnyValue (λ n. n)
    (λ (n : IpCidr) (count : ℕ). count ≡ length (usable_of (network_family n) (network_prefix n)))
    c.in-Some.network (ip_network_in c.args.host.now) c.usable_count.result c.args.count.now c.put_plain.new.out c.put_plain.result
    c.in-Some.ensures c.usable_count.ensures c.put_plain.ensures
