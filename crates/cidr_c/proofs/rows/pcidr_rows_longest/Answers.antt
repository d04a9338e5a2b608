use Rattle.std.proofs.Common.{◌<◌, ℕ, length, map, None}
use Rattle.cidr.specs.either.IpNetwork.{any_bits}
use Rattle.cidr.specs.declared.cidr.any.AnyIpCidr.{AnyIpCidr}
use Rattle.cidr_table.specs.model.Prefixes.{IsLongestAt, IsLongestMatch}
use Rattle.cidr_c.specs.calls.Calls.{IsAnyValue}
use Rattle.cidr_c.specs.calls.Rows.{AscendWith}
use Rattle.cidr_c.specs.model.Values.{IsNetworkValue, network_in}
use Rattle.cidr_c.proofs.RowsFound.{longest_told}
use Rattle.cidr_c.proofs.Sought.{sought}
use Rattle.cidr_c.proofs.rows.pcidr_rows_longest.Goals as goal

pub returns-in-Some : goal.returns-in-Some
returns-in-Some c =
    let networks = c.args.networks.now in
    let keys = map network_in networks in
    let IsReady = AscendWith networks c.args.lengths.now in
    sought (IsNetworkValue c.args.asked.now)
    (λ (n : AnyIpCidr). IsReady → IsLongestMatch any_bits (any_bits n) keys None)
    IsAnyValue (λ (i : ℕ). i)
    (λ (n : AnyIpCidr) (i : ℕ). (i < length networks) × (IsReady → IsLongestAt any_bits (any_bits n) keys i))
    c.in-Some.asked (network_in c.args.asked.now) c.longest-found.result c.args.index.now c.put_plain.new.out c.put_plain.result c.in-Some.ensures
    (longest_told networks IsReady c.in-Some.asked c.longest-found.result c.longest-found.ensures.within (λ h. c.longest-found.ensures.longest h.0 h.1))
    c.put_plain.ensures
