use Rattle.std.proofs.Common.{Bool, List, subst}
use Rattle.cidr.specs.either.IpAddress.{ip_address_bits}
use Rattle.cidr.specs.declared.addr.ip.IpAddr.{IpAddr}
use Rattle.cidr_sets.specs.model.Ranges.{IsBetween}
use Rattle.cidr_sets.specs.model.Sets.{IsSetOf}
use Rattle.cidr_c.specs.model.Values.{IsAddressValue, address_in}
use Rattle.cidr_c.proofs.NetworkLists.{delivered, if_ok}
use Rattle.cidr_c.proofs.ranges.pcidr_summarize.Goals as goal

pub returns-in-Some-Some : goal.returns-in-Some-Some
returns-in-Some-Some c =
    let both = c.in-Some-Some in
    let Between : IpAddr → IpAddr → List (List Bool) → Type 0 =
    λ a b set. IsSetOf 129 (IsBetween (ip_address_bits a) (ip_address_bits b)) set in
    let first = address_in c.args.first.now in
    let last = address_in c.args.last.now in
    delivered (IsAddressValue c.args.first.now × IsAddressValue c.args.last.now) (Between first last) c.from_range.result c.args.out.now
    c.deliver.new.out c.args.count.now c.deliver.new.count c.deliver.result (both.ensures.0, both.ensures'.0)
    (if_ok (Between both.first both.last) (Between first last) c.from_range.result
    (λ set h. subst (λ (a : IpAddr). Between a last set) both.ensures.1 (subst (λ (b : IpAddr). Between both.first b set) both.ensures'.1 h))
    c.from_range.ensures.set)
    c.deliver.ensures
