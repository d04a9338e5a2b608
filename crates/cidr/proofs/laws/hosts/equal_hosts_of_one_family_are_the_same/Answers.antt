-- Equal hosts of one family are the same.
use Rattle.cidr.specs.model.Host.{host_eq, host_cmp}
use Rattle.cidr.specs.laws.EqualLaws.{hosts_told, hosts_tied, told_in, tied_in}
use Rattle.cidr.proofs.laws.hosts.equal_hosts_of_one_family_are_the_same.Goals as goal

pub returns : goal.returns
returns c = record {
  ipv4 = told_in (λ x. x) (λ x y e. e) host_eq hosts_told;
  ipv6 = told_in (λ x. x) (λ x y e. e) host_eq hosts_told;
  ipv4_cmp = tied_in (λ x. x) (λ x y e. e) host_eq host_cmp hosts_told hosts_tied;
  ipv6_cmp = tied_in (λ x. x) (λ x y e. e) host_eq host_cmp hosts_told hosts_tied;
}
