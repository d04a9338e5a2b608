-- Equal networks of one family are the same.
use Rattle.cidr.specs.model.Bits.{bit_eq, bit_cmp}
use Rattle.cidr.specs.laws.EqualLaws.{bits_told, bits_tied, told_in, tied_in}
use Rattle.cidr.proofs.laws.networks.equal_networks_of_one_family_are_the_same.Goals as goal

pub returns : goal.returns
returns c = record {
  ipv4 = told_in (λ x. x) (λ x y e. e) bit_eq bits_told;
  ipv6 = told_in (λ x. x) (λ x y e. e) bit_eq bits_told;
  ipv4_cmp = tied_in (λ x. x) (λ x y e. e) bit_eq bit_cmp bits_told bits_tied;
  ipv6_cmp = tied_in (λ x. x) (λ x y e. e) bit_eq bit_cmp bits_told bits_tied;
}
