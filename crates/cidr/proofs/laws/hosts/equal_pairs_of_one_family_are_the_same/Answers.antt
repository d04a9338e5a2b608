-- Equal pairs of one family are the same.
use Rattle.cidr.specs.model.Pair.{pair_eq}
use Rattle.cidr.specs.laws.EqualLaws.{pairs_told, told_in}
use Rattle.cidr.proofs.laws.hosts.equal_pairs_of_one_family_are_the_same.Goals as goal

pub returns : goal.returns
returns c = record {
  ipv4 = told_in (λ x. x) (λ x y e. e) pair_eq pairs_told;
  ipv6 = told_in (λ x. x) (λ x y e. e) pair_eq pairs_told;
}
