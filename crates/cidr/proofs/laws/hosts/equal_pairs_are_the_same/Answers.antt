-- Equal pairs of either family are those of one family with the same addresses and length.
use Rattle.cidr.specs.model.Pair.{pair_eq}
use Rattle.cidr.specs.laws.EqualLaws.{pairs_told, told_in, apart}
use Rattle.cidr.specs.declared.inet_pair.combined.IpInetPair.TheVariants.{V4, V6}
use Rattle.cidr.proofs.laws.hosts.equal_pairs_are_the_same.Goals as goal

pub returns : goal.returns
returns c (V4 a) (V4 b) = told_in V4 (λ x y e. cc) pair_eq pairs_told a b
returns c (V4 a) (V6 b) = apart (V4 a) (V6 b) (λ e. cc)
returns c (V6 a) (V4 b) = apart (V6 a) (V4 b) (λ e. cc)
returns c (V6 a) (V6 b) = told_in V6 (λ x y e. cc) pair_eq pairs_told a b
