-- Equal networks of either family are those of one family with the same bits.
use Rattle.cidr.specs.model.Bits.{bit_eq, bit_cmp}
use Rattle.cidr.specs.laws.EqualLaws.{bits_told, bits_tied, told_in, tied_in, apart, apart_less, apart_greater}
use Rattle.cidr.specs.declared.cidr.combined.IpCidr.TheVariants.{V4, V6}
use Rattle.cidr.proofs.laws.networks.equal_networks_are_the_same.Goals as goal

pub returns-clause-eq : goal.returns-clause-eq
returns-clause-eq c (V4 a) (V4 b) = told_in V4 (λ x y e. cc) bit_eq bits_told a b
returns-clause-eq c (V4 a) (V6 b) = apart (V4 a) (V6 b) (λ e. cc)
returns-clause-eq c (V6 a) (V4 b) = apart (V6 a) (V4 b) (λ e. cc)
returns-clause-eq c (V6 a) (V6 b) = told_in V6 (λ x y e. cc) bit_eq bits_told a b

pub returns-clause-cmp : goal.returns-clause-cmp
returns-clause-cmp c (V4 a) (V4 b) = tied_in V4 (λ x y e. cc) bit_eq bit_cmp bits_told bits_tied a b
returns-clause-cmp c (V4 a) (V6 b) = apart_less (V4 a) (V6 b) (λ e. cc)
returns-clause-cmp c (V6 a) (V4 b) = apart_greater (V6 a) (V4 b) (λ e. cc)
returns-clause-cmp c (V6 a) (V6 b) = tied_in V6 (λ x y e. cc) bit_eq bit_cmp bits_told bits_tied a b
