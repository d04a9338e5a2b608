-- The equality of pairs.
use Rattle.std.proofs.Common.{◌≡◌, ◌&&◌, ◌==◌, ap, ap₂, ◌∙◌}
use Rattle.std.proofs.lemmas.Bool.{eqb-true}
use Rattle.std.proofs.lemmas.Cmp.{on_equiv, and_equiv, nat_eq_equiv}
use Rattle.std.specs.Bool.{IsTrue}
use Rattle.std.specs.Cmp.{IsEquivalence, first_so, second_so}
use Rattle.cidr.specs.model.Bits.{bit_eq}
use Rattle.cidr.specs.laws.BitLaws.{bit_eq_equiv, bit_eq_Decides}
use Rattle.cidr.specs.model.Pair.{Pair, pair_eq}

pub pair_eq_equiv : IsEquivalence pair_eq
pair_eq_equiv =
    and_equiv (on_equiv (λ (p : Pair). p.first) bit_eq_equiv) (and_equiv (on_equiv (λ (p : Pair). p.second) bit_eq_equiv) (on_equiv (λ (p : Pair). p.len) nat_eq_equiv))

-- equal pairs have equal images, as what is hashed
pub same_pair_image : {X : Type 0} (f : Pair → X) (a b : Pair) → IsTrue (pair_eq a b) → f a ≡ f b
same_pair_image f a b h =
    let rest = second_so (bit_eq a.first b.first) (bit_eq a.second b.second && (a.len == b.len)) h in
    let first = (bit_eq_Decides a.first b.first).0 (first_so (bit_eq a.first b.first) (bit_eq a.second b.second && (a.len == b.len)) h) in
    let second = (bit_eq_Decides a.second b.second).0 (first_so (bit_eq a.second b.second) (a.len == b.len) rest) in
    let len = eqb-true a.len b.len (second_so (bit_eq a.second b.second) (a.len == b.len) rest) in
    ap₂ (λ x y. f (record { first = x; second = y; len = a.len })) first second ∙ ap (λ n. f (record { first = b.first; second = b.second; len = n })) len
