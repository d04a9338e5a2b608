-- Sets beside sets, where C has lists of networks.
use Rattle.std.proofs.Common.{◌↔◌, ℕ, Bool, List, inl, refl, arith}
use Rattle.std.specs.Prelude.{IsTrue}
use Rattle.cidr.specs.model.Network.{BeginsWith}
use Rattle.cidr_table.specs.model.Cover.{Covers}
use Rattle.cidr_sets.specs.model.Sets.{AreDisjoint, IsComplement, IsSetOf, IsSubset}
use Rattle.cidr_c.specs.calls.Batches.{IsAnswered}
use Rattle.cidr_c.specs.calls.Calls.{IsYesOrNo}
use Rattle.cidr_c.specs.laws.Combining.{same_set}

module _ (these those one other : List (List Bool)) (is_one : IsSetOf 129 (Covers these) one) (is_other : IsSetOf 129 (Covers those) other) where
  pub subset_of : IsSubset 129 one other ↔ IsSubset 129 these those
  subset_of = (
    λ h a l in_these. (is_other.exact a l).0 (h a l ((is_one.exact a l).1 in_these)),
    λ h a l in_one. (is_other.exact a l).1 (h a l ((is_one.exact a l).0 in_one)),
  )

  pub disjoint_of : AreDisjoint 129 one other ↔ AreDisjoint 129 these those
  disjoint_of = (
    λ h a l in_these in_those. h a l ((is_one.exact a l).1 in_these) ((is_other.exact a l).1 in_those),
    λ h a l in_one in_other. h a l ((is_one.exact a l).0 in_one) ((is_other.exact a l).0 in_other),
  )

pub complement_of : (these one s : List (List Bool)) (q : List Bool) → IsSetOf 129 (Covers these) one → IsComplement 129 q one s → IsComplement 129 q these s
complement_of these one s q is_one set =
    same_set 129 (λ a. BeginsWith a q × ¬ (Covers one a)) (λ a. BeginsWith a q × ¬ (Covers these a)) s
    (λ a l. (
      λ h. (h.0, λ x. h.1 ((is_one.exact a l).1 x)),
      λ h. (h.0, λ x. h.1 ((is_one.exact a l).0 x)),
    )) set

-- an answer of the library
pub set_answered : (IsTaken Here Holds : Type 0) (t : Bool) (old new : ℕ) → IsTaken → Here ↔ Holds → IsTrue t ↔ Here → IsYesOrNo new (IsTrue t)
    → IsAnswered IsTaken Holds old new 0
set_answered IsTaken Here Holds t old new fine same is told = record {
  taken = λ _. fine;
  answer = λ _. (told.0, (λ one. same.0 (is.0 (told.1.0 one)), λ h. told.1.1 (is.1 (same.1 h))));
  value = λ z. absurd (omega (arith, z));
  codes = inl refl;
  stays = λ other. absurd (other refl);
}
