-- That what set algebra makes of two sets hangs on their addresses alone, which the trait `Combination` cites.
use Rattle.std.proofs.Common.{◌≡◌, ◌↔◌, ◌⊎◌, inl, inr, ℕ, Bool, List, length}
use Rattle.cidr_table.specs.model.Cover.{Covers}
use Rattle.cidr_sets.specs.model.Sets.{IsSetOf, IsUnion, IsIntersection, IsDifference, IsSymmetricDifference}

-- what holds of two sets and a third, holds of all lists of networks that have the same addresses as the two
abbrev pub IsOfAddresses : (List (List Bool) → List (List Bool) → List (List Bool) → Type 0) → Type 0
IsOfAddresses Combines =
    (these those one other s : List (List Bool)) → IsSetOf 129 (Covers these) one → IsSetOf 129 (Covers those) other
    → Combines one other s → Combines these those s

pub same_set : (w : ℕ) (P Q : List Bool → Type 0) (s : List (List Bool)) → ((a : List Bool) → length a ≡ w → P a ↔ Q a)
    → IsSetOf w P s → IsSetOf w Q s
same_set w P Q s same set = record {
  reduced = set.reduced;
  exact = λ a l. (λ h. (same a l).0 ((set.exact a l).0 h), λ h. (set.exact a l).1 ((same a l).1 h));
}

pub union_of : IsOfAddresses (IsUnion 129)
union_of these those one other s is_one is_other set =
    same_set 129 (λ a. Covers one a ⊎ Covers other a) (λ a. Covers these a ⊎ Covers those a) s
    (λ a l. (
      λ h. elim h [ inl x ↦ inl ((is_one.exact a l).0 x) | inr y ↦ inr ((is_other.exact a l).0 y) ],
      λ h. elim h [ inl x ↦ inl ((is_one.exact a l).1 x) | inr y ↦ inr ((is_other.exact a l).1 y) ],
    )) set

pub intersection_of : IsOfAddresses (IsIntersection 129)
intersection_of these those one other s is_one is_other set =
    same_set 129 (λ a. Covers one a × Covers other a) (λ a. Covers these a × Covers those a) s
    (λ a l. (
      λ h. ((is_one.exact a l).0 h.0, (is_other.exact a l).0 h.1),
      λ h. ((is_one.exact a l).1 h.0, (is_other.exact a l).1 h.1),
    )) set

pub difference_of : IsOfAddresses (IsDifference 129)
difference_of these those one other s is_one is_other set =
    same_set 129 (λ a. Covers one a × ¬ (Covers other a)) (λ a. Covers these a × ¬ (Covers those a)) s
    (λ a l. (
      λ h. ((is_one.exact a l).0 h.0, λ y. h.1 ((is_other.exact a l).1 y)),
      λ h. ((is_one.exact a l).1 h.0, λ y. h.1 ((is_other.exact a l).0 y)),
    )) set

pub symmetric_difference_of : IsOfAddresses (IsSymmetricDifference 129)
symmetric_difference_of these those one other s is_one is_other set =
    same_set 129 (λ a. (Covers one a × ¬ (Covers other a)) ⊎ (Covers other a × ¬ (Covers one a)))
    (λ a. (Covers these a × ¬ (Covers those a)) ⊎ (Covers those a × ¬ (Covers these a))) s
    (λ a l. (
      λ h. elim h [
        | inl x ↦ inl ((is_one.exact a l).0 x.0, λ y. x.1 ((is_other.exact a l).1 y))
        | inr x ↦ inr ((is_other.exact a l).0 x.0, λ y. x.1 ((is_one.exact a l).1 y))
      ],
      λ h. elim h [
        | inl x ↦ inl ((is_one.exact a l).1 x.0, λ y. x.1 ((is_other.exact a l).0 y))
        | inr x ↦ inr ((is_other.exact a l).1 x.0, λ y. x.1 ((is_one.exact a l).0 y))
      ],
    )) set
