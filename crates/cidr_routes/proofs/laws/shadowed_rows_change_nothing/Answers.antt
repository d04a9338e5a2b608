use Rattle.std.proofs.Common.{◌↔◌, ℕ, zero, suc, ◌<◌, Bool, List, [], ◌∷◌, ◌++◌, length, take, drop, refl, sym, subst, arith, inl, inr, add-one}
use Rattle.cidr_table.proofs.MapLaws.{contains_cases, contains_nothing}
use Rattle.cidr_routes.specs.declared.lists.Row.{Row}
use Rattle.cidr_routes.specs.PrefixLists.{IsDecidedBy, IsPermitted, Matches}
use Rattle.cidr_routes.proofs.laws.shadowed_rows_change_nothing.Goals as goal

module _ {C : Type 0} (bits : C → List Bool) (p : List Bool) where
  without : (rows : List (Row C)) (i : ℕ) → i < length rows → ¬ (IsDecidedBy bits rows p i)
      → IsPermitted bits (take i rows ++ drop (suc i) rows) p ↔ IsPermitted bits rows p
  without [] i l none = absurd (omega arith)
  without (row ∷ rows) zero l none =
      let other : ¬ (Matches bits row p) = λ m. none ((row, refl, m), λ r c. absurd (contains_nothing r c)) in (
        λ h. inr (other, h),
        λ h. elim h [
          | inl m ↦ absurd (other m.0)
          | inr rest ↦ rest.1
        ],
      )
  without (row ∷ rows) (suc i) l none =
      let rest : ¬ (Matches bits row p) → IsPermitted bits (take i rows ++ drop (suc i) rows) p ↔ IsPermitted bits rows p =
      λ other. without rows i (omega arith) (λ d. none (
        d.0,
        λ r c m. elim (contains_cases row r (take i rows) c) [
          | inl e ↦ other (subst (λ x. Matches bits x p) (sym e) m)
          | inr k ↦ d.1 r k m
        ],
      )) in (
        λ h. elim h [
          | inl m ↦ inl m
          | inr behind ↦ inr (behind.0, (rest behind.0).0 behind.1)
        ],
        λ h. elim h [
          | inl m ↦ inl m
          | inr behind ↦ inr (behind.0, (rest behind.0).1 behind.1)
        ],
      )

pub returns : goal.returns
returns g c = λ w rows i s p fits. rw add-one (without g.C.BitString.bits p rows i s.0 (s.1 p fits))
