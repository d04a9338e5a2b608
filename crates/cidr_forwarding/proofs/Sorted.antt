-- Whether a value is in a list, as a search in the same values in ascending order tells it.
use Rattle.std.proofs.Common.{◌≡◌, ℕ, Bool, true, false, List, [], ◌∷◌, length, get_or, Option, Some, None, Result, Ok, Err, refl, sym, ap, ◌∙◌, subst, arith, inl, inr, true≢false}
use Rattle.std.specs.Bool.{Decides}
use Rattle.std.specs.Cmp.{IsTotalOrder, tied_itself}
use Rattle.std.specs.Cmp.Lexicographic.{options_total}
use Rattle.std.specs.List.{Contains}
use Rattle.std.specs.List.Sorted.{IsPermutation, IsSorted, IsSearchInRange, IsBinarySearchResult}
use Rattle.std.specs.Option.{option_eq, option_cmp}
use Rattle.std.specs.Ordering.{is_eq}
use Rattle.std.specs.Result.{is_ok}
use Rattle.std.specs.declared.cmp.Ordering.{Ordering}
use Rattle.std.specs.declared.cmp.Ordering.TheVariants.{Less, Equal, Greater}
use Rattle.std.proofs.lemmas.Bool.{cases_lt}
use Rattle.std.proofs.lemmas.List.Sorted.{Contains-permutation, IsPermutation-sym, searchable_from_sorted}
use Rattle.cidr_table.proofs.MapLaws.{contains_first, contains_later, contains_cases, contains_nothing}
use Rattle.cidr_forwarding.specs.Choices.{is_listed}
use Rattle.cidr_forwarding.proofs.Members.{has_first, has_cases, has_later}
use Rattle.cidr_forwarding.proofs.Smallest.{decides_option}

module _ {X : Type 0} (same : X → X → Bool) (decides : (x y : X) → Decides (same x y) (x ≡ y)) where
  in_from_has : (values : List X) (x : X) → is_listed same values x ≡ true → Contains values x
  in_from_has [] x h = absurd (true≢false (sym h))
  in_from_has (y ∷ values) x h = elim (has_cases same decides y values x h) [
    | inl e ↦ subst (λ z. Contains (y ∷ values) z) e (contains_first y values)
    | inr k ↦ contains_later y x values (in_from_has values x k)
  ]

  has_from_in : (values : List X) (x : X) → Contains values x → is_listed same values x ≡ true
  has_from_in [] x h = absurd (contains_nothing x h)
  has_from_in (y ∷ values) x h = elim (contains_cases y x values h) [
    | inl e ↦ subst (λ z. is_listed same (y ∷ values) z ≡ true) e (has_first same decides y values)
    | inr k ↦ has_later same decides y values x (has_from_in values x k)
  ]

  same_answer : (r s : Bool) → (r ≡ true → s ≡ true) → (s ≡ true → r ≡ true) → r ≡ s
  same_answer true s f g = sym (f refl)
  same_answer false true f g = g refl
  same_answer false false f g = refl

  pub has_moved : (values moved : List X) → IsPermutation values moved → (x : X) → is_listed same moved x ≡ is_listed same values x
  has_moved values moved m x =
      same_answer (is_listed same moved x) (is_listed same values x)
      (λ h. has_from_in values x (Contains-permutation moved values x (IsPermutation-sym values moved m) (in_from_has moved x h)))
      (λ h. has_from_in moved x (Contains-permutation values moved x m (in_from_has values x h)))

module _ {V : Type 0} (eq : V → V → Bool) (cmp : V → V → Ordering) (decides : (x y : V) → Decides (eq x y) (x ≡ y)) (total : IsTotalOrder cmp)
    (ties : (x y : V) → eq x y ≡ is_eq (cmp x y)) where
  tied_same : (x y : Option V) → option_cmp cmp x y ≡ Equal → x ≡ y
  tied_same None None e = refl
  tied_same None (Some y) e = absurd (cc)
  tied_same (Some x) None e = absurd (cc)
  tied_same (Some x) (Some y) e = ap Some ((decides x y).0 (ties x y ∙ ap is_eq e))

  found : (values : List (Option V)) (x : Option V) (i : ℕ) → IsSearchInRange (Ok i) (length values)
      → IsBinarySearchResult (λ y. option_cmp cmp y x) values (Ok i) → is_listed (option_eq eq) values x ≡ true
  found values x i within h =
      has_from_in (option_eq eq) (decides_option eq decides) values x (i, within, tied_same (get_or values i x) x (h x))

  not_found : (values : List (Option V)) (x : Option V) (i : ℕ) → IsSorted (option_cmp cmp) values
      → IsBinarySearchResult (λ y. option_cmp cmp y x) values (Err i) → is_listed (option_eq eq) values x ≡ true → ⊥
  not_found values x i s h k =
      let parts = h (searchable_from_sorted (options_total total) (λ y. y) values x s) in
      let m = in_from_has (option_eq eq) (decides_option eq decides) values x k in
      let e : option_cmp cmp (get_or values m.0 x) x ≡ Equal =
      ap (λ y. option_cmp cmp y x) m.2 ∙ tied_itself (options_total total) x in
      elim (cases_lt m.0 i) [
        | inl l ↦ let f : Less ≡ Equal = sym (parts.0 m.0 x (omega arith) l) ∙ e in cc
        | inr l ↦ let f : Greater ≡ Equal = sym (parts.1 m.0 x l m.1) ∙ e in cc
      ]

  pub told_by_search : (values : List (Option V)) → IsSorted (option_cmp cmp) values → (x : Option V) (r : Result ℕ ℕ)
      → IsSearchInRange r (length values) → IsBinarySearchResult (λ y. option_cmp cmp y x) values r
      → is_ok r ≡ is_listed (option_eq eq) values x
  told_by_search values s x (Ok i) within h = sym (found values x i within h)
  told_by_search values s x (Err i) within h = elim (is_listed (option_eq eq) values x) as (λ b. is_listed (option_eq eq) values x ≡ b → false ≡ b) [
    | true ↦ λ k. absurd (not_found values x i s h k)
    | false ↦ λ k. refl
  ] refl
