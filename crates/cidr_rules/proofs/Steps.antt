-- What may be done with a part beside the holes.
use Rattle.std.proofs.Common.{◌≡◌, ℕ, zero, suc, ◌+◌, ◌<◌, ◌≤◌, Bool, true, false, cond, not, ◌||◌, nat_lt, Some, None, List, [], ◌∷◌, ◌++◌, All, position, length, map, get_or, refl, sym, ◌∙◌, ap, inl, inr, arith}
use Rattle.std.specs.List.{Contains, list_any, position_or_len}
use Rattle.std.proofs.lemmas.Bool.{true≢false, ltb-true, ltb-false, lt-ltb, not-true, cases_Bool, false_from_ne_true}
use Rattle.std.proofs.lemmas.List.{length-map, map-append}
use Rattle.std.proofs.lemmas.List.Elements.{All-pop}
use Rattle.std.proofs.lemmas.List.Sums.{passes_at_first, prefix_len_passes, sum_by_push}
use Rattle.std.proofs.lemmas.List.Folds.{list_any_none, list_any_at, Any-from_list_any}
use Rattle.cidr_rules.specs.declared.fields.Range.{Range}
use Rattle.cidr_rules.specs.declared.regions.Region.{Region}
use Rattle.cidr_rules.specs.Packets.{is_in, ranges_of}
use Rattle.cidr_rules.specs.Regions.{are_full, meet, are_within}
use Rattle.cidr_rules.specs.Parts.{AreAllFull, all_cells, boxes_of, cells, held, is_covered}
use Rattle.cidr_rules.proofs.Boxes.{meet_apart, within_part}

pub any_map : {X Y : Type 0} (p : Y → Bool) (f : X → Y) (xs : List X) → list_any p (map f xs) ≡ list_any (λ x. p (f x)) xs
any_map p f [] = refl
any_map p f (x ∷ xs) = ap (λ b. p (f x) || b) (any_map p f xs)

pub get_map : {X Y : Type 0} (f : X → Y) (xs : List X) (i : ℕ) (d : Y) (e : X) → i < length xs → get_or (map f xs) i d ≡ f (get_or xs i e)
get_map f [] i d e lt = absurd (omega (arith, lt))
get_map f (x ∷ xs) zero d e lt = refl
get_map f (x ∷ xs) (suc i) d e lt = get_map f xs i d e (omega (arith, lt))

-- an element of the list
pub nth : {X : Type 0} (xs : List X) (i : ℕ) → i < length xs → X
nth [] i lt = absurd (omega (arith, lt))
nth (x ∷ xs) i lt = x

-- no element passes where the search finds none
pub none_passes : {X : Type 0} (p : X → Bool) (xs : List X) → position p xs ≡ None → All (λ x. p x ≡ false) xs
none_passes p xs e k d lt = elim (cases_Bool (nat_lt (position_or_len p xs) (length xs))) [
  | inl t ↦ let n : Some (position_or_len p xs) ≡ None = rw t at e in absurd (cc n)
  | inr f ↦ let far : length xs ≤ position_or_len p xs = ltb-false _ _ f in not-true _ (prefix_len_passes (λ x. not (p x)) xs k d (omega (arith, far, lt)))
]

module _ {A : Type 0} (number : A → ℕ) (rs : List (Range ℕ)) (holes : List (Region A)) where
  pub clear_of_all : position (λ h. meet rs (ranges_of number h)) holes ≡ None → (x : List ℕ) → is_in rs x ≡ true → is_covered (boxes_of number holes) x ≡ false
  clear_of_all e x i = any_map (λ b. is_in b x) (ranges_of number) holes ∙ list_any_none (λ h. is_in (ranges_of number h) x) holes
      (λ k d lt. meet_apart rs (ranges_of number (get_or holes k d)) (none_passes (λ h. meet rs (ranges_of number h)) holes e k d lt) x i)

  in_one : list_any (λ h. are_within rs (ranges_of number h)) holes ≡ true → (x : List ℕ) → is_in rs x ≡ true → is_covered (boxes_of number holes) x ≡ true
  in_one e x i =
      let (k, h, lt, is, within) = Any-from_list_any (λ (g : Region A). are_within rs (ranges_of number g)) holes e in
      any_map (λ b. is_in b x) (ranges_of number) holes ∙ list_any_at (λ g. is_in (ranges_of number g) x) holes k h lt
      (ap (λ (g : Region A). is_in (ranges_of number g) x) is ∙ within_part rs (ranges_of number h) within x i)

  pub covered_by_one : list_any (λ h. are_within rs (ranges_of number h)) holes ≡ true → (x : List ℕ) → is_covered (boxes_of number holes) x ≡ false → is_in rs x ≡ false
  covered_by_one e x out = false_from_ne_true _ (λ i. true≢false (sym (in_one e x i) ∙ out))

  -- the hole that a search finds
  pub meets_at : (i : ℕ) → position (λ h. meet rs (ranges_of number h)) holes ≡ Some i
      → (i < length (boxes_of number holes)) × ((d : List (Range ℕ)) → meet rs (get_or (boxes_of number holes) i d) ≡ true)
  meets_at i e =
      let lt : position_or_len (λ h. meet rs (ranges_of number h)) holes < length holes = elim (cases_Bool (nat_lt (position_or_len (λ h. meet rs (ranges_of number h)) holes) (length holes))) [
        | inl t ↦ ltb-true _ _ t
        | inr f ↦ let k : None ≡ Some i = rw f at e in absurd (cc k)
      ] in
      let same : position_or_len (λ h. meet rs (ranges_of number h)) holes ≡ i =
      let k : Some (position_or_len (λ h. meet rs (ranges_of number h)) holes) ≡ Some i = rw (lt-ltb _ _ lt) at e in cc k in
      let there : i < length holes = omega (arith, lt, same) in (
        omega (arith, there, length-map holes (ranges_of number)),
        λ d.
            ap (meet rs) (get_map (ranges_of number) holes i d (nth holes i there) there)
            ∙ ap (λ k. meet rs (ranges_of number (get_or holes k (nth holes i there)))) (sym same)
            ∙ passes_at_first (λ h. meet rs (ranges_of number h)) holes (nth holes i there) lt,
      )

pub clear_at : (holes : List (List (Range ℕ))) (i : ℕ) (d : List (Range ℕ)) (x : List ℕ) → i < length holes → is_covered holes x ≡ false → is_in (get_or holes i d) x ≡ false
clear_at holes i d x lt clear = false_from_ne_true _ (λ t. true≢false (sym (list_any_at (λ g. is_in g x) holes i d lt t) ∙ clear))

-- ---- the hole at an index
module _ {A : Type 0} (number : A → ℕ) (holes : List (Region A)) (i : ℕ) (hole : Region A) (within : i < length (boxes_of number holes)) (is : hole ≡ get_or holes i hole) where
  there : i < length holes
  there = omega (arith, within, length-map holes (ranges_of number))

  pub box_at : (d : List (Range ℕ)) → get_or (boxes_of number holes) i d ≡ ranges_of number hole
  box_at d = get_map (ranges_of number) holes i d hole there ∙ ap (ranges_of number) (sym is)

  pub hole_full : AreAllFull (boxes_of number holes) → are_full (ranges_of number hole) ≡ true
  hole_full full = ap are_full (sym (box_at [])) ∙ full i [] within

  pub hole_met : (rs : List (Range ℕ)) → ((d : List (Range ℕ)) → meet rs (get_or (boxes_of number holes) i d) ≡ true) → meet rs (ranges_of number hole) ≡ true
  hole_met rs met = ap (meet rs) (sym (box_at [])) ∙ met []

  pub hole_clear : (x : List ℕ) → is_covered (boxes_of number holes) x ≡ false → is_in (ranges_of number hole) x ≡ false
  hole_clear x clear = ap (λ b. is_in b x) (sym (box_at [])) ∙ clear_at (boxes_of number holes) i [] x within clear

  pub hole_there : Contains (boxes_of number holes) (ranges_of number hole)
  hole_there = (i, within, box_at (ranges_of number hole))

-- ---- the last part, taken away
module _ {A : Type 0} (number : A → ℕ) (old new : List (Region A)) (region : Region A) (e : old ≡ new ++ region ∷ []) where
  boxes_popped : boxes_of number old ≡ boxes_of number new ++ ranges_of number region ∷ []
  boxes_popped = ap (map (ranges_of number)) e ∙ map-append (ranges_of number) new (region ∷ [])

  pub popped_full : AreAllFull (boxes_of number old) → AreAllFull (boxes_of number new) × (are_full (ranges_of number region) ≡ true)
  popped_full full = All-pop (λ (b : List (Range ℕ)). are_full b ≡ true) (boxes_of number old) (boxes_of number new) (Some (ranges_of number region)) boxes_popped full

  pub popped_held : (x : List ℕ) → held x (boxes_of number old) ≡ held x (boxes_of number new) + cond (is_in (ranges_of number region) x) 1 0
  popped_held x = ap (held x) boxes_popped ∙ sum_by_push (λ b. cond (is_in b x) 1 0) (boxes_of number new) (ranges_of number region)

  pub popped_cells : (holes : List (List (Range ℕ))) → all_cells holes (boxes_of number old) ≡ all_cells holes (boxes_of number new) + cells holes 0 (ranges_of number region)
  popped_cells holes = ap (all_cells holes) boxes_popped ∙ sum_by_push (λ b. cells holes 0 b) (boxes_of number new) (ranges_of number region)
