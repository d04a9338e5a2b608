-- Sets put together from the networks of two.
use Rattle.std.proofs.Common.{◌≡◌, ◌↔◌, ◌⊎◌, ℕ, ◌-◌, ◌<◌, ◌≤◌, Bool, true, false, not, List, [], ◌∷◌, ◌++◌, length, get_or, map, replicate, length-append, refl, arith, inl, inr, Option, Some, None}
use Rattle.std.proofs.lemmas.Bool.{cases_lt, false≢true}
use Rattle.std.proofs.lemmas.List.{get_or_default, take_at, length-replicate}
use Rattle.std.proofs.lemmas.List.Elements.{All-contains, All-from_all_within}
use Rattle.std.specs.Bool.{Decides, MatchBool}
use Rattle.std.specs.List.{AllWithin, Contains, HoldsAt}
use Rattle.std.specs.Option.{is_some, option_map}
use Rattle.cidr.specs.model.Network.{BeginsWith}
use Rattle.cidr_table.specs.model.Cover.{Covers, IsFull, IsReduced}
use Rattle.cidr_table.proofs.Halves.{begins_begins, begins_both}
use Rattle.cidr_sets.specs.model.Searches.{IsFirstInside}
use Rattle.cidr_sets.specs.model.Sets.{IsUnion, IsDifference, IsSymmetricDifference, IsSubset, Meets, AreDisjoint}
use Rattle.cidr_sets.proofs.Addresses.{covers_by, covers_to, set_alike}

-- what covers a network covers its addresses
pub covers_within : (s : List (List Bool)) (a p : List Bool) → BeginsWith a p → Covers s p → Covers s a
covers_within s a p b c = (c.0, c.1, begins_begins a p c.0 b c.2)

-- the union of both differences
pub symmetric_of : (these those ds es s : List (List Bool)) → IsDifference 129 these those ds
    → IsDifference 129 those these es → IsUnion 129 ds es s → IsSymmetricDifference 129 these those s
symmetric_of these those ds es s h k u = set_alike 129 (λ a. Covers ds a ⊎ Covers es a)
    (λ a. (Covers these a × ¬ (Covers those a)) ⊎ (Covers those a × ¬ (Covers these a))) s
    (λ a la. (
      λ c. elim c [ inl d ↦ inl ((h.exact a la).0 d) | inr d ↦ inr ((k.exact a la).0 d) ],
      λ c. elim c [ inl d ↦ inl ((h.exact a la).1 d) | inr d ↦ inr ((k.exact a la).1 d) ],
    )) u

-- ---- common addresses
-- an address of a network
pub some_address : (p : List Bool) → length p ≤ 129 → (a : List Bool) × (length a ≡ 129) × BeginsWith a p
some_address p short =
    let rest = replicate (129 - length p) false in (
      p ++ rest,
      omega (arith, length-append p rest, length-replicate (129 - length p) false),
      take_at p rest (length p) refl,
    )

pub meets_covered : (s : List (List Bool)) (p : List Bool) → length p ≤ 129 → Covers s p → Meets 129 s p
meets_covered s p short c =
    let (a, la, b) = some_address p short in
    (a, la, b, covers_within s a p b c)

pub meets_inside : (s : List (List Bool)) (p q : List Bool) → IsReduced 129 s → Contains s q → BeginsWith q p → Meets 129 s p
meets_inside s p q h c b =
    let (a, la, d) = some_address q ((h.members q).0 c).within in
    (a, la, begins_begins a q p d b, (q, c, d))

pub meets_none : (s : List (List Bool)) (p : List Bool) → ¬ (Covers s p)
    → ((q : List Bool) → Contains s q → ¬ (BeginsWith q p)) → ¬ (Meets 129 s p)
meets_none s p free none m =
    let (a, la, b, c) = m in
    elim (cases_lt (length p) (length c.0)) [
      | inl lt ↦ none c.0 c.1 (begins_both a c.0 p c.2 b (omega arith))
      | inr le ↦ free (c.0, c.1, begins_both a p c.0 b c.2 le)
    ]

-- by the first network inside
pub meets_first : {C : Type 0} (f : C → List Bool) (s : List (List Bool)) (p : List Bool) (o : Option C) → IsReduced 129 s
    → ¬ (Covers s p) → IsFirstInside s p (option_map f o) → Decides (is_some o) (Meets 129 s p)
meets_first f s p None h free none = (λ t. absurd (false≢true t), λ m. absurd (meets_none s p free none m))
meets_first f s p (Some q) h free i = (λ t. meets_inside s p (f q) h i.0 i.1, λ m. refl)

-- ---- what is said of each network
element_at : {C : Type 0} (P : C → Type 0) (xs : List C) (k : ℕ) → k < length xs → HoldsAt P xs k → (x : C) × Contains xs x × P x
element_at P [] k within holds = absurd (omega arith)
element_at P (x ∷ xs) k within holds =
    (get_or (x ∷ xs) k x, (k, within, get_or_default (x ∷ xs) k (get_or (x ∷ xs) k x) x within), holds x)

module _ {C : Type 0} (f : C → List Bool) (xs : List C) (those : List (List Bool)) where
  element : (P : C → Type 0) → AllWithin P xs 0 (length xs) → (x : C) → Contains xs x → P x
  element P all x there = All-contains P xs x (All-from_all_within P xs all) there

  pub subset_from_each : (all : Bool)
      → MatchBool all (AllWithin (λ x. IsFull 129 those (f x)) xs 0 (length xs))
      ((k : ℕ) × (k < length xs) × HoldsAt (λ x. ¬ (IsFull 129 those (f x))) xs k)
      → (all ≡ true) ↔ IsSubset 129 (map f xs) those
  subset_from_each true each = (
    λ t a la h.
        let (x, there, b) = covers_by f xs a h in
        element (λ y. IsFull 129 those (f y)) each x there a la b,
    λ sub. refl,
  )
  subset_from_each false (k, within, other) =
      let (x, there, none) = element_at (λ y. ¬ (IsFull 129 those (f y))) xs k within other in
      (λ t. absurd (false≢true t), λ sub. absurd (none (λ a la b. sub a la (covers_to f xs x a there b))))

  pub apart_from_each : (some : Bool)
      → MatchBool some ((k : ℕ) × (k < length xs) × HoldsAt (λ x. Meets 129 those (f x)) xs k)
      (AllWithin (λ x. ¬ (Meets 129 those (f x))) xs 0 (length xs))
      → (not some ≡ true) ↔ AreDisjoint 129 (map f xs) those
  apart_from_each true (k, within, meets) =
      let (x, there, (a, la, b, d)) = element_at (λ y. Meets 129 those (f y)) xs k within meets in
      (λ t. absurd (false≢true t), λ apart. absurd (apart a la (covers_to f xs x a there b) d))
  apart_from_each false each = (
    λ t a la c d.
        let (x, there, b) = covers_by f xs a c in
        element (λ y. ¬ (Meets 129 those (f y))) each x there (a, la, b, d),
    λ apart. refl,
  )
