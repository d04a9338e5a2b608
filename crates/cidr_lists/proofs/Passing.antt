-- A row is passed: what is kept, and what is open behind it.
use Rattle.std.proofs.Common.{◌≡◌, refl, sym, ap, subst, arith, ℕ, ◌+◌, ◌<◌, ◌≤◌, Bool, List, [], ◌∷◌, ◌++◌, length, set, take, Option, Some, None, slice_get}
use Rattle.std.specs.List.{Contains}
use Rattle.std.specs.Option.{IfSome, option_map}
use Rattle.std.proofs.lemmas.List.{length-set, take_all}
use Rattle.std.proofs.lemmas.Option.{none-some, same_Some}
use Rattle.cidr_table.proofs.MapLaws.{contains_nothing}
use Rattle.cidr_lists.specs.Nearness.{AreRowsInOrder, AreNearKept, AreOpen, AreOthersSame, AreRows, ClosesAll, HasRow, IsClosed, IsClosedHalf, IsLast, IsPassed, IsSameRow, PutsFirst, PutsHalf}
use Rattle.cidr_lists.specs.declared.near.Near.{Near}
use Rattle.cidr_lists.proofs.KeptNear.{changed_more, kept_again, kept_new, none_changed, one_changed, open_again}
use Rattle.cidr_lists.proofs.NumberedRows.{before_row, one_more_taken, one_taken, row_here, taken}
use Rattle.cidr_lists.proofs.OpenNetworks.{AreBefore, closed_least, closing_started, left_open, new_network, none_open, opened}

module _ {C : Type 0} (bits : C → List Bool) (determined : (a b : C) → bits a ≡ bits b → a ≡ b) (rows : List (C × ℕ)) (up : AreRowsInOrder bits rows)
    (place : ℕ) (row : C × ℕ) (here : slice_get rows place ≡ Some row) (near : List Near) (are : AreRows rows (length near))
    (old nest : List (C × ℕ)) (closed outer : Option (C × ℕ)) (passed : IsPassed bits (take place rows) near old)
    (closes : ClosesAll bits row.0 old nest closed) (last : IsLast nest outer) where
  abbrev front : List (C × ℕ)
  front = take place rows

  before : AreBefore bits front row
  before = before_row rows place row here bits up

  is_closed : IsClosed bits front row.0 nest closed
  is_closed = closes front (closing_started bits determined front row old before passed.1)

  one : (a b : C × ℕ) → Contains (front ++ row ∷ []) a → Contains (front ++ row ∷ []) b → a.1 ≡ b.1 → a.0 ≡ b.0
  one a b in_a in_b same = are.one a b (one_more_taken rows place row here a in_a) (one_more_taken rows place row here b in_b) same

  -- the network is open already
  pub again_passed : (first : ℕ) (next : List Near) → IsSameRow outer row.0 (Some first) → PutsFirst near row.1 first next
      → IsPassed bits (take (place + 1) rows) next nest
  again_passed first next same puts =
      subst (λ (k : List (C × ℕ)). IsPassed bits k next nest) (sym (one_taken rows place row here)) (
        kept_again bits determined front row before nest closed outer last is_closed first same near next passed.0 one puts,
        left_open bits determined front row nest closed is_closed before
            (first, open_again bits determined front row before nest closed outer last is_closed first same),
      )

  pub again_others : (first : ℕ) (next : List Near) → PutsFirst near row.1 first next → AreOthersSame rows near next
  again_others first next (m, at, puts) = one_changed rows near next row (record m { first = first }) (row_here rows place row here) puts

  -- the network is new
  module _ (other : IsSameRow outer row.0 None) (half : Option ℕ) (is_half : IsClosedHalf bits closed row.0 half) where
    new : ¬ (HasRow front row.0)
    new = new_network bits determined front row nest closed is_closed outer last other

    half_row : (half : Option ℕ) → IsClosedHalf bits closed row.0 half → (i : ℕ) → half ≡ Some i → (network : C) × Contains rows (network, i)
    half_row None none i e = absurd (none-some i e)
    half_row (Some j) (network, is, siblings) i e =
        let there = closed_least bits determined front row nest closed is_closed (network, j) is in
        (network, subst (λ (k : ℕ). Contains rows (network, k)) (same_Some j i e) (taken rows place row here (network, j) there.0))

    pub half_within : (put : List Near) (one_near : Near) → put ≡ set near row.1 one_near → IfSome half (λ i. i < length put)
    half_within put one_near is = within half refl
      where
        within : (r : Option ℕ) → half ≡ r → IfSome r (λ i. i < length put)
        within None e = tt
        within (Some i) e =
            let (network, c) = half_row half is_half i e in
            omega (arith, are.within (network, i) c, ap length is, length-set near row.1 one_near)

    pub new_passed : (put next : List Near) → put ≡ set near row.1 (record { first = row.1; outer = option_map (λ (r : C × ℕ). r.1) outer; half = half })
        → PutsHalf put half row.1 next → (pushed : List (C × ℕ)) → pushed ≡ nest ++ row ∷ [] → IsPassed bits (take (place + 1) rows) next pushed
    new_passed put next is puts pushed more =
        subst (λ (k : List (C × ℕ)). IsPassed bits k next pushed) (sym (one_taken rows place row here)) (
          kept_new bits determined front row before nest closed outer last is_closed new near passed.0 (are.within row (row_here rows place row here)) one half put next is_half is puts,
          subst (AreOpen bits (front ++ row ∷ [])) (sym more) (opened bits determined front row nest closed is_closed before new),
        )

    pub new_others : (put next : List Near) (one_near : Near) → put ≡ set near row.1 one_near → PutsHalf put half row.1 next → AreOthersSame rows near next
    new_others put next one_near is puts =
        changed_more rows near put next (one_changed rows near put row one_near (row_here rows place row here) is) (by_half half refl puts)
      where
        by_half : (r : Option ℕ) → half ≡ r → PutsHalf put r row.1 next → AreOthersSame rows put next
        by_half None e same = subst (AreOthersSame rows put) (sym same) (none_changed rows put)
        by_half (Some i) e (m, at, put_it) =
            let (network, c) = half_row half is_half i e in
            one_changed rows put next (network, i) (record m { half = Some row.1 }) c put_it

-- ---- all rows
pub none_passed : {C : Type 0} (bits : C → List Bool) (rows : List (C × ℕ)) (near : List Near) (nest : List (C × ℕ)) → nest ≡ []
    → IsPassed bits (take 0 rows) near nest
none_passed bits rows near nest none =
    (λ row c. absurd (contains_nothing row c), subst (AreOpen bits []) (sym none) (none_open bits))

pub all_passed : {C : Type 0} (bits : C → List Bool) (rows : List (C × ℕ)) (place : ℕ) (near : List Near) (nest : List (C × ℕ)) → length rows ≤ place
    → IsPassed bits (take place rows) near nest → AreNearKept bits rows near
all_passed {C} bits rows place near nest past passed = subst (λ (k : List (C × ℕ)). AreNearKept bits k near) (take_all place rows past) passed.0

pub rows_still : {C : Type 0} (rows : List (C × ℕ)) (near now : List Near) → AreRows rows (length near) → AreOthersSame rows near now → AreRows rows (length now)
rows_still rows near now are others = subst (AreRows rows) (sym others.size) are
