-- What is kept of the rows passed, and what a row more adds.
use Rattle.std.proofs.Common.{◌≡◌, ◌≢◌, refl, sym, ◌∙◌, ap, subst, arith, inl, inr, ℕ, ◌<◌, ◌≤◌, Bool, List, [], ◌∷◌, ◌++◌, length, set, Option, Some, None, slice_get}
use Rattle.std.specs.List.{Contains}
use Rattle.std.specs.Option.{option_map}
use Rattle.std.proofs.lemmas.Bool.{cases_eq, cases_lt}
use Rattle.std.proofs.lemmas.List.{get_or-set_other, get_or-set_same, length-set}
use Rattle.std.proofs.lemmas.List.Elements.{Contains-append_left, Contains-push, Contains-push_cases}
use Rattle.std.proofs.lemmas.Option.{none-some, same_Some, slice_get-get_or, slice_get_past, slice_get_within}
use Rattle.cidr_ext.specs.model.Tree.{AreSiblings}
use Rattle.cidr_table.proofs.MapLaws.{contains_nothing}
use Rattle.cidr_lists.specs.Findings.{AreBitsInside}
use Rattle.cidr_lists.specs.Nearness.{AreNearKept, AreOthersSame, HasRow, IsChain, IsClosed, IsClosedHalf, IsLast, IsLeast, IsRowAround, IsRowHalf, IsRowNear, IsSameRow, PutsFirst, PutsHalf}
use Rattle.cidr_lists.specs.declared.near.Near.{Near}
use Rattle.cidr_lists.proofs.Nested.{begins_same, not_inside_behind, sibling_same, siblings_apart, siblings_back}
use Rattle.cidr_lists.proofs.OpenNetworks.{AreBefore, chain_last, closed_least, half_closed, least_more, least_new, least_same, open_chain, open_least, row_inside, same_index, same_network}

-- ---- what is put into a list
pub set_same : {X : Type 0} (xs : List X) (i : ℕ) (x : X) → i < length xs → slice_get (set xs i x) i ≡ Some x
set_same xs i x within =
    let fits : i < length (set xs i x) = omega (arith, length-set xs i x, within) in
    slice_get-get_or (set xs i x) i x fits ∙ ap Some (get_or-set_same xs i x x within)

pub set_other : {X : Type 0} (xs : List X) (i j : ℕ) (x : X) → j ≢ i → slice_get (set xs i x) j ≡ slice_get xs j
set_other xs i j x other = elim (cases_lt j (length xs)) [
  | inl lt ↦
      let fits : j < length (set xs i x) = omega (arith, length-set xs i x, lt) in
      slice_get-get_or (set xs i x) j x fits ∙ (ap Some (get_or-set_other xs i j x x other) ∙ sym (slice_get-get_or xs j x lt))
  | inr ge ↦
      let past : length (set xs i x) ≤ j = omega (arith, length-set xs i x, ge) in
      slice_get_past (set xs i x) j past ∙ sym (slice_get_past xs j ge)
]

module _ {C : Type 0} (bits : C → List Bool) (determined : (a b : C) → bits a ≡ bits b → a ≡ b) (passed : List (C × ℕ)) (row : C × ℕ)
    (before : AreBefore bits passed row) where
  abbrev more : List (C × ℕ)
  more = passed ++ row ∷ []

  -- ---- what stood near a network that was passed
  still : (network : C) (i : ℕ) → IsLeast passed network i → IsLeast more network i
  still network i least = least_more passed row network i (λ same. (before (network, i) least.0).1 same) least

  around_more : (network : C) (i : ℕ) (outer : Option ℕ) → Contains passed (network, i) → IsRowAround bits passed network outer → IsRowAround bits more network outer
  around_more network i None c none = λ other there. elim (Contains-push_cases passed row other there) [
    | inl here ↦ none other here
    | inr same ↦ subst (λ (k : C × ℕ). ¬ (AreBitsInside (bits network) (bits k.0))) same (not_inside_behind (bits network) (bits row.0) (before (network, i) c).0)
  ]
  around_more network i (Some j) c (outer, least, inside, longest) = (
    outer,
    still outer j least,
    inside,
    λ other there within. elim (Contains-push_cases passed row other there) [
      | inl here ↦ longest other here within
      | inr same ↦ absurd (not_inside_behind (bits network) (bits row.0) (before (network, i) c).0
          (subst (λ (k : C × ℕ). AreBitsInside (bits network) (bits k.0)) (sym same) within))
    ],
  )

  half_more : (network : C) (half : Option ℕ) → (half ≡ None → ¬ (AreSiblings (bits network) (bits row.0))) → IsRowHalf bits passed network half
      → IsRowHalf bits more network half
  half_more network None other none = λ one there. elim (Contains-push_cases passed row one there) [
    | inl here ↦ none one here
    | inr same ↦ subst (λ (k : C × ℕ). ¬ (AreSiblings (bits network) (bits k.0))) same (other refl)
  ]
  half_more network (Some j) other (one, least, siblings) = (one, still one j least, siblings)

  near_more : (one : C × ℕ) (near : Near) → Contains passed one → (near.first ≡ one.1 → near.half ≡ None → ¬ (AreSiblings (bits one.0) (bits row.0)))
      → IsRowNear bits passed one near → IsRowNear bits more one near
  near_more one near c other h = (
    still one.0 near.first h.0,
    λ first. (around_more one.0 one.1 near.outer c (h.1 first).0, half_more one.0 near.half (other first) (h.1 first).1),
  )

  -- ---- a new network
  module _ (nest : List (C × ℕ)) (closed outer : Option (C × ℕ)) (last : IsLast nest outer) (h : IsClosed bits passed row.0 nest closed)
      (new : ¬ (HasRow passed row.0)) where
    no_self : ¬ (AreBitsInside (bits row.0) (bits row.0))
    no_self inside = omega (arith, inside.1)

    around_new : (outer : Option (C × ℕ)) → IsLast nest outer → IsRowAround bits more row.0 (option_map (λ (r : C × ℕ). r.1) outer)
    around_new None none = λ other there inside. elim (Contains-push_cases passed row other there) [
      | inr same ↦ no_self (subst (λ (k : C × ℕ). AreBitsInside (bits row.0) (bits k.0)) (sym same) inside)
      | inl here ↦
          let (i, c) = h.closing.around other here inside.0 in
          contains_nothing (other.0, i) (subst (λ (k : List (C × ℕ)). Contains k (other.0, i)) none c)
    ]
    around_new (Some found) (front, is) =
        let there : Contains nest found = subst (λ (k : List (C × ℕ)). Contains k found) (sym is) (Contains-push front found) in (
          found.0,
          still found.0 found.1 (open_least bits determined passed row nest closed h found there),
          row_inside bits determined passed row nest closed h new found there,
          λ other c inside. elim (Contains-push_cases passed row other c) [
            | inr same ↦ absurd (no_self (subst (λ (k : C × ℕ). AreBitsInside (bits row.0) (bits k.0)) (sym same) inside))
            | inl here ↦
                let (i, left) = h.closing.around other here inside.0 in
                elim (Contains-push_cases front found (other.0, i) (subst (λ (k : List (C × ℕ)). Contains k (other.0, i)) is left)) [
                  | inr same ↦ omega (arith, ap (λ (k : C × ℕ). length (bits k.0)) same)
                  | inl earlier ↦
                      let chain = subst (IsChain bits) is (open_chain bits determined passed row nest closed h) in
                      omega (arith, (chain_last bits front found (other.0, i) chain earlier).1)
                ]
          ],
        )

    -- what stands at the index of a network that was passed
    module _ (near : List Near) (kept : AreNearKept bits passed near) (fits : row.1 < length near)
        (one : (a b : C × ℕ) → Contains more a → Contains more b → a.1 ≡ b.1 → a.0 ≡ b.0) where
      behind : (other : C × ℕ) → Contains passed other → Contains more other
      behind other c = Contains-append_left passed (row ∷ []) other c

      apart : (other : C × ℕ) → Contains passed other → other.1 ≢ row.1
      apart other c same =
          let is : other.0 ≡ row.0 = one other row (Contains-append_left passed (row ∷ []) other c) (Contains-push passed row) same in
          new (other.1, subst (λ (k : C). Contains passed (k, other.1)) is c)

      no_half : IsClosedHalf bits closed row.0 None → (other : C × ℕ) → Contains passed other → ¬ (AreSiblings (bits row.0) (bits other.0))
      no_half none other c siblings =
          let (first, is, same) = half_closed bits determined passed row nest closed h new other c siblings in
          none first is (subst (λ (k : C). AreSiblings (bits row.0) (bits k)) (sym same) siblings)

      abbrev found_near : Option ℕ → Near
      found_near half = record { first = row.1; outer = option_map (λ (r : C × ℕ). r.1) outer; half = half }

      here : (half : Option ℕ) → IsRowHalf bits more row.0 half → IsRowNear bits more row (found_near half)
      here half is = (least_new passed row new, λ _. (around_new outer last, is))

      pub kept_new : (half : Option ℕ) (put next : List Near) → IsClosedHalf bits closed row.0 half → put ≡ set near row.1 (found_near half)
          → PutsHalf put half row.1 next → AreNearKept bits more next
      kept_new None put next none is puts other c = elim (Contains-push_cases passed row other c) [
        | inr same ↦
            let at : slice_get next row.1 ≡ Some (found_near None) =
            ap (λ (k : List Near). slice_get k row.1) (puts ∙ is) ∙ set_same near row.1 (found_near None) fits in
            subst (λ (k : C × ℕ). (n : Near) × (slice_get next k.1 ≡ Some n) × IsRowNear bits more k n) same (
              found_near None,
              at,
              here None (λ some there. elim (Contains-push_cases passed row some there) [
                | inl before_it ↦ no_half none some before_it
                | inr itself ↦ λ siblings. siblings_apart (bits row.0) (bits some.0) siblings
                    (begins_same (bits row.0) (bits some.0) (ap (λ (k : C × ℕ). bits k.0) itself))
              ]),
            )
        | inl there ↦
            let (n, at, h) = kept other there in (
              n,
              ap (λ (k : List Near). slice_get k other.1) (puts ∙ is) ∙ (set_other near row.1 other.1 (found_near None) (apart other there) ∙ at),
              near_more other n there (λ first half siblings. no_half none other there (siblings_back (bits other.0) (bits row.0) siblings)) h,
            )
      ]
      kept_new (Some i) put next (half, is_closed, siblings) is (m, at_half, puts) other c =
          let least : IsLeast passed half i = closed_least bits determined passed row nest closed h (half, i) is_closed in
          let away : i ≢ row.1 = apart (half, i) least.0 in
          let stays : slice_get near i ≡ Some m =
          sym (set_other near row.1 i (found_near (Some i)) away) ∙ (ap (λ (k : List Near). slice_get k i) (sym is) ∙ at_half) in
          let in_put : i < length put = slice_get_within put i m at_half in
          elim (Contains-push_cases passed row other c) [
            | inr same ↦
                let at : slice_get next row.1 ≡ Some (found_near (Some i)) =
                ap (λ (k : List Near). slice_get k row.1) puts
                ∙ (set_other put i row.1 (record m { half = Some row.1 }) (λ e. away (sym e))
                ∙ (ap (λ (k : List Near). slice_get k row.1) is ∙ set_same near row.1 (found_near (Some i)) fits)) in
                subst (λ (k : C × ℕ). (n : Near) × (slice_get next k.1 ≡ Some n) × IsRowNear bits more k n) same
                (found_near (Some i), at, here (Some i) (half, still half i least, siblings))
            | inl there ↦
                let (n, at, near_it) = kept other there in
                elim (cases_eq other.1 i) [
                  | inl e ↦
                      let is_half : other.0 ≡ half = one other (half, i) (behind other there) (behind (half, i) least.0) e in
                      let same_near : n ≡ m = same_Some n m (sym at ∙ (ap (slice_get near) e ∙ stays)) in
                      let shown : slice_get next other.1 ≡ Some (record m { half = Some row.1 }) =
                      ap (slice_get next) e ∙ (ap (λ (k : List Near). slice_get k i) puts ∙ set_same put i (record m { half = Some row.1 }) in_put) in
                      let near_m : IsRowNear bits passed other m = subst (IsRowNear bits passed other) same_near near_it in (
                        record m { half = Some row.1 },
                        shown,
                        (
                          still other.0 m.first near_m.0,
                          λ first. (
                            around_more other.0 other.1 m.outer there (near_m.1 first).0,
                            (
                              row.0,
                              least_new passed row new,
                              siblings_back (bits row.0) (bits other.0)
                                  (subst (λ (k : C). AreSiblings (bits row.0) (bits k)) (sym is_half) siblings),
                            ),
                          ),
                        ),
                      )
                  | inr differs ↦ (
                    n,
                    ap (λ (k : List Near). slice_get k other.1) puts
                        ∙ (set_other put i other.1 (record m { half = Some row.1 }) differs
                        ∙ (ap (λ (k : List Near). slice_get k other.1) is ∙ (set_other near row.1 other.1 (found_near (Some i)) (apart other there) ∙ at))),
                    near_more other n there (λ first none sibling_of_row.
                        let same : other.0 ≡ half = determined other.0 half
                        (sibling_same (bits row.0) (bits other.0) (bits half) (siblings_back (bits other.0) (bits row.0) sibling_of_row) siblings) in
                        let index : n.first ≡ i = least_same passed half n.first i (subst (λ (k : C). IsLeast passed k n.first) same near_it.0) least in
                        differs (sym first ∙ index)) near_it,
                  )
                ]
          ]

  -- ---- a network that is open already
  module _ (nest : List (C × ℕ)) (closed outer : Option (C × ℕ)) (last : IsLast nest outer) (h : IsClosed bits passed row.0 nest closed)
      (first : ℕ) (same_row : IsSameRow outer row.0 (Some first)) where
    pub open_again : Contains nest (row.0, first)
    open_again = last_there outer last same_row
      where
        last_there : (outer : Option (C × ℕ)) → IsLast nest outer → outer ≡ Some (row.0, first) → Contains nest (row.0, first)
        last_there None none e = absurd (none-some (row.0, first) e)
        last_there (Some found) (front, is) e =
            let same : found ≡ (row.0, first) = same_Some found (row.0, first) e in
            subst (λ (k : List (C × ℕ)). Contains k (row.0, first)) (sym is)
            (subst (Contains (front ++ found ∷ [])) same (Contains-push front found))

    least_again : IsLeast passed row.0 first
    least_again = open_least bits determined passed row nest closed h (row.0, first) open_again

    pub kept_again : (near next : List Near) → AreNearKept bits passed near → ((a b : C × ℕ) → Contains more a → Contains more b → a.1 ≡ b.1 → a.0 ≡ b.0)
        → PutsFirst near row.1 first next → AreNearKept bits more next
    kept_again near next kept one (m, at_row, puts) other c = elim (cases_eq other.1 row.1) [
      | inl e ↦
          let is : other.0 ≡ row.0 = one other row c (Contains-push passed row) e in
          let within : row.1 < length near = slice_get_within near row.1 m at_row in
          let shown : slice_get next other.1 ≡ Some (record m { first = first }) =
          ap (slice_get next) e ∙ (ap (λ (k : List Near). slice_get k row.1) puts ∙ set_same near row.1 (record m { first = first }) within) in (
            record m { first = first },
            shown,
            (
              subst (λ (k : C). IsLeast more k first) (sym is) (still row.0 first least_again),
              λ at_first.
                  let (n, at, near_it) = kept (row.0, first) least_again.0 in
                  let index : first ≡ row.1 = at_first ∙ e in
                  let same_near : n ≡ m = same_Some n m (sym at ∙ (ap (slice_get near) index ∙ at_row)) in
                  let its_first : n.first ≡ first = least_same passed row.0 n.first first near_it.0 least_again in
                  let found = near_it.1 its_first in (
                    subst (λ (k : C). IsRowAround bits more k m.outer) (sym is)
                        (around_more row.0 first m.outer least_again.0 (subst (λ (k : Near). IsRowAround bits passed row.0 k.outer) same_near found.0)),
                    subst (λ (k : C). IsRowHalf bits more k m.half) (sym is)
                        (half_more row.0 m.half (λ none siblings. siblings_apart (bits row.0) (bits row.0) siblings (begins_same (bits row.0) (bits row.0) refl))
                        (subst (λ (k : Near). IsRowHalf bits passed row.0 k.half) same_near found.1)),
                  ),
            ),
          )
      | inr differs ↦
          let there : Contains passed other = elim (Contains-push_cases passed row other c) [
            | inl here ↦ here
            | inr itself ↦ absurd (differs (sym (same_index row other itself)))
          ] in
          let (n, at, near_it) = kept other there in (
            n,
            ap (λ (k : List Near). slice_get k other.1) puts ∙ (set_other near row.1 other.1 (record m { first = first }) differs ∙ at),
            near_more other n there (λ at_first none siblings.
                let nothing = subst (IsRowHalf bits passed other.0) none (near_it.1 at_first).1 in
                nothing (row.0, first) least_again.0 siblings) near_it,
          )
    ]

-- ---- a row that is looked at
module _ {C : Type 0} (found : Option (C × ℕ)) (network : C) where
  pub no_row_same : found ≡ None → IsSameRow found network None
  no_row_same none row is = absurd (none-some row (sym none ∙ is))

  pub row_same : (row : C × ℕ) → found ≡ Some row → row.0 ≡ network → IsSameRow found network (Some row.1)
  row_same row is same = is ∙ ap (λ (k : C). Some (k, row.1)) same

  pub row_differs : (row : C × ℕ) → found ≡ Some row → row.0 ≢ network → IsSameRow found network None
  row_differs row is other one there same = other (same_network row one (same_Some row one (sym is ∙ there)) ∙ same)

module _ {C : Type 0} (bits : C → List Bool) (closed : Option (C × ℕ)) (network : C) where
  pub no_row_half : closed ≡ None → IsClosedHalf bits closed network None
  no_row_half none row is = absurd (none-some row (sym none ∙ is))

  pub half_same : (row : C × ℕ) → closed ≡ Some row → AreSiblings (bits network) (bits row.0) → IsClosedHalf bits closed network (Some row.1)
  half_same row is siblings = (row.0, is, siblings)

  pub half_differs : (row : C × ℕ) → closed ≡ Some row → ¬ (AreSiblings (bits network) (bits row.0)) → IsClosedHalf bits closed network None
  half_differs row is other one there siblings =
      other (subst (λ (k : C × ℕ). AreSiblings (bits network) (bits k.0)) (sym (same_Some row one (sym is ∙ there))) siblings)

-- ---- all other indices
module _ {C : Type 0} (rows : List (C × ℕ)) (near : List Near) where
  pub none_changed : AreOthersSame rows near near
  none_changed = record { size = refl; same = λ i out. refl }

  pub one_changed : (next : List Near) (row : C × ℕ) (one : Near) → Contains rows row → next ≡ set near row.1 one → AreOthersSame rows near next
  one_changed next row one c is = record {
    size = ap length is ∙ length-set near row.1 one;
    same = λ i out.
        ap (λ (k : List Near). slice_get k i) is
        ∙ set_other near row.1 i one (λ e. out row.0 (subst (λ (k : ℕ). Contains rows (row.0, k)) (sym e) c));
  }

  pub changed_more : (middle next : List Near) → AreOthersSame rows near middle → AreOthersSame rows middle next → AreOthersSame rows near next
  changed_more middle next first second = record {
    size = second.size ∙ first.size;
    same = λ i out. second.same i out ∙ first.same i out;
  }
