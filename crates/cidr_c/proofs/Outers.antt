-- The smallest network around that of a row in order.
use Rattle.std.proofs.Common.{◌≡◌, ◌≢◌, refl, sym, ◌∙◌, ap, subst, arith, inl, inr, ℕ, ◌+◌, ◌-◌, ◌/◌, ◌<◌, ◌≤◌, Bool, List, [], ◌∷◌, ◌++◌, length, get_or, slice_get, Some, None, take}
use Rattle.std.specs.Ordering.{ordering_reverse}
use Rattle.std.specs.declared.cmp.Ordering.{Ordering}
use Rattle.std.specs.declared.cmp.Ordering.TheVariants.{Less, Equal, Greater}
use Rattle.std.proofs.lemmas.Bool.{cases_eq, cases_lt}
use Rattle.std.proofs.lemmas.List.{get_or_append_left, get_or_push, length_push, take-take}
use Rattle.std.proofs.lemmas.Option.{get_or_from_slice_get, same_Some, slice_get_within, slice_get-get_or}
use Rattle.cidr.specs.either.IpNetwork.{any_bits}
use Rattle.cidr.specs.laws.BitLaws.{bit_cmp_total}
use Rattle.cidr.specs.model.Bits.{bit_cmp}
use Rattle.cidr.specs.model.Network.{BeginsWith}
use Rattle.cidr.specs.declared.cidr.any.AnyIpCidr.{AnyIpCidr}
use Rattle.cidr_table.specs.model.Prefixes.{IsLongestMatch}
use Rattle.cidr_table.proofs.Beginnings.{begins_between, bits_exact, not_before}
use Rattle.cidr_lists.specs.Findings.{AreBitsInside}
use Rattle.cidr_lists.specs.Nearness.{AreRowsInOrder}
use Rattle.cidr_lists.proofs.Nested.{not_inside_behind, not_less_back, whole_begins}
use Rattle.cidr_c.specs.Nested.{AreOuters, AreRowsOfList, IsIndexBefore, IsOuter}
use Rattle.cidr_c.specs.calls.Lookups.{IsLongestIndex}
use Rattle.cidr_c.specs.calls.Ordering.{IsAround, IsNearestIndex}

flipped : (p q : List Bool) (r : Ordering) → bit_cmp p q ≡ r → bit_cmp q p ≡ ordering_reverse r
flipped p q r h = bit_cmp_total.antisymm q p ∙ ap ordering_reverse h

-- of two beginnings the shorter one begins the longer one
shortened : (a p o : List Bool) → BeginsWith a p → BeginsWith a o → length p < length o → BeginsWith o p
shortened a p o h k lt = ap (take (length p)) (sym k) ∙ (take-take (length p) (length o) a (omega (arith, lt)) ∙ h)

module _ {C : Type 0} (bits : C → List Bool) (rows : List (C × ℕ)) (ordered : AreRowsInOrder bits rows) (outers : List ℕ) (inner end : ℕ)
    (row : C × ℕ) (here : slice_get rows inner ≡ Some row) where
  -- the row before `end` isn't around this one: on to what is around that
  pub on_to_outer : (other : C × ℕ) → 0 < end → end ≤ inner → slice_get rows (end - 1) ≡ Some other → ¬ (AreBitsInside (bits row.0) (bits other.0))
      → IsOuter bits rows (end - 1) (get_or outers (end - 1) 0)
      → ((k : ℕ) (row other : C × ℕ) → end ≤ k → k < inner → slice_get rows inner ≡ Some row → slice_get rows k ≡ Some other
      → ¬ (AreBitsInside (bits row.0) (bits other.0)))
      → (k : ℕ) (row other : C × ℕ) → get_or outers (end - 1) 0 ≤ k → k < inner → slice_get rows inner ≡ Some row → slice_get rows k ≡ Some other
      → ¬ (AreBitsInside (bits row.0) (bits other.0))
  on_to_outer other some upto there not its before k row' one from lt here' at larger =
      let same : row ≡ row' = same_Some row row' (sym here ∙ here') in
      elim (cases_lt k end) [
        | inr ge ↦ before k row' one ge lt here' at larger
        | inl less ↦ elim (cases_eq k (end - 1)) [
          | inl is ↦
              let it : other ≡ one = same_Some other one (sym there ∙ (ap (slice_get rows) (sym is) ∙ at)) in
              not (subst (λ (r : C × ℕ). AreBitsInside (bits row.0) (bits r.0)) (sym it) (subst (λ (r : C × ℕ). AreBitsInside (bits r.0) (bits one.0)) (sym same) larger))
          | inr apart ↦
              let big : AreBitsInside (bits row.0) (bits one.0) = subst (λ (r : C × ℕ). AreBitsInside (bits r.0) (bits one.0)) (sym same) larger in
              let low = not_less_back (bits one.0) (bits other.0) (ordered k (end - 1) one other (omega arith) at there).0 in
              let high = (ordered (end - 1) inner other row (omega arith) there here).0 in
              let begins : BeginsWith (bits other.0) (bits one.0) = begins_between (bits one.0) (bits row.0) (bits other.0) big.0 low high in
              elim (cases_lt (length (bits one.0)) (length (bits other.0))) [
                | inl shorter ↦ its.last k other one from (omega arith) there at (begins, shorter)
                | inr long ↦
                    let whole : bits other.0 ≡ bits one.0 = whole_begins (bits other.0) (bits one.0) begins long in
                    not (subst (λ (p : List Bool). AreBitsInside (bits row.0) p) (sym whole) big)
              ]
        ]
      ]

-- the index at the row that is around is that of the smallest network around
module _ (networks : List AnyIpCidr) (rows : List (AnyIpCidr × ℕ)) (ordered : AreRowsInOrder any_bits rows) (are : AreRowsOfList networks rows)
    (inner end : ℕ) (row : AnyIpCidr × ℕ) (here : slice_get rows inner ≡ Some row) (outer : IsOuter any_bits rows inner end) where
  -- where another network around this one stands
  stands : (i : ℕ) (other : AnyIpCidr) → slice_get networks i ≡ Some other → IsAround row.0 other
      → (k : ℕ) × (slice_get rows k ≡ Some (other, i)) × (k < end)
  stands i other there around =
      let c = (are (other, i)).1 there in
      let k = c.0 in
      let at : slice_get rows k ≡ Some (other, i) = slice_get-get_or rows k (other, i) c.1 ∙ ap Some c.2 in
      elim (cases_lt k inner) [
        | inr behind ↦ absurd (not_inside_behind (any_bits row.0) (any_bits other) (ordered inner k row (other, i) behind here at).0 around)
        | inl before ↦ elim (cases_lt k end) [
          | inl lt ↦ (k, at, lt)
          | inr ge ↦ absurd (outer.last k row (other, i) ge before here at around)
        ]
      ]

  pub nearest_index : (index : ℕ) → IsIndexBefore rows end index → IsNearestIndex networks row.0 index
  nearest_index index (inl none) = inr (
    none.1,
    λ i other there around. let s = stands i other there around in omega (arith, s.2, none.0),
  )
  nearest_index index (inr some) =
      let within : end - 1 < length rows = omega (arith, some.0, outer.upto, slice_get_within rows inner row here) in
      let last : AnyIpCidr × ℕ = get_or rows (end - 1) row in
      let at : slice_get rows (end - 1) ≡ Some last = slice_get-get_or rows (end - 1) row within in
      let is : index ≡ last.1 = some.1 last at in
      inl (
        last.0,
        ap (slice_get networks) is ∙ (are last).0 (end - 1, within, get_or_from_slice_get rows (end - 1) last last at),
        outer.around some.0 row last here at,
        λ i other there around.
            let s = stands i other there around in
            elim (cases_lt (length (any_bits last.0)) (length (any_bits other))) [
              | inr fits ↦ fits
              | inl longer ↦
                  let low = (ordered s.0 (end - 1) (other, i) last (omega (arith, s.2)) s.1 at).0 in
                  let shorter = shortened (any_bits row.0) (any_bits last.0) (any_bits other) (outer.around some.0 row last here at).0 around.0 longer in
                  absurd (not_inside_behind (any_bits other) (any_bits last.0) low (shorter, longer))
            ],
        λ other lt there.
            let s = stands other last.0 there (outer.around some.0 row last here at) in
            omega (arith, lt, is, (ordered s.0 (end - 1) (last.0, other) last (omega (arith, s.2)) s.1 at).1 refl),
      )

-- that of one row more
pub outers_more : {C : Type 0} (bits : C → List Bool) (rows : List (C × ℕ)) (outers : List ℕ) (n end : ℕ) → AreOuters bits rows outers n
    → IsOuter bits rows n end → AreOuters bits rows (outers ++ end ∷ []) (n + 1)
outers_more bits rows outers n end are one = record {
  size = omega (arith, length_push outers end, are.size);
  each = λ inner lt. elim (cases_lt inner n) [
    | inl before ↦
        subst (IsOuter bits rows inner) (sym (get_or_append_left outers (end ∷ []) 0 inner (omega (arith, before, are.size)))) (are.each inner before)
    | inr past ↦
        let at : inner ≡ n = omega (arith, lt, past) in
        subst (λ (k : ℕ). IsOuter bits rows k (get_or (outers ++ end ∷ []) k 0)) (sym at)
        (subst (IsOuter bits rows n) (sym (get_or_push outers end 0 n are.size)) one)
  ];
}

-- the index of a row is one of the list
pub row_within : {C : Type 0} (networks : List C) (rows : List (C × ℕ)) → AreRowsOfList networks rows → (row : C × ℕ) (k : ℕ)
    → slice_get rows k ≡ Some row → row.1 < length networks
row_within networks rows are row k here =
    slice_get_within networks row.1 row.0 ((are row).0 (k, slice_get_within rows k row here, get_or_from_slice_get rows k row row here))

-- ---- the longest match
-- what a network begins with is not behind it
not_behind : (a p : List Bool) → BeginsWith a p → bit_cmp p a ≢ Greater
not_behind a p h greater = not_before a p h (flipped p a Greater greater)

module _ {C : Type 0} (bits : C → List Bool) (rows : List (C × ℕ)) (asked : List Bool) where
  -- no row from `end` on contains the asked network, and the last one before isn't behind it
  pub record IsEnd (end : ℕ) : Type 0 where
    pub within : end ≤ length rows
    pub others : (k : ℕ) (row : C × ℕ) → end ≤ k → slice_get rows k ≡ Some row → ¬ (BeginsWith asked (bits row.0))
    pub upto : (k : ℕ) (row : C × ℕ) → k < end → slice_get rows k ≡ Some row → bit_cmp (bits row.0) asked ≢ Greater

  pub begun_at : (end : ℕ) → end ≤ length rows → ((k : ℕ) (row : C × ℕ) → k < end → slice_get rows k ≡ Some row → bit_cmp (bits row.0) asked ≢ Greater)
      → ((k : ℕ) (row : C × ℕ) → end ≤ k → slice_get rows k ≡ Some row → bit_cmp (bits row.0) asked ≡ Greater) → IsEnd end
  begun_at end within upto behind = record {
    within = within;
    others = λ k row le at begins. not_behind asked (bits row.0) begins (behind k row le at);
    upto = upto;
  }

  -- the last row before doesn't contain it: on to what is around that
  pub on_to_around : AreRowsInOrder bits rows → (end outer : ℕ) (row : C × ℕ) → 0 < end → slice_get rows (end - 1) ≡ Some row → ¬ (BeginsWith asked (bits row.0))
      → IsOuter bits rows (end - 1) outer → IsEnd end → IsEnd outer
  on_to_around ordered end outer row some here not its is = record {
    within = omega (arith, its.upto, is.within);
    others = λ k other from at begins. elim (cases_lt k end) [
      | inr ge ↦ is.others k other ge at begins
      | inl less ↦ elim (cases_eq k (end - 1)) [
        | inl e ↦
            let same : row ≡ other = same_Some row other (sym here ∙ (ap (slice_get rows) (sym e) ∙ at)) in
            not (subst (λ (r : C × ℕ). BeginsWith asked (bits r.0)) (sym same) begins)
        | inr apart ↦
            let low = not_less_back (bits other.0) (bits row.0) (ordered k (end - 1) other row (omega arith) at here).0 in
            let inner : BeginsWith (bits row.0) (bits other.0) =
            begins_between (bits other.0) asked (bits row.0) begins low (is.upto (end - 1) row (omega (arith, some)) here) in
            elim (cases_lt (length (bits other.0)) (length (bits row.0))) [
              | inl shorter ↦ its.last k row other from (omega arith) here at (inner, shorter)
              | inr long ↦
                  let whole : bits row.0 ≡ bits other.0 = whole_begins (bits row.0) (bits other.0) inner long in
                  not (subst (BeginsWith asked) (sym whole) begins)
            ]
      ]
    ];
    upto = λ k other lt at. is.upto k other (omega (arith, lt, its.upto)) at;
  }

module _ (networks : List AnyIpCidr) (rows : List (AnyIpCidr × ℕ)) (ordered : AreRowsInOrder any_bits rows) (are : AreRowsOfList networks rows)
    (asked : AnyIpCidr) (end : ℕ) (is : IsEnd any_bits rows (any_bits asked) end) where
  -- where another network that contains the asked one stands
  holds : (i : ℕ) (other : AnyIpCidr) → slice_get networks i ≡ Some other → BeginsWith (any_bits asked) (any_bits other)
      → (k : ℕ) × (slice_get rows k ≡ Some (other, i)) × (k < end)
  holds i other there begins =
      let c = (are (other, i)).1 there in
      let k = c.0 in
      let at : slice_get rows k ≡ Some (other, i) = slice_get-get_or rows k (other, i) c.1 ∙ ap Some c.2 in
      elim (cases_lt k end) [
        | inl lt ↦ (k, at, lt)
        | inr ge ↦ absurd (is.others k (other, i) ge at begins)
      ]

  pub longest_index : (row : AnyIpCidr × ℕ) → 0 < end → slice_get rows (end - 1) ≡ Some row → BeginsWith (any_bits asked) (any_bits row.0)
      → IsLongestIndex networks asked row.1
  longest_index row some here begins =
      let listed : slice_get networks row.1 ≡ Some row.0 =
      (are row).0 (end - 1, slice_get_within rows (end - 1) row here, get_or_from_slice_get rows (end - 1) row row here) in
      inl (
        record {
          key = row.0;
          here = listed;
          begins = begins;
          longest = λ other c its. elim (cases_lt (length (any_bits row.0)) (length (any_bits other))) [
            | inr fits ↦ fits
            | inl longer ↦
                let s = holds c.0 other (slice_get-get_or networks c.0 other c.1 ∙ ap Some c.2) its in
                let low = (ordered s.0 (end - 1) (other, c.0) row (omega (arith, s.2)) s.1 here).0 in
                absurd (not_inside_behind (any_bits other) (any_bits row.0) low (shortened (any_bits asked) (any_bits row.0) (any_bits other) begins its longer, longer))
          ];
        },
        λ other lt same.
            let s = holds other row.0 (same ∙ listed) begins in
            omega (arith, lt, (ordered s.0 (end - 1) (row.0, other) row (omega (arith, s.2)) s.1 here).1 refl),
      )

  pub no_longest : end ≡ 0 → IsLongestMatch any_bits (any_bits asked) networks None
  no_longest none = λ key c begins.
      let s = holds c.0 key (slice_get-get_or networks c.0 key c.1 ∙ ap Some c.2) begins in
      omega (arith, s.2, none)

-- ---- the search for what isn't behind the asked network
below : (q r p : List Bool) (o : Ordering) → bit_cmp q r ≡ o → o ≢ Greater → bit_cmp r p ≡ Less → bit_cmp q p ≡ Less
below q r p Less is up less = bit_cmp_total.trans q r p is less
below q r p Equal is up less = ap (λ x. bit_cmp x p) (bits_exact q r is) ∙ less
below q r p Greater is up less = absurd (up refl)

above : (a r p : List Bool) (o : Ordering) → bit_cmp r p ≡ o → o ≢ Greater → bit_cmp a r ≡ Less → bit_cmp a p ≡ Less
above a r p Less is up less = bit_cmp_total.trans a r p less is
above a r p Equal is up less = ap (bit_cmp a) (sym (bits_exact r p is)) ∙ less
above a r p Greater is up less = absurd (up refl)

not_behind_both : (p q r : List Bool) → bit_cmp p q ≢ Greater → bit_cmp q r ≢ Greater → bit_cmp p r ≢ Greater
not_behind_both p q r up on greater = up (flipped q p Less (below q r p (bit_cmp q r) refl on (flipped p r Greater greater)))

behind_both : (p q r : List Bool) → bit_cmp p q ≢ Greater → bit_cmp p r ≡ Greater → bit_cmp q r ≡ Greater
behind_both p q r up greater = flipped r q Less (above r p q (bit_cmp p q) refl up (flipped p r Greater greater))

module _ {C : Type 0} (bits : C → List Bool) (rows : List (C × ℕ)) (asked : List Bool) where
  -- the first `found` aren't behind it, and those behind the `left` next ones are
  pub record IsFoundUpto (found left : ℕ) : Type 0 where
    pub within : found + left ≤ length rows
    pub upto : (k : ℕ) (row : C × ℕ) → k < found → slice_get rows k ≡ Some row → bit_cmp (bits row.0) asked ≢ Greater
    pub behind : (k : ℕ) (row : C × ℕ) → found + left ≤ k → slice_get rows k ≡ Some row → bit_cmp (bits row.0) asked ≡ Greater

  pub upto_begun : IsFoundUpto 0 (length rows)
  upto_begun = record {
    within = omega arith;
    upto = λ k row lt at. absurd (omega (arith, lt));
    behind = λ k row le at. absurd (omega (arith, le, slice_get_within rows k row at));
  }

  pub upto_further : AreRowsInOrder bits rows → (found left half : ℕ) (row : C × ℕ) → half + left / 2 ≡ left → 0 < half → IsFoundUpto found left
      → slice_get rows (found + half - 1) ≡ Some row → bit_cmp (bits row.0) asked ≢ Greater → IsFoundUpto (found + half) (left / 2)
  upto_further ordered found left half row all some is here up = record {
    within = omega (arith, is.within, all);
    upto = λ k other lt at.
        not_behind_both (bits other.0) (bits row.0) asked (ordered k (found + half - 1) other row (omega (arith, lt)) at here).0 up;
    behind = λ k other le at. is.behind k other (omega (arith, le, all)) at;
  }

  pub upto_no_further : AreRowsInOrder bits rows → (found left half : ℕ) (row : C × ℕ) → half + left / 2 ≡ left → half ≤ left / 2 + 1 → 0 < half
      → IsFoundUpto found left → slice_get rows (found + half - 1) ≡ Some row → bit_cmp (bits row.0) asked ≡ Greater → IsFoundUpto found (left / 2)
  upto_no_further ordered found left half row all most some is here greater = record {
    within = omega (arith, is.within, all);
    upto = is.upto;
    behind = λ k other le at.
        behind_both (bits row.0) (bits other.0) asked (ordered (found + half - 1) k row other (omega (arith, le, most)) here at).0 greater;
  }
