-- The rows inside a network: they stand together from where the network would stand.
use Rattle.std.proofs.Common.{◌≡◌, ◌≢◌, refl, sym, ◌∙◌, ap, arith, inl, inr, ℕ, zero, suc, ◌+◌, ◌-◌, ◌<◌, ◌≤◌, Bool, true, false, List, [], ◌∷◌, length, get_or, take, drop, length-take}
use Rattle.std.proofs.lemmas.Bool.{cases_lt, cases_eq, true≢false}
use Rattle.std.proofs.lemmas.Cmp.{alike_right}
use Rattle.std.proofs.lemmas.List.{get_or-take, get_or-drop, length-map, length-drop}
use Rattle.std.proofs.lemmas.Map.Keys.{Less-from_sorted}
use Rattle.std.specs.List.{AllWithin, AllByRecursion}
use Rattle.std.specs.List.Sorted.{IsStrictlySortedBy, IsPartitionedBy}
use Rattle.std.specs.Map.{keys_of}
use Rattle.std.specs.Cmp.{IsTotalOrder}
use Rattle.std.specs.Ordering.{ordering_reverse}
use Rattle.std.specs.declared.cmp.Ordering.{Ordering}
use Rattle.std.specs.declared.cmp.Ordering.TheVariants.{Less, Greater}
use Rattle.cidr.specs.model.Bits.{bit_cmp}
use Rattle.cidr.specs.model.Network.{BeginsWith}
use Rattle.cidr_table.specs.internal.Places.{IsAt, IsLowerBound, begins_with}
use Rattle.cidr_table.specs.model.Prefixes.{AreInside}
use Rattle.cidr_table.proofs.Beginnings.{not_before, begins_between, begins_decides}

-- a key that is there is the first that is not before it
pub lower_bound_at : {C : Type 0} (cmp : C → C → Ordering) → IsTotalOrder cmp → (keys : List C) (key : C) (end i : ℕ) → end ≡ length keys
    → IsStrictlySortedBy cmp keys → IsAt cmp keys key end i → IsLowerBound cmp keys key end i
lower_bound_at cmp o keys key end i size sorted h = record {
  within = omega (arith, h.within);
  before = λ j l.
      let below : cmp (get_or keys j key) (get_or keys i key) ≡ Less = Less-from_sorted cmp keys j i key sorted l (omega (arith, h.within)) in
      sym (alike_right o (get_or keys i key) key (get_or keys j key) h.equal) ∙ below;
  behind = λ j from l less. elim (cases_eq j i) [
    | inl e ↦ let f = sym (rw e at less) ∙ h.equal in (cc)
    | inr n ↦
        let later : cmp (get_or keys i key) (get_or keys j key) ≡ Less = Less-from_sorted cmp keys i j key sorted (omega arith) (omega arith) in
        let above : cmp (get_or keys j key) key ≡ Greater = o.antisymm (get_or keys j key) key ∙ ap ordering_reverse (sym (o.congr (get_or keys i key) key (get_or keys j key) h.equal) ∙ later) in
        let f = sym less ∙ above in (cc)
  ];
}

module _ {C V : Type 0} where
  pub key_at : (rows : List (C × V)) (i : ℕ) (key : C) (row : C × V) → i < length rows → get_or (keys_of rows) i key ≡ (get_or rows i row).0
  key_at [] i key row l = absurd (omega arith)
  key_at (e ∷ rows) zero key row l = refl
  key_at (e ∷ rows) (suc i) key row l = key_at rows i key row (omega arith)

module _ {C V : Type 0} (cmp : C → C → Ordering) where
  pub sorted_drop : (i : ℕ) (rows : List (C × V)) → IsStrictlySortedBy cmp (keys_of rows) → IsStrictlySortedBy cmp (keys_of (drop i rows))
  unfolding IsStrictlySortedBy
  sorted_drop zero rows s = s
  sorted_drop (suc i) [] s = tt
  sorted_drop (suc i) (e ∷ rows) s = sorted_drop i rows s.1

  all_take : (P : C → Type 0) (n : ℕ) (rows : List (C × V)) → AllByRecursion P (keys_of rows) → AllByRecursion P (keys_of (take n rows))
  all_take P zero rows a = tt
  all_take P (suc n) [] a = tt
  all_take P (suc n) (e ∷ rows) a = (a.0, all_take P n rows a.1)

  sorted_take : (n : ℕ) (rows : List (C × V)) → IsStrictlySortedBy cmp (keys_of rows) → IsStrictlySortedBy cmp (keys_of (take n rows))
  unfolding IsStrictlySortedBy
  sorted_take zero rows s = tt
  sorted_take (suc n) [] s = tt
  sorted_take (suc n) (e ∷ rows) s = (all_take (λ z. cmp e.0 z ≡ Less) n rows s.0, sorted_take n rows s.1)

  pub sorted_range : (i n : ℕ) (rows : List (C × V)) → IsStrictlySortedBy cmp (keys_of rows) → IsStrictlySortedBy cmp (keys_of (take n (drop i rows)))
  sorted_range i n rows s = sorted_take n (drop i rows) (sorted_drop i rows s)

module _ {C V : Type 0} (cmp : C → C → Ordering) (bits : C → List Bool) (ordered : (x y : C) → cmp x y ≡ bit_cmp (bits x) (bits y))
    (rows : List (C × V)) (sorted : IsStrictlySortedBy cmp (keys_of rows)) (outer : C) (i : ℕ) (b : IsLowerBound cmp (keys_of rows) outer (length rows) i) where
  abbrev pub in_outer : C × V → Bool
  in_outer row = begins_with (bits row.0) (bits outer)

  -- from the lower bound on, first come the rows inside and then the others
  pub inside_first : IsPartitionedBy in_outer (drop i rows)
  inside_first j k d le lt inner_there = elim (cases_eq j k) [
    | inl e ↦ rw e inner_there
    | inr n ↦
        let size = length-drop i rows in
        let rj = get_or rows (i + j) d in
        let rk = get_or rows (i + k) d in
        let inner : BeginsWith (bits rk.0) (bits outer) = (begins_decides (bits rk.0) (bits outer)).0 (rw (get_or-drop i rows k d) at inner_there) in
        let low : bit_cmp (bits rj.0) (bits outer) ≢ Less = rw (key_at rows (i + j) outer d (omega arith), ordered rj.0 outer) at (b.behind (i + j) (omega arith) (omega arith)) in
        let keys = length-map rows (λ (x : C × V). x.0) in
        let ascends = Less-from_sorted cmp (keys_of rows) (i + j) (i + k) outer sorted (omega arith) (omega (arith, keys)) in
        let less : cmp rj.0 rk.0 ≡ Less = rw (key_at rows (i + j) outer d (omega arith), key_at rows (i + k) outer d (omega arith)) at ascends in
        let high : bit_cmp (bits rj.0) (bits rk.0) ≢ Greater = λ g. let f = sym less ∙ (ordered rj.0 rk.0 ∙ g) in (cc) in
        rw (get_or-drop i rows j d) ((begins_decides (bits rj.0) (bits outer)).1 (begins_between (bits outer) (bits rk.0) (bits rj.0) inner low high))
  ]

  pub are_inside : (n : ℕ) → n ≤ length (drop i rows) → AllWithin (λ row. in_outer row ≡ true) (drop i rows) 0 n
      → AllWithin (λ row. in_outer row ≡ false) (drop i rows) n (length (drop i rows)) → AreInside bits rows (bits outer) (take n (drop i rows))
  are_inside n fits first rest = λ row. (
    λ h.
        let size = length-drop i rows in
        let part = length-take n (drop i rows) in
        let l = h.1 in
        let there : get_or (drop i rows) h.0 row ≡ row = sym (get_or-take n (drop i rows) h.0 row (omega arith)) ∙ h.2 in
        ((i + h.0, omega arith, sym (get_or-drop i rows h.0 row) ∙ there), (begins_decides (bits row.0) (bits outer)).0 (ap in_outer (sym there) ∙ first h.0 row (omega arith) (omega arith))),
    λ h.
        let size = length-drop i rows in
        let part = length-take n (drop i rows) in
        let j = h.0.0 in
        let l = h.0.1 in
        let key : get_or (keys_of rows) j outer ≡ row.0 = key_at rows j outer row l ∙ ap (λ r. r.0) h.0.2 in
        elim (cases_lt j i) [
          | inl lt ↦ absurd (not_before (bits row.0) (bits outer) h.1 (sym (ordered row.0 outer) ∙ (rw key at (b.before j lt))))
          | inr le ↦
              let back : i + (j - i) ≡ j = omega arith in
              let there : get_or (drop i rows) (j - i) row ≡ row = get_or-drop i rows (j - i) row ∙ (ap (λ m. get_or rows m row) back ∙ h.0.2) in
              elim (cases_lt (j - i) n) [
                | inl lt ↦ (j - i, omega arith, get_or-take n (drop i rows) (j - i) row lt ∙ there)
                | inr past ↦ absurd (true≢false (sym ((begins_decides (bits row.0) (bits outer)).1 h.1) ∙ (ap in_outer (sym there) ∙ rest (j - i) row past (omega arith))))
              ]
        ],
  )
