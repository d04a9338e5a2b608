-- The changes of a block: its numbers have the values that a search finds, and it has no other list.
use Rattle.std.proofs.Common.{◌≡◌, refl, sym, ap, ap₂, subst, ◌∙◌, arith, inl, inr, ℕ, zero, suc, ◌+◌, ◌*◌, ◌-◌, ◌/◌, ◌%◌, ◌^◌, ◌<◌, ◌≤◌, List, [], ◌∷◌, length, map, get_or}
use Rattle.std.proofs.Math.Nat.{mul_assoc}
use Rattle.std.proofs.lemmas.Bool.{cases_eq, cases_lt}
use Rattle.std.proofs.lemmas.Nat.{mod_below, mul-le, pow-add, pow_pos, shl-shr, shr-shr, shr_split}
use Rattle.cidr_lookup.specs.Nodes.{AreChanges, HaveBefore}
use Rattle.cidr_lookup.specs.Putting.{AllHave, HasList}
use Rattle.cidr_lookup.specs.Searching.{AreOrdered, IsValueAt}
use Rattle.cidr_lookup.proofs.Blocks.{in_block, of_block}

module _ (Has : (number value : ℕ) → Type 0) where
  -- a block whose numbers have one value has no changes, and one without changes has one value
  pub no_changes : (steps block value : ℕ) → AllHave Has steps block value → AreChanges Has (block * 2 ^ (6 * steps)) ((block + 1) * 2 ^ (6 * steps)) value []
  unfolding AreChanges
  no_changes steps block value all = (all.0, λ number le lt. all.1 number (of_block number block (2 ^ (6 * steps)) (pow_pos (6 * steps)) le lt))

  pub all_have : (steps block value : ℕ) → AreChanges Has (block * 2 ^ (6 * steps)) ((block + 1) * 2 ^ (6 * steps)) value [] → AllHave Has steps block value
  unfolding AreChanges
  all_have steps block value known =
      (known.0, λ number e. let inside = in_block number block (2 ^ (6 * steps)) (pow_pos (6 * steps)) e in known.1 number inside.0 inside.1)

  -- the first number has the first value
  pub first_has : (from end value : ℕ) (changes : List (ℕ × ℕ)) → from < end → AreChanges Has from end value changes → (value < 2 ^ 31) × Has from value
  unfolding AreChanges
  first_has from end value [] lt known = (known.0, known.1 from (omega arith) lt)
  first_has from end value (change ∷ changes) lt known = (known.3.0, known.3.1 from (omega arith) known.0)

  -- each value is small
  pub values_small : (from end value : ℕ) (changes : List (ℕ × ℕ)) → from < end → AreChanges Has from end value changes → (i : ℕ) → i < length changes
      → (get_or changes i (0, 0)).1 < 2 ^ 31
  unfolding AreChanges
  values_small from end value [] lt known i l = absurd (omega arith)
  values_small from end value (change ∷ changes) lt known zero l = (first_has (change.0 * 2 ^ 82) end change.1 changes known.1 known.4).0
  values_small from end value (change ∷ changes) lt known (suc i) l = values_small (change.0 * 2 ^ 82) end change.1 changes known.1 known.4 i (omega arith)

  -- each change is between the ends, and behind the changes before it
  between : (from end value : ℕ) (changes : List (ℕ × ℕ)) → AreChanges Has from end value changes → (i : ℕ) → i < length changes
      → (from < (get_or changes i (0, 0)).0 * 2 ^ 82) × ((get_or changes i (0, 0)).0 * 2 ^ 82 < end)
  unfolding AreChanges
  between from end value [] known i l = absurd (omega arith)
  between from end value (change ∷ changes) known zero l = (known.0, known.1)
  between from end value (change ∷ changes) known (suc i) l =
      let rest = between (change.0 * 2 ^ 82) end change.1 changes known.4 i (omega arith) in
      (omega (arith, rest.0, known.0), rest.1)

  ascend : (from end value : ℕ) (changes : List (ℕ × ℕ)) → AreChanges Has from end value changes → (i k : ℕ) → i < k → k < length changes
      → (get_or changes i (0, 0)).0 < (get_or changes k (0, 0)).0
  unfolding AreChanges
  ascend from end value [] known i k lt l = absurd (omega arith)
  ascend from end value (change ∷ changes) known i zero lt l = absurd (omega arith)
  ascend from end value (change ∷ changes) known zero (suc k) lt l = omega (arith, (between (change.0 * 2 ^ 82) end change.1 changes known.4 k (omega arith)).0)
  ascend from end value (change ∷ changes) known (suc i) (suc k) lt l = ascend (change.0 * 2 ^ 82) end change.1 changes known.4 i k (omega arith) (omega arith)

  module _ (steps block value : ℕ) (changes : List (ℕ × ℕ)) (known : HasList Has steps block value changes) where
    -- the numbers of the block have the bits before the last 114 in common
    common : (number : ℕ) → number / 2 ^ (6 * steps) ≡ block → number / 2 ^ 82 / 2 ^ 32 ≡ block / 2 ^ (114 - 6 * steps)
    common number here =
        let e : 6 * steps + (114 - 6 * steps) ≡ 114 = omega (arith, known.3) in
        shr-shr number 82 32 ∙ (ap (λ j. number / 2 ^ j) (sym e) ∙ (sym (shr-shr number (6 * steps) (114 - 6 * steps)) ∙ ap (λ n. n / 2 ^ (114 - 6 * steps)) here))

    common_change : (i : ℕ) → i < length changes → (get_or changes i (0, 0)).0 / 2 ^ 32 ≡ block / 2 ^ (114 - 6 * steps)
    common_change i l =
        let s = 2 ^ (6 * steps) in
        let start = (get_or changes i (0, 0)).0 in
        let inside = between (block * s) ((block + 1) * s) value changes known.2 i l in
        ap (λ n. n / 2 ^ 32) (sym (shl-shr start 82)) ∙ common (start * 2 ^ 82) (of_block (start * 2 ^ 82) block s (pow_pos (6 * steps)) (omega (arith, inside.0)) inside.1)

    -- so that the words of the changes ascend
    pub ordered : AreOrdered changes
    ordered i k lt l = omega (
      arith,
      ascend (block * 2 ^ (6 * steps)) ((block + 1) * 2 ^ (6 * steps)) value changes known.2 i k lt l,
      common_change i (omega arith),
      common_change k l,
      shr_split (get_or changes i (0, 0)).0 32,
      shr_split (get_or changes k (0, 0)).0 32,
    )

  -- a change lies between multiples of its block, so that it is none of theirs
  pub list_long : (steps block value : ℕ) (changes : List (ℕ × ℕ)) → HasList Has steps block value changes → 82 < 6 * steps
  unfolding AreChanges
  list_long steps block value [] known = absurd (omega (arith, known.0))
  list_long steps block value (change ∷ changes) known = elim (cases_lt 82 (6 * steps)) [
    | inl lt ↦ lt
    | inr le ↦
        let s = 2 ^ (6 * steps) in
        let m = change.0 * 2 ^ (82 - 6 * steps) in
        let e : 82 - 6 * steps + 6 * steps ≡ 82 = omega (arith, le) in
        let is : m * s ≡ change.0 * 2 ^ 82 = mul_assoc change.0 (2 ^ (82 - 6 * steps)) s ∙ ap (λ n. change.0 * n) (sym (pow-add 2 (82 - 6 * steps) (6 * steps)) ∙ ap (λ j. 2 ^ j) e) in
        elim (cases_lt block m) [
          | inl more ↦ absurd (omega (arith, mul-le (block + 1) s m s (omega (arith, more)) (omega arith), is, known.2.1))
          | inr upto ↦ absurd (omega (arith, mul-le m s block s (omega (arith, upto)) (omega arith), is, known.2.0))
        ]
  ]

  -- a number has the value of the last change up to it
  found_has : (from end value : ℕ) (changes : List (ℕ × ℕ)) (number result : ℕ) → AreChanges Has from end value changes → from ≤ number → number < end
      → (count : ℕ) → count ≤ length changes → result ≡ get_or (value ∷ map (λ (change : ℕ × ℕ). change.1) changes) count 0
      → ((i : ℕ) → i < count → (get_or changes i (0, 0)).0 ≤ number / 2 ^ 82) → (count < length changes → number / 2 ^ 82 < (get_or changes count (0, 0)).0) → Has number result
  unfolding AreChanges
  found_has from end value [] number result known le lt count within is before after =
      let z : count ≡ 0 = omega arith in
      subst (Has number) (sym (is ∙ ap (λ n. get_or (value ∷ []) n 0) z)) (known.1 number le lt)
  found_has from end value (change ∷ changes) number result known le lt zero within is before after =
      subst (Has number) (sym is) (known.3.1 number le (omega (arith, after (omega arith), shr_split number 82, mod_below number (2 ^ 82) (pow_pos 82))))
  found_has from end value (change ∷ changes) number result known le lt (suc count) within is before after =
      found_has (change.0 * 2 ^ 82) end change.1 changes number result known.4 (omega (arith, before 0 (omega arith), shr_split number 82)) lt count (omega arith) is
      (λ i l. before (suc i) (omega arith)) (λ l. after (omega arith))

  pub list_has : (steps number value : ℕ) (changes : List (ℕ × ℕ)) (result : ℕ) → HasList Has steps (number / 2 ^ (6 * steps)) value changes
      → IsValueAt value changes (number / 2 ^ 82 % 2 ^ 32) result → Has number result
  list_has steps number value changes result known at =
      let block = number / 2 ^ (6 * steps) in
      let inside = in_block number block (2 ^ (6 * steps)) (pow_pos (6 * steps)) refl in
      let here = common steps block value changes known number refl in
      let split = shr_split (number / 2 ^ 82) 32 in
      found_has (block * 2 ^ (6 * steps)) ((block + 1) * 2 ^ (6 * steps)) value changes number result known.2 inside.0 inside.1 at.count at.within at.is
      (λ i l. omega (arith, at.before i l, common_change steps block value changes known i (omega (arith, at.within)), here, split, shr_split (get_or changes i (0, 0)).0 32))
      (λ l. omega (arith, at.behind l, common_change steps block value changes known at.count l, here, split, shr_split (get_or changes at.count (0, 0)).0 32))

  module _ (one_value : (number value value' : ℕ) → Has number value → Has number value' → value ≡ value') where
    -- numbers that have one value have no change between them
    no_earlier : (from end last value value' : ℕ) (change : ℕ × ℕ) (changes : List (ℕ × ℕ)) → HaveBefore Has from last value
        → AreChanges Has from end value' (change ∷ changes) → change.0 * 2 ^ 82 < last → ⊥
    unfolding AreChanges
    no_earlier from end last value value' change changes have known lt =
        let at = change.0 * 2 ^ 82 in
        let one = one_value from value value' (have.1 from (omega arith) (omega (arith, known.0, lt))) (known.3.1 from (omega arith) known.0) in
        let two = one_value at value change.1 (have.1 at (omega (arith, known.0)) lt) (first_has at end change.1 changes known.1 known.4).1 in
        known.2 (sym one ∙ two)

    one_changes : (from end value value' : ℕ) (changes changes' : List (ℕ × ℕ)) → from < end → AreChanges Has from end value changes
        → AreChanges Has from end value' changes' → (value ≡ value') × (changes ≡ changes')
    unfolding AreChanges
    one_changes from end value value' [] [] lt known known' = (one_value from value value' (known.1 from (omega arith) lt) (known'.1 from (omega arith) lt), refl)
    one_changes from end value value' [] (change' ∷ changes') lt known known' = absurd (no_earlier from end end value value' change' changes' known known' known'.1)
    one_changes from end value value' (change ∷ changes) [] lt known known' = absurd (no_earlier from end end value' value change changes known' known known.1)
    one_changes from end value value' (change ∷ changes) (change' ∷ changes') lt known known' = elim (cases_eq change.0 change'.0) [
      | inl e ↦
          let rest = one_changes (change.0 * 2 ^ 82) end change.1 change'.1 changes changes' known.1 known.4
          (subst (λ (s : ℕ). AreChanges Has (s * 2 ^ 82) end change'.1 changes') (sym e) known'.4) in
          let same : change ≡ change' = ap₂ (λ (a b : ℕ). (a, b)) e rest.0 in
          (one_value from value value' (known.3.1 from (omega arith) known.0) (known'.3.1 from (omega arith) known'.0), ap₂ (λ (c : ℕ × ℕ) (cs : List (ℕ × ℕ)). c ∷ cs) same rest.1)
      | inr other ↦ elim (cases_lt change.0 change'.0) [
        | inl less ↦ absurd (no_earlier from end (change'.0 * 2 ^ 82) value' value change changes known'.3 known (omega (arith, less)))
        | inr not_less ↦ absurd (no_earlier from end (change.0 * 2 ^ 82) value value' change' changes' known.3 known' (omega (arith, not_less, other)))
      ]
    ]

    -- a block has one value and one list of changes
    pub one_list : (steps block value value' : ℕ) (changes changes' : List (ℕ × ℕ)) → AreChanges Has (block * 2 ^ (6 * steps)) ((block + 1) * 2 ^ (6 * steps)) value changes
        → AreChanges Has (block * 2 ^ (6 * steps)) ((block + 1) * 2 ^ (6 * steps)) value' changes' → (value ≡ value') × (changes ≡ changes')
    one_list steps block value value' changes changes' known known' =
        one_changes (block * 2 ^ (6 * steps)) ((block + 1) * 2 ^ (6 * steps)) value value' changes changes' (omega (arith, pow_pos (6 * steps))) known known'
