-- The changes of a block are to the ranges that begin in it, at multiples of 2 ^ 82.
use Rattle.std.proofs.Common.{◌≡◌, ◌≢◌, sym, ap, subst, ◌∙◌, arith, inl, inr, ℕ, zero, suc, ◌+◌, ◌*◌, ◌/◌, ◌%◌, ◌^◌, ◌<◌, ◌≤◌, ◌⊎◌, List, [], ◌∷◌, length, get_or}
use Rattle.std.proofs.lemmas.Bool.{cases_eq, cases_lt}
use Rattle.std.proofs.lemmas.Nat.{mul-le, pow_pos, shr_split}
use Rattle.cidr.specs.model.Bits.{bits}
use Rattle.cidr_lookup.specs.Keys.{AreAscendingNetworks}
use Rattle.cidr_lookup.specs.Nodes.{AreChanges, HaveBefore}
use Rattle.cidr_lookup.specs.Putting.{HasList}
use Rattle.cidr_lookup.specs.Ranges.{AreMatchRanges, changes_from}
use Rattle.cidr_lookup.specs.Tables.{IsAnswer}
use Rattle.cidr_lookup.proofs.BlockAnswers.{answered, one_answer}
use Rattle.cidr_lookup.proofs.Blocks.{ends_before, ends_behind}
use Rattle.cidr_lookup.proofs.Changes.{first_has}
use Rattle.cidr_lookup.proofs.Lists.{changes_long}
use Rattle.cidr_lookup.proofs.Longest.{row_within}

multiple : (number : ℕ) → number % 2 ^ 82 ≡ 0 → number / 2 ^ 82 * 2 ^ 82 ≡ number
multiple number whole = omega (arith, shr_split number 82, whole)

module _ (w padding : ℕ) (networks : List (ℕ × ℕ)) (starts answers : List ℕ) (ranges : AreMatchRanges w networks starts answers) (few : length networks < 2 ^ 31) where
  abbrev Has : ℕ → ℕ → Type 0
  Has = IsAnswer w padding networks

  abbrev begin : ℕ → ℕ
  begin k = get_or starts k 0 * 2 ^ padding

  ascending : (k : ℕ) → k + 1 < length starts → begin k < begin (k + 1)
  ascending k l =
      let up : (get_or starts k 0 + 1) * 2 ^ padding ≤ begin (k + 1) =
      mul-le (get_or starts k 0 + 1) (2 ^ padding) (get_or starts (k + 1) 0) (2 ^ padding) (omega (arith, ranges.ordered.ascending k (k + 1) (omega arith) l)) (omega arith) in
      omega (arith, up, pow_pos padding)

  upto_j : (k j : ℕ) → k < j → j < length starts → begin (k + 1) ≤ begin j
  upto_j k j lt l = elim (cases_eq (k + 1) j) [
    | inl e ↦ omega (arith, ap begin e)
    | inr other ↦ omega (arith, mul-le (get_or starts (k + 1) 0) (2 ^ padding) (get_or starts j 0) (2 ^ padding) (omega (arith, ranges.ordered.ascending (k + 1) j (omega arith) l)) (omega arith))
  ]

  -- the numbers of a range
  have : (k from last : ℕ) → k < length starts → begin k ≤ from → from < last → last ≤ 2 ^ (w + padding) → (k + 1 < length starts → last ≤ begin (k + 1))
      → HaveBefore Has from last (get_or answers k 0)
  have k from last within upto lt fits next =
      let all : (number : ℕ) → from ≤ number → number < last → Has number (get_or answers k 0) = λ number le less.
      answered w padding networks starts answers ranges number k (omega (arith, fits, less)) within (omega (arith, upto, le)) (λ l. omega (arith, less, next l)) in
      (omega (arith, few, row_within w networks (bits w (from / 2 ^ padding)) (get_or answers k 0) (all from (omega arith) lt)), all)

  -- ranges that begin at multiples are changes
  pub are_changes : (n k from end : ℕ) → k + n < length starts → begin k ≤ from → from < end → end ≤ 2 ^ (w + padding)
      → (0 < n → from < begin (k + 1)) → ((j : ℕ) → k < j → j ≤ k + n → (begin j % 2 ^ 82 ≡ 0) × (begin j < end))
      → ((j : ℕ) → j ≡ k + n + 1 → j < length starts → end ≤ begin j)
      → AreChanges Has from end (get_or answers k 0) (changes_from padding starts answers (k + 1) n)
  unfolding AreChanges changes_from
  are_changes zero k from end within upto lt fits next each last = have k from end (omega arith) upto lt fits (λ l. last (k + 1) (omega arith) l)
  are_changes (suc n) k from end within upto lt fits next each last =
      let one = each (k + 1) (omega arith) (omega arith) in
      let is : begin (k + 1) / 2 ^ 82 * 2 ^ 82 ≡ begin (k + 1) = multiple (begin (k + 1)) one.0 in
      let after = next (omega arith) in (
        omega (arith, is, after),
        omega (arith, is, one.1),
        ranges.changes k (omega arith),
        have k from (begin (k + 1) / 2 ^ 82 * 2 ^ 82) (omega arith) upto (omega (arith, is, after)) (omega (arith, is, one.1, fits)) (λ l. omega (arith, is)),
        are_changes n (k + 1) (begin (k + 1) / 2 ^ 82 * 2 ^ 82) end (omega arith) (omega (arith, is)) (omega (arith, is, one.1)) fits
            (λ more. omega (arith, is, ascending (k + 1) (omega arith)))
            (λ j less le. each j (omega arith) (omega arith)) (λ j e l. last j (omega arith) l),
      )

  pub has_list : (steps block k n : ℕ) → k + n < length starts → 0 < n → n < 32 → steps < 20 → (block + 1) * 2 ^ (6 * steps) ≤ 2 ^ (w + padding)
      → begin k ≤ block * 2 ^ (6 * steps) → block * 2 ^ (6 * steps) < begin (k + 1)
      → ((j : ℕ) → k < j → j ≤ k + n → (begin j % 2 ^ 82 ≡ 0) × (begin j / 2 ^ (6 * steps) ≤ block)) → (k + n + 1 < length starts → block < begin (k + n + 1) / 2 ^ (6 * steps))
      → HasList Has steps block (get_or answers k 0) (changes_from padding starts answers (k + 1) n)
  has_list steps block k n within some less low fits upto next each last =
      let s = 2 ^ (6 * steps) in
      let pos : 0 < s = pow_pos (6 * steps) in
      let long = changes_long padding starts answers (k + 1) n in (
        omega (arith, long, some),
        omega (arith, long, less),
        are_changes n k (block * s) ((block + 1) * s) within upto (omega (arith, pos)) fits (λ _. next)
            (λ j lt le. ((each j lt le).0, ends_behind (begin j) block s pos (each j lt le).1))
            (λ j e l. subst (λ i. (block + 1) * s ≤ begin i) (sym e) (ends_before (begin (k + n + 1)) block s (last (omega arith)))),
        low,
      )

  module _ (good : AreAscendingNetworks w networks) where
    -- a change begins no later than the next range
    no_later : (k from last value : ℕ) → k + 1 < length starts → begin k ≤ from → from < begin (k + 1) → last ≤ 2 ^ (w + padding) → HaveBefore Has from last value → begin (k + 1) < last → ⊥
    no_later k from last value within upto next fits known lt =
        let one = one_answer w padding networks good from value (get_or answers k 0) (known.1 from (omega arith) (omega (arith, next, lt)))
        (answered w padding networks starts answers ranges from k (omega (arith, next, lt, fits)) (omega arith) upto (λ _. next)) in
        let two = one_answer w padding networks good (begin (k + 1)) value (get_or answers (k + 1) 0) (known.1 (begin (k + 1)) (omega (arith, next)) lt)
        (answered w padding networks starts answers ranges (begin (k + 1)) (k + 1) (omega (arith, lt, fits)) within (omega arith) (λ l. ascending (k + 1) l)) in
        ranges.changes k within (sym one ∙ two)

    -- so each range that begins before the end is at a change
    at_changes : (changes : List (ℕ × ℕ)) (k from end value : ℕ) → AreChanges Has from end value changes → end ≤ 2 ^ (w + padding) → begin k ≤ from → from < end
        → (k + 1 < length starts → from < begin (k + 1)) → (j : ℕ) → k < j → j < length starts → begin j < end → (begin j % 2 ^ 82 ≡ 0) × (j ≤ k + length changes)
    unfolding AreChanges
    at_changes [] k from end value known fits upto lt next j less within before =
        absurd (no_later k from end value (omega arith) upto (next (omega arith)) fits known (omega (arith, upto_j k j less within, before)))
    at_changes (change ∷ changes) k from end value known fits upto lt next j less within before =
        let t = change.0 * 2 ^ 82 in
        let more : k + 1 < length starts = omega arith in
        let after = next more in
        elim (cases_lt (begin (k + 1)) t) [
          | inl earlier ↦ absurd (no_later k from t value more upto after (omega (arith, known.1, fits)) known.3 earlier)
          | inr not_earlier ↦ elim (cases_eq (begin (k + 1)) t) [
            | inl e ↦ elim (cases_eq j (k + 1)) [
              | inl first ↦ (ap (λ i. begin i % 2 ^ 82) first ∙ (ap (λ n. n % 2 ^ 82) e ∙ no_rest change.0), omega arith)
              | inr later ↦
                  let rest = at_changes changes (k + 1) t end change.1 known.4 fits (omega (arith, e)) known.1 (λ l. omega (arith, e, ascending (k + 1) l)) j (omega arith) within before in
                  (rest.0, omega (arith, rest.1))
            ]
            | inr other ↦
                let past : t < begin (k + 1) = omega (arith, not_earlier, other) in
                let in_range = λ (number : ℕ) (from_le : from ≤ number) (less' : number < begin (k + 1)) (short : number < end).
                answered w padding networks starts answers ranges number k (omega (arith, short, fits)) (omega arith) (omega (arith, upto, from_le)) (λ _. less') in
                let one = one_answer w padding networks good from value (get_or answers k 0) (known.3.1 from (omega arith) known.0) (in_range from (omega arith) after lt) in
                let two = one_answer w padding networks good t change.1 (get_or answers k 0) (first_has Has t end change.1 changes known.1 known.4).1 (in_range t (omega (arith, known.0)) past known.1) in
                absurd (known.2 (one ∙ sym two))
          ]
        ]
      where
        no_rest : (n : ℕ) → n * 2 ^ 82 % 2 ^ 82 ≡ 0
        no_rest n = omega arith

    -- where another begins, or too many, there is no list
    pub no_list : (steps block k j : ℕ) → (block + 1) * 2 ^ (6 * steps) ≤ 2 ^ (w + padding) → begin k ≤ block * 2 ^ (6 * steps) → block * 2 ^ (6 * steps) < begin (k + 1)
        → k < j → j < length starts → begin j / 2 ^ (6 * steps) ≤ block → (begin j % 2 ^ 82 ≢ 0) ⊎ (k + 31 < j)
        → ¬ ((value : ℕ) × (changes : List (ℕ × ℕ)) × HasList Has steps block value changes)
    no_list steps block k j fits upto next less within inner other (value, changes, known) =
        let s = 2 ^ (6 * steps) in
        let pos : 0 < s = pow_pos (6 * steps) in
        let at = at_changes changes k (block * s) ((block + 1) * s) value known.2 fits upto (omega (arith, pos)) (λ _. next) j less within (ends_behind (begin j) block s pos inner) in
        elim other [
          | inl rest ↦ rest at.0
          | inr many ↦ omega (arith, many, at.1, known.1)
        ]
