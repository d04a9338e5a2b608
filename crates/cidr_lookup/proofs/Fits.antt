-- The words of a table fit in 32 bits, if there are fewer than 2 ^ 30.
use Rattle.std.proofs.Common.{◌≡◌, refl, sym, ap, subst, arith, inl, inr, ℕ, zero, suc, ◌+◌, ◌-◌, ◌*◌, ◌/◌, ◌%◌, ◌^◌, ◌<◌, List, [], ◌∷◌, ◌++◌, length, map, get_or, length-append}
use Rattle.std.proofs.lemmas.Bool.{cases_lt, cond_both}
use Rattle.std.proofs.lemmas.List.{get_or_append_left, get_or-append_right}
use Rattle.std.proofs.lemmas.Nat.{mod_below, pow_pos, shr_below}
use Rattle.cidr_lookup.specs.Nodes.{AreEntries, IsEntry, IsLeaf, list}
use Rattle.cidr_lookup.specs.Putting.{begins_run, marks, node, runs}
use Rattle.cidr_lookup.specs.Searching.{change_word}
use Rattle.cidr_lookup.specs.Tables.{IsAnswer, IsLookupTable}
use Rattle.cidr_lookup.proofs.Changes.{first_has, values_small}
use Rattle.cidr_lookup.proofs.Entries.{grows}
use Rattle.cidr_lookup.proofs.Nodes.{marks_fit, node_words}

-- each of the words fits
abbrev pub AllFit : List ℕ → Type 0
AllFit words = (k : ℕ) → k < length words → get_or words k 0 < 2 ^ 32

none_fit : AllFit []
none_fit = λ k l. absurd (omega arith)

word_fits : (word : ℕ) (words : List ℕ) → word < 2 ^ 32 → AllFit words → AllFit (word ∷ words)
word_fits word words fits all zero l = fits
word_fits word words fits all (suc k) l = all k (omega arith)

both_fit : (front back : List ℕ) → AllFit front → AllFit back → AllFit (front ++ back)
both_fit front back fits fits' = λ k l. elim (cases_lt k (length front)) [
  | inl less ↦ omega (arith, get_or_append_left front back 0 k less, fits k less)
  | inr not_less ↦
      omega (
        arith,
        get_or-append_right front back (length front) k 0 refl (omega (arith, not_less)),
        fits' (k - length front) (omega (arith, l, not_less, length-append front back)),
      )
]

runs_fit : (entries : List ℕ) (n : ℕ) → ((i : ℕ) → i < n → get_or entries i 0 < 2 ^ 32) → AllFit (runs entries n)
unfolding runs
runs_fit entries zero fits = none_fit
runs_fit entries (suc n) fits =
    let old = runs_fit entries n (λ i l. fits i (omega arith)) in
    cond_both (begins_run entries n) (runs entries n ++ get_or entries n 0 ∷ []) (runs entries n) AllFit
    (λ _. both_fit (runs entries n) (get_or entries n 0 ∷ []) old (word_fits (get_or entries n 0) [] (fits n (omega arith)) none_fit)) (λ _. old)

node_fits : (entries : List ℕ) → ((i : ℕ) → i < 64 → get_or entries i 0 < 2 ^ 32) → AllFit (node entries)
node_fits entries fits =
    word_fits (marks entries 64 % 2 ^ 32) (marks entries 64 / 2 ^ 32 ∷ runs entries 64) (mod_below (marks entries 64) (2 ^ 32) (pow_pos 32))
    (word_fits (marks entries 64 / 2 ^ 32) (runs entries 64) (shr_below (marks entries 64) 32 32 (marks_fit entries 64)) (runs_fit entries 64 fits))

starts_fit : (changes : List (ℕ × ℕ)) → AllFit (map change_word changes)
starts_fit [] = none_fit
starts_fit (change ∷ changes) = word_fits (change_word change) (map change_word changes) (mod_below change.0 (2 ^ 32) (pow_pos 32)) (starts_fit changes)

values_fit : (changes : List (ℕ × ℕ)) → ((i : ℕ) → i < length changes → (get_or changes i (0, 0)).1 < 2 ^ 31) → AllFit (map (λ (change : ℕ × ℕ). change.1) changes)
values_fit [] fits = none_fit
values_fit (change ∷ changes) fits = word_fits change.1 (map (λ (change : ℕ × ℕ). change.1) changes) (omega (arith, fits 0 (omega arith))) (values_fit changes (λ i l. fits (suc i) (omega arith)))

-- what is put behind words that fit
module _ (IsOne : (block : ℕ) (before : List ℕ) (entry : ℕ) (after : List ℕ) → Type 0)
    (grow : (block : ℕ) (before : List ℕ) (entry : ℕ) (after : List ℕ) → IsOne block before entry after → (rest : List ℕ) × (after ≡ before ++ rest))
    (one : (block : ℕ) (before : List ℕ) (entry : ℕ) (after : List ℕ) → IsOne block before entry after → length after < 2 ^ 30 → AllFit before
    → (entry < 2 ^ 32) × AllFit after) where
  all_fit : (first n : ℕ) (before entries after : List ℕ) → AreEntries IsOne first n before entries after → length after < 2 ^ 30 → AllFit before
      → ((i : ℕ) → i < n → get_or entries i 0 < 2 ^ 32) × AllFit after
  unfolding AreEntries
  all_fit first zero before entries after known few fits = (λ i l. absurd (omega arith), subst AllFit (sym known) fits)
  all_fit first (suc n) before entries after (middle, front, last) few fits =
      let more = grow (first + n) middle (get_or entries n 0) after last in
      let old = all_fit first n before entries middle front (omega (arith, ap length more.1, length-append middle more.0)) fits in
      let new = one (first + n) middle (get_or entries n 0) after last few old.1 in (
        λ i l. elim (cases_lt i n) [
          | inl less ↦ old.0 i less
          | inr not_less ↦ let e : i ≡ n = omega (arith, l, not_less) in omega (arith, ap (λ k. get_or entries k 0) e, new.0)
        ],
        new.1,
      )

module _ (Has : (number value : ℕ) → Type 0) where
  leaf_fits : (steps block : ℕ) (before : List ℕ) (entry : ℕ) (after : List ℕ) → IsLeaf Has steps block before entry after → length after < 2 ^ 30 → AllFit before
      → (entry < 2 ^ 32) × AllFit after
  leaf_fits steps block before entry after (value, changes, known, inl (none, is, same)) few fits =
      let s = 2 ^ (6 * steps) in
      let lt : block * s < (block + 1) * s = omega (arith, pow_pos (6 * steps)) in
      (omega (arith, is, (first_has Has (block * s) ((block + 1) * s) value changes lt known).0), subst AllFit (sym same) fits)
  leaf_fits steps block before entry after (value, changes, known, inr (some, less, low, is, all)) few fits =
      let short : length before < 2 ^ 30 = omega (arith, ap length all, length-append before (list value changes)) in
      let s = 2 ^ (6 * steps) in
      let lt : block * s < (block + 1) * s = omega (arith, pow_pos (6 * steps)) in
      let list_fits : AllFit (list value changes) = word_fits (length changes) (map change_word changes ++ value ∷ map (λ (change : ℕ × ℕ). change.1) changes) (omega (arith, less))
      (both_fit (map change_word changes) (value ∷ map (λ (change : ℕ × ℕ). change.1) changes) (starts_fit changes)
      (word_fits value (map (λ (change : ℕ × ℕ). change.1) changes) (omega (arith, (first_has Has (block * s) ((block + 1) * s) value changes lt known).0))
      (values_fit changes (values_small Has (block * s) ((block + 1) * s) value changes lt known)))) in
      (omega (arith, is, short), subst AllFit (sym all) (both_fit before (list value changes) fits list_fits))

  entry_fits : (steps block : ℕ) (before : List ℕ) (entry : ℕ) (after : List ℕ) → IsEntry Has steps block before entry after → length after < 2 ^ 30 → AllFit before
      → (entry < 2 ^ 32) × AllFit after
  unfolding IsEntry
  entry_fits zero block before entry after known few fits = leaf_fits zero block before entry after known few fits
  entry_fits (suc steps) block before entry after (inl known) few fits = leaf_fits (suc steps) block before entry after known few fits
  entry_fits (suc steps) block before entry after (inr (none, (entries, set, kept, middle, are, parts, is, put))) few fits =
      let all = node_words entries set kept are middle after put in
      let short : length middle < 2 ^ 30 = omega (arith, ap length all, length-append middle (node entries)) in
      let old = all_fit (IsEntry Has steps) (grows Has steps) (entry_fits steps) (block * 64) 64 before entries middle parts short fits in
      (omega (arith, is, short), subst AllFit (sym all) (both_fit middle (node entries) old.1 (node_fits entries old.0)))

pub table_fits : (w padding steps : ℕ) (networks : List (ℕ × ℕ)) (first words : List ℕ) → IsLookupTable w padding steps networks first words
    → length words < 2 ^ 30 → AllFit first × AllFit words
table_fits w padding steps networks first words table few =
    let Has = IsAnswer w padding networks in
    all_fit (IsEntry Has steps) (grows Has steps) (entry_fits Has steps) 0 (length first) [] first words table.entries few none_fit
