-- The table of the longest runs of zeros, held against std's longest run for each set of zeros among eight groups.
use Rattle.std.proofs.Common.{◌≡◌, ℕ, zero, suc, ◌+◌, ◌*◌, ◌/◌, ◌%◌, ◌^◌, ◌<◌, ◌≤◌, Bool, List, [], ◌∷◌, ◌++◌, length, map, take, get_or, ◌==◌, if◌then◌else◌, add-one, refl, sym, ap, subst, ◌∙◌, arith}
use Rattle.std.proofs.Math.Seq.{take-suc}
use Rattle.std.proofs.Math.Pow.{pow_mono}
use Rattle.std.proofs.lemmas.Bool.Decides.{nat_tests}
use Rattle.std.proofs.lemmas.List.{map_push, length-map, length-take}
use Rattle.std.proofs.lemmas.List.FromFn.{get_or-map-range_with_len}
use Rattle.std.specs.List.{range_with_len}
use Rattle.std.specs.Net.Text.{zero_run, longest_zero_run}
use Rattle.cidr.specs.model.Bits.{bits, number}
use Rattle.cidr.specs.laws.BitLaws.{number-lt, number-append, bits-number}
use Rattle.cidr.specs.declared.addr.print_v6.TheConstants.{RUNS}

abbrev zeros : List ℕ → List Bool
zeros groups = map (λ g. g == 0) groups

-- the number grows by a bit for each group
pub no_place : number [] ≡ 0
unfolding number
no_place = refl

pub one_more_place : (groups : List ℕ) (i : ℕ) → i < length groups
    → number (map (λ g. g == 0) (take (i + 1) groups))
    ≡ 2 * number (map (λ g. g == 0) (take i groups)) + (if get_or groups i 0 == 0 then 1 else 0)
unfolding number
one_more_place groups i h =
    let front = take i groups in
    let last = get_or groups i 0 in
    let taken : take (i + 1) groups ≡ front ++ last ∷ [] = rw add-one (take-suc groups i 0 h) in
    let whole : number (zeros (front ++ last ∷ [])) ≡ number (zeros front) * 2 + ((if last == 0 then 1 else 0) + 0) =
    ap number (map_push (λ g. g == 0) front last) ∙ number-append (zeros front) ((last == 0) ∷ []) in
    ap (λ t. number (zeros t)) taken ∙ whole ∙ omega arith

places_below : (groups : List ℕ) (k : ℕ) → length groups ≤ k → number (zeros groups) < 2 ^ k
places_below groups k few =
    let at_most : length (zeros groups) ≤ k = omega (arith, length-map groups (λ g. g == 0)) in
    omega (arith, number-lt (zeros groups), pow_mono at_most)

pub places_so_far : (groups : List ℕ) (i : ℕ) → i < 8 → number (map (λ g. g == 0) (take i groups)) < 128
places_so_far groups i h = places_below (take i groups) 7 (omega (arith, length-take i groups))

pub all_places : (groups : List ℕ) → length groups ≡ 8 → number (map (λ g. g == 0) groups) < 256
all_places groups e = places_below groups 8 (omega arith)

pub ruleset place_laws = (no_place, one_more_place, places_so_far, all_places)

-- the run is that of groups that are 0 or 1
abbrev marks : List Bool → List ℕ
marks bs = map (λ b. if b then 0 else 1) bs

marked_run : (groups : List ℕ) → zero_run (marks (zeros groups)) ≡ zero_run groups
marked_run [] = refl
marked_run (zero ∷ rest) = ap (λ n. 1 + n) (marked_run rest)
marked_run (suc g ∷ rest) = grind (arith, nat_tests)

marked_longest : (groups : List ℕ) → longest_zero_run (marks (zeros groups)) ≡ longest_zero_run groups
marked_longest [] = refl
marked_longest (g ∷ rest) = rw (marked_run (g ∷ rest), marked_longest rest) refl

-- the rows of the table
abbrev row : ℕ → ℕ × ℕ
row n = (get_or RUNS n 0 / 16, get_or RUNS n 0 % 16)

abbrev run_of : ℕ → ℕ × ℕ
run_of n = longest_zero_run (marks (bits 8 n))

rows_are : map row (range_with_len 0 256) ≡ map run_of (range_with_len 0 256)
unfolding bits
rows_are = refl

row_is : (n : ℕ) → n < 256 → row n ≡ run_of n
row_is n h =
    sym (get_or-map-range_with_len row 0 256 n n (0, 0) h (omega arith)) ∙ ap (λ t. get_or t n (0, 0)) rows_are
    ∙ get_or-map-range_with_len run_of 0 256 n n (0, 0) h (omega arith)

bits_of_places : (groups : List ℕ) (n : ℕ) → length groups ≡ 8 → n ≡ number (zeros groups) → bits 8 n ≡ zeros groups
bits_of_places groups n e is =
    let width : length (zeros groups) ≡ 8 = length-map groups (λ g. g == 0) ∙ e in
    ap (bits 8) is ∙ ap (λ (w : ℕ). bits w (number (zeros groups))) (sym width) ∙ bits-number (zeros groups)

pub run_in_table : (groups : List ℕ) (n : ℕ) → length groups ≡ 8 → n ≡ number (map (λ g. g == 0) groups)
    → (get_or RUNS n 0 / 16, get_or RUNS n 0 % 16) ≡ longest_zero_run groups
run_in_table groups n e is =
    let below : n < 256 = omega (arith, all_places groups e) in
    row_is n below ∙ ap (λ bs. longest_zero_run (marks bs)) (bits_of_places groups n e is) ∙ marked_longest groups

-- a run is among the groups
run_fits : (groups : List ℕ) → zero_run groups ≤ length groups
run_fits [] = omega arith
run_fits (g ∷ rest) = grind (arith, nat_tests, run_fits rest)

longest_fits : (groups : List ℕ) → (longest_zero_run groups).0 + (longest_zero_run groups).1 ≤ length groups
longest_fits [] = omega arith
longest_fits (g ∷ rest) = grind (arith, run_fits (g ∷ rest), longest_fits rest)

pub run_among_groups : (groups : List ℕ) (start len : ℕ) → (start, len) ≡ longest_zero_run groups
    → start + len ≤ length groups
run_among_groups groups start len e = subst (λ (r : ℕ × ℕ). r.0 + r.1 ≤ length groups) (sym e) (longest_fits groups)

pub ruleset run_laws = (run_in_table)
