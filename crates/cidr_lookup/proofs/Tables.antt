-- A look-up table is unique, so that other words have a first one that differs.
use Rattle.std.proofs.Common.{◌≡◌, ◌≢◌, refl, sym, ap, subst, ◌∙◌, arith, inl, inr, ℕ, ◌+◌, ◌^◌, ◌<◌, ◌≤◌, List, [], ◌∷◌, Some, length, get_or, take, drop, slice_get, ext_get_or, length-append, length-take-le, take_all, take-append-drop}
use Rattle.std.proofs.Math.Seq.{take-append_seam}
use Rattle.std.proofs.lemmas.List.{get_or_at}
use Rattle.std.proofs.lemmas.Option.{none-some, slice_get-get_or, slice_get_past}
use Rattle.cidr_lookup.specs.Faults.{IsFirstOther}
use Rattle.cidr_lookup.specs.Nodes.{AreEntries, IsEntry}
use Rattle.cidr_lookup.specs.Putting.{StopsBefore}
use Rattle.cidr_lookup.specs.Tables.{HasTooManyWords, IsAnswer, IsLookupTable}
use Rattle.cidr_lookup.proofs.Blocks.{one_count}
use Rattle.cidr_lookup.proofs.Entries.{all_unique, unique}
use Rattle.cidr_lookup.proofs.BlockAnswers.{one_answer}

pub one_table : (w padding steps : ℕ) (networks : List (ℕ × ℕ)) (first words first' words' : List ℕ) → IsLookupTable w padding steps networks first words
    → IsLookupTable w padding steps networks first' words' → (first ≡ first') × (words ≡ words')
one_table w padding steps networks first words first' words' table table' =
    let Has = IsAnswer w padding networks in
    let count : length first ≡ length first' = one_count steps (2 ^ (w + padding)) (length first) (length first') table.size table'.size in
    let entries = subst (λ n. AreEntries (IsEntry Has steps) 0 n [] first' words') (sym count) table'.entries in
    let both = all_unique (IsEntry Has steps) (unique Has (one_answer w padding networks table.keys) steps) 0 (length first) [] first first' words words' table.entries entries in
    (ext_get_or 0 first first' count both.0, both.1)

-- and so has too many words, if it has
pub too_large : (w padding steps : ℕ) (networks : List (ℕ × ℕ)) (first words : List ℕ) → IsLookupTable w padding steps networks first words → 2 ^ 30 ≤ length words
    → HasTooManyWords w padding steps networks
too_large w padding steps networks first words table many = λ first' words' table'.
    omega (arith, many, ap length (one_table w padding steps networks first words first' words' table table').1)

-- or if so many were put before one that is not taken
pub many_words : (put all : List ℕ) (Refuses : ℕ → Type 0) → 2 ^ 30 ≤ length put → StopsBefore put Refuses all → 2 ^ 30 ≤ length all
many_words put all Refuses many (inl (word, rest, whole, refused)) = omega (arith, many, ap length whole, length-append put (word ∷ rest))
many_words put all Refuses many (inr (full, (rest, whole))) = omega (arith, full, ap length whole, length-append put rest)

-- as many of the words as were put
pub put_front : (words : List ℕ) (index : ℕ) → take (length (take index words)) words ≡ take index words
put_front words index =
    ap (take (length (take index words))) (sym (take-append-drop index words)) ∙ take-append_seam (take index words) (drop index words)

-- a word that is not taken is the first other one
pub first_other : (words all : List ℕ) (index : ℕ) → length words < 2 ^ 30
    → StopsBefore (take index words) (λ word. slice_get words (length (take index words)) ≢ Some word) all → IsFirstOther words all (length (take index words))
first_other words all index few (inr (full, more)) = absurd (omega (arith, ap length (take-append-drop index words), length-append (take index words) (drop index words)))
first_other words all index few (inl (word, rest, whole, refused)) =
    let front = take index words in
    let n = length front in
    let here : slice_get all n ≡ Some word = slice_get-get_or all n 0 (omega (arith, ap length whole, length-append front (word ∷ rest)))
    ∙ ap Some (ap (λ x. get_or x n 0) whole ∙ get_or_at front word rest 0 n refl) in
    (put_front words index ∙ sym (ap (take n) whole ∙ take-append_seam front (word ∷ rest)), λ same. refused (same ∙ here))

-- and so is one behind the last
pub longer : (words all : List ℕ) (index : ℕ) → index < length words → all ≡ take index words → IsFirstOther words all index
longer words all index l is =
    let size : length (take index words) ≡ index = length-take-le index words (omega arith) in (
      sym (ap (take index) is ∙ take_all index (take index words) (omega arith)),
      λ same. none-some (get_or words index 0) (sym (slice_get_past all index (omega (arith, size, ap length is))) ∙ (sym same ∙ slice_get-get_or words index 0 l)),
    )
