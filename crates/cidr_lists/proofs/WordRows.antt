-- Words with a space between two: which is the first, and what stands behind it.
use Rattle.std.proofs.Common.{◌≡◌, refl, sym, ◌∙◌, ap, subst, arith, ℕ, zero, suc, ◌+◌, ◌-◌, ◌<◌, Bool, true, false, List, [], ◌∷◌, ◌++◌, length, take, drop, slice_index, length-append, append-nil}
use Rattle.std.specs.Char.{is_ascii_whitespace}
use Rattle.std.specs.List.{before_first}
use Rattle.std.specs.Str.{IsTrimAscii, IsTrimAsciiStart}
use Rattle.std.proofs.lemmas.List.{get_or_append_left, get_or-append-add, take_at, drop_at, take_all}
use Rattle.std.proofs.lemmas.List.Sums.{position_or_len_is}
use Rattle.std.proofs.lemmas.Str.Ascii.{trim_ascii_is, trim_ascii_start_is}
use Rattle.cidr_lists.specs.Fields.{AreFirstAndRest}
use Rattle.cidr_lists.specs.RowLines.{joined, spaced}

abbrev white : ℕ → Bool
white byte = is_ascii_whitespace byte

-- a word, and words
abbrev pub IsWord : List ℕ → Type 0
IsWord word = (0 < length word) × ((i : ℕ) → i < length word → white (slice_index word i) ≡ false)

abbrev pub AreWords : List (List ℕ) → Type 0
AreWords [] = Unit {0}
AreWords (word ∷ words) = IsWord word × AreWords words

-- no white space at the ends
abbrev IsBare : List ℕ → Type 0
IsBare text = (0 < length text → white (slice_index text 0) ≡ false) × ((i : ℕ) → i + 1 ≡ length text → white (slice_index text i) ≡ false)

bare_trimmed : (text : List ℕ) → IsBare text → IsTrimAscii text text
bare_trimmed text h = (
  0,
  sym (take_all (length text) text (omega arith)),
  λ i below. absurd (omega (arith, below)),
  h.0,
  λ i from within. absurd (omega (arith, from, within)),
  λ some. h.1 (length text - 1) (omega (arith, some)),
)

bare_start : (text : List ℕ) → IsBare text → IsTrimAsciiStart text text
bare_start text h = (0, refl, omega arith, (λ i below. absurd (omega (arith, below))), h.0)

-- behind a space
behind_space : (text : List ℕ) → 0 < length text → IsBare text → IsTrimAscii (32 ∷ text) text
behind_space text some h = (
  1,
  sym (take_all (length text) text (omega arith)),
  first_white,
  λ inside. h.0 some,
  λ i from within. absurd (omega (arith, from, within)),
  λ more. h.1 (length text - 1) (omega (arith, more)),
)
  where
    first_white : (i : ℕ) → i < 1 → white (slice_index (32 ∷ text) i) ≡ true
    first_white zero below = refl
    first_white (suc i) below = absurd (omega (arith, below))

-- words are bare
joined_some : (word : List ℕ) (words : List (List ℕ)) → IsWord word → 0 < length (joined (word ∷ words))
joined_some word words h = omega (arith, h.0, length-append word (spaced words))

first_plain : (word : List ℕ) (words : List (List ℕ)) → IsWord word → white (slice_index (joined (word ∷ words)) 0) ≡ false
first_plain word words h = ap white (get_or_append_left word (spaced words) 0 0 h.0) ∙ h.1 0 h.0

last_plain : (word : List ℕ) (words : List (List ℕ)) → AreWords (word ∷ words) → (i : ℕ) → i + 1 ≡ length (joined (word ∷ words))
    → white (slice_index (joined (word ∷ words)) i) ≡ false
last_plain word [] h i last =
    let size : i + 1 ≡ length word = last ∙ ap length (append-nil word) in
    ap white (get_or_append_left word [] 0 i (omega (arith, size))) ∙ h.0.1 i (omega (arith, size))
last_plain word (next ∷ words) h i last =
    let rest = joined (next ∷ words) in
    let some = joined_some next words h.1.0 in
    let j : ℕ = length rest - 1 in
    let at : i ≡ length word + (1 + j) = omega (arith, last, length-append word (32 ∷ rest), some) in
    ap (λ k. white (slice_index (word ++ 32 ∷ rest) k)) at
    ∙ (ap white (get_or-append-add word (32 ∷ rest) (1 + j) 0) ∙ (ap (λ k. white (slice_index (32 ∷ rest) k)) one_more ∙ last_plain next words h.1 j (omega (arith, some))))
  where
    one_more : 1 + (length (joined (next ∷ words)) - 1) ≡ suc (length (joined (next ∷ words)) - 1)
    one_more = omega arith

pub words_bare : (words : List (List ℕ)) → AreWords words → IsBare (joined words)
words_bare [] h = (λ some. absurd (omega (arith, some)), λ i last. absurd (omega (arith, last)))
words_bare (word ∷ words) h = (λ some. first_plain word words h.0, last_plain word words h)

pub words_trimmed : (words : List (List ℕ)) → AreWords words → IsTrimAscii (joined words) (joined words)
words_trimmed words h = bare_trimmed (joined words) (words_bare words h)

-- the first word and the others
first_is : (word : List ℕ) (words : List (List ℕ)) → IsWord word → before_first is_ascii_whitespace (joined (word ∷ words)) ≡ word
first_is word words h =
    ap (λ n. take n (joined (word ∷ words)))
    (position_or_len_is is_ascii_whitespace (joined (word ∷ words)) (length word) 0 (omega (arith, length-append word (spaced words)))
    (λ k below. ap white (get_or_append_left word (spaced words) 0 k below) ∙ h.1 k below)
    (behind words))
    ∙ take_at word (spaced words) (length word) refl
  where
    behind : (ws : List (List ℕ)) → length word < length (joined (word ∷ ws)) → white (slice_index (joined (word ∷ ws)) (length word)) ≡ true
    behind [] less = absurd (omega (arith, less, length-append word []))
    behind (next ∷ ws) less =
        let rest = 32 ∷ joined (next ∷ ws) in
        let at : length word ≡ length word + 0 = omega arith in
        ap (λ k. white (slice_index (word ++ rest) k)) at ∙ ap white (get_or-append-add word rest 0 0)

rest_is : (words : List (List ℕ)) → AreWords words → IsTrimAscii (spaced words) (joined words)
rest_is [] h = bare_trimmed [] (λ some. absurd (omega (arith, some)), λ i last. absurd (omega (arith, last)))
rest_is (word ∷ words) h = behind_space (joined (word ∷ words)) (joined_some word words h.0) (words_bare (word ∷ words) h)

pub first_and_rest : (word : List ℕ) (words : List (List ℕ)) → AreWords (word ∷ words) → AreFirstAndRest (joined (word ∷ words)) word (joined words)
first_and_rest word words h = (
  (joined (word ∷ words), bare_start (joined (word ∷ words)) (words_bare (word ∷ words) h), sym (first_is word words h.0)),
  subst (λ (text : List ℕ). IsTrimAscii text (joined words)) (sym (drop_at word (spaced words) (length word) refl)) (rest_is words h.1),
)

-- nothing has the empty word in front
pub first_of_nothing : AreFirstAndRest [] [] []
first_of_nothing = (([], bare_start [] nothing, refl), bare_trimmed [] nothing)
  where
    nothing : IsBare []
    nothing = (λ some. absurd (omega (arith, some)), λ i last. absurd (omega (arith, last)))

-- there is one first word, and one rest
pub one_first : (text a b r s : List ℕ) → AreFirstAndRest text a r → AreFirstAndRest text b s → (a ≡ b) × (r ≡ s)
one_first text a b r s ((x, xs, x_is), r_is) ((y, ys, y_is), s_is) =
    let start : x ≡ y = trim_ascii_start_is text x xs ∙ sym (trim_ascii_start_is text y ys) in
    let same : a ≡ b = x_is ∙ (ap (before_first is_ascii_whitespace) start ∙ sym y_is) in
    let other : IsTrimAscii (drop (length a) text) s = subst (λ (k : List ℕ). IsTrimAscii (drop (length k) text) s) (sym same) s_is in
    (same, trim_ascii_is (drop (length a) text) r _ refl r_is ∙ sym (trim_ascii_is (drop (length a) text) s _ refl other))

pub one_trimmed : (text r s : List ℕ) → IsTrimAscii text r → IsTrimAscii text s → r ≡ s
one_trimmed text r s h k = trim_ascii_is text r _ refl h ∙ sym (trim_ascii_is text s _ refl k)
