-- The words of a list: where they stand, and how they are put.
use Rattle.std.proofs.Common.{◌≡◌, refl, sym, ap, ap₂, subst, ◌∙◌, arith, inl, ℕ, zero, suc, ◌+◌, ◌-◌, ◌*◌, ◌/◌, ◌^◌, ◌<◌, ◌≤◌, List, [], ◌∷◌, ◌++◌, length, map, get_or, append_assoc, length-append}
use Rattle.std.proofs.lemmas.List.{get_or_append_left, get_or-append_right, get_or-map, length-map}
use Rattle.cidr_lookup.specs.Nodes.{list}
use Rattle.cidr_lookup.specs.Putting.{StopsBefore}
use Rattle.cidr_lookup.specs.Ranges.{changes_from}
use Rattle.cidr_lookup.specs.Searching.{AreOrdered, AscendAt, IsListAt, change_word}

-- ---- where the words stand
-- behind other words
module _ (front back : List ℕ) (value : ℕ) (changes : List (ℕ × ℕ)) where
  abbrev whole : List ℕ
  whole = front ++ list value changes ++ back

  abbrev values : List ℕ
  values = value ∷ map (λ (change : ℕ × ℕ). change.1) changes

  behind : (i : ℕ) → get_or whole (length front + i) 0 ≡ get_or (list value changes ++ back) i 0
  behind i =
      let e : length front + i - length front ≡ i = omega arith in
      ap (λ l. get_or l (length front + i) 0) (append_assoc front (list value changes) back)
      ∙ (get_or-append_right front (list value changes ++ back) (length front) (length front + i) 0 refl (omega arith) ∙ ap (λ k. get_or (list value changes ++ back) k 0) e)

  count_is : get_or whole (length front) 0 ≡ length changes
  count_is = let e : length front ≡ length front + 0 = omega arith in ap (λ i. get_or whole i 0) e ∙ behind 0

  values_long : length values ≡ length changes + 1
  values_long = omega (arith, length-map changes (λ (change : ℕ × ℕ). change.1))

  abbrev starts : List ℕ
  starts = map change_word changes

  starts_long : length starts ≡ length changes
  starts_long = length-map changes change_word

  list_long : length (list value changes) ≡ 2 * length changes + 2
  list_long = omega (arith, length-append starts values, starts_long, values_long)

  long : length front + (2 * length changes + 2) ≤ length whole
  long = omega (arith, length-append (front ++ list value changes) back, length-append front (list value changes), list_long)

  word_is : (i : ℕ) → i < length changes → get_or whole (length front + 1 + i) 0 ≡ change_word (get_or changes i (0, 0))
  word_is i l =
      let e : length front + 1 + i ≡ length front + suc i = omega arith in
      ap (λ k. get_or whole k 0) e ∙ (behind (suc i) ∙ (get_or_append_left (starts ++ values) back 0 i (omega (arith, length-append starts values, starts_long))
      ∙ (get_or_append_left starts values 0 i (omega (arith, starts_long)) ∙ get_or-map change_word changes i (0, 0) 0 l)))

  value_is : (i : ℕ) → i ≤ length changes → get_or whole (length front + 1 + length changes + i) 0 ≡ get_or values i 0
  value_is i le =
      let e : length front + 1 + length changes + i ≡ length front + suc (length starts + i) = omega (arith, starts_long) in
      let k : length starts + i - length starts ≡ i = omega arith in
      ap (λ j. get_or whole j 0) e ∙ (behind (suc (length starts + i)) ∙ (get_or_append_left (starts ++ values) back 0 (length starts + i) (omega (arith, length-append starts values, values_long, starts_long))
      ∙ (get_or-append_right starts values (length starts) (length starts + i) 0 refl (omega arith) ∙ ap (λ j. get_or values j 0) k)))

-- at a place
pub record IsRead (words : List ℕ) (index value : ℕ) (changes : List (ℕ × ℕ)) : Type 0 where
  pub long : index + (2 * length changes + 2) ≤ length words
  pub count : get_or words index 0 ≡ length changes
  pub word : (i : ℕ) → i < length changes → get_or words (index + 1 + i) 0 ≡ change_word (get_or changes i (0, 0))
  pub is : (i : ℕ) → i ≤ length changes → get_or words (index + 1 + length changes + i) 0 ≡ get_or (value ∷ map (λ (change : ℕ × ℕ). change.1) changes) i 0

pub read : (words : List ℕ) (index value : ℕ) (changes : List (ℕ × ℕ)) → IsListAt words index value changes → IsRead words index value changes
read words index value changes at =
    let here : IsRead (at.front ++ list value changes ++ at.back) (length at.front) value changes = record {
      long = long at.front at.back value changes;
      count = count_is at.front at.back value changes;
      word = word_is at.front at.back value changes;
      is = value_is at.front at.back value changes;
    } in
    subst (λ ws. IsRead ws index value changes) (sym at.all) (subst (λ p. IsRead (at.front ++ list value changes ++ at.back) p value changes) (sym at.here) here)

pub ascend_at : (words : List ℕ) (index value : ℕ) (changes : List (ℕ × ℕ)) (starts count : ℕ) → IsRead words index value changes → AreOrdered changes → starts ≡ index + 1
    → count ≡ length changes → AscendAt words starts count
ascend_at words index value changes starts count at order is all = subst (λ s. AscendAt words s count) (sym is) (λ i k lt l.
    omega (arith, at.word i (omega arith), at.word k (omega arith), order i k lt (omega arith)))

-- ---- the changes to ranges
pub changes_long : (padding : ℕ) (starts answers : List ℕ) (k n : ℕ) → length (changes_from padding starts answers k n) ≡ n
unfolding changes_from
changes_long padding starts answers k zero = refl
changes_long padding starts answers k (suc n) = omega (arith, changes_long padding starts answers (k + 1) n)

-- the last `left` of n ranges from one on, and one fewer
pub changes_left : (padding : ℕ) (starts answers : List ℕ) (from count at : ℕ) → at < count
    → changes_from padding starts answers (from + at) (count - at)
    ≡ (get_or starts (from + at) 0 * 2 ^ padding / 2 ^ 82, get_or answers (from + at) 0) ∷ changes_from padding starts answers (from + (at + 1)) (count - (at + 1))
unfolding changes_from
changes_left padding starts answers from count at l =
    let e : count - at ≡ suc (count - (at + 1)) = omega arith in
    let k : from + at + 1 ≡ from + (at + 1) = omega arith in
    ap (changes_from padding starts answers (from + at)) e
    ∙ ap (λ j. (get_or starts (from + at) 0 * 2 ^ padding / 2 ^ 82, get_or answers (from + at) 0) ∷ changes_from padding starts answers j (count - (at + 1))) k

pub no_changes_left : (padding : ℕ) (starts answers : List ℕ) (from count at : ℕ) → count ≤ at → changes_from padding starts answers (from + at) (count - at) ≡ []
unfolding changes_from
no_changes_left padding starts answers from count at le =
    let e : count - at ≡ 0 = omega arith in
    ap (changes_from padding starts answers (from + at)) e

pub all_left : (padding : ℕ) (starts answers : List ℕ) (from count : ℕ) → changes_from padding starts answers (from + 0) (count - 0) ≡ changes_from padding starts answers from count
all_left padding starts answers from count =
    let k : from + 0 ≡ from = omega arith in
    let n : count - 0 ≡ count = omega arith in
    ap₂ (changes_from padding starts answers) k n

-- ---- words that are put, of all that have to be
-- one more
pub one_put : (put rest all : List ℕ) (word : ℕ) (new : List ℕ) → put ++ (word ∷ rest) ≡ all → new ≡ put ++ word ∷ [] → new ++ rest ≡ all
one_put put rest all word new known is = ap (λ x. x ++ rest) is ∙ (append_assoc put (word ∷ []) rest ∙ known)

-- or not taken
pub not_put : (put rest all : List ℕ) (word : ℕ) (new : List ℕ) (Refuses : ℕ → Type 0) → put ++ (word ∷ rest) ≡ all → new ≡ put → Refuses word → StopsBefore new Refuses all
not_put put rest all word new Refuses known same refused = inl (word, rest, sym (ap (λ x. x ++ word ∷ rest) same ∙ known), refused)

-- of the changes to so many ranges: their starts, or their values
module _ (word : ℕ × ℕ → ℕ) (padding : ℕ) (starts answers : List ℕ) (from count : ℕ) where
  -- the words of those that are left
  abbrev pub words_left : ℕ → List ℕ
  words_left at = map word (changes_from padding starts answers (from + at) (count - at))

  pub next_word : (at : ℕ) → at < count → words_left at ≡ word (get_or starts (from + at) 0 * 2 ^ padding / 2 ^ 82, get_or answers (from + at) 0) ∷ words_left (at + 1)
  next_word at l = ap (map word) (changes_left padding starts answers from count at l)

-- the words of a list one behind the other
module _ (front one two three : List ℕ) (count value : ℕ) (starts rest : List ℕ) (first : one ≡ front ++ count ∷ []) (second : two ≡ one ++ starts) where
  pub starts_put : two ++ (value ∷ rest) ≡ front ++ (count ∷ (starts ++ (value ∷ rest)))
  starts_put =
      ap (λ x. x ++ (value ∷ rest)) (second ∙ ap (λ x. x ++ starts) first)
      ∙ (append_assoc (front ++ count ∷ []) starts (value ∷ rest) ∙ append_assoc front (count ∷ []) (starts ++ (value ∷ rest)))

  pub list_put : three ≡ two ++ value ∷ [] → three ++ rest ≡ front ++ (count ∷ (starts ++ (value ∷ rest)))
  list_put third = one_put two rest (front ++ (count ∷ (starts ++ (value ∷ rest)))) value three starts_put third
