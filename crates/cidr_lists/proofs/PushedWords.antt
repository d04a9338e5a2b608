-- Words that are appended to a text, each behind a space.
use Rattle.std.proofs.Common.{◌≡◌, sym, ◌∙◌, ap, ℕ, List, [], ◌∷◌, ◌++◌, append_assoc, append-nil}
use Rattle.std.proofs.lemmas.List.Concat.{flat_map-append}
use Rattle.cidr_lists.specs.RowLines.{spaced}

spaced-append : (words more : List (List ℕ)) → spaced (words ++ more) ≡ spaced words ++ spaced more
spaced-append words more = flat_map-append (λ (word : List ℕ). 32 ∷ word) words more

-- a space, and then the word
pub word_pushed : (old now new word : List ℕ) → now ≡ old ++ 32 ∷ [] → new ≡ now ++ word → new ≡ old ++ spaced (word ∷ [])
word_pushed old now new word first second =
    second ∙ (ap (λ (k : List ℕ). k ++ word) first ∙ (append_assoc old (32 ∷ []) word ∙ ap (λ (k : List ℕ). old ++ 32 ∷ k) (sym (append-nil word))))

-- words and then more
pub words_pushed : (old now new : List ℕ) (words more : List (List ℕ)) → now ≡ old ++ spaced words → new ≡ now ++ spaced more
    → new ≡ old ++ spaced (words ++ more)
words_pushed old now new words more first second =
    second ∙ (ap (λ (k : List ℕ). k ++ spaced more) first
    ∙ (append_assoc old (spaced words) (spaced more) ∙ ap (λ (k : List ℕ). old ++ k) (sym (spaced-append words more))))

-- the same behind a first word
pub behind_first : (old first now new : List ℕ) (words more : List (List ℕ)) → now ≡ old ++ (first ++ spaced words) → new ≡ now ++ spaced more
    → new ≡ old ++ (first ++ spaced (words ++ more))
behind_first old first now new words more before step =
    let same : now ≡ (old ++ first) ++ spaced words = before ∙ sym (append_assoc old first (spaced words)) in
    words_pushed (old ++ first) now new words more same step ∙ append_assoc old first (spaced (words ++ more))

pub first_pushed : (old new first : List ℕ) → new ≡ old ++ first → new ≡ old ++ (first ++ spaced [])
first_pushed old new first is = is ∙ ap (λ (k : List ℕ). old ++ k) (sym (append-nil first))
