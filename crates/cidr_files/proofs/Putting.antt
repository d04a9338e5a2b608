-- Bytes that are written one behind the other.
use Rattle.std.proofs.Common.{◌≡◌, sym, ◌∙◌, ap, ℕ, ◌+◌, ◌<◌, List, [], ◌∷◌, ◌++◌, append_assoc, length, get_or, map, take}
use Rattle.std.proofs.lemmas.List.{append-nil, map_more, take_more}
use Rattle.cidr_files.specs.Spelling.{spelled_more}
use Rattle.cidr_files.specs.Written.{spelled}

-- one item more
pub item_more : (old now next so_far item all : List ℕ) → now ≡ old ++ so_far → next ≡ now ++ item → so_far ++ item ≡ all → next ≡ old ++ all
item_more old now next so_far item all before put more =
    put ∙ (ap (λ xs. xs ++ item) before ∙ (append_assoc old so_far item ∙ ap (λ xs. old ++ xs) more))

-- one number more of those that items have
pub number_more : {A : Type 0} (bytes : ℕ → List ℕ) (number : A → ℕ) (items : List A) (i : ℕ) (d : A) (old now next item : List ℕ) → i < length items
    → now ≡ old ++ spelled bytes (map number (take i items)) → next ≡ now ++ item → item ≡ bytes (number (get_or items i d))
    → next ≡ old ++ spelled bytes (map number (take (i + 1) items))
number_more bytes number items i d old now next item l before put is =
    item_more old now next (spelled bytes (map number (take i items))) item (spelled bytes (map number (take (i + 1) items))) before put
    (ap (λ xs. spelled bytes (map number (take i items)) ++ xs) is
    ∙ (sym (spelled_more bytes (map number (take i items)) (number (get_or items i d)))
    ∙ ap (spelled bytes) (sym (map_more number items i d l))))

-- one word more
pub word_more : (bytes : ℕ → List ℕ) (words : List ℕ) (i : ℕ) (old now next item : List ℕ) → i < length words
    → now ≡ old ++ spelled bytes (take i words) → next ≡ now ++ item → item ≡ bytes (get_or words i 0)
    → next ≡ old ++ spelled bytes (take (i + 1) words)
word_more bytes words i old now next item l before put is =
    item_more old now next (spelled bytes (take i words)) item (spelled bytes (take (i + 1) words)) before put
    (ap (λ xs. spelled bytes (take i words) ++ xs) is
    ∙ (sym (spelled_more bytes (take i words) (get_or words i 0)) ∙ ap (spelled bytes) (sym (take_more words i 0 l))))

-- none yet
pub none_put : (bytes : ℕ → List ℕ) (old : List ℕ) → old ≡ old ++ spelled bytes []
unfolding spelled
none_put bytes old = sym (append-nil old)

-- one prefix length more
pub length_more : {A : Type 0} (number : A → ℕ) (items : List A) (i : ℕ) (d : A) (old now next : List ℕ) (item : ℕ) → i < length items
    → now ≡ old ++ map number (take i items) → next ≡ now ++ item ∷ [] → item ≡ number (get_or items i d)
    → next ≡ old ++ map number (take (i + 1) items)
length_more number items i d old now next item l before put is =
    item_more old now next (map number (take i items)) (item ∷ []) (map number (take (i + 1) items)) before put
    (ap (λ n. map number (take i items) ++ n ∷ []) is ∙ sym (map_more number items i d l))
