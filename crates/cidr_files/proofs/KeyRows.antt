-- The rows of a table.
use Rattle.std.proofs.Common.{◌≡◌, sym, ◌∙◌, ap, ap₂, subst, arith, inl, inr, ℕ, ◌+◌, ◌-◌, ◌<◌, ◌≤◌, List, [], ◌∷◌, ◌++◌, length, get_or, map, take}
use Rattle.std.proofs.lemmas.Bool.{cases_eq}
use Rattle.std.proofs.lemmas.List.{get_or-map, length-map, map_push, take_more}
use Rattle.std.proofs.lemmas.Slice.Zip.{get_or-zip, length-zip}
use Rattle.std.specs.List.{zip}
use Rattle.cidr_lookup.specs.Keys.{key_networks}
use Rattle.cidr_lookup.specs.declared.key.Key.{Key}
use Rattle.cidr_files.specs.Contents.{lengths_of}

-- how many there are
pub many : (addresses lengths : List ℕ) (i : ℕ) → i < length addresses → i < length lengths → i < length (zip addresses lengths)
many addresses lengths i l l' = omega (arith, length-zip addresses lengths)

-- one key more
pub keys_more : {A : Type 0} (value : A → ℕ) (addresses : List A) (lengths : List ℕ) (i : ℕ) (d : A) (keys : List (Key A)) (key : Key A)
    → i < length addresses → i < length lengths → key_networks value keys ≡ take i (zip (map value addresses) lengths)
    → key.address ≡ get_or addresses i d → key.len ≡ get_or lengths i 0
    → key_networks value (keys ++ key ∷ []) ≡ take (i + 1) (zip (map value addresses) lengths)
keys_more {A} value addresses lengths i d keys key l l' same address len =
    let numbers = map value addresses in
    let l'' : i < length numbers = omega (arith, length-map addresses value) in
    let here : get_or (zip numbers lengths) i (0, 0) ≡ (value key.address, key.len) =
    get_or-zip numbers lengths i (0, 0) l'' l'
    ∙ ap₂ (λ (a b : ℕ). (a, b)) (get_or-map value addresses i d 0 l ∙ ap value (sym address)) (sym len) in
    map_push (λ (k : Key A). (value k.address, k.len)) keys key
    ∙ (ap₂ (λ (xs : List (ℕ × ℕ)) (x : ℕ × ℕ). xs ++ x ∷ []) same (sym here)
    ∙ sym (take_more (zip numbers lengths) i (0, 0) (many numbers lengths i l'' l')))

-- offsets that ascend up to one more
pub ascending_more : (offsets : List ℕ) (n : ℕ) → (0 < n → get_or offsets (n - 1) 0 ≤ get_or offsets n 0)
    → ((i k : ℕ) → i ≤ k → k < n → get_or offsets i 0 ≤ get_or offsets k 0)
    → (i k : ℕ) → i ≤ k → k < n + 1 → get_or offsets i 0 ≤ get_or offsets k 0
ascending_more offsets n next so_far i k le l = elim (cases_eq k n) [
  | inl e ↦ elim (cases_eq i n) [
    | inl e' ↦ omega (arith, ap (λ j. get_or offsets j 0) e, ap (λ j. get_or offsets j 0) e')
    | inr less ↦ omega (arith, ap (λ j. get_or offsets j 0) e, so_far i (n - 1) (omega arith) (omega arith), next (omega arith))
  ]
  | inr less ↦ so_far i k le (omega arith)
]

-- what is said of words is said of the same words
pub same_words : (P : List (ℕ × ℕ) → List ℕ → List ℕ → Type 0) (networks networks' : List (ℕ × ℕ)) (first first' nodes nodes' : List ℕ)
    → networks ≡ networks' → first ≡ first' → nodes ≡ nodes' → P networks first nodes → P networks' first' nodes'
same_words P networks networks' first first' nodes nodes' n f m h =
    subst (λ (xs : List (ℕ × ℕ)). P xs first' nodes') n (subst (λ (xs : List ℕ). P networks xs nodes') f (subst (λ (xs : List ℕ). P networks first xs) m h))

-- the length of a key
pub length_at : {A : Type 0} (keys : List (Key A)) (i : ℕ) (d : Key A) → i < length keys
    → (i < length (lengths_of keys)) × (get_or (lengths_of keys) i 0 ≡ (get_or keys i d).len)
length_at {A} keys i d l =
    let len : Key A → ℕ = λ key. key.len in
    (omega (arith, length-map keys len), get_or-map len keys i d 0 l)
