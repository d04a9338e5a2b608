-- Values as the keys of a table, and the rows that are found.
use Rattle.std.proofs.Common.{◌≡◌, ℕ, ◌+◌, ◌<◌, List, [], ◌∷◌, ◌++◌, length, map, take, get_or, set, inl, inr, sym, ap, ap₂, ◌∙◌, arith, subst}
use Rattle.std.proofs.lemmas.Bool.{cases_eq}
use Rattle.std.proofs.lemmas.List.{take_more, map-append, get_or-map, get_or-set_same, get_or-set_other}
use Rattle.cidr_lookup.specs.Keys.{key_networks}
use Rattle.cidr_lookup.specs.declared.key.Key.{Key}
use Rattle.cidr_c.specs.declared.values.CValue.{CValue}

-- one key more
pub keys_more : {A : Type 0} (value : A → ℕ) (pair : CValue → ℕ × ℕ) (vs : List CValue) (i : ℕ) (d : CValue) (keys : List (Key A)) (key : Key A)
    → i < length vs → key_networks value keys ≡ map pair (take i vs) → value key.address ≡ (pair (get_or vs i d)).0
    → key.len ≡ (pair (get_or vs i d)).1 → key_networks value (keys ++ key ∷ []) ≡ map pair (take (i + 1) vs)
keys_more {A} value pair vs i d keys key h same address len =
    let one : (value key.address, key.len) ≡ pair (get_or vs i d) = ap₂ (λ (a b : ℕ). (a, b)) address len in
    map-append (λ (k : Key A). (value k.address, k.len)) keys (key ∷ [])
    ∙ (ap₂ (λ (l : List (ℕ × ℕ)) (p : ℕ × ℕ). l ++ p ∷ []) same one
    ∙ (sym (map-append pair (take i vs) (get_or vs i d ∷ [])) ∙ sym (ap (map pair) (take_more vs i d h))))

-- one row more
pub rows_more : (Found : ℕ × ℕ → ℕ → Type 0) (pair : CValue → ℕ × ℕ) (asked : List CValue) (out : List ℕ) (n : ℕ) (d : CValue) (row : ℕ)
    → n < length asked → n < length out → Found (pair (get_or asked n d)) row
    → ((k : ℕ) → k < n → Found (get_or (map pair asked) k (0, 0)) (get_or out k 0))
    → (k : ℕ) → k < n + 1 → Found (get_or (map pair asked) k (0, 0)) (get_or (set out n row) k 0)
rows_more Found pair asked out n d row within fits here first k lt = elim (cases_eq k n) [
  | inl e ↦
      subst (λ (j : ℕ). Found (get_or (map pair asked) j (0, 0)) (get_or (set out n row) j 0)) (sym e)
      (subst (λ (p : ℕ × ℕ). Found p (get_or (set out n row) n 0)) (sym (get_or-map pair asked n d (0, 0) within))
      (subst (λ (r : ℕ). Found (pair (get_or asked n d)) r) (sym (get_or-set_same out n row 0 fits)) here))
  | inr other ↦
      subst (λ (r : ℕ). Found (get_or (map pair asked) k (0, 0)) r) (sym (get_or-set_other out n k row 0 other)) (first k (omega arith))
]
