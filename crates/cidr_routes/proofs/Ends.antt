-- For each network of a payload how many payloads there are up to its last.
use Rattle.std.proofs.Common.{◌≡◌, refl, sym, ap, ◌∙◌, subst, arith, inl, inr, ℕ, zero, suc, ◌+◌, ◌-◌, List, [], ◌∷◌, Some, Equal, Ordering}
use Rattle.std.proofs.lemmas.Bool.{cases_lt}
use Rattle.std.proofs.lemmas.Option.{none-some, same_Some}
use Rattle.std.specs.Cmp.{IsTotalOrder}
use Rattle.std.specs.List.{Contains, slice_get}
use Rattle.std.specs.Map.{keys_of}
use Rattle.cidr_table.specs.model.LastRows.{AreLastRows}
use Rattle.cidr_table.proofs.LastRows.{EndsAt, last_row, no_key}
use Rattle.cidr_table.proofs.MapLaws.{contains_cases, contains_nothing, contains_key}
use Rattle.cidr_table.proofs.Merging.{any_of}
use Rattle.cidr_routes.specs.declared.origins.Payload.{Payload}
use Rattle.cidr_routes.specs.Links.{AreEnds}
use Rattle.cidr_routes.proofs.Linking.{in_list}

module _ {C : Type 0} (cmp : C → C → Ordering) (o : IsTotalOrder cmp) (exact : (x y : C) → cmp x y ≡ Equal → x ≡ y) where
  key_of_row : (rows : List (C × ℕ)) (j : ℕ) (row : C × ℕ) → slice_get rows j ≡ Some row → slice_get (keys_of rows) j ≡ Some row.0
  key_of_row [] j row s = absurd (none-some row s)
  key_of_row (x ∷ xs) zero row s = let same : x ≡ row = same_Some x row s in ap (λ (r : C × ℕ). Some r.0) same
  key_of_row (x ∷ xs) (suc j) row s = key_of_row xs j row s

  some_end : (rows : List (C × ℕ)) (key : C) → Contains (keys_of rows) key → (row : C × ℕ) × EndsAt rows row × (row.0 ≡ key)
  some_end [] key c = absurd (contains_nothing key c)
  some_end (x ∷ xs) key c = elim (any_of cmp key xs) [
    | inl none ↦ elim (contains_cases x.0 key (keys_of xs) c) [
      | inl e ↦ (x, inl (refl, subst (λ k. ¬ (Contains (keys_of xs) k)) (sym e) (no_key cmp o exact key xs none)), e)
      | inr later ↦ absurd (no_key cmp o exact key xs none later)
    ]
    | inr more ↦
        let r = some_end xs key (subst (Contains (keys_of xs)) (exact more.0.0 key more.2) (contains_key xs more.0 more.1)) in
        (r.0, inr r.1, r.2)
  ]

  pub ends_of_rows : (vrps : List (Payload C)) (rows kept : List (C × ℕ))
      → ((k : ℕ) (u : Payload C) → slice_get vrps k ≡ Some u → slice_get rows k ≡ Some (u.network, k + 1))
      → ((k : ℕ) (row : C × ℕ) → slice_get rows k ≡ Some row → (u : Payload C) × (slice_get vrps k ≡ Some u) × (row ≡ (u.network, k + 1)))
      → AreLastRows rows kept → AreEnds vrps kept
  ends_of_rows vrps rows kept to from last = record {
    each = λ j u s.
        let here = contains_key rows (u.network, j + 1) (in_list rows j (u.network, j + 1) (to j u s)) in
        let (row, ends, same) = some_end rows u.network here in
        (row.1, subst (λ (k : C). Contains kept (k, row.1)) same ((last row).1 (last_row rows row ends)));
    row = λ n l c.
        let r = (last (n, l)).0 c in
        let (u, at, is) = from r.index (n, l) r.here in
        let size : l ≡ r.index + 1 = ap (λ (x : C × ℕ). x.1) is in
        let index : r.index ≡ l - 1 = omega (arith, size) in
        (u, omega (arith, size), subst (λ k. slice_get vrps k ≡ Some u) index at, sym (ap (λ (x : C × ℕ). x.0) is));
    last = λ n j l u c s same.
        let r = (last (n, l)).0 c in
        let (w, at, is) = from r.index (n, l) r.here in
        let size : l ≡ r.index + 1 = ap (λ (x : C × ℕ). x.1) is in
        elim (cases_lt r.index j) [
          | inl lt ↦ absurd (r.last j lt (key_of_row rows j (u.network, j + 1) (to j u s) ∙ ap Some same))
          | inr le ↦ omega (arith, le, size)
        ];
  }
