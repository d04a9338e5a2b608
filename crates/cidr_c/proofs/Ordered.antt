-- Rows of networks in order, and their indexes in the caller's room.
use Rattle.std.proofs.Common.{◌≡◌, ◌≢◌, ◌⊎◌, ℕ, ◌+◌, ◌<◌, Bool, List, [], ◌∷◌, ◌++◌, length, take, get_or, slice_get, Some, map, map-id, inl, inr, sym, ap, ◌∙◌, arith, subst}
use Rattle.std.specs.Cmp.{IsTotalOrder}
use Rattle.std.specs.List.Sorted.{IsStrictlySortedBy}
use Rattle.std.specs.Map.{keys_of}
use Rattle.std.specs.declared.cmp.Ordering.{Ordering}
use Rattle.std.specs.declared.cmp.Ordering.TheVariants.{Less, Equal, Greater}
use Rattle.std.proofs.lemmas.Bool.{cases_lt}
use Rattle.std.proofs.lemmas.Cmp.{tied_itself}
use Rattle.std.proofs.lemmas.List.{get_or-map, length-map, map-append, take_more}
use Rattle.std.proofs.lemmas.Map.Keys.{Less-from_sorted}
use Rattle.std.proofs.lemmas.Option.{get_or_from_slice_get, same_Some, slice_get_within}
use Rattle.cidr.specs.model.Bits.{bit_cmp}
use Rattle.cidr.specs.declared.cidr.any.AnyIpCidr.{AnyIpCidr}
use Rattle.cidr_lists.specs.Nearness.{AreRowsInOrder}
use Rattle.cidr_c.specs.calls.Batches.{IsListInRoom, IsListPut}
use Rattle.cidr_c.specs.calls.Calls.{IsAnyValue}
use Rattle.cidr_c.proofs.Listed.{listed}

-- ---- rows whose networks ascend, each once
less_is_not_greater : Less ≢ Greater
less_is_not_greater e = cc

less_is_not_equal : Less ≢ Equal
less_is_not_equal e = cc

equal_is_not_greater : Equal ≢ Greater
equal_is_not_greater e = cc

pub in_order : {C : Type 0} (cmp : C → C → Ordering) (bits : C → List Bool) → IsTotalOrder cmp → ((x y : C) → cmp x y ≡ bit_cmp (bits x) (bits y))
    → (rows : List (C × ℕ)) → IsStrictlySortedBy cmp (keys_of rows) → AreRowsInOrder bits rows
in_order {C} cmp bits o ordered rows sorted i j a b le at_i at_j = elim (cases_lt i j) [
  | inl lt ↦
      let within : j < length (keys_of rows) = omega (arith, slice_get_within rows j b at_j, length-map rows (λ (row : C × ℕ). row.0)) in
      let key : (k : ℕ) (row : C × ℕ) → slice_get rows k ≡ Some row → get_or (keys_of rows) k a.0 ≡ row.0 =
      λ k row at.
      get_or-map (λ (r : C × ℕ). r.0) rows k a a.0 (slice_get_within rows k row at) ∙ ap (λ (r : C × ℕ). r.0) (get_or_from_slice_get rows k row a at) in
      let less : cmp a.0 b.0 ≡ Less =
      subst (λ (x : C). cmp a.0 x ≡ Less) (key j b at_j)
      (subst (λ (x : C). cmp x (get_or (keys_of rows) j a.0) ≡ Less) (key i a at_i) (Less-from_sorted cmp (keys_of rows) i j a.0 sorted lt within)) in (
        λ greater. less_is_not_greater (sym less ∙ (ordered a.0 b.0 ∙ greater)),
        λ same. absurd (less_is_not_equal (sym less ∙ (ap (λ (x : C). cmp x b.0) same ∙ tied_itself o b.0))),
      )
  | inr ge ↦
      let at : i ≡ j = omega (arith, le, ge) in
      let is : a ≡ b = same_Some a b (sym at_i ∙ (ap (slice_get rows) at ∙ at_j)) in (
        λ greater.
            equal_is_not_greater
            (sym (tied_itself o b.0) ∙ (ordered b.0 b.0 ∙ (ap (λ (r : C × ℕ). bit_cmp (bits r.0) (bits b.0)) (sym is) ∙ greater))),
        λ _. omega (arith, ap (λ (r : C × ℕ). r.1) is),
      )
]

-- ---- their indexes in the caller's room
pub index_more : (rows : List (AnyIpCidr × ℕ)) (i : ℕ) (d : AnyIpCidr × ℕ) → i < length rows
    → map (λ (row : AnyIpCidr × ℕ). row.1) (take i rows) ++ (get_or rows i d).1 ∷ [] ≡ map (λ (row : AnyIpCidr × ℕ). row.1) (take (i + 1) rows)
index_more rows i d lt =
    sym (map-append (λ (row : AnyIpCidr × ℕ). row.1) (take i rows) (get_or rows i d ∷ []))
    ∙ ap (map (λ (row : AnyIpCidr × ℕ). row.1)) (sym (take_more rows i d lt))

pub indexes_put : (IsTaken : Type 0) (Holds : List ℕ → Type 0) (list old new : List ℕ) (count made code : ℕ) → IsTaken → Holds list
    → ((code ≡ 12) × (new ≡ old) × (made ≡ count)) ⊎ IsListPut list old new made code
    → IsListInRoom IsTaken IsAnyValue (λ (i : ℕ). i) Holds old new count made code
indexes_put IsTaken Holds list old new count made code fine holds (inl none) = record {
  taken = λ z. absurd (omega (arith, z, none.0));
  fits = λ z. absurd (omega (arith, z, none.0));
  left = λ z. absurd (omega (arith, z, none.0));
  holds = λ z. absurd (omega (arith, z, none.0));
  value = λ z. absurd (omega (arith, z, none.0));
  behind = λ z. absurd (omega (arith, z, none.0));
  room = λ z. absurd (omega (arith, z, none.0));
  asked = λ z. absurd (omega (arith, z, none.0));
  codes = inr (inr (inr none.0));
  stays = λ _. none.1;
  count_stays = λ _ _. none.2;
}
indexes_put IsTaken Holds list old new count made code fine holds (inr put) =
    listed IsTaken IsAnyValue (λ (i : ℕ). i) Holds list old new count made code fine (λ _ _ _. tt) (subst Holds (sym (map-id list)) holds) put
