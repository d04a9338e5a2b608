-- What inserting, removing and looking up in ascending rows makes of them as a map.
use Rattle.std.proofs.Common.{◌≡◌, ◌≢◌, ◌⊎◌, refl, sym, ◌∙◌, ap, arith, inl, inr, zero, suc, cond, List, [], ◌∷◌, Option, Some, None}
use Rattle.std.specs.List.{Contains, AllByRecursion}
use Rattle.std.specs.List.Sorted.{IsStrictlySortedBy}
use Rattle.std.specs.Map.{keys_of, lookup, remove_entry}
use Rattle.std.specs.BTreeMap.{insert_entry, is_at}
use Rattle.std.specs.Cmp.{IsTotalOrder}
use Rattle.std.specs.Ordering.{ordering_reverse, match_ordering, is_eq}
use Rattle.std.specs.declared.cmp.Ordering.{Ordering}
use Rattle.std.specs.declared.cmp.Ordering.TheVariants.{Less, Equal, Greater}
use Rattle.cidr_table.specs.model.FiniteMap.{IsUnder, IsInserted, IsRemoved}

module _ {X : Type 0} where
  pub contains_first : (x : X) (xs : List X) → Contains (x ∷ xs) x
  contains_first x xs = (0, omega arith, refl)

  pub contains_later : (x y : X) (xs : List X) → Contains xs y → Contains (x ∷ xs) y
  contains_later x y xs h = (suc h.0, omega (arith, h.1), h.2)

  pub contains_cases : (x y : X) (xs : List X) → Contains (x ∷ xs) y → (x ≡ y) ⊎ Contains xs y
  contains_cases x y xs (zero, l, e) = inl e
  contains_cases x y xs (suc i, l, e) = inr (i, omega arith, e)

  pub contains_nothing : (y : X) → ¬ (Contains [] y)
  contains_nothing y h = absurd (omega (arith, h.1))

module _ {C V : Type 0} where
  -- a row's key is one of the keys
  pub contains_key : (rows : List (C × V)) (row : C × V) → Contains rows row → Contains (keys_of rows) row.0
  contains_key [] row h = absurd (contains_nothing row h)
  contains_key (e ∷ rows) row h = elim (contains_cases e row rows h) [
    | inl same ↦ rw (sym same) (contains_first e.0 (keys_of rows))
    | inr later ↦ contains_later e.0 row.0 (keys_of rows) (contains_key rows row later)
  ]

module _ {C : Type 0} (cmp : C → C → Ordering) (o : IsTotalOrder cmp) (k : C) where
  same_key : cmp k k ≡ Equal
  same_key = elim (cmp k k) as (λ r. cmp k k ≡ r → cmp k k ≡ Equal) [
    | Less ↦ λ q. let f : Less ≡ Greater = sym q ∙ (o.antisymm k k ∙ ap ordering_reverse q) in (cc)
    | Equal ↦ λ q. q
    | Greater ↦ λ q. let f : Greater ≡ Less = sym q ∙ (o.antisymm k k ∙ ap ordering_reverse q) in (cc)
  ] refl

  -- the order tells the key from another
  other : (x : C) → cmp k x ≢ Equal → x ≢ k
  other x n e = n (ap (cmp k) e ∙ same_key)

  above : (x : C) → cmp k x ≡ Less → x ≢ k
  above x h = other x (λ e. let f = sym h ∙ e in (cc))

  -- what is above a key is none of the keys behind it
  all_others : (ks : List C) → AllByRecursion (λ z. cmp k z ≡ Less) ks → (x : C) → Contains ks x → x ≢ k
  all_others [] a x h = absurd (contains_nothing x h)
  all_others (z ∷ ks) a x h = elim (contains_cases z x ks h) [
    | inl e ↦ rw (sym e) (above z a.0)
    | inr later ↦ all_others ks a.1 x later
  ]

module _ {C V : Type 0} (cmp : C → C → Ordering) (o : IsTotalOrder cmp) (exact : (x y : C) → cmp x y ≡ Equal → x ≡ y) (k : C) where
  pub looked_up : (rows : List (C × V)) → IsUnder rows k (lookup (is_at (cmp k)) rows)
  looked_up [] = contains_nothing k
  looked_up (e ∷ rows) = elim (cmp k e.0) as (λ r. cmp k e.0 ≡ r → IsUnder (e ∷ rows) k (cond (is_eq r) (Some e.1) (lookup (is_at (cmp k)) rows))) [
    | Less ↦ λ q. found_later e rows (other cmp o k e.0 (λ f. let g = sym q ∙ f in (cc))) (lookup (is_at (cmp k)) rows) (looked_up rows)
    | Equal ↦ λ q. rw (exact k e.0 q) (contains_first e rows)
    | Greater ↦ λ q. found_later e rows (other cmp o k e.0 (λ f. let g = sym q ∙ f in (cc))) (lookup (is_at (cmp k)) rows) (looked_up rows)
  ] refl
    where
      found_later : (e : C × V) (rows : List (C × V)) → e.0 ≢ k → (r : Option V) → IsUnder rows k r → IsUnder (e ∷ rows) k r
      found_later e rows n (Some v) h = contains_later e (k, v) rows h
      found_later e rows n None h = λ c. elim (contains_cases e.0 k (keys_of rows) c) [ inl same ↦ n same | inr later ↦ h later ]

  -- the rows of the other keys stay
  kept : (e : C × V) (rows : List (C × V)) → ((row : C × V) → Contains rows row → row.0 ≢ k) → (row : C × V) → Contains rows row → (row.0 ≢ k) × Contains (e ∷ rows) row
  kept e rows apart row h = (apart row h, contains_later e row rows h)

  pub removed : (rows : List (C × V)) → IsStrictlySortedBy cmp (keys_of rows) → IsRemoved rows k (remove_entry (is_at (cmp k)) rows)
  unfolding IsStrictlySortedBy
  removed [] s = λ row. (λ h. absurd (contains_nothing row h), λ h. h.1)
  removed (e ∷ rows) s = elim (cmp k e.0) as (λ r. cmp k e.0 ≡ r → IsRemoved (e ∷ rows) k (cond (is_eq r) rows (e ∷ remove_entry (is_at (cmp k)) rows))) [
    | Less ↦ λ q. removed_later (removed rows s.1) (other cmp o k e.0 (λ f. let g = sym q ∙ f in (cc)))
    | Equal ↦ λ q. let same = exact k e.0 q in λ row. (
      λ h. (all_others cmp o k (keys_of rows) (rw (sym same) at s.0) row.0 (contains_key rows row h), contains_later e row rows h),
      λ h. elim (contains_cases e row rows h.1) [ inl f ↦ absurd (h.0 (sym (ap (λ t. t.0) f) ∙ sym same)) | inr later ↦ later ],
    )
    | Greater ↦ λ q. removed_later (removed rows s.1) (other cmp o k e.0 (λ f. let g = sym q ∙ f in (cc)))
  ] refl
    where
      removed_later : IsRemoved rows k (remove_entry (is_at (cmp k)) rows) → e.0 ≢ k → IsRemoved (e ∷ rows) k (e ∷ remove_entry (is_at (cmp k)) rows)
      removed_later rest n = λ row. let r = rest row in (
        λ h. elim (contains_cases e row (remove_entry (is_at (cmp k)) rows) h) [
          | inl f ↦ (rw (sym f) n, rw (sym f) (contains_first e rows))
          | inr later ↦ let t = r.0 later in (t.0, contains_later e row rows t.1)
        ],
        λ h. elim (contains_cases e row rows h.1) [
          | inl f ↦ rw (sym f) (contains_first e (remove_entry (is_at (cmp k)) rows))
          | inr later ↦ contains_later e row (remove_entry (is_at (cmp k)) rows) (r.1 (h.0, later))
        ],
      )

  pub inserted : (rows : List (C × V)) (v : V) → IsStrictlySortedBy cmp (keys_of rows) → IsInserted rows k v (insert_entry cmp rows k v)
  unfolding IsStrictlySortedBy
  inserted [] v s = λ row. (
    λ h. elim (contains_cases (k, v) row [] h) [ inl f ↦ inl (sym f) | inr later ↦ absurd (contains_nothing row later) ],
    elim [ inl f ↦ rw f (contains_first (k, v) []) | inr h ↦ absurd (contains_nothing row h.1) ],
  )
  inserted (e ∷ rows) v s = elim (cmp k e.0) as (λ r. cmp k e.0 ≡ r → IsInserted (e ∷ rows) k v (match_ordering r ((k, v) ∷ e ∷ rows) ((e.0, v) ∷ rows) (e ∷ insert_entry cmp rows k v))) [
    | Less ↦ λ q row. (
      λ h. elim (contains_cases (k, v) row (e ∷ rows) h) [
        | inl f ↦ inl (sym f)
        | inr later ↦ inr (all_others cmp o k (keys_of (e ∷ rows)) (q, all_after e.0 q (keys_of rows) s.0) row.0 (contains_key (e ∷ rows) row later), later)
      ],
      elim [ inl f ↦ rw f (contains_first (k, v) (e ∷ rows)) | inr h ↦ contains_later (k, v) row (e ∷ rows) h.1 ],
    )
    | Equal ↦ λ q. let same = exact k e.0 q in λ row. (
      λ h. elim (contains_cases (e.0, v) row rows h) [
        | inl f ↦ inl (sym f ∙ ap (λ x. (x, v)) (sym same))
        | inr later ↦ inr (all_others cmp o k (keys_of rows) (rw (sym same) at s.0) row.0 (contains_key rows row later), contains_later e row rows later)
      ],
      elim [
        | inl f ↦ rw (f, same) (contains_first (e.0, v) rows)
        | inr h ↦ elim (contains_cases e row rows h.1) [ inl f ↦ absurd (h.0 (sym (ap (λ t. t.0) f) ∙ sym same)) | inr later ↦ contains_later (e.0, v) row rows later ]
      ],
    )
    | Greater ↦ λ q row. let r = inserted rows v s.1 row in let n : e.0 ≢ k = other cmp o k e.0 (λ f. let g = sym q ∙ f in (cc)) in (
      λ h. elim (contains_cases e row (insert_entry cmp rows k v) h) [
        | inl f ↦ inr (rw (sym f) n, rw (sym f) (contains_first e rows))
        | inr later ↦ elim (r.0 later) [ inl f ↦ inl f | inr t ↦ inr (t.0, contains_later e row rows t.1) ]
      ],
      elim [
        | inl f ↦ contains_later e row (insert_entry cmp rows k v) (r.1 (inl f))
        | inr h ↦ elim (contains_cases e row rows h.1) [
          | inl f ↦ rw (sym f) (contains_first e (insert_entry cmp rows k v))
          | inr later ↦ contains_later e row (insert_entry cmp rows k v) (r.1 (inr (h.0, later)))
        ]
      ],
    )
  ] refl
    where
      all_after : (x : C) → cmp k x ≡ Less → (ks : List C) → AllByRecursion (λ z. cmp x z ≡ Less) ks → AllByRecursion (λ z. cmp k z ≡ Less) ks
      all_after x h [] a = tt
      all_after x h (z ∷ ks) a = (o.trans k x z h a.0, all_after x h ks a.1)
