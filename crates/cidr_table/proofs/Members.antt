-- Which networks are full, and which are members of the least cover.
use Rattle.std.proofs.Common.{◌≡◌, ◌⊎◌, ℕ, suc, zero, ◌+◌, ◌-◌, ◌<◌, ◌≤◌, Bool, true, false, List, [], ◌∷◌, ◌++◌, length, take, replicate, refl, sym, ap, subst, arith, inl, inr, length-append}
use Rattle.std.proofs.lemmas.Bool.{cases_lt}
use Rattle.std.proofs.lemmas.List.{take_at, length-replicate}
use Rattle.std.specs.List.{Contains}
use Rattle.cidr.specs.model.Network.{BeginsWith}
use Rattle.cidr_table.specs.model.Cover.{Covers, IsFull, parent, IsMember, CoverSame}
use Rattle.cidr_table.proofs.Halves.{begins_itself, begins_begins, begins_both, same_length, length_parent, begins_parent, parent_begins, length_half, half_begins, either_half, empty, same_or_not}
use Rattle.cidr_table.proofs.MapLaws.{contains_first, contains_later, contains_cases, contains_nothing}

-- a list is covered or it isn't
pub covered_or_not : (keys : List (List Bool)) (a : List Bool) → Covers keys a ⊎ ¬ (Covers keys a)
covered_or_not [] a = inr (λ c. contains_nothing c.0 c.1)
covered_or_not (k ∷ keys) a = elim (same_or_not (take (length k) a) k) [
  | inl h ↦ inl (k, contains_first k keys, h)
  | inr n ↦ elim (covered_or_not keys a) [
    | inl c ↦ inl (c.0, contains_later k c.0 keys c.1, c.2)
    | inr m ↦ inr (λ c. elim (contains_cases k c.0 keys c.1) [
      | inl e ↦ n (subst (BeginsWith a) (sym e) c.2)
      | inr d ↦ m (c.0, d, c.2)
    ])
  ]
]

module _ (w : ℕ) (keys : List (List Bool)) where
  -- what begins with a full list is full
  pub full_within : (q p : List Bool) → BeginsWith q p → IsFull w keys p → IsFull w keys q
  full_within q p h f a la k = f a la (begins_begins a q p k h)

  pub full_from_halves : (p : List Bool) → length p < w → IsFull w keys (p ++ false ∷ [])
      → IsFull w keys (p ++ true ∷ []) → IsFull w keys p
  full_from_halves p within f g a la h = elim (either_half a p h (omega arith)) [ inl k ↦ f a la k | inr k ↦ g a la k ]

  pub full_at_end : (p : List Bool) → length p ≡ w → Covers keys p → IsFull w keys p
  full_at_end p lp c a la h = subst (Covers keys) (sym (same_length a p h (omega arith))) c

  -- each key is full
  pub key_full : (k : List Bool) → Contains keys k → IsFull w keys k
  key_full k c a la h = (k, c, h)

  -- a list is full or it isn't
  pub full_or_not : (n : ℕ) (p : List Bool) → length p + n ≡ w → IsFull w keys p ⊎ ¬ (IsFull w keys p)
  full_or_not zero p lp = elim (covered_or_not keys p) [
    | inl c ↦ inl (full_at_end p (omega arith) c)
    | inr n ↦ inr (λ f. n (f p (omega arith) (begins_itself p)))
  ]
  full_or_not (suc n) p lp = elim (full_or_not n (p ++ false ∷ []) (omega (arith, length_half p false))) [
    | inr m ↦ inr (λ f. m (full_within (p ++ false ∷ []) p (half_begins p false) f))
    | inl f ↦ elim (full_or_not n (p ++ true ∷ []) (omega (arith, length_half p true))) [
      | inr m ↦ inr (λ g. m (full_within (p ++ true ∷ []) p (half_begins p true) g))
      | inl g ↦ inl (full_from_halves p (omega arith) f g)
    ]
  ]

  -- a full list begins with a member
  pub begins_member : (n : ℕ) (p : List Bool) → length p ≡ n → n ≤ w → IsFull w keys p
      → (m : List Bool) × IsMember w keys m × BeginsWith p m
  begins_member zero p lp within f = (
    p,
    record {
      within = omega arith;
      full = f;
      widest = inl
          (empty p lp);
    },
    begins_itself p,
  )
  begins_member (suc n) p lp within f = elim (full_or_not (w - n) (parent p) (omega (arith, length_parent p))) [
    | inr m ↦ (p, record { within = omega arith; full = f; widest = inr m }, begins_itself p)
    | inl g ↦
        let r = begins_member n (parent p) (omega (arith, length_parent p)) (omega arith) g in
        (r.0, r.1, begins_begins p (parent p) r.0 (begins_parent p) r.2)
  ]

  -- no shorter beginning of a member is full
  pub no_wider : (m q : List Bool) → IsMember w keys m → IsFull w keys q → BeginsWith m q → length m ≤ length q
  no_wider m q h f b = elim h.widest [
    | inl e ↦ omega (arith, ap length e)
    | inr n ↦ elim (cases_lt (length q) (length m)) [
      | inl shorter ↦ absurd (n (full_within (parent m) q (parent_begins m q b shorter) f))
      | inr le ↦ le
    ]
  ]

  -- a list begins with one member at most
  pub one_member : (p m n : List Bool) → IsMember w keys m → IsMember w keys n → BeginsWith p m → BeginsWith p n → m ≡ n
  one_member p m n hm hn bm bn = elim (cases_lt (length m) (length n)) [
    | inl lt ↦
        let b = begins_both p n m bn bm (omega arith) in
        sym (same_length n m b (no_wider n m hn hm.full b))
    | inr le ↦
        let b = begins_both p m n bm bn le in
        same_length m n b (no_wider m n hm hn.full b)
  ]

  -- if some networks cover the same, each member holds one of them
  pub member_holds : (networks : List (List Bool)) → CoverSame w keys networks → (m : List Bool) → IsMember w keys m
      → (p : List Bool) × Contains networks p × BeginsWith p m
  member_holds networks same m h =
      let rest = replicate (w - length m) false in
      let la : length (m ++ rest) ≡ w = omega
      (arith, h.within, length-append m rest, length-replicate (w - length m) false) in
      let b : BeginsWith (m ++ rest) m = take_at m rest (length m) refl in
      let c = (same (m ++ rest) la).0 (h.full (m ++ rest) la b) in
      elim (cases_lt (length c.0) (length m)) [
        | inl shorter ↦
            let f : IsFull w keys c.0 = λ a e k. (same a e).1 (c.0, c.1, k) in
            absurd (omega (arith, no_wider m c.0 h f (begins_both (m ++ rest) m c.0 b c.2 (omega arith))))
        | inr le ↦ (c.0, c.1, begins_both (m ++ rest) c.0 m c.2 b le)
      ]
