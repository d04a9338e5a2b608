-- Access lists by the first rule that contains an address.
use Rattle.std.proofs.Common.{◌≡◌, ◌↔◌, ◌⊎◌, ℕ, zero, suc, ◌+◌, ◌-◌, ◌<◌, ◌≤◌, Bool, true, false, List, [], ◌∷◌, ◌++◌, length, get_or, take, drop, map, refl, sym, ap, ◌∙◌, subst, arith, inl, inr, Some}
use Rattle.std.proofs.lemmas.Bool.{cases_lt, false≢true}
use Rattle.std.proofs.lemmas.List.{get_or_default, get_or-take, length-take, map-append, take-append-drop, take_more, drop_more, drop_all, get_or_push, get_or_append_left, length_push}
use Rattle.std.proofs.lemmas.List.Elements.{Contains-push, Contains-push_cases, Contains-append_left}
use Rattle.std.proofs.lemmas.Option.{none-some, same_Some, slice_get_within, get_or_from_slice_get}
use Rattle.std.specs.Bool.{Decides}
use Rattle.std.specs.List.{AllWithin, Contains, HoldsAt, slice_get}
use Rattle.std.specs.List.Sorted.{IsStrictlyIncreasing}
use Rattle.cidr.specs.model.Network.{BeginsWith}
use Rattle.cidr_table.specs.model.Cover.{Covers}
use Rattle.cidr_table.specs.internal.Places.{begins_with}
use Rattle.cidr_table.proofs.Beginnings.{begins_decides}
use Rattle.cidr_table.proofs.MapLaws.{contains_first, contains_later, contains_cases, contains_nothing}
use Rattle.cidr_table.proofs.Reduced.{covers_more}
use Rattle.cidr_sets.specs.model.Sets.{IsSetOf, IsUnion, IsDifference, Meets}
use Rattle.cidr_sets.specs.model.FirstRules.{IsFirstRule, IsPermitted, IsDeciding, AreDecidingRules, IsShadowed}
use Rattle.cidr_sets.specs.declared.access.Action.{Action}
use Rattle.cidr_sets.specs.declared.access.Action.TheVariants.{Permit, Deny}
use Rattle.cidr_sets.proofs.Addresses.{none_reduced, set_alike, one_list}

-- ---- which is the first
true_or : (b : Bool) → (b ≡ true) ⊎ (b ≡ false)
true_or true = inl refl
true_or false = inr refl

-- the address begins with a network or doesn't
begins_or : (a p : List Bool) → BeginsWith a p ⊎ ¬ (BeginsWith a p)
begins_or a p = elim (true_or (begins_with a p)) [
  | inl t ↦ inl ((begins_decides a p).0 t)
  | inr f ↦ inr (λ b. false≢true (sym f ∙ (begins_decides a p).1 b))
]

-- an address that the first of the networks doesn't contain is in a later one
covers_later : (p : List Bool) (ps : List (List Bool)) (a : List Bool) → ¬ (BeginsWith a p) → Covers (p ∷ ps) a → Covers ps a
covers_later p ps a n c = elim (contains_cases p c.0 ps c.1) [
  | inl e ↦ absurd (n (subst (BeginsWith a) (sym e) c.2))
  | inr d ↦ (c.0, d, c.2)
]

-- an address of the network p that none of the first i networks contains
abbrev pub IsLeft : List (List Bool) → List Bool → ℕ → List Bool → Type 0
IsLeft ps p i a = BeginsWith a p × ¬ (Covers (take i ps) a)

is_permit : Action → Bool
is_permit Permit = true
is_permit Deny = false

module _ (p : List Bool) (ps : List (List Bool)) (a : List Bool) where
  first_here : BeginsWith a p → IsFirstRule (p ∷ ps) a 0
  first_here b = ((p, refl, b), λ c. contains_nothing c.0 c.1)

  first_begins : IsFirstRule (p ∷ ps) a 0 → BeginsWith a p
  first_begins h = subst (BeginsWith a) (sym (same_Some p h.0.0 h.0.1)) h.0.2

  first_behind : (i : ℕ) → ¬ (BeginsWith a p) → IsFirstRule ps a i → IsFirstRule (p ∷ ps) a (suc i)
  first_behind i n h = (h.0, λ c. h.1 (covers_later p (take i ps) a n c))

  first_before : (i : ℕ) → IsFirstRule (p ∷ ps) a (suc i) → (¬ (BeginsWith a p)) × IsFirstRule ps a i
  first_before i h = (
    λ b. h.1 (p, contains_first p (take i ps), b),
    (h.0, λ c. h.1 (c.0, contains_later p c.0 (take i ps) c.1, c.2)),
  )

  -- ---- one rule before the others
  module _ (acts : List Action) where
    permits_first : (i : ℕ) → IsFirstRule (p ∷ ps) a i → slice_get (Permit ∷ acts) i ≡ Some Permit → IsPermitted ps acts a ⊎ BeginsWith a p
    permits_first zero f e = inr (first_begins f)
    permits_first (suc i) f e = inl (i, (first_before i f).1, e)

    permits_more : (IsPermitted ps acts a ⊎ BeginsWith a p) ↔ IsPermitted (p ∷ ps) (Permit ∷ acts) a
    permits_more = (
      λ h. elim (begins_or a p) [
        | inl b ↦ (0, first_here b, refl)
        | inr n ↦ elim h [
          | inl k ↦ (suc k.0, first_behind k.0 n k.1, k.2)
          | inr b ↦ absurd (n b)
        ]
      ],
      λ h. permits_first h.0 h.1 h.2,
    )

    denies_first : (i : ℕ) → IsFirstRule (p ∷ ps) a i → slice_get (Deny ∷ acts) i ≡ Some Permit → IsPermitted ps acts a × ¬ (BeginsWith a p)
    unfolding is_permit
    denies_first zero f e = absurd (false≢true (ap is_permit (same_Some Deny Permit e)))
    denies_first (suc i) f e = let k = first_before i f in ((i, k.1, e), k.0)

    denies_more : (IsPermitted ps acts a × ¬ (BeginsWith a p)) ↔ IsPermitted (p ∷ ps) (Deny ∷ acts) a
    denies_more = (
      λ h. (suc h.0.0, first_behind h.0.0 h.1 h.0.1, h.0.2),
      λ h. denies_first h.0 h.1 h.2,
    )

-- ---- the first rule of those that are left
decided_first : (p : List Bool) (ps : List (List Bool)) (a : List Bool) (acts : List Action) (b : Action) → BeginsWith a p
    → IsPermitted (p ∷ ps) (b ∷ acts) a ↔ (b ≡ Permit)
unfolding is_permit
decided_first p ps a acts Permit begins = (λ h. refl, λ e. (permits_more p ps a acts).0 (inr begins))
decided_first p ps a acts Deny begins =
    (λ h. absurd (((denies_more p ps a acts).1 h).1 begins), λ e. absurd (false≢true (ap is_permit e)))

passed_first : (p : List Bool) (ps : List (List Bool)) (a : List Bool) (acts : List Action) (b : Action) → ¬ (BeginsWith a p)
    → IsPermitted (p ∷ ps) (b ∷ acts) a ↔ IsPermitted ps acts a
passed_first p ps a acts Permit none = (
  λ h. elim ((permits_more p ps a acts).1 h) [ inl d ↦ d | inr b ↦ absurd (none b) ],
  λ h. (permits_more p ps a acts).0 (inl h),
)
passed_first p ps a acts Deny none = (λ h. ((denies_more p ps a acts).1 h).0, λ h. (denies_more p ps a acts).0 (h, none))

module _ {R : Type 0} (f : R → List Bool) (act : R → Action) (a : List Bool) where
  pub none_permits : (xs : List R) → AllWithin (λ r. ¬ (BeginsWith a (f r))) xs 0 (length xs) → ¬ (IsPermitted (map f xs) (map act xs) a)
  none_permits [] none h = none-some h.1.0.0 h.1.0.1
  none_permits (x ∷ xs) none h = none_permits xs (λ k d low within. none (suc k) d (omega arith) (omega arith))
      ((passed_first (f x) (map f xs) a (map act xs) (act x) (none 0 x (omega arith) (omega arith))).0 h)

  pub first_permits : (xs : List R) (r : R) (i : ℕ) → i < length xs → HoldsAt (λ y. y ≡ r) xs i
      → AllWithin (λ y. ¬ (BeginsWith a (f y))) xs 0 i → BeginsWith a (f r) → IsPermitted (map f xs) (map act xs) a ↔ (act r ≡ Permit)
  first_permits [] r i within at none begins = absurd (omega arith)
  first_permits (x ∷ xs) r zero within at none begins =
      subst (λ y. IsPermitted (map f (y ∷ xs)) (map act (y ∷ xs)) a ↔ (act r ≡ Permit)) (sym (at x))
      (decided_first (f r) (map f xs) a (map act xs) (act r) begins)
  first_permits (x ∷ xs) r (suc i) within at none begins =
      let first = passed_first (f x) (map f xs) a (map act xs) (act x) (none 0 x (omega arith) (omega arith)) in
      let later = first_permits xs r i (omega arith) at (λ k d low below. none (suc k) d (omega arith) (omega arith)) begins in
      (λ h. later.0 (first.0 h), λ e. first.1 (later.1 e))

module _ {R : Type 0} (f : R → List Bool) (act : R → Action) (xs : List R) (a : List Bool) where
  -- the rules from i on decide the address
  abbrev pub AreLeftToDecide : ℕ → Type 0
  AreLeftToDecide i = IsPermitted (map f xs) (map act xs) a ↔ IsPermitted (map f (drop i xs)) (map act (drop i xs)) a

  pub all_left : AreLeftToDecide 0
  all_left = (λ h. h, λ h. h)

  module _ (i : ℕ) (left : AreLeftToDecide i) where
    pub none_left : length xs ≤ i → Decides false (IsPermitted (map f xs) (map act xs) a)
    none_left past = (
      λ e. absurd (false≢true e),
      λ h.
          let k = subst (λ ys. IsPermitted (map f ys) (map act ys) a) (drop_all i xs past) (left.0 h) in
          absurd (none-some k.1.0.0 k.1.0.1),
    )

    module _ (r : R) (here : i < length xs) (is : r ≡ get_or xs i r) where
      rules_left : drop i xs ≡ r ∷ drop (i + 1) xs
      rules_left = drop_more xs i r here ∙ ap (λ x. x ∷ drop (i + 1) xs) (sym is)

      pub one_decides : (b : Bool) → BeginsWith a (f r) → Decides b (act r ≡ Permit) → Decides b (IsPermitted (map f xs) (map act xs) a)
      one_decides b begins is_permit =
          let first = decided_first (f r) (map f (drop (i + 1) xs)) a (map act (drop (i + 1) xs)) (act r) begins in (
            λ t. left.1 (subst (λ ys. IsPermitted (map f ys) (map act ys) a) (sym rules_left) (first.1 (is_permit.0 t))),
            λ h. is_permit.1 (first.0 (subst (λ ys. IsPermitted (map f ys) (map act ys) a) rules_left (left.0 h))),
          )

      pub one_passes : ¬ (BeginsWith a (f r)) → AreLeftToDecide (i + 1)
      one_passes none =
          let first = passed_first (f r) (map f (drop (i + 1) xs)) a (map act (drop (i + 1) xs)) (act r) none in (
            λ h. first.0 (subst (λ ys. IsPermitted (map f ys) (map act ys) a) rules_left (left.0 h)),
            λ h. left.1 (subst (λ ys. IsPermitted (map f ys) (map act ys) a) (sym rules_left) (first.1 h)),
          )

-- ---- the set of the permitted addresses, from the last rule to the first
one_covers : (p a : List Bool) → Covers (p ∷ []) a ↔ BeginsWith a p
one_covers p a = (
  λ c. elim (contains_cases p c.0 [] c.1) [
    | inl e ↦ subst (BeginsWith a) (sym e) c.2
    | inr d ↦ absurd (contains_nothing c.0 d)
  ],
  λ b. (p, contains_first p [], b),
)

pub permits_none : IsSetOf 129 (IsPermitted [] []) []
permits_none = record {
  reduced = none_reduced 129;
  exact = λ a la. (λ c. absurd (contains_nothing c.0 c.1), λ h. absurd (none-some h.1.0.0 h.1.0.1));
}

module _ (p : List Bool) (ps : List (List Bool)) (acts : List Action) (old new : List (List Bool)) (h : IsSetOf 129 (IsPermitted ps acts) old) where
  permit_step : IsUnion 129 old (p ∷ []) new → IsSetOf 129 (IsPermitted (p ∷ ps) (Permit ∷ acts)) new
  permit_step u = set_alike 129 (λ a. Covers old a ⊎ Covers (p ∷ []) a) (IsPermitted (p ∷ ps) (Permit ∷ acts)) new
      (λ a la. (
        λ c. (permits_more p ps a acts).0 (elim c [ inl d ↦ inl ((h.exact a la).0 d) | inr d ↦ inr ((one_covers p a).0 d) ]),
        λ k. elim ((permits_more p ps a acts).1 k) [ inl d ↦ inl ((h.exact a la).1 d) | inr d ↦ inr ((one_covers p a).1 d) ],
      )) u

  deny_step : IsDifference 129 old (p ∷ []) new → IsSetOf 129 (IsPermitted (p ∷ ps) (Deny ∷ acts)) new
  deny_step u = set_alike 129 (λ a. Covers old a × ¬ (Covers (p ∷ []) a)) (IsPermitted (p ∷ ps) (Deny ∷ acts)) new
      (λ a la. (
        λ c. (denies_more p ps a acts).0 ((h.exact a la).0 c.0, λ b. c.1 ((one_covers p a).1 b)),
        λ k. let d = (denies_more p ps a acts).1 k in ((h.exact a la).1 d.0, λ c. d.1 ((one_covers p a).0 c)),
      )) u

module _ {R : Type 0} (f : R → List Bool) (act : R → Action) (xs : List R) (i : ℕ) (r : R) (some : 0 < i) (here : i ≤ length xs)
    (is : r ≡ get_or xs (i - 1) r) (old new : List (List Bool)) (h : IsSetOf 129 (IsPermitted (map f (drop i xs)) (map act (drop i xs))) old) where
  with_rule : (b : Action) → act r ≡ b → IsSetOf 129 (IsPermitted (f r ∷ map f (drop i xs)) (b ∷ map act (drop i xs))) new
      → IsSetOf 129 (IsPermitted (map f (drop (i - 1) xs)) (map act (drop (i - 1) xs))) new
  with_rule b e k =
      let on : i - 1 + 1 ≡ i = omega (arith, some) in
      let split : drop (i - 1) xs ≡ r ∷ drop i xs =
      drop_more xs (i - 1) r (omega (arith, some, here)) ∙ ap (λ x. x ∷ drop (i - 1 + 1) xs) (sym is) ∙ ap (λ n. r ∷ drop n xs) on in
      subst (λ ys. IsSetOf 129 (IsPermitted (map f ys) (map act ys)) new) (sym split)
      (subst (λ x. IsSetOf 129 (IsPermitted (f r ∷ map f (drop i xs)) (x ∷ map act (drop i xs))) new) (sym e) k)

  pub permitted_more : act r ≡ Permit → IsUnion 129 old (f r ∷ []) new
      → IsSetOf 129 (IsPermitted (map f (drop (i - 1) xs)) (map act (drop (i - 1) xs))) new
  permitted_more e u = with_rule Permit e (permit_step (f r) (map f (drop i xs)) (map act (drop i xs)) old new h u)

  pub denied_more : act r ≡ Deny → IsDifference 129 old (f r ∷ []) new
      → IsSetOf 129 (IsPermitted (map f (drop (i - 1) xs)) (map act (drop (i - 1) xs))) new
  denied_more e u = with_rule Deny e (deny_step (f r) (map f (drop i xs)) (map act (drop i xs)) old new h u)

-- ---- earlier rules and later ones
-- the networks of both
pub covers_both : (ps qs : List (List Bool)) (a : List Bool) → Covers (ps ++ qs) a ↔ (Covers ps a ⊎ Covers qs a)
covers_both [] qs a = (λ c. inr c, λ h. elim h [ inl c ↦ absurd (contains_nothing c.0 c.1) | inr c ↦ c ])
covers_both (p ∷ ps) qs a = (
  λ c. elim (begins_or a p) [
    | inl b ↦ inl (p, contains_first p ps, b)
    | inr n ↦ elim ((covers_both ps qs a).0 (covers_later p (ps ++ qs) a n c)) [
      | inl d ↦ inl (d.0, contains_later p d.0 ps d.1, d.2)
      | inr d ↦ inr d
    ]
  ],
  λ h. elim (begins_or a p) [
    | inl b ↦ (p, contains_first p (ps ++ qs), b)
    | inr n ↦
        let d = (covers_both ps qs a).1 (elim h [ inl c ↦ inl (covers_later p ps a n c) | inr c ↦ inr c ]) in
        (d.0, contains_later p d.0 (ps ++ qs) d.1, d.2)
  ],
)

module _ {R : Type 0} (f : R → List Bool) (act : R → Action) where
  -- what both permit: the later ones where no earlier one contains the address
  permits_both : (a : List Bool) (xs ys : List R) → IsPermitted (map f (xs ++ ys)) (map act (xs ++ ys)) a
      ↔ (IsPermitted (map f xs) (map act xs) a ⊎ (IsPermitted (map f ys) (map act ys) a × ¬ (Covers (map f xs) a)))
  permits_both a [] ys = (
    λ h. inr (h, λ c. contains_nothing c.0 c.1),
    λ h. elim h [ inl k ↦ absurd (none-some k.1.0.0 k.1.0.1) | inr k ↦ k.0 ],
  )
  permits_both a (x ∷ xs) ys = elim (begins_or a (f x)) [
    | inl b ↦
        let whole = decided_first (f x) (map f (xs ++ ys)) a (map act (xs ++ ys)) (act x) b in
        let front = decided_first (f x) (map f xs) a (map act xs) (act x) b in (
          λ h. inl (front.1 (whole.0 h)),
          λ h. elim h [ inl k ↦ whole.1 (front.0 k) | inr k ↦ absurd (k.1 (f x, contains_first (f x) (map f xs), b)) ],
        )
    | inr n ↦
        let whole = passed_first (f x) (map f (xs ++ ys)) a (map act (xs ++ ys)) (act x) n in
        let front = passed_first (f x) (map f xs) a (map act xs) (act x) n in
        let later = permits_both a xs ys in (
          λ h. elim (later.0 (whole.0 h)) [
            | inl k ↦ inl (front.1 k)
            | inr k ↦ inr (k.0, λ c. k.1 (covers_later (f x) (map f xs) a n c))
          ],
          λ h. whole.1 (later.1 (elim h [
            | inl k ↦ inl (front.0 k)
            | inr k ↦ inr (k.0, λ c. k.1 (c.0, contains_later (f x) c.0 (map f xs) c.1, c.2))
          ])),
        )
  ]

  -- the sets of both: s and t of what they permit, c and d of their networks
  module _ (xs : List R) (m : ℕ) (s t c d : List (List Bool)) (hc : IsSetOf 129 (Covers (map f (take m xs))) c) where
    pub permitted_by_both : (left new : List (List Bool)) → IsSetOf 129 (IsPermitted (map f (take m xs)) (map act (take m xs))) s
        → IsSetOf 129 (IsPermitted (map f (drop m xs)) (map act (drop m xs))) t → IsDifference 129 t c left → IsUnion 129 s left new
        → IsSetOf 129 (IsPermitted (map f xs) (map act xs)) new
    permitted_by_both left new hs ht hl u =
        subst (λ ys. IsSetOf 129 (IsPermitted (map f ys) (map act ys)) new) (take-append-drop m xs)
        (set_alike 129 (λ a. Covers s a ⊎ Covers left a) (IsPermitted (map f (take m xs ++ drop m xs)) (map act (take m xs ++ drop m xs))) new
        (λ a la.
        let both = permits_both a (take m xs) (drop m xs) in (
          λ h. both.1 (elim h [
            | inl k ↦ inl ((hs.exact a la).0 k)
            | inr k ↦ let l = (hl.exact a la).0 k in inr ((ht.exact a la).0 l.0, λ e. l.1 ((hc.exact a la).1 e))
          ]),
          λ h. elim (both.0 h) [
            | inl k ↦ inl ((hs.exact a la).1 k)
            | inr k ↦ inr ((hl.exact a la).1 ((ht.exact a la).1 k.0, λ e. k.1 ((hc.exact a la).0 e)))
          ],
        )) u)

    pub matched_by_both : (new : List (List Bool)) → IsSetOf 129 (Covers (map f (drop m xs))) d → IsUnion 129 c d new
        → IsSetOf 129 (Covers (map f xs)) new
    matched_by_both new hd u =
        subst (λ ys. IsSetOf 129 (Covers (map f ys)) new) (take-append-drop m xs)
        (subst (λ ps. IsSetOf 129 (Covers ps) new) (sym (map-append f (take m xs) (drop m xs)))
        (set_alike 129 (λ a. Covers c a ⊎ Covers d a) (Covers (map f (take m xs) ++ map f (drop m xs))) new
        (λ a la.
        let both = covers_both (map f (take m xs)) (map f (drop m xs)) a in (
          λ h. both.1 (elim h [ inl k ↦ inl ((hc.exact a la).0 k) | inr k ↦ inr ((hd.exact a la).0 k) ]),
          λ h. elim (both.0 h) [ inl k ↦ inl ((hc.exact a la).1 k) | inr k ↦ inr ((hd.exact a la).1 k) ],
        )) u))

-- before the first step
pub permitted_end : {R : Type 0} (f : R → List Bool) (act : R → Action) (xs : List R) (i : ℕ) → length xs ≤ i
    → IsSetOf 129 (IsPermitted (map f (drop i xs)) (map act (drop i xs))) []
permitted_end f act xs i le =
    subst (λ ys. IsSetOf 129 (IsPermitted (map f ys) (map act ys)) []) (sym (drop_all i xs le)) permits_none

-- ---- two lists
pub same_permitted : (w : ℕ) (ps qs : List (List Bool)) (acts bcts : List Action) (s t : List (List Bool))
    → IsSetOf w (IsPermitted ps acts) s → IsSetOf w (IsPermitted qs bcts) t
    → (s ≡ t) ↔ ((a : List Bool) → length a ≡ w → IsPermitted ps acts a ↔ IsPermitted qs bcts a)
same_permitted w ps qs acts bcts s t h k = (
  λ e a la. (
    λ x. (k.exact a la).0 (subst (λ l. Covers l a) e ((h.exact a la).1 x)),
    λ x. (h.exact a la).0 (subst (λ l. Covers l a) (sym e) ((k.exact a la).1 x)),
  ),
  λ same. one_list w s t h.reduced k.reduced (λ a la. (
    λ c. (k.exact a la).1 ((same a la).0 ((h.exact a la).0 c)),
    λ c. (h.exact a la).1 ((same a la).1 ((k.exact a la).0 c)),
  )),
)

-- ---- indices
-- a number behind smaller ones
pub increasing_push : (ns : List ℕ) (n : ℕ) → IsStrictlyIncreasing ns → ((m : ℕ) → Contains ns m → m < n) → IsStrictlyIncreasing (ns ++ n ∷ [])
increasing_push ns n h below k l = elim (cases_lt (k + 1) (length ns)) [
  | inl lt ↦ rw (get_or_append_left ns (n ∷ []) 0 k (omega arith), get_or_append_left ns (n ∷ []) 0 (k + 1) lt) (h k lt)
  | inr le ↦
      let last : length ns ≡ k + 1 = omega (arith, length_push ns n, l) in
      rw (get_or_append_left ns (n ∷ []) 0 k (omega arith), get_or_push ns n 0 (k + 1) last)
      (below (get_or ns k 0) (k, omega arith, get_or_default ns k (get_or ns k 0) 0 (omega arith)))
]

-- the indices below i of which S holds, and i
module _ (S : ℕ → Type 0) (i : ℕ) (out : List ℕ) (h : (j : ℕ) → Contains out j ↔ ((j < i) × S j)) where
  pub index_pushed : S i → (j : ℕ) → Contains (out ++ i ∷ []) j ↔ ((j < i + 1) × S j)
  index_pushed s j = (
    λ c. elim (Contains-push_cases out i j c) [
      | inl d ↦ let k = (h j).0 d in (omega (arith, k.0), k.1)
      | inr e ↦ (omega (arith, e), subst S e s)
    ],
    λ k. elim (cases_lt j i) [
      | inl lt ↦ Contains-append_left out (i ∷ []) j ((h j).1 (lt, k.1))
      | inr le ↦ let e : i ≡ j = omega (arith, k.0, le) in subst (Contains (out ++ i ∷ [])) e (Contains-push out i)
    ],
  )

  pub index_skipped : ¬ (S i) → (j : ℕ) → Contains out j ↔ ((j < i + 1) × S j)
  index_skipped n j = (
    λ c. let k = (h j).0 c in (omega (arith, k.0), k.1),
    λ k. elim (cases_lt j i) [
      | inl lt ↦ (h j).1 (lt, k.1)
      | inr le ↦ let e : j ≡ i = omega (arith, k.0, le) in absurd (n (subst S e k.1))
    ],
  )

  pub index_ascending : IsStrictlyIncreasing out → IsStrictlyIncreasing (out ++ i ∷ [])
  index_ascending up = increasing_push out i up (λ m d. ((h m).0 d).0)

-- the network of the rule at i
pub network_there : {R : Type 0} (f : R → List Bool) (xs : List R) (i : ℕ) (r : R) → i < length xs → r ≡ get_or xs i r
    → slice_get (map f xs) i ≡ Some (f r)
network_there f [] i r here is = absurd (omega (arith, here))
network_there f (x ∷ xs) zero r here is = ap (λ y. Some (f y)) (sym is)
network_there f (x ∷ xs) (suc i) r here is = network_there f xs i r (omega (arith, here)) is

module _ (ps : List (List Bool)) (i : ℕ) (q : List Bool) (there : slice_get ps i ≡ Some q) where
  -- the earlier networks and one more
  covers_next : (a : List Bool) → Covers (take (i + 1) ps) a ↔ (Covers (take i ps) a ⊎ BeginsWith a q)
  covers_next a =
      let split : take (i + 1) ps ≡ take i ps ++ q ∷ [] =
      take_more ps i q (slice_get_within ps i q there) ∙ ap (λ x. take i ps ++ x ∷ []) (get_or_from_slice_get ps i q q there) in
      subst (λ qs. Covers qs a ↔ (Covers (take i ps) a ⊎ BeginsWith a q)) (sym split) (covers_more (take i ps) q a)

  -- ---- rules that decide the addresses of the network p: what the earlier networks leave of it
  module _ (p : List Bool) (rest : List (List Bool)) (h : IsSetOf 129 (IsLeft ps p i) rest) where
    pub decides_where_meets : Meets 129 rest q ↔ IsDeciding 129 ps p i
    decides_where_meets = (
      λ m.
          let (a, la, b, c) = m in
          let k = (h.exact a la).0 c in
          (a, la, k.0, ((q, there, b), k.1)),
      λ d.
          let (a, la, b, f) = d in
          (a, la, subst (BeginsWith a) (same_Some f.0.0 q (sym f.0.1 ∙ there)) f.0.2, (h.exact a la).1 (b, f.1)),
    )

    pub left_less : (new : List (List Bool)) → IsDifference 129 rest (q ∷ []) new → IsSetOf 129 (IsLeft ps p (i + 1)) new
    left_less new u = set_alike 129 (λ a. Covers rest a × ¬ (Covers (q ∷ []) a)) (IsLeft ps p (i + 1)) new
        (λ a la. (
          λ c.
              let k = (h.exact a la).0 c.0 in
              (k.0, λ d. elim ((covers_next a).0 d) [ inl e ↦ k.1 e | inr e ↦ c.1 ((one_covers q a).1 e) ]),
          λ k. (
            (h.exact a la).1 (k.0, λ d. k.1 ((covers_next a).1 (inl d))),
            λ d. k.1 ((covers_next a).1 (inr ((one_covers q a).0 d))),
          ),
        )) u

    pub left_same : ¬ (Meets 129 rest q) → IsSetOf 129 (IsLeft ps p (i + 1)) rest
    left_same n = set_alike 129 (IsLeft ps p i) (IsLeft ps p (i + 1)) rest
        (λ a la. (
          λ k. (k.0, λ d. elim ((covers_next a).0 d) [ inl e ↦ k.1 e | inr e ↦ n (a, la, e, (h.exact a la).1 k) ]),
          λ k. (k.0, λ d. k.1 ((covers_next a).1 (inl d))),
        )) h

pub left_all : (ps : List (List Bool)) (p : List Bool) (rest : List (List Bool)) → IsUnion 129 [] (p ∷ []) rest
    → IsSetOf 129 (IsLeft ps p 0) rest
left_all ps p rest u = set_alike 129 (λ a. Covers [] a ⊎ Covers (p ∷ []) a) (IsLeft ps p 0) rest
    (λ a la. (
      λ c. elim c [
        | inl d ↦ absurd (contains_nothing d.0 d.1)
        | inr d ↦ ((one_covers p a).0 d, λ e. contains_nothing e.0 e.1)
      ],
      λ k. inr ((one_covers p a).1 k.0),
    )) u

-- what some first networks cover, more of them do
covers_taken : (ps : List (List Bool)) (i j : ℕ) (a : List Bool) → i ≤ j → Covers (take i ps) a → Covers (take j ps) a
covers_taken ps zero j a le c = absurd (contains_nothing c.0 c.1)
covers_taken [] (suc i) j a le c = absurd (contains_nothing c.0 c.1)
covers_taken (p ∷ ps) (suc i) zero a le c = absurd (omega arith)
covers_taken (p ∷ ps) (suc i) (suc j) a le c = elim (begins_or a p) [
  | inl b ↦ (p, contains_first p (take j ps), b)
  | inr n ↦
      let d = covers_taken ps i j a (omega arith) (covers_later p (take i ps) a n c) in
      (d.0, contains_later p d.0 (take j ps) d.1, d.2)
]

-- where nothing is left, the earlier rules decide
pub decided_before : (ps : List (List Bool)) (p : List Bool) (i : ℕ) → IsSetOf 129 (IsLeft ps p i) [] → (j : ℕ) → IsDeciding 129 ps p j → j < i
decided_before ps p i h j d =
    let (a, la, b, f) = d in
    elim (cases_lt j i) [
      | inl lt ↦ lt
      | inr le ↦ let c = (h.exact a la).1 (b, λ e. f.1 (covers_taken ps i j a le e)) in absurd (contains_nothing c.0 c.1)
    ]

pub deciding_within : (w : ℕ) (ps : List (List Bool)) (p : List Bool) (i : ℕ) → IsDeciding w ps p i → i < length ps
deciding_within w ps p i d = let (a, la, b, f) = d in slice_get_within ps i f.0.0 f.0.1

-- ---- which rules decide the addresses of the network at i
first_exists : (ps : List (List Bool)) (a : List Bool) → Covers ps a → (j : ℕ) × IsFirstRule ps a j
first_exists [] a c = absurd (contains_nothing c.0 c.1)
first_exists (p ∷ ps) a c = elim (begins_or a p) [
  | inl b ↦ (0, first_here p ps a b)
  | inr n ↦ let k = first_exists ps a (covers_later p ps a n c) in (suc k.0, first_behind p ps a k.0 n k.1)
]

module _ (ps : List (List Bool)) (i : ℕ) (p : List Bool) (there : slice_get ps i ≡ Some p) where
  pub some_decides : (a : List Bool) → BeginsWith a p → (j : ℕ) × IsFirstRule ps a j
  some_decides a b = first_exists ps a (p, (i, slice_get_within ps i p there, get_or_from_slice_get ps i p p there), b)

  pub earlier_decides : (w j : ℕ) → IsShadowed w ps i → IsDeciding w ps p j → j < i
  earlier_decides w j sh d =
      let (a, la, b, f) = d in
      elim (cases_lt j i) [
        | inl lt ↦ lt
        | inr le ↦ elim (cases_lt i j) [
          | inr ge ↦ let e : j ≡ i = omega (arith, le, ge) in absurd (sh.1 a la (subst (IsFirstRule ps a) e f))
          | inl lt ↦
              let long = slice_get_within ps i p there in
              let size : i < length (take j ps) = omega (arith, length-take j ps, lt, long) in
              absurd (f.1 (p, (i, size, get_or-take j ps i p lt ∙ get_or_from_slice_get ps i p p there), b))
        ]
      ]

-- ---- the rules that cover a rule
pub deciding_rules : (w : ℕ) (networks : List (List Bool)) (i : ℕ) (p : List Bool) (rules : List ℕ) → slice_get networks i ≡ Some p
    → ((j : ℕ) → Contains rules j ↔ IsDeciding w networks p j) → IsStrictlyIncreasing rules → AreDecidingRules w networks i rules
deciding_rules w networks i p rules there h ascending = record {
  exact = λ q e. subst (λ t. (j : ℕ) → Contains rules j ↔ IsDeciding w networks t j) (same_Some p q (sym there ∙ e)) h;
  ascending = ascending;
}
