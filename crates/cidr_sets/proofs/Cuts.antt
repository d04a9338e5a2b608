-- What is left of networks without the addresses of others.
use Rattle.std.proofs.Common.{◌≡◌, ◌≢◌, ◌↔◌, ◌⊎◌, ℕ, zero, suc, ◌+◌, ◌-◌, ◌*◌, ◌<◌, ◌≤◌, Bool, true, false, List, [], ◌∷◌, ◌++◌, length, length-append, drop, refl, sym, ap, ◌∙◌, subst, arith, inl, inr, Some}
use Rattle.std.proofs.lemmas.Nat.{mul-le}
use Rattle.std.proofs.lemmas.Bool.{cases_lt}
use Rattle.std.proofs.lemmas.List.{drop-drop}
use Rattle.std.proofs.lemmas.List.Elements.{Contains-push_cases}
use Rattle.std.proofs.lemmas.Option.{same_Some}
use Rattle.std.specs.List.{Contains, slice_get}
use Rattle.std.specs.declared.cmp.Ordering.{Ordering}
use Rattle.std.specs.declared.cmp.Ordering.TheVariants.{Less, Equal, Greater}
use Rattle.cidr.specs.model.Bits.{bit_cmp}
use Rattle.cidr.specs.model.Network.{BeginsWith}
use Rattle.cidr.specs.laws.BitLaws.{bit_cmp_total}
use Rattle.cidr_table.specs.model.Cover.{AreNetworks, Covers, IsMember, IsReduced, parent}
use Rattle.cidr_table.proofs.Ascending.{first_less, sorted_push}
use Rattle.cidr_table.proofs.Beginnings.{begins_between, begins_length, bits_exact, not_before}
use Rattle.cidr_table.proofs.Halves.{begins_begins, begins_both, begins_itself, either_half, half_begins, length_half, parent_half, same_length}
use Rattle.cidr_table.proofs.MapLaws.{contains_cases, contains_first, contains_later, contains_nothing}
use Rattle.cidr_table.proofs.Order.{halves_less, less_not_itself, lower_less, not_both}
use Rattle.cidr_table.proofs.Reduced.{HoldNoOther, covers_more, reduced_is_least}
use Rattle.cidr_table.proofs.Stacks.{spread_from_reduced}
use Rattle.cidr_sets.specs.model.Sets.{IsComplement, IsDifference}
use Rattle.cidr_sets.specs.internal.Steps.{Ascend, IsBehind, IsDifferenceStep, IsOver, IsRest, IsSkipped}
use Rattle.cidr_sets.proofs.Addresses.{set_alike}
use Rattle.cidr_sets.proofs.Algebra.{covers_within, some_address}
use Rattle.cidr_sets.proofs.Members.{IsMemberOf, members_fit, set_of_members}
use Rattle.cidr_sets.proofs.Steps.{first_or_rest, less_longer, none_ascend, one_ascends, rest_ascends, turned}

-- ---- the last ones of a list
abbrev pub IsSuffix : List (List Bool) → List (List Bool) → Type 0
IsSuffix rest all = (k : ℕ) × (rest ≡ drop k all) × (length rest + k ≡ length all)

pub suffix_all : (s : List (List Bool)) → IsSuffix s s
suffix_all s = (0, refl, omega arith)

pub suffix_rest : (p : List Bool) (s t : List (List Bool)) → IsSuffix (p ∷ s) t → IsSuffix s t
suffix_rest p s t h = (h.0 + 1, ap (drop 1) h.1 ∙ drop-drop 1 h.0 t, omega (arith, h.2))

pub suffix_of : (r s t : List (List Bool)) → IsSuffix r s → IsSuffix s t → IsSuffix r t
suffix_of r s t h k = (
  k.0 + h.0,
  h.1 ∙ ap (drop h.0) k.1 ∙ drop-drop h.0 k.0 t,
  omega (arith, h.2, k.2),
)

pub suffix_contains : (k : ℕ) (t : List (List Bool)) (x : List Bool) → Contains (drop k t) x → Contains t x
suffix_contains zero t x c = c
suffix_contains (suc k) [] x c = c
suffix_contains (suc k) (y ∷ t) x c = contains_later y x t (suffix_contains k t x c)

suffix_ascends_from : (k : ℕ) (t : List (List Bool)) → Ascend t → Ascend (drop k t)
suffix_ascends_from zero t h = h
suffix_ascends_from (suc k) [] h = h
suffix_ascends_from (suc k) (y ∷ t) h = suffix_ascends_from k t (rest_ascends y t h)

pub suffix_ascends : (s t : List (List Bool)) → IsSuffix s t → Ascend t → Ascend s
suffix_ascends s t h a = subst Ascend (sym h.1) (suffix_ascends_from h.0 t a)

pub suffix_apart : (s t : List (List Bool)) → IsSuffix s t → HoldNoOther t → HoldNoOther s
suffix_apart s t h k p q c d = k p q (inside p c) (inside q d)
  where
    inside : (x : List Bool) → Contains s x → Contains t x
    inside x c = suffix_contains h.0 t x (subst (λ l. Contains l x) h.1 c)

pub suffix_networks : (w : ℕ) (s t : List (List Bool)) → IsSuffix s t → AreNetworks w t → AreNetworks w s
suffix_networks w s t h n p c = n p (suffix_contains h.0 t p (subst (λ l. Contains l p) h.1 c))

suffix_same : (s t : List (List Bool)) → IsSuffix s t → length t ≤ length s → s ≡ t
suffix_same s t h le = h.1 ∙ ap (λ k. drop k t) (zero_of h.0 (omega (arith, h.2)))
  where
    zero_of : (k : ℕ) → k ≤ 0 → k ≡ 0
    zero_of k h = omega (arith, h)

-- ---- lists that aren't before a network, or behind it
pub not_after : (p a : List Bool) → BeginsWith a p → bit_cmp p a ≢ Greater
not_after p a b g = not_before a p b (turned p a g)

pub less_not_greater : (p a : List Bool) → bit_cmp p a ≡ Less → bit_cmp p a ≢ Greater
less_not_greater p a h g = (let e = sym h ∙ g in (cc))

-- what begins with a network comes before what is behind it
inner_before : (p x k : List Bool) → BeginsWith x p → IsBehind p k → bit_cmp x k ≡ Less
inner_before p x k b h = by_order (bit_cmp x k) refl
  where
    by_order : (r : Ordering) → bit_cmp x k ≡ r → bit_cmp x k ≡ Less
    by_order Less e = e
    by_order Equal e =
        absurd (h.1 (subst (λ z. BeginsWith z p) (bits_exact x k e) b))
    by_order Greater e = absurd (h.1 (begins_between p x k b (not_both p k h.0) (λ g. (let f = sym (turned x k e) ∙ g in (cc)))))

pub inner_behind : (p q k : List Bool) → BeginsWith q p → IsBehind p k → IsBehind q k
inner_behind p q k b h = (inner_before p q k b h, λ c. h.1 (begins_begins k q p c b))

-- what begins with the upper half is behind the lower one
pub upper_behind : (p a : List Bool) → BeginsWith a (p ++ true ∷ []) → IsBehind (p ++ false ∷ []) a
upper_behind p a b = (
  halves_less p (p ++ false ∷ []) a (begins_itself (p ++ false ∷ [])) b,
  λ c. less_not_itself a (halves_less p a a c b),
)

-- what begins with a later network that doesn't lie in this one
pub later_behind : (p q a : List Bool) → bit_cmp p q ≡ Less → ¬ (BeginsWith q p) → BeginsWith a q → IsBehind p a
later_behind p q a less apart b = (
  less_longer p q a less b,
  λ c. elim (cases_lt (length p) (length q)) [
    | inl lt ↦ apart (begins_both a q p b c (omega arith))
    | inr le ↦ not_before p q (begins_both a p q c b le) less
  ],
)

-- ---- the first ones that are skipped
pub skip_more : (p f : List Bool) (s : List (List Bool)) → bit_cmp f p ≡ Less → ¬ (BeginsWith p f) → (a : List Bool)
    → bit_cmp p a ≢ Greater → Covers (f ∷ s) a ↔ Covers s a
skip_more p f s less apart a n = (
  λ c. elim ((first_or_rest f s a).0 c) [
    | inl b ↦ absurd (apart (begins_between f a p b (not_both f p less) n))
    | inr d ↦ d
  ],
  λ c. (first_or_rest f s a).1 (inr c),
)

pub first_passed : (p f : List Bool) (s rest : List (List Bool)) → rest ≡ f ∷ s → ¬ ((bit_cmp f p ≡ Less) × ¬ (BeginsWith p f))
    → (q : List Bool) → slice_get rest 0 ≡ Some q → ¬ ((bit_cmp q p ≡ Less) × ¬ (BeginsWith p q))
first_passed p f s rest e n q h =
    subst (λ z. ¬ ((bit_cmp z p ≡ Less) × ¬ (BeginsWith p z))) (same_Some f q (subst (λ l. slice_get l 0 ≡ Some q) e h)) n

pub first_of_none : (p : List Bool) (rest : List (List Bool)) → rest ≡ []
    → (q : List Bool) → slice_get rest 0 ≡ Some q → ¬ ((bit_cmp q p ≡ Less) × ¬ (BeginsWith p q))
first_of_none p rest e q h = (let none : slice_get [] 0 ≡ Some q = subst (λ l. slice_get l 0 ≡ Some q) e h in (cc))

-- ---- arithmetic
module _ (v r l : ℕ) (le : r ≤ l) where
  scaled : v * r ≤ v * l
  scaled = mul-le v r v l (omega arith) le

-- ---- a network of what is left
-- the others without the first ones, which have no address of p
pub rest_suffix : (p : List Bool) (others rest : List (List Bool)) → IsSuffix rest others
    → ((a : List Bool) → BeginsWith a p → Covers others a → Covers rest a) → (x : List Bool) → IsRest p rest x → IsRest p others x
rest_suffix p others rest h kept x r = record {
  inside = r.inside;
  free = λ a la b c. r.free a la b (kept a (begins_begins a x p b r.inside) c);
  widest = elim r.widest [
    | inl e ↦ inl e
    | inr k ↦ inr (k.0, suffix_contains h.0 others k.0 (subst (λ l. Contains l k.0) h.1 k.1), k.2, k.3)
  ];
}

-- a half of a network in which another lies
pub rest_half : (p f : List Bool) (s : List (List Bool)) (b : Bool) → BeginsWith f p → length p < length f
    → (x : List Bool) → IsRest (p ++ b ∷ []) (f ∷ s) x → IsRest p (f ∷ s) x
rest_half p f s b inside short x r = record {
  inside = begins_begins x (p ++ b ∷ []) p r.inside (half_begins p b);
  free = r.free;
  widest = inr (elim r.widest [
    | inl e ↦ (
      f,
      contains_first f s,
      subst (BeginsWith f) (sym (ap parent e ∙ parent_half p b)) inside,
      omega (arith, ap length e, length_half p b, short),
    )
    | inr k ↦ k
  ]);
}

-- ---- what is left of one network
module _ (p : List Bool) (old : List (List Bool)) (ascend : Ascend old)
    (before : (x : List Bool) → Contains old x → bit_cmp x p ≡ Less) where
  old_before : (k : List Bool) → IsBehind p k → (x : List Bool) → Contains old x → bit_cmp x k ≡ Less
  old_before k h x c = bit_cmp_total.trans x p k (before x c) h.0

  -- nothing, where another contains it
  module _ (f : List Bool) (s : List (List Bool)) (inside : BeginsWith p f) where
    none_left : (a : List Bool) → Covers old a ↔ (Covers old a ⊎ (BeginsWith a p × ¬ (Covers (f ∷ s) a)))
    none_left a = (
      λ c. inl c,
      λ c. elim c [
        | inl d ↦ d
        | inr d ↦ absurd (d.1 (covers_within (f ∷ s) a p d.0 (f, contains_first f s, inside)))
      ],
    )

    pub cut_same : length f ≡ length p → IsDifferenceStep p old old (f ∷ s) s
    cut_same size =
        let same : p ≡ f = same_length p f inside (omega (arith, size)) in
        record {
          ascend = ascend;
          before = old_before;
          covers = λ a la. none_left a;
          each = λ x c. inl c;
          suffix = (1, refl, omega arith);
          behind = λ a h. (
            λ c. elim ((first_or_rest f s a).0 c) [ inl b ↦ absurd (h.1 (subst (BeginsWith a) (sym same) b)) | inr d ↦ d ],
            λ c. (first_or_rest f s a).1 (inr c),
          );
          used = λ q e b. omega arith;
          fits = λ w n. (let m = scaled (w - length p) (length s) (length (f ∷ s)) (omega arith) in omega (arith, m));
        }

    pub cut_covered : length f ≢ length p → IsDifferenceStep p old old (f ∷ s) (f ∷ s)
    cut_covered larger = record {
      ascend = ascend;
      before = old_before;
      covers = λ a la. none_left a;
      each = λ x c. inl c;
      suffix = suffix_all (f ∷ s);
      behind = λ a h. (λ c. c, λ c. c);
      used = λ q e b. absurd (larger (omega (
        arith,
        begins_length p f inside,
        begins_length q p b,
        ap length (same_Some f q e),
      )));
      fits = λ w n. omega arith;
    }

  -- all of it, where no other has an address of it
  pub cut_whole : (s : List (List Bool)) → ((a : List Bool) → BeginsWith a p → ¬ (Covers s a)) → IsDifferenceStep p old (old ++ p ∷ []) s s
  cut_whole s none = record {
    ascend = sorted_push old p ascend before;
    before = λ k h x c. elim (Contains-push_cases old p x c) [
      | inl d ↦ old_before k h x d
      | inr e ↦ subst (λ z. bit_cmp z k ≡ Less) e h.0
    ];
    covers = λ a la. (
      λ c. elim ((covers_more old p a).0 c) [ inl d ↦ inl d | inr b ↦ inr (b, none a b) ],
      λ c. (covers_more old p a).1 (elim c [ inl d ↦ inl d | inr d ↦ inr d.0 ]),
    );
    each = λ x c. elim (Contains-push_cases old p x c) [
      | inl d ↦ inl d
      | inr e ↦ inr (subst (IsRest p s) e (record { inside = begins_itself p; free = λ a la b. none a b; widest = inl refl }))
    ];
    suffix = suffix_all s;
    behind = λ a h. (λ c. c, λ c. c);
    used = λ q e b. absurd (none q b (first_covers s q e));
    fits = λ w n. omega (arith, length-append old (p ∷ []));
  }
    where
      first_covers : (s : List (List Bool)) (q : List Bool) → slice_get s 0 ≡ Some q → Covers s q
      first_covers [] q e = absurd (cc)
      first_covers (y ∷ s) q e = subst (Covers (y ∷ s)) (same_Some y q e) (y, contains_first y s, begins_itself y)

-- behind those that are skipped
rest_skipped : (p : List Bool) (others left : List (List Bool)) → IsSkipped p others left → (x : List Bool) → IsRest p left x
    → IsRest p others x
rest_skipped p others left h = rest_suffix p others left h.suffix (λ a b. (h.covers a (not_after p a b)).0)

-- a network that is left whole is one too many
pub over_whole : (p : List Bool) (old others rest : List (List Bool)) (room : ℕ) → IsDifferenceStep p old (old ++ p ∷ []) others rest
    → room ≤ length old → IsOver p old others room
over_whole p old others rest room k full = record {
  networks = old ++ p ∷ [];
  over = omega (arith, full, length-append old (p ∷ []));
  ascend = k.ascend;
  each = k.each;
}

pub over_skipped : (p : List Bool) (old others left : List (List Bool)) (room : ℕ) → IsSkipped p others left → IsOver p old left room
    → IsOver p old others room
over_skipped p old others left room h k = record {
  networks = k.networks;
  over = k.over;
  ascend = k.ascend;
  each = λ x c. elim (k.each x c) [ inl d ↦ inl d | inr d ↦ inr (rest_skipped p others left h x d) ];
}

pub cut_skipped : (p : List Bool) (old new others left rest : List (List Bool)) → IsSkipped p others left
    → IsDifferenceStep p old new left rest → IsDifferenceStep p old new others rest
cut_skipped p old new others left rest h k = record {
  ascend = k.ascend;
  before = k.before;
  covers = λ a la. (
    λ c. elim ((k.covers a la).0 c) [
      | inl d ↦ inl d
      | inr d ↦ inr (d.0, λ e. d.1 ((h.covers a (not_after p a d.0)).0 e))
    ],
    λ c. (k.covers a la).1 (elim c [
      | inl d ↦ inl d
      | inr d ↦ inr (d.0, λ e. d.1 ((h.covers a (not_after p a d.0)).1 e))
    ]),
  );
  each = λ x c. elim (k.each x c) [ inl d ↦ inl d | inr d ↦ inr (rest_skipped p others left h x d) ];
  suffix = suffix_of rest left others k.suffix h.suffix;
  behind = λ a b.
      let same = h.covers a (less_not_greater p a b.0) in
      (λ c. (k.behind a b).0 (same.0 c), λ c. same.1 ((k.behind a b).1 c));
  used = λ q e b. elim (cases_lt (length left) (length others)) [
    | inl lt ↦ omega (arith, lt, k.suffix.2)
    | inr le ↦
        let same = suffix_same left others h.suffix le in
        omega (arith, ap length same, k.used q (subst (λ l. slice_get l 0 ≡ Some q) (sym same) e) b)
  ];
  fits = λ w n.
      let m = scaled (w - length p) (length left) (length others) (omega (arith, h.suffix.2)) in
      omega (arith, m, k.fits w (suffix_networks w left others h.suffix n));
}

-- by halves, where another lies in it
module _ (p f : List Bool) (s : List (List Bool)) (inside : BeginsWith f p) (short : length p < length f) where
  pub over_lower : (old : List (List Bool)) (room : ℕ) → IsOver (p ++ false ∷ []) old (f ∷ s) room → IsOver p old (f ∷ s) room
  over_lower old room k = record {
    networks = k.networks;
    over = k.over;
    ascend = k.ascend;
    each = λ x c. elim (k.each x c) [ inl d ↦ inl d | inr d ↦ inr (rest_half p f s false inside short x d) ];
  }

  module _ (old mid rest : List (List Bool)) (lo : IsDifferenceStep (p ++ false ∷ []) old mid (f ∷ s) rest) where
    -- what is left of the upper half without the rest
    halves_each : (x : List Bool) → Contains mid x ⊎ IsRest (p ++ true ∷ []) rest x → Contains old x ⊎ IsRest p (f ∷ s) x
    halves_each x (inl c) = elim (lo.each x c) [ inl d ↦ inl d | inr d ↦ inr (rest_half p f s false inside short x d) ]
    halves_each x (inr r) = inr (rest_half p f s true inside short x
        (rest_suffix (p ++ true ∷ []) (f ∷ s) rest lo.suffix (λ a b. (lo.behind a (upper_behind p a b)).0) x r))

    pub over_upper : (room : ℕ) → IsOver (p ++ true ∷ []) mid rest room → IsOver p old (f ∷ s) room
    over_upper room k = record {
      networks = k.networks;
      over = k.over;
      ascend = k.ascend;
      each = λ x c. halves_each x (k.each x c);
    }

module _ (p f : List Bool) (s old mid new rest last : List (List Bool)) (inside : BeginsWith f p) (short : length p < length f)
    (lo : IsDifferenceStep (p ++ false ∷ []) old mid (f ∷ s) rest) (up : IsDifferenceStep (p ++ true ∷ []) mid new rest last) (within : length p < 129) where
  fewer : length last < length (f ∷ s)
  fewer = elim (either_half f p inside short) [
    | inl b ↦ omega (arith, lo.used f refl b, up.suffix.2)
    | inr b ↦ elim (cases_lt (length rest) (length (f ∷ s))) [
      | inl lt ↦ omega (arith, lt, up.suffix.2)
      | inr le ↦
          let same = suffix_same rest (f ∷ s) lo.suffix le in
          omega (arith, ap length same, up.used f (subst (λ l. slice_get l 0 ≡ Some f) (sym same) refl) b)
    ]
  ]

  halves_fit : (w : ℕ) → AreNetworks w (f ∷ s)
      → length new + (w - length p) * length last ≤ length old + 1 + (w - length p) * length (f ∷ s)
  halves_fit w n =
      let long = n f (contains_first f s) in
      let v = w - (length p + 1) in
      let is : w - length p ≡ v + 1 = omega (arith, long, short) in
      let low = lo.fits w n in
      let high = up.fits w (suffix_networks w rest (f ∷ s) lo.suffix n) in
      let vl = w - length (p ++ false ∷ []) in
      let vu = w - length (p ++ true ∷ []) in
      let el : vl ≡ v = ap (λ k. w - k) (length_half p false) in
      let eu : vu ≡ v = ap (λ k. w - k) (length_half p true) in
      sum_up v (w - length p) (length old) (length mid) (length new) (length (f ∷ s)) (length rest) (length last) is
      (subst (λ u. length mid + u * length rest ≤ length old + 1 + u * length (f ∷ s)) el low)
      (subst (λ u. length new + u * length last ≤ length mid + 1 + u * length rest) eu high) fewer
    where
      sum_up : (v u o m n l r t : ℕ) → u ≡ v + 1 → m + v * r ≤ o + 1 + v * l → n + v * t ≤ m + 1 + v * r → t < l
          → n + u * t ≤ o + 1 + u * l
      sum_up v u o m n l r t e h k lt =
          let x : u * t ≡ v * t + t = ap (λ z. z * t) e ∙ suc_times v t in
          let y : u * l ≡ v * l + l = ap (λ z. z * l) e ∙ suc_times v l in
          omega (arith, x, y, h, k, lt)
        where
          suc_times : (v t : ℕ) → (v + 1) * t ≡ v * t + t
          suc_times v t = grind arith

  pub cut_halves : IsDifferenceStep p old new (f ∷ s) last
  cut_halves = record {
    ascend = up.ascend;
    before = λ k h. up.before k (inner_behind p (p ++ true ∷ []) k (half_begins p true) h);
    covers = λ a la. (
      λ c. elim ((up.covers a la).0 c) [
        | inl d ↦ elim ((lo.covers a la).0 d) [
          | inl e ↦ inl e
          | inr e ↦ inr (begins_begins a (p ++ false ∷ []) p e.0 (half_begins p false), e.1)
        ]
        | inr d ↦ inr (
          begins_begins a (p ++ true ∷ []) p d.0 (half_begins p true),
          λ e. d.1 ((lo.behind a (upper_behind p a d.0)).0 e),
        )
      ],
      λ c. elim c [
        | inl d ↦ (up.covers a la).1 (inl ((lo.covers a la).1 (inl d)))
        | inr d ↦ elim (either_half a p d.0 (omega (arith, la, within))) [
          | inl b ↦ (up.covers a la).1 (inl ((lo.covers a la).1 (inr (b, d.1))))
          | inr b ↦ (up.covers a la).1 (inr (b, λ e. d.1 ((lo.behind a (upper_behind p a b)).1 e)))
        ]
      ],
    );
    each = λ x c. halves_each p f s inside short old mid rest lo x (up.each x c);
    suffix = suffix_of last rest (f ∷ s) up.suffix lo.suffix;
    behind = λ a h.
        let low = lo.behind a (inner_behind p (p ++ false ∷ []) a (half_begins p false) h) in
        let high = up.behind a (inner_behind p (p ++ true ∷ []) a (half_begins p true) h) in
        (λ c. high.0 (low.0 c), λ c. low.1 (high.1 c));
    used = λ q e b. fewer;
    fits = halves_fit;
  }

  pub upper_before : (x : List Bool) → Contains mid x → bit_cmp x (p ++ true ∷ []) ≡ Less
  upper_before = lo.before (p ++ true ∷ []) (upper_behind p (p ++ true ∷ []) (begins_itself (p ++ true ∷ [])))

-- what is left of a network of a set without others is a network of the rest of that set
pub member_of_rest : (these those : List (List Bool)) (p : List Bool) (left : List (List Bool)) → IsMember 129 these p
    → ((q : List Bool) → Contains left q → Contains those q × (length q ≤ 129))
    → ((a : List Bool) → length a ≡ 129 → BeginsWith a p → ¬ (Covers left a) → Covers these a × ¬ (Covers those a))
    → (x : List Bool) → IsRest p left x → IsMemberOf (λ a. Covers these a × ¬ (Covers those a)) x
member_of_rest these those p left m short full x r = record {
  within = elim r.widest [
    | inl e ↦ omega (arith, ap length e, m.within)
    | inr k ↦ omega (arith, k.3, (short k.0 k.1).1)
  ];
  full = λ a la b. full a la (begins_begins a x p b r.inside) (r.free a la b);
  widest = elim r.widest [
    | inl e ↦ elim m.widest [
      | inl z ↦ inl (e ∙ z)
      | inr bare ↦ inr (λ f. bare (λ a la b. (f a la (subst (λ y. BeginsWith a (parent y)) (sym e) b)).0))
    ]
    | inr k ↦ inr (λ f.
        let q = short k.0 k.1 in
        let (a, la, b) = some_address k.0 q.1 in
        (f a la (begins_begins a k.0 (parent x) b k.2)).1 (k.0, q.0, b))
  ];
}

-- ---- what is left of a set
module _ (these those : List (List Bool)) where
  pub record IsCutting (done todo left : List (List Bool)) : Type 0 where
    pub covers : (a : List Bool) → length a ≡ 129
        → (Covers these a × ¬ (Covers those a)) ↔ (Covers done a ⊎ (Covers todo a × ¬ (Covers left a)))
    pub ascend : Ascend done
    pub ascend_todo : Ascend todo
    pub ascend_left : Ascend left
    pub before : (x y : List Bool) → Contains done x → Contains todo y → bit_cmp x y ≡ Less
    pub apart : HoldNoOther todo
    pub apart_left : HoldNoOther left
    pub kept : (y : List Bool) → Contains todo y → Contains these y
    pub each : (x : List Bool) → Contains done x → IsMemberOf (λ a. Covers these a × ¬ (Covers those a)) x
    pub suffix : IsSuffix left those
    pub fits : (w : ℕ) → AreNetworks w those
        → length done + length todo + w * length left ≤ length these + w * length those

  pub cutting_none : Ascend these → HoldNoOther these → Ascend those → HoldNoOther those → IsCutting [] these those
  cutting_none h o k n = record {
    covers = λ a la. (λ c. inr c, λ c. elim c [ inl d ↦ absurd (contains_nothing d.0 d.1) | inr d ↦ d ]);
    ascend = none_ascend;
    ascend_todo = h;
    ascend_left = k;
    before = λ x y c d. absurd (contains_nothing x c);
    apart = o;
    apart_left = n;
    kept = λ y c. c;
    each = λ x c. absurd (contains_nothing x c);
    suffix = suffix_all those;
    fits = λ w n. omega arith;
  }

  module _ (hs : IsReduced 129 these) (ht : IsReduced 129 those) (p : List Bool) (ps done left : List (List Bool))
      (h : IsCutting done (p ∷ ps) left) where
    short : (q : List Bool) → Contains left q → Contains those q × (length q ≤ 129)
    short q c =
        let d = suffix_contains h.suffix.0 those q (subst (λ l. Contains l q) h.suffix.1 c) in
        (d, ((ht.members q).0 d).within)

    rest_member : (x : List Bool) → IsRest p left x → IsMemberOf (λ a. Covers these a × ¬ (Covers those a)) x
    rest_member = member_of_rest these those p left ((hs.members p).0 (h.kept p (contains_first p ps))) short
        (λ a la b n. (h.covers a la).1 (inr ((first_or_rest p ps a).1 (inl b), n)))

  pub cutting_more : IsReduced 129 these → IsReduced 129 those → (p : List Bool) (ps done new left rest : List (List Bool))
      → IsCutting done (p ∷ ps) left → IsDifferenceStep p done new left rest → IsCutting new ps rest
  cutting_more hs ht p ps done new left rest h k =
      let behind_first : (q a : List Bool) → Contains ps q → BeginsWith a q → IsBehind p a = λ q a c b.
      let less = first_less p ps h.ascend_todo q c in
      later_behind p q a less
      (λ d. less_not_itself q (subst (λ z. bit_cmp z q ≡ Less) (h.apart p q (contains_first p ps) (contains_later p q ps c) d) less))
      b in
      record {
        covers = λ a la. (
          λ c. elim ((h.covers a la).0 c) [
            | inl d ↦ inl ((k.covers a la).1 (inl d))
            | inr d ↦ elim ((first_or_rest p ps a).0 d.0) [
              | inl b ↦ inl ((k.covers a la).1 (inr (b, d.1)))
              | inr e ↦ inr (e, λ r. d.1 ((k.behind a (behind_first e.0 a e.1 e.2)).1 r))
            ]
          ],
          λ c. (h.covers a la).1 (elim c [
            | inl d ↦ elim ((k.covers a la).0 d) [
              | inl e ↦ inl e
              | inr e ↦ inr ((first_or_rest p ps a).1 (inl e.0), e.1)
            ]
            | inr d ↦ inr (
              (first_or_rest p ps a).1 (inr d.0),
              λ r. d.1 ((k.behind a (behind_first d.0.0 a d.0.1 d.0.2)).0 r),
            )
          ]),
        );
        ascend = k.ascend;
        ascend_todo = rest_ascends p ps h.ascend_todo;
        ascend_left = suffix_ascends rest left k.suffix h.ascend_left;
        before = λ x y c d. k.before y (behind_first y y d (begins_itself y)) x c;
        apart = λ x y c d. h.apart x y (contains_later p x ps c) (contains_later p y ps d);
        apart_left = suffix_apart rest left k.suffix h.apart_left;
        kept = λ y c. h.kept y (contains_later p y ps c);
        each = λ x c. elim (k.each x c) [ inl d ↦ h.each x d | inr d ↦ rest_member hs ht p ps done left h x d ];
        suffix = suffix_of rest left those k.suffix h.suffix;
        fits = λ w n. widened (w - length p) w (length done) (length new) (length ps) (length left) (length rest) (length these)
            (w * length those) (omega arith) (omega (arith, k.suffix.2))
            (k.fits w (suffix_networks w left those h.suffix n)) (h.fits w n);
      }
    where
      widened : (v w d n t l r x y : ℕ) → v ≤ w → r ≤ l → n + v * r ≤ d + 1 + v * l → d + suc t + w * l ≤ x + y
          → n + t + w * r ≤ x + y
      widened v w d n t l r x y vw rl h k =
          let u = w - v in
          let is : w ≡ v + u = omega (arith, vw) in
          let e : w * r ≡ v * r + u * r = ap (λ z. z * r) is ∙ split v u r in
          let f : w * l ≡ v * l + u * l = ap (λ z. z * l) is ∙ split v u l in
          omega (arith, e, f, h, k, scaled u r l rl)
        where
          split : (v u r : ℕ) → (v + u) * r ≡ v * r + u * r
          split v u r = grind arith

  pub cutting_all : (done left : List (List Bool)) → IsCutting done [] left → (a : List Bool) → length a ≡ 129
      → Covers done a ↔ (Covers these a × ¬ (Covers those a))
  cutting_all done left h a la = (
    λ c. (h.covers a la).1 (inl c),
    λ c. elim ((h.covers a la).0 c) [ inl d ↦ d | inr d ↦ absurd (contains_nothing d.0.0 d.0.1) ],
  )

  -- the rests of normal forms are in normal form
  pub cutting_set : (done left : List (List Bool)) → IsCutting done [] left → IsDifference 129 these those done
  cutting_set done left h = set_of_members (λ a. Covers these a × ¬ (Covers those a)) done (cutting_all done left h) h.ascend h.each

  -- where there's no room for them
  pub cutting_over : IsReduced 129 these → IsReduced 129 those → (p : List Bool) (ps done left : List (List Bool)) (room : ℕ)
      → IsCutting done (p ∷ ps) left → IsOver p done left room → (s : List (List Bool)) → IsDifference 129 these those s
      → room < length s
  cutting_over hs ht p ps done left room h k s d =
      let fit = members_fit (λ a. Covers these a × ¬ (Covers those a)) s k.networks d k.ascend
      (λ x c. elim (k.each x c) [ inl e ↦ h.each x e | inr e ↦ rest_member hs ht p ps done left h x e ]) in
      omega (arith, fit, k.over)

-- ---- what is left of one network alone
only : (p x : List Bool) → Contains (p ∷ []) x → p ≡ x
only p x c = elim (contains_cases p x [] c) [ inl e ↦ e | inr d ↦ absurd (contains_nothing x d) ]

one_reduced : (p : List Bool) → length p ≤ 129 → IsReduced 129 (p ∷ [])
one_reduced p short = reduced_is_least 129 (p ∷ []) (one_ascends p)
    (λ x c. omega (arith, short, ap length (only p x c)))
    (λ q c d. less_not_itself (q ++ true ∷ [])
    (subst (λ x. bit_cmp x (q ++ true ∷ []) ≡ Less) (sym (only p (q ++ false ∷ []) c) ∙ only p (q ++ true ∷ []) d) (lower_less q)))
    (λ x y c d b. sym (only p x c) ∙ only p y d)

module _ (p : List Bool) (short : length p ≤ 129) (others : List (List Bool)) (h : IsReduced 129 others) where
  alike : (a : List Bool) → (Covers (p ∷ []) a × ¬ (Covers others a)) ↔ (BeginsWith a p × ¬ (Covers others a))
  alike a = (
    λ c. (elim ((first_or_rest p [] a).0 c.0) [ inl b ↦ b | inr d ↦ absurd (contains_nothing d.0 d.1) ], c.1),
    λ c. ((first_or_rest p [] a).1 (inl c.0), c.1),
  )

  begun : IsCutting (p ∷ []) others [] (p ∷ []) others
  begun =
      let one = one_reduced p short in
      cutting_none (p ∷ []) others one.ascending (spread_from_reduced 129 (p ∷ []) one).apart h.ascending (spread_from_reduced 129 others h).apart

  pub complement_set : (new rest : List (List Bool)) → IsDifferenceStep p [] new others rest → IsComplement 129 p others new
  complement_set new rest k =
      set_alike 129 (λ a. Covers (p ∷ []) a × ¬ (Covers others a)) (λ a. BeginsWith a p × ¬ (Covers others a)) new (λ a la. alike a)
      (cutting_set (p ∷ []) others new rest (cutting_more (p ∷ []) others (one_reduced p short) h p [] [] new others rest begun k))

  pub complement_over : (room : ℕ) → IsOver p [] others room → (s : List (List Bool)) → IsComplement 129 p others s → room < length s
  complement_over room k s d =
      cutting_over (p ∷ []) others (one_reduced p short) h p [] [] others room begun k s
      (set_alike 129 (λ a. BeginsWith a p × ¬ (Covers others a)) (λ a. Covers (p ∷ []) a × ¬ (Covers others a)) s
      (λ a la. ((alike a).1, (alike a).0)) d)

-- a network inside another that doesn't lie in it is longer
pub longer : (p f : List Bool) → BeginsWith f p → ¬ (BeginsWith p f) → length p < length f
longer p f inside outside = elim (cases_lt (length p) (length f)) [
  | inl lt ↦ lt
  | inr le ↦ absurd (outside (subst (BeginsWith p) (sym (same_length f p inside le)) (begins_itself p)))
]

pub cut_fits : (p : List Bool) (old new others rest : List (List Bool)) → IsDifferenceStep p old new others rest → length old ≡ 0
    → (w : ℕ) → AreNetworks w others → length new ≤ w * length others + 1
cut_fits p old new others rest h none w n =
    omega (arith, none, h.fits w n, mul-le (w - length p) (length others) w (length others) (omega arith) (omega arith))
