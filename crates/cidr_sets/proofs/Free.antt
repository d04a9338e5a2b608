-- Free networks: in one network, and in several that ascend.
use Rattle.std.proofs.Common.{◌≡◌, ◌≢◌, ℕ, zero, suc, ◌+◌, ◌-◌, ◌<◌, ◌≤◌, ◌⊎◌, Bool, true, false, List, [], ◌∷◌, ◌++◌, length, get_or, take, drop, map, length-append, refl, sym, ap, ◌∙◌, subst, arith, inl, inr, Option, Some, None}
use Rattle.std.proofs.lemmas.Bool.{cases_lt, cases_eq, false≢true, true≢false}
use Rattle.std.proofs.lemmas.List.{get_or-map, length-map, get_or_default, length-replicate, append_assoc, append-nil, take_at}
use Rattle.std.proofs.lemmas.Map.Keys.{Less-from_sorted}
use Rattle.std.specs.List.{AllWithin, HoldsAt}
use Rattle.std.specs.Option.{MatchOption, option_map}
use Rattle.std.specs.Ordering.{ordering_reverse}
use Rattle.std.specs.declared.cmp.Ordering.TheVariants.{Less, Greater}
use Rattle.cidr.specs.model.Bits.{bit_cmp}
use Rattle.cidr.specs.model.Network.{BeginsWith, zeros}
use Rattle.cidr.specs.laws.BitLaws.{bit_cmp_total}
use Rattle.cidr_table.specs.model.Cover.{Covers}
use Rattle.cidr_table.specs.model.Cover.{IsReduced}
use Rattle.cidr_table.proofs.Beginnings.{bits_same, begins_length, begins_between, not_before}
use Rattle.cidr_table.proofs.Halves.{either_half}
use Rattle.cidr_table.proofs.MapLaws.{contains_first, contains_cases, contains_nothing}
use Rattle.cidr_table.proofs.Order.{halves_less}
use Rattle.cidr_sets.specs.model.Pools.{IsFreeNetwork, IsFirstFree, IsBestFree, IsRoom, TellsSize, HasLessRoom}
use Rattle.cidr_sets.proofs.Addresses.{covers_by, covers_to, map_contains, map_contained}
use Rattle.cidr_sets.proofs.Parts.{later_apart}

-- ---- the lowest network in another
pub lowest_first : (p a : List Bool) (k : ℕ) → BeginsWith a p → length a ≡ length p + k
    → bit_cmp (p ++ zeros k) a ≢ Greater
lowest_first [] [] zero h s g = cc
lowest_first [] (b ∷ a) zero h s g = omega (arith, s)
lowest_first [] [] (suc k) h s g = omega (arith, s)
lowest_first [] (true ∷ a) (suc k) h s g = cc
lowest_first [] (false ∷ a) (suc k) h s g = lowest_first [] a k refl (omega (arith, s)) g
lowest_first (b ∷ p) [] k h s g = omega (arith, s)
lowest_first (true ∷ p) (true ∷ a) k h s g = lowest_first p a k (ap (drop 1) h) (omega (arith, s)) g
lowest_first (false ∷ p) (false ∷ a) k h s g = lowest_first p a k (ap (drop 1) h) (omega (arith, s)) g
lowest_first (true ∷ p) (false ∷ a) k h s g = false≢true (ap (λ t. get_or t 0 true) h)
lowest_first (false ∷ p) (true ∷ a) k h s g = true≢false (ap (λ t. get_or t 0 true) h)

-- a network that becomes the lowest of n bits, once the missing ones are appended
pub record IsBegun (p now : List Bool) (n room : ℕ) : Type 0 where
  pub same : now ++ zeros (n - length now) ≡ p ++ zeros (n - length p)
  pub within : length now ≤ n
  pub left : n ≤ length now + room

pub begun_more : (p now new : List Bool) (n r s : ℕ) → IsBegun p now n r → length now < n → r ≤ s + 1
    → new ≡ now ++ false ∷ [] → IsBegun p new n s
begun_more p now new n r s h short left e =
    let size : length new ≡ length now + 1 = ap length e ∙ length-append now (false ∷ []) in
    let one_less : n - length now ≡ suc (n - length new) = omega (arith, size, short) in
    record {
      same = ap (λ x. x ++ zeros (n - length new)) e ∙ append_assoc now (false ∷ []) (zeros (n - length new))
          ∙ ap (λ k. now ++ zeros k) (sym one_less) ∙ h.same;
      within = omega (arith, size, short);
      left = omega (arith, size, short, left, h.left);
    }

pub begun_whole : (p now : List Bool) (n r : ℕ) → IsBegun p now n r → n ≤ length now → now ≡ p ++ zeros (n - length p)
begun_whole p now n r h long =
    let none : n - length now ≡ 0 = omega (arith, long) in
    sym (append-nil now) ∙ ap (λ k. now ++ zeros k) (sym none) ∙ h.same

-- ---- two networks in order, of which neither holds the other, have bits
both_some : (p q : List Bool) → bit_cmp p q ≡ Less → ¬ (BeginsWith q p) → (0 < length p) × (0 < length q)
both_some [] q less alone = absurd (alone refl)
both_some (a ∷ p) [] less alone = absurd (cc)
both_some (a ∷ p) (b ∷ q) less alone = (omega arith, omega arith)

-- ---- in one network
pub in_one : (q p : List Bool) → Covers (q ∷ []) p → BeginsWith p q
in_one q p c = elim (contains_cases q c.0 [] c.1) [
  | inl e ↦ subst (BeginsWith p) (sym e) c.2
  | inr d ↦ absurd (contains_nothing c.0 d)
]

pub of_one : (q p : List Bool) → BeginsWith p q → Covers (q ∷ []) p
of_one q p b = (q, contains_first q [], b)

module _ (IsNetwork : List Bool → Type 0) (n : ℕ) where
  module _ (q : List Bool) where
    pub too_long : n < length q → (p : List Bool) → ¬ (IsFreeNetwork IsNetwork (q ∷ []) n p)
    too_long short p h = omega (arith, short, h.len, begins_length p q (in_one q p h.inside))

    pub too_deep : (room : ℕ) → IsRoom IsNetwork q room → 0 < length q → length q + room < n
        → (p : List Bool) → ¬ (IsFreeNetwork IsNetwork (q ∷ []) n p)
    too_deep room law some deep p h = omega (arith, deep, h.len, law p h.network some (in_one q p h.inside))

    pub lowest_free : (x : List Bool) → length q ≤ n → x ≡ q ++ zeros (n - length q)
        → IsFirstFree IsNetwork (q ∷ []) n (Some x)
    lowest_free x fits e =
        let size : length x ≡ n = omega (arith, fits, ap length e, length-append q (zeros (n - length q)), length-replicate (n - length q) false) in (
          size,
          of_one q x (ap (take (length q)) e ∙ take_at q (zeros (n - length q)) (length q) refl),
          λ y h. subst (λ z. bit_cmp z y ≢ Greater) (sym e)
              (lowest_first q y (n - length q) (in_one q y h.inside) (omega (arith, fits, h.len))),
        )

  -- ---- in both halves of the network of no bits
  pub in_lower : (x : List Bool) → 0 < n → IsFirstFree IsNetwork ((false ∷ []) ∷ []) n (Some x)
      → IsFirstFree IsNetwork ([] ∷ []) n (Some x)
  in_lower x some h = (
    h.0,
    of_one [] x refl,
    λ y k. elim (either_half y [] refl (omega (arith, some, k.len))) [
      | inl b ↦ h.2 y (record { network = k.network; len = k.len; inside = of_one (false ∷ []) y b })
      | inr b ↦ λ g. (let e = sym (halves_less [] x y (in_one (false ∷ []) x h.1) b) ∙ g in (cc))
    ],
  )

  only_upper : 0 < n → ((p : List Bool) → ¬ (IsFreeNetwork IsNetwork ((false ∷ []) ∷ []) n p)) → (y : List Bool)
      → IsFreeNetwork IsNetwork ([] ∷ []) n y → IsFreeNetwork IsNetwork ((true ∷ []) ∷ []) n y
  only_upper some none y k = elim (either_half y [] refl (omega (arith, some, k.len))) [
    | inl b ↦ absurd (none y (record { network = k.network; len = k.len; inside = of_one (false ∷ []) y b }))
    | inr b ↦ record { network = k.network; len = k.len; inside = of_one (true ∷ []) y b }
  ]

  pub in_upper : 0 < n → ((p : List Bool) → ¬ (IsFreeNetwork IsNetwork ((false ∷ []) ∷ []) n p)) → (r : Option (List Bool))
      → IsFirstFree IsNetwork ((true ∷ []) ∷ []) n r → IsFirstFree IsNetwork ([] ∷ []) n r
  in_upper some none (Some x) h = (h.0, of_one [] x refl, λ y k. h.2 y (only_upper some none y k))
  in_upper some none None h = λ y k. h y (only_upper some none y k)

  -- ---- in several
  -- p is the first in q, and y is in a network that comes later
  pub first_later : (p y q r : List Bool) → BeginsWith p q → BeginsWith y r → bit_cmp q r ≡ Less
      → (BeginsWith y q → bit_cmp p y ≢ Greater) → bit_cmp p y ≢ Greater
  first_later p y q r b c less h g =
      let below : bit_cmp y p ≡ Less = bit_cmp_total.antisymm y p ∙ ap ordering_reverse g in
      let low : bit_cmp y q ≢ Less = λ l. not_before y r c (bit_cmp_total.trans y q r l less) in
      h (begins_between q p y b low (λ e. (let d = sym below ∙ e in (cc)))) g

  module _ {C : Type 0} (f : C → List Bool) (xs : List C) where
    -- nothing is free in the first i
    abbrev pub NoneBefore : ℕ → Type 0
    NoneBefore i = (j : ℕ) (x : C) → j < i → get_or xs j x ≡ x → (p : List Bool) → ¬ (IsFreeNetwork IsNetwork (f x ∷ []) n p)

    pub none_more : (i : ℕ) (x : C) → i < length xs → x ≡ get_or xs i x → NoneBefore i
        → ((p : List Bool) → ¬ (IsFreeNetwork IsNetwork (f x ∷ []) n p)) → NoneBefore (i + 1)
    none_more i x here is before none j y lt e = elim (cases_eq j i) [
      | inl s ↦
          let same : x ≡ y = is ∙ get_or_default xs i x y here ∙ ap (λ k. get_or xs k y) (sym s) ∙ e in
          subst (λ z. (p : List Bool) → ¬ (IsFreeNetwork IsNetwork (f z ∷ []) n p)) same none
      | inr d ↦ before j y (omega (arith, lt)) e
    ]

    pub none_at_all : (i : ℕ) → length xs ≤ i → NoneBefore i → (p : List Bool) → ¬ (IsFreeNetwork IsNetwork (map f xs) n p)
    none_at_all i all none p h =
        let (x, c, b) = covers_by f xs p h.inside in
        none c.0 x (omega (arith, all, c.1)) c.2 p (record { network = h.network; len = h.len; inside = of_one (f x) p b })

    pub first_of_all : (i : ℕ) (x : C) (p : List Bool) → i < length xs → x ≡ get_or xs i x → IsReduced 129 (map f xs)
        → NoneBefore i → IsFirstFree IsNetwork (f x ∷ []) n (Some p) → IsFirstFree IsNetwork (map f xs) n (Some p)
    first_of_all i x p here is h none k =
        let held : BeginsWith p (f x) = in_one (f x) p k.1 in (
          k.0,
          covers_to f xs x p (i, here, sym is) held,
          λ y u.
              let (z, c, b) = covers_by f xs y u.inside in
              let j = c.0 in
              let alone : BeginsWith y (f x) → bit_cmp p y ≢ Greater = λ t. k.2 y (record { network = u.network; len = u.len; inside = of_one (f x) y t }) in
              elim (cases_lt j i) [
                | inl lt ↦ absurd (none j z lt c.2 y (record { network = u.network; len = u.len; inside = of_one (f z) y b }))
                | inr le ↦ elim (cases_eq j i) [
                  | inl s ↦
                      let same : z ≡ x = sym c.2 ∙ get_or_default xs j z x c.1 ∙ ap (λ m. get_or xs m x) s ∙ sym is in
                      alone (subst (λ m. BeginsWith y (f m)) same b)
                  | inr d ↦
                      let at_i : get_or (map f xs) i [] ≡ f x = get_or-map f xs i x [] here ∙ ap f (sym is) in
                      let at_j : get_or (map f xs) j [] ≡ f z = get_or-map f xs j z [] c.1 ∙ ap f c.2 in
                      let less : bit_cmp (get_or (map f xs) i []) (get_or (map f xs) j []) ≡ Less =
                      Less-from_sorted bit_cmp (map f xs) i j [] h.ascending (omega (arith, le)) (omega (arith, c.1, length-map xs f)) in
                      first_later p y (f x) (f z) held b (rw (at_i, at_j) at less) alone
                ]
              ],
        )

    -- nothing is free in a network
    abbrev pub HasNone : C → Type 0
    HasNone x = (p : List Bool) → ¬ (IsFreeNetwork IsNetwork (f x ∷ []) n p)

    none_before : (i : ℕ) → AllWithin HasNone xs 0 i → NoneBefore i
    none_before i none j x less e = subst HasNone e (none j x (omega arith) less)

    pub first_of_each : (r : Option C) → IsReduced 129 (map f xs)
        → MatchOption r (AllWithin HasNone xs 0 (length xs))
        (λ y. (i : ℕ) × (i < length xs) × HoldsAt (λ x. IsFirstFree IsNetwork (f x ∷ []) n (Some (f y))) xs i × AllWithin HasNone xs 0 i)
        → IsFirstFree IsNetwork (map f xs) n (option_map f r)
    first_of_each None reduced none = none_at_all (length xs) (omega arith) (none_before (length xs) none)
    first_of_each (Some y) reduced (i, within, first, none) =
        first_of_all i (get_or xs i y) (f y) within (get_or_default xs i y (get_or xs i y) within) reduced (none_before i none) (first y)

    -- ---- the smallest that has one
    module _ (size : List Bool → ℕ) where
      -- the first is no larger than the second, and before it where they are as large
      abbrev pub IsNoLarger : List Bool → List Bool → Type 0
      IsNoLarger b q = (size b < size q) ⊎ ((size b ≡ size q) × (bit_cmp b q ≢ Greater))

      -- of the first i networks none that has one inside is smaller than this one
      abbrev pub NoneSmaller : ℕ → List Bool → Type 0
      NoneSmaller i b = (j : ℕ) (y : C) → j < i → get_or xs j y ≡ y → (p : List Bool) → IsFreeNetwork IsNetwork (f y ∷ []) n p
          → IsNoLarger b (f y)

      -- the best of the first i, with the first network inside, or none
      abbrev pub IsBestSoFar : ℕ → Option (C × C) → Type 0
      IsBestSoFar i None = NoneBefore i
      IsBestSoFar i (Some best) = ((k : ℕ) × (k < i) × (i ≤ length xs) × (get_or xs k best.0 ≡ best.0))
          × IsFirstFree IsNetwork (f best.0 ∷ []) n (Some (f best.1)) × NoneSmaller i (f best.0)

      module _ (i : ℕ) (x : C) (here : i < length xs) (is : x ≡ get_or xs i x) where
        same_at : (j : ℕ) (y : C) → j ≡ i → get_or xs j y ≡ y → x ≡ y
        same_at j y s e = is ∙ get_or_default xs i x y here ∙ ap (λ k. get_or xs k y) (sym s) ∙ e

        itself : (y : C) → x ≡ y → IsNoLarger (f x) (f y)
        itself y e = inr (ap (λ z. size (f z)) e, λ g. (let d = sym (bits_same (f x)) ∙ ap (λ z. bit_cmp (f x) (f z)) e ∙ g in (cc)))

        -- nothing is free in this one
        pub best_kept : (old : Option (C × C)) → IsBestSoFar i old
            → ((p : List Bool) → ¬ (IsFreeNetwork IsNetwork (f x ∷ []) n p)) → IsBestSoFar (i + 1) old
        best_kept None h none = none_more i x here is h none
        best_kept (Some b) h none = (
          (h.0.0, omega (arith, h.0.1), omega (arith, here), h.0.3),
          h.1,
          λ j y lt e q u. elim (cases_eq j i) [
            | inl s ↦ absurd (subst (λ z. (p : List Bool) → ¬ (IsFreeNetwork IsNetwork (f z ∷ []) n p)) (same_at j y s e) none q u)
            | inr d ↦ h.2 j y (omega (arith, lt)) e q u
          ],
        )

        module _ (room : C → ℕ) (sized : (y z : C) → TellsSize size (f y) (room y) (f z) (room z)) where
          abbrev pub room_of : Option (C × C) → Option ℕ
          room_of best = option_map (λ pair. room pair.0) best

          -- beside one that stands before it
          module _ (r : IsReduced 129 (map f xs)) (b : C) (k : ℕ) (before : k < i) (at : get_or xs k b ≡ b) where
            at_k : get_or (map f xs) k [] ≡ f b
            at_k = get_or-map f xs k b [] (omega (arith, before, here)) ∙ ap f at

            at_i : get_or (map f xs) i [] ≡ f x
            at_i = get_or-map f xs i x [] here ∙ ap f (sym is)

            less : bit_cmp (f b) (f x) ≡ Less
            less = rw (at_k, at_i) at (Less-from_sorted bit_cmp (map f xs) k i [] r.ascending before (omega (arith, here, length-map xs f)))

            some : (0 < length (f b)) × (0 < length (f x))
            some = both_some (f b) (f x) less
                (later_apart (map f xs) r (f b) (f x) (map_contains f xs b (k, omega (arith, before, here), at)) (map_contains f xs x (i, here, sym is)) less)

            smaller_than : room x < room b → size (f x) < size (f b)
            smaller_than h = (sized x b some.1 some.0).0 h

            not_smaller : ¬ (room x < room b) → IsNoLarger (f b) (f x)
            not_smaller large = elim (cases_lt (size (f b)) (size (f x))) [
              | inl lt ↦ inl lt
              | inr le ↦ elim (cases_lt (size (f x)) (size (f b))) [
                | inl gt ↦ absurd (large ((sized x b some.1 some.0).1 gt))
                | inr ge ↦ inr (omega (arith, le, ge), λ g. (let d = sym less ∙ g in (cc)))
              ]
            ]

          pub best_new : (old : Option (C × C)) (p : C) → IsReduced 129 (map f xs) → IsBestSoFar i old
              → HasLessRoom (room_of old) (room x)
              → IsFirstFree IsNetwork (f x ∷ []) n (Some (f p)) → IsBestSoFar (i + 1) (Some (x, p))
          best_new None p r h smaller k = (
            (i, omega arith, omega (arith, here), sym is),
            k,
            λ j y lt e q u. elim (cases_eq j i) [
              | inl s ↦ itself y (same_at j y s e)
              | inr d ↦ absurd (h j y (omega (arith, lt)) e q u)
            ],
          )
          best_new (Some b) p r h smaller k =
              let less_than : size (f x) < size (f b.0) = smaller_than r b.0 h.0.0 h.0.1 h.0.3 smaller in (
                (i, omega arith, omega (arith, here), sym is),
                k,
                λ j y lt e q u. elim (cases_eq j i) [
                  | inl s ↦ itself y (same_at j y s e)
                  | inr d ↦ elim (h.2 j y (omega (arith, lt)) e q u) [
                    | inl less ↦ inl (omega (arith, less, less_than))
                    | inr tie ↦ inl (omega (arith, tie.0, less_than))
                  ]
                ],
              )

          -- this one isn't smaller
          pub best_stays : (old : Option (C × C)) → IsReduced 129 (map f xs) → IsBestSoFar i old
              → ¬ (HasLessRoom (room_of old) (room x)) → IsBestSoFar (i + 1) old
          best_stays None r h large = absurd (large tt)
          best_stays (Some b) r h large = (
            (h.0.0, omega (arith, h.0.1), omega (arith, here), h.0.3),
            h.1,
            λ j y lt e q u. elim (cases_eq j i) [
              | inl s ↦ subst (λ z. IsNoLarger (f b.0) (f z)) (same_at j y s e) (not_smaller r b.0 h.0.0 h.0.1 h.0.3 large)
              | inr d ↦ h.2 j y (omega (arith, lt)) e q u
            ],
          )

      pub best_of_all : (i : ℕ) (b p : C) → length xs ≤ i → IsBestSoFar i (Some (b, p))
          → IsBestFree IsNetwork size (map f xs) n (Some (f p))
      best_of_all i b p all h = (
        f b,
        record {
          here = map_contains f xs b (h.0.0, omega (arith, h.0.1, h.0.2), h.0.3);
          tightest = λ r q c u.
              let (y, d, e) = map_contained f xs r c in
              subst (λ z. IsNoLarger (f b) z) e
              (h.2 d.0 y (omega (arith, all, d.1)) d.2 q (subst (λ z. IsFreeNetwork IsNetwork (z ∷ []) n q) (sym e) u));
        },
        h.1,
      )
