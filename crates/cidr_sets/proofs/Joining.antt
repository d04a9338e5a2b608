-- The longest ranges of networks that ascend.
use Rattle.std.proofs.Common.{◌≡◌, ◌≢◌, ◌↔◌, ◌⊎◌, ℕ, zero, suc, ◌+◌, ◌≤◌, Bool, true, false, not, ◌&&◌, List, [], ◌∷◌, ◌++◌, length, take, map, replicate, length-append, refl, sym, ap, subst, arith, inl, inr, Option, Some, None}
use Rattle.std.proofs.lemmas.Bool.{false≢true, true≢false}
use Rattle.std.proofs.lemmas.List.{length-replicate}
use Rattle.std.proofs.lemmas.Map.Keys.{Less-from_sorted}
use Rattle.std.proofs.lemmas.Option.{get_or_from_slice_get, none-some, same_Some, slice_get_within}
use Rattle.std.specs.Iterator.{MakesProgress, item_count}
use Rattle.std.specs.List.{Contains, slice_get}
use Rattle.std.specs.Prelude.{IfNone, MatchOption, OnErr, Result, Ok, Err}
use Rattle.std.specs.declared.cmp.Ordering.{Ordering}
use Rattle.std.specs.declared.cmp.Ordering.TheVariants.{Less, Equal, Greater}
use Rattle.cidr.specs.model.Bits.{bit_cmp}
use Rattle.cidr.specs.model.Network.{BeginsWith}
use Rattle.cidr_table.specs.model.Cover.{Covers, IsReduced}
use Rattle.cidr_table.proofs.MapLaws.{contains_cases, contains_first, contains_later, contains_nothing}
use Rattle.cidr_table.proofs.Order.{less_not_itself}
use Rattle.cidr_table.proofs.Stacks.{spread_from_reduced}
use Rattle.cidr_sets.specs.model.Ranges.{AreRanges, IsBetween, IsGap, IsPadded, Reaches, all_bits, join, joined_ranges, touches}
use Rattle.cidr_sets.proofs.Algebra.{some_address}
use Rattle.cidr_sets.proofs.Runs.{join_apart, join_touching, joined_more, true_or}
use Rattle.cidr_sets.proofs.Sides.{between_reaches, both_sides, edge_reaches, filled_reaches, reaches_down, reaches_up}

-- ---- two networks, of which the first comes before the other
order_down : (p q a : List Bool) → length q ≤ length a → bit_cmp p q ≡ Less → ¬ (BeginsWith q p) → Reaches false p a → Reaches false q a
unfolding Reaches
order_down [] q a l less free h = absurd (free refl)
order_down (x ∷ p) [] a l less free h = tt
order_down (x ∷ p) (y ∷ q) [] l less free h = absurd (omega (arith, l))
order_down (true ∷ p) (true ∷ q) (true ∷ a) l less free h = order_down p q a (omega (arith, l)) less (λ b. free (ap (λ t. true ∷ t) b)) h
order_down (false ∷ p) (false ∷ q) (false ∷ a) l less free h = order_down p q a (omega (arith, l)) less (λ b. free (ap (λ t. false ∷ t) b)) h
order_down (true ∷ p) (true ∷ q) (false ∷ a) l less free h = refl
order_down (false ∷ p) (false ∷ q) (true ∷ a) l less free h = h
order_down (false ∷ p) (true ∷ q) (true ∷ a) l less free h = absurd (false≢true h)
order_down (false ∷ p) (true ∷ q) (false ∷ a) l less free h = refl
order_down (true ∷ p) (false ∷ q) (z ∷ a) l less free h = cc

order_up : (p q a : List Bool) → bit_cmp p q ≡ Less → Reaches true q a → Reaches true p a
unfolding Reaches
order_up [] q a less h = tt
order_up (x ∷ p) [] a less h = cc
order_up (x ∷ p) (y ∷ q) [] less h = absurd h
order_up (true ∷ p) (true ∷ q) (true ∷ a) less h = order_up p q a less h
order_up (false ∷ p) (false ∷ q) (false ∷ a) less h = order_up p q a less h
order_up (true ∷ p) (true ∷ q) (false ∷ a) less h = h
order_up (false ∷ p) (false ∷ q) (true ∷ a) less h = refl
order_up (false ∷ p) (true ∷ q) (true ∷ a) less h = refl
order_up (false ∷ p) (true ∷ q) (false ∷ a) less h = absurd (true≢false h)
order_up (true ∷ p) (false ∷ q) (z ∷ a) less h = cc

-- ---- networks that touch
unset_reaches : (q a : List Bool) → all_bits false q ≡ true → length q ≤ length a → Reaches true q a
unfolding Reaches all_bits
unset_reaches [] a h l = tt
unset_reaches (x ∷ q) [] h l = absurd (omega (arith, l))
unset_reaches (false ∷ q) (false ∷ a) h l = unset_reaches q a h (omega (arith, l))
unset_reaches (false ∷ q) (true ∷ a) h l = refl
unset_reaches (true ∷ q) (y ∷ a) h l = absurd (false≢true h)

set_begins : (p a : List Bool) → all_bits true p ≡ true → Reaches true p a → BeginsWith a p
unfolding Reaches all_bits
set_begins [] a h r = refl
set_begins (x ∷ p) [] h r = absurd r
set_begins (true ∷ p) (true ∷ a) h r = ap (λ t. true ∷ t) (set_begins p a h r)
set_begins (true ∷ p) (false ∷ a) h r = absurd (true≢false r)
set_begins (false ∷ p) (y ∷ a) h r = absurd (false≢true h)

both_true : (x y : Bool) → (x && y) ≡ true → (x ≡ true) × (y ≡ true)
both_true true y h = (refl, h)
both_true false y h = absurd (false≢true h)

touching : (p q a : List Bool) → touches p q ≡ true → length q ≤ length a → Reaches true p a → BeginsWith a p ⊎ Reaches true q a
unfolding Reaches touches
touching [] q a h l r = inl refl
touching (x ∷ p) [] a h l r = absurd (false≢true h)
touching (x ∷ p) (y ∷ q) [] h l r = absurd r
touching (true ∷ p) (true ∷ q) (true ∷ a) h l r = elim (touching p q a h (omega (arith, l)) r) [
  | inl b ↦ inl (ap (λ t. true ∷ t) b)
  | inr k ↦ inr k
]
touching (false ∷ p) (false ∷ q) (false ∷ a) h l r = elim (touching p q a h (omega (arith, l)) r) [
  | inl b ↦ inl (ap (λ t. false ∷ t) b)
  | inr k ↦ inr k
]
touching (true ∷ p) (true ∷ q) (false ∷ a) h l r = absurd (true≢false r)
touching (false ∷ p) (false ∷ q) (true ∷ a) h l r = inr refl
touching (false ∷ p) (true ∷ q) (true ∷ a) h l r = inr (unset_reaches q a (both_true (all_bits true p) (all_bits false q) h).1 (omega (arith, l)))
touching (false ∷ p) (true ∷ q) (false ∷ a) h l r =
    inl (ap (λ t. false ∷ t) (set_begins p a (both_true (all_bits true p) (all_bits false q) h).0 r))
touching (true ∷ p) (false ∷ q) (z ∷ a) h l r = absurd (false≢true h)

-- ---- networks that don't touch
pub unfilled : (up : Bool) (p : List Bool) (n : ℕ) → all_bits up p ≡ false → length p ≤ n → ¬ (Reaches (not up) p (replicate n up))
unfolding Reaches all_bits
unfilled up [] n h l r = true≢false h
unfilled up (x ∷ p) zero h l r = omega (arith, l)
unfilled true (true ∷ p) (suc n) h l r = unfilled true p n h (omega (arith, l)) r
unfilled true (false ∷ p) (suc n) h l r = false≢true r
unfilled false (false ∷ p) (suc n) h l r = unfilled false p n h (omega (arith, l)) r
unfilled false (true ∷ p) (suc n) h l r = true≢false r

one_false : (x y : Bool) → (x && y) ≡ false → (x ≡ false) ⊎ (y ≡ false)
one_false true y h = inr h
one_false false y h = inl refl

-- an address after p and before q
abbrev pub IsApart : ℕ → List Bool → List Bool → Type 0
IsApart n p q = (a : List Bool) × (length a ≡ n) × (¬ (Reaches false p a)) × (¬ (Reaches true q a))

gap : (n : ℕ) (p q : List Bool) → length p ≤ n → length q ≤ n → bit_cmp p q ≡ Less → ¬ (BeginsWith q p) → touches p q ≡ false → IsApart n p q
unfolding Reaches touches
gap n [] q lp lq less free apart = absurd (free refl)
gap n (x ∷ p) [] lp lq less free apart = cc
gap zero (x ∷ p) (y ∷ q) lp lq less free apart = absurd (omega (arith, lp))
gap (suc n) (true ∷ p) (true ∷ q) lp lq less free apart =
    let (a, la, u, v) = gap n p q (omega (arith, lp)) (omega (arith, lq)) less (λ b. free (ap (λ t. true ∷ t) b)) apart in
    (true ∷ a, omega (arith, la), u, v)
gap (suc n) (false ∷ p) (false ∷ q) lp lq less free apart =
    let (a, la, u, v) = gap n p q (omega (arith, lp)) (omega (arith, lq)) less (λ b. free (ap (λ t. false ∷ t) b)) apart in
    (false ∷ a, omega (arith, la), u, v)
gap (suc n) (false ∷ p) (true ∷ q) lp lq less free apart = elim (one_false (all_bits true p) (all_bits false q) apart) [
  | inl e ↦ (false ∷ replicate n true, omega (arith, length-replicate n true), unfilled true p n e (omega (arith, lp)), λ r. true≢false r)
  | inr e ↦ (true ∷ replicate n false, omega (arith, length-replicate n false), λ r. false≢true r, unfilled false q n e (omega (arith, lq)))
]
gap (suc n) (true ∷ p) (false ∷ q) lp lq less free apart = cc

-- ---- ranges from a first to a last network
any_cons : {X : Type 0} (P : X → Type 0) (x : X) (xs : List X) → ((y : X) × Contains (x ∷ xs) y × P y) ↔ (P x ⊎ ((y : X) × Contains xs y × P y))
any_cons P x xs = (
  λ c. elim (contains_cases x c.0 xs c.1) [ inl e ↦ inl (subst P (sym e) c.2) | inr d ↦ inr (c.0, d, c.2) ],
  λ c. elim c [ inl h ↦ (x, contains_first x xs, h) | inr h ↦ (h.0, contains_later x h.0 xs h.1, h.2) ],
)

abbrev InRange : List Bool → List Bool × List Bool → Type 0
InRange a r = Reaches true r.0 a × Reaches false r.1 a

abbrev IsShort : List Bool × List Bool → Type 0
IsShort r = (length r.0 ≤ 129) × (length r.1 ≤ 129)

-- the last network isn't before the first
abbrev IsOnward : List Bool × List Bool → Type 0
IsOnward r = (a : List Bool) → length a ≡ 129 → Reaches false r.0 a → Reaches false r.1 a

abbrev IsNext : List Bool → List Bool → Type 0
IsNext p q = (bit_cmp p q ≡ Less) × (¬ (BeginsWith q p))

record AreJoined (ps : List (List Bool)) (rs : List (List Bool × List Bool)) : Type 0 where
  exact : (a : List Bool) → length a ≡ 129 → Covers ps a ↔ ((r : List Bool × List Bool) × Contains rs r × InRange a r)
  short : (r : List Bool × List Bool) → Contains rs r → IsShort r
  onward : (r : List Bool × List Bool) → Contains rs r → IsOnward r
  apart : (i : ℕ) (r s : List Bool × List Bool) → slice_get rs i ≡ Some r → slice_get rs (suc i) ≡ Some s → IsApart 129 r.1 s.0
  next : (r : List Bool × List Bool) → slice_get rs 0 ≡ Some r → slice_get ps 0 ≡ Some r.0

module _ (p : List Bool) (small : length p ≤ 129) (ps : List (List Bool)) where
  each_new : (P : List Bool × List Bool → Type 0) (x : List Bool × List Bool) (rs : List (List Bool × List Bool)) → P x
      → ((r : List Bool × List Bool) → Contains rs r → P r) → (r : List Bool × List Bool) → Contains (x ∷ rs) r → P r
  each_new P x rs h k r c = elim (contains_cases x r rs c) [ inl e ↦ subst P e h | inr d ↦ k r d ]

  begins_in : (a : List Bool) → BeginsWith a p → InRange a (p, p)
  begins_in a b = edge_reaches p a b

  -- a range of its own
  module _ (rs : List (List Bool × List Bool)) (h : AreJoined ps rs)
      (free : (s : List Bool × List Bool) → slice_get rs 0 ≡ Some s → IsApart 129 p s.0) where
    own_apart : (i : ℕ) (r s : List Bool × List Bool) → slice_get ((p, p) ∷ rs) i ≡ Some r → slice_get ((p, p) ∷ rs) (suc i) ≡ Some s
        → IsApart 129 r.1 s.0
    own_apart zero r s e k = subst (λ z. IsApart 129 z.1 s.0) (same_Some (p, p) r e) (free s k)
    own_apart (suc i) r s e k = h.apart i r s e k

    own : AreJoined (p ∷ ps) ((p, p) ∷ rs)
    own = record {
      exact = λ a la. (
        λ c. elim ((any_cons (BeginsWith a) p ps).0 c) [
          | inl b ↦ (any_cons (InRange a) (p, p) rs).1 (inl (begins_in a b))
          | inr d ↦ (any_cons (InRange a) (p, p) rs).1 (inr ((h.exact a la).0 d))
        ],
        λ c. elim ((any_cons (InRange a) (p, p) rs).0 c) [
          | inl u ↦ (any_cons (BeginsWith a) p ps).1 (inl (both_sides p a u.0 u.1))
          | inr d ↦ (any_cons (BeginsWith a) p ps).1 (inr ((h.exact a la).1 d))
        ],
      );
      short = each_new IsShort (p, p) rs (small, small) h.short;
      onward = each_new IsOnward (p, p) rs (λ a la u. u) h.onward;
      apart = own_apart;
      next = λ r e. ap (λ z. Some z.0) (same_Some (p, p) r e);
    }

  -- the first range from this network on
  module _ (x : List Bool × List Bool) (rs : List (List Bool × List Bool)) (h : AreJoined ps (x ∷ rs)) (near : IsNext p x.0)
      (touch : touches p x.0 ≡ true) where
    here : Contains (x ∷ rs) x
    here = contains_first x rs

    longer_onward : IsOnward (p, x.1)
    longer_onward a la u = h.onward x here a la (order_down p x.0 a (omega (arith, la, (h.short x here).0)) near.0 near.1 u)

    longer_apart : (i : ℕ) (r s : List Bool × List Bool) → slice_get ((p, x.1) ∷ rs) i ≡ Some r → slice_get ((p, x.1) ∷ rs) (suc i) ≡ Some s
        → IsApart 129 r.1 s.0
    longer_apart zero r s e k = subst (λ z. IsApart 129 z.1 s.0) (same_Some (p, x.1) r e) (h.apart zero x s refl k)
    longer_apart (suc i) r s e k = h.apart (suc i) r s e k

    longer : AreJoined (p ∷ ps) ((p, x.1) ∷ rs)
    longer = record {
      exact = λ a la. (
        λ c. elim ((any_cons (BeginsWith a) p ps).0 c) [
          | inl b ↦ let k = begins_in a b in (any_cons (InRange a) (p, x.1) rs).1 (inl (k.0, longer_onward a la k.1))
          | inr d ↦ elim ((any_cons (InRange a) x rs).0 ((h.exact a la).0 d)) [
            | inl u ↦ (any_cons (InRange a) (p, x.1) rs).1 (inl (order_up p x.0 a near.0 u.0, u.1))
            | inr k ↦ (any_cons (InRange a) (p, x.1) rs).1 (inr k)
          ]
        ],
        λ c. elim ((any_cons (InRange a) (p, x.1) rs).0 c) [
          | inl u ↦ elim (touching p x.0 a touch (omega (arith, la, (h.short x here).0)) u.0) [
            | inl b ↦ (any_cons (BeginsWith a) p ps).1 (inl b)
            | inr v ↦ (any_cons (BeginsWith a) p ps).1 (inr ((h.exact a la).1 ((any_cons (InRange a) x rs).1 (inl (v, u.1)))))
          ]
          | inr k ↦ (any_cons (BeginsWith a) p ps).1 (inr ((h.exact a la).1 ((any_cons (InRange a) x rs).1 (inr k))))
        ],
      );
      short = each_new IsShort (p, x.1) rs (small, (h.short x here).1) (λ r c. h.short r (contains_later x r rs c));
      onward = each_new IsOnward (p, x.1) rs longer_onward (λ r c. h.onward r (contains_later x r rs c));
      apart = longer_apart;
      next = λ r e. ap (λ z. Some z.0) (same_Some (p, x.1) r e);
    }

  step : (rs : List (List Bool × List Bool)) → ((q : List Bool) → slice_get ps 0 ≡ Some q → IsNext p q) → AreJoined ps rs
      → AreJoined (p ∷ ps) (join p rs)
  step [] near h =
      let e : join p [] ≡ (p, p) ∷ [] = unfold join in refl in
      subst (AreJoined (p ∷ ps)) (sym e) (own [] h (λ s k. absurd (none-some s k)))
  step (x ∷ rs) near h =
      let close = near x.0 (h.next x refl) in
      elim (true_or (touches p x.0)) [
        | inl touch ↦ subst (AreJoined (p ∷ ps)) (sym (join_touching p x rs touch)) (longer x rs h close touch)
        | inr apart ↦ subst (AreJoined (p ∷ ps)) (sym (join_apart p x rs apart)) (own (x ∷ rs) h
            (λ s k. subst (λ z. IsApart 129 p z.0) (same_Some x s k)
            (gap 129 p x.0 small (h.short x (contains_first x rs)).0 close.0 close.1 apart)))
      ]

are_joined : (ps : List (List Bool))
    → ((i : ℕ) (p q : List Bool) → slice_get ps i ≡ Some p → slice_get ps (suc i) ≡ Some q → IsNext p q)
    → ((p : List Bool) → Contains ps p → length p ≤ 129) → AreJoined ps (joined_ranges ps)
are_joined [] spread short =
    let e : joined_ranges [] ≡ [] = unfold joined_ranges in refl in
    subst (AreJoined []) (sym e) (record {
      exact = λ a la. (λ c. absurd (contains_nothing c.0 c.1), λ c. absurd (contains_nothing c.0 c.1));
      short = λ r c. absurd (contains_nothing r c);
      onward = λ r c. absurd (contains_nothing r c);
      apart = λ i r s e. absurd (none-some r e);
      next = λ r e. absurd (none-some r e);
    })
are_joined (p ∷ ps) spread short =
    subst (AreJoined (p ∷ ps)) (sym (joined_more p ps))
    (step p (short p (contains_first p ps)) ps (joined_ranges ps) (λ q e. spread zero p q refl e)
    (are_joined ps (λ i. spread (suc i)) (λ q c. short q (contains_later p q ps c))))

-- ---- as addresses
pub pad : (up : Bool) (p a : List Bool) (k : ℕ) → length p + k ≤ length a → Reaches up (p ++ replicate k (not up)) a ↔ Reaches up p a
unfolding Reaches
pad up [] a k l = (λ r. tt, λ r. filled_reaches up [] a k refl (omega (arith, l)))
pad up (x ∷ p) [] k l = absurd (omega (arith, l))
pad up (true ∷ p) (true ∷ a) k l = pad up p a k (omega (arith, l))
pad up (false ∷ p) (false ∷ a) k l = pad up p a k (omega (arith, l))
pad up (true ∷ p) (false ∷ a) k l = (λ r. r, λ r. r)
pad up (false ∷ p) (true ∷ a) k l = (λ r. r, λ r. r)

padded : (up : Bool) (p e a : List Bool) → length a ≡ 129 → IsPadded (not up) p e → (length e ≤ 129) × (Reaches up e a ↔ Reaches up p a)
padded up p e a la (k, is, fits) = (
  omega (arith, ap length is, length-append p (replicate k (not up)), length-replicate k (not up), fits),
  subst (λ z. Reaches up z a ↔ Reaches up p a) (sym is) (pad up p a k (omega (arith, la, fits))),
)

greater_or : (o : Ordering) → ¬ (o ≢ Greater) → o ≡ Greater
greater_or Less h = absurd (h (λ e. cc))
greater_or Equal h = absurd (h (λ e. cc))
greater_or Greater h = refl

pub contained_map : {X Y : Type 0} (f : X → Y) (xs : List X) (y : Y) → Contains (map f xs) y → (x : X) × Contains xs x × (f x ≡ y)
contained_map f [] y c = absurd (contains_nothing y c)
contained_map f (x ∷ xs) y c = elim (contains_cases (f x) y (map f xs) c) [
  | inl e ↦ (x, contains_first x xs, e)
  | inr d ↦ let r = contained_map f xs y d in (r.0, contains_later x r.0 xs r.1, r.2)
]

pub contains_map : {X Y : Type 0} (f : X → Y) (xs : List X) (x : X) → Contains xs x → Contains (map f xs) (f x)
contains_map f [] x c = absurd (contains_nothing x c)
contains_map f (y ∷ xs) x c = elim (contains_cases y x xs c) [
  | inl e ↦ subst (λ z. Contains (map f (y ∷ xs)) (f z)) e (contains_first (f y) (map f xs))
  | inr d ↦ contains_later (f y) (f x) (map f xs) (contains_map f xs x d)
]

got_map : {X Y : Type 0} (f : X → Y) (xs : List X) (i : ℕ) (y : Y) → slice_get (map f xs) i ≡ Some y
    → (x : X) × (slice_get xs i ≡ Some x) × (f x ≡ y)
got_map f [] i y e = absurd (none-some y e)
got_map f (x ∷ xs) zero y e = (x, refl, same_Some (f x) y e)
got_map f (x ∷ xs) (suc i) y e = got_map f xs i y e

module _ (F L : List Bool → List Bool) (law : (p : List Bool) → length p ≤ 129 → IsPadded false p (F p) × IsPadded true p (L p)) where
  abbrev ends : List Bool × List Bool → List Bool × List Bool
  ends r = (F r.0, L r.1)

  in_ends : (r : List Bool × List Bool) (a : List Bool) → IsShort r → length a ≡ 129 → IsBetween (F r.0) (L r.1) a ↔ InRange a r
  in_ends r a short la =
      let low = padded true r.0 (F r.0) a la (law r.0 short.0).0 in
      let high = padded false r.1 (L r.1) a la (law r.1 short.1).1 in
      let told = between_reaches (F r.0) (L r.1) a (omega (arith, la, low.0)) (omega (arith, la, high.0)) in (
        λ b. let u = told.0 b in (low.1.0 u.0, high.1.0 u.1),
        λ u. told.1 (low.1.1 u.0, high.1.1 u.1),
      )

  ranges_from : (ps : List (List Bool)) (rs : List (List Bool × List Bool)) → AreJoined ps rs → AreRanges 129 (Covers ps) (map ends rs)
  ranges_from ps rs h = record {
    some = λ r c.
        let (x, d, e) = contained_map ends rs r c in
        let (a, la, b) = some_address x.0 (h.short x d).0 in
        let k = edge_reaches x.0 a b in
        (a, la, subst (λ z. IsBetween z.0 z.1 a) e ((in_ends x a (h.short x d) la).1 (k.0, h.onward x d a la k.1)));
    exact = λ a la. (
      λ c.
          let (x, d, u) = (h.exact a la).0 c in
          (ends x, contains_map ends rs x d, (in_ends x a (h.short x d) la).1 u),
      λ c.
          let (r, d, u) = c in
          let (x, k, e) = contained_map ends rs r d in
          (h.exact a la).1 (x, k, (in_ends x a (h.short x k) la).0 (subst (λ z. IsBetween z.0 z.1 a) (sym e) u)),
    );
    apart = λ i r s e k.
        let (x, d, u) = got_map ends rs i r e in
        let (y, f, v) = got_map ends rs (suc i) s k in
        let (a, la, after, before) = h.apart i x y d f in
        let cx : Contains rs x = (i, slice_get_within rs i x d, get_or_from_slice_get rs i x x d) in
        let cy : Contains rs y = (suc i, slice_get_within rs (suc i) y f, get_or_from_slice_get rs (suc i) y y f) in
        let high = padded false x.1 (L x.1) a la (law x.1 (h.short x cx).1).1 in
        let low = padded true y.0 (F y.0) a la (law y.0 (h.short y cy).0).0 in
        let told = beyond (F y.0) (L x.1) a la low.0 high.0 (λ z. before (low.1.0 z)) (λ z. after (high.1.0 z)) in
        subst (λ z. IsGap 129 z.1 s.0) u (subst (λ z. IsGap 129 (L x.1) z.0) v told);
  }
    where
      beyond : (f l a : List Bool) → length a ≡ 129 → length f ≤ 129 → length l ≤ 129 → ¬ (Reaches true f a) → ¬ (Reaches false l a)
          → IsGap 129 l f
      beyond f l a la sf sl before after = (
        a,
        la,
        greater_or (bit_cmp (take (length l) a) l) (λ n. after ((reaches_down l a (omega (arith, la, sl))).1 n)),
        greater_or (bit_cmp f a) (λ n. before ((reaches_up f a (omega (arith, la, sf))).1 n)),
      )

  pub ranges_of_reduced : (ps : List (List Bool)) → IsReduced 129 ps
      → AreRanges 129 (Covers ps) (map (λ (r : List Bool × List Bool). (F r.0, L r.1)) (joined_ranges ps))
  ranges_of_reduced ps h = ranges_from ps (joined_ranges ps) (are_joined ps
      (λ i p q e k.
      let within = slice_get_within ps (suc i) q k in
      let at_p = get_or_from_slice_get ps i p [] e in
      let at_q = get_or_from_slice_get ps (suc i) q [] k in
      let less : bit_cmp p q ≡ Less = rw (at_p, at_q) at (Less-from_sorted bit_cmp ps i (suc i) [] h.ascending (omega arith) within) in (
        less,
        λ b. less_not_itself p (subst (λ z. bit_cmp p z ≡ Less) (sym ((spread_from_reduced 129 ps h).apart p q
            (i, slice_get_within ps i p e, get_or_from_slice_get ps i p p e) (suc i, within, get_or_from_slice_get ps (suc i) q q k) b)) less),
      ))
      (λ p c. ((h.members p).0 c).within))

-- ---- the ranges that are left
module _ {C : Type 0} (F L : List Bool → List Bool) (g : C → List Bool) where
  pub no_ranges : (xs : List C) → length xs ≡ 0
      → map {B = List Bool × List Bool} (λ (r : List Bool × List Bool). (F r.0, L r.1)) (joined_ranges (map g xs)) ≡ []
  no_ranges [] e = unfold joined_ranges in refl
  no_ranges (x ∷ xs) e = absurd (omega (arith, e))

pub nothing : {X : Type 0} (xs : List X) → length xs ≡ 0 → xs ≡ []
nothing [] e = refl
nothing (x ∷ xs) e = absurd (omega (arith, e))

pub by_none : {X : Type 0} (o : Option X) (N : Type 0) (P : X → Type 0) → ((x : X) → o ≡ Some x → ⊥) → MatchOption o N P → N
by_none None N P never h = h
by_none (Some x) N P never h = absurd (never x refl)

pub on_err : {X E P : Type 0} (r : Result X E) → P → OnErr r P
on_err (Ok x) p = tt
on_err (Err e) p = p

pub if_none_then : {X P Q : Type 0} (o : Option X) → IfNone o P → (P → Q) → IfNone o Q
if_none_then None h f = f h
if_none_then (Some x) h f = tt

pub progress_front : {X A : Type 0} (view : A → X) {can : List X → Type 0} → ((s : List X) → can s) → (s t : List X) (x : A)
    → s ≡ view x ∷ t → MakesProgress can (item_count (λ (s : List X). s)) s (Some x) t
progress_front view can s t x h = record { on = λ _. (can t, tt, omega (arith, ap length h)); keeps = can t; rests = λ _. tt }
