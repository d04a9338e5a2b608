-- Boxes that are together one box.
use Rattle.std.proofs.Common.{◌≡◌, ℕ, zero, suc, ◌+◌, ◌<◌, ◌≤◌, ◌⊎◌, Bool, true, false, ◌&&◌, ◌||◌, cond, nat_le, min, max, if◌then◌else◌, Option, Some, None, position, List, [], ◌∷◌, ◌++◌, get_or, take, drop, length, map, refl, sym, ◌∙◌, ap, subst, inl, inr, arith}
use Rattle.std.specs.List.{remove}
use Rattle.std.proofs.lemmas.Bool.{true≢false, false≢true, leb-true, le-leb, lt-leb, eqb-true, eq-eqb, cases_Bool, cases_lt, and_parts, and_from, and_left, and_right, or_cases, or_left, or_right}
use Rattle.std.proofs.lemmas.List.{length-map, map-append}
use Rattle.std.proofs.lemmas.List.Elements.{All-append, All-drop, All-push, All-take}
use Rattle.std.proofs.lemmas.List.Quantifiers.{all_pairs_push, all_pairs_remove, position-Some}
use Rattle.std.proofs.lemmas.List.Sums.{sum_by-remove, sum_by_push}
use Rattle.cidr_rules.specs.declared.fields.Range.{Range}
use Rattle.cidr_rules.specs.declared.regions.Region.{Region}
use Rattle.cidr_rules.specs.Packets.{is_between, is_in, ranges_of}
use Rattle.cidr_rules.specs.Regions.{are_close, are_full, differing, follows, hull_of, hulls_of, is_close, is_same, join}
use Rattle.cidr_rules.specs.Parts.{AreSeparate, boxes_of, held}
use Rattle.cidr_rules.proofs.Boxes.{full_corner}
use Rattle.cidr_rules.proofs.Cuts.{and_no, and_yes}
use Rattle.cidr_rules.proofs.Deciding.{or_no}
use Rattle.cidr_rules.proofs.Steps.{get_map, none_passes}

-- ---- one range
between : (r : Range ℕ) (n : ℕ) → r.first ≤ n → n ≤ r.last → is_between r n ≡ true
between r n lo hi = and_from _ _ (le-leb r.first n lo) (le-leb n r.last hi)

outside : (r : Range ℕ) (n : ℕ) → (n < r.first) ⊎ (r.last < n) → is_between r n ≡ false
outside r n (inl lo) = and_left _ _ (lt-leb r.first n lo)
outside r n (inr hi) = and_right _ _ (lt-leb n r.last hi)

ends : (r : Range ℕ) (n : ℕ) → is_between r n ≡ true → (r.first ≤ n) × (n ≤ r.last)
ends r n e = (leb-true _ _ (and_parts _ _ e).0, leb-true _ _ (and_parts _ _ e).1)

same_ends : (r s : Range ℕ) → is_same r s ≡ true → (r.first ≡ s.first) × (r.last ≡ s.last)
same_ends r s e = (eqb-true _ _ (and_parts _ _ e).0, eqb-true _ _ (and_parts _ _ e).1)

same_from_ends : (r s : Range ℕ) → r.first ≡ s.first → r.last ≡ s.last → is_same r s ≡ true
same_from_ends r s a b = and_from _ _ (eq-eqb _ _ a) (eq-eqb _ _ b)

-- numbers of a range that is the same
same_between : (r s : Range ℕ) (n : ℕ) → is_same r s ≡ true → is_between s n ≡ is_between r n
same_between r s n e =
    let k = same_ends r s e in
    ap (λ a. nat_le a n && nat_le n s.last) (sym k.0) ∙ ap (λ b. nat_le r.first n && nat_le n b) (sym k.1)

same_hull : (r s : Range ℕ) (n : ℕ) → is_same r s ≡ true → is_between (hull_of r s) n ≡ is_between r n
same_hull r s n e =
    let k = same_ends r s e in
    let a : min r.first s.first ≡ r.first = omega (arith, k.0) in
    let b : max r.last s.last ≡ r.last = omega (arith, k.1) in
    ap (λ t. nat_le t n && nat_le n (max r.last s.last)) a ∙ ap (λ t. nat_le r.first n && nat_le n t) b

sums : (H R S h r s : Bool) → H ≡ h → R ≡ r → S ≡ s → cond {A = ℕ} h 1 0 ≡ cond r 1 0 + cond s 1 0 → cond {A = ℕ} H 1 0 ≡ cond R 1 0 + cond S 1 0
sums H R S h r s eh er es e = rw (eh, er, es) e

-- the one range ends before the other, which begins right behind it
next_hull : (r s : Range ℕ) (n : ℕ) → r.first ≤ r.last → s.first ≤ s.last → s.first ≡ r.last + 1
    → cond {A = ℕ} (is_between (hull_of r s) n) 1 0 ≡ cond (is_between r n) 1 0 + cond (is_between s n) 1 0
next_hull r s n fr fs e = elim (cases_lt n r.first) [
  | inl a ↦ sums _ _ _ false false false
      (outside (hull_of r s) n (inl (omega (arith, a, e, fr)))) (outside r n (inl a)) (outside s n (inl (omega (arith, a, e, fr)))) refl
  | inr a ↦ elim (cases_lt r.last n) [
    | inr b ↦ sums _ _ _ true true false
        (between (hull_of r s) n (omega (arith, a, b, e, fr)) (omega (arith, b, e, fs))) (between r n a b) (outside s n (inl (omega (arith, b, e)))) refl
    | inl b ↦ elim (cases_lt s.last n) [
      | inl d ↦ sums _ _ _ false false false
          (outside (hull_of r s) n (inr (omega (arith, b, d, e)))) (outside r n (inr b)) (outside s n (inr d)) refl
      | inr d ↦ sums _ _ _ true false true
          (between (hull_of r s) n (omega (arith, a, b, e, fr)) (omega (arith, d))) (outside r n (inr b)) (between s n (omega (arith, b, e)) d) refl
    ]
  ]
]

close_hull : (r s : Range ℕ) (n : ℕ) → r.first ≤ r.last → s.first ≤ s.last → is_close r s ≡ true → is_same r s ≡ false
    → cond {A = ℕ} (is_between (hull_of r s) n) 1 0 ≡ cond (is_between r n) 1 0 + cond (is_between s n) 1 0
close_hull r s n fr fs close apart = elim (or_cases _ _ close) [
  | inl same ↦ absurd (true≢false (sym same ∙ apart))
  | inr next ↦ elim (or_cases _ _ next) [
    | inr e ↦ next_hull r s n fr fs (eqb-true _ _ e)
    | inl e ↦
        let k = next_hull s r n fs fr (eqb-true _ _ e) in
        let a : min r.first s.first ≡ min s.first r.first = omega arith in
        let b : max r.last s.last ≡ max s.last r.last = omega arith in
        let h : is_between (hull_of r s) n ≡ is_between (hull_of s r) n
        = ap (λ t. nat_le t n && nat_le n (max r.last s.last)) a ∙ ap (λ t. nat_le (min s.first r.first) n && nat_le n t) b in
        let i : cond {A = ℕ} (is_between (hull_of r s) n) 1 0 ≡ cond {A = ℕ} (is_between (hull_of s r) n) 1 0 = ap (λ t. cond {A = ℕ} t 1 0) h in
        omega (arith, i, k)
  ]
]

-- ---- boxes that are joined
alike : (rs ss : List (Range ℕ)) (x : List ℕ) → length rs ≡ length ss → differing rs ss ≡ 0
    → (is_in (hulls_of rs ss) x ≡ is_in rs x) × (is_in ss x ≡ is_in rs x)
unfolding is_in differing hulls_of
alike [] [] x e d = (refl, refl)
alike [] (s ∷ ss) x e d = absurd (omega (arith, e))
alike (r ∷ rs) [] x e d = absurd (omega (arith, e))
alike (r ∷ rs) (s ∷ ss) [] e d = (refl, refl)
alike (r ∷ rs) (s ∷ ss) (n ∷ ns) e d = elim (cases_Bool (is_same r s)) [
  | inr f ↦ let one : 1 + differing rs ss ≡ 0 = rw f at d in absurd (omega (arith, one))
  | inl t ↦
      let none : 0 + differing rs ss ≡ 0 = rw t at d in
      let k = alike rs ss ns (omega (arith, e)) (omega (arith, none)) in (
        ap (λ b. b && is_in (hulls_of rs ss) ns) (same_hull r s n t) ∙ ap (λ b. is_between r n && b) k.0,
        ap (λ b. b && is_in ss ns) (same_between r s n t) ∙ ap (λ b. is_between r n && b) k.1,
      )
]

-- one field is added in front
both_front : (b h r s : Bool) → cond {A = ℕ} h 1 0 ≡ cond r 1 0 + cond s 1 0 → cond {A = ℕ} (b && h) 1 0 ≡ cond (b && r) 1 0 + cond (b && s) 1 0
both_front true h r s e = e
both_front false h r s e = refl

behind : (t h r s : Bool) → cond {A = ℕ} h 1 0 ≡ cond r 1 0 + cond s 1 0 → cond {A = ℕ} (h && t) 1 0 ≡ cond (r && t) 1 0 + cond (s && t) 1 0
behind true h r s e = simp and_yes e
behind false h r s e = rw (and_no h, and_no r, and_no s) refl

pub joined_counts : (rs ss : List (Range ℕ)) (x : List ℕ) → length rs ≡ length ss → are_full rs ≡ true → are_full ss ≡ true → join rs ss ≡ true
    → cond {A = ℕ} (is_in (hulls_of rs ss) x) 1 0 ≡ cond (is_in rs x) 1 0 + cond (is_in ss x) 1 0
unfolding is_in differing hulls_of are_close are_full
joined_counts [] ss x e fr fs j = absurd (false≢true j)
joined_counts (r ∷ rs) [] x e fr fs j = absurd (omega (arith, e))
joined_counts (r ∷ rs) (s ∷ ss) [] e fr fs j = refl
joined_counts (r ∷ rs) (s ∷ ss) (n ∷ ns) e fr fs j =
    let close = and_parts (is_close r s) (are_close rs ss) (and_parts _ _ j).0 in
    let one : (if is_same r s then 0 else 1) + differing rs ss ≡ 1 = eqb-true _ _ (and_parts _ _ j).1 in
    let short : length rs ≡ length ss = omega (arith, e) in
    let fr2 = and_parts (nat_le r.first r.last) (are_full rs) fr in
    let fs2 = and_parts (nat_le s.first s.last) (are_full ss) fs in
    elim (cases_Bool (is_same r s)) [
      | inl t ↦
          let rest : 0 + differing rs ss ≡ 1 = rw t at one in
          let k = joined_counts rs ss ns short fr2.1 fs2.1 (and_from _ _ close.1 (eq-eqb _ _ (omega (arith, rest)))) in
          sums _ _ _ (is_between r n && is_in (hulls_of rs ss) ns) (is_between r n && is_in rs ns) (is_between r n && is_in ss ns)
          (ap (λ b. b && is_in (hulls_of rs ss) ns) (same_hull r s n t)) refl (ap (λ b. b && is_in ss ns) (same_between r s n t))
          (both_front (is_between r n) (is_in (hulls_of rs ss) ns) (is_in rs ns) (is_in ss ns) k)
      | inr f ↦
          let rest : 1 + differing rs ss ≡ 1 = rw f at one in
          let k = alike rs ss ns short (omega (arith, rest)) in
          sums _ _ _ (is_between (hull_of r s) n && is_in rs ns) (is_between r n && is_in rs ns) (is_between s n && is_in rs ns)
          (ap (λ b. is_between (hull_of r s) n && b) k.0) refl (ap (λ b. is_between s n && b) k.1)
          (behind (is_in rs ns) (is_between (hull_of r s) n) (is_between r n) (is_between s n)
          (close_hull r s n (leb-true _ _ fr2.0) (leb-true _ _ fs2.0) close.0 f))
    ]

pub joined_full : (rs ss : List (Range ℕ)) → length rs ≡ length ss → are_full rs ≡ true → are_full ss ≡ true → are_full (hulls_of rs ss) ≡ true
unfolding are_full hulls_of
joined_full [] ss e fr fs = refl
joined_full (r ∷ rs) [] e fr fs = absurd (omega (arith, e))
joined_full (r ∷ rs) (s ∷ ss) e fr fs =
    let a : r.first ≤ r.last = leb-true _ _ (and_parts _ _ fr).0 in
    and_from _ _ (le-leb (min r.first s.first) (max r.last s.last) (omega (arith, a))) (joined_full rs ss (omega (arith, e)) (and_parts _ _ fr).1 (and_parts _ _ fs).1)

-- ---- boxes without a common packet that are together one box
corner : List (Range ℕ) → List ℕ
corner rs = map (λ r. r.first) rs

at_corner : (rs : List (Range ℕ)) → are_full rs ≡ true → is_in rs (corner rs) ≡ true
unfolding corner
at_corner rs full = full_corner rs full

-- boxes of the same packets have the same ranges
pub record AreAlike (rs ss : List (Range ℕ)) : Type 0 where
  pub close : are_close rs ss ≡ true
  pub none : differing rs ss ≡ 0

alike_more : (r s : Range ℕ) (rs ss : List (Range ℕ)) → is_same r s ≡ true → AreAlike rs ss → AreAlike (r ∷ rs) (s ∷ ss)
unfolding are_close differing
alike_more r s rs ss same h = record {
  close = and_from _ _ (or_left _ _ same) h.close;
  none = rw same (omega (arith, h.none));
}

-- a range that has the first and the last number of another has all of them
inside : (r s : Range ℕ) → r.first ≤ r.last → ((n : ℕ) → is_between r n ≡ true → is_between s n ≡ true) → (s.first ≤ r.first) × (r.last ≤ s.last)
inside r s full h = (
  (ends s r.first (h r.first (between r r.first (omega arith) full))).0,
  (ends s r.last (h r.last (between r r.last full (omega arith)))).1,
)

alike_from : (rs ss : List (Range ℕ)) → length rs ≡ length ss → are_full rs ≡ true → are_full ss ≡ true → ((x : List ℕ) → is_in rs x ≡ is_in ss x) → AreAlike rs ss
unfolding are_close differing are_full is_in
alike_from [] ss e fr fs same = record { close = refl; none = refl }
alike_from (r ∷ rs) [] e fr fs same = absurd (omega (arith, e))
alike_from (r ∷ rs) (s ∷ ss) e fr fs same =
    let fr2 = and_parts (nat_le r.first r.last) (are_full rs) fr in
    let fs2 = and_parts (nat_le s.first s.last) (are_full ss) fs in
    let cr = at_corner rs fr2.1 in
    let cs = at_corner ss fs2.1 in
    let there : (n : ℕ) → is_between r n ≡ true → is_between s n ≡ true = λ n i. (and_parts _ _ (sym (same (n ∷ corner rs)) ∙ and_from _ _ i cr)).0 in
    let back : (n : ℕ) → is_between s n ≡ true → is_between r n ≡ true = λ n i. (and_parts _ _ (same (n ∷ corner ss) ∙ and_from _ _ i cs)).0 in
    let a = inside r s (leb-true _ _ fr2.0) there in
    let b = inside s r (leb-true _ _ fs2.0) back in
    let i : is_between r r.first ≡ true = between r r.first (omega arith) (leb-true _ _ fr2.0) in
    let j : is_between s r.first ≡ true = there r.first i in
    alike_more r s rs ss (same_from_ends r s (omega (arith, a.0, b.0)) (omega (arith, a.1, b.1)))
    (alike_from rs ss (omega (arith, e)) fr2.1 fs2.1 (λ ns. sym (ap (λ t. t && is_in rs ns) i) ∙ same (r.first ∷ ns) ∙ ap (λ t. t && is_in ss ns) j))

-- the packets of a box are those of two others, which have none in common
pub record AreParted (ts rs ss : List (Range ℕ)) : Type 0 where
  pub union : (x : List ℕ) → is_in ts x ≡ (is_in rs x || is_in ss x)
  pub apart : (x : List ℕ) → is_in rs x ≡ true → is_in ss x ≡ true → ⊥

or_flip : (a b : Bool) → (a || b) ≡ (b || a)
or_flip true true = refl
or_flip true false = refl
or_flip false true = refl
or_flip false false = refl

flipped : (ts rs ss : List (Range ℕ)) → AreParted ts rs ss → AreParted ts ss rs
flipped ts rs ss h = record {
  union = λ x. h.union x ∙ or_flip (is_in rs x) (is_in ss x);
  apart = λ x a b. h.apart x b a;
}

module _ (t r s : Range ℕ) (ts rs ss : List (Range ℕ)) (h : AreParted (t ∷ ts) (r ∷ rs) (s ∷ ss)) (full : are_full rs ≡ true) where
  -- of a number of the first range alone: the other fields of both boxes are the same
  module _ (n : ℕ) (i : is_between r n ≡ true) (o : is_between s n ≡ false) where
    row : (ns : List ℕ) → (is_between t n && is_in ts ns) ≡ is_in rs ns
    unfolding is_in
    row ns = h.union (n ∷ ns) ∙ ap (λ b. (b && is_in rs ns) || (is_between s n && is_in ss ns)) i
        ∙ ap (λ b. is_in rs ns || (b && is_in ss ns)) o ∙ or_no (is_in rs ns)

    has : is_between t n ≡ true
    has = (and_parts _ _ (row (corner rs) ∙ at_corner rs full)).0

    rest : (ns : List ℕ) → is_in ts ns ≡ is_in rs ns
    rest ns = sym (ap (λ b. b && is_in ts ns) has) ∙ row ns

  -- a number that both ranges have is one of a packet of both
  none_both : (n : ℕ) (ns : List ℕ) → is_between r n ≡ true → is_between s n ≡ true → is_in rs ns ≡ true → is_in ss ns ≡ true → ⊥
  unfolding is_in
  none_both n ns i j ir is = h.apart (n ∷ ns) (and_from _ _ i ir) (and_from _ _ j is)

  -- where both ranges are the same, the other fields are parted
  parted_rest : is_between r r.first ≡ true → is_between s r.first ≡ true → are_full ss ≡ true → AreParted ts rs ss
  unfolding is_in
  parted_rest i j fs =
      let row : (ns : List ℕ) → (is_between t r.first && is_in ts ns) ≡ (is_in rs ns || is_in ss ns)
      = λ ns. h.union (r.first ∷ ns) ∙ ap (λ b. (b && is_in rs ns) || (is_between s r.first && is_in ss ns)) i ∙ ap (λ b. is_in rs ns || (b && is_in ss ns)) j in
      let has : is_between t r.first ≡ true = (and_parts _ _ (row (corner rs) ∙ or_left _ _ (at_corner rs full))).0 in
      record {
        union = λ ns. sym (ap (λ b. b && is_in ts ns) has) ∙ row ns;
        apart = λ ns a b. none_both r.first ns i j a b;
      }

-- a number of the one range that the other doesn't have
only : (r s : Range ℕ) → r.first ≤ r.last → (s.first ≤ r.first → r.last ≤ s.last → ⊥) → (n : ℕ) × (is_between r n ≡ true) × (is_between s n ≡ false)
only r s full h = elim (cases_lt r.first s.first) [
  | inl lo ↦ (r.first, between r r.first (omega arith) full, outside s r.first (inl lo))
  | inr lo ↦ elim (cases_lt s.last r.last) [
    | inl hi ↦ (r.last, between r r.last full (omega arith), outside s r.last (inr hi))
    | inr hi ↦ absurd (h lo hi)
  ]
]

module _ (t r s : Range ℕ) (ts rs ss : List (Range ℕ)) (h : AreParted (t ∷ ts) (r ∷ rs) (s ∷ ss)) (fr : are_full rs ≡ true) (fs : are_full ss ≡ true)
    (lr : r.first ≤ r.last) (ls : s.first ≤ s.last) (long : length rs ≡ length ss) where
  -- a range isn't within the other, where that has a number of its own
  not_within : (n : ℕ) → is_between r n ≡ true → is_between s n ≡ false → r.first ≤ s.first → s.last ≤ r.last → ⊥
  unfolding is_in
  not_within n i o lo hi =
      let m : is_between s s.first ≡ true = between s s.first (omega arith) ls in
      let k : is_between r s.first ≡ true = between r s.first lo (omega (arith, ls, hi)) in
      let c : is_in ss (corner ss) ≡ true = at_corner ss fs in
      let all : is_in (t ∷ ts) (s.first ∷ corner ss) ≡ true = h.union (s.first ∷ corner ss) ∙ or_right _ _ (and_from _ _ m c) in
      let here : is_in rs (corner ss) ≡ true = sym (rest t r s ts rs ss h fr n i o (corner ss)) ∙ (and_parts _ _ all).1 in
      none_both t r s ts rs ss h fr s.first (corner ss) k m here c

  -- ranges of which each has a number of its own: the other fields are the same, and one range follows the other
  beside : (n m : ℕ) → is_between r n ≡ true → is_between s n ≡ false → is_between s m ≡ true → is_between r m ≡ false
      → AreAlike rs ss × ((follows r s || follows s r) ≡ true)
  unfolding is_in
  beside n m i o j p =
      let same : (ns : List ℕ) → is_in rs ns ≡ is_in ss ns
      = λ ns. sym (rest t r s ts rs ss h fr n i o ns) ∙ rest t s r ts ss rs (flipped (t ∷ ts) (r ∷ rs) (s ∷ ss) h) fs m j p ns in
      let c : is_in rs (corner rs) ≡ true = at_corner rs fr in
      let d : is_in ss (corner rs) ≡ true = sym (same (corner rs)) ∙ c in
      let e : is_in ts (corner rs) ≡ true = rest t r s ts rs ss h fr n i o (corner rs) ∙ c in
      let never : (k : ℕ) → is_between r k ≡ true → is_between s k ≡ true → ⊥ = λ k a b. none_both t r s ts rs ss h fr k (corner rs) a b c d in
      let either : (k : ℕ) → is_between t k ≡ true → (is_between r k || is_between s k) ≡ true
      = λ k a.
      let all : ((is_between r k && is_in rs (corner rs)) || (is_between s k && is_in ss (corner rs))) ≡ true = sym (h.union (k ∷ corner rs)) ∙ and_from _ _ a e in
      elim (or_cases (is_between r k && is_in rs (corner rs)) (is_between s k && is_in ss (corner rs)) all) [
        | inl u ↦ or_left (is_between r k) (is_between s k) (and_parts (is_between r k) (is_in rs (corner rs)) u).0
        | inr u ↦ or_right (is_between r k) (is_between s k) (and_parts (is_between s k) (is_in ss (corner rs)) u).0
      ] in
      let rt : (k : ℕ) → is_between r k ≡ true → is_between t k ≡ true
      = λ k a. (and_parts _ _ (h.union (k ∷ corner rs) ∙ or_left _ _ (and_from _ _ a c))).0 in
      let st : (k : ℕ) → is_between s k ≡ true → is_between t k ≡ true
      = λ k a. (and_parts _ _ (h.union (k ∷ corner rs) ∙ or_right _ _ (and_from _ _ a d))).0 in
      (alike_from rs ss long fr fs same, next r s t lr ls never either rt st)
    where
      gap : (r s t : Range ℕ) → r.first ≤ r.last → s.first ≤ s.last → ((k : ℕ) → is_between t k ≡ true → (is_between r k || is_between s k) ≡ true)
          → ((k : ℕ) → is_between r k ≡ true → is_between t k ≡ true) → ((k : ℕ) → is_between s k ≡ true → is_between t k ≡ true) → r.last < s.first → s.first ≡ r.last + 1
      gap r s t lr ls either rt st lt = elim (cases_lt (r.last + 1) s.first) [
        | inr le ↦ omega (arith, lt, le)
        | inl far ↦
            let a = ends t r.last (rt r.last (between r r.last lr (omega arith))) in
            let b = ends t s.first (st s.first (between s s.first (omega arith) ls)) in
            let k : is_between t (r.last + 1) ≡ true = between t (r.last + 1) (omega (arith, a.0)) (omega (arith, far, b.1)) in
            elim (or_cases (is_between r (r.last + 1)) (is_between s (r.last + 1)) (either (r.last + 1) k)) [
              | inl u ↦ absurd (omega (arith, (ends r (r.last + 1) u).1))
              | inr u ↦ absurd (omega (arith, far, (ends s (r.last + 1) u).0))
            ]
      ]

      next : (r s t : Range ℕ) → r.first ≤ r.last → s.first ≤ s.last → ((k : ℕ) → is_between r k ≡ true → is_between s k ≡ true → ⊥)
          → ((k : ℕ) → is_between t k ≡ true → (is_between r k || is_between s k) ≡ true)
          → ((k : ℕ) → is_between r k ≡ true → is_between t k ≡ true) → ((k : ℕ) → is_between s k ≡ true → is_between t k ≡ true)
          → (follows r s || follows s r) ≡ true
      next r s t lr ls never either rt st = elim (cases_lt r.last s.first) [
        | inl lt ↦ or_right (follows r s) (follows s r) (eq-eqb _ _ (gap r s t lr ls either rt st lt))
        | inr le ↦ elim (cases_lt s.last r.first) [
          | inl lt ↦ or_left (follows r s) (follows s r) (eq-eqb _ _ (gap s r t ls lr (λ k a. sym (or_flip (is_between r k) (is_between s k)) ∙ either k a) st rt lt))
          | inr ge ↦ elim (cases_lt r.first s.first) [
            | inl lo ↦ absurd (never s.first (between r s.first (omega (arith, lo)) le) (between s s.first (omega arith) ls))
            | inr lo ↦ absurd (never r.first (between r r.first (omega arith) lr) (between s r.first lo ge))
          ]
        ]
      ]

join_same : (r s : Range ℕ) (rs ss : List (Range ℕ)) → is_same r s ≡ true → join rs ss ≡ true → join (r ∷ rs) (s ∷ ss) ≡ true
unfolding are_close differing
join_same r s rs ss same j =
    let two = and_parts _ _ j in
    let one : differing rs ss ≡ 1 = eqb-true _ _ two.1 in
    let all : (if is_same r s then 0 else 1) + differing rs ss ≡ 1 = rw same (omega (arith, one)) in
    and_from _ _ (and_from _ _ (or_left _ _ same) two.0) (eq-eqb _ _ all)

join_beside : (r s : Range ℕ) (rs ss : List (Range ℕ)) → is_same r s ≡ false → (follows r s || follows s r) ≡ true → AreAlike rs ss → join (r ∷ rs) (s ∷ ss) ≡ true
unfolding are_close differing
join_beside r s rs ss apart next h =
    let all : (if is_same r s then 0 else 1) + differing rs ss ≡ 1 = rw apart (omega (arith, h.none)) in
    and_from _ _ (and_from _ _ (or_right _ _ next) h.close) (eq-eqb _ _ all)

nothing_apart : (ts : List (Range ℕ)) → AreParted ts [] [] → ⊥
unfolding is_in
nothing_apart ts h = h.apart [] refl refl

pub parted_join : (ts rs ss : List (Range ℕ)) → length ts ≡ length rs → length rs ≡ length ss → are_full rs ≡ true → are_full ss ≡ true → AreParted ts rs ss → join rs ss ≡ true
unfolding are_full
parted_join ts [] [] et e fr fs h = absurd (nothing_apart ts h)
parted_join ts [] (s ∷ ss) et e fr fs h = absurd (omega (arith, e))
parted_join ts (r ∷ rs) [] et e fr fs h = absurd (omega (arith, e))
parted_join [] (r ∷ rs) (s ∷ ss) et e fr fs h = absurd (omega (arith, et))
parted_join (t ∷ ts) (r ∷ rs) (s ∷ ss) et e fr fs h =
    let fr2 = and_parts (nat_le r.first r.last) (are_full rs) fr in
    let fs2 = and_parts (nat_le s.first s.last) (are_full ss) fs in
    let lr : r.first ≤ r.last = leb-true _ _ fr2.0 in
    let ls : s.first ≤ s.last = leb-true _ _ fs2.0 in
    let long : length rs ≡ length ss = omega (arith, e) in
    elim (cases_Bool (is_same r s)) [
      | inl same ↦
          let i : is_between r r.first ≡ true = between r r.first (omega arith) lr in
          let k : AreParted ts rs ss = parted_rest t r s ts rs ss h fr2.1 i (same_between r s r.first same ∙ i) fs2.1 in
          join_same r s rs ss same (parted_join ts rs ss (omega (arith, et)) long fr2.1 fs2.1 k)
      | inr apart ↦
          let alone : (s.first ≤ r.first → r.last ≤ s.last → ⊥) ⊎ (r.first ≤ s.first → s.last ≤ r.last → ⊥) = differ_one r s apart in
          let (n, i, o) = own t r s ts rs ss h fr2.1 fs2.1 lr ls long alone in
          let (m, j, p) = own t s r ts ss rs (flipped (t ∷ ts) (r ∷ rs) (s ∷ ss) h) fs2.1 fr2.1 ls lr (sym long) (other_way alone) in
          let two = beside t r s ts rs ss h fr2.1 fs2.1 lr ls long n m i o j p in
          join_beside r s rs ss apart two.1 two.0
    ]
  where
    other_way : {P Q : Type 0} → P ⊎ Q → Q ⊎ P
    other_way (inl p) = inr p
    other_way (inr q) = inl q

    differ_one : (r s : Range ℕ) → is_same r s ≡ false → (s.first ≤ r.first → r.last ≤ s.last → ⊥) ⊎ (r.first ≤ s.first → s.last ≤ r.last → ⊥)
    differ_one r s apart = elim (cases_lt r.first s.first) [
      | inl lo ↦ inl (λ a b. omega (arith, lo, a))
      | inr lo ↦ elim (cases_lt s.last r.last) [
        | inl hi ↦ inl (λ a b. omega (arith, hi, b))
        | inr hi ↦ inr (λ a b. true≢false (sym (same_from_ends r s (omega (arith, a, lo)) (omega (arith, b, hi))) ∙ apart))
      ]
    ]

    -- each of the ranges has a number of its own
    own : (t r s : Range ℕ) (ts rs ss : List (Range ℕ)) → AreParted (t ∷ ts) (r ∷ rs) (s ∷ ss) → are_full rs ≡ true → are_full ss ≡ true → r.first ≤ r.last → s.first ≤ s.last
        → length rs ≡ length ss → ((s.first ≤ r.first → r.last ≤ s.last → ⊥) ⊎ (r.first ≤ s.first → s.last ≤ r.last → ⊥))
        → (n : ℕ) × (is_between r n ≡ true) × (is_between s n ≡ false)
    own t r s ts rs ss h fr fs lr ls long (inl out) = only r s lr out
    own t r s ts rs ss h fr fs lr ls long (inr out) =
        let (m, j, p) = only s r ls out in
        only r s lr (λ a b. not_within t s r ts ss rs (flipped (t ∷ ts) (r ∷ rs) (s ∷ ss) h) fs fr ls lr (sym long) m j p a b)

-- ---- boxes joined one by one
map_remove : {X Y : Type 0} (f : X → Y) (xs : List X) (i : ℕ) → map f (remove xs i) ≡ remove (map f xs) i
map_remove f [] zero = refl
map_remove f [] (suc i) = refl
map_remove f (x ∷ xs) zero = refl
map_remove f (x ∷ xs) (suc i) = ap (λ l. f x ∷ l) (map_remove f xs i)

module _ {A : Type 0} (number : A → ℕ) (regions : List (Region A)) (whole : Region A) where
  -- none of the regions is one region together with the other
  pub pushed_separate : AreSeparate (boxes_of number regions) → are_full (ranges_of number whole) ≡ true
      → position (λ r. join (ranges_of number r) (ranges_of number whole)) regions ≡ None → AreSeparate (boxes_of number (regions ++ whole ∷ []))
  pushed_separate h full none = subst AreSeparate (sym (map-append (ranges_of number) regions (whole ∷ []))) (record {
    full = All-push (λ (b : List (Range ℕ)). are_full b ≡ true) (boxes_of number regions) (ranges_of number whole) h.full full;
    apart = all_pairs_push (λ (a b : List (Range ℕ)). join a b ≡ false) (boxes_of number regions) (ranges_of number whole) h.apart
        (λ k d lt.
        let short : k < length regions = omega (arith, lt, length-map regions (ranges_of number)) in
        ap (λ (b : List (Range ℕ)). join b (ranges_of number whole)) (get_map (ranges_of number) regions k d whole short)
        ∙ none_passes (λ r. join (ranges_of number r) (ranges_of number whole)) regions none k whole short);
  })

  module _ (i : ℕ) (part : Region A) (at : position (λ r. join (ranges_of number r) (ranges_of number whole)) regions ≡ Some i) (is : part ≡ get_or regions i part) where
    found : (i < length regions) × (join (ranges_of number part) (ranges_of number whole) ≡ true)
    found =
        let k = position-Some (λ (r : Region A). join (ranges_of number r) (ranges_of number whole)) regions i part at in
        (k.0, ap (λ (r : Region A). join (ranges_of number r) (ranges_of number whole)) is ∙ k.1)

    pub found_within : i < length regions
    found_within = found.0

    boxed : i < length (boxes_of number regions)
    boxed = omega (arith, found.0, length-map regions (ranges_of number))

    here : (d : List (Range ℕ)) → get_or (boxes_of number regions) i d ≡ ranges_of number part
    here d = get_map (ranges_of number) regions i d part found.0 ∙ ap (ranges_of number) (sym is)

    pub part_full : AreSeparate (boxes_of number regions) → are_full (ranges_of number part) ≡ true
    part_full h = ap are_full (sym (here [])) ∙ h.full i [] boxed

    pub removed_separate : AreSeparate (boxes_of number regions) → AreSeparate (boxes_of number (remove regions i))
    removed_separate h = subst AreSeparate (sym (map_remove (ranges_of number) regions i)) (record {
      full = All-append (λ (b : List (Range ℕ)). are_full b ≡ true) (take i (boxes_of number regions)) (drop (suc i) (boxes_of number regions))
          (All-take (λ (b : List (Range ℕ)). are_full b ≡ true) i (boxes_of number regions) h.full)
          (All-drop (λ (b : List (Range ℕ)). are_full b ≡ true) (suc i) (boxes_of number regions) h.full);
      apart = all_pairs_remove (λ (a b : List (Range ℕ)). join a b ≡ false) (boxes_of number regions) i boxed h.apart;
    })

    pub removed_held : (x : List ℕ) → held x (boxes_of number (remove regions i)) + cond (is_in (ranges_of number part) x) 1 0 ≡ held x (boxes_of number regions)
    removed_held x =
        let e : cond {A = ℕ} (is_in (get_or (boxes_of number regions) i []) x) 1 0 ≡ cond (is_in (ranges_of number part) x) 1 0
        = ap (λ (b : List (Range ℕ)). cond {A = ℕ} (is_in b x) 1 0) (here []) in
        let m : held x (boxes_of number (remove regions i)) ≡ held x (remove (boxes_of number regions) i) = ap (held x) (map_remove (ranges_of number) regions i) in
        omega (arith, e, m, sum_by-remove (λ b. cond {A = ℕ} (is_in b x) 1 0) (boxes_of number regions) i [] boxed)

    pub joined_here : AreSeparate (boxes_of number regions) → are_full (ranges_of number whole) ≡ true → (x : List ℕ)
        → cond {A = ℕ} (is_in (hulls_of (ranges_of number part) (ranges_of number whole)) x) 1 0
        ≡ cond (is_in (ranges_of number part) x) 1 0 + cond (is_in (ranges_of number whole) x) 1 0
    joined_here h full x = joined_counts (ranges_of number part) (ranges_of number whole) x refl (part_full h) full found.1

pub joined_whole : {A : Type 0} (number : A → ℕ) (part whole : Region A) → are_full (ranges_of number part) ≡ true → are_full (ranges_of number whole) ≡ true
    → are_full (hulls_of (ranges_of number part) (ranges_of number whole)) ≡ true
joined_whole number part whole a b = joined_full (ranges_of number part) (ranges_of number whole) refl a b

pub pushed_held : {A : Type 0} (number : A → ℕ) (regions : List (Region A)) (whole : Region A) (x : List ℕ)
    → held x (boxes_of number (regions ++ whole ∷ [])) ≡ held x (boxes_of number regions) + cond (is_in (ranges_of number whole) x) 1 0
pushed_held number regions whole x = ap (held x) (map-append (ranges_of number) regions (whole ∷ []))
    ∙ sum_by_push (λ b. cond {A = ℕ} (is_in b x) 1 0) (boxes_of number regions) (ranges_of number whole)

-- what a search found in a list that is read
pub position_is : {X : Type 0} (p : X → Bool) (xs seen : List X) (r o : Option ℕ) → seen ≡ xs → r ≡ position p seen → r ≡ o → position p xs ≡ o
position_is p xs seen r o e er is = ap (position p) (sym e) ∙ sym er ∙ is
