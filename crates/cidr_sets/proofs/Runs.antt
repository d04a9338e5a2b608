-- The longest ranges of a set: networks that touch one after another.
use Rattle.std.proofs.Common.{◌≡◌, ◌⊎◌, ℕ, zero, suc, ◌+◌, ◌-◌, ◌<◌, ◌≤◌, Bool, true, false, not, ◌&&◌, List, [], ◌∷◌, ◌++◌, length, get_or, drop, refl, sym, ap, ◌∙◌, subst, arith, inl, inr, Some}
use Rattle.std.proofs.lemmas.Bool.{false≢true, true≢false}
use Rattle.std.proofs.lemmas.List.{drop_all, drop_more}
use Rattle.std.proofs.lemmas.Option.{get_or_from_slice_get}
use Rattle.std.specs.Bool.{beq}
use Rattle.std.specs.List.{list_all, range_with_len, slice_get}
use Rattle.cidr.specs.model.BitString.{IsSharedLength}
use Rattle.cidr.specs.model.Network.{BeginsWith}
use Rattle.cidr_table.proofs.Halves.{length_half, next_bit, same_length}
use Rattle.cidr_sets.specs.model.Ranges.{all_bits, join, joined_ranges, touches}

-- ---- whether no address is between two networks
pub bits_are_all : (b : Bool) (p : List Bool) (n i : ℕ) → length p - i ≡ n
    → list_all (λ k. beq (get_or p k false) b) (range_with_len i n) ≡ all_bits b (drop i p)
unfolding all_bits
bits_are_all b p zero i e = sym (ap (all_bits b) (drop_all i p (omega (arith, e))))
bits_are_all b p (suc n) i e =
    ap (λ t. beq (get_or p i false) b && t) (bits_are_all b p n (i + 1) (omega (arith, e)))
    ∙ sym (ap (all_bits b) (drop_more p i false (omega (arith, e))))

touches_first : (p q : List Bool) → BeginsWith q p → touches p q ≡ false
unfolding touches
touches_first [] q h = refl
touches_first (x ∷ p) [] h = refl
touches_first (true ∷ p) (true ∷ q) h = touches_first p q (ap (drop 1) h)
touches_first (false ∷ p) (false ∷ q) h = touches_first p q (ap (drop 1) h)
touches_first (false ∷ p) (true ∷ q) h = absurd (true≢false (ap (λ t. get_or t 0 true) h))
touches_first (true ∷ p) (false ∷ q) h = refl

touches_longer : (p q : List Bool) → BeginsWith p q → touches p q ≡ false
unfolding touches
touches_longer [] q h = refl
touches_longer (x ∷ p) [] h = refl
touches_longer (true ∷ p) (true ∷ q) h = touches_longer p q (ap (drop 1) h)
touches_longer (false ∷ p) (false ∷ q) h = touches_longer p q (ap (drop 1) h)
touches_longer (false ∷ p) (true ∷ q) h = absurd (false≢true (ap (λ t. get_or t 0 true) h))
touches_longer (true ∷ p) (false ∷ q) h = refl

touches_at : (s p q : List Bool) (b : Bool) → BeginsWith p (s ++ b ∷ []) → BeginsWith q (s ++ not b ∷ [])
    → touches p q ≡ (not b && (all_bits true (drop (suc (length s)) p) && all_bits false (drop (suc (length s)) q)))
unfolding touches
touches_at [] [] q b h k = cc
touches_at [] (x ∷ p) [] b h k = cc
touches_at [] (true ∷ p) (false ∷ q) true h k = refl
touches_at [] (false ∷ p) (true ∷ q) false h k = refl
touches_at [] (false ∷ p) (y ∷ q) true h k = absurd (false≢true (ap (λ t. get_or t 0 true) h))
touches_at [] (true ∷ p) (true ∷ q) true h k = absurd (true≢false (ap (λ t. get_or t 0 true) k))
touches_at [] (true ∷ p) (y ∷ q) false h k = absurd (true≢false (ap (λ t. get_or t 0 true) h))
touches_at [] (false ∷ p) (false ∷ q) false h k = absurd (false≢true (ap (λ t. get_or t 0 true) k))
touches_at (z ∷ s) [] q b h k = cc
touches_at (z ∷ s) (x ∷ p) [] b h k = cc
touches_at (z ∷ s) (true ∷ p) (true ∷ q) b h k = touches_at s p q b (ap (drop 1) h) (ap (drop 1) k)
touches_at (z ∷ s) (false ∷ p) (false ∷ q) b h k = touches_at s p q b (ap (drop 1) h) (ap (drop 1) k)
touches_at (z ∷ s) (true ∷ p) (false ∷ q) b h k = absurd (true≢false (ap (λ t. get_or t 0 true) h ∙ sym (ap (λ t. get_or t 0 true) k)))
touches_at (z ∷ s) (false ∷ p) (true ∷ q) b h k = absurd (false≢true (ap (λ t. get_or t 0 true) h ∙ sym (ap (λ t. get_or t 0 true) k)))

same_or_other : (b c : Bool) → (b ≡ c) ⊎ (c ≡ not b)
same_or_other true true = inl refl
same_or_other false false = inl refl
same_or_other true false = inr refl
same_or_other false true = inr refl

module _ (p q : List Bool) (n : ℕ) (h : IsSharedLength p q n) where
  pub touches_none_first : length p ≤ n → touches p q ≡ false
  touches_none_first le =
      let (s, long, one, other) = h.shared in
      let all : p ≡ s = same_length p s one (omega (arith, long, le)) in
      touches_first p q (subst (BeginsWith q) (sym all) other)

  pub touches_none_next : length q ≤ n → touches p q ≡ false
  touches_none_next le =
      let (s, long, one, other) = h.shared in
      let all : q ≡ s = same_length q s other (omega (arith, long, le)) in
      touches_longer p q (subst (BeginsWith p) (sym all) one)

  pub touches_shared : (b : Bool) → n < length p → n < length q → slice_get p n ≡ Some b
      → touches p q ≡ (not b && (all_bits true (drop (n + 1) p) && all_bits false (drop (n + 1) q)))
  touches_shared b lp lq there =
      let (s, long, one, other) = h.shared in
      let k = length s in
      let bit : get_or p k false ≡ b = ap (λ i. get_or p i false) long ∙ get_or_from_slice_get p n b false there in
      let bp : BeginsWith p (s ++ b ∷ []) = subst (λ x. BeginsWith p (s ++ x ∷ [])) bit (next_bit p s one (omega (arith, long, lp))) in
      let c = get_or q k false in
      let bq : BeginsWith q (s ++ c ∷ []) = next_bit q s other (omega (arith, long, lq)) in
      elim (same_or_other b c) [
        | inl same ↦ absurd (omega (
          arith,
          long,
          length_half s b,
          h.longest (s ++ b ∷ []) bp (subst (λ x. BeginsWith q (s ++ x ∷ [])) (sym same) bq),
        ))
        | inr d ↦
            let told = touches_at s p q b bp (subst (λ x. BeginsWith q (s ++ x ∷ [])) d bq) in
            let e : suc k ≡ n + 1 = omega (arith, long) in
            told ∙ ap (λ i. (not b && (all_bits true (drop i p) && all_bits false (drop i q)))) e
      ]

-- ---- the range that begins a list
-- the first range from another network on
unfoldable pub begun : List Bool → List (List Bool × List Bool) → List (List Bool × List Bool)
begun p [] = []
begun p (r ∷ rs) = (p, r.1) ∷ rs

pub true_or : (b : Bool) → (b ≡ true) ⊎ (b ≡ false)
true_or true = inl refl
true_or false = inr refl

pub join_touching : (p : List Bool) (r : List Bool × List Bool) (rs : List (List Bool × List Bool)) → touches p r.0 ≡ true
    → join p (r ∷ rs) ≡ (p, r.1) ∷ rs
join_touching p r rs e = unfold join in rw e refl

pub join_apart : (p : List Bool) (r : List Bool × List Bool) (rs : List (List Bool × List Bool)) → touches p r.0 ≡ false
    → join p (r ∷ rs) ≡ (p, p) ∷ r ∷ rs
join_apart p r rs e = unfold join in rw e refl

pub join_begins : (p : List Bool) (rs : List (List Bool × List Bool))
    → (l : List Bool) × (t : List (List Bool × List Bool)) × (join p rs ≡ (p, l) ∷ t)
join_begins p [] = (p, [], (unfold join in refl))
join_begins p (r ∷ rs) = elim (true_or (touches p r.0)) [
  | inl e ↦ (r.1, rs, join_touching p r rs e)
  | inr e ↦ (p, r ∷ rs, join_apart p r rs e)
]

pub joined_more : (p : List Bool) (ps : List (List Bool)) → joined_ranges (p ∷ ps) ≡ join p (joined_ranges ps)
joined_more p ps = unfold joined_ranges in refl

pub begun_self : (p : List Bool) (ps : List (List Bool)) → joined_ranges (p ∷ ps) ≡ begun p (joined_ranges (p ∷ ps))
begun_self p ps =
    let (l, t, e) = join_begins p (joined_ranges ps) in
    let is : joined_ranges (p ∷ ps) ≡ (p, l) ∷ t = joined_more p ps ∙ e in
    let here : begun p (joined_ranges (p ∷ ps)) ≡ (p, l) ∷ t = ap (begun p) is ∙ (unfold begun in refl) in
    is ∙ sym here

pub begun_more : (f l n : List Bool) (ps : List (List Bool)) → touches l n ≡ true
    → begun f (joined_ranges (l ∷ n ∷ ps)) ≡ begun f (joined_ranges (n ∷ ps))
begun_more f l n ps touching =
    let (k, t, e) = join_begins n (joined_ranges ps) in
    let next : joined_ranges (n ∷ ps) ≡ (n, k) ∷ t = joined_more n ps ∙ e in
    let all : joined_ranges (l ∷ n ∷ ps) ≡ (l, k) ∷ t = joined_more l (n ∷ ps) ∙ ap (join l) next ∙ join_touching l (n, k) t touching in
    let same : begun f ((l, k) ∷ t) ≡ begun f ((n, k) ∷ t) = unfold begun in refl in
    ap (begun f) all ∙ same ∙ sym (ap (begun f) next)

pub begun_end : (f l n : List Bool) (ps : List (List Bool)) → touches l n ≡ false
    → begun f (joined_ranges (l ∷ n ∷ ps)) ≡ (f, l) ∷ joined_ranges (n ∷ ps)
begun_end f l n ps apart =
    let (k, t, e) = join_begins n (joined_ranges ps) in
    let next : joined_ranges (n ∷ ps) ≡ (n, k) ∷ t = joined_more n ps ∙ e in
    let all : joined_ranges (l ∷ n ∷ ps) ≡ (l, l) ∷ (n, k) ∷ t = joined_more l (n ∷ ps) ∙ ap (join l) next ∙ join_apart l (n, k) t apart in
    let first : begun f ((l, l) ∷ (n, k) ∷ t) ≡ (f, l) ∷ (n, k) ∷ t = unfold begun in refl in
    ap (begun f) all ∙ first ∙ ap (λ x. (f, l) ∷ x) (sym next)

pub begun_last : (f l : List Bool) → begun f (joined_ranges (l ∷ [])) ≡ (f, l) ∷ joined_ranges []
begun_last f l = unfold begun in unfold joined_ranges in unfold join in refl
