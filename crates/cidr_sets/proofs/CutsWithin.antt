-- What is left of a network without others, the first of which is not before it.
use Rattle.std.proofs.Common.{◌≡◌, ◌≢◌, ℕ, ◌<◌, ◌≤◌, Bool, true, false, List, [], ◌∷◌, ◌++◌, length, refl, sym, ap, subst, arith, inl, inr, Some}
use Rattle.std.proofs.lemmas.Bool.{cases_lt}
use Rattle.std.proofs.lemmas.Option.{same_Some}
use Rattle.std.specs.List.{Contains, slice_get}
use Rattle.std.specs.declared.cmp.Ordering.{Ordering}
use Rattle.std.specs.declared.cmp.Ordering.TheVariants.{Less, Equal, Greater}
use Rattle.cidr.specs.model.Bits.{bit_cmp}
use Rattle.cidr.specs.model.Network.{BeginsWith}
use Rattle.cidr.specs.laws.BitLaws.{bit_cmp_total}
use Rattle.cidr_table.specs.model.Cover.{Covers}
use Rattle.cidr_table.proofs.Ascending.{first_less}
use Rattle.cidr_table.proofs.Beginnings.{bits_exact, not_before}
use Rattle.cidr_table.proofs.Halves.{begins_itself, either_half, same_length}
use Rattle.cidr_table.proofs.MapLaws.{contains_first, contains_later, contains_nothing}
use Rattle.cidr_table.proofs.Order.{between_halves, halves_less, less_not_itself, whole_less}
use Rattle.cidr_sets.specs.internal.Steps.{AreApart, Ascend, IsDifferenceStep, IsOver, StartsBehind, StartsFrom}
use Rattle.cidr_sets.proofs.Cuts.{cut_covered, cut_same, cut_whole}
use Rattle.cidr_sets.proofs.Steps.{apart_from, one_ascends, turned}

-- ---- the first of a list
later : (p q : List Bool) → bit_cmp q p ≢ Less → ¬ (BeginsWith q p) → bit_cmp p q ≡ Less
later p q n outside = by_order (bit_cmp p q) refl
  where
    by_order : (r : Ordering) → bit_cmp p q ≡ r → bit_cmp p q ≡ Less
    by_order Less e = e
    by_order Equal e = absurd (outside (subst (λ z. BeginsWith z p) (bits_exact p q e) (begins_itself p)))
    by_order Greater e = absurd (n (turned p q e))

-- what comes before p or contains it is passed, or p itself
pub starts_from : (p : List Bool) (s : List (List Bool))
    → ((q : List Bool) → slice_get s 0 ≡ Some q → ¬ ((bit_cmp q p ≡ Less) × ¬ (BeginsWith p q)))
    → ¬ ((q : List Bool) × (slice_get s 0 ≡ Some q) × BeginsWith p q × (length q < length p)) → StartsFrom p s
starts_from p s passed around q e less = passed q e (
  less,
  λ b. elim (cases_lt (length q) (length p)) [
    | inl lt ↦ around (q, e, b, lt)
    | inr le ↦ less_not_itself p (subst (λ z. bit_cmp z p ≡ Less) (sym (same_length p q b le)) less)
  ],
)

pub lower_starts : (p f : List Bool) (s : List (List Bool)) → BeginsWith f p → length p < length f
    → StartsFrom (p ++ false ∷ []) (f ∷ s)
lower_starts p f s inside short q e = subst (λ z. bit_cmp z (p ++ false ∷ []) ≢ Less) (same_Some f q e) (elim (either_half f p inside short) [
  | inl b ↦ not_before f (p ++ false ∷ []) b
  | inr b ↦ λ less. less_not_itself f (bit_cmp_total.trans f (p ++ false ∷ []) f less
      (halves_less p (p ++ false ∷ []) f (begins_itself (p ++ false ∷ [])) b))
])

pub upper_starts : (p : List Bool) (s : List (List Bool)) → StartsBehind (p ++ false ∷ []) s → StartsFrom (p ++ true ∷ []) s
upper_starts p s h q e less = (h q e).1 (between_halves p q (h q e).0 less)

pub whole_starts : (p : List Bool) (s : List (List Bool)) → StartsBehind (p ++ true ∷ []) s → StartsBehind p s
whole_starts p s h q e =
    let behind = h q e in
    let less = whole_less p q true behind.0 in (
      less,
      λ b. elim (cases_lt (length p) (length q)) [
        | inl lt ↦ elim (either_half q p b lt) [
          | inl c ↦ less_not_itself q (bit_cmp_total.trans q (p ++ true ∷ []) q
              (halves_less p q (p ++ true ∷ []) c (begins_itself (p ++ true ∷ []))) behind.0)
          | inr c ↦ behind.1 c
        ]
        | inr le ↦ less_not_itself q (subst (λ z. bit_cmp z q ≡ Less) (sym (same_length q p b le)) less)
      ],
    )

pub over_less : (p : List Bool) (old others : List (List Bool)) (room more : ℕ) → room ≤ more → IsOver p old others more
    → IsOver p old others room
over_less p old others room more le k = record {
  networks = k.networks;
  over = omega (arith, le, k.over);
  ascend = k.ascend;
  each = k.each;
}

-- ---- what is written of one network
module _ (p : List Bool) (old : List (List Bool)) (ascend : Ascend old)
    (before : (x : List Bool) → Contains old x → bit_cmp x p ≡ Less) where
  -- all of it, where the first of the others is not in it
  module _ (s : List (List Bool)) (others : Ascend s) (from : StartsFrom p s)
      (outside : (q : List Bool) → slice_get s 0 ≡ Some q → ¬ (BeginsWith q p)) where
    pub free_next : StartsBehind p s
    free_next q e = (later p q (from q e) (outside q e), outside q e)

    pub free_cut : IsDifferenceStep p old (old ++ p ∷ []) s s
    free_cut = cut_whole p old ascend before s (none s others free_next)
      where
        none : (s : List (List Bool)) → Ascend s → StartsBehind p s → (a : List Bool) → BeginsWith a p → ¬ (Covers s a)
        none [] others next a b c = contains_nothing c.0 c.1
        none (f ∷ s) others next a b c =
            let h = next f refl in
            apart_from p [] (one_ascends p) f s others (λ d. not_before p f d h.0) h.1 h.0 a b c

  -- nothing, where the first of the others is the same
  module _ (f : List Bool) (s : List (List Bool)) (others : Ascend (f ∷ s)) (apart : AreApart (f ∷ s)) (inside : BeginsWith f p)
      (size : length f ≡ length p) where
    is : f ≡ p
    is = same_length f p inside (omega (arith, size))

    pub same_cut : IsDifferenceStep p old old (f ∷ s) s
    same_cut = cut_same p old ascend before f s (subst (BeginsWith p) (sym is) (begins_itself p)) size

    pub same_next : StartsBehind p s
    same_next q e =
        let here = first_of s q e in
        let less = first_less f s others q here in (
          subst (λ z. bit_cmp z q ≡ Less) is less,
          λ b. less_not_itself q (subst (λ z. bit_cmp z q ≡ Less)
              (apart f q (contains_first f s) (contains_later f q s here) (subst (BeginsWith q) (sym is) b)) less),
        )
      where
        first_of : (s : List (List Bool)) (q : List Bool) → slice_get s 0 ≡ Some q → Contains s q
        first_of [] q e = absurd (cc)
        first_of (y ∷ s) q e = subst (Contains (y ∷ s)) (same_Some y q e) (contains_first y s)

  -- nothing, where a larger one contains it
  pub around_cut : (s : List (List Bool)) → (q : List Bool) × (slice_get s 0 ≡ Some q) × BeginsWith p q × (length q < length p)
      → IsDifferenceStep p old old s s
  around_cut [] h = absurd (let e = h.1 in cc)
  around_cut (f ∷ s) h =
      let is = same_Some f h.0 h.1 in
      cut_covered p old ascend before f s (subst (BeginsWith p) (sym is) h.2) (λ e. omega (arith, e, ap length is, h.3))
