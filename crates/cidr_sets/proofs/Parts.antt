-- The networks of a set before a place, and those from another place on.
use Rattle.std.proofs.Common.{◌≡◌, ◌≢◌, ◌⊎◌, ℕ, ◌+◌, ◌-◌, ◌<◌, ◌≤◌, Bool, List, [], ◌∷◌, length, length-take, length-drop, get_or, take, drop, refl, sym, ap, ◌∙◌, subst, arith, inl, inr, take-append-drop}
use Rattle.std.proofs.lemmas.Bool.{cases_lt, cases_eq}
use Rattle.std.proofs.lemmas.List.{drop_more, get_or-drop, get_or-take, get_or_default}
use Rattle.std.proofs.lemmas.Map.Keys.{Less-from_sorted}
use Rattle.std.specs.List.{Contains}
use Rattle.std.specs.declared.cmp.Ordering.{Ordering}
use Rattle.std.specs.declared.cmp.Ordering.TheVariants.{Less, Equal, Greater}
use Rattle.cidr.specs.model.Bits.{bit_cmp}
use Rattle.cidr.specs.model.Network.{BeginsWith}
use Rattle.cidr_table.specs.model.Cover.{Covers, IsReduced}
use Rattle.cidr_table.proofs.Ascending.{sorted_front}
use Rattle.cidr_table.proofs.Beginnings.{bits_exact}
use Rattle.cidr_table.proofs.Halves.{begins_itself}
use Rattle.cidr_table.proofs.Order.{between, less_not_itself}
use Rattle.cidr_table.proofs.Stacks.{spread_from_reduced}
use Rattle.cidr_sets.specs.internal.Edits.{IsParted}
use Rattle.cidr_sets.specs.model.Searches.{IsUpto}
use Rattle.cidr_sets.specs.internal.Steps.{Ascend}
use Rattle.cidr_sets.proofs.Cuts.{suffix_ascends}
use Rattle.cidr_sets.proofs.Steps.{turned}

module _ {X : Type 0} (s : List X) (x : X) where
  -- where an element stands
  pub record IsAt (i : ℕ) : Type 0 where
    pub within : i < length s
    pub here : get_or s i x ≡ x

  at_taken : (n : ℕ) → Contains (take n s) x → (i : ℕ) × (i < n) × IsAt i
  at_taken n c =
      let low : c.0 < n = omega (arith, c.1, length-take n s) in
      (c.0, low, record { within = omega (arith, c.1, length-take n s); here = sym (get_or-take n s c.0 x low) ∙ c.2 })

  at_dropped : (n : ℕ) → Contains (drop n s) x → (i : ℕ) × (n ≤ i) × IsAt i
  at_dropped n c = (
    n + c.0,
    omega arith,
    record {
      within = omega (arith, c.1, length-drop n s);
      here = sym (get_or-drop n s c.0 x) ∙ c.2;
    },
  )

  taken : (n i : ℕ) → i < n → IsAt i → Contains (take n s) x
  taken n i low h = (i, omega (arith, low, h.within, length-take n s), get_or-take n s i x low ∙ h.here)

  dropped : (n i : ℕ) → n ≤ i → IsAt i → Contains (drop n s) x
  dropped n i le h =
      let is : n + (i - n) ≡ i = omega arith in
      (i - n, omega (arith, h.within, length-drop n s), get_or-drop n s (i - n) x ∙ ap (λ k. get_or s k x) is ∙ h.here)

-- the first of the last ones
pub drop_first : {X : Type 0} (s : List X) (n : ℕ) (x : X) → n < length s → x ≡ get_or s n x → drop n s ≡ x ∷ drop (n + 1) s
drop_first s n x lt is = drop_more s n x lt ∙ ap (λ y. y ∷ drop (n + 1) s) (sym is)

only_less : (r : Ordering) → r ≢ Greater → r ≢ Equal → r ≡ Less
only_less Less n m = refl
only_less Equal n m = absurd (m refl)
only_less Greater n m = absurd (n refl)

module _ (s : List (List Bool)) (h : IsReduced 129 s) where
  in_order : (x y : List Bool) (i j : ℕ) → IsAt s x i → IsAt s y j → i < j → bit_cmp x y ≡ Less
  in_order x y i j at_x at_y lt =
      let low = get_or_default s i [] x at_x.within ∙ at_x.here in
      let high = get_or_default s j [] y at_y.within ∙ at_y.here in
      subst (λ z. bit_cmp z y ≡ Less) low
      (subst (λ z. bit_cmp (get_or s i []) z ≡ Less) high (Less-from_sorted bit_cmp s i j [] h.ascending lt at_y.within))

  -- a later network doesn't begin with an earlier one
  pub later_apart : (x y : List Bool) → Contains s x → Contains s y → bit_cmp x y ≡ Less → ¬ (BeginsWith y x)
  later_apart x y c d less b =
      less_not_itself y (subst (λ z. bit_cmp z y ≡ Less) ((spread_from_reduced 129 s h).apart x y c d b) less)

  contained : (x : List Bool) (i : ℕ) → IsAt s x i → Contains s x
  contained x i at = (i, at.within, at.here)

  ascend_taken : (n : ℕ) → Ascend (take n s)
  ascend_taken n = sorted_front (take n s) (drop n s) (subst Ascend (sym (take-append-drop n s)) h.ascending)

  ascend_dropped : (n : ℕ) → n ≤ length s → Ascend (drop n s)
  ascend_dropped n le = suffix_ascends (drop n s) s (n, refl, omega (arith, length-drop n s, le)) h.ascending

  -- around one of them
  pub parted_at : (q : List Bool) (i : ℕ) → i < length s → get_or s i q ≡ q → IsParted s q (take i s) (drop (i + 1) s)
  parted_at q i within here =
      let at : IsAt s q i = record { within = within; here = here } in
      record {
        each = λ x c. elim (cases_lt c.0 i) [
          | inl lt ↦ inl (taken s x i c.0 lt (record { within = c.1; here = c.2 }))
          | inr le ↦ elim (cases_eq c.0 i) [
            | inl e ↦ inr (inl (subst (λ z. BeginsWith z q) (same q x c.0 i e at c.2 c.1) (begins_itself q)))
            | inr n ↦ inr (inr (dropped s x (i + 1) c.0 (omega (arith, le, n)) (record { within = c.1; here = c.2 })))
          ]
        ];
        kept_these = λ x c. let k = at_taken s x i c in contained x k.0 k.2;
        kept_those = λ x c. let k = at_dropped s x (i + 1) c in contained x k.0 k.2;
        before = λ x c. let k = at_taken s x i c in in_order x q k.0 i k.2 at k.1;
        behind = λ x c.
            let k = at_dropped s x (i + 1) c in
            let less = in_order q x i k.0 at k.2 (omega (arith, k.1)) in
            (less, later_apart q x (contained q i at) (contained x k.0 k.2) less);
        ascend_these = ascend_taken i;
        ascend_those = ascend_dropped (i + 1) (omega (arith, within));
      }
    where
      same : (q x : List Bool) (j i : ℕ) → j ≡ i → IsAt s q i → get_or s j x ≡ x → j < length s → q ≡ x
      same q x j i e at here lt =
          sym at.here ∙ get_or_default s i q x at.within ∙ ap (λ k. get_or s k x) (sym e) ∙ here

  -- around those that lie in a network that none of them contains
  module _ (p : List Bool) (free : ¬ (Covers s p)) (index : ℕ) (u : IsUpto s p index) where
    here_at : (x : List Bool) (i : ℕ) → IsAt s x i → get_or s i p ≡ x
    here_at x i at = get_or_default s i p x at.within ∙ at.here

    before_place : (x : List Bool) (i : ℕ) → IsAt s x i → i < index → bit_cmp x p ≡ Less
    before_place x i at lt =
        only_less (bit_cmp x p) (subst (λ z. bit_cmp z p ≢ Greater) (here_at x i at) (u.before i lt))
        (λ e. free (x, contained x i at, subst (λ z. BeginsWith z x) (bits_exact x p e) (begins_itself x)))

    from_place : (x : List Bool) (i : ℕ) → IsAt s x i → index ≤ i → bit_cmp p x ≡ Less
    from_place x i at le = turned x p (subst (λ z. bit_cmp z p ≡ Greater) (here_at x i at) (u.behind i le at.within))

    pub parted_inside : (end : ℕ) → index ≤ end → end ≤ length s
        → ((i : ℕ) → index ≤ i → i < end → BeginsWith (get_or s i p) p) → ((length s ≤ end) ⊎ ¬ (BeginsWith (get_or s end p) p))
        → IsParted s p (take index s) (drop end s)
    parted_inside end le within inside last = record {
      each = λ x c.
          let at : IsAt s x c.0 = record { within = c.1; here = c.2 } in
          elim (cases_lt c.0 index) [
            | inl lt ↦ inl (taken s x index c.0 lt at)
            | inr from ↦ elim (cases_lt c.0 end) [
              | inl lt ↦ inr (inl (subst (λ z. BeginsWith z p) (here_at x c.0 at) (inside c.0 from lt)))
              | inr high ↦ inr (inr (dropped s x end c.0 high at))
            ]
          ];
      kept_these = λ x c. let k = at_taken s x index c in contained x k.0 k.2;
      kept_those = λ x c. let k = at_dropped s x end c in contained x k.0 k.2;
      before = λ x c. let k = at_taken s x index c in before_place x k.0 k.2 k.1;
      behind = λ x c.
          let k = at_dropped s x end c in
          (from_place x k.0 k.2 (omega (arith, k.1, le)), λ b. not_inside x k.0 k.1 k.2 b last);
      ascend_these = ascend_taken index;
      ascend_those = ascend_dropped end within;
    }
      where
        -- the networks that lie in p stand together
        not_inside : (x : List Bool) (i : ℕ) → end ≤ i → IsAt s x i → BeginsWith x p
            → (length s ≤ end) ⊎ ¬ (BeginsWith (get_or s end p) p) → ⊥
        not_inside x i from at b (inl all) = omega (arith, all, from, at.within)
        not_inside x i from at b (inr out) = elim (cases_eq i end) [
          | inl e ↦ out (subst (λ z. BeginsWith z p) (sym (here_at x i at) ∙ ap (λ k. get_or s k p) e) b)
          | inr n ↦
              let y = get_or s end p in
              let first : IsAt s y end = record {
                within = omega (arith, from, at.within);
                here = get_or_default s end y p (omega (arith, from, at.within));
              } in
              out (between p y x b (from_place y end first le) (in_order y x end i first at (omega (arith, from, n))))
        ]
