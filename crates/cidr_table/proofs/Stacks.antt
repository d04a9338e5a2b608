-- Networks that are their own least cover, and one more behind them: where it stays, and where it is half of a whole.
use Rattle.std.proofs.Common.{◌≡◌, ℕ, ◌<◌, ◌≤◌, Bool, true, false, List, [], ◌∷◌, ◌++◌, length, get_or, take, refl, sym, ap, ◌∙◌, subst, arith, inl, inr}
use Rattle.std.proofs.lemmas.List.{take_at, get_or_at, length_push}
use Rattle.std.proofs.lemmas.List.Elements.{All-contains, Contains-push, Contains-push_cases, Contains-append_left}
use Rattle.std.proofs.lemmas.Map.Views.{All-before_last}
use Rattle.std.specs.List.{Contains}
use Rattle.std.specs.List.Sorted.{IsStrictlySortedBy}
use Rattle.std.specs.declared.cmp.Ordering.TheVariants.{Less}
use Rattle.cidr.specs.model.Bits.{bit_cmp}
use Rattle.cidr.specs.model.Network.{BeginsWith}
use Rattle.cidr_table.specs.model.Cover.{Covers, CoverSame, AreNetworks}
use Rattle.cidr_table.specs.internal.CoverStack.{AreHalvesInOrder, AreBefore, IsReduced, IsPushed}
use Rattle.cidr_table.proofs.Ascending.{sorted_front, sorted_push}
use Rattle.cidr_table.proofs.Halves.{begins_itself, begins_begins, length_half, half_begins, parent_half}
use Rattle.cidr_table.proofs.MapLaws.{contains_first}
use Rattle.cidr_table.proofs.Beginnings.{not_before}
use Rattle.cidr_table.proofs.Members.{key_full, full_from_halves, one_member}
use Rattle.cidr_table.proofs.Order.{less_not_itself, not_both, between, between_halves, lower_less, before_whole, whole_less}
use Rattle.cidr_table.proofs.Reduced.{HaveNoHalves, HoldNoOther, reduced_is_least, merge_covers}

-- the same by parts
pub record IsSpread (w : ℕ) (s : List (List Bool)) : Type 0 where
  pub ascending : IsStrictlySortedBy bit_cmp s
  pub networks : AreNetworks w s
  pub none : HaveNoHalves s
  pub apart : HoldNoOther s

pub reduced_from_spread : (w : ℕ) (s : List (List Bool)) → IsSpread w s → IsReduced w s
reduced_from_spread w s h = reduced_is_least w s h.ascending h.networks h.none h.apart

pub spread_from_reduced : (w : ℕ) (s : List (List Bool)) → IsReduced w s → IsSpread w s
spread_from_reduced w s h = record {
  ascending = h.ascending;
  networks = λ p c. ((h.members p).0 c).within;
  none = λ q c d.
      let lower = (h.members (q ++ false ∷ [])).0 c in
      let whole = full_from_halves w s q (omega (arith, lower.within, length_half q false))
      (key_full w s (q ++ false ∷ []) c) (key_full w s (q ++ true ∷ []) d) in
      elim lower.widest [
        | inl e ↦ omega (arith, ap length e, length_half q false)
        | inr n ↦ n (subst (λ p. (a : List Bool) → length a ≡ w → BeginsWith a p → Covers s a)
            (sym (parent_half q false)) whole)
      ];
  apart = λ p q c d b. one_member w s q p q ((h.members p).0 c) ((h.members q).0 d) b (begins_itself q);
}

pub spread_front : (w : ℕ) (s t : List (List Bool)) → IsSpread w (s ++ t) → IsSpread w s
spread_front w s t h =
    let more : (p : List Bool) → Contains s p → Contains (s ++ t) p = λ p. Contains-append_left s t p in
    record {
      ascending = sorted_front s t h.ascending;
      networks = λ p c. h.networks p (more p c);
      none = λ q c d. h.none q (more (q ++ false ∷ []) c) (more (q ++ true ∷ []) d);
      apart = λ p q c d. h.apart p q (more p c) (more q d);
    }

pub last_behind : (s : List (List Bool)) (v : List Bool) → IsStrictlySortedBy bit_cmp (s ++ v ∷ []) → AreBefore s v
last_behind s v h r c = All-contains (λ z. bit_cmp z v ≡ Less) s r (All-before_last bit_cmp s v h) c

-- ---- the last of a list
last_of : (s : List (List Bool)) (x : List Bool) → Contains s x
    → (t : List (List Bool)) × (u : List Bool) × (s ≡ t ++ u ∷ [])
last_of [] x c = absurd (omega (arith, c.1))
last_of (p ∷ []) x c = ([], p, refl)
last_of (p ∷ q ∷ s) x c =
    let l = last_of (q ∷ s) q (contains_first q s) in
    (p ∷ l.0, l.1, ap (λ t. p ∷ t) l.2)

same_length_front : (s t : List (List Bool)) (u v : List Bool) → s ++ u ∷ [] ≡ t ++ v ∷ [] → length t ≡ length s
same_length_front s t u v e = omega (arith, ap length e, length_push s u, length_push t v)

same_front : (s t : List (List Bool)) (u v : List Bool) → s ++ u ∷ [] ≡ t ++ v ∷ [] → s ≡ t
same_front s t u v e =
    sym (take_at s (u ∷ []) (length s) refl) ∙ ap (take (length s)) e
    ∙ take_at t (v ∷ []) (length s) (same_length_front s t u v e)

same_last : (s t : List (List Bool)) (u v : List Bool) → s ++ u ∷ [] ≡ t ++ v ∷ [] → u ≡ v
same_last s t u v e =
    sym (get_or_at s u [] [] (length s) refl) ∙ ap (λ x. get_or x (length s) []) e
    ∙ get_or_at t v [] [] (length s) (same_length_front s t u v e)

-- ---- a network behind others that don't hold it
module _ (w : ℕ) (s : List (List Bool)) (v : List Bool) (h : IsSpread w s) (before : AreBefore s v)
    (free : ¬ (Covers s v)) where
  push_apart : HoldNoOther (s ++ v ∷ [])
  push_apart p q c d b = elim (Contains-push_cases s v p c) [
    | inl e ↦ elim (Contains-push_cases s v q d) [
      | inl f ↦ h.apart p q e f b
      | inr f ↦ absurd (free (p, e, subst (λ x. BeginsWith x p) (sym f) b))
    ]
    | inr e ↦ elim (Contains-push_cases s v q d) [
      | inl f ↦ absurd (not_before q v (subst (BeginsWith q) (sym e) b) (before q f))
      | inr f ↦ sym e ∙ f
    ]
  ]

  -- it is no half with the last, so with none
  push_none : ((t : List (List Bool)) (u : List Bool) → s ≡ t ++ u ∷ [] → ¬ (AreHalvesInOrder u v))
      → HaveNoHalves (s ++ v ∷ [])
  push_none end q c d =
      let lower = q ++ false ∷ [] in
      let upper = q ++ true ∷ [] in
      elim (Contains-push_cases s v lower c) [
        | inl a ↦ elim (Contains-push_cases s v upper d) [
          | inl b ↦ h.none q a b
          | inr e ↦
              let l = last_of s lower a in
              let last : Contains s l.1 = subst (λ x. Contains x l.1) (sym l.2) (Contains-push l.0 l.1) in
              elim (Contains-push_cases l.0 l.1 lower (subst (λ x. Contains x lower) l.2 a)) [
                | inl b ↦
                    let low = last_behind l.0 l.1 (subst (IsStrictlySortedBy bit_cmp) l.2 h.ascending) lower b in
                    let high = subst (λ x. bit_cmp l.1 x ≡ Less) e (before l.1 last) in
                    let same = h.apart lower l.1 a last (between_halves q l.1 low high) in
                    less_not_itself lower (subst (λ x. bit_cmp lower x ≡ Less) (sym same) low)
                | inr f ↦ end l.0 l.1 l.2 (q, f, e)
              ]
        ]
        | inr e ↦ elim (Contains-push_cases s v upper d) [
          | inl b ↦ not_both lower upper (lower_less q) (subst (λ x. bit_cmp upper x ≡ Less) e (before upper b))
          | inr f ↦ less_not_itself lower (subst (λ x. bit_cmp lower x ≡ Less) (sym f ∙ e) (lower_less q))
        ]
      ]

  pub spread_push : length v ≤ w → ((t : List (List Bool)) (u : List Bool) → s ≡ t ++ u ∷ [] → ¬ (AreHalvesInOrder u v))
      → IsSpread w (s ++ v ∷ [])
  spread_push within end = record {
    ascending = sorted_push s v h.ascending before;
    networks = λ p c. elim (Contains-push_cases s v p c) [
      | inl d ↦ h.networks p d
      | inr e ↦ subst (λ x. length x ≤ w) e within
    ];
    none = push_none end;
    apart = push_apart;
  }

module _ (w : ℕ) (s : List (List Bool)) (o : IsPushed w s) where
  pub closed : ((t : List (List Bool)) (u : List Bool) → o.front ≡ t ++ u ∷ [] → ¬ (AreHalvesInOrder u o.top)) → IsReduced w s
  closed end =
      let h = spread_push w o.front o.top (spread_from_reduced w o.front o.reduced) o.before o.apart o.within end in
      subst (IsReduced w) (sym o.whole) (reduced_from_spread w (o.front ++ o.top ∷ []) h)

  pub closed_alone : length s < 2 → IsReduced w s
  closed_alone few = closed (λ t u e h. omega
      (arith, few, ap length o.whole, length_push o.front o.top, ap length e, length_push t u))

  module _ (t : List (List Bool)) (u v : List Bool) (ends : s ≡ (t ++ u ∷ []) ++ v ∷ []) where
    front_is : o.front ≡ t ++ u ∷ []
    front_is = same_front o.front (t ++ u ∷ []) o.top v (sym o.whole ∙ ends)

    top_is : o.top ≡ v
    top_is = same_last o.front (t ++ u ∷ []) o.top v (sym o.whole ∙ ends)

    -- the last two are in order
    pub last_two : bit_cmp u v ≡ Less
    last_two = subst (λ x. bit_cmp u x ≡ Less) top_is
        (o.before u (subst (λ x. Contains x u) (sym front_is) (Contains-push t u)))

    pub closed_apart : ¬ (AreHalvesInOrder u v) → IsReduced w s
    closed_apart n = closed (λ t' u' e h.
        let k : u' ≡ u = same_last t' t u' u (sym e ∙ front_is) in
        n (h.0, sym k ∙ h.1, sym top_is ∙ h.2))

    -- the network of the last two in their place
    module _ (q : List Bool) (first : u ≡ q ++ false ∷ []) (second : v ≡ q ++ true ∷ []) where
      two : IsSpread w (t ++ u ∷ [])
      two = subst (IsSpread w) front_is (spread_from_reduced w o.front o.reduced)

      within : length q < w
      within = omega (arith, o.within, ap length top_is, ap length second, length_half q true)

      not_lower : (r : List Bool) → Contains t r → ¬ (BeginsWith (q ++ false ∷ []) r)
      not_lower r c b =
          let same = two.apart r u (Contains-append_left t (u ∷ []) r c) (Contains-push t u)
          (subst (λ x. BeginsWith x r) (sym first) b) in
          less_not_itself u (subst (λ x. bit_cmp x u ≡ Less) same (last_behind t u two.ascending r c))

      pub merged_pushed : IsPushed w (t ++ q ∷ [])
      merged_pushed = record {
        front = t;
        top = q;
        whole = refl;
        reduced = reduced_from_spread w t (spread_front w t (u ∷ []) two);
        before = λ r c. before_whole r q (subst (λ x. bit_cmp r x ≡ Less) first (last_behind t u two.ascending r c))
            (not_lower r c);
        apart = λ c. not_lower c.0 c.1 (begins_begins (q ++ false ∷ []) q c.0 (half_begins q false) c.2);
        within = omega (arith, within);
      }

      pub merged_covers : CoverSame w (t ++ q ∷ []) s
      merged_covers = subst (CoverSame w (t ++ q ∷ [])) (sym (rw (← first, ← second) ends)) (merge_covers w t q within)

      pub merged_before : (k : List Bool) → AreBefore s k → AreBefore (t ++ q ∷ []) k
      merged_before k h r c = elim (Contains-push_cases t q r c) [
        | inl d ↦ h r (subst (λ x. Contains x r) (sym ends)
            (Contains-append_left (t ++ u ∷ []) (v ∷ []) r (Contains-append_left t (u ∷ []) r d)))
        | inr e ↦
            let n : bit_cmp v k ≡ Less = h v (subst (λ x. Contains x v) (sym ends) (Contains-push (t ++ u ∷ []) v)) in
            subst (λ x. bit_cmp x k ≡ Less) e (whole_less q k true (subst (λ x. bit_cmp x k ≡ Less) second n))
      ]

-- only the last can hold a key that is behind them all
pub top_holds : (w : ℕ) (s : List (List Bool)) (t k : List Bool) → IsReduced w (s ++ t ∷ []) → bit_cmp t k ≡ Less
    → Covers (s ++ t ∷ []) k → BeginsWith k t
top_holds w s t k h less c =
    let spread = spread_from_reduced w (s ++ t ∷ []) h in
    elim (Contains-push_cases s t c.0 c.1) [
      | inl d ↦
          let b = between c.0 t k c.2 (last_behind s t h.ascending c.0 d) less in
          subst (BeginsWith k) (spread.apart c.0 t c.1 (Contains-push s t) b) c.2
      | inr e ↦ subst (BeginsWith k) (sym e) c.2
    ]
