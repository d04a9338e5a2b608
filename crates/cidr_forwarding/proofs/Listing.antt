-- The rows that are listed of two forwardings are their differences.
use Rattle.std.proofs.Common.{append_assoc, append-nil, ◌≡◌, ◌≢◌, ◌⊎◌, ◌&&◌, ℕ, zero, suc, Bool, true, false, cond, List, [], ◌∷◌, ◌++◌, length, take, Option, Some, None, refl, sym, ap, ap₂, ◌∙◌, subst, arith, inl, inr, true≢false}
use Rattle.std.proofs.Math.Seq.{take-append_seam}
use Rattle.std.specs.Bool.{Decides}
use Rattle.std.specs.List.{Contains}
use Rattle.cidr.specs.model.Network.{BeginsWith}
use Rattle.cidr_table.proofs.MapLaws.{contains_first, contains_cases, contains_nothing}
use Rattle.cidr_forwarding.specs.Forwarding.{in_bits}
use Rattle.cidr_forwarding.specs.Plans.{behind}
use Rattle.cidr_forwarding.proofs.Placing.{in_bits_push, behind_halves}
use Rattle.cidr_forwarding.proofs.Final.{length_bits_of}
use Rattle.cidr_forwarding.specs.Trees.{under, Region, Even, Halves, IsOfHalves, OfHalves, OfEven, AllFitWidth, with_all, paired, shared_values, sole_values, listed, differing}
use Rattle.std.proofs.lemmas.List.Elements.{Contains-append_cases}
use Rattle.cidr_forwarding.proofs.RowParts.{below_halves_false, below_halves_true}
use Rattle.cidr_forwarding.proofs.Looking.{begins_nothing, begins_bit, begins_longer, in_half, from_half}
use Rattle.cidr_forwarding.proofs.Regions.{at, Fits}
use Rattle.cidr_forwarding.proofs.Shapes.{AreIp}
use Rattle.cidr_forwarding.proofs.Order.{Ascend, no_keys, row_before, ascend_halves}
use Rattle.cidr_forwarding.proofs.Kept.{IsLow, IsOfFamilies, within_under, within_append, ip_append, ip_low, ip_high}
use Rattle.cidr_forwarding.proofs.Agreement.{both_true, true_both, some_address}

-- ---- both forwardings as one
module _ {X : Type 0} where
  at_with : (x : X) (u : Region X) (a : List Bool) → at (with_all x u) a ≡ (x, at u a)
  at_with x (Even y) a = refl
  at_with x (Halves k s) [] = at_with x k []
  at_with x (Halves k s) (false ∷ a) = at_with x k a
  at_with x (Halves k s) (true ∷ a) = at_with x s a

  pub at_paired : (t u : Region X) (a : List Bool) → at (paired t u) a ≡ (at t a, at u a)
  at_paired (Even x) u a = at_with x u a
  at_paired (Halves l r) (Even y) [] = at_paired l (Even y) []
  at_paired (Halves l r) (Even y) (false ∷ a) = at_paired l (Even y) a
  at_paired (Halves l r) (Even y) (true ∷ a) = at_paired r (Even y) a
  at_paired (Halves l r) (Halves k s) [] = at_paired l k []
  at_paired (Halves l r) (Halves k s) (false ∷ a) = at_paired l k a
  at_paired (Halves l r) (Halves k s) (true ∷ a) = at_paired r s a

  fits_with : (x : X) (u : Region X) (IsAddress : List Bool → Type 0) → Fits u IsAddress → Fits (with_all x u) IsAddress
  fits_with x (Even y) IsAddress f = f
  fits_with x (Halves k s) IsAddress f = (f.0, fits_with x k (λ a. IsAddress (false ∷ a)) f.1, fits_with x s (λ a. IsAddress (true ∷ a)) f.2)

  pub fits_paired : (t u : Region X) (IsAddress : List Bool → Type 0) → Fits t IsAddress → Fits u IsAddress → Fits (paired t u) IsAddress
  fits_paired (Even x) u IsAddress f g = fits_with x u IsAddress g
  fits_paired (Halves l r) (Even y) IsAddress f g = (
    f.0,
    fits_paired l (Even y) (λ a. IsAddress (false ∷ a)) f.1 (some_address l (λ a. IsAddress (false ∷ a)) f.1),
    fits_paired r (Even y) (λ a. IsAddress (true ∷ a)) f.2 (some_address r (λ a. IsAddress (true ∷ a)) f.2),
  )
  fits_paired (Halves l r) (Halves k s) IsAddress f g = (
    f.0,
    fits_paired l k (λ a. IsAddress (false ∷ a)) f.1 g.1,
    fits_paired r s (λ a. IsAddress (true ∷ a)) f.2 g.2,
  )

  low_with : (w : ℕ) (x : X) (u : Region X) → IsLow w u → IsLow w (with_all x u)
  low_with w x (Even y) h = tt
  low_with zero x (Halves k s) h = h
  low_with (suc w) x (Halves k s) h = (low_with w x k h.0, low_with w x s h.1)

  pub low_paired : (w : ℕ) (t u : Region X) → IsLow w t → IsLow w u → IsLow w (paired t u)
  low_paired w (Even x) u h k = low_with w x u k
  low_paired zero (Halves l r) (Even y) h k = h
  low_paired zero (Halves l r) (Halves p s) h k = h
  low_paired (suc w) (Halves l r) (Even y) h k = (low_paired w l (Even y) h.0 tt, low_paired w r (Even y) h.1 tt)
  low_paired (suc w) (Halves l r) (Halves p s) h k = (low_paired w l p h.0 k.0, low_paired w r s h.1 k.1)

  pub families_paired : (t u : Region X) → IsOfFamilies t → IsOfFamilies u → IsOfFamilies (paired t u)
  families_paired (Even x) (Even y) h k = tt
  families_paired (Even x) (Halves p s) h k = (low_with 32 x p k.0, low_with 128 x s k.1)
  families_paired (Halves l r) (Even y) h k = (low_paired 32 l (Even y) h.0 tt, low_paired 128 r (Even y) h.1 tt)
  families_paired (Halves l r) (Halves p s) h k = (low_paired 32 l p h.0 k.0, low_paired 128 r s h.1 k.1)

module _ {X : Type 0} {t l r u k s : Region X} where
  pub paired_halves : IsOfHalves t l r → IsOfHalves u k s → IsOfHalves (paired t u) (paired l k) (paired r s)
  paired_halves (OfHalves e) (OfHalves f) = OfHalves (ap₂ paired e f)
  paired_halves (OfHalves e) (OfEven y f g h) = OfHalves (ap₂ paired e f ∙ ap₂ Halves (ap (paired l) (sym g)) (ap (paired r) (sym h)))
  paired_halves (OfEven x e g h) (OfHalves f) = OfHalves (ap₂ paired e f ∙ ap₂ Halves (ap (λ q. paired q k) (sym g)) (ap (λ q. paired q s) (sym h)))
  paired_halves (OfEven x e g h) (OfEven y f i j) = OfEven (x, y) (ap₂ paired e f) (ap₂ paired g i) (ap₂ paired h j)

-- ---- rows of both halves
module _ {X : Type 0} where
  not_under : (b : Bool) (rows : List (List Bool × X)) (x : X) → Contains (under b rows) ([], x) → ⊥
  not_under b [] x m = contains_nothing ([], x) m
  not_under b (r ∷ rows) x m = elim (contains_cases (b ∷ r.0, r.1) ([], x) (under b rows) m) [
    | inl e ↦ let f : b ∷ r.0 ≡ [] = ap (λ (s : List Bool × X). s.0) e in absurd (cc)
    | inr k ↦ not_under b rows x k
  ]

  module _ (lows highs : List (List Bool × X)) where
    no_root : (x : X) → Contains (under false lows ++ under true highs) ([], x) → ⊥
    no_root x m = elim (Contains-append_cases (under false lows) (under true highs) ([], x) m) [
      | inl k ↦ not_under false lows x k
      | inr k ↦ not_under true highs x k
    ]

    -- a row of both is one of the lower or of the upper half
    of_halves : (p : List Bool) (x : X) → Contains (under false lows ++ under true highs) (p, x)
        → ((q : List Bool) × (p ≡ false ∷ q) × Contains lows (q, x)) ⊎ ((q : List Bool) × (p ≡ true ∷ q) × Contains highs (q, x))
    of_halves [] x m = absurd (no_root x m)
    of_halves (false ∷ q) x m =
        inl (q, refl, subst (λ l. Contains l (q, x)) (below_halves_false lows highs) (in_half false (under false lows ++ under true highs) q x m))
    of_halves (true ∷ q) x m =
        inr (q, refl, subst (λ l. Contains l (q, x)) (below_halves_true lows highs) (in_half true (under false lows ++ under true highs) q x m))

    in_lower : (p : List Bool) (x : X) → Contains lows (p, x) → Contains (under false lows ++ under true highs) (false ∷ p, x)
    in_lower p x m = from_half false (under false lows ++ under true highs) (p, x) (subst (λ l. Contains l (p, x)) (sym (below_halves_false lows highs)) m)

    in_upper : (p : List Bool) (x : X) → Contains highs (p, x) → Contains (under false lows ++ under true highs) (true ∷ p, x)
    in_upper p x m = from_half true (under false lows ++ under true highs) (p, x) (subst (λ l. Contains l (p, x)) (sym (below_halves_true lows highs)) m)

-- an address of a network in a half
begins_half : (b : Bool) (a q : List Bool) → BeginsWith a (b ∷ q) → (s : List Bool) × (a ≡ b ∷ s) × BeginsWith s q
begins_half b [] q h = let f : b ∷ q ≡ [] = begins_nothing (b ∷ q) h in absurd (cc)
begins_half b (d ∷ a) q h = let k = begins_bit d a b q h in (a, ap (λ e. e ∷ a) (sym k.0), k.1)

-- ---- the rows of a network
module _ {X : Type 0} (same : X → X → Bool) (decides : (x y : X) → Decides (same x y) (x ≡ y)) where
  shared_is : (low high : Option (X × X)) (x : X × X) → shared_values same low high ≡ Some x → (low ≡ Some x) × (high ≡ Some x)
  shared_is None high x h = absurd (cc)
  shared_is (Some y) None x h = absurd (cc)
  shared_is (Some y) (Some z) x h = elim (same y.0 z.0 && same y.1 z.1) as (λ b. same y.0 z.0 && same y.1 z.1 ≡ b
      → cond b (Some y) None ≡ Some x → (Some y ≡ Some x) × (Some z ≡ Some x)) [
        | true ↦ λ e k.
            let s = both_true (same y.0 z.0) (same y.1 z.1) e in
            let i : y ≡ z = ap₂ (λ c d. (c, d)) ((decides y.0 z.0).0 s.0) ((decides y.1 z.1).0 s.1) in
            (k, ap Some (sym i) ∙ k)
        | false ↦ λ e k. absurd (cc)
      ] refl h

  shared_both : (x : X × X) → shared_values same (Some x) (Some x) ≡ Some x
  shared_both x = ap (λ b. cond b (Some x) None)
      (true_both (same x.0 x.0) (same x.1 x.1) ((decides x.0 x.0).1 refl) ((decides x.1 x.1).1 refl))

  sole_at : (q : Region (X × X)) (x : X × X) → sole_values same q ≡ Some x → (a : List Bool) → at q a ≡ x
  sole_at (Even y) x h a = some_is y x h
    where
      some_is : (y x : X × X) → Some y ≡ Some x → y ≡ x
      some_is y x e = cc
  sole_at (Halves l r) x h [] = sole_at l x ((shared_is (sole_values same l) (sole_values same r) x h).0) []
  sole_at (Halves l r) x h (false ∷ a) = sole_at l x ((shared_is (sole_values same l) (sole_values same r) x h).0) a
  sole_at (Halves l r) x h (true ∷ a) = sole_at r x ((shared_is (sole_values same l) (sole_values same r) x h).1) a

  sole_from : (q : Region (X × X)) (IsAddress : List Bool → Type 0) → Fits q IsAddress → (x : X × X) → ((a : List Bool) → IsAddress a → at q a ≡ x)
      → sole_values same q ≡ Some x
  sole_from (Even y) IsAddress fits x h = ap Some (h fits.0 fits.1)
  sole_from (Halves l r) IsAddress fits x h =
      ap₂ (shared_values same) (sole_from l (λ a. IsAddress (false ∷ a)) fits.1 x (λ a m. h (false ∷ a) m))
      (sole_from r (λ a. IsAddress (true ∷ a)) fits.2 x (λ a m. h (true ∷ a) m))
      ∙ shared_both x

  -- one row, where the values differ
  of_one : (x : X × X) (p : List Bool) (y : X × X) → Contains (listed same (Some x) []) (p, y) → (p ≡ []) × (x ≡ y) × (y.0 ≢ y.1)
  of_one x p y m = elim (same x.0 x.1) as (λ b. same x.0 x.1 ≡ b → Contains {X = List Bool × (X × X)} (cond b [] (([], x) ∷ [])) (p, y) → (p ≡ []) × (x ≡ y) × (y.0 ≢ y.1)) [
    | true ↦ λ e k. absurd (contains_nothing (p, y) k)
    | false ↦ λ e k. elim (contains_cases ([], x) (p, y) [] k) [
      | inl f ↦
          let g : x ≡ y = ap (λ (s : List Bool × (X × X)). s.1) f in (
            sym (ap (λ (s : List Bool × (X × X)). s.0) f),
            g,
            λ n. true≢false (sym ((decides x.0 x.1).1 (ap (λ (s : X × X). s.0) g ∙ n ∙ sym (ap (λ (s : X × X). s.1) g))) ∙ e),
          )
      | inr n ↦ absurd (contains_nothing (p, y) n)
    ]
  ] refl m

  one_is : (x : X × X) → x.0 ≢ x.1 → Contains (listed same (Some x) []) ([], x)
  one_is x n = elim (same x.0 x.1) as (λ b. same x.0 x.1 ≡ b → Contains {X = List Bool × (X × X)} (cond b [] (([], x) ∷ [])) ([], x)) [
    | true ↦ λ e. absurd (n ((decides x.0 x.1).0 e))
    | false ↦ λ e. contains_first ([], x) []
  ] refl

  -- a row is that of a network with one value in each, or one of a half
  pub data IsListed (l r : Region (X × X)) (p : List Bool) (x : X × X) : Type 0 where
    Whole : sole_values same (Halves l r) ≡ Some x → p ≡ [] → x.0 ≢ x.1 → IsListed l r p x
    Low : sole_values same (Halves l r) ≡ None → (q : List Bool) → p ≡ false ∷ q → Contains (differing same l) (q, x) → IsListed l r p x
    High : sole_values same (Halves l r) ≡ None → (q : List Bool) → p ≡ true ∷ q → Contains (differing same r) (q, x) → IsListed l r p x

  listed_cases : (l r : Region (X × X)) (p : List Bool) (x : X × X) → Contains (differing same (Halves l r)) (p, x) → IsListed l r p x
  listed_cases l r p x m = elim (sole_values same (Halves l r)) as (λ o. sole_values same (Halves l r) ≡ o
      → Contains (listed same o (under false (differing same l) ++ under true (differing same r))) (p, x) → IsListed l r p x) [
        | None ↦ λ e k. elim (of_halves (differing same l) (differing same r) p x k) [
          | inl h ↦ Low e h.0 h.1 h.2
          | inr h ↦ High e h.0 h.1 h.2
        ]
        | Some y ↦ λ e k. let h = of_one y p x k in Whole (e ∙ ap Some h.1) h.0 h.2
      ] refl m

  pub sound : (q : Region (X × X)) (p : List Bool) (x : X × X) → Contains (differing same q) (p, x)
      → (x.0 ≢ x.1) × ((a : List Bool) → BeginsWith a p → at q a ≡ x)
  sound (Even y) p x m = let h = of_one y p x m in (h.2, λ a b. h.1)
  sound (Halves l r) p x m = elim (listed_cases l r p x m) [
    | Whole e f n ↦ (n, λ a b. sole_at (Halves l r) x e a)
    | Low e q f k ↦
        let h = sound l q x k in
        (h.0, λ a b. let s = begins_half false a q (subst (BeginsWith a) f b) in ap (at (Halves l r)) s.1 ∙ h.1 s.0 s.2)
    | High e q f k ↦
        let h = sound r q x k in
        (h.0, λ a b. let s = begins_half true a q (subst (BeginsWith a) f b) in ap (at (Halves l r)) s.1 ∙ h.1 s.0 s.2)
  ]

  -- the row of an address
  abbrev pub HasRow : Region (X × X) → List Bool → Type 0
  HasRow q a = (p : List Bool) × BeginsWith a p × Contains (differing same q) (p, at q a)

  row_sole : (l r : Region (X × X)) (a : List Bool) (x : X × X) → sole_values same (Halves l r) ≡ Some x → x.0 ≢ x.1 → HasRow (Halves l r) a
  row_sole l r a x e n = (
    [],
    refl,
    subst (λ y. Contains (differing same (Halves l r)) ([], y)) (sym (sole_at (Halves l r) x e a))
        (subst (λ o. Contains (listed same o (under false (differing same l) ++ under true (differing same r))) ([], x)) (sym e) (one_is x n)),
  )

  row_half : (l r : Region (X × X)) → sole_values same (Halves l r) ≡ None → (p : List Bool) (x : X × X)
      → Contains (under false (differing same l) ++ under true (differing same r)) (p, x) → Contains (differing same (Halves l r)) (p, x)
  row_half l r e p x m = subst (λ o. Contains (listed same o (under false (differing same l) ++ under true (differing same r))) (p, x)) (sym e) m

  pub complete : (q : Region (X × X)) (IsAddress : List Bool → Type 0) → Fits q IsAddress → (a : List Bool) → IsAddress a → (at q a).0 ≢ (at q a).1 → HasRow q a
  complete (Even x) IsAddress fits a m n = ([], refl, one_is x n)
  complete (Halves l r) IsAddress fits [] m n = absurd (fits.0 m)
  complete (Halves l r) IsAddress fits (false ∷ a) m n = elim (sole_values same (Halves l r)) as (λ o. sole_values same (Halves l r) ≡ o → HasRow (Halves l r) (false ∷ a)) [
    | None ↦ λ e.
        let h = complete l (λ s. IsAddress (false ∷ s)) fits.1 a m n in (
          false ∷ h.0,
          begins_longer false a h.0 h.1,
          row_half l r e (false ∷ h.0) (at l a)
              (in_lower (differing same l) (differing same r) h.0 (at l a) h.2),
        )
    | Some x ↦ λ e. row_sole l r (false ∷ a) x e (subst (λ (y : X × X). y.0 ≢ y.1) (sole_at (Halves l r) x e (false ∷ a)) n)
  ] refl
  complete (Halves l r) IsAddress fits (true ∷ a) m n = elim (sole_values same (Halves l r)) as (λ o. sole_values same (Halves l r) ≡ o → HasRow (Halves l r) (true ∷ a)) [
    | None ↦ λ e.
        let h = complete r (λ s. IsAddress (true ∷ s)) fits.2 a m n in (
          true ∷ h.0,
          begins_longer true a h.0 h.1,
          row_half l r e (true ∷ h.0) (at r a)
              (in_upper (differing same l) (differing same r) h.0 (at r a) h.2),
        )
    | Some x ↦ λ e. row_sole l r (true ∷ a) x e (subst (λ (y : X × X). y.0 ≢ y.1) (sole_at (Halves l r) x e (true ∷ a)) n)
  ] refl

  not_nothing : (p : List Bool) (b : Bool) → p ++ b ∷ [] ≡ [] → ⊥
  not_nothing [] b e = cc
  not_nothing (d ∷ p) b e = cc

  tail_same : (b d : Bool) (p q : List Bool) → b ∷ p ≡ d ∷ q → (b ≡ d) × (p ≡ q)
  tail_same b d p q e = (cc, cc)

  some_none : (x : X × X) → Some x ≡ None → ⊥
  some_none x e = cc

  -- an address is in one row
  pub apart : (q : Region (X × X)) (p r : List Bool) (x y : X × X) → Contains (differing same q) (p, x) → Contains (differing same q) (r, y)
      → (a : List Bool) → BeginsWith a p → BeginsWith a r → p ≡ r
  apart (Even z) p r x y m n a h k = ((of_one z p x m).0) ∙ sym ((of_one z r y n).0)
  apart (Halves l s) p r x y m n a h k = elim (listed_cases l s p x m) [
    | Whole e f d ↦ elim (listed_cases l s r y n) [
      | Whole e' f' d' ↦ f ∙ sym f'
      | Low e' q' f' i' ↦ absurd (some_none x (sym e ∙ e'))
      | High e' q' f' i' ↦ absurd (some_none x (sym e ∙ e'))
    ]
    | Low e q f i ↦ elim (listed_cases l s r y n) [
      | Whole e' f' d' ↦ absurd (some_none y (sym e' ∙ e))
      | Low e' q' f' i' ↦
          let c = begins_half false a q (subst (BeginsWith a) f h) in
          let d = begins_half false a q' (subst (BeginsWith a) f' k) in
          let t = tail_same false false c.0 d.0 (sym c.1 ∙ d.1) in
          f ∙ ap (λ z. false ∷ z) (apart l q q' x y i i' c.0 c.2 (subst (λ z. BeginsWith z q') (sym t.1) d.2)) ∙ sym f'
      | High e' q' f' i' ↦
          let c = begins_half false a q (subst (BeginsWith a) f h) in
          let d = begins_half true a q' (subst (BeginsWith a) f' k) in
          absurd (true≢false (sym ((tail_same false true c.0 d.0 (sym c.1 ∙ d.1)).0)))
    ]
    | High e q f i ↦ elim (listed_cases l s r y n) [
      | Whole e' f' d' ↦ absurd (some_none y (sym e' ∙ e))
      | Low e' q' f' i' ↦
          let c = begins_half true a q (subst (BeginsWith a) f h) in
          let d = begins_half false a q' (subst (BeginsWith a) f' k) in
          absurd (true≢false ((tail_same true false c.0 d.0 (sym c.1 ∙ d.1)).0))
      | High e' q' f' i' ↦
          let c = begins_half true a q (subst (BeginsWith a) f h) in
          let d = begins_half true a q' (subst (BeginsWith a) f' k) in
          let t = tail_same true true c.0 d.0 (sym c.1 ∙ d.1) in
          f ∙ ap (λ z. true ∷ z) (apart s q q' x y i i' c.0 c.2 (subst (λ z. BeginsWith z q') (sym t.1) d.2)) ∙ sym f'
    ]
  ]

  -- the network of one bit less has not one value in each
  pub largest : (q : Region (X × X)) (IsAddress : List Bool → Type 0) → Fits q IsAddress → (p : List Bool) (b : Bool) (x : X × X)
      → Contains (differing same q) (p ++ b ∷ [], x) → ((a : List Bool) → IsAddress a → BeginsWith a p → at q a ≡ x) → ⊥
  largest (Even y) IsAddress fits p b x m h = not_nothing p b ((of_one y (p ++ b ∷ []) x m).0)
  largest (Halves l r) IsAddress fits [] b x m h =
      let s : sole_values same (Halves l r) ≡ Some x = sole_from (Halves l r) IsAddress fits x (λ a i. h a i refl) in
      elim (listed_cases l r (b ∷ []) x m) [
        | Whole e f n ↦ not_nothing [] b f
        | Low e q f k ↦ none_some (sym e ∙ s)
        | High e q f k ↦ none_some (sym e ∙ s)
      ]
    where
      none_some : {y : X × X} → None ≡ Some y → ⊥
      none_some e = cc
  largest (Halves l r) IsAddress fits (d ∷ p) b x m h = elim (listed_cases l r (d ∷ (p ++ b ∷ [])) x m) [
    | Whole e f n ↦ not_nothing (d ∷ p) b f
    | Low e q f k ↦
        let t = tail_same d false (p ++ b ∷ []) q f in
        largest l (λ a. IsAddress (false ∷ a)) fits.1 p b x (subst (λ s. Contains (differing same l) (s, x)) (sym t.1) k)
        (λ a i g. h (false ∷ a) i (subst (λ c. BeginsWith (false ∷ a) (c ∷ p)) (sym t.0) (begins_longer false a p g)))
    | High e q f k ↦
        let t = tail_same d true (p ++ b ∷ []) q f in
        largest r (λ a. IsAddress (true ∷ a)) fits.2 p b x (subst (λ s. Contains (differing same r) (s, x)) (sym t.1) k)
        (λ a i g. h (true ∷ a) i (subst (λ c. BeginsWith (true ∷ a) (c ∷ p)) (sym t.0) (begins_longer true a p g)))
  ]

module _ {X : Type 0} (same : X → X → Bool) where
  -- what holds of one row or none, and of the rows of the halves
  of_listed : (P : List (List Bool × (X × X)) → Type 0) (o : Option (X × X)) (inside : List (List Bool × (X × X)))
      → P [] → ((x : X × X) → P (([], x) ∷ [])) → P inside → P (listed same o inside)
  of_listed P None inside n s i = i
  of_listed P (Some x) inside n s i = elim (same x.0 x.1) as (λ b. P (cond b [] (([], x) ∷ []))) [ true ↦ n | false ↦ s x ]

  pub differing_ascends : (q : Region (X × X)) → Ascend (differing same q)
  differing_ascends (Even x) = of_listed Ascend (Some x) [] no_keys (λ y. row_before y [] tt no_keys) no_keys
  differing_ascends (Halves l r) =
      of_listed Ascend (sole_values same (Halves l r)) (under false (differing same l) ++ under true (differing same r)) no_keys (λ y. row_before y [] tt no_keys)
      (ascend_halves (differing same l) (differing same r) (differing_ascends l) (differing_ascends r))

  pub differing_within : (w : ℕ) (q : Region (X × X)) → IsLow w q → AllFitWidth w (differing same q)
  differing_within w (Even x) h = of_listed (AllFitWidth w) (Some x) [] tt (λ y. (omega arith, tt)) tt
  differing_within zero (Halves l r) h = absurd h
  differing_within (suc w) (Halves l r) h =
      of_listed (AllFitWidth (suc w)) (sole_values same (Halves l r)) (under false (differing same l) ++ under true (differing same r)) tt (λ y. (omega arith, tt))
      (within_append (suc w) (under false (differing same l)) (under true (differing same r))
      (within_under w false (differing same l) (differing_within w l h.0)) (within_under w true (differing same r) (differing_within w r h.1)))

  pub differing_ip : (q : Region (X × X)) → IsOfFamilies q → AreIp (differing same q)
  differing_ip (Even x) h = of_listed AreIp (Some x) [] tt (λ y. (tt, tt)) tt
  differing_ip (Halves l r) h =
      of_listed AreIp (sole_values same (Halves l r)) (under false (differing same l) ++ under true (differing same r)) tt (λ y. (tt, tt))
      (ip_append (under false (differing same l)) (under true (differing same r))
      (ip_low (differing same l) (differing_within 32 l h.0)) (ip_high (differing same r) (differing_within 128 r h.1)))

-- ---- as the code lists them
module _ {C X : Type 0} (bits : C → List Bool) where
  bits_taken : (n : ℕ) (rows : List (C × X)) → in_bits bits (take n rows) ≡ take n (in_bits bits rows)
  bits_taken zero [] = refl
  bits_taken zero (r ∷ rows) = refl
  bits_taken (suc n) [] = refl
  bits_taken (suc n) (r ∷ rows) = ap (λ l. (bits r.0, r.1) ∷ l) (bits_taken n rows)

  -- the rows that were there before those of both halves
  pub cut_back : (old low high cut : List (C × X)) (a b : List (List Bool × X)) → in_bits bits low ≡ in_bits bits old ++ a → in_bits bits high ≡ in_bits bits low ++ b
      → cut ≡ take (length old) high → in_bits bits cut ≡ in_bits bits old
  cut_back old low high cut a b e f c =
      ap (in_bits bits) c ∙ bits_taken (length old) high
      ∙ ap₂ take (sym (length_bits_of bits old)) (f ∙ ap (λ l. l ++ b) e ∙ append_assoc (in_bits bits old) a b)
      ∙ take-append_seam (in_bits bits old) (a ++ b)

  pub both_rows : (old low high : List (C × X)) (q lower upper : List Bool) (a b : List (List Bool × X)) → lower ≡ q ++ false ∷ [] → upper ≡ q ++ true ∷ []
      → in_bits bits low ≡ in_bits bits old ++ behind lower a → in_bits bits high ≡ in_bits bits low ++ behind upper b
      → in_bits bits high ≡ in_bits bits old ++ behind q (under false a ++ under true b)
  both_rows old low high q lower upper a b lo up e f =
      f ∙ ap (λ l. l ++ behind upper b) e ∙ append_assoc (in_bits bits old) (behind lower a) (behind upper b)
      ∙ ap (λ l. in_bits bits old ++ l) (sym (behind_halves q lower upper a b lo up))

module _ {C X : Type 0} (bits : C → List Bool) (same : X → X → Bool) where
  pub listed_row : (old new : List (C × (X × X))) (network : C) (x : X × X) → new ≡ old ++ cond (same x.0 x.1) [] ((network, x) ∷ [])
      → in_bits bits new ≡ in_bits bits old ++ behind (bits network) (listed same (Some x) [])
  listed_row old new network x e = ap (in_bits bits) e ∙ by (same x.0 x.1)
    where
      by : (b : Bool) → in_bits bits (old ++ cond b [] ((network, x) ∷ [])) ≡ in_bits bits old ++ behind (bits network) (cond b [] (([], x) ∷ []))
      by true = ap (in_bits bits) (append-nil old) ∙ sym (append-nil (in_bits bits old))
      by false = in_bits_push bits old (network, x) ∙ ap (λ p. in_bits bits old ++ (p, x) ∷ []) (sym (append-nil (bits network)))

module _ {X : Type 0} (same : X → X → Bool) (decides : (x y : X) → Decides (same x y) (x ≡ y)) {q l r : Region (X × X)} where
  sole_halves : IsOfHalves q l r → sole_values same q ≡ shared_values same (sole_values same l) (sole_values same r)
  sole_halves (OfHalves e) = ap (sole_values same) e
  sole_halves (OfEven x e f g) =
      ap (sole_values same) e ∙ sym (shared_both same decides x) ∙ ap₂ (shared_values same) (ap (sole_values same) (sym f)) (ap (sole_values same) (sym g))

  pub sole_told : {low high both : Option (X × X)} → IsOfHalves q l r → low ≡ sole_values same l → high ≡ sole_values same r → shared_values same low high ≡ both → sole_values same q ≡ both
  sole_told h a b e = sole_halves h ∙ ap₂ (shared_values same) (sym a) (sym b) ∙ e

  pub rows_apart : IsOfHalves q l r → sole_values same q ≡ None → differing same q ≡ under false (differing same l) ++ under true (differing same r)
  rows_apart (OfHalves e) n =
      ap (differing same) e
      ∙ ap (λ o. listed same o (under false (differing same l) ++ under true (differing same r))) (sym (ap (sole_values same) e) ∙ n)
  rows_apart (OfEven x e f g) n = let h : Some x ≡ None = sym (ap (sole_values same) e) ∙ n in absurd (cc)

  pub rows_sole : (x : X × X) → IsOfHalves q l r → sole_values same q ≡ Some x → differing same q ≡ listed same (Some x) []
  rows_sole x (OfHalves e) n =
      ap (differing same) e
      ∙ ap (λ o. listed same o (under false (differing same l) ++ under true (differing same r))) (sym (ap (sole_values same) e) ∙ n)
  rows_sole x (OfEven y e f g) n =
      let h : Some y ≡ Some x = sym (ap (sole_values same) e) ∙ n in
      ap (differing same) e ∙ ap (λ o. listed same o []) h
