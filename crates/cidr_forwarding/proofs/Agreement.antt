-- Two forwardings agree exactly where they give each address the same value.
use Rattle.std.proofs.Common.{◌≡◌, ◌↔◌, ◌&&◌, ℕ, suc, ◌≤◌, Bool, true, false, List, [], ◌∷◌, Some, None, refl, sym, ap₂, ◌∙◌, subst, true≢false}
use Rattle.std.specs.Bool.{Decides}
use Rattle.std.specs.Option.{option_eq}
use Rattle.cidr.specs.model.Network.{HasWidth}
use Rattle.cidr_table.specs.model.CoverAddresses.{IsIpAddressBits}
use Rattle.cidr_table.specs.model.Prefixes.{IsValueLookedUp}
use Rattle.cidr_forwarding.specs.Forwarding.{in_bits, AreNetworksOf, AreIpRows, ForwardSame}
use Rattle.cidr_forwarding.specs.Trees.{Region, Even, Halves, region, IsOfHalves, OfHalves, OfEven, all_are, agree}
use Rattle.cidr_forwarding.specs.Plans.{planned, IsNode}
use Rattle.cidr_forwarding.proofs.RowParts.{forward}
use Rattle.cidr_forwarding.proofs.Regions.{at, Fits}
use Rattle.cidr_forwarding.proofs.Looking.{seen_as}
use Rattle.cidr_forwarding.proofs.Shapes.{at_region}
use Rattle.cidr_forwarding.proofs.Order.{Ascend}
use Rattle.cidr_forwarding.proofs.Smallest.{looks_up, only_value, decides_option}
use Rattle.cidr_forwarding.proofs.Calls.{rows_same, bits_same}
use Rattle.cidr_forwarding.proofs.Final.{plan_is, rows_ascend, rows_within, fits_of, fits_both}

pub both_true : (b c : Bool) → (b && c) ≡ true → (b ≡ true) × (c ≡ true)
both_true true c h = (refl, h)
both_true false c h = absurd (true≢false (sym h))

pub true_both : (b c : Bool) → b ≡ true → c ≡ true → (b && c) ≡ true
true_both true c h k = k
true_both false c h k = absurd (true≢false (sym h))

twice : (b : Bool) → b ≡ (b && b)
twice true = refl
twice false = refl

-- ---- of the halves
module _ {X : Type 0} where
  pub some_address : (t : Region X) (IsAddress : List Bool → Type 0) → Fits t IsAddress → (a : List Bool) × IsAddress a
  some_address (Even x) IsAddress fits = fits
  some_address (Halves l r) IsAddress fits =
      let s = some_address l (λ a. IsAddress (false ∷ a)) fits.1 in (false ∷ s.0, s.1)

module _ {X : Type 0} (same : X → X → Bool) {t l r u k s : Region X} where
  pub agree_halves : IsOfHalves t l r → IsOfHalves u k s → agree same t u ≡ (agree same l k && agree same r s)
  agree_halves (OfHalves e) (OfHalves f) = ap₂ (agree same) e f
  agree_halves (OfHalves e) (OfEven y f g h) = ap₂ (agree same) e f ∙ ap₂ (λ x z. agree same l x && agree same r z) (sym g) (sym h)
  agree_halves (OfEven x e g h) (OfHalves f) = ap₂ (agree same) e f ∙ ap₂ (λ y z. agree same y k && agree same z s) (sym g) (sym h)
  agree_halves (OfEven x e g h) (OfEven y f i j) =
      ap₂ (agree same) e f ∙ twice (same x y)
      ∙ ap₂ (λ a b. a && b) (ap₂ (agree same) (sym g) (sym i)) (ap₂ (agree same) (sym h) (sym j))

module _ {X : Type 0} (same : X → X → Bool) where
  -- ---- of the addresses
  module _ (decides : (x y : X) → Decides (same x y) (x ≡ y)) where
    all_at : (x : X) (u : Region X) (IsAddress : List Bool → Type 0) → Fits u IsAddress → all_are same x u ≡ true
        → (a : List Bool) → IsAddress a → x ≡ at u a
    all_at x (Even y) IsAddress fits h a m = (decides x y).0 h
    all_at x (Halves l r) IsAddress fits h [] m = absurd (fits.0 m)
    all_at x (Halves l r) IsAddress fits h (false ∷ a) m =
        all_at x l (λ s. IsAddress (false ∷ s)) fits.1 ((both_true (all_are same x l) (all_are same x r) h).0) a m
    all_at x (Halves l r) IsAddress fits h (true ∷ a) m =
        all_at x r (λ s. IsAddress (true ∷ s)) fits.2 ((both_true (all_are same x l) (all_are same x r) h).1) a m

    pub at_agreed : (t u : Region X) (IsAddress : List Bool → Type 0) → Fits t IsAddress → Fits u IsAddress → agree same t u ≡ true
        → (a : List Bool) → IsAddress a → at t a ≡ at u a
    at_agreed (Even x) u IsAddress f g h a m = all_at x u IsAddress g h a m
    at_agreed (Halves l r) u IsAddress f g h [] m = absurd (f.0 m)
    at_agreed (Halves l r) (Even y) IsAddress f g h (false ∷ a) m =
        at_agreed l (Even y) (λ s. IsAddress (false ∷ s)) f.1 (some_address l (λ s. IsAddress (false ∷ s)) f.1)
        ((both_true (agree same l (Even y)) (agree same r (Even y)) h).0) a m
    at_agreed (Halves l r) (Even y) IsAddress f g h (true ∷ a) m =
        at_agreed r (Even y) (λ s. IsAddress (true ∷ s)) f.2 (some_address r (λ s. IsAddress (true ∷ s)) f.2)
        ((both_true (agree same l (Even y)) (agree same r (Even y)) h).1) a m
    at_agreed (Halves l r) (Halves k s) IsAddress f g h (false ∷ a) m =
        at_agreed l k (λ z. IsAddress (false ∷ z)) f.1 g.1 ((both_true (agree same l k) (agree same r s) h).0) a m
    at_agreed (Halves l r) (Halves k s) IsAddress f g h (true ∷ a) m =
        at_agreed r s (λ z. IsAddress (true ∷ z)) f.2 g.2 ((both_true (agree same l k) (agree same r s) h).1) a m

    all_from : (x : X) (u : Region X) (IsAddress : List Bool → Type 0) → Fits u IsAddress
        → ((a : List Bool) → IsAddress a → x ≡ at u a) → all_are same x u ≡ true
    all_from x (Even y) IsAddress fits h = (decides x y).1 (h fits.0 fits.1)
    all_from x (Halves l r) IsAddress fits h =
        true_both (all_are same x l) (all_are same x r) (all_from x l (λ s. IsAddress (false ∷ s)) fits.1 (λ a m. h (false ∷ a) m))
        (all_from x r (λ s. IsAddress (true ∷ s)) fits.2 (λ a m. h (true ∷ a) m))

    pub agreed_from : (t u : Region X) (IsAddress : List Bool → Type 0) → Fits t IsAddress → Fits u IsAddress
        → ((a : List Bool) → IsAddress a → at t a ≡ at u a) → agree same t u ≡ true
    agreed_from (Even x) u IsAddress f g h = all_from x u IsAddress g h
    agreed_from (Halves l r) (Even y) IsAddress f g h =
        true_both (agree same l (Even y)) (agree same r (Even y))
        (agreed_from l (Even y) (λ s. IsAddress (false ∷ s)) f.1 (some_address l (λ s. IsAddress (false ∷ s)) f.1) (λ a m. h (false ∷ a) m))
        (agreed_from r (Even y) (λ s. IsAddress (true ∷ s)) f.2 (some_address r (λ s. IsAddress (true ∷ s)) f.2) (λ a m. h (true ∷ a) m))
    agreed_from (Halves l r) (Halves k s) IsAddress f g h =
        true_both (agree same l k) (agree same r s)
        (agreed_from l k (λ z. IsAddress (false ∷ z)) f.1 g.1 (λ a m. h (false ∷ a) m))
        (agreed_from r s (λ z. IsAddress (true ∷ z)) f.2 g.2 (λ a m. h (true ∷ a) m))

-- ---- the whole
module _ {V : Type 0} (IsAddress : List Bool → Type 0) (rows others : List (List Bool × V)) (ascend : Ascend rows) (ascend' : Ascend others) where
  same_from_forward : ((a : List Bool) → IsAddress a → forward None (seen_as Some rows) a ≡ forward None (seen_as Some others) a) → ForwardSame (λ p. p) IsAddress rows others
  same_from_forward h a m value = (
    λ k. subst (IsValueLookedUp (λ p. p) a others) (sym (only_value rows ascend a value k ∙ h a m)) (looks_up others a),
    λ k. subst (IsValueLookedUp (λ p. p) a rows) (sym (only_value others ascend' a value k ∙ sym (h a m))) (looks_up rows a),
  )

  forward_from_same : ForwardSame (λ p. p) IsAddress rows others → (a : List Bool) → IsAddress a → forward None (seen_as Some rows) a ≡ forward None (seen_as Some others) a
  forward_from_same h a m = only_value others ascend' a (forward None (seen_as Some rows) a) ((h a m (forward None (seen_as Some rows) a)).0 (looks_up rows a))

module _ {C V : Type 0} (bits : C → List Bool) (eq : V → V → Bool) (decides : (x y : V) → Decides (eq x y) (x ≡ y)) (rows others : List (C × V))
    (node : IsNode bits 0 rows) (node' : IsNode bits 0 others) (result : Bool)
    (told : result ≡ agree (option_eq eq) (planned bits 0 None rows) (planned bits 0 None others)) where
  module _ (u : ℕ) (u_is : u ≡ 128) (IsAddress : List Bool → Type 0) (fits : Fits (region (suc u) None (seen_as Some (in_bits bits rows))) IsAddress)
      (fits' : Fits (region (suc u) None (seen_as Some (in_bits bits others))) IsAddress) where
    told_at : result ≡ agree (option_eq eq) (region (suc u) None (seen_as Some (in_bits bits rows))) (region (suc u) None (seen_as Some (in_bits bits others)))
    told_at = told ∙ ap₂ (agree (option_eq eq)) (plan_is bits u u_is rows node) (plan_is bits u u_is others node')

    at_one : (a : List Bool) → IsAddress a → at (region (suc u) None (seen_as Some (in_bits bits rows))) a ≡ forward None (seen_as Some (in_bits bits rows)) a
    at_one a m = at_region (suc u) None (seen_as Some (in_bits bits rows)) IsAddress (rows_within bits u u_is rows node) fits a m

    at_other : (a : List Bool) → IsAddress a → at (region (suc u) None (seen_as Some (in_bits bits others))) a ≡ forward None (seen_as Some (in_bits bits others)) a
    at_other a m = at_region (suc u) None (seen_as Some (in_bits bits others)) IsAddress (rows_within bits u u_is others node') fits' a m

    decided : (result ≡ true) ↔ ForwardSame bits IsAddress rows others
    decided = (
      λ h. rows_same bits IsAddress rows others (same_from_forward IsAddress (in_bits bits rows) (in_bits bits others) (rows_ascend bits u u_is rows node) (rows_ascend bits u u_is others node')
          (λ a m. sym (at_one a m) ∙ at_agreed (option_eq eq) (decides_option eq decides) (region (suc u) None (seen_as Some (in_bits bits rows)))
          (region (suc u) None (seen_as Some (in_bits bits others))) IsAddress fits fits' (sym told_at ∙ h) a m ∙ at_other a m)),
      λ h. told_at ∙ agreed_from (option_eq eq) (decides_option eq decides) (region (suc u) None (seen_as Some (in_bits bits rows)))
          (region (suc u) None (seen_as Some (in_bits bits others))) IsAddress fits fits'
          (λ a m. at_one a m ∙ forward_from_same IsAddress (in_bits bits rows) (in_bits bits others) (rows_ascend bits u u_is rows node) (rows_ascend bits u u_is others node') (bits_same bits IsAddress rows others h) a m
          ∙ sym (at_other a m)),
    )

  pub decided_width : (w : ℕ) → w ≤ 129 → AreNetworksOf bits w rows → AreNetworksOf bits w others
      → (result ≡ true) ↔ ForwardSame bits (HasWidth w) rows others
  decided_width w l h k = by 128 refl
    where
      by : (u : ℕ) → u ≡ 128 → (result ≡ true) ↔ ForwardSame bits (HasWidth w) rows others
      by u f = decided u f (HasWidth w) (fits_of bits u f rows node w l h) (fits_of bits u f others node' w l k)

  pub decided_ip : AreIpRows bits rows → AreIpRows bits others → (result ≡ true) ↔ ForwardSame bits IsIpAddressBits rows others
  decided_ip h k = by 128 refl
    where
      by : (u : ℕ) → u ≡ 128 → (result ≡ true) ↔ ForwardSame bits IsIpAddressBits rows others
      by u f = decided u f IsIpAddressBits (fits_both bits u f rows node h) (fits_both bits u f others node' k)
