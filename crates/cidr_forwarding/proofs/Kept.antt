-- The rows that are put are of networks that are no longer than those of the rows before, and of the same families.
use Rattle.std.proofs.Common.{ℕ, zero, suc, ◌≤◌, Bool, true, false, cond, List, [], ◌∷◌, ◌++◌, length, Option, Some, None, sym, subst, arith, inl, inr}
use Rattle.cidr_table.specs.model.CoverAddresses.{IsIpNetworkBits}
use Rattle.cidr_table.proofs.MapLaws.{contains_cases, contains_nothing}
use Rattle.cidr_forwarding.specs.Forwarding.{in_bits, AreNetworksOf, AreIpRows}
use Rattle.cidr_forwarding.specs.Trees.{own, below, under, Region, Even, Halves, deeper, region, AllFitWidth}
use Rattle.cidr_forwarding.specs.Choices.{is_listed, candidates, pick, fill, put}
use Rattle.cidr_forwarding.proofs.Shapes.{within_below, none_below, AreIp, low_within, high_within}
use Rattle.cidr_forwarding.proofs.Smallest.{strip}

module _ {X : Type 0} where
  -- no part that has one value is of more than w bits
  abbrev pub IsLow : ℕ → Region X → Type 0
  IsLow w (Even x) = Unit {0}
  IsLow zero (Halves l r) = ⊥
  IsLow (suc w) (Halves l r) = IsLow w l × IsLow w r

  low_deeper : (w : ℕ) (lows highs : List (List Bool × X)) (o : X) (l r : Region X) → IsLow w l → IsLow w r → IsLow (suc w) (deeper lows highs o l r)
  low_deeper w [] [] o l r h k = tt
  low_deeper w [] (x ∷ highs) o l r h k = (h, k)
  low_deeper w (x ∷ lows) highs o l r h k = (h, k)

  pub low_region : (v w : ℕ) (c : X) (rows : List (List Bool × X)) → AllFitWidth w rows → IsLow w (region v c rows)
  low_region zero w c rows h = tt
  low_region (suc v) zero c rows h =
      subst (λ lows. IsLow 0 (deeper lows (below true rows) (own c rows) (region v (own c rows) (below false rows)) (region v (own c rows) (below true rows))))
      (sym (none_below false rows h))
      (subst (λ highs. IsLow 0 (deeper [] highs (own c rows) (region v (own c rows) (below false rows)) (region v (own c rows) (below true rows))))
      (sym (none_below true rows h)) tt)
  low_region (suc v) (suc w) c rows h =
      low_deeper w (below false rows) (below true rows) (own c rows) (region v (own c rows) (below false rows)) (region v (own c rows) (below true rows))
      (low_region v w (own c rows) (below false rows) (within_below w false rows h)) (low_region v w (own c rows) (below true rows) (within_below w true rows h))

  pub within_under : (w : ℕ) (b : Bool) (rows : List (List Bool × X)) → AllFitWidth w rows → AllFitWidth (suc w) (under b rows)
  within_under w b [] h = tt
  within_under w b (r ∷ rows) h = (omega (arith, h.0), within_under w b rows h.1)

  pub within_append : (w : ℕ) (xs ys : List (List Bool × X)) → AllFitWidth w xs → AllFitWidth w ys → AllFitWidth w (xs ++ ys)
  within_append w [] ys h k = k
  within_append w (x ∷ xs) ys h k = (h.0, within_append w xs ys h.1 k)

  pub ip_append : (xs ys : List (List Bool × X)) → AreIp xs → AreIp ys → AreIp (xs ++ ys)
  ip_append [] ys h k = k
  ip_append (x ∷ xs) ys h k = (h.0, ip_append xs ys h.1 k)

  pub ip_low : (rows : List (List Bool × X)) → AllFitWidth 32 rows → AreIp (under false rows)
  ip_low [] h = tt
  ip_low (r ∷ rows) h = (h.0, ip_low rows h.1)

  pub ip_high : (rows : List (List Bool × X)) → AllFitWidth 128 rows → AreIp (under true rows)
  ip_high [] h = tt
  ip_high (r ∷ rows) h = (h.0, ip_high rows h.1)

  -- the halves of both families are those of each
  abbrev pub IsOfFamilies : Region X → Type 0
  IsOfFamilies (Even x) = Unit {0}
  IsOfFamilies (Halves l r) = IsLow 32 l × IsLow 128 r

  families_deeper : (lows highs : List (List Bool × X)) (o : X) (l r : Region X) → IsLow 32 l → IsLow 128 r → IsOfFamilies (deeper lows highs o l r)
  families_deeper [] [] o l r h k = tt
  families_deeper [] (x ∷ highs) o l r h k = (h, k)
  families_deeper (x ∷ lows) highs o l r h k = (h, k)

  pub families_region : (v : ℕ) (c : X) (rows : List (List Bool × X)) → AreIp rows → IsOfFamilies (region v c rows)
  families_region zero c rows h = tt
  families_region (suc v) c rows h =
      families_deeper (below false rows) (below true rows) (own c rows) (region v (own c rows) (below false rows)) (region v (own c rows) (below true rows))
      (low_region v 32 (own c rows) (below false rows) (low_within rows h)) (low_region v 128 (own c rows) (below true rows) (high_within rows h))

module _ {X : Type 0} (same : X → X → Bool) (free : X → Bool) (none : X) where
  put_by : (w : ℕ) (t : Region X) → ((x : X) → AllFitWidth w (fill same free none t x)) → (c : X) → AllFitWidth w (put same free none t c)
  put_by w t inside c = elim (is_listed same (candidates same free t) c) as (λ b. AllFitWidth w (cond b (fill same free none t c)
      (([], pick same free none t) ∷ fill same free none t (pick same free none t)))) [
        | true ↦ inside c
        | false ↦ (omega arith, inside (pick same free none t))
      ]

  pub fill_within : (w : ℕ) (t : Region X) → IsLow w t → (c : X) → AllFitWidth w (fill same free none t c)
  fill_within w (Even x) h c = tt
  fill_within zero (Halves l r) h c = absurd h
  fill_within (suc w) (Halves l r) h c =
      within_append (suc w) (under false (put same free none l c)) (under true (put same free none r c))
      (within_under w false (put same free none l c) (put_by w l (fill_within w l h.0) c))
      (within_under w true (put same free none r c) (put_by w r (fill_within w r h.1) c))

  pub put_within : (w : ℕ) (t : Region X) → IsLow w t → (c : X) → AllFitWidth w (put same free none t c)
  put_within w t h c = put_by w t (fill_within w t h) c

  fill_ip : (t : Region X) → IsOfFamilies t → (c : X) → AreIp (fill same free none t c)
  fill_ip (Even x) h c = tt
  fill_ip (Halves l r) h c =
      ip_append (under false (put same free none l c)) (under true (put same free none r c))
      (ip_low (put same free none l c) (put_within 32 l h.0 c)) (ip_high (put same free none r c) (put_within 128 r h.1 c))

  pub put_ip : (t : Region X) → IsOfFamilies t → (c : X) → AreIp (put same free none t c)
  put_ip t h c = elim (is_listed same (candidates same free t) c) as (λ b. AreIp (cond b (fill same free none t c)
      (([], pick same free none t) ∷ fill same free none t (pick same free none t)))) [
        | true ↦ fill_ip t h c
        | false ↦ (tt, fill_ip t h (pick same free none t))
      ]

-- ---- rows with a value
module _ {V : Type 0} where
  pub strip_within : (w : ℕ) (rows : List (List Bool × Option V)) → AllFitWidth w rows → AllFitWidth w (strip rows)
  strip_within w [] h = tt
  strip_within w ((p, None) ∷ rows) h = strip_within w rows h.1
  strip_within w ((p, Some v) ∷ rows) h = (h.0, strip_within w rows h.1)

  pub strip_ip : (rows : List (List Bool × Option V)) → AreIp rows → AreIp (strip rows)
  strip_ip [] h = tt
  strip_ip ((p, None) ∷ rows) h = strip_ip rows h.1
  strip_ip ((p, Some v) ∷ rows) h = (h.0, strip_ip rows h.1)

module _ {C V : Type 0} (bits : C → List Bool) where
  pub networks_from : (w : ℕ) (rows : List (C × V)) → AllFitWidth w (in_bits bits rows) → AreNetworksOf bits w rows
  networks_from w [] h row m = absurd (contains_nothing row m)
  networks_from w (r ∷ rows) h row m = elim (contains_cases r row rows m) [
    | inl e ↦ subst (λ (x : C × V). length (bits x.0) ≤ w) e h.0
    | inr k ↦ networks_from w rows h.1 row k
  ]

  pub ip_from : (rows : List (C × V)) → AreIp (in_bits bits rows) → AreIpRows bits rows
  ip_from [] h row m = absurd (contains_nothing row m)
  ip_from (r ∷ rows) h row m = elim (contains_cases r row rows m) [
    | inl e ↦ subst (λ (x : C × V). IsIpNetworkBits (bits x.0)) e h.0
    | inr k ↦ ip_from rows h.1 row k
  ]
