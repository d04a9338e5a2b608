-- The rows that the two passes write are a smallest table.
use Rattle.std.proofs.Common.{◌≡◌, ℕ, suc, ◌+◌, ◌-◌, ◌<◌, ◌≤◌, Bool, true, false, List, [], ◌∷◌, ◌++◌, length, get_or, take, Option, Some, None, refl, sym, ap, ◌∙◌, subst, arith, inl, inr, append-nil}
use Rattle.std.proofs.Math.Seq.{take-suc}
use Rattle.std.specs.List.{AllByRecursion}
use Rattle.std.specs.declared.cmp.Ordering.{Ordering}
use Rattle.std.specs.declared.cmp.Ordering.TheVariants.{Less}
use Rattle.std.specs.List.Sorted.{IsStrictlySortedBy}
use Rattle.std.specs.Map.{keys_of}
use Rattle.std.specs.Bool.{Decides}
use Rattle.std.specs.Option.{option_eq}
use Rattle.cidr.specs.model.Bits.{bit_cmp}
use Rattle.cidr.specs.model.Network.{HasWidth}
use Rattle.cidr_table.specs.model.CoverAddresses.{IsIpAddressBits}
use Rattle.cidr_forwarding.specs.Forwarding.{in_bits, AreNetworksOf, AreIpRows, IsSmallest, IsSmallestHoled}
use Rattle.cidr_forwarding.specs.Trees.{region, AllFitWidth}
use Rattle.cidr_forwarding.specs.Choices.{put, is_free}
use Rattle.cidr_forwarding.specs.Plans.{tails, planned, IsNode, AreOf, put_rows}
use Rattle.cidr_table.proofs.MapLaws.{contains_first, contains_later, contains_cases, contains_nothing}
use Rattle.cidr_forwarding.proofs.Looking.{seen_as}
use Rattle.cidr_forwarding.proofs.Placing.{in_bits_push}
use Rattle.cidr_forwarding.proofs.Regions.{Fits}
use Rattle.cidr_forwarding.proofs.Shapes.{fits_width, fits_ip, AreIp}
use Rattle.cidr_forwarding.proofs.Order.{Ascend}
use Rattle.cidr_forwarding.proofs.Smallest.{strip, keys_seen, smallest_rows, is_smallest, smallest_holed, is_smallest_holed, holed_fits}
use Rattle.cidr_forwarding.proofs.Kept.{low_region, families_region, put_within, put_ip, strip_within, strip_ip, networks_from, ip_from}

-- ---- rows with a value
module _ {V : Type 0} where
  strip_push : (xs : List (List Bool × Option V)) (p : List Bool) (o : Option V) → strip (xs ++ (p, o) ∷ []) ≡ strip xs ++ strip ((p, o) ∷ [])
  strip_push [] p o = refl
  strip_push ((q, None) ∷ xs) p o = strip_push xs p o
  strip_push ((q, Some v) ∷ xs) p o = ap (λ l. (q, v) ∷ l) (strip_push xs p o)

module _ {C V : Type 0} (bits : C → List Bool) (all : List (C × Option V)) (i : ℕ) (x : C × Option V) (within : i < length all) (is : x ≡ get_or all i x) (out : List (C × V))
    (so_far : in_bits bits out ≡ strip (in_bits bits (take i all))) where
  next : strip (in_bits bits (take (i + 1) all)) ≡ in_bits bits out ++ strip ((bits x.0, x.1) ∷ [])
  next =
      let e : suc i ≡ i + 1 = omega arith in
      let t : take (i + 1) all ≡ take i all ++ x ∷ [] = ap (λ n. take n all) (sym e) ∙ take-suc all i x within ∙ ap (λ y. take i all ++ y ∷ []) (sym is) in
      ap (λ l. strip (in_bits bits l)) t ∙ ap strip (in_bits_push bits (take i all) x) ∙ strip_push (in_bits bits (take i all)) (bits x.0) x.1
      ∙ ap (λ l. l ++ strip ((bits x.0, x.1) ∷ [])) (sym so_far)

  pub more_some : (v : V) (now : List (C × V)) → x.1 ≡ Some v → now ≡ out ++ (x.0, v) ∷ [] → in_bits bits now ≡ strip (in_bits bits (take (i + 1) all))
  more_some v now s n =
      ap (in_bits bits) n ∙ in_bits_push bits out (x.0, v) ∙ sym (next ∙ ap (λ o. in_bits bits out ++ strip ((bits x.0, o) ∷ [])) s)

  pub more_none : x.1 ≡ None → in_bits bits out ≡ strip (in_bits bits (take (i + 1) all))
  more_none s = sym (next ∙ ap (λ o. in_bits bits out ++ strip ((bits x.0, o) ∷ [])) s ∙ append-nil (in_bits bits out))

module _ {C Y : Type 0} (bits : C → List Bool) where
  pub length_bits_of : (rows : List (C × Y)) → length (in_bits bits rows) ≡ length rows
  length_bits_of [] = refl
  length_bits_of (r ∷ rows) = ap suc (length_bits_of rows)

  above_keys : (cmp : C → C → Ordering) → ((a b : C) → cmp a b ≡ bit_cmp (bits a) (bits b)) → (key : C) (rows : List (C × Y))
      → AllByRecursion (λ q. bit_cmp (bits key) q ≡ Less) (keys_of (in_bits bits rows)) → AllByRecursion (λ q. cmp key q ≡ Less) (keys_of rows)
  above_keys cmp ordered key [] h = tt
  above_keys cmp ordered key (r ∷ rows) h = (ordered key r.0 ∙ h.0, above_keys cmp ordered key rows h.1)

  sorted_keys : (cmp : C → C → Ordering) → ((a b : C) → cmp a b ≡ bit_cmp (bits a) (bits b)) → (rows : List (C × Y))
      → IsStrictlySortedBy bit_cmp (keys_of (in_bits bits rows)) → IsStrictlySortedBy cmp (keys_of rows)
  unfolding IsStrictlySortedBy
  sorted_keys cmp ordered [] h = tt
  sorted_keys cmp ordered (r ∷ rows) h = (above_keys cmp ordered r.0 rows h.0, sorted_keys cmp ordered rows h.1)

-- ---- the whole
module _ {C V : Type 0} (bits : C → List Bool) where
  pub of_nothing : (q : List Bool) (rows : List (C × V)) → q ≡ [] → AreOf bits q rows
  of_nothing q [] e = tt
  of_nothing q (r ∷ rows) e = (subst (λ p. take (length p) (bits r.0) ≡ p) (sym e) refl, of_nothing q rows e)

  tails_seen : (rows : List (C × V)) → tails bits 0 rows ≡ seen_as Some (in_bits bits rows)
  tails_seen [] = refl
  tails_seen (r ∷ rows) = ap (λ l. (bits r.0, Some r.1) ∷ l) (tails_seen rows)

  planned_is : (d w : ℕ) (c : Option V) (rows : List (C × V)) → w ≡ 129 - d → planned bits d c rows ≡ region w c (tails bits d rows)
  unfolding planned
  planned_is d w c rows e = ap (λ n. region n c (tails bits d rows)) (sym e)

  pub networks_within : (w : ℕ) (rows : List (C × V)) → AreNetworksOf bits w rows → AllFitWidth w (seen_as Some (in_bits bits rows))
  networks_within w [] h = tt
  networks_within w (r ∷ rows) h = (h r (contains_first r rows), networks_within w rows (λ x m. h x (contains_later r x rows m)))

  pub are_ip : (rows : List (C × V)) → AreIpRows bits rows → AreIp (seen_as Some (in_bits bits rows))
  are_ip [] h = tt
  are_ip (r ∷ rows) h = (h r (contains_first r rows), are_ip rows (λ x m. h x (contains_later r x rows m)))

  module _ (u : ℕ) (u_is : u ≡ 128) (rows : List (C × V)) (node : IsNode bits 0 rows) where
    abbrev pub seen : List (List Bool × Option V)
    seen = seen_as Some (in_bits bits rows)

    pub plan_is : planned bits 0 None rows ≡ region (suc u) None seen
    plan_is = planned_is 0 (suc u) None rows (omega (arith, u_is)) ∙ ap (region (suc u) None) (tails_seen rows)

    pub rows_ascend : Ascend (in_bits bits rows)
    rows_ascend =
        subst (IsStrictlySortedBy bit_cmp) (ap keys_of (tails_seen rows) ∙ keys_seen Some (in_bits bits rows)) node.ascending

    pub rows_within : AllFitWidth (suc u) seen
    rows_within =
        let e : 129 ≡ suc u = omega (arith, u_is) in
        subst (λ w. AllFitWidth w seen) e (subst (AllFitWidth 129) (tails_seen rows) node.within)

    pub fits_of : (w : ℕ) → w ≤ 129 → AreNetworksOf bits w rows → Fits (region (suc u) None seen) (HasWidth w)
    fits_of w l h = fits_width (suc u) w None seen (HasWidth w) (omega (arith, u_is)) (networks_within w rows h) (λ a e. e) (λ a e. e)

    pub fits_both : AreIpRows bits rows → Fits (region (suc u) None seen) IsIpAddressBits
    fits_both h = fits_ip u None seen (omega (arith, u_is)) (are_ip rows h)

module _ {C V : Type 0} (bits : C → List Bool) (eq : V → V → Bool) (decides : (x y : V) → Decides (eq x y) (x ≡ y)) where
  module _ (u : ℕ) (u_is : u ≡ 128) (rows : List (C × V)) (node : IsNode bits 0 rows) where
    put_is : (holes : Bool) → put_rows eq holes (planned bits 0 None rows) None ≡ put (option_eq eq) (is_free holes) None (region (suc u) None (seen_as Some (in_bits bits rows))) None
    unfolding put_rows
    put_is holes = ap (λ t. put (option_eq eq) (is_free holes) None t None) (plan_is bits u u_is rows node)

    module _ (IsAddress : List Bool → Type 0) (fits : Fits (region (suc u) None (seen_as Some (in_bits bits rows))) IsAddress) where
      smallest_at : (out : List (List Bool × V)) → out ≡ strip (put_rows eq false (planned bits 0 None rows) None) → IsSmallest IsAddress (in_bits bits rows) out
      unfolding smallest_rows
      smallest_at out e =
          let s : IsSmallest IsAddress (in_bits bits rows) (smallest_rows eq decides IsAddress (suc u) (in_bits bits rows) (rows_ascend bits u u_is rows node) (rows_within bits u u_is rows node) fits) =
          is_smallest eq decides IsAddress (suc u) (in_bits bits rows) (rows_ascend bits u u_is rows node) (rows_within bits u u_is rows node) fits in
          subst (IsSmallest IsAddress (in_bits bits rows)) (sym (e ∙ ap strip (put_is false))) s

      holed_at : (out : List (List Bool × Option V)) → out ≡ put_rows eq true (planned bits 0 None rows) None → IsSmallestHoled IsAddress (in_bits bits rows) out
      unfolding smallest_holed
      holed_at out e =
          let s : IsSmallestHoled IsAddress (in_bits bits rows) (smallest_holed eq decides IsAddress (suc u) (in_bits bits rows) (rows_ascend bits u u_is rows node) (rows_within bits u u_is rows node) fits) =
          is_smallest_holed eq decides IsAddress (suc u) (in_bits bits rows) (rows_ascend bits u u_is rows node) (rows_within bits u u_is rows node) fits in
          subst (IsSmallestHoled IsAddress (in_bits bits rows)) (sym (e ∙ put_is true)) s

    kept_put : (holes : Bool) (w : ℕ) → AreNetworksOf bits w rows → AllFitWidth w (put_rows eq holes (planned bits 0 None rows) None)
    kept_put holes w h =
        subst (AllFitWidth w) (sym (put_is holes))
        (put_within (option_eq eq) (is_free holes) None w (region (suc u) None (seen_as Some (in_bits bits rows)))
        (low_region (suc u) w None (seen_as Some (in_bits bits rows)) (networks_within bits w rows h)) None)

    kept_ip_put : (holes : Bool) → AreIpRows bits rows → AreIp (put_rows eq holes (planned bits 0 None rows) None)
    kept_ip_put holes h =
        subst AreIp (sym (put_is holes))
        (put_ip (option_eq eq) (is_free holes) None (region (suc u) None (seen_as Some (in_bits bits rows)))
        (families_region (suc u) None (seen_as Some (in_bits bits rows)) (are_ip bits rows h)) None)

    fewer_holed : (out : List (C × Option V)) → Fits (region (suc u) None (seen_as Some (in_bits bits rows))) (HasWidth 129)
        → in_bits bits out ≡ put_rows eq true (planned bits 0 None rows) None → length out ≤ length rows
    unfolding smallest_holed
    fewer_holed out fits e =
        let h : length (smallest_holed eq decides (HasWidth 129) (suc u) (in_bits bits rows) (rows_ascend bits u u_is rows node) (rows_within bits u u_is rows node) fits) ≤ length (in_bits bits rows) =
        holed_fits eq decides (HasWidth 129) (suc u) (in_bits bits rows) (rows_ascend bits u u_is rows node) (rows_within bits u u_is rows node) fits in
        omega (arith, h, ap length (e ∙ put_is true), length_bits_of bits out, length_bits_of bits rows)

  -- ---- what the calls promise
  module _ (rows : List (C × V)) (node : IsNode bits 0 rows) where
    pub smallest_width : (out : List (List Bool × V)) → out ≡ strip (put_rows eq false (planned bits 0 None rows) None) → (w : ℕ) → w ≤ 129 → AreNetworksOf bits w rows
        → IsSmallest (HasWidth w) (in_bits bits rows) out
    smallest_width out e w l h = by 128 refl
      where
        by : (u : ℕ) → u ≡ 128 → IsSmallest (HasWidth w) (in_bits bits rows) out
        by u f = smallest_at u f rows node (HasWidth w) (fits_of bits u f rows node w l h) out e

    pub smallest_ip : (out : List (List Bool × V)) → out ≡ strip (put_rows eq false (planned bits 0 None rows) None) → AreIpRows bits rows
        → IsSmallest IsIpAddressBits (in_bits bits rows) out
    smallest_ip out e h = by 128 refl
      where
        by : (u : ℕ) → u ≡ 128 → IsSmallest IsIpAddressBits (in_bits bits rows) out
        by u f = smallest_at u f rows node IsIpAddressBits (fits_both bits u f rows node h) out e

    pub holed_width : (out : List (List Bool × Option V)) → out ≡ put_rows eq true (planned bits 0 None rows) None → (w : ℕ) → w ≤ 129 → AreNetworksOf bits w rows
        → IsSmallestHoled (HasWidth w) (in_bits bits rows) out
    holed_width out e w l h = by 128 refl
      where
        by : (u : ℕ) → u ≡ 128 → IsSmallestHoled (HasWidth w) (in_bits bits rows) out
        by u f = holed_at u f rows node (HasWidth w) (fits_of bits u f rows node w l h) out e

    pub holed_ip : (out : List (List Bool × Option V)) → out ≡ put_rows eq true (planned bits 0 None rows) None → AreIpRows bits rows
        → IsSmallestHoled IsIpAddressBits (in_bits bits rows) out
    holed_ip out e h = by 128 refl
      where
        by : (u : ℕ) → u ≡ 128 → IsSmallestHoled IsIpAddressBits (in_bits bits rows) out
        by u f = holed_at u f rows node IsIpAddressBits (fits_both bits u f rows node h) out e

    -- ---- of any table
    pub networks_of : (some : List (C × V)) → AllFitWidth 129 (tails bits 0 some) → AreNetworksOf bits 129 some
    networks_of [] h row m = absurd (contains_nothing row m)
    networks_of (r ∷ some) h row m = elim (contains_cases r row some m) [
      | inl e ↦ subst (λ (x : C × V). length (bits x.0) ≤ 129) e h.0
      | inr k ↦ networks_of some h.1 row k
    ]

    pub smallest_fits : (out : List (C × V)) → in_bits bits out ≡ strip (put_rows eq false (planned bits 0 None rows) None) → length out ≤ length rows
    smallest_fits out e =
        let s = smallest_width (in_bits bits out) e 129 (omega arith) (networks_of rows node.within) in
        omega (arith, s.fewest (in_bits bits rows) (λ a m value. (λ h. h, λ h. h)), length_bits_of bits out, length_bits_of bits rows)

    pub smallest_sorted : (cmp : C → C → Ordering) → ((a b : C) → cmp a b ≡ bit_cmp (bits a) (bits b)) → (out : List (C × V))
        → in_bits bits out ≡ strip (put_rows eq false (planned bits 0 None rows) None) → IsStrictlySortedBy cmp (keys_of out)
    smallest_sorted cmp ordered out e =
        sorted_keys bits cmp ordered out ((smallest_width (in_bits bits out) e 129 (omega arith) (networks_of rows node.within)).ascending)

    pub holed_sorted : (cmp : C → C → Ordering) → ((a b : C) → cmp a b ≡ bit_cmp (bits a) (bits b)) → (out : List (C × Option V))
        → in_bits bits out ≡ put_rows eq true (planned bits 0 None rows) None → IsStrictlySortedBy cmp (keys_of out)
    holed_sorted cmp ordered out e =
        sorted_keys bits cmp ordered out ((holed_width (in_bits bits out) e 129 (omega arith) (networks_of rows node.within)).ascending)

    pub holed_fewer : (out : List (C × Option V)) → in_bits bits out ≡ put_rows eq true (planned bits 0 None rows) None → length out ≤ length rows
    holed_fewer out e = by 128 refl
      where
        by : (u : ℕ) → u ≡ 128 → length out ≤ length rows
        by u f = fewer_holed u f rows node out (fits_of bits u f rows node 129 (omega arith) (networks_of rows node.within)) e

    -- ---- of which networks the rows are
    pub smallest_kept : (out : List (C × V)) → in_bits bits out ≡ strip (put_rows eq false (planned bits 0 None rows) None) → (w : ℕ) → AreNetworksOf bits w rows
        → AreNetworksOf bits w out
    smallest_kept out e w h =
        networks_from bits w out (subst (AllFitWidth w) (sym e) (strip_within w (put_rows eq false (planned bits 0 None rows) None) (kept_put 128 refl rows node false w h)))

    pub smallest_kept_ip : (out : List (C × V)) → in_bits bits out ≡ strip (put_rows eq false (planned bits 0 None rows) None) → AreIpRows bits rows
        → AreIpRows bits out
    smallest_kept_ip out e h =
        ip_from bits out (subst AreIp (sym e) (strip_ip (put_rows eq false (planned bits 0 None rows) None) (kept_ip_put 128 refl rows node false h)))

    pub holed_kept : (out : List (C × Option V)) → in_bits bits out ≡ put_rows eq true (planned bits 0 None rows) None → (w : ℕ) → AreNetworksOf bits w rows
        → AreNetworksOf bits w out
    holed_kept out e w h = networks_from bits w out (subst (AllFitWidth w) (sym e) (kept_put 128 refl rows node true w h))

    pub holed_kept_ip : (out : List (C × Option V)) → in_bits bits out ≡ put_rows eq true (planned bits 0 None rows) None → AreIpRows bits rows → AreIpRows bits out
    holed_kept_ip out e h = ip_from bits out (subst AreIp (sym e) (kept_ip_put 128 refl rows node true h))
