-- What is listed of two tables is where they differ.
use Rattle.std.proofs.Common.{◌≡◌, ◌≢◌, ◌∙◌, ℕ, suc, ◌≤◌, Bool, List, [], ◌++◌, Option, Some, None, refl, sym, ap₂, subst}
use Rattle.std.specs.Bool.{Decides}
use Rattle.std.specs.List.{Contains}
use Rattle.std.specs.Option.{option_eq}
use Rattle.cidr.specs.model.Network.{HasWidth}
use Rattle.cidr_table.specs.model.CoverAddresses.{IsIpAddressBits}
use Rattle.cidr_forwarding.specs.Differences.{AreAnswers, AreDifferences}
use Rattle.cidr_forwarding.specs.Forwarding.{in_bits, AreNetworksOf, AreIpRows}
use Rattle.cidr_forwarding.specs.Trees.{Region, region, AllFitWidth, paired, differing}
use Rattle.cidr_forwarding.specs.Plans.{planned, IsNode, behind}
use Rattle.cidr_forwarding.proofs.RowParts.{forward}
use Rattle.cidr_forwarding.proofs.Regions.{at, Fits}
use Rattle.cidr_forwarding.proofs.Looking.{seen_as}
use Rattle.cidr_forwarding.proofs.Shapes.{at_region, AreIp}
use Rattle.cidr_forwarding.proofs.Order.{Ascend, one_row}
use Rattle.cidr_forwarding.proofs.Smallest.{looks_up, only_value, decides_option}
use Rattle.cidr_forwarding.proofs.Kept.{low_region, families_region, networks_from, ip_from}
use Rattle.cidr_forwarding.proofs.Placing.{behind_nothing}
use Rattle.cidr_forwarding.proofs.Final.{plan_is, rows_ascend, rows_within, fits_of, fits_both, networks_within, are_ip}
use Rattle.cidr_forwarding.proofs.Listing.{at_paired, fits_paired, low_paired, families_paired, sound, complete, apart, largest, differing_ascends, differing_within, differing_ip}

module _ {V : Type 0} (eq : V → V → Bool) (decides : (x y : V) → Decides (eq x y) (x ≡ y)) (IsAddress : List Bool → Type 0) (rows others : List (List Bool × V))
    (ascend : Ascend rows) (ascend' : Ascend others) (q : Region (Option V × Option V)) (fits : Fits q IsAddress)
    (at_both : (a : List Bool) → IsAddress a → at q a ≡ (forward None (seen_as Some rows) a, forward None (seen_as Some others) a)) where
  answers_at : (a : List Bool) → IsAddress a → AreAnswers rows others a (at q a)
  answers_at a m = subst (AreAnswers rows others a) (sym (at_both a m)) (looks_up rows a, looks_up others a)

  only_answers : (a : List Bool) → IsAddress a → (x : Option V × Option V) → AreAnswers rows others a x → at q a ≡ x
  only_answers a m x h = at_both a m ∙ ap₂ (λ c d. (c, d)) (sym (only_value rows ascend a x.0 h.0)) (sym (only_value others ascend' a x.1 h.1))

  are_differences : AreDifferences rows others IsAddress (differing (option_eq eq) q)
  are_differences = record {
    ascending = differing_ascends (option_eq eq) q;
    differ = λ row m.
        let h = sound (option_eq eq) (decides_option eq decides) q row.0 row.1 m in
        (h.0, λ a i b. subst (AreAnswers rows others a) (h.1 a b) (answers_at a i));
    complete = λ a i x h n.
        let e : at q a ≡ x = only_answers a i x h in
        let r = complete (option_eq eq) (decides_option eq decides) q IsAddress fits a i (subst (λ (y : Option V × Option V). y.0 ≢ y.1) (sym e) n) in
        (r.0, r.1, subst (λ (y : Option V × Option V). Contains (differing (option_eq eq) q) (r.0, y)) e r.2);
    apart = λ a row other m n h k.
        let e : row.0 ≡ other.0 = apart (option_eq eq) (decides_option eq decides) q row.0 other.0 row.1 other.1 m n a h k in
        one_row (differing (option_eq eq) q) row other (differing_ascends (option_eq eq) q) m n e;
    largest = λ p b x m h. largest (option_eq eq) (decides_option eq decides) q IsAddress fits p b x m (λ a i g. only_answers a i x (h a i g));
  }

module _ {C V : Type 0} (bits : C → List Bool) (eq : V → V → Bool) (decides : (x y : V) → Decides (eq x y) (x ≡ y)) (rows others : List (C × V))
    (node : IsNode bits 0 rows) (node' : IsNode bits 0 others) (start : List (C × (Option V × Option V))) (root : List Bool) (start_is : start ≡ []) (root_is : root ≡ [])
    (out : List (C × (Option V × Option V)))
    (told : in_bits bits out ≡ in_bits bits start ++ behind root (differing (option_eq eq) (paired (planned bits 0 None rows) (planned bits 0 None others)))) where
  module _ (u : ℕ) (u_is : u ≡ 128) where
    abbrev one : Region (Option V)
    one = region (suc u) None (seen_as Some (in_bits bits rows))

    abbrev other : Region (Option V)
    other = region (suc u) None (seen_as Some (in_bits bits others))

    out_is : in_bits bits out ≡ differing (option_eq eq) (paired one other)
    out_is =
        let all = differing (option_eq eq) (paired (planned bits 0 None rows) (planned bits 0 None others)) in
        told ∙ ap₂ (λ l p. in_bits bits l ++ behind p all) start_is root_is ∙ behind_nothing all
        ∙ ap₂ (λ t s. differing (option_eq eq) (paired t s)) (plan_is bits u u_is rows node) (plan_is bits u u_is others node')

    module _ (IsAddress : List Bool → Type 0) (fits : Fits one IsAddress) (fits' : Fits other IsAddress) where
      at_both : (a : List Bool) → IsAddress a
          → at (paired one other) a ≡ (forward None (seen_as Some (in_bits bits rows)) a, forward None (seen_as Some (in_bits bits others)) a)
      at_both a m =
          at_paired one other a
          ∙ ap₂ (λ c d. (c, d)) (at_region (suc u) None (seen_as Some (in_bits bits rows)) IsAddress (rows_within bits u u_is rows node) fits a m)
          (at_region (suc u) None (seen_as Some (in_bits bits others)) IsAddress (rows_within bits u u_is others node') fits' a m)

      are_told : AreDifferences (in_bits bits rows) (in_bits bits others) IsAddress (in_bits bits out)
      are_told =
          subst (AreDifferences (in_bits bits rows) (in_bits bits others) IsAddress) (sym out_is)
          (are_differences eq decides IsAddress (in_bits bits rows) (in_bits bits others) (rows_ascend bits u u_is rows node) (rows_ascend bits u u_is others node')
          (paired one other) (fits_paired one other IsAddress fits fits') at_both)

    kept_width : (w : ℕ) → AreNetworksOf bits w rows → AreNetworksOf bits w others → AreNetworksOf bits w out
    kept_width w h k =
        networks_from bits w out (subst (AllFitWidth w) (sym out_is) (differing_within (option_eq eq) w (paired one other) (low_paired w one other
        (low_region (suc u) w None (seen_as Some (in_bits bits rows)) (networks_within bits w rows h))
        (low_region (suc u) w None (seen_as Some (in_bits bits others)) (networks_within bits w others k)))))

    kept_both : AreIpRows bits rows → AreIpRows bits others → AreIpRows bits out
    kept_both h k =
        ip_from bits out (subst AreIp (sym out_is) (differing_ip (option_eq eq) (paired one other) (families_paired one other
        (families_region (suc u) None (seen_as Some (in_bits bits rows)) (are_ip bits rows h))
        (families_region (suc u) None (seen_as Some (in_bits bits others)) (are_ip bits others k)))))

  pub told_width : (w : ℕ) → w ≤ 129 → AreNetworksOf bits w rows → AreNetworksOf bits w others
      → AreDifferences (in_bits bits rows) (in_bits bits others) (HasWidth w) (in_bits bits out)
  told_width w l h k = by 128 refl
    where
      by : (u : ℕ) → u ≡ 128 → AreDifferences (in_bits bits rows) (in_bits bits others) (HasWidth w) (in_bits bits out)
      by u f = are_told u f (HasWidth w) (fits_of bits u f rows node w l h) (fits_of bits u f others node' w l k)

  pub told_ip : AreIpRows bits rows → AreIpRows bits others → AreDifferences (in_bits bits rows) (in_bits bits others) IsIpAddressBits (in_bits bits out)
  told_ip h k = by 128 refl
    where
      by : (u : ℕ) → u ≡ 128 → AreDifferences (in_bits bits rows) (in_bits bits others) IsIpAddressBits (in_bits bits out)
      by u f = are_told u f IsIpAddressBits (fits_both bits u f rows node h) (fits_both bits u f others node' k)

  pub told_kept : (w : ℕ) → AreNetworksOf bits w rows → AreNetworksOf bits w others → AreNetworksOf bits w out
  told_kept w h k = by 128 refl
    where
      by : (u : ℕ) → u ≡ 128 → AreNetworksOf bits w out
      by u f = kept_width u f w h k

  pub told_kept_ip : AreIpRows bits rows → AreIpRows bits others → AreIpRows bits out
  told_kept_ip h k = by 128 refl
    where
      by : (u : ℕ) → u ≡ 128 → AreIpRows bits out
      by u f = kept_both u f h k
