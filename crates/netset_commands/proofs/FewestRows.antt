-- The fewest rows of numbers are those of their values.
use Rattle.std.proofs.Common.{◌≡◌, refl, sym, ◌∙◌, ap, ap₂, subst, ℕ, Bool, true, false, List, [], ◌∷◌, ◌++◌, codes, map, unwrap_or, Option, Some, None}
use Rattle.std.specs.List.{Contains, flat_map}
use Rattle.std.specs.Map.{values_of}
use Rattle.std.specs.Option.{option_map}
use Rattle.cidr.specs.declared.family.Family.{Family}
use Rattle.cidr.specs.model.Network.{HasWidth, width_of}
use Rattle.cidr_table.proofs.MapLaws.{contains_first, contains_later}
use Rattle.cidr_forwarding.specs.Forwarding.{in_bits, IsSmallest, IsSmallestHoled}
use Rattle.netset_commands.specs.Fewest.{AreFewestNumbers, told_value, with_numbers}
use Rattle.netset_commands.specs.Numbers.{number_in, numbered, value_in}
use Rattle.netset_commands.specs.Smallest.{AreFewest}
use Rattle.netset_commands.proofs.Revalued.{out_of, revalue, revalued_holed, revalued_smallest}

-- the bits of networks of one family are these networks
pub in_these_bits : {V : Type 0} (rows : List (List Bool × V)) → in_bits (λ (p : List Bool). p) rows ≡ rows
in_these_bits [] = refl
in_these_bits {V} (row ∷ rows) = ap (λ (l : List (List Bool × V)). row ∷ l) (in_these_bits rows)

module _ (values : List (List ℕ)) where
  -- each value is one of these, by its number
  abbrev pub AreBack : List (List Bool × List ℕ) → Type 0
  AreBack rows = (row : List Bool × List ℕ) → Contains rows row → value_in values (number_in values row.1) ≡ row.1

  back_rows : (rows : List (List Bool × List ℕ)) → AreBack rows → map (revalue (value_in values)) (numbered values rows) ≡ rows
  back_rows [] back = refl
  back_rows (row ∷ rows) back =
      ap₂ (λ (v : List ℕ) (l : List (List Bool × List ℕ)). (row.0, v) ∷ l) (back row (contains_first row rows))
      (back_rows rows (λ other m. back other (contains_later row other rows m)))

  back_numbers : (rows : List (List Bool × List ℕ)) → AreBack rows → (row : List Bool × ℕ) → Contains (numbered values rows) row
      → number_in values (value_in values row.1) ≡ row.1
  back_numbers rows back row m =
      let h = out_of (number_in values) rows row m in
      let e : number_in values h.0.1 ≡ row.1 = ap (λ (x : List Bool × ℕ). x.1) h.2 in
      ap (λ (n : ℕ). number_in values (value_in values n)) (sym e) ∙ (ap (number_in values) (back h.0 h.1) ∙ e)

  -- rows as they are told
  abbrev pub told_rows : List (List Bool × Option ℕ) → List (List Bool × List ℕ)
  told_rows rows = map (λ (row : List Bool × Option ℕ). (row.0, told_value values row.1)) rows

  told_numbers : (rows : List (List Bool × ℕ)) → map (revalue (value_in values)) rows ≡ told_rows (with_numbers rows)
  told_numbers [] = refl
  told_numbers (row ∷ rows) = ap (λ (l : List (List Bool × List ℕ)). (row.0, value_in values row.1) ∷ l) (told_numbers rows)

  told_hole : (number : Option ℕ) → told_value values number ≡ unwrap_or (option_map (value_in values) number) (codes "-")
  told_hole None = refl
  told_hole (Some number) = refl

  told_holes : (rows : List (List Bool × Option ℕ))
      → told_rows rows ≡ map (λ (row : List Bool × Option (List ℕ)). (row.0, unwrap_or row.1 (codes "-"))) (map (revalue (option_map (value_in values))) rows)
  told_holes [] = refl
  told_holes (row ∷ rows) = ap₂ (λ (v : List ℕ) (l : List (List Bool × List ℕ)). (row.0, v) ∷ l) (told_hole row.1) (told_holes rows)

  -- of a family
  pub fewest_told : (holes : Bool) (family : Family) (rows : List (List Bool × List ℕ)) (fewest : List (List Bool × Option ℕ)) → AreBack rows
      → (holes ≡ true → ¬ (Contains (values_of rows) (codes "-"))) → AreFewestNumbers holes (width_of family) (numbered values rows) fewest
      → AreFewest holes family rows (told_rows fewest)
  fewest_told false family rows fewest back fine (smallest, is, same) =
      let all = revalued_smallest (value_in values) (number_in values) (HasWidth (width_of family)) (numbered values rows) (back_numbers rows back) smallest is in
      subst (IsSmallest (HasWidth (width_of family)) rows) (told_numbers smallest ∙ ap told_rows (sym same))
      (subst (λ (k : List (List Bool × List ℕ)). IsSmallest (HasWidth (width_of family)) k (map (revalue (value_in values)) smallest)) (back_rows rows back) all)
  fewest_told true family rows fewest back fine is =
      let all = revalued_holed (value_in values) (number_in values) (HasWidth (width_of family)) (numbered values rows) (back_numbers rows back) fewest is in (
        fine refl,
        map (revalue (option_map (value_in values))) fewest,
        subst (λ (k : List (List Bool × List ℕ)). IsSmallestHoled (HasWidth (width_of family)) k (map (revalue (option_map (value_in values))) fewest)) (back_rows rows back) all,
        told_holes fewest,
      )

-- the lines of rows
pub told_lines : (line : List Bool × List ℕ → List ℕ) (values : List (List ℕ)) (rows : List (List Bool × Option ℕ))
    → flat_map (λ (row : List Bool × Option ℕ). line (row.0, told_value values row.1)) rows ≡ flat_map line (told_rows values rows)
told_lines line values [] = refl
told_lines line values (row ∷ rows) = ap (λ (l : List ℕ). line (row.0, told_value values row.1) ++ l) (told_lines line values rows)
