-- Rows that no file of look-ups has: why they are not written.
use Rattle.std.proofs.Common.{◌≡◌, ◌≢◌, refl, sym, ◌∙◌, ap, subst, arith, inl, inr, ℕ, ◌+◌, ◌^◌, ◌<◌, ◌≤◌, Bool, List, [], ◌∷◌, length, map}
use Rattle.std.proofs.lemmas.Bool.{cases_lt}
use Rattle.std.proofs.lemmas.List.{length-map}
use Rattle.std.proofs.lemmas.List.Sums.{sum_by-cons}
use Rattle.std.proofs.lemmas.Simd.{map-map}
use Rattle.std.specs.List.{sum_by}
use Rattle.std.specs.List.Sorted.{IsStrictlySortedBy}
use Rattle.std.specs.Map.{keys_of}
use Rattle.cidr.specs.model.Bits.{bit_cmp}
use Rattle.cidr_files.specs.Contents.{AreRowsUnwritten}
use Rattle.cidr_files.specs.Tables.{AreOffsets}
use Rattle.cidr_files.specs.declared.contents.FileRows.{FileRows}
use Rattle.cidr_files.specs.declared.faults.WriteError.TheVariants.{Table, Values}
use Rattle.cidr_lookup.proofs.Networks.{rows_ascend}
use Rattle.cidr_lookup.proofs.Numbers.{length_networks}
use Rattle.cidr_lookup.specs.Keys.{AreAscendingNetworks, AreNetworksUpTo, key_networks}
use Rattle.cidr_lookup.specs.Rows.{numbered, numbered_rows}
use Rattle.cidr_lookup.specs.Tables.{HasTooManyWords}
use Rattle.cidr_lookup.specs.declared.table.TableError.{TableError}
use Rattle.cidr_lookup.specs.declared.table.TableError.TheVariants.{TooMany, Refused, TooLarge, NoMemory}
use Rattle.cidr_lists.specs.Tables.{resolved, value_at}
use Rattle.cidr_lists.specs.declared.rows.Span.{Span}
use Rattle.netset_commands.specs.Columns.{AreColumns, value_bytes}
use Rattle.netset_commands.specs.Compiled.{AreTooLarge}
use Rattle.netset_commands.specs.declared.output.compiled.Columns.{Columns}

-- ---- the networks of sorted keys ascend
one_up : (w : ℕ) (networks : List (ℕ × ℕ)) (i : ℕ) → i < length networks → AreAscendingNetworks w networks → AreNetworksUpTo w networks (i + 1)
one_up w networks i l are = record {
  each = λ j l'. are.each j (omega arith);
  ascending = λ j k less l'. are.ascending j k less (omega arith);
}

-- ---- too large is what rows say
bytes_said : (all : List ℕ) (rows : List (List Bool × Span))
    → sum_by (λ (row : List Bool × List ℕ). length row.1) (map (resolved all) rows) ≡ value_bytes all rows
bytes_said all [] = refl
bytes_said all (row ∷ rows) =
    let f : List Bool × List ℕ → ℕ = λ r. length r.1 in
    let g : List Bool × Span → ℕ = λ r. length (value_at all r.1) in
    sum_by-cons f (resolved all row) (map (resolved all) rows) ∙ (ap (λ (n : ℕ). g row + n) (bytes_said all rows) ∙ sym (sum_by-cons g row rows))

-- their values are too long
pub long_values : (w padding : ℕ) (steps : ℕ → ℕ) (all : List ℕ) (rows : List (List Bool × Span)) → 2 ^ 32 ≤ value_bytes all rows
    → AreTooLarge w padding steps (map (resolved all) rows)
long_values w padding steps all rows long = inr (inl (omega (arith, long, bytes_said all rows)))

-- ---- why columns are not written: they are too large
module _ {W : Type 0} (w padding : ℕ) (steps : ℕ → ℕ) (value : W → ℕ) (all : List ℕ) (rows : List (List Bool × Span)) (columns : Columns W) (file : FileRows W)
    (are : AreColumns w value (λ (p : List Bool). p) all rows columns) (keys : file.keys.now ≡ columns.keys.items) (offsets : file.offsets.now ≡ columns.offsets.items)
    (values : file.values.now ≡ columns.values.items) (sorted : IsStrictlySortedBy bit_cmp (keys_of rows)) where
  networks_are : key_networks value file.keys.now ≡ numbered_rows (λ (p : List Bool). p) w rows
  networks_are = ap (key_networks value) keys ∙ are.networks

  many_keys : length file.keys.now ≡ length rows
  many_keys =
      sym (length_networks value file.keys.now)
      ∙ (ap length networks_are ∙ length-map rows (λ (row : List Bool × Span). numbered w row.0))

  are_ascending : AreAscendingNetworks w (key_networks value file.keys.now)
  are_ascending = subst (AreAscendingNetworks w) (sym networks_are) (rows_ascend w (λ (p : List Bool). p) bit_cmp (λ a b. refl) rows sorted are.fit)

  places_are : AreOffsets file.offsets.now (length file.keys.now) (length file.values.now)
  places_are =
      subst (λ (os : List ℕ). AreOffsets os (length file.keys.now) (length file.values.now)) (sym offsets)
      (subst (λ (n : ℕ). AreOffsets columns.offsets.items n (length file.values.now)) (sym many_keys)
      (subst (λ (vs : List ℕ). AreOffsets columns.offsets.items (length rows) (length vs)) (sym values) are.offsets))

  -- the networks of the table
  all_networks : numbered_rows (λ (p : List Bool). p) w (map (resolved all) rows) ≡ key_networks value file.keys.now
  all_networks = map-map (λ (row : List Bool × List ℕ). numbered w row.0) (resolved all) rows ∙ sym networks_are

  -- why the keys have no table
  pub only_large : (e : TableError) → e ≢ NoMemory → AreRowsUnwritten w padding steps value file (Table e) → AreTooLarge w padding steps (map (resolved all) rows)
  only_large TooMany other many = inl (omega (arith, many, many_keys, length-map rows (resolved all)))
  only_large (Refused place) other (fine, (few, (within, before, refused))) =
      absurd (refused (one_up w (key_networks value file.keys.now) place within are_ascending))
  only_large TooLarge other (fine, (few, ascend, many)) =
      let count : length file.keys.now ≡ length (map (resolved all) rows) = many_keys ∙ sym (length-map rows (resolved all)) in
      inr (inr (subst (λ (k : ℕ). HasTooManyWords w padding (steps k) (numbered_rows (λ (p : List Bool). p) w (map (resolved all) rows))) count
      (subst (λ (ns : List (ℕ × ℕ)). HasTooManyWords w padding (steps (length file.keys.now)) ns) (sym all_networks) many)))
  only_large NoMemory other h = absurd (other refl)

  -- or the values do not lie one behind the other
  pub only_long : AreRowsUnwritten w padding steps value file Values → AreTooLarge w padding steps (map (resolved all) rows)
  only_long (few, wrong) = elim (cases_lt (length file.values.now) (2 ^ 32)) [
    | inl short ↦ absurd (wrong (record { offsets = places_are; sizes = short }))
    | inr long ↦ long_values w padding steps all rows (omega (arith, long, ap length values, are.total))
  ]
