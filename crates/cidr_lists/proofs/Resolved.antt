-- Rows whose values are read from where they stand.
use Rattle.std.proofs.Common.{◌≡◌, refl, sym, ◌∙◌, ap, subst, inl, inr, ◌≤◌, List, Bool, [], ◌∷◌, length, map, option_map, slice_get, Option, Some, None, ℕ}
use Rattle.std.specs.List.{Contains}
use Rattle.std.specs.Map.{keys_of}
use Rattle.std.proofs.lemmas.Option.{slice_get-map, slice_get_cases}
use Rattle.cidr.specs.model.Network.{BeginsWith}
use Rattle.cidr_table.specs.model.LastRows.{AreLastRows, IsLastRow}
use Rattle.cidr_table.specs.model.Prefixes.{IsLookedUp}
use Rattle.cidr_table.proofs.MapLaws.{contains_cases, contains_first, contains_later, contains_nothing}
use Rattle.cidr_table.specs.model.FiniteMap.{StoredRows}
use Rattle.cidr_lists.specs.Tables.{resolved, value_at}
use Rattle.cidr_lists.specs.declared.rows.Span.{Span}

same_some : {X : Type 0} (x y : X) → Some x ≡ Some y → x ≡ y
same_some x y e = cc

module _ {C V W : Type 0} (f : V → W) where
  abbrev pub with_value : C × V → C × W
  with_value row = (row.0, f row.1)

  same_keys : (rows : List (C × V)) → keys_of (map with_value rows) ≡ keys_of rows
  same_keys [] = refl
  same_keys (row ∷ rows) = ap (λ (ks : List C). row.0 ∷ ks) (same_keys rows)

  contains_mapped : (rows : List (C × V)) (row : C × V) → Contains rows row → Contains (map with_value rows) (with_value row)
  contains_mapped [] row h = absurd (contains_nothing row h)
  contains_mapped (x ∷ rows) row h = elim (contains_cases x row rows h) [
    | inl e ↦ subst (λ (k : C × V). Contains (map with_value (x ∷ rows)) (with_value k)) e (contains_first (with_value x) (map with_value rows))
    | inr later ↦ contains_later (with_value x) (with_value row) (map with_value rows) (contains_mapped rows row later)
  ]

  mapped_from : (rows : List (C × V)) (y : C × W) → Contains (map with_value rows) y → (row : C × V) × Contains rows row × (with_value row ≡ y)
  mapped_from [] y h = absurd (contains_nothing y h)
  mapped_from (x ∷ rows) y h = elim (contains_cases (with_value x) y (map with_value rows) h) [
    | inl e ↦ (x, contains_first x rows, e)
    | inr later ↦ let (row, c, e) = mapped_from rows y later in (row, contains_later x row rows c, e)
  ]

  last_mapped : (rows : List (C × V)) (row : C × V) → IsLastRow rows row → IsLastRow (map with_value rows) (with_value row)
  last_mapped rows row h = record {
    index = h.index;
    here = slice_get-map with_value rows h.index ∙ ap (option_map with_value) h.here;
    last = λ other after e. h.last other after (ap (λ (ks : List C). slice_get ks other) (sym (same_keys rows)) ∙ e);
  }

  last_from : (rows : List (C × V)) (y : C × W) → IsLastRow (map with_value rows) y → (row : C × V) × IsLastRow rows row × (with_value row ≡ y)
  last_from rows y h =
      let at : option_map with_value (slice_get rows h.index) ≡ Some y = sym (slice_get-map with_value rows h.index) ∙ h.here in
      elim ((slice_get_cases rows h.index).1) [
        | inr none ↦
            let no : None ≡ Some y = sym (ap (option_map with_value) none.1) ∙ at in
            absurd (cc)
        | inl some ↦
            let (row, within, here, got) = some in
            let e : with_value row ≡ y = same_some (with_value row) y (sym (ap (option_map with_value) here) ∙ at) in (
              row,
              record {
                index = h.index;
                here = here;
                last = λ other after k. h.last other after (ap (λ (ks : List C). slice_get ks other) (same_keys rows) ∙ (k ∙ ap (λ (r : C × W). Some r.0) e));
              },
              e,
            )
      ]

  -- the last rows stay the last
  pub last_rows_mapped : (rows kept : List (C × V)) → AreLastRows rows kept → AreLastRows (map with_value rows) (map with_value kept)
  last_rows_mapped rows kept h = λ y. (
    λ c. let (row, there, e) = mapped_from kept y c in subst (IsLastRow (map with_value rows)) e (last_mapped rows row ((h row).0 there)),
    λ l. let (row, last, e) = last_from rows y l in subst (Contains (map with_value kept)) e (contains_mapped kept row ((h row).1 last)),
  )

  -- what is looked up stays so
  pub looked_up_mapped : (bits : C → List Bool) (asked : List Bool) (rows : List (C × V)) (found : Option (C × V)) → IsLookedUp bits asked rows found
      → IsLookedUp bits asked (map with_value rows) (option_map with_value found)
  looked_up_mapped bits asked rows None h = λ y c begins.
      let (row, there, e) = mapped_from rows y c in
      h row there (subst (λ (k : C × W). BeginsWith asked (bits k.0)) (sym e) begins)
  looked_up_mapped bits asked rows (Some row) h = record {
    here = contains_mapped rows row h.here;
    begins = h.begins;
    longest = λ y c begins.
        let (other, there, e) = mapped_from rows y c in
        subst (λ (k : C × W). length (bits k.0) ≤ length (bits row.0)) e
        (h.longest other there (subst (λ (k : C × W). BeginsWith asked (bits k.0)) (sym e) begins));
  }

pub table_rows : (values : List ℕ) (rows : List (List Bool × Span)) (made ready : StoredRows (List Bool) Span) → AreLastRows rows made.rows → ready ≡ made
    → AreLastRows (map (resolved values) rows) (map (resolved values) ready.rows)
table_rows values rows made ready last same =
    subst (λ (k : StoredRows (List Bool) Span). AreLastRows (map (resolved values) rows) (map (resolved values) k.rows)) (sym same)
    (last_rows_mapped (value_at values) rows made.rows last)
