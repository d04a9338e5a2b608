-- Rows as a file of look-ups has them.
use Rattle.std.proofs.Common.{◌≡◌, refl, sym, ◌∙◌, ap, ap₂, subst, arith, inl, inr, ℕ, ◌+◌, ◌-◌, ◌^◌, ◌<◌, ◌≤◌, Bool, List, [], ◌∷◌, ◌++◌, length, get_or, map, take, drop}
use Rattle.std.specs.List.{slice_range}
use Rattle.std.proofs.lemmas.Bool.{cases_eq}
use Rattle.std.proofs.lemmas.List.{drop-append-le, drop_at, get_or-map, get_or_append_left, get_or_default, get_or_push, length-append, length-drop, length-map, length_push, take-append-le, take_all}
use Rattle.std.proofs.lemmas.List.Sums.{sum_by-take-le, sum_by_more}
use Rattle.cidr.specs.model.Bits.{number}
use Rattle.cidr.specs.model.Network.{first_of}
use Rattle.cidr_files.specs.Contents.{HasRows}
use Rattle.cidr_files.specs.Tables.{AreOffsets, stored_networks, value_in}
use Rattle.cidr_files.specs.declared.contents.FileRows.{FileRows}
use Rattle.cidr_lookup.proofs.Networks.{one_fits, one_more as one_key, own_bits}
use Rattle.cidr_lookup.specs.Keys.{key_networks, prefix_bits}
use Rattle.cidr_lookup.specs.Rows.{numbered, numbered_rows}
use Rattle.cidr_lookup.specs.declared.key.Key.{Key}
use Rattle.cidr_lists.specs.Tables.{value_at}
use Rattle.cidr_lists.specs.declared.rows.Span.{Span}
use Rattle.netset_commands.specs.Columns.{AreColumns, value_bytes}
use Rattle.netset_commands.specs.Compiled.{HasTheRows}
use Rattle.netset_commands.specs.declared.output.compiled.Columns.{Columns}

-- ---- values one behind the other
range_before : (xs ys : List ℕ) (a b : ℕ) → a ≤ length xs → b ≤ length xs → slice_range (xs ++ ys) a b ≡ slice_range xs a b
range_before xs ys a b from to =
    ap (take (b - a)) (drop-append-le a xs ys from)
    ∙ take-append-le (b - a) (drop a xs) ys (omega (arith, length-drop a xs))

range_behind : (xs ys : List ℕ) (a b : ℕ) → a ≡ length xs → b ≡ length xs + length ys → slice_range (xs ++ ys) a b ≡ ys
range_behind xs ys a b from to =
    ap (take (b - a)) (drop_at xs ys a (sym from)) ∙ take_all (b - a) ys (omega arith)

-- the first rows as columns
pub record AreUpTo {C W : Type 0} (w : ℕ) (value : W → ℕ) (bits_of : C → List Bool) (all : List ℕ) (rows : List (C × Span)) (keys : List (Key W))
    (offsets values : List ℕ) (n : ℕ) : Type 0 where
  pub networks : key_networks value keys ≡ numbered_rows bits_of w (take n rows)
  pub fit : (any : C × Span) (i : ℕ) → i < n → length (bits_of (get_or rows i any).0) ≤ w
  pub places : AreOffsets offsets n (length values)
  pub each : (any : C × Span) (i : ℕ) → i < n → slice_range values (get_or offsets i 0) (get_or offsets (i + 1) 0) ≡ value_at all (get_or rows i any).1
  pub total : length values ≡ value_bytes all (take n rows)

module _ {C W : Type 0} (w : ℕ) (value : W → ℕ) (bits_of : C → List Bool) (all : List ℕ) (rows : List (C × Span)) where
  -- none
  pub none_yet : (keys : List (Key W)) (offsets values : List ℕ) → keys ≡ [] → offsets ≡ 0 ∷ [] → values ≡ []
      → AreUpTo w value bits_of all rows keys offsets values 0
  none_yet keys offsets values k o v =
      let first : get_or offsets 0 0 ≡ 0 = ap (λ (xs : List ℕ). get_or xs 0 0) o in
      record {
        networks = ap (key_networks value) k;
        fit = λ any i l. absurd (omega (arith, l));
        places = record {
          many = ap length o;
          first = first;
          ascending = λ i j le le'.
              let zero_i : i ≡ 0 = omega (arith, le, le') in
              let at : get_or offsets i 0 ≡ 0 = ap (λ (m : ℕ). get_or offsets m 0) zero_i ∙ first in
              omega (arith, at);
          last = first ∙ sym (ap length v);
        };
        each = λ any i l. absurd (omega (arith, l));
        total = ap length v;
      }

  -- how many bytes of values there are with one more
  pub total_more : (values added : List ℕ) (n : ℕ) (row : C × Span) → n < length rows → row ≡ get_or rows n row → added ≡ value_at all row.1
      → length values ≡ value_bytes all (take n rows) → length (values ++ added) ≡ value_bytes all (take (n + 1) rows)
  total_more values added n row l is valued total =
      let f : C × Span → ℕ = λ r. length (value_at all r.1) in
      length-append values added
      ∙ (ap₂ (λ (a b : ℕ). a + b) total (ap length valued ∙ ap f is) ∙ sym (sum_by_more f rows n row l))

  -- one more
  more_places : (offsets values added : List ℕ) (n : ℕ) → AreOffsets offsets n (length values)
      → AreOffsets (offsets ++ length (values ++ added) ∷ []) (n + 1) (length (values ++ added))
  more_places offsets values added n st =
      let end : ℕ = length (values ++ added) in
      let long : end ≡ length values + length added = length-append values added in
      let behind : (i : ℕ) → i < n + 1 → get_or (offsets ++ end ∷ []) i 0 ≡ get_or offsets i 0 =
      λ i l. get_or_append_left offsets (end ∷ []) 0 i (omega (arith, st.many)) in
      let last : get_or (offsets ++ end ∷ []) (n + 1) 0 ≡ end = get_or_push offsets end 0 (n + 1) st.many in
      record {
        many = length_push offsets end ∙ ap (λ (k : ℕ). k + 1) st.many;
        first = behind 0 (omega arith) ∙ st.first;
        ascending = λ i k le le'. elim (cases_eq k (n + 1)) [
          | inl e ↦ elim (cases_eq i (n + 1)) [
            | inl e' ↦ omega (arith, ap (λ (j : ℕ). get_or (offsets ++ end ∷ []) j 0) e, ap (λ (j : ℕ). get_or (offsets ++ end ∷ []) j 0) e')
            | inr other ↦ omega (arith, ap (λ (j : ℕ). get_or (offsets ++ end ∷ []) j 0) e, last, long, behind i (omega arith), st.ascending i n (omega arith) (omega arith), st.last)
          ]
          | inr other ↦ omega (arith, behind i (omega arith), behind k (omega arith), st.ascending i k le (omega arith))
        ];
        last = last;
      }

  one_more : (keys : List (Key W)) (offsets values : List ℕ) (n : ℕ) (row : C × Span) (key : Key W) (added : List ℕ) → n < length rows → row ≡ get_or rows n row
      → value key.address ≡ number (first_of w (bits_of row.0)) → key.len ≡ length (bits_of row.0) → key.len ≤ w → added ≡ value_at all row.1
      → AreUpTo w value bits_of all rows keys offsets values n
      → AreUpTo w value bits_of all rows (keys ++ key ∷ []) (offsets ++ length (values ++ added) ∷ []) (values ++ added) (n + 1)
  one_more keys offsets values n row key added l is addressed long short valued st =
      let end : ℕ = length (values ++ added) in
      let behind : (i : ℕ) → i < n + 1 → get_or (offsets ++ end ∷ []) i 0 ≡ get_or offsets i 0 =
      λ i l'. get_or_append_left offsets (end ∷ []) 0 i (omega (arith, st.places.many)) in
      let last : get_or (offsets ++ end ∷ []) (n + 1) 0 ≡ end = get_or_push offsets end 0 (n + 1) st.places.many in
      let within : (i : ℕ) → i < n + 1 → get_or offsets i 0 ≤ length values =
      λ i l'. omega (arith, st.places.ascending i n (omega arith) (omega arith), st.places.last) in
      record {
        networks = one_key w bits_of value rows keys (keys ++ key ∷ []) n row key refl l is addressed long st.networks;
        fit = one_fits w bits_of rows n row l is (omega (arith, long, short)) st.fit;
        places = more_places offsets values added n st.places;
        each = λ any i l'. elim (cases_eq i n) [
          | inl e ↦
              ap₂ (λ (a b : ℕ). slice_range (values ++ added) a b)
              (ap (λ (j : ℕ). get_or (offsets ++ end ∷ []) j 0) e ∙ (behind n (omega arith) ∙ st.places.last))
              (ap (λ (j : ℕ). get_or (offsets ++ end ∷ []) (j + 1) 0) e ∙ (last ∙ length-append values added))
              ∙ (range_behind values added (length values) (length values + length added) refl refl
              ∙ (valued ∙ (ap (λ (r : C × Span). value_at all r.1) (is ∙ get_or_default rows n row any l)
              ∙ ap (λ (j : ℕ). value_at all (get_or rows j any).1) (sym e))))
          | inr other ↦
              ap₂ (λ (a b : ℕ). slice_range (values ++ added) a b) (behind i (omega arith)) (behind (i + 1) (omega arith))
              ∙ (range_before values added (get_or offsets i 0) (get_or offsets (i + 1) 0) (within i (omega arith)) (within (i + 1) (omega arith))
              ∙ st.each any i (omega arith))
        ];
        total = total_more values added n row l is valued st.total;
      }

  pub next : (keys keys' : List (Key W)) (offsets offsets' values values' : List ℕ) (n : ℕ) (row : C × Span) (key : Key W) (added : List ℕ) (end : ℕ)
      → keys' ≡ keys ++ key ∷ [] → values' ≡ values ++ added → offsets' ≡ offsets ++ end ∷ [] → end ≡ length values'
      → n < length rows → row ≡ get_or rows n row
      → value key.address ≡ number (first_of w (bits_of row.0)) → key.len ≡ length (bits_of row.0) → key.len ≤ w → added ≡ value_at all row.1
      → AreUpTo w value bits_of all rows keys offsets values n → AreUpTo w value bits_of all rows keys' offsets' values' (n + 1)
  next keys keys' offsets offsets' values values' n row key added end k v o ends l is addressed long short valued st =
      let o' : offsets' ≡ offsets ++ length (values ++ added) ∷ [] = o ∙ ap (λ (m : ℕ). offsets ++ m ∷ []) (ends ∙ ap length v) in
      subst (λ (ks : List (Key W)). AreUpTo w value bits_of all rows ks offsets' values' (n + 1)) (sym k)
      (subst (λ (os : List ℕ). AreUpTo w value bits_of all rows (keys ++ key ∷ []) os values' (n + 1)) (sym o')
      (subst (λ (vs : List ℕ). AreUpTo w value bits_of all rows (keys ++ key ∷ []) (offsets ++ length (values ++ added) ∷ []) vs (n + 1)) (sym v)
      (one_more keys offsets values n row key added l is addressed long short valued st)))

  -- too many bytes of values
  pub too_long : (values values' added : List ℕ) (n : ℕ) (row : C × Span) → values' ≡ values ++ added → 2 ^ 32 ≤ length values'
      → n < length rows → row ≡ get_or rows n row → added ≡ value_at all row.1 → length values ≡ value_bytes all (take n rows)
      → 2 ^ 32 ≤ value_bytes all rows
  too_long values values' added n row v long l is valued total =
      omega (arith, ap length v, total_more values added n row l is valued total, sum_by-take-le (λ (r : C × Span). length (value_at all r.1)) rows (n + 1), long)

  -- all
  pub all_columns : (columns : Columns W) (n : ℕ) → length rows ≤ n → n ≤ length rows
      → AreUpTo w value bits_of all rows columns.keys.items columns.offsets.items columns.values.items n
      → AreColumns w value bits_of all rows columns
  all_columns columns n end most st =
      let same : n ≡ length rows = omega arith in
      let all_rows : take n rows ≡ rows = take_all n rows end in
      record {
        networks = st.networks ∙ ap (numbered_rows bits_of w) all_rows;
        fit = λ any i l. st.fit any i (omega arith);
        offsets = subst (λ (k : ℕ). AreOffsets columns.offsets.items k (length columns.values.items)) same st.places;
        values = λ any i l. st.each any i (omega arith);
        total = st.total ∙ ap (value_bytes all) all_rows;
      }

-- ---- a file of the columns
module _ {C W : Type 0} (w : ℕ) (value : W → ℕ) (bits_of : C → List Bool) (all : List ℕ) where
  -- a row with its value
  abbrev pub said : C × Span → List Bool × List ℕ
  said row = (bits_of row.0, value_at all row.1)

  module _ (numbers : List ℕ → List ℕ) (parts : List (List ℕ)) where
    values_of : (rows : List (C × Span)) (columns : Columns W) (file : FileRows W) → AreColumns w value bits_of all rows columns → file.offsets.now ≡ columns.offsets.items
        → file.values.now ≡ columns.values.items → HasRows numbers parts value file → (any : C × Span) (i : ℕ) → i < length rows → value_in parts i ≡ value_at all (get_or rows i any).1
    values_of rows columns file are offsets values has any i l =
        ap₂ (λ (xs os : List ℕ). slice_range xs (get_or os i 0) (get_or os (i + 1) 0)) (has.values_are ∙ values) (has.offsets_are ∙ offsets)
        ∙ are.values any i l

    said_values : (rows : List (C × Span)) → ((any : C × Span) (i : ℕ) → i < length rows → value_in parts i ≡ value_at all (get_or rows i any).1)
        → (i : ℕ) → i < length (map said rows) → value_in parts i ≡ (get_or (map said rows) i ([], [])).1
    said_values [] each i l = absurd (omega (arith, l))
    said_values (row ∷ rows) each i l =
        let l' : i < length (row ∷ rows) = omega (arith, length-map (row ∷ rows) said) in
        each row i l' ∙ sym (ap (λ (p : List Bool × List ℕ). p.1) (get_or-map said (row ∷ rows) i row ([], []) l'))

    -- the bits of the networks
    said_networks : (rows : List (C × Span)) → ((any : C × Span) (i : ℕ) → i < length rows → length (bits_of (get_or rows i any).0) ≤ w)
        → (i : ℕ) → i < length (map said rows)
        → prefix_bits w (get_or (numbered_rows bits_of w rows) i (0, 0)) ≡ (get_or (map said rows) i ([], [])).0
    said_networks [] fit i l = absurd (omega (arith, l))
    said_networks (row ∷ rows) fit i l =
        let l' : i < length (row ∷ rows) = omega (arith, length-map (row ∷ rows) said) in
        let pair : C × Span → ℕ × ℕ = λ r. numbered w (bits_of r.0) in
        ap (prefix_bits w) (get_or-map pair (row ∷ rows) i row (0, 0) l')
        ∙ (own_bits w (bits_of (get_or (row ∷ rows) i row).0) (fit row i l')
        ∙ sym (ap (λ (p : List Bool × List ℕ). p.0) (get_or-map said (row ∷ rows) i row ([], []) l')))

    pub has_the_rows : (rows : List (C × Span)) (columns : Columns W) (file : FileRows W) → AreColumns w value bits_of all rows columns → file.keys.now ≡ columns.keys.items
        → file.offsets.now ≡ columns.offsets.items → file.values.now ≡ columns.values.items → HasRows numbers parts value file
        → HasTheRows w numbers parts (map said rows)
    has_the_rows rows columns file are keys offsets values has =
        let pair : C × Span → ℕ × ℕ = λ r. numbered w (bits_of r.0) in
        let networks : stored_networks numbers parts ≡ numbered_rows bits_of w rows = has.networks_are ∙ (ap (key_networks value) keys ∙ are.networks) in
        record {
          many = ap length networks ∙ (length-map rows pair ∙ sym (length-map rows said));
          networks = λ i l. ap (λ (xs : List (ℕ × ℕ)). prefix_bits w (get_or xs i (0, 0))) networks ∙ said_networks rows are.fit i l;
          values = said_values rows (values_of rows columns file are offsets values has);
        }
