-- The rows of files of look-ups.
use Rattle.std.proofs.Common.{◌≡◌, refl, sym, ◌∙◌, ap, ap₂, subst, inl, inr, arith, ℕ, zero, suc, ◌+◌, ◌<◌, ◌≤◌, Bool, List, [], ◌∷◌, length, map, min, get_or, take, slice_get, Some, None}
use Rattle.std.specs.List.{Contains}
use Rattle.std.proofs.lemmas.Bool.{cases_lt}
use Rattle.std.proofs.lemmas.List.{get_or_default, length-map, length-take}
use Rattle.std.proofs.lemmas.List.Elements.{All-cons, All-nil}
use Rattle.std.proofs.lemmas.Option.{get_or_from_slice_get, slice_get_within}
use Rattle.std.proofs.lemmas.Slice.Zip.{get_or-zip, length-zip}
use Rattle.cidr.specs.laws.BitLaws.{length-bits}
use Rattle.cidr.specs.model.Bits.{bits}
use Rattle.cidr.specs.model.Network.{BeginsWith}
use Rattle.cidr_files.specs.Layout.{wide_words, words}
use Rattle.cidr_files.specs.Tables.{IsFile, IsStoredTable, IsTableCutFrom, part_at, parts_in, stored_networks, value_in}
use Rattle.cidr_files.specs.declared.layout.FileTables.{FileTables}
use Rattle.cidr_lookup.specs.Keys.{prefix_bits}
use Rattle.cidr_lists.specs.Forms.{AreFit, Fits, IsUnfit, IsUnfitAt}
use Rattle.cidr_lists.specs.declared.errors.LineError.{LineError}
use Rattle.cidr_lists.specs.declared.formats.LineFormat.{LineFormat}
use Rattle.cidr_table.proofs.MapLaws.{contains_cases, contains_first, contains_later, contains_nothing}
use Rattle.cidr_table.specs.model.Prefixes.{IsLongestAt, IsLongestMatch, IsLookedUp}
use Rattle.netset_commands.specs.Compiled.{HasTable, HasTheRows}
use Rattle.netset_commands.specs.KeptLines.{IsRowAmong}
use Rattle.netset_commands.specs.Stored.{AreTables, by_family, rows_from, stored_rows, file_rows}

module _ (w : ℕ) (value : ℕ → List ℕ) where
  -- ---- one row after the other
  pub length-rows_from : (networks : List (ℕ × ℕ)) (place : ℕ) → length (rows_from w value networks place) ≡ length networks
  length-rows_from [] place = refl
  length-rows_from (network ∷ networks) place = ap suc (length-rows_from networks (suc place))

  pub row_at : (networks : List (ℕ × ℕ)) (place i : ℕ) → i < length networks
      → get_or (rows_from w value networks place) i ([], []) ≡ (prefix_bits w (get_or networks i (0, 0)), value (place + i))
  row_at [] place i l = absurd (omega (arith, l))
  row_at (network ∷ networks) place zero l = ap (λ (k : ℕ). (prefix_bits w network, value k)) (omega arith)
  row_at (network ∷ networks) place (suc i) l =
      row_at networks (suc place) i (omega (arith, l))
      ∙ ap (λ (k : ℕ). (prefix_bits w (get_or networks i (0, 0)), value k)) (omega arith)

  -- ---- their values
  pub values_fit : (format : LineFormat) (networks : List (ℕ × ℕ)) (place : ℕ) → ((i : ℕ) → i < length networks → Fits format (value (place + i)))
      → AreFit format (rows_from w value networks place)
  values_fit format [] place fits = All-nil (λ (row : List Bool × List ℕ). Fits format row.1)
  values_fit format (network ∷ networks) place fits =
      All-cons (λ (row : List Bool × List ℕ). Fits format row.1) (prefix_bits w network, value place) (rows_from w value networks (suc place))
      (subst (λ (k : ℕ). Fits format (value k)) (omega arith) (fits 0 (omega arith)))
      (values_fit format networks (suc place) (λ i l. subst (λ (k : ℕ). Fits format (value k)) (omega arith) (fits (suc i) (omega (arith, l)))))

  pub fit_more : (format : LineFormat) (row : ℕ) → ((i : ℕ) → i < row → Fits format (value i)) → Fits format (value row) → (i : ℕ) → i < row + 1
      → Fits format (value i)
  fit_more format row fits last i l = elim (cases_lt i row) [
    | inl low ↦ fits i low
    | inr high ↦ (let is : row ≡ i = omega (arith, high, l) in subst (λ (k : ℕ). Fits format (value k)) is last)
  ]

  take_rows : (networks : List (ℕ × ℕ)) (place i : ℕ) → take i (rows_from w value networks place) ≡ rows_from w value (take i networks) place
  take_rows networks place zero = refl
  take_rows [] place (suc i) = refl
  take_rows (network ∷ networks) place (suc i) = ap (λ (rows : List (List Bool × List ℕ)). (prefix_bits w network, value place) ∷ rows) (take_rows networks (suc place) i)

  first_fit : (format : LineFormat) (networks : List (ℕ × ℕ)) (i : ℕ) → ((k : ℕ) → k < i → Fits format (value k)) → AreFit format (take i (rows_from w value networks 0))
  first_fit format networks i fits =
      subst (AreFit format) (sym (take_rows networks 0 i))
      (values_fit format (take i networks) 0
      (λ k l. subst (λ (n : ℕ). Fits format (value n)) (omega arith) (fits k (omega (arith, l, length-take i networks)))))

  pub unfit_at : (format : LineFormat) (networks : List (ℕ × ℕ)) (i number : ℕ) (text : List ℕ) (e : LineError) → i < length networks → number ≡ i + 1
      → ((k : ℕ) → k < i → Fits format (value k)) → text ≡ value i → IsUnfit format text e → IsUnfitAt format (rows_from w value networks 0) number e
  unfit_at format networks i number text e l is fits same unfit = (
    i,
    is,
    omega (arith, l, length-rows_from networks 0),
    first_fit format networks i fits,
    subst (λ (k : List ℕ). IsUnfit format k e)
        (same ∙ (ap value (omega arith) ∙ sym (ap (λ (row : List Bool × List ℕ). row.1) (row_at networks 0 i l)))) unfit,
  )

  -- ---- their networks
  -- a row of these is one of a network
  pub network_of_row : (networks : List (ℕ × ℕ)) (place : ℕ) (row : List Bool × List ℕ) → Contains (rows_from w value networks place) row
      → (network : ℕ × ℕ) × Contains networks network × (row.0 ≡ prefix_bits w network)
  network_of_row [] place row h = absurd (contains_nothing row h)
  network_of_row (network ∷ networks) place row h =
      elim (contains_cases (prefix_bits w network, value place) row (rows_from w value networks (suc place)) h) [
        | inl e ↦ (network, contains_first network networks, sym (ap (λ (r : List Bool × List ℕ). r.0) e))
        | inr later ↦
            let (other, has, is) = network_of_row networks (suc place) row later in
            (other, contains_later network other networks has, is)
      ]

  -- the row of a network
  pub row_of_network : (networks : List (ℕ × ℕ)) (i : ℕ) (network : ℕ × ℕ) → slice_get networks i ≡ Some network
      → Contains (rows_from w value networks 0) (prefix_bits w network, value i)
  row_of_network networks i network here =
      let l : i < length networks = slice_get_within networks i network here in
      let l' : i < length (rows_from w value networks 0) = omega (arith, l, length-rows_from networks 0) in (
        i,
        l',
        get_or_default (rows_from w value networks 0) i (prefix_bits w network, value i) ([], []) l'
            ∙ (row_at networks 0 i l
            ∙ (ap (λ (k : ℕ). (prefix_bits w (get_or networks i (0, 0)), value k)) (omega arith)
            ∙ ap (λ (n : ℕ × ℕ). (prefix_bits w n, value i)) (get_or_from_slice_get networks i network (0, 0) here))),
      )

  -- ---- look-ups
  pub found_row : (asked : List Bool) (networks : List (ℕ × ℕ)) (i : ℕ) (m : IsLongestAt (prefix_bits w) asked networks i)
      → IsLookedUp (λ (p : List Bool). p) asked (rows_from w value networks 0) (Some (prefix_bits w m.key, value i))
  found_row asked networks i m = record {
    here = row_of_network networks i m.key m.here;
    begins = m.begins;
    longest = λ other has begins.
        let (network, contains, is) = network_of_row networks 0 other has in
        let shorter : length (prefix_bits w network) ≤ length (prefix_bits w m.key) = m.longest network contains (subst (BeginsWith asked) is begins) in
        subst (λ (p : List Bool). length p ≤ length (prefix_bits w m.key)) (sym is) shorter;
  }

  pub no_row : (asked : List Bool) (networks : List (ℕ × ℕ)) → IsLongestMatch (prefix_bits w) asked networks None
      → IsLookedUp (λ (p : List Bool). p) asked (rows_from w value networks 0) None
  no_row asked networks none row has begins =
      let (network, contains, is) = network_of_row networks 0 row has in
      none network contains (subst (BeginsWith asked) is begins)

-- the network of a row is the beginning of each address in it
pub network_clipped : (w : ℕ) (asked : List Bool) (network : ℕ × ℕ) → network.1 ≤ w → BeginsWith asked (prefix_bits w network)
    → take network.1 asked ≡ prefix_bits w network
network_clipped w asked network fits begins =
    let long : length (prefix_bits w network) ≡ network.1 = omega (arith, length-take network.1 (bits w network.0), length-bits w network.0, fits) in
    subst (λ (k : ℕ). take k asked ≡ prefix_bits w network) long begins

-- the row that was found, by its length and its value
pub found_clipped : (w padding : ℕ) (numbers : List ℕ → List ℕ) (parts : List (List ℕ)) (steps : ℕ) (asked : List Bool) (i len : ℕ) (value : List ℕ)
    → IsStoredTable w padding numbers parts steps → IsLongestMatch (prefix_bits w) asked (stored_networks numbers parts) (Some i)
    → len ≡ get_or (part_at parts 3) i 0 → value ≡ value_in parts i → IsRowAmong (stored_rows w numbers parts) asked (Some (len, value))
found_clipped w padding numbers parts steps asked i len value table m at valued =
    let networks = stored_networks numbers parts in
    let addresses = numbers (part_at parts 2) in
    let lengths = part_at parts 3 in
    let l : i < length networks = slice_get_within networks i m.key m.here in
    let first : get_or networks i (0, 0) ≡ m.key = get_or_from_slice_get networks i m.key (0, 0) m.here in
    let pair : get_or networks i (0, 0) ≡ (get_or addresses i 0, get_or lengths i 0) =
    get_or-zip addresses lengths i (0, 0) (omega (arith, l, length-zip addresses lengths)) (omega (arith, l, length-zip addresses lengths)) in
    let long : len ≡ m.key.1 = at ∙ ap (λ (n : ℕ × ℕ). n.1) (sym pair ∙ first) in
    let fits : m.key.1 ≤ w = subst (λ (n : ℕ × ℕ). n.1 ≤ w) first (table.look_ups.keys.each i l).fits in
    let named : take len asked ≡ prefix_bits w m.key = ap (λ (k : ℕ). take k asked) long ∙ network_clipped w asked m.key fits m.begins in
    subst (λ (row : List Bool × List ℕ). IsLookedUp (λ (p : List Bool). p) asked (stored_rows w numbers parts) (Some row))
    (ap₂ (λ (p : List Bool) (v : List ℕ). (p, v)) (sym named) (sym valued)) (found_row w (value_in parts) asked networks i m)

-- ---- the rows of a file
pub rows_had : (w : ℕ) (numbers : List ℕ → List ℕ) (parts : List (List ℕ)) → HasTheRows w numbers parts (stored_rows w numbers parts)
rows_had w numbers parts =
    let networks = stored_networks numbers parts in
    let long = length-rows_from w (value_in parts) networks 0 in
    let at : (i : ℕ) → i < length (stored_rows w numbers parts)
    → get_or (stored_rows w numbers parts) i ([], []) ≡ (prefix_bits w (get_or networks i (0, 0)), value_in parts (0 + i)) =
    λ i l. row_at w (value_in parts) networks 0 i (omega (arith, l, long)) in
    record {
      many = sym long;
      networks = λ i l. sym (ap (λ (r : List Bool × List ℕ). r.0) (at i l));
      values = λ i l. ap (value_in parts) (omega arith) ∙ sym (ap (λ (r : List Bool × List ℕ). r.1) (at i l));
    }

pub table_had : (bytes : List ℕ) (table : FileTables) → IsFile bytes → IsTableCutFrom bytes table → HasTable (by_family (file_rows table)) bytes
table_had bytes table file cut = record {
  file = file;
  ipv4 = subst (λ (parts : List (List ℕ)). HasTheRows 32 words parts (stored_rows 32 words (parts_in table.ipv4))) cut.ipv4 (rows_had 32 words (parts_in table.ipv4));
  ipv6 = subst (λ (parts : List (List ℕ)). HasTheRows 128 wide_words parts (stored_rows 128 wide_words (parts_in table.ipv6))) cut.ipv6 (rows_had 128 wide_words (parts_in table.ipv6));
}

-- as many rows as there are addresses with a length
pub rows_counted : {W : Type 0} (value : W → ℕ) (numbers : List ℕ → List ℕ) (parts : List (List ℕ)) (addresses : List W) (rows : ℕ)
    → map value addresses ≡ numbers (part_at parts 2) → rows ≡ min (length addresses) (length (part_at parts 3)) → length (stored_networks numbers parts) ≡ rows
rows_counted value numbers parts addresses rows are is =
    omega (arith, is, length-zip (numbers (part_at parts 2)) (part_at parts 3), ap length are, length-map addresses value)

pub tables_cut : (bytes : List ℕ) (table : FileTables) → IsFile bytes → IsTableCutFrom bytes table → AreTables table
tables_cut bytes table file cut = record {
  ipv4 = rw (cut.ipv4, cut.ipv4_steps) file.ipv4;
  ipv6 = rw (cut.ipv6, cut.ipv6_steps) file.ipv6;
}
