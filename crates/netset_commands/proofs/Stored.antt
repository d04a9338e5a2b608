-- The rows of a table as they are read.
use Rattle.std.proofs.Common.{◌≡◌, refl, sym, ◌∙◌, ap, ap₂, subst, ℕ, ◌+◌, ◌≤◌, Bool, List, [], ◌∷◌, ◌++◌, length, take, drop, map, arith, Option, Some, None, Result, Ok, Err, append-nil, length-append, length-drop, le_refl}
use Rattle.std.specs.List.{AllZip, each_same}
use Rattle.netset_commands.specs.Stored.{AreFileBytes}
use Rattle.std.proofs.lemmas.List.{drop-append-le, take-append-le, drop_at, take_all, map-append, flat_map_more}
use Rattle.cidr.specs.declared.cidr.combined.IpCidr.{IpCidr}
use Rattle.cidr.specs.declared.cidr.combined.IpCidr.TheVariants.{V4, V6}
use Rattle.cidr.specs.declared.family.Family.{Family}
use Rattle.cidr.specs.declared.family.Family.TheVariants.{Ipv4, Ipv6}
use Rattle.cidr_table.specs.model.LastRows.{AreLastRows}
use Rattle.cidr_lists.specs.Lists.{Text, bits_in, lines_of}
use Rattle.cidr_lists.specs.Forms.{IsBadRow, RowSays}
use Rattle.cidr_lists.specs.Tables.{row_in, rows_in, said_in, AreCopies, AreSpansWithin, IsTable, Stores, resolved, stored, value_at}
use Rattle.netset_commands.specs.Keeping.{AllSaid}
use Rattle.netset_commands.specs.LineKinds.{AddsSaid, HasRows, ReadsFileLines}
use Rattle.netset_commands.specs.LookUps.{Adds, AddsRow, ReadsFileRows}
use Rattle.netset_commands.specs.declared.errors.ListReadError.{ListReadError}
use Rattle.netset_commands.specs.declared.errors.ListReadError.TheVariants.{Line, Input, NoMemory}
use Rattle.netset_commands.specs.declared.input.keeping.Said.TheVariants.{Rows as AsRows}
use Rattle.cidr_lists.specs.declared.formats.LineFormat.{LineFormat}
use Rattle.cidr_lists.specs.declared.forms.RowForm.{RowForm}
use Rattle.cidr_lists.specs.declared.forms.RowLayout.{RowLayout}
use Rattle.cidr_lists.specs.declared.records.ListForm.{ListForm}
use Rattle.cidr_lists.specs.declared.rows.RowList.{RowList}
use Rattle.cidr_lists.specs.declared.rows.Span.{Span}
use Rattle.netset_commands.proofs.Zips.{zip_behind}

-- ---- values
value_kept : (values more : List ℕ) (span : Span) → span.start + span.len ≤ length values → value_at (values ++ more) span ≡ value_at values span
value_kept values more span within =
    let front : span.start ≤ length values = omega (arith, within) in
    let room : span.len ≤ length (drop span.start values) = omega (arith, within, length-drop span.start values) in
    ap (take span.len) (drop-append-le span.start values more front) ∙ take-append-le span.len (drop span.start values) more room

value_last : (values value : List ℕ) → value_at (values ++ value) (record { start = length values; len = length value }) ≡ value
value_last values value = ap (take (length value)) (drop_at values value (length values) refl) ∙ take_all (length value) value (le_refl (length value))

rows_kept : (values more : List ℕ) (rows : List (List Bool × Span)) → AreSpansWithin values rows → map (resolved (values ++ more)) rows ≡ map (resolved values) rows
rows_kept values more [] h = refl
rows_kept values more (row ∷ rows) h =
    ap₂ (λ (v : List ℕ) (xs : List (List Bool × List ℕ)). (row.0, v) ∷ xs) (value_kept values more row.1 h.0) (rows_kept values more rows h.1)

within_kept : (values more : List ℕ) (rows : List (List Bool × Span)) → AreSpansWithin values rows → AreSpansWithin (values ++ more) rows
within_kept values more [] h = tt
within_kept values more (row ∷ rows) h = (omega (arith, h.0, length-append values more), within_kept values more rows h.1)

within_both : (values : List ℕ) (rows others : List (List Bool × Span)) → AreSpansWithin values rows → AreSpansWithin values others → AreSpansWithin values (rows ++ others)
within_both values [] others h k = k
within_both values (row ∷ rows) others h k = (h.0, within_both values rows others h.1 k)

-- ---- one more row
resolved_row : (family : Family) (network : IpCidr) (span : Span) (values : List ℕ)
    → map (resolved values) (row_in family (network, span)) ≡ row_in family (network, value_at values span)
resolved_row Ipv4 (V4 p) span values = refl
resolved_row Ipv4 (V6 p) span values = refl
resolved_row Ipv6 (V4 p) span values = refl
resolved_row Ipv6 (V6 p) span values = refl

row_within : (family : Family) (network : IpCidr) (span : Span) (values : List ℕ) → span.start + span.len ≤ length values
    → AreSpansWithin values (row_in family (network, span))
row_within Ipv4 (V4 p) span values h = (h, tt)
row_within Ipv4 (V6 p) span values h = tt
row_within Ipv6 (V4 p) span values h = tt
row_within Ipv6 (V6 p) span values h = (h, tt)

abbrev span_of : List ℕ → List ℕ → Span
span_of values value = record { start = length values; len = length value }

row_stored : (values value : List ℕ) (rows : List (List Bool × Span)) (family : Family) (network : IpCidr) → AreSpansWithin values rows
    → map (resolved (values ++ value)) (rows ++ row_in family (network, span_of values value)) ≡ map (resolved values) rows ++ row_in family (network, value)
row_stored values value rows family network h =
    map-append (resolved (values ++ value)) rows (row_in family (network, span_of values value))
    ∙ ap₂ (λ (a b : List (List Bool × List ℕ)). a ++ b) (rows_kept values value rows h)
    (resolved_row family network (span_of values value) (values ++ value) ∙ ap (λ (v : List ℕ). row_in family (network, v)) (value_last values value))

row_stored_within : (values value : List ℕ) (rows : List (List Bool × Span)) (family : Family) (network : IpCidr) → AreSpansWithin values rows
    → AreSpansWithin (values ++ value) (rows ++ row_in family (network, span_of values value))
row_stored_within values value rows family network h =
    within_both (values ++ value) rows (row_in family (network, span_of values value)) (within_kept values value rows h)
    (row_within family network (span_of values value) (values ++ value) (omega (arith, length-append values value)))

-- ---- the rows that lines say
pub none_stored : (rows : RowList) → rows.v4.items ≡ [] → rows.v6.items ≡ [] → Stores rows []
none_stored rows four six =
    let none : (family : Family) → stored rows family ≡ [] = elim [ Ipv4 ↦ four | Ipv6 ↦ six ] in
    record {
      same = λ family. ap (map (resolved rows.values.items)) (none family);
      within = λ family. subst (AreSpansWithin rows.values.items) (sym (none family)) tt;
    }

pub stored_more : (old new : RowList) (said : List (Option (IpCidr × List ℕ))) (one : Option (IpCidr × List ℕ)) → Stores old said → Adds old new one
    → Stores new (said ++ one ∷ [])
stored_more old new said None s same = subst (λ (k : RowList). Stores k (said ++ None ∷ [])) (sym same) (record {
  same = λ family. s.same family ∙ (sym (append-nil (rows_in family said)) ∙ flat_map_more (said_in family) [] said None);
  within = s.within;
})
stored_more old new said (Some (network, value)) s p = record {
  same = λ family.
      ap₂ (λ (vs : List ℕ) (rs : List (List Bool × Span)). map (resolved vs) rs) p.values (p.rows family)
      ∙ (row_stored old.values.items value (stored old family) family network (s.within family)
      ∙ (ap (λ (k : List (List Bool × List ℕ)). k ++ row_in family (network, value)) (s.same family)
      ∙ flat_map_more (said_in family) [] said (Some (network, value))));
  within = λ family.
      subst (λ (vs : List ℕ). AreSpansWithin vs (stored new family)) (sym p.values)
      (subst (AreSpansWithin (old.values.items ++ value)) (sym (p.rows family)) (row_stored_within old.values.items value (stored old family) family network (s.within family)));
}

pub rows_longer : (row : RowForm) (form : ListForm) (line : List ℕ) (number : ℕ) (old new : RowList) (r : Result (Unit {0}) ListReadError)
    → AddsRow row form line number old new r → AddsSaid (HasRows row form) (IsBadRow row (bits_in form)) line number old new r
rows_longer row form line number old new (Ok done) (one, says, adds) = λ start before at has none.
    let (said, are, stores) = has none in
    (said ++ one ∷ [], zip_behind (RowSays row (bits_in form)) before said line one are says, stored_more old new said one stores adds)
rows_longer row form line number old new (Err (Line n e)) h = h
rows_longer row form line number old new (Err Input) h = absurd h
rows_longer row form line number old new (Err NoMemory) h = tt

-- ---- the table of the rows
pub rows_read : (row : RowForm) (contents : Option Text) (name : List ℕ) (old new : RowList) → Stores old []
    → ReadsFileLines (λ form. HasRows row form old) (λ form. IsBadRow row (bits_in form)) contents name new (Ok tt) → ReadsFileRows row contents name (Ok new)
rows_read row contents name old new none h text is = h text is none

-- two ways of reading rows are the same
pub same_form : (one other : RowForm) → one.layout ≡ other.layout → one.values ≡ other.values → one ≡ other
same_form one other same told = ap₂ (λ (l : RowLayout) (f : LineFormat). record { layout = l; values = f }) same told

-- the rows of a file, as they were kept
same_rows : (rows others : RowList) → AreCopies rows others → (family : Family) → stored others family ≡ stored rows family
same_rows rows others same Ipv4 = same.v4
same_rows rows others same Ipv6 = same.v6

stored_same : (rows others : RowList) (said : List (Option (IpCidr × List ℕ))) → AreCopies rows others → Stores rows said → Stores others said
stored_same rows others said same s = record {
  same = λ family.
      ap₂ (λ (vs : List ℕ) (rs : List (List Bool × Span)). map (resolved vs) rs) same.values (same_rows rows others same family) ∙ s.same family;
  within = λ family.
      subst (λ (vs : List ℕ). AreSpansWithin vs (stored others family)) (sym same.values)
      (subst (AreSpansWithin rows.values.items) (sym (same_rows rows others same family)) (s.within family));
}

pub rows_copied : (form said : RowForm) (contents : Option Text) (name : List ℕ) (kept rows : RowList)
    → ((text : Text) → contents ≡ Some text → AllSaid text.form (lines_of text.bytes) (AsRows said kept)) → said ≡ form → AreCopies kept rows
    → ReadsFileRows form contents name (Ok rows)
rows_copied form said contents name kept rows is read same text at =
    let (all, says, stores) = subst (λ (k : RowForm). AllSaid text.form (lines_of text.bytes) (AsRows k kept)) read (is text at) in
    (all, says, stored_same kept rows all same stores)

pub bytes_copied : (contents : Option Text) (kept bytes : List ℕ) → AreFileBytes contents kept → AllZip (λ x y. y ≡ x) kept bytes → AreFileBytes contents bytes
bytes_copied contents kept bytes are copies = λ text is.
    let (begins, same) = are text is in
    (begins, each_same kept bytes copies ∙ same)

pub table_read : (form : RowForm) (contents : Option Text) (name : List ℕ) (rows : RowList) (table : Family → List (List Bool × List ℕ)) → ReadsFileRows form contents name (Ok rows)
    → ((family : Family) → AreLastRows (map (resolved rows.values.items) (stored rows family)) (table family)) → (text : Text) → contents ≡ Some text → IsTable form text table
table_read form contents name rows table reads last = λ text is.
    let (said, says, s) = reads text is in
    (said, says, λ family. subst (λ (k : List (List Bool × List ℕ)). AreLastRows k (table family)) (s.same family) (last family))
