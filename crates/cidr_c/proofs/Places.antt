-- The parts of a file lie at their places.
use Rattle.std.proofs.Common.{◌≡◌, refl, sym, ◌∙◌, ap, subst, arith, inl, inr, ℕ, ◌+◌, ◌-◌, ◌*◌, ◌<◌, ◌≤◌, ◌⊎◌, List, [], ◌∷◌, add-zero, drop, get_or, length, take}
use Rattle.std.proofs.lemmas.List.{drop-drop, drop-take, length-take, take-take}
use Rattle.std.specs.List.{slice_range}
use Rattle.cidr_files.specs.Layout.{IsLaidOut, bytes_behind, header, ipv4_counts, ipv4_parts, ipv4_sizes, ipv6_counts, ipv6_parts, ipv6_sizes, padded, padded_room, parts_by_size, sizes_of}
use Rattle.cidr_files.specs.Tables.{AreOffsets, IsStoredTable}
use Rattle.cidr_files.specs.declared.layout.Counts.{Counts}
use Rattle.cidr_c.specs.model.Files.{LieInBytes, bytes_at, file_in, parts_at, table_from}
use Rattle.cidr_c.specs.declared.files.CFile.{CFile}

-- parts of these sizes, the first at a place and each behind the one before
abbrev cut_from : ℕ → List ℕ → List ℕ → List (List ℕ)
cut_from place [] bytes = []
cut_from place (size ∷ sizes) bytes = bytes_at bytes place size ∷ cut_from (place + padded size) sizes bytes

parts_cut : (sizes : List ℕ) (place : ℕ) (bytes : List ℕ) → cut_from place sizes bytes ≡ parts_by_size sizes (drop place bytes)
parts_cut [] place bytes = refl
parts_cut (size ∷ sizes) place bytes =
    ap (λ rest. bytes_at bytes place size ∷ rest)
    (parts_cut sizes (place + padded size) bytes ∙ ap (parts_by_size sizes) (sym (drop-drop (padded size) place bytes)))

parts_from : (size place : ℕ) (counts : Counts) (bytes : List ℕ)
    → parts_at size (table_from place size counts) bytes ≡ parts_by_size (sizes_of size counts) (drop place bytes)
parts_from size place counts bytes = parts_cut (sizes_of size counts) place bytes

behind_from : (sizes : List ℕ) (place : ℕ) (bytes : List ℕ) → bytes_behind sizes (drop place bytes) ≡ drop (place + padded_room sizes) bytes
behind_from [] place bytes = ap (λ k. drop k bytes) (sym (add-zero place))
behind_from (size ∷ sizes) place bytes =
    let e : place + padded size + padded_room sizes ≡ place + (padded size + padded_room sizes) = omega arith in
    ap (bytes_behind sizes) (drop-drop (padded size) place bytes) ∙ (behind_from sizes (place + padded size) bytes ∙ ap (λ k. drop k bytes) e)

-- the parts of the two tables
pub ipv4_at : (bytes : List ℕ) (file : CFile) → file ≡ file_in bytes → parts_at 4 file.ipv4 bytes ≡ ipv4_parts bytes
ipv4_at bytes file same = ap (λ (f : CFile). parts_at 4 f.ipv4 bytes) same ∙ parts_from 4 header (ipv4_counts bytes) bytes

pub ipv6_at : (bytes : List ℕ) (file : CFile) → file ≡ file_in bytes → parts_at 16 file.ipv6 bytes ≡ ipv6_parts bytes
ipv6_at bytes file same =
    ap (λ (f : CFile). parts_at 16 f.ipv6 bytes) same
    ∙ (parts_from 16 (header + padded_room (ipv4_sizes bytes)) (ipv6_counts bytes) bytes
    ∙ ap (parts_by_size (ipv6_sizes bytes)) (sym (behind_from (ipv4_sizes bytes) header bytes)))

-- what holds of the parts of a table where they lie, holds of it
pub moved : (w padding : ℕ) (numbers : List ℕ → List ℕ) (Holds : List (List ℕ) → ℕ → Type 0) (here parts : List (List ℕ)) (s steps a address : ℕ)
    → here ≡ parts → s ≡ steps → a ≡ address → (IsStoredTable w padding numbers here s → Holds here a) → IsStoredTable w padding numbers parts steps
    → Holds parts address
moved w padding numbers Holds here parts s steps a address same all addresses holds good =
    let stored : IsStoredTable w padding numbers here s =
    subst (λ (ps : List (List ℕ)). IsStoredTable w padding numbers ps s) (sym same) (subst (λ (k : ℕ). IsStoredTable w padding numbers parts k) (sym all) good) in
    subst (λ (ps : List (List ℕ)). Holds ps address) same (subst (λ (k : ℕ). Holds here k) addresses (holds stored))

-- the bytes of a value, among those of the file and among those of the part of the values
pub value_there : (bytes : List ℕ) (place size from to : ℕ) → from ≤ to → to ≤ length (bytes_at bytes place size)
    → bytes_at bytes (place + from) (to - from) ≡ slice_range (bytes_at bytes place size) from to
value_there bytes place size from to ordered inside =
    let part = drop place bytes in
    let within : to ≤ size = omega (arith, length-take size part) in
    let whole : from + (size - from) ≡ size = omega arith in
    let rest : drop from (take size part) ≡ take (size - from) (drop from part) =
    ap (λ k. drop from (take k part)) (sym whole) ∙ drop-take from (size - from) part in
    let less : to - from ≤ size - from = omega arith in
    ap (take (to - from)) (sym (drop-drop from place bytes))
    ∙ (sym (take-take (to - from) (size - from) (drop from part) less) ∙ ap (take (to - from)) (sym rest))

-- what offsets say of a row that there is
pub no_ends : (offsets : List ℕ) (rows size row : ℕ) → AreOffsets offsets rows size → row < rows
    → ¬ ((get_or offsets (row + 1) 0 < get_or offsets row 0) ⊎ (size < get_or offsets (row + 1) 0))
no_ends offsets rows size row good l (inl lt) = absurd (omega (arith, lt, good.ascending row (row + 1) (omega arith) (omega arith)))
no_ends offsets rows size row good l (inr lt) = absurd (omega (arith, lt, good.ascending (row + 1) rows (omega arith) (omega arith), good.last))

-- ---- inside of the bytes
-- parts of these sizes, one behind the other, of which the third and the fourth are not looked at
all_inside : (p a b c d e f n : ℕ)
    → p + (padded a + (padded b + (padded c + (padded d + (padded e + (padded f + 0)))))) ≤ n
    → (p + a ≤ n) × (p + padded a + b ≤ n) × (p + padded a + padded b + padded c + padded d + e ≤ n)
    × (p + padded a + padded b + padded c + padded d + padded e + f ≤ n)
all_inside p a b c d e f n h = (omega (arith, h), omega (arith, h), omega (arith, h), omega (arith, h))

inside_from : (size place : ℕ) (counts : Counts) (bytes : List ℕ) → place + padded_room (sizes_of size counts) ≤ length bytes
    → LieInBytes (table_from place size counts) bytes
inside_from size place counts bytes fits =
    let all =
    all_inside place (4 * counts.entries) (4 * counts.words) (size * counts.rows) counts.rows (4 * (counts.rows + 1)) counts.values (length bytes)
    fits in
    record { first = all.0; words = all.1; offsets = all.2; values = all.3 }

-- the parts of the two tables of a file are
pub ipv4_inside : (bytes : List ℕ) (file : CFile) → file ≡ file_in bytes → IsLaidOut bytes → LieInBytes file.ipv4 bytes
ipv4_inside bytes file same laid_out =
    subst (λ (f : CFile). LieInBytes f.ipv4 bytes) (sym same) (inside_from 4 header (ipv4_counts bytes) bytes (omega (arith, laid_out.long)))

pub ipv6_inside : (bytes : List ℕ) (file : CFile) → file ≡ file_in bytes → IsLaidOut bytes → LieInBytes file.ipv6 bytes
ipv6_inside bytes file same laid_out =
    subst (λ (f : CFile). LieInBytes f.ipv6 bytes) (sym same)
    (inside_from 16 (header + padded_room (ipv4_sizes bytes)) (ipv6_counts bytes) bytes (omega (arith, laid_out.long)))
