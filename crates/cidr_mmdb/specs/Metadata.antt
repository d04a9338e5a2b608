-- The metadata (Database Metadata): which bytes they are, and what they say of the search tree.
use Rattle.std.specs.Prelude.{◌≡◌, ℕ, zero, suc, ◌+◌, ◌*◌, ◌≤◌, ◌<◌, Bool, true, false, List, ◌∷◌, length, slice_range, codes, Option, Some, None, Result, Ok, Err, ◌==◌, if◌then◌else◌, nat_lt, nat_eq}
use Rattle.std.specs.Cmp.Lexicographic.{pointwise}
use Rattle.cidr_mmdb.specs.Fields.{◌>>=◌, field_at, leaf_end, name_at}
use Rattle.cidr_mmdb.specs.Numbers.{number_at}
use Rattle.cidr_mmdb.specs.declared.kinds.Field.{Field}
use Rattle.cidr_mmdb.specs.declared.kinds.Kind.{Kind}
use Rattle.cidr_mmdb.specs.declared.kinds.Kind.TheVariants.{Pointer, Map, Array, Uint16, Uint32, Uint64}
use Rattle.cidr_mmdb.specs.declared.metadata.Layout.{Layout}
use Rattle.cidr_mmdb.specs.declared.errors.MetadataError.{MetadataError}
use Rattle.cidr_mmdb.specs.declared.errors.MetadataError.TheVariants.{NoNodeCount, NoRecordSize, NoIpVersion}
use Rattle.cidr_mmdb.specs.declared.records.RecordSize.{RecordSize}
use Rattle.cidr_mmdb.specs.declared.records.RecordSize.TheVariants.{Bits24, Bits28, Bits32}

-- the 14 bytes before the metadata
abbrev pub marker : List ℕ
marker = 0xab ∷ 0xcd ∷ 0xef ∷ codes "MaxMind.com"

abbrev pub HasMarker : List ℕ → ℕ → Type 0
HasMarker bytes at = (at + 14 ≤ length bytes) × (slice_range bytes at (at + 14) ≡ marker)

-- the last marker, in the last 128 KiB
pub record IsLastMarker (bytes : List ℕ) (at : ℕ) : Type 0 where
  pub here : HasMarker bytes at
  pub last : (k : ℕ) → at < k → HasMarker bytes k → ⊥
  pub near : length bytes ≤ at + 131072

-- ---- a number under a name
-- where so many fields end that stand one behind the other, by where one of them does
abbrev pub end_of_all : (ℕ → Option ℕ) → ℕ → ℕ → Option ℕ
end_of_all one zero at = Some at
end_of_all one (suc n) at = one at >>= λ end. end_of_all one n end

-- where a field ends with all that is in it, by where those do; a pointer is not followed
abbrev pub end_with : List ℕ → (ℕ → Option ℕ) → Field → Kind → Option ℕ
end_with section one field Pointer = Some field.payload
end_with section one field Map = end_of_all one (2 * field.size) field.payload
end_with section one field Array = end_of_all one field.size field.payload
end_with section one field other = leaf_end section field

-- where the field at a place ends, if it is at most so deep
unfoldable pub end_at : List ℕ → ℕ → ℕ → Option ℕ
end_at section zero at = None
end_at section (suc depth) at = field_at section at >>= λ field. end_with section (end_at section depth) field field.kind

abbrev pub is_named : List ℕ → Field → List ℕ → Bool
is_named section string name =
    if nat_lt (length section) (string.payload + string.size) then false
    else pointwise nat_eq (slice_range section string.payload (string.payload + string.size)) name

-- where the value of a name begins: the first of so many pairs that has the name counts
unfoldable pub value_of : List ℕ → List ℕ → ℕ → ℕ → Option ℕ
value_of section name zero at = None
value_of section name (suc n) at = name_at section at >>= λ key.
    if is_named section key.0 name then Some key.1 else (end_at section 512 key.1 >>= λ end. value_of section name n end)

abbrev pub is_unsigned : Kind → Bool
is_unsigned Uint16 = true
is_unsigned Uint32 = true
is_unsigned Uint64 = true
is_unsigned other = false

-- the unsigned number at a place, of at most four bytes
unfoldable pub unsigned_at : List ℕ → ℕ → Option ℕ
unsigned_at section at = field_at section at >>= λ field.
    if is_unsigned field.kind
    then (leaf_end section field >>= λ end. if nat_lt field.size 5 then Some (number_at section field.payload field.size) else None)
    else None

abbrev pub in_map : List ℕ → List ℕ → Field → Kind → Option ℕ
in_map section name map Map = value_of section name map.size map.payload >>= unsigned_at section
in_map section name map other = None

-- the number under a name of the map that the metadata are
unfoldable pub number_named : List ℕ → List ℕ → Option ℕ
number_named section name = field_at section 0 >>= λ map. in_map section name map map.kind

-- ---- what they say of the tree
abbrev pub size_of : ℕ → Option RecordSize
size_of n = if n == 24 then Some Bits24 else if n == 28 then Some Bits28 else if n == 32 then Some Bits32 else None

-- how many bits the addresses of a version have
abbrev pub width_of : ℕ → Option ℕ
width_of n = if n == 4 then Some 32 else if n == 6 then Some 128 else None

abbrev pub record_size_of : List ℕ → Option RecordSize
record_size_of section = number_named section (codes "record_size") >>= size_of

abbrev pub address_width_of : List ℕ → Option ℕ
address_width_of section = number_named section (codes "ip_version") >>= width_of

abbrev pub layout_with : Option ℕ → Option RecordSize → Option ℕ → Result Layout MetadataError
layout_with None size width = Err NoNodeCount
layout_with (Some nodes) None width = Err NoRecordSize
layout_with (Some nodes) (Some size) None = Err NoIpVersion
layout_with (Some nodes) (Some size) (Some width) = Ok (record { node_count = nodes; record_size = size; width = width })

abbrev pub layout_of : List ℕ → Result Layout MetadataError
layout_of section = layout_with (number_named section (codes "node_count")) (record_size_of section) (address_width_of section)
