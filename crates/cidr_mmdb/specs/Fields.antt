-- Data fields (Output Data Section).
use Rattle.std.specs.Prelude.{ℕ, ◌+◌, ◌-◌, ◌*◌, ◌/◌, ◌%◌, ◌^◌, Bool, true, false, List, length, slice_index, Option, Some, None, ◌==◌, if◌then◌else◌, nat_lt}
use Rattle.cidr_mmdb.specs.Numbers.{number_at}
use Rattle.cidr_mmdb.specs.declared.kinds.Field.{Field}
use Rattle.cidr_mmdb.specs.declared.kinds.Kind.{Kind}
use Rattle.cidr_mmdb.specs.declared.kinds.Kind.TheVariants.{Pointer, Utf8String, Double, Bytes, Uint16, Uint32, Map, Int32, Uint64, Uint128, Array, Boolean, Float}

-- what goes on only where there is a value
infixl 10 ◌>>=◌
abbrev pub ◌>>=◌ : {A B : Type 0} → Option A → (A → Option B) → Option B
None >>= f = None
(Some x) >>= f = f x

-- the types by their numbers, but for pointers, 1; 12 and 13 stand in no data section
abbrev pub kind_of : ℕ → Option Kind
kind_of n =
    if n == 2 then Some Utf8String else if n == 3 then Some Double else if n == 4 then Some Bytes else if n == 5 then Some Uint16
    else if n == 6 then Some Uint32 else if n == 7 then Some Map else if n == 8 then Some Int32 else if n == 9 then Some Uint64
    else if n == 10 then Some Uint128 else if n == 11 then Some Array else if n == 14 then Some Boolean
    else if n == 15 then Some Float else None

-- a field whose size goes on in so many bytes from a place on, if they are there
abbrev pub field_of : List ℕ → ℕ → Kind → ℕ → ℕ → Option Field
field_of section at kind base n =
    if nat_lt (length section) (at + n) then None else Some (record { kind = kind; size = base + number_at section at n; payload = at + n })

-- a size is in the lowest five bits of the control byte, or in one, two or three bytes behind the type (Payload Size)
abbrev pub size_at : List ℕ → ℕ → ℕ → Kind → Option Field
size_at section at low kind =
    if nat_lt low 29 then Some (record { kind = kind; size = low; payload = at })
    else if low == 29 then field_of section at kind 29 1
    else if low == 30 then field_of section at kind 285 2
    else field_of section at kind 65821 3

-- a pointer has two bits of size and three of value, which stand before one, two or three bytes; or it has four bytes. Those of two
-- bytes point behind those of one, and those of three behind these (Pointers)
abbrev pub pointer_at : List ℕ → ℕ → ℕ → Option Field
pointer_at section at low =
    if nat_lt low 8 then field_of section at Pointer (low * 256) 1
    else if nat_lt low 16 then field_of section at Pointer ((low - 8) * 65536 + 2048) 2
    else if nat_lt low 24 then field_of section at Pointer ((low - 16) * 2 ^ 24 + 526336) 3
    else field_of section at Pointer 0 4

-- the field at a place (Data Field Format): its type is in three bits, or in the next byte, less 7
unfoldable pub field_at : List ℕ → ℕ → Option Field
field_at section at =
    let control = slice_index section at in
    let low = control % 32 in
    if nat_lt at (length section) then
    (if control / 32 == 1 then pointer_at section (at + 1) low
    else if control / 32 == 0 then
    (if nat_lt (at + 1) (length section) then kind_of (slice_index section (at + 1) + 7) >>= size_at section (at + 2) low else None)
    else kind_of (control / 32) >>= size_at section (at + 1) low)
    else None

-- ---- fields with no field in them
-- which sizes such a field may have
abbrev pub is_sized : Kind → ℕ → Bool
is_sized Utf8String size = true
is_sized Bytes size = true
is_sized Double size = size == 8
is_sized Float size = size == 4
is_sized Boolean size = nat_lt size 2
is_sized Uint16 size = nat_lt size 3
is_sized Uint32 size = nat_lt size 5
is_sized Int32 size = nat_lt size 5
is_sized Uint64 size = nat_lt size 9
is_sized Uint128 size = nat_lt size 17
is_sized Pointer size = false
is_sized Map size = false
is_sized Array size = false

-- how many bytes its payload has
abbrev pub bytes_of : Kind → ℕ → ℕ
bytes_of Boolean size = 0
bytes_of other size = size

-- where it ends, if its bytes are there
unfoldable pub leaf_end : List ℕ → Field → Option ℕ
leaf_end section field =
    let end = field.payload + bytes_of field.kind field.size in
    if is_sized field.kind field.size then (if nat_lt (length section) end then None else Some end) else None

abbrev pub is_pointer : Kind → Bool
is_pointer Pointer = true
is_pointer other = false

abbrev pub is_string : Kind → Bool
is_string Utf8String = true
is_string other = false

abbrev pub string_end : List ℕ → Field → Option ℕ
string_end section field = if is_string field.kind then leaf_end section field else None

-- the name of a pair of a map, and where its field ends: a string, or a pointer to one
unfoldable pub name_at : List ℕ → ℕ → Option (Field × ℕ)
name_at section at = field_at section at >>= λ field.
    if is_pointer field.kind
    then (field_at section field.size >>= λ target. string_end section target >>= λ end. Some (target, field.payload))
    else (string_end section field >>= λ end. Some (field, end))
