-- Values as JSON (RFC 8259).
use Rattle.std.specs.Prelude.{◌≡◌, ℕ, zero, suc, ◌+◌, ◌-◌, ◌/◌, ◌%◌, ◌^◌, ◌<◌, Bool, true, false, List, [], ◌∷◌, ◌++◌, length, slice_range, codes, decimal, Option, Some, None, ◌==◌, ◌||◌, if◌then◌else◌, nat_lt}
use Rattle.std.specs.Char.{digit_char}
use Rattle.std.specs.List.{flat_map}
use Rattle.std.specs.Str.{is_utf8}
use Rattle.cidr_mmdb.specs.Fields.{◌>>=◌, field_at, is_pointer, leaf_end, name_at}
use Rattle.cidr_mmdb.specs.Numbers.{number_at}
use Rattle.cidr_mmdb.specs.Numerals.{digits_of, double_text, float_text, quoted}
use Rattle.cidr_mmdb.specs.declared.errors.JsonError.{JsonError}
use Rattle.cidr_mmdb.specs.declared.errors.JsonError.TheVariants.{Malformed, TooLong, NoMemory}
use Rattle.cidr_mmdb.specs.declared.kinds.Field.{Field}
use Rattle.cidr_mmdb.specs.declared.kinds.Kind.{Kind}
use Rattle.cidr_mmdb.specs.declared.kinds.Kind.TheVariants.{Pointer, Utf8String, Double, Bytes, Map, Int32, Array, Boolean, Float}

-- how a byte of UTF-8 stands in a string of JSON: a quote and a backslash behind a backslash, a control character as its code
abbrev pub spelling : ℕ → List ℕ
spelling byte =
    if (byte == 34) || (byte == 92) then 92 ∷ byte ∷ []
    else if nat_lt byte 32 then codes "\\u00" ++ digit_char (byte / 16) ∷ digit_char (byte % 16) ∷ []
    else byte ∷ []

-- a string, if its bytes are UTF-8
abbrev pub string_text : List ℕ → Option (List ℕ)
string_text bytes = if is_utf8 bytes then Some (quoted (flat_map spelling bytes)) else None

-- bytes, in hexadecimal
abbrev pub bytes_text : List ℕ → List ℕ
bytes_text bytes = quoted (flat_map (digits_of 16 2) bytes)

abbrev pub boolean_text : Bool → List ℕ
boolean_text value = if value then codes "true" else codes "false"

-- a number of at most four bytes in two's complement
abbrev pub signed_text : ℕ → List ℕ
signed_text n = if nat_lt n (2 ^ 31) then decimal n else codes "-" ++ decimal (2 ^ 32 - n)

abbrev pub payload_of : List ℕ → Field → List ℕ
payload_of section field = slice_range section field.payload (field.payload + field.size)

-- the text of a field with no field in it, whose bytes are there
abbrev pub leaf_text : List ℕ → Field → Kind → Option (List ℕ)
leaf_text section field Utf8String = string_text (payload_of section field)
leaf_text section field Bytes = Some (bytes_text (payload_of section field))
leaf_text section field Boolean = Some (boolean_text (field.size == 1))
leaf_text section field Double = Some (double_text (number_at section field.payload field.size))
leaf_text section field Float = Some (float_text (number_at section field.payload field.size))
leaf_text section field Int32 = Some (signed_text (number_at section field.payload field.size))
leaf_text section field other = Some (decimal (number_at section field.payload field.size))

-- what is read, with a text in front; with a text behind
abbrev pub behind : List ℕ → Option (List ℕ × ℕ) → Option (List ℕ × ℕ)
behind front read = read >>= λ x. Some (front ++ x.0, x.1)

abbrev pub before : List ℕ → Option (List ℕ × ℕ) → Option (List ℕ × ℕ)
before back read = read >>= λ x. Some (x.0 ++ back, x.1)

-- a text, with the place where its field ends
abbrev pub ended : ℕ → Option (List ℕ) → Option (List ℕ × ℕ)
ended end text = text >>= λ t. Some (t, end)

abbrev pub separator : Bool → List ℕ
separator first = if first then [] else codes ","

-- what an object and an array begin and end with
abbrev pub opening : Bool → List ℕ
opening named = if named then codes "{" else codes "["

abbrev pub closing : Bool → List ℕ
closing named = if named then codes "}" else codes "]"

abbrev pub enclosed : Bool → Option (List ℕ × ℕ) → Option (List ℕ × ℕ)
enclosed named read = before (closing named) (behind (opening named) read)

-- so many texts, one behind the other, with commas between
abbrev pub listed : (ℕ → Option (List ℕ × ℕ)) → Bool → ℕ → ℕ → Option (List ℕ × ℕ)
listed one first zero at = Some ([], at)
listed one first (suc n) at = behind (separator first) (one at) >>= λ x. behind x.0 (listed one false n x.1)

-- a value, or a name and a value
abbrev pub item_at : List ℕ → (ℕ → Option (List ℕ × ℕ)) → Bool → ℕ → Option (List ℕ × ℕ)
item_at section value false at = value at
item_at section value true at = name_at section at >>= λ name. string_text (payload_of section name.0) >>= λ text. behind (text ++ codes ":") (value name.1)

-- the text of a field, and where it ends, by what `value` says of the fields in it; a pointer is the value that it points to, which
-- is no pointer
abbrev pub text_with : List ℕ → (ℕ → Option (List ℕ × ℕ)) → Field → Kind → Option (List ℕ × ℕ)
text_with section value field Pointer = field_at section field.size >>= λ target.
    if is_pointer target.kind then None else (value field.size >>= λ x. Some (x.0, field.payload))
text_with section value field Map = enclosed true (listed (item_at section value true) true field.size field.payload)
text_with section value field Array = enclosed false (listed (item_at section value false) true field.size field.payload)
text_with section value field other = leaf_end section field >>= λ end. ended end (leaf_text section field other)

-- the value at a place as JSON, and where its field ends, if it is at most so deep; a pointer is a level
unfoldable pub json_at : List ℕ → ℕ → ℕ → Option (List ℕ × ℕ)
json_at section zero at = None
json_at section (suc depth) at = field_at section at >>= λ field. text_with section (json_at section depth) field field.kind

-- why a value has no text of at most so many bytes, by what is read
abbrev pub IsUnwritten : ℕ → Option (List ℕ × ℕ) → JsonError → Type 0
IsUnwritten limit read Malformed = read ≡ None
IsUnwritten limit read TooLong = (text : List ℕ) (end : ℕ) → read ≡ Some (text, end) → limit < length text
IsUnwritten limit read NoMemory = Unit {0}
