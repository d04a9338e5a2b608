-- Strings of JSON (RFC 8259, 7): what a text says as one, and how a string is written.
use Rattle.std.specs.Prelude.{◌≡◌, ◌≢◌, ◌⊎◌, ℕ, ◌/◌, ◌%◌, ◌≤◌, ◌<◌, ◌==◌, ◌||◌, if◌then◌else◌, nat_lt, List, [], ◌∷◌, ◌++◌, length, codes}
use Rattle.std.specs.Char.{digit_char}
use Rattle.std.specs.List.{AllZip, flat_map}
use Rattle.std.specs.Str.Parse.{IsNumeral, digits_value}

-- `b'"'` and `b'\\'`
abbrev pub quote : ℕ
quote = 34

abbrev pub backslash : ℕ
backslash = 92

-- a byte of UTF-8 stands for itself, unless it is a quote, a backslash or a control character; or it stands behind a backslash,
-- or is the code of a character of ASCII in four hexadecimal digits
abbrev pub Spells : List ℕ → ℕ → Type 0
Spells part byte = ((part ≡ byte ∷ []) × (32 ≤ byte) × (byte ≢ quote) × (byte ≢ backslash))
    ⊎ (((part ≡ backslash ∷ byte ∷ []) × ((byte ≡ quote) ⊎ (byte ≡ backslash)))
    ⊎ ((digits : List ℕ) × (part ≡ codes "\\u" ++ digits) × (length digits ≡ 4) × IsNumeral 16 digits × (digits_value 16 digits ≡ byte) × (byte < 128)))

-- the text, between the quotes of a string, says these bytes of UTF-8
abbrev pub IsStringText : List ℕ → List ℕ → Type 0
IsStringText text value = (parts : List (List ℕ)) × (text ≡ flat_map (λ part. part) parts) × AllZip Spells parts value

-- how a byte is written
abbrev pub spelling : ℕ → List ℕ
spelling byte =
    if (byte == quote) || (byte == backslash) then backslash ∷ byte ∷ []
    else if nat_lt byte 32 then codes "\\u00" ++ digit_char (byte / 16) ∷ digit_char (byte % 16) ∷ []
    else byte ∷ []

-- and a string, between its quotes
abbrev pub string_text : List ℕ → List ℕ
string_text value = flat_map spelling value
