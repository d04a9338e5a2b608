-- Numbers of IEEE 754 as JSON: a decimal that a reader takes back to the same binary64, or else a string.
use Rattle.std.specs.Prelude.{ℕ, zero, suc, ◌+◌, ◌-◌, ◌*◌, ◌/◌, ◌%◌, ◌^◌, Bool, List, [], ◌∷◌, ◌++◌, codes, decimal, Option, Some, None, ◌==◌, if◌then◌else◌, nat_lt}
use Rattle.std.specs.Char.{digit_char}

-- the lowest digits of a number, so many
unfoldable pub digits_of : ℕ → ℕ → ℕ → List ℕ
digits_of base zero n = []
digits_of base (suc k) n = digit_char (n / base ^ k % base) ∷ digits_of base k n

-- between the quotes of a string
abbrev pub quoted : List ℕ → List ℕ
quoted text = 34 ∷ (text ++ 34 ∷ [])

abbrev pub sign_of : Bool → List ℕ
sign_of negative = if negative then codes "-" else []

-- m / unit in units of 1 / power: the nearest
abbrev pub nearest : ℕ → ℕ → ℕ → ℕ
nearest m unit power = (2 * (m * power) + unit) / (2 * unit)

-- whether that is nearer than half of what is between m / unit and the next binary64, for an m of 53 bits: above the least of these
-- both neighbours are 1 / unit away, and below it the next one is half of that
abbrev pub is_near : ℕ → ℕ → ℕ → Bool
is_near m unit power =
    let d = nearest m unit power * unit in
    nat_lt (((d - m * power) + (m * power - d)) * (if m == 2 ^ 52 then 4 else 2)) power

-- the digits and the places of the decimal with the fewest places that is that near, of so many counts of places from one on
unfoldable pub shortest : ℕ → ℕ → ℕ → ℕ → Option (ℕ × ℕ)
shortest m unit places zero = None
shortest m unit places (suc n) =
    if is_near m unit (10 ^ places) then Some (nearest m unit (10 ^ places), places) else shortest m unit (places + 1) n

-- m * 2 ^ exponent / 2 ^ 1075 as a decimal, if it is 0, or at least 2 ^ -18 and below 2 ^ 64
abbrev pub decimal_of : ℕ → ℕ → Option (ℕ × ℕ)
decimal_of m exponent =
    if m == 0 then Some (0, 1)
    else if nat_lt exponent 1005 then None
    else if nat_lt exponent 1076 then shortest m (2 ^ (1075 - exponent)) 1 22
    else if nat_lt exponent 1087 then Some (m * 2 ^ (exponent - 1075) * 10, 1)
    else None

abbrev pub places_text : ℕ × ℕ → List ℕ
places_text number = decimal (number.0 / 10 ^ number.1) ++ codes "." ++ digits_of 10 number.1 number.0

abbrev pub exponent_text : ℕ → List ℕ
exponent_text exponent = if nat_lt exponent 1023 then codes "-" ++ decimal (1023 - exponent) else codes "+" ++ decimal (exponent - 1023)

-- in hexadecimal, as C's `%a` writes it and `strtod` reads it, with all 13 digits
abbrev pub hexadecimal_text : ℕ → ℕ → ℕ → List ℕ
hexadecimal_text lead fraction exponent =
    codes "0x" ++ digits_of 16 1 lead ++ codes "." ++ digits_of 16 13 fraction ++ codes "p" ++ exponent_text exponent

abbrev pub number_text : Bool → List ℕ → Option (ℕ × ℕ) → List ℕ
number_text negative hexadecimal (Some number) = sign_of negative ++ places_text number
number_text negative hexadecimal None = quoted (sign_of negative ++ hexadecimal)

abbrev pub finite_text : Bool → ℕ → ℕ → ℕ → List ℕ
finite_text negative lead fraction exponent =
    number_text negative (hexadecimal_text lead fraction exponent) (decimal_of (lead * 2 ^ 52 + fraction) exponent)

abbrev pub special_text : Bool → ℕ → List ℕ
special_text negative fraction = quoted (if fraction == 0 then sign_of negative ++ codes "Infinity" else codes "NaN")

-- a binary64 by its bits
abbrev pub double_text : ℕ → List ℕ
double_text n =
    let negative = n / 2 ^ 63 == 1 in
    let exponent = n / 2 ^ 52 % 2048 in
    let fraction = n % 2 ^ 52 in
    if exponent == 2047 then special_text negative fraction
    else if exponent == 0 then finite_text negative 0 fraction 1
    else finite_text negative 1 fraction exponent

-- a binary32 by its bits: as the binary64 of the same value
abbrev pub float_text : ℕ → List ℕ
float_text n =
    let negative = n / 2 ^ 31 == 1 in
    let exponent = n / 2 ^ 23 % 256 in
    let fraction = n % 2 ^ 23 * 2 ^ 29 in
    if exponent == 255 then special_text negative fraction
    else if exponent == 0 then finite_text negative 0 fraction 897
    else finite_text negative 1 fraction (exponent + 896)
