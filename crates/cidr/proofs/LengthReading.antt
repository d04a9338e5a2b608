-- Length texts, digit by digit.
use Rattle.std.proofs.Common.{◌≡◌, ◌≢◌, ℕ, ◌+◌, ◌-◌, ◌*◌, ◌<◌, List, ◌∷◌, length, get_or, drop, sym, ap, ◌∙◌, subst, arith, inl, inr}
use Rattle.std.proofs.lemmas.Str.{digit_value_digit}
use Rattle.std.proofs.lemmas.Str.Parse.{digit_at, digits_value-take-le}
use Rattle.std.specs.Char.{digit_value}
use Rattle.std.specs.Int.{IsInRange, IsOutOfRange}
use Rattle.cidr.specs.texts.NetworkText.{plus, IsByteText, IsLengthText}
use Rattle.cidr.proofs.NumberReading.{HasDigits, large_digits}

-- a decimal digit's value, as the reader computes it
pub decimal_digit_value : (ds : List ℕ) (i : ℕ) → IsInRange 48 57 (get_or ds i 0) → (digit_value (get_or ds i 0) ≡ get_or ds i 0 - 48) × (get_or ds i 0 - 48 < 10)
decimal_digit_value ds i digit = (omega (arith, digit_value_digit (get_or ds i 0) digit), omega arith)

-- digits of a value that is too large already
pub too_large : (ds : List ℕ) (i value : ℕ) → HasDigits 10 256 ds i value → i < length ds → IsInRange 48 57 (get_or ds i 0) → 255 < value * 10 + (get_or ds i 0 - 48) → (n : ℕ) → ¬ (IsByteText ds n)
too_large ds i value h l digit large n text =
    omega (arith, large_digits 10 256 ds i value _ h l (decimal_digit_value ds i digit).0 large, digits_value-take-le 10 ds (i + 1) (omega arith), text.1, text.2)

-- a byte that is no digit
pub not_digits : (ds : List ℕ) (i : ℕ) → i < length ds → IsOutOfRange 48 57 (get_or ds i 0) → (n : ℕ) → ¬ (IsByteText ds n)
not_digits ds i l (inl low) n h = let there = digit_at ds i h.0.1 l in omega arith
not_digits ds i l (inr high) n h = let there = digit_at ds i h.0.1 l in omega arith

-- a text that begins with a plus is a length text by its rest alone, and any other by all of it
pub after_plus : (text digits : List ℕ) (n : ℕ) → text ≡ plus ∷ digits → IsLengthText text n → IsByteText digits n
after_plus text digits n e (inl h) =
    let first = digit_at text 0 h.0.1 h.0.0 in
    let is_plus : get_or text 0 0 ≡ 43 = ap (λ t. get_or t 0 0) e in
    absurd (omega arith)
after_plus text digits n e (inr (ds, f, h)) =
    let same : ds ≡ digits = ap (drop 1) (sym f ∙ e) in
    subst (λ t. IsByteText t n) same h

pub without_plus : (text : List ℕ) (n : ℕ) → ((digits : List ℕ) → text ≢ plus ∷ digits) → IsLengthText text n → IsByteText text n
without_plus text n none (inl h) = h
without_plus text n none (inr (ds, f, h)) = absurd (none ds f)
