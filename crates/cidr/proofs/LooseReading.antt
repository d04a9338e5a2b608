-- Loose parts and the octets of short texts, by the first bytes.
use Rattle.std.proofs.Common.{◌≡◌, ◌≢◌, ℕ, ◌^◌, ◌<◌, ◌⊎◌, List, [], ◌∷◌, ◌++◌, get_or, refl, sym, ap, ◌∙◌, subst, arith, inl, inr, Option}
use Rattle.std.specs.Borrow.{Bor}
use Rattle.std.specs.Char.{digit_value}
use Rattle.cidr.specs.texts.Ipv4Text.{digit_zero}
use Rattle.cidr.specs.texts.NetworkText.{plus, IsNumberText, IsLengthText}
use Rattle.cidr.specs.texts.LooseText.{IsU32Text, IsLetterX, IsLoosePart}
use Rattle.cidr.specs.internal.Reading.{StopsAtDot, TakesPart}
use Rattle.cidr.specs.internal.Joined.{IsAfterPlus, LeadsToDigits}
use Rattle.cidr.proofs.Cuts.{no_plus}
use Rattle.cidr.proofs.LengthReading.{without_plus}
use Rattle.cidr.proofs.JoinedReading.{IsPrefixed, takes_prefixed}

-- the first byte of a text that begins with digits, or with these bytes
head_of : (text t more : List ℕ) (c d : ℕ) (rest ds : List ℕ) → text ≡ t ++ more → text ≡ c ∷ rest → t ≡ d ∷ ds → c ≡ d
head_of text t more c d rest ds e a b = ap (λ s. get_or s 0 0) (sym a ∙ e ∙ ap (λ s. s ++ more) b)

-- a numeral is not empty
first_digit : (radix limit : ℕ) (t : List ℕ) (n : ℕ) → IsNumberText radix limit t n → (d : ℕ) × (ds : List ℕ) × (t ≡ d ∷ ds) × (digit_value d < radix)
first_digit radix limit [] n number = absurd (omega (arith, number.0.0))
first_digit radix limit (d ∷ ds) n number = (d, ds, refl, number.0.1.0)

pub no_letter_x : (x : ℕ) → IsLetterX x → digit_value x < 8 → ⊥
no_letter_x x (inl e) h = let large : digit_value x ≡ 33 = rw e refl in omega arith
no_letter_x x (inr e) h = let large : digit_value x ≡ 33 = rw e refl in omega arith

-- nor does a text that begins with digits
no_plus_first : (text t more rest : List ℕ) (limit n : ℕ) → text ≡ t ++ more → text ≡ plus ∷ rest → ¬ (IsNumberText 10 limit t n)
no_plus_first text t more rest limit n e a number =
    let (d, ds, b, _) = first_digit 10 limit t n number in
    no_plus t ds number.0 (b ∙ ap (λ z. z ∷ ds) (sym (head_of text t more plus d rest ds e a b)))

-- ---- the three spellings
pub hex_cut : (text digits : List ℕ) (x : ℕ) → IsLetterX x → text ≡ digit_zero ∷ x ∷ digits → (t more : List ℕ) (n : ℕ) → text ≡ t ++ more → StopsAtDot more → IsLoosePart t n
    → (u : List ℕ) × (t ≡ (digit_zero ∷ x ∷ []) ++ u) × IsU32Text 16 u n
hex_cut text digits x letter s t more n e stop (inl (y, u, a, _, number)) =
    let same : x ≡ y = ap (λ r. get_or r 1 0) (sym s ∙ e ∙ ap (λ r. r ++ more) a) in
    (u, a ∙ ap (λ z. digit_zero ∷ z ∷ u) (sym same), number)
hex_cut text digits x letter s [] more n e stop (inr (inl (_, number))) = absurd (omega (arith, number.0.0))
hex_cut text digits x letter s (c ∷ []) more n e stop (inr (inl (_, number))) =
    let next : get_or more 0 0 ≡ x = ap (λ r. get_or r 1 0) (sym e ∙ s) in
    absurd (no_dot more stop next letter)
  where
    no_dot : (more : List ℕ) → StopsAtDot more → get_or more 0 0 ≡ x → IsLetterX x → ⊥
    no_dot more (inl none) at (inl l) = let zero_first : get_or more 0 0 ≡ 0 = rw none refl in omega arith
    no_dot more (inl none) at (inr l) = let zero_first : get_or more 0 0 ≡ 0 = rw none refl in omega arith
    no_dot more (inr (rest, a)) at (inl l) = let dot_first : get_or more 0 0 ≡ 46 = rw a refl in omega arith
    no_dot more (inr (rest, a)) at (inr l) = let dot_first : get_or more 0 0 ≡ 46 = rw a refl in omega arith
hex_cut text digits x letter s (c ∷ d ∷ t) more n e stop (inr (inl (_, number))) =
    let same : d ≡ x = ap (λ r. get_or r 1 0) (sym e ∙ s) in
    absurd (no_letter_x x letter (subst (λ z. digit_value z < 8) same number.0.1.1.0))
hex_cut text digits x letter s t more n e stop (inr (inr (inl (other, number)))) =
    let (d, ds, a, _) = first_digit 10 (2 ^ 32) t n number in
    absurd (other (ap (λ r. get_or r 0 0) a ∙ sym (head_of text t more digit_zero d (x ∷ digits) ds e s a)))
hex_cut text digits x letter s t more n e stop (inr (inr (inr (u, a, number)))) =
    let same : digit_zero ≡ plus = head_of text t more digit_zero plus (x ∷ digits) u e s a in
    absurd (omega arith)

pub octal_cut : (text rest : List ℕ) → text ≡ digit_zero ∷ rest → ¬ (IsLetterX (get_or rest 0 0)) → (t more : List ℕ) (n : ℕ) → text ≡ t ++ more → IsLoosePart t n → IsU32Text 8 t n
octal_cut text rest s other t more n e (inl (y, u, a, letter, number)) =
    let same : get_or rest 0 0 ≡ y = ap (λ r. get_or r 1 0) (sym s ∙ e ∙ ap (λ r. r ++ more) a) in
    absurd (other (subst IsLetterX (sym same) letter))
octal_cut text rest s other t more n e (inr (inl (_, number))) = number
octal_cut text rest s other t more n e (inr (inr (inl (first, number)))) =
    let (d, ds, a, _) = first_digit 10 (2 ^ 32) t n number in
    absurd (first (ap (λ r. get_or r 0 0) a ∙ sym (head_of text t more digit_zero d rest ds e s a)))
octal_cut text rest s other t more n e (inr (inr (inr (u, a, number)))) =
    let same : digit_zero ≡ plus = head_of text t more digit_zero plus rest u e s a in
    absurd (omega arith)

-- decimal digits, alone or after a plus
abbrev pub MayFollowPlus : List ℕ → ℕ → Type 0
MayFollowPlus text n = IsU32Text 10 text n ⊎ ((digits : List ℕ) × (text ≡ plus ∷ digits) × IsU32Text 10 digits n)

-- a part of a text that begins with another byte than zero is decimal
pub decimal_cut : (text : List ℕ) → ((rest : List ℕ) → text ≢ digit_zero ∷ rest) → (t more : List ℕ) (n : ℕ) → text ≡ t ++ more → IsLoosePart t n
    → MayFollowPlus t n
decimal_cut text other t more n e (inl (y, u, a, letter, number)) = absurd (other ((y ∷ u) ++ more) (e ∙ ap (λ r. r ++ more) a))
decimal_cut text other t more n e (inr (inl (zero_first, number))) =
    let (d, ds, a, _) = first_digit 8 (2 ^ 32) t n number in
    let same : d ≡ digit_zero = sym (ap (λ r. get_or r 0 0) a) ∙ zero_first in
    absurd (other (ds ++ more) (e ∙ ap (λ r. r ++ more) a ∙ ap (λ z. z ∷ ds ++ more) same))
decimal_cut text other t more n e (inr (inr (inl (_, number)))) = inl number
decimal_cut text other t more n e (inr (inr (inr signed))) = inr signed

octal_text : (text rest : List ℕ) → text ≡ digit_zero ∷ rest → ¬ (IsLetterX (get_or rest 0 0)) → IsPrefixed IsLoosePart (IsU32Text 8) text [] text
octal_text text rest s other = record {
  split = refl;
  put = λ t more n e number.
      let (d, ds, a, _) = first_digit 8 (2 ^ 32) t n number in
      inr (inl (ap (λ r. get_or r 0 0) a ∙ sym (head_of text t more digit_zero d rest ds e s a), number));
  cut = λ t more n e stop part. (t, refl, octal_cut text rest s other t more n e part);
}

decimal_text : (text digits : List ℕ) → ((rest : List ℕ) → text ≢ digit_zero ∷ rest) → (r : Option (ℕ × Bor (List ℕ)))
    → IsAfterPlus text digits → TakesPart (IsU32Text 10) digits r → TakesPart IsLoosePart text r
decimal_text text digits other r (inl s) h = takes_prefixed IsLoosePart (IsU32Text 10) text (plus ∷ []) digits signed r h
  where
    cut : (t more : List ℕ) (n : ℕ) → text ≡ t ++ more → MayFollowPlus t n → (u : List ℕ) × (t ≡ (plus ∷ []) ++ u) × IsU32Text 10 u n
    cut t more n e (inl number) = absurd (no_plus_first text t more digits (2 ^ 32) n e s number)
    cut t more n e (inr after) = after

    signed : IsPrefixed IsLoosePart (IsU32Text 10) text (plus ∷ []) digits
    signed = record {
      split = s;
      put = λ t more n e number. inr (inr (inr (t, refl, number)));
      cut = λ t more n e stop part. cut t more n e (decimal_cut text other t more n e part);
    }
decimal_text text digits other r (inr (same, none)) h = takes_prefixed IsLoosePart (IsU32Text 10) text [] text plain r (subst (λ t. TakesPart (IsU32Text 10) t r) same h)
  where
    cut : (t more : List ℕ) (n : ℕ) → text ≡ t ++ more → MayFollowPlus t n → (u : List ℕ) × (t ≡ [] ++ u) × IsU32Text 10 u n
    cut t more n e (inl number) = (t, refl, number)
    cut t more n e (inr (u, a, _)) = absurd (none (u ++ more) (e ∙ ap (λ s. s ++ more) a))

    first : (t more : List ℕ) (n : ℕ) → text ≡ t ++ more → IsU32Text 10 t n → get_or t 0 0 ≢ digit_zero
    first t more n e number zero_first =
        let (d, ds, a, _) = first_digit 10 (2 ^ 32) t n number in
        let d_zero : d ≡ digit_zero = sym (ap (λ s. get_or s 0 0) a) ∙ zero_first in
        other (ds ++ more) (e ∙ ap (λ s. s ++ more) a ∙ ap (λ z. z ∷ ds ++ more) d_zero)

    plain : IsPrefixed IsLoosePart (IsU32Text 10) text [] text
    plain = record {
      split = refl;
      put = λ t more n e number. inr (inr (inl (first t more n e number, number)));
      cut = λ t more n e stop part. cut t more n e (decimal_cut text other t more n e part);
    }

pub takes_loose : (text : List ℕ) (radix : ℕ) (digits : List ℕ) (r : Option (ℕ × Bor (List ℕ)))
    → LeadsToDigits text radix digits → TakesPart (IsU32Text radix) digits r → TakesPart IsLoosePart text r
takes_loose text radix digits r (inl (is, x, letter, s)) h =
    let hex : IsPrefixed IsLoosePart (IsU32Text 16) text (digit_zero ∷ x ∷ []) digits = record {
      split = s;
      put = λ t more n e number. inl (x, t, refl, letter, number);
      cut = hex_cut text digits x letter s;
    } in
    takes_prefixed IsLoosePart (IsU32Text 16) text (digit_zero ∷ x ∷ []) digits hex r (subst (λ k. TakesPart (IsU32Text k) digits r) is h)
takes_loose text radix digits r (inr (inl (is, same, rest, s, other))) h =
    let octal : TakesPart (IsU32Text 8) text r = subst (λ t. TakesPart (IsU32Text 8) t r) same (subst (λ k. TakesPart (IsU32Text k) digits r) is h) in
    takes_prefixed IsLoosePart (IsU32Text 8) text [] text (octal_text text rest s other) r octal
takes_loose text radix digits r (inr (inr (is, other, after))) h =
    decimal_text text digits other r after (subst (λ k. TakesPart (IsU32Text k) digits r) is h)

-- ---- the octets of short texts
pub takes_length : (text digits : List ℕ) (r : Option (ℕ × Bor (List ℕ))) → IsAfterPlus text digits → TakesPart (IsNumberText 10 256) digits r → TakesPart IsLengthText text r
takes_length text digits r (inl s) h = takes_prefixed IsLengthText (IsNumberText 10 256) text (plus ∷ []) digits signed r h
  where
    cut : (t more : List ℕ) (n : ℕ) → text ≡ t ++ more → StopsAtDot more → IsLengthText t n → (u : List ℕ) × (t ≡ (plus ∷ []) ++ u) × IsNumberText 10 256 u n
    cut t more n e stop (inl number) = absurd (no_plus_first text t more digits 256 n e s number)
    cut t more n e stop (inr after) = after

    signed : IsPrefixed IsLengthText (IsNumberText 10 256) text (plus ∷ []) digits
    signed = record { split = s; put = λ t more n e number. inr (t, refl, number); cut = cut }
takes_length text digits r (inr (same, none)) h = takes_prefixed IsLengthText (IsNumberText 10 256) text [] text plain r (subst (λ t. TakesPart (IsNumberText 10 256) t r) same h)
  where
    plain : IsPrefixed IsLengthText (IsNumberText 10 256) text [] text
    plain = record {
      split = refl;
      put = λ t more n e number. inl number;
      cut = λ t more n e stop part. (t, refl, without_plus t n (λ u a. none (u ++ more) (e ∙ ap (λ s. s ++ more) a)) part);
    }
