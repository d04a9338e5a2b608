-- Numbers below a limit in any radix, digit by digit, and the digits at the front of a text.
use Rattle.std.proofs.Common.{◌≡◌, ℕ, ◌+◌, ◌-◌, ◌*◌, ◌<◌, ◌≤◌, ◌≢◌, List, [], ◌∷◌, ◌++◌, length, get_or, take, drop, refl, sym, ap, ap₂, ◌∙◌, subst, arith, inl, inr, append-nil, add-zero, take-append-drop, take_at, length-take-le, get_or-drop}
use Rattle.std.proofs.lemmas.Int.Digits.{digits_value_more, digits_more}
use Rattle.std.proofs.lemmas.List.{take_rest}
use Rattle.std.proofs.lemmas.Str.Parse.{digits_value-take-le}
use Rattle.std.specs.Char.{digit_value}
use Rattle.std.specs.Str.Parse.{AllDigits, digits_value}
use Rattle.cidr.specs.texts.NetworkText.{IsNumberText}
use Rattle.cidr.specs.internal.Reading.{StopsAtDot, IsFirstPart, NoPartFirst}

-- what has been read of some digits
pub record HasDigits (radix limit : ℕ) (ds : List ℕ) (i value : ℕ) : Type 0 where
  pub digits : AllDigits radix (take i ds)
  pub read : digits_value radix (take i ds) ≡ value
  pub fits : value < limit

pub more_digits : (radix limit : ℕ) (ds : List ℕ) (i value digit : ℕ) → HasDigits radix limit ds i value → i < length ds → digit_value (get_or ds i 0) ≡ digit
    → digit < radix → value * radix + digit < limit → HasDigits radix limit ds (i + 1) (value * radix + digit)
more_digits radix limit ds i value digit h l e below fits = record {
  digits = digits_more radix ds i l h.digits (omega arith);
  read = digits_value_more radix ds i l ∙ ap₂ (λ x y. x * radix + y) h.read e;
  fits = fits;
}

-- digits of a value that is too large already
pub large_digits : (radix limit : ℕ) (ds : List ℕ) (i value digit : ℕ) → HasDigits radix limit ds i value → i < length ds → digit_value (get_or ds i 0) ≡ digit
    → limit ≤ value * radix + digit → limit ≤ digits_value radix (take (i + 1) ds)
large_digits radix limit ds i value digit h l e large =
    let whole : digits_value radix (take (i + 1) ds) ≡ value * radix + digit = digits_value_more radix ds i l ∙ ap₂ (λ x y. x * radix + y) h.read e in
    omega arith

-- ---- digits at the front
pub other_digit : (radix : ℕ) (text : List ℕ) (count i byte : ℕ) → count ≡ i → byte ≡ get_or text i 0 → ¬ (digit_value byte < radix)
    → radix ≤ digit_value (get_or text count 0)
other_digit radix text count i byte e is h = let v = digit_value byte in let none : radix ≤ v = omega arith in rw (e, ← is) none

-- digits that a text begins with begin those that end at another byte
longer : (radix : ℕ) (f r g s : List ℕ) → f ++ r ≡ g ++ s → AllDigits radix f → radix ≤ digit_value (get_or s 0 0) → (u : List ℕ) × (g ≡ f ++ u) × (r ≡ u ++ s)
longer radix [] r g s e h stop = (g, refl, e)
longer radix (x ∷ f) r [] s e h stop =
    let same : x ≡ get_or s 0 0 = ap (λ t. get_or t 0 0) e in
    let digit : digit_value (get_or s 0 0) < radix = rw (← same) h.0 in
    absurd (omega arith)
longer radix (x ∷ f) r (y ∷ g) s e h stop =
    let head : x ≡ y = ap (λ t. get_or t 0 0) e in
    let (u, a, b) = longer radix f r g s (ap (drop 1) e) h.1 stop in
    (u, ap₂ (λ z t. z ∷ t) (sym head) a, b)

digits_after : (radix : ℕ) (f u : List ℕ) → AllDigits radix (f ++ u) → AllDigits radix u
digits_after radix [] u h = h
digits_after radix (x ∷ f) u h = digits_after radix f u h.1

-- digits end in one place
same_digits : (radix : ℕ) (f r g s : List ℕ) → f ++ r ≡ g ++ s → AllDigits radix f → AllDigits radix g → radix ≤ digit_value (get_or r 0 0) → radix ≤ digit_value (get_or s 0 0) → (g ≡ f) × (s ≡ r)
same_digits radix f r g s e h k ends stop = ended (longer radix f r g s e h stop)
  where
    ended : (u : List ℕ) × (g ≡ f ++ u) × (r ≡ u ++ s) → (g ≡ f) × (s ≡ r)
    ended ([], a, b) = (a ∙ append-nil f, sym b)
    ended (x ∷ u, a, b) =
        let digit : digit_value x < radix = (digits_after radix f (x ∷ u) (subst (AllDigits radix) a k)).0 in
        let none : radix ≤ digit_value x = rw b at ends in
        absurd (omega arith)

-- no digit comes at a dot or at the end
stops : (radix : ℕ) (more : List ℕ) → radix ≤ 16 → StopsAtDot more → radix ≤ digit_value (get_or more 0 0)
stops radix more small (inl e) = rw e (omega arith)
stops radix more small (inr (rest, e)) = rw e (omega arith)

module _ (radix limit : ℕ) (text : List ℕ) (small : radix ≤ 16) where
  -- no digit stands first
  pub no_number : radix ≤ digit_value (get_or text 0 0) → NoPartFirst (IsNumberText radix limit) text
  no_number none [] m more number stop split = absurd (omega (arith, number.0.0))
  no_number none (x ∷ t) m more number stop split =
      let first : get_or text 0 0 ≡ x = ap (λ s. get_or s 0 0) split in
      let digit : digit_value (get_or text 0 0) < radix = rw first number.0.1.0 in
      omega arith

  -- the digits write too large a number, however many follow
  pub large_number : (i value digit : ℕ) → HasDigits radix limit text i value → i < length text → digit_value (get_or text i 0) ≡ digit → digit < radix
      → limit ≤ value * radix + digit → NoPartFirst (IsNumberText radix limit) text
  large_number i value digit h l e below large t m more number stop split =
      let front : List ℕ = take (i + 1) text in
      let digits : AllDigits radix front = digits_more radix text i l h.digits (omega arith) in
      let (u, a, _) = longer radix front (drop (i + 1) text) t more (take-append-drop (i + 1) text ∙ split) digits (stops radix more small stop) in
      let begun : take (length front) t ≡ front = ap (take (length front)) a ∙ take_at front u (length front) refl in
      let most : digits_value radix front ≤ digits_value radix t = rw begun at (digits_value-take-le radix t (length front) (omega arith)) in
      omega (arith, large_digits radix limit text i value digit h l e large, number.1, number.2)

  -- the digits end there
  pub first_number : (count value : ℕ) → HasDigits radix limit text count value → count ≢ 0 → count ≤ length text → radix ≤ digit_value (get_or text count 0)
      → IsFirstPart (IsNumberText radix limit) text value (take (length text - count) (drop count text))
  first_number count value h some within stop =
      let rest : take (length text - count) (drop count text) ≡ drop count text = take_rest text count in
      let ends : radix ≤ digit_value (get_or (drop count text) 0 0) = rw (get_or-drop count text 0 0, add-zero) stop in
      let len = length-take-le count text within in
      rw rest (record {
        front = take count text;
        spelled = sym (take-append-drop count text);
        part = ((omega arith, h.digits), h.read, h.fits);
        only = λ t m more number stop split.
            let (a, b) = same_digits radix (take count text) (drop count text) t more (take-append-drop count text ∙ split) h.digits number.0.1 ends (stops radix more small stop) in
            (sym number.1 ∙ ap (digits_value radix) a ∙ h.read, b);
      })
