-- Octets at the front of a text.
use Rattle.std.proofs.Common.{◌≡◌, ℕ, ◌+◌, ◌-◌, ◌/◌, ◌%◌, ◌^◌, ◌<◌, ◌≤◌, Bool, List, [], ◌∷◌, ◌++◌, length, get_or, drop, decimal, refl, sym, ap, ap₂, ◌∙◌, subst, arith, inl, inr}
use Rattle.std.proofs.lemmas.Bool.{cases_lt}
use Rattle.std.proofs.lemmas.Fmt.{decimal_digit, decimal_step, decimal_is_IsNumeral, first_decimal, decimal-digits_value}
use Rattle.std.proofs.lemmas.Str.Parse.{numerals_by_value, tells_digits, digit_at}
use Rattle.std.specs.Str.Parse.{digits_value}
use Rattle.cidr.specs.texts.Ipv4Text.{IsOctetText, IsJoined, IsIpv4Text}
use Rattle.cidr.specs.model.Address.{octet_bits}
use Rattle.cidr.specs.internal.Reading.{IsNoDigit, IsDigitCount, digits_text, StopsAtDot, IsFirstPart, NoPartFirst}

-- the octet text of a number is its decimal
pub IsOctetText-decimal : (n : ℕ) → n < 256 → IsOctetText (decimal n) n
IsOctetText-decimal n fits =
    let (numeral, value) = decimal_is_IsNumeral n (omega arith) in
    record {
      digits = numeral;
      value = value;
      fits = fits;
      no_leading_zero = λ zero_first. elim (cases_lt n 10) [
        | inl one ↦ ap length (decimal_digit n one)
        | inr more ↦ absurd (omega (arith, first_decimal n (omega arith) (omega arith)))
      ];
    }

pub decimal-IsOctetText : (text : List ℕ) (n : ℕ) → IsOctetText text n → text ≡ decimal n
decimal-IsOctetText text n h =
    let small : digits_value 10 text < 2 ^ 64 = omega (arith, h.value, h.fits) in
    sym (decimal-digits_value (numerals_by_value _ tells_digits) text h.digits.1 h.digits.0 h.no_leading_zero small) ∙ ap decimal h.value

-- the digits of one, two and three places
two_digits : (n : ℕ) → 10 ≤ n → n < 100 → decimal n ≡ (48 + n / 10) ∷ (48 + n % 10) ∷ []
two_digits n h k = decimal_step n h (omega arith) ∙ ap (λ t. t ++ (48 + n % 10) ∷ []) (decimal_digit (n / 10) (omega arith))

three_digits : (n : ℕ) → 100 ≤ n → n < 256 → decimal n ≡ (48 + n / 100) ∷ (48 + n / 10 % 10) ∷ (48 + n % 10) ∷ []
three_digits n h k =
    let q : n / 10 / 10 ≡ n / 100 = omega arith in
    decimal_step n (omega arith) (omega arith) ∙ ap (λ t. t ++ (48 + n % 10) ∷ []) (two_digits (n / 10) (omega arith) (omega arith) ∙ ap (λ x. (48 + x) ∷ (48 + n / 10 % 10) ∷ []) q)

-- an octet text by its places
data Places : List ℕ → ℕ → Type 0 where
  One : (t : List ℕ) (n : ℕ) → n < 10 → t ≡ (48 + n) ∷ [] → Places t n
  Two : (t : List ℕ) (n : ℕ) → 10 ≤ n → n < 100 → t ≡ (48 + n / 10) ∷ (48 + n % 10) ∷ [] → Places t n
  Three : (t : List ℕ) (n : ℕ) → 100 ≤ n → n < 256 → t ≡ (48 + n / 100) ∷ (48 + n / 10 % 10) ∷ (48 + n % 10) ∷ [] → Places t n

places : (t : List ℕ) (n : ℕ) → IsOctetText t n → Places t n
places t n h =
    let e = decimal-IsOctetText t n h in
    let fits = h.fits in
    elim (cases_lt n 10) [
      | inl one ↦ One t n one (e ∙ decimal_digit n one)
      | inr more ↦ elim (cases_lt n 100) [
        | inl two ↦ Two t n more two (e ∙ two_digits n more two)
        | inr three ↦ Three t n three fits (e ∙ three_digits n three fits)
      ]
    ]

-- what may follow an octet
stops : (more : List ℕ) → StopsAtDot more → get_or more 0 0 < 48
stops more (inl e) = rw e (omega arith)
stops more (inr (rest, e)) = rw e (omega arith)

same_head : (x y : ℕ) (xs ys : List ℕ) → x ∷ xs ≡ y ∷ ys → x ≡ y
same_head x y xs ys e = ap (λ t. get_or t 0 0) e

same_tail : (x y : ℕ) (xs ys : List ℕ) → x ∷ xs ≡ y ∷ ys → xs ≡ ys
same_tail x y xs ys e = ap (drop 1) e

-- the text that an octet begins, by its places
spread : (text t more s : List ℕ) → text ≡ t ++ more → t ≡ s → text ≡ s ++ more
spread text t more s e f = e ∙ ap (λ x. x ++ more) f

-- ---- the digits at the front
-- the first bytes of a text by their values as digits, and how many of them are digits
pub record DigitsFirst (text : List ℕ) (a b c count : ℕ) : Type 0 where
  pub long : 3 ≤ length text
  pub first : get_or text 0 0 ≡ 48 + a
  pub second : b < 10 → get_or text 1 0 ≡ 48 + b
  pub no_second : 10 ≤ b → IsNoDigit (get_or text 1 0)
  pub third : c < 10 → get_or text 2 0 ≡ 48 + c
  pub no_third : 10 ≤ c → IsNoDigit (get_or text 2 0)
  pub counted : IsDigitCount b c count

pub digits_first : (text : List ℕ) (a b c count : ℕ) → 3 ≤ length text → a < 10 → (a < 10 → get_or text 0 0 ≡ 48 + a)
    → (b < 10 → get_or text 1 0 ≡ 48 + b) → (10 ≤ b → IsNoDigit (get_or text 1 0))
    → (c < 10 → get_or text 2 0 ≡ 48 + c) → (10 ≤ c → IsNoDigit (get_or text 2 0)) → IsDigitCount b c count → DigitsFirst text a b c count
digits_first text a b c count long small first second no_second third no_third counted =
    record { long = long; first = first small; second = second; no_second = no_second; third = third; no_third = no_third; counted = counted }

module _ (x y z : ℕ) (tail : List ℕ) (a b c count : ℕ) (d : DigitsFirst (x ∷ y ∷ z ∷ tail) a b c count) where
  -- they come first
  split : IsDigitCount b c count → x ∷ y ∷ z ∷ tail ≡ digits_text a b c count ++ drop count (x ∷ y ∷ z ∷ tail)
  split (inl (e, none)) = rw e (ap (λ k. k ∷ y ∷ z ∷ tail) d.first)
  split (inr (inl (e, two, none))) = rw e (ap₂ (λ k l. k ∷ l ∷ z ∷ tail) d.first (d.second two))
  split (inr (inr (e, two, three))) = rw e (ap₂ (λ k l. k ∷ l ∷ z ∷ tail) d.first (d.second two) ∙ ap (λ l. (48 + a) ∷ (48 + b) ∷ l ∷ tail) (d.third three))

  -- an octet before a dot or the end has exactly these digits
  only_digits : (t : List ℕ) (m : ℕ) (more : List ℕ) → Places t m → StopsAtDot more → x ∷ y ∷ z ∷ tail ≡ t ++ more → IsDigitCount b c count
      → (t ≡ digits_text a b c count) × (more ≡ drop count (x ∷ y ∷ z ∷ tail))
  only_digits t m more (One _ _ small f) stop e (inl (n, none)) =
      let both = spread _ t more _ e f in
      rw n (f ∙ ap (λ k. k ∷ []) (sym (same_head _ _ _ _ both) ∙ d.first), sym (same_tail _ _ _ _ both))
  only_digits t m more (One _ _ small f) stop e (inr (inl (n, two, none))) =
      let next : y ≡ get_or more 0 0 = ap (λ t. get_or t 0 0) (same_tail _ _ _ _ (spread _ t more _ e f)) in
      absurd (omega (arith, next, stops more stop, d.second two))
  only_digits t m more (One _ _ small f) stop e (inr (inr (n, two, three))) =
      let next : y ≡ get_or more 0 0 = ap (λ t. get_or t 0 0) (same_tail _ _ _ _ (spread _ t more _ e f)) in
      absurd (omega (arith, next, stops more stop, d.second two))
  only_digits t m more (Two _ _ low high f) stop e (inl (n, none)) =
      let next : y ≡ 48 + m % 10 = same_head _ _ _ _ (same_tail _ _ _ _ (spread _ t more _ e f)) in
      absurd (omega (arith, next, d.no_second none))
  only_digits t m more (Two _ _ low high f) stop e (inr (inl (n, two, none))) =
      let both = spread _ t more _ e f in
      let later = same_tail _ _ _ _ both in
      rw n (f ∙ ap₂ (λ k l. k ∷ l ∷ []) (sym (same_head _ _ _ _ both) ∙ d.first) (sym (same_head _ _ _ _ later) ∙ d.second two), sym (same_tail _ _ _ _ later))
  only_digits t m more (Two _ _ low high f) stop e (inr (inr (n, two, three))) =
      let next : z ≡ get_or more 0 0 = ap (λ t. get_or t 0 0) (same_tail _ _ _ _ (same_tail _ _ _ _ (spread _ t more _ e f))) in
      absurd (omega (arith, next, stops more stop, d.third three))
  only_digits t m more (Three _ _ low high f) stop e (inl (n, none)) =
      let next : y ≡ 48 + m / 10 % 10 = same_head _ _ _ _ (same_tail _ _ _ _ (spread _ t more _ e f)) in
      absurd (omega (arith, next, d.no_second none))
  only_digits t m more (Three _ _ low high f) stop e (inr (inl (n, two, none))) =
      let next : z ≡ 48 + m % 10 = same_head _ _ _ _ (same_tail _ _ _ _ (same_tail _ _ _ _ (spread _ t more _ e f))) in
      absurd (omega (arith, next, d.no_third none))
  only_digits t m more (Three _ _ low high f) stop e (inr (inr (n, two, three))) =
      let both = spread _ t more _ e f in
      let later = same_tail _ _ _ _ both in
      let last = same_tail _ _ _ _ later in
      rw n (
        f ∙ ap₂ (λ k l. k ∷ l ∷ (48 + m % 10) ∷ []) (sym (same_head _ _ _ _ both) ∙ d.first) (sym (same_head _ _ _ _ later) ∙ d.second two)
            ∙ ap (λ l. (48 + a) ∷ (48 + b) ∷ l ∷ []) (sym (same_head _ _ _ _ last) ∙ d.third three),
        sym (same_tail _ _ _ _ last),
      )

  octet_here : (n : ℕ) → IsOctetText (digits_text a b c count) n → IsFirstPart IsOctetText (x ∷ y ∷ z ∷ tail) n (drop count (x ∷ y ∷ z ∷ tail))
  octet_here n h = record {
    front = digits_text a b c count;
    spelled = split d.counted;
    part = h;
    only = λ t m more k stop e.
        let (same, left) = only_digits t m more (places t m k) stop e d.counted in
        (sym k.value ∙ ap (digits_value 10) same ∙ h.value, left);
  }

  none_here : ((n : ℕ) → ¬ (IsOctetText (digits_text a b c count) n)) → NoPartFirst IsOctetText (x ∷ y ∷ z ∷ tail)
  none_here none t m more k stop e =
      none m (subst (λ s. IsOctetText s m) (only_digits t m more (places t m k) stop e d.counted).0 k)

pub octet_first : (text : List ℕ) (a b c count n : ℕ) → DigitsFirst text a b c count → IsOctetText (digits_text a b c count) n
    → IsFirstPart IsOctetText text n (drop count text)
octet_first [] a b c count n d h = absurd (omega (arith, d.long))
octet_first (x ∷ []) a b c count n d h = absurd (omega (arith, d.long))
octet_first (x ∷ y ∷ []) a b c count n d h = absurd (omega (arith, d.long))
octet_first (x ∷ y ∷ z ∷ tail) a b c count n d h = octet_here x y z tail a b c count d n h

pub no_octet_first : (text : List ℕ) (a b c count : ℕ) → DigitsFirst text a b c count → ((n : ℕ) → ¬ (IsOctetText (digits_text a b c count) n))
    → NoPartFirst IsOctetText text
no_octet_first [] a b c count d none = absurd (omega (arith, d.long))
no_octet_first (x ∷ []) a b c count d none = absurd (omega (arith, d.long))
no_octet_first (x ∷ y ∷ []) a b c count d none = absurd (omega (arith, d.long))
no_octet_first (x ∷ y ∷ z ∷ tail) a b c count d none = none_here x y z tail a b c count d none

-- ---- an octet that is the whole text
pub octet_length : (text : List ℕ) (n : ℕ) → IsOctetText text n → (1 ≤ length text) × (length text ≤ 3)
octet_length text n h = elim (places text n h) [
  | One t m small f ↦ (omega (arith, ap length f), omega (arith, ap length f))
  | Two t m low high f ↦ (omega (arith, ap length f), omega (arith, ap length f))
  | Three t m low high f ↦ (omega (arith, ap length f), omega (arith, ap length f))
]

pub no_digit_at : (text : List ℕ) (n i : ℕ) → i < length text → IsNoDigit (get_or text i 0) → ¬ (IsOctetText text n)
no_digit_at text n i l none h = let there = digit_at text i h.digits.1 l in omega (arith, none)

-- the digits at the front, in the middle and at the end of a text of one, two or three
pub whole_digits : (text : List ℕ) (a b c : ℕ) → 1 ≤ length text → length text ≤ 3 → get_or text 0 0 ≡ 48 + a → get_or text (length text / 2) 0 ≡ 48 + b
    → get_or text (length text - 1) 0 ≡ 48 + c → digits_text a b c (length text) ≡ text
whole_digits [] a b c some few first middle last = absurd (omega arith)
whole_digits (x ∷ []) a b c some few first middle last = ap (λ k. k ∷ []) (sym first)
whole_digits (x ∷ y ∷ []) a b c some few first middle last = ap₂ (λ k l. k ∷ l ∷ []) (sym first) (sym middle)
whole_digits (x ∷ y ∷ z ∷ []) a b c some few first middle last =
    ap₂ (λ k l. k ∷ l ∷ (48 + c) ∷ []) (sym first) (sym middle) ∙ ap (λ l. x ∷ y ∷ l ∷ []) (sym last)
whole_digits (x ∷ y ∷ z ∷ u ∷ text) a b c some few first middle last = absurd (omega arith)

-- ---- four octets
four_items : (o : List ℕ) → length o ≡ 4 → o ≡ get_or o 0 0 ∷ get_or o 1 0 ∷ get_or o 2 0 ∷ get_or o 3 0 ∷ []
four_items [] e = absurd (omega arith)
four_items (a ∷ []) e = absurd (omega arith)
four_items (a ∷ b ∷ []) e = absurd (omega arith)
four_items (a ∷ b ∷ c ∷ []) e = absurd (omega arith)
four_items (a ∷ b ∷ c ∷ d ∷ []) e = refl
four_items (a ∷ b ∷ c ∷ d ∷ f ∷ o) e = absurd (omega arith)

-- an IPv4 text is four octet texts
pub four_joined : (text : List ℕ) (a : List Bool) → IsIpv4Text text a → (i j k l : ℕ) × IsJoined IsOctetText text (i ∷ j ∷ k ∷ l ∷ [])
four_joined text a h =
    (get_or h.octets 0 0, get_or h.octets 1 0, get_or h.octets 2 0, get_or h.octets 3 0, subst (IsJoined IsOctetText text) (four_items h.octets h.four) h.joined)

pub ipv4_spelled : (text : List ℕ) (i j k l : ℕ) → IsJoined IsOctetText text (i ∷ j ∷ k ∷ l ∷ []) → IsIpv4Text text (octet_bits (i ∷ j ∷ k ∷ l ∷ []))
ipv4_spelled text i j k l h = record { octets = i ∷ j ∷ k ∷ l ∷ []; four = refl; joined = h; value = refl }
