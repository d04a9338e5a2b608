-- Groups at the front of a text.
use Rattle.std.proofs.Common.{◌≡◌, ◌≢◌, ℕ, zero, suc, ◌+◌, ◌-◌, ◌*◌, ◌^◌, ◌<◌, ◌≤◌, List, [], ◌∷◌, length, get_or, take, drop, refl, sym, ap, ◌∙◌, arith, inl, inr, take-append-drop, length-take-le, length-drop, get_or-drop, get_or-take, add-zero, lit≤}
use Rattle.std.proofs.lemmas.Int.Digits.{digits_value_more, digits_more, digits_value-lt}
use Rattle.std.proofs.lemmas.Bool.{cases_lt}
use Rattle.std.proofs.lemmas.List.{get_or-append_right, get_or_past, take_all}
use Rattle.std.proofs.Math.Nat.{pow-le-pow_right}
use Rattle.std.specs.Char.{digit_value}
use Rattle.std.specs.Str.Parse.{AllDigits, digits_value}
use Rattle.cidr.specs.texts.Ipv6Text.{colon}
use Rattle.cidr.specs.internal.Reading.{IsFirstGroup, NoGroupFirst, IsFullGroup}

-- what has been read of a group
pub record HasGroup (text : List ℕ) (count value : ℕ) : Type 0 where
  pub digits : AllDigits 16 (take count text)
  pub read : value ≡ digits_value 16 (take count text)
  pub few : count ≤ 4

value_fits : (text : List ℕ) (count value k : ℕ) → HasGroup text count value → count ≤ length text → count ≤ k → value < 16 ^ k
value_fits text count value k h within below =
    let l = length-take-le count text within in
    let most : 16 ^ count ≤ 16 ^ k = pow-le-pow_right (lit≤ tt) below in
    let small : digits_value 16 (take count text) < 16 ^ count = rw l at (digits_value-lt 16 (take count text) h.digits) in
    omega (arith, h.read)

pub short_value : (text : List ℕ) (count value : ℕ) → HasGroup text count value → count ≤ length text → count ≤ 3 → value < 4096
short_value text count value h within below = value_fits text count value 3 h within below

digit_at : (ds : List ℕ) (i : ℕ) → AllDigits 16 ds → i < length ds → digit_value (get_or ds i 0) < 16
digit_at [] i all l = absurd (omega arith)
digit_at (d ∷ ds) zero all l = all.0
digit_at (d ∷ ds) (suc i) all l = digit_at ds i all.1 (omega arith)

-- a digit of the text among those that were read
read_digit : (text : List ℕ) (count i : ℕ) → AllDigits 16 (take count text) → i < count → count ≤ length text → digit_value (get_or text i 0) < 16
read_digit text count i all l within =
    let len = length-take-le count text within in
    rw get_or-take at (digit_at (take count text) i all (omega arith))

-- five digits hold no group that ends
pub five_digits : (text : List ℕ) (count value i byte : ℕ) → HasGroup text count value → count ≡ 4 → count ≡ i → i < length text → byte ≡ get_or text i 0 → digit_value byte < 16 → NoGroupFirst text
five_digits text count value i byte h four e within is fifth t n more group stop split =
    let len : length t ≤ 4 = group.1 in
    let there : get_or text (length t) 0 ≡ get_or more 0 0 = rw split (get_or-append_right t more (length t) (length t) 0 refl (omega arith) ∙ ap (λ k. get_or more k 0) (omega arith)) in
    let none : 16 ≤ digit_value (get_or text (length t) 0) = rw there stop in
    elim (cases_lt (length t) 4) [
      | inl low ↦ let digit = read_digit text count (length t) h.digits (omega arith) (omega arith) in absurd (omega arith)
      | inr high ↦
          let same : length t ≡ i = omega arith in
          let digit : digit_value (get_or text (length t) 0) < 16 = rw (same, ← is) fifth in
          absurd (omega arith)
    ]

pub more_group : (text : List ℕ) (count value i byte digit : ℕ) → HasGroup text count value → count ≢ 4 → count ≡ i → i < length text
    → byte ≡ get_or text i 0 → (digit_value byte < 16) × (digit ≡ digit_value byte) → HasGroup text (count + 1) (value * 16 + digit)
more_group text count value i byte digit h short e within is next =
    let at : byte ≡ get_or text count 0 = rw e is in
    record {
      digits = digits_more 16 text count (omega arith) h.digits (rw (← at) next.0);
      read = rw (digits_value_more 16 text count (omega arith), ← at, ← h.read, next.1) refl;
      few = omega (arith, h.few);
    }

-- no digit stands at the front
pub no_group : (text : List ℕ) (count : ℕ) → count ≡ 0 → 16 ≤ digit_value (get_or text count 0) → NoGroupFirst text
no_group text count e none [] n more group stop split = absurd (omega (arith, group.0.0))
no_group text count e none (d ∷ t) n more group stop split =
    let first : 16 ≤ digit_value (get_or text 0 0) = rw e at none in
    let same : get_or text 0 0 ≡ d = ap (λ x. get_or x 0 0) split in
    let digit : digit_value (get_or text 0 0) < 16 = rw same group.0.1.0 in
    omega arith

-- the group ends where the digits do
pub first_group : (text : List ℕ) (count value : ℕ) → HasGroup text count value → count ≢ 0 → count ≤ length text
    → 16 ≤ digit_value (get_or text count 0) → IsFirstGroup text value (take (length text - count) (drop count text))
first_group text count value h some within stop =
    let rest : take (length text - count) (drop count text) ≡ drop count text = take_all _ _ (omega (arith, length-drop count text)) in
    let len = length-take-le count text within in
    record {
      front = take count text;
      spelled = rw rest (sym (take-append-drop count text));
      group = ((omega arith, h.digits), omega (arith, h.few), sym h.read);
      ends = rw (rest, get_or-drop count text 0 0, add-zero) stop;
    }

-- the digits end at the end of the text, or at another byte
pub past_end : (text : List ℕ) (count i : ℕ) → count ≡ i → length text ≤ i → 16 ≤ digit_value (get_or text count 0)
past_end text count i e end = rw (get_or_past text count 0 (omega arith)) (lit≤ tt)

pub other_byte : (text : List ℕ) (count i byte : ℕ) → count ≡ i → byte ≡ get_or text i 0 → ¬ (digit_value byte < 16) → 16 ≤ digit_value (get_or text count 0)
other_byte text count i byte e is h = let v = digit_value byte in let large : 16 ≤ v = omega arith in rw (e, ← is) large

-- ---- four digits and a colon
abbrev pub first_four : List ℕ → List ℕ
first_four text = get_or text 0 0 ∷ get_or text 1 0 ∷ get_or text 2 0 ∷ get_or text 3 0 ∷ []

pub full_group : (text : List ℕ) (n : ℕ) → 5 ≤ length text → get_or text 4 0 ≡ colon → AllDigits 16 (first_four text)
    → n ≡ digits_value 16 (first_four text) → IsFullGroup text n (take (length text - 5) (drop 5 text))
full_group (a ∷ b ∷ c ∷ d ∷ e ∷ rest) n long is digits value =
    let all : take (length (a ∷ b ∷ c ∷ d ∷ e ∷ rest) - 5) rest ≡ rest = take_all _ _ (omega arith) in
    record {
      first = record {
        front = a ∷ b ∷ c ∷ d ∷ [];
        spelled = rw (all, is) refl;
        group = ((lit≤ tt, digits), lit≤ tt, sym value);
        ends = lit≤ tt;
      };
      four = refl;
    }
full_group [] n long is digits value = absurd (omega arith)
full_group (a ∷ []) n long is digits value = absurd (omega arith)
full_group (a ∷ b ∷ []) n long is digits value = absurd (omega arith)
full_group (a ∷ b ∷ c ∷ []) n long is digits value = absurd (omega arith)
full_group (a ∷ b ∷ c ∷ d ∷ []) n long is digits value = absurd (omega arith)
