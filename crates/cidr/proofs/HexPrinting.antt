-- Groups in hexadecimal, digit by digit.
use Rattle.std.proofs.Common.{◌≡◌, ◌≢◌, ℕ, zero, suc, ◌+◌, ◌*◌, ◌/◌, ◌%◌, ◌^◌, ◌<◌, ◌≤◌, List, [], ◌∷◌, ◌++◌, length, get_or, map, flat_map, refl, sym, ap, ap₂, ◌∙◌, subst, arith, inl, inr, append_assoc, append-nil, le-leb}
use Rattle.std.proofs.lemmas.Bool.{cases_lt, lt-leb}
use Rattle.std.proofs.lemmas.Bool.Decides.{nat_tests}
use Rattle.std.proofs.lemmas.List.{flat_map_more, length-map}
use Rattle.std.proofs.NetLemmas.Texts.{AllSegments}
use Rattle.std.specs.Int.Digits.{AllBelowBase, number_from_digits_after, number_from_digits}
use Rattle.std.specs.Str.Parse.{AllDigits, digits_value_after}
use Rattle.std.specs.Char.{digit_char, digit_value, IsNotAsciiUppercase}
use Rattle.std.specs.Net.Text.{hex, groups_text}
use Rattle.cidr.specs.texts.Canonical.{IsPlainGroup, IsPlainGroups}

pub hex_four : (n : ℕ) (old : List ℕ) → 4096 ≤ n → (((old ++ digit_char (n / 4096) ∷ []) ++ digit_char (n / 256 % 16) ∷ []) ++ digit_char (n / 16 % 16) ∷ []) ++ digit_char (n % 16) ∷ [] ≡ old ++ hex n
unfolding hex
hex_four n old h = rw (le-leb 4096 n h) (simp append_assoc)

pub hex_three : (n : ℕ) (old : List ℕ) → 256 ≤ n → n < 4096 → ((old ++ digit_char (n / 256 % 16) ∷ []) ++ digit_char (n / 16 % 16) ∷ []) ++ digit_char (n % 16) ∷ [] ≡ old ++ hex n
unfolding hex
hex_three n old h k = rw (lt-leb 4096 n k, le-leb 256 n h) (simp append_assoc)

pub hex_two : (n : ℕ) (old : List ℕ) → 16 ≤ n → n < 256 → (old ++ digit_char (n / 16 % 16) ∷ []) ++ digit_char (n % 16) ∷ [] ≡ old ++ hex n
unfolding hex
hex_two n old h k = rw (lt-leb 4096 n (omega arith), lt-leb 256 n k, le-leb 16 n h) (simp append_assoc)

pub hex_one : (n : ℕ) (old : List ℕ) → n < 16 → old ++ digit_char (n % 16) ∷ [] ≡ old ++ hex n
unfolding hex
hex_one n old k = rw (lt-leb 4096 n (omega arith), lt-leb 256 n (omega arith), lt-leb 16 n k) refl

-- the same, two digits at a time
high_pair : (n : ℕ) → n / 256 / 16 ≡ n / 4096
high_pair n = omega arith

low_pair : (n : ℕ) → n % 256 / 16 ≡ n / 16 % 16
low_pair n = omega arith

last_of_pair : (n : ℕ) → n % 256 % 16 ≡ n % 16
last_of_pair n = omega arith

pub hex_four_pairs : (n : ℕ) (old : List ℕ) → 4096 ≤ n
    → (old ++ digit_char (n / 256 / 16) ∷ digit_char (n / 256 % 16) ∷ [])
    ++ digit_char (n % 256 / 16) ∷ digit_char (n % 256 % 16) ∷ [] ≡ old ++ hex n
hex_four_pairs n old h = rw (high_pair n, low_pair n, last_of_pair n, ← hex_four n old h) (simp append_assoc)

pub hex_three_pairs : (n : ℕ) (old : List ℕ) → 256 ≤ n → n < 4096
    → (old ++ digit_char (n / 256) ∷ []) ++ digit_char (n % 256 / 16) ∷ digit_char (n % 256 % 16) ∷ [] ≡ old ++ hex n
hex_three_pairs n old h k =
    let small : n / 256 ≡ n / 256 % 16 = omega arith in
    rw (low_pair n, last_of_pair n, ← hex_three n old h k, ← small) (simp append_assoc)

pub hex_two_pairs : (n : ℕ) (old : List ℕ) → 16 ≤ n → n < 256
    → old ++ digit_char (n % 256 / 16) ∷ digit_char (n % 256 % 16) ∷ [] ≡ old ++ hex n
hex_two_pairs n old h k = rw (low_pair n, last_of_pair n, ← hex_two n old h k) (simp append_assoc)

pub hex_one_alone : (n : ℕ) (old : List ℕ) → n < 16 → old ++ digit_char (n % 256) ∷ [] ≡ old ++ hex n
hex_one_alone n old h =
    let small : n % 256 ≡ n % 16 = omega arith in rw (small, ← hex_one n old h) refl

pub ruleset hex_laws = (hex_four_pairs, hex_three_pairs, hex_two_pairs, hex_one_alone)

-- one more group
pub groups_more : (s : ℕ) (front : List ℕ) (x : ℕ) (old : List ℕ) → (((old ++ groups_text (s ∷ front)) ++ 58 ∷ []) ++ hex x) ≡ old ++ groups_text (s ∷ (front ++ x ∷ []))
groups_more s front x old =
    let e : flat_map (λ t. 58 ∷ hex t) (front ++ x ∷ []) ≡ flat_map (λ t. 58 ∷ hex t) front ++ 58 ∷ hex x = sym (flat_map_more (λ t. 58 ∷ hex t) [] front x) in
    rw e (simp append_assoc)

pub ruleset group_text_laws = (groups_more)

-- a digit and the character that writes it
value_of_char : (d : ℕ) → d < 16 → digit_value (digit_char d) ≡ d
value_of_char d h = grind (arith, nat_tests)

lower_char : (d : ℕ) → d < 16 → IsNotAsciiUppercase (digit_char d)
lower_char d h = elim (cases_lt d 10) [ inl low ↦ inl (grind (arith, nat_tests)) | inr high ↦ inr (grind (arith, nat_tests)) ]

zero_char : (d : ℕ) → d < 16 → digit_char d ≡ 48 → d ≡ 0
zero_char d h e = sym (value_of_char d h) ∙ ap digit_value e

char_of_value : (c : ℕ) → digit_value c < 16 → IsNotAsciiUppercase c → digit_char (digit_value c) ≡ c
char_of_value c h (inl low) = grind (arith, nat_tests)
char_of_value c h (inr high) = grind (arith, nat_tests)

zero_of_value : (c : ℕ) → digit_value c ≡ 0 → c ≡ 48
zero_of_value c e = grind (arith, nat_tests)

-- digits that begin with a zero only where there is no other are a group text
digits_below : (ds : List ℕ) → AllBelowBase 16 ds → AllDigits 16 (map digit_char ds)
digits_below [] h = tt
digits_below (d ∷ ds) h = (omega (arith, value_of_char d h.0, h.0), digits_below ds h.1)

digits_read : (n : ℕ) (ds : List ℕ) → AllBelowBase 16 ds → digits_value_after 16 n (map digit_char ds) ≡ number_from_digits_after 16 n ds
digits_read n [] h = refl
digits_read n (d ∷ ds) h = ap (λ v. digits_value_after 16 (n * 16 + v) (map digit_char ds)) (value_of_char d h.0) ∙ digits_read (n * 16 + d) ds h.1

digits_lower : (ds : List ℕ) → AllBelowBase 16 ds → (i : ℕ) → i < length (map digit_char ds) → IsNotAsciiUppercase (get_or (map digit_char ds) i 0)
digits_lower [] h i l = absurd (omega arith)
digits_lower (d ∷ ds) h zero l = lower_char d h.0
digits_lower (d ∷ ds) h (suc i) l = digits_lower ds h.1 i (omega arith)

plain_digits : (d : ℕ) (ds : List ℕ) → AllBelowBase 16 (d ∷ ds) → length ds ≤ 3 → (d ≡ 0 → length ds ≡ 0) → IsPlainGroup (map digit_char (d ∷ ds)) (number_from_digits 16 (d ∷ ds))
plain_digits d ds h few lead =
    let l : length (map digit_char ds) ≡ length ds = length-map ds digit_char in
    record {
      group = ((omega arith, digits_below (d ∷ ds) h), omega arith, digits_read 0 (d ∷ ds) h);
      lower = digits_lower (d ∷ ds) h;
      no_leading_zero = λ e. omega (arith, lead (zero_char d h.0 e));
    }

-- `hex` writes the group text of a group, and it is the only one
pub IsPlainGroup-hex : (n : ℕ) → n < 2 ^ 16 → IsPlainGroup (hex n) n
IsPlainGroup-hex n fits = elim (cases_lt n 4096) [
  | inr four ↦
      let v : number_from_digits 16 (n / 4096 ∷ n / 256 % 16 ∷ n / 16 % 16 ∷ n % 16 ∷ []) ≡ n = omega arith in
      subst (λ t. IsPlainGroup t n) (hex_four n [] four)
      (subst (IsPlainGroup _) v (plain_digits (n / 4096) (n / 256 % 16 ∷ n / 16 % 16 ∷ n % 16 ∷ []) (omega arith, (omega arith, (omega arith, (omega arith, tt)))) (omega arith) (λ z. omega arith)))
  | inl h₃ ↦ elim (cases_lt n 256) [
    | inr three ↦
        let v : number_from_digits 16 (n / 256 % 16 ∷ n / 16 % 16 ∷ n % 16 ∷ []) ≡ n = omega arith in
        subst (λ t. IsPlainGroup t n) (hex_three n [] three h₃)
        (subst (IsPlainGroup _) v (plain_digits (n / 256 % 16) (n / 16 % 16 ∷ n % 16 ∷ []) (omega arith, (omega arith, (omega arith, tt))) (omega arith) (λ z. omega arith)))
    | inl h₂ ↦ elim (cases_lt n 16) [
      | inr two ↦
          let v : number_from_digits 16 (n / 16 % 16 ∷ n % 16 ∷ []) ≡ n = omega arith in
          subst (λ t. IsPlainGroup t n) (hex_two n [] two h₂)
          (subst (IsPlainGroup _) v (plain_digits (n / 16 % 16) (n % 16 ∷ []) (omega arith, (omega arith, tt)) (omega arith) (λ z. omega arith)))
      | inl one ↦
          let v : number_from_digits 16 (n % 16 ∷ []) ≡ n = omega arith in
          subst (λ t. IsPlainGroup t n) (hex_one n [] one)
          (subst (IsPlainGroup _) v (plain_digits (n % 16) [] (omega arith, tt) (omega arith) (λ z. refl)))
    ]
  ]
]

-- a character is that of its value
same_char : (c m : ℕ) → digit_value c < 16 → IsNotAsciiUppercase c → m ≡ digit_value c → c ≡ digit_char m
same_char c m h lower e = sym (char_of_value c h lower) ∙ ap digit_char (sym e)

pub one_plain : (text : List ℕ) (n : ℕ) → IsPlainGroup text n → text ≡ hex n
one_plain [] n h = let some = h.group.0.0 in absurd (omega arith)
one_plain (a ∷ []) n h =
    let v = h.group.2 in
    let ha = h.group.0.1.0 in
    ap (λ c. c ∷ []) (same_char a (n % 16) ha (h.lower 0 (omega arith)) (omega arith)) ∙ hex_one n [] (omega arith)
one_plain (a ∷ b ∷ []) n h =
    let v = h.group.2 in
    let ha = h.group.0.1.0 in
    let hb = h.group.0.1.1.0 in
    let lead : digit_value a ≢ 0 = λ z. omega (arith, h.no_leading_zero (zero_of_value a z)) in
    let first = same_char a (n / 16 % 16) ha (h.lower 0 (omega arith)) (omega arith) in
    let second = same_char b (n % 16) hb (h.lower 1 (omega arith)) (omega arith) in
    ap₂ (λ c d. c ∷ d ∷ []) first second ∙ hex_two n [] (omega arith) (omega arith)
one_plain (a ∷ b ∷ c ∷ []) n h =
    let v = h.group.2 in
    let ha = h.group.0.1.0 in
    let hb = h.group.0.1.1.0 in
    let hc = h.group.0.1.1.1.0 in
    let lead : digit_value a ≢ 0 = λ z. omega (arith, h.no_leading_zero (zero_of_value a z)) in
    let first = same_char a (n / 256 % 16) ha (h.lower 0 (omega arith)) (omega arith) in
    let second = same_char b (n / 16 % 16) hb (h.lower 1 (omega arith)) (omega arith) in
    let third = same_char c (n % 16) hc (h.lower 2 (omega arith)) (omega arith) in
    ap₂ (λ x t. x ∷ t) first (ap₂ (λ x y. x ∷ y ∷ []) second third) ∙ hex_three n [] (omega arith) (omega arith)
one_plain (a ∷ b ∷ c ∷ d ∷ []) n h =
    let v = h.group.2 in
    let ha = h.group.0.1.0 in
    let hb = h.group.0.1.1.0 in
    let hc = h.group.0.1.1.1.0 in
    let hd = h.group.0.1.1.1.1.0 in
    let lead : digit_value a ≢ 0 = λ z. omega (arith, h.no_leading_zero (zero_of_value a z)) in
    let first = same_char a (n / 4096) ha (h.lower 0 (omega arith)) (omega arith) in
    let second = same_char b (n / 256 % 16) hb (h.lower 1 (omega arith)) (omega arith) in
    let third = same_char c (n / 16 % 16) hc (h.lower 2 (omega arith)) (omega arith) in
    let fourth = same_char d (n % 16) hd (h.lower 3 (omega arith)) (omega arith) in
    ap₂ (λ x t. x ∷ t) first (ap₂ (λ x t. x ∷ t) second (ap₂ (λ x y. x ∷ y ∷ []) third fourth)) ∙ hex_four n [] (omega arith)
one_plain (a ∷ b ∷ c ∷ d ∷ e ∷ more) n h = let few = h.group.1 in absurd (omega arith)

-- the same of groups
pub IsPlainGroups-groups_text : (groups : List ℕ) → AllSegments groups → IsPlainGroups (groups_text groups) groups
IsPlainGroups-groups_text [] h = refl
IsPlainGroups-groups_text (g ∷ []) h = rw append-nil (IsPlainGroup-hex g (h 0))
IsPlainGroups-groups_text (g ∷ k ∷ gs) h = (hex g, groups_text (k ∷ gs), refl, IsPlainGroup-hex g (h 0), IsPlainGroups-groups_text (k ∷ gs) (λ i. h (suc i)))

pub one_plain_groups : (text groups : List ℕ) → IsPlainGroups text groups → text ≡ groups_text groups
one_plain_groups text [] h = h
one_plain_groups text (g ∷ []) h = one_plain text g h ∙ sym (append-nil (hex g))
one_plain_groups text (g ∷ k ∷ gs) (front, back, split, first, later) =
    split ∙ ap₂ (λ x y. x ++ 58 ∷ y) (one_plain front g first) (one_plain_groups back (k ∷ gs) later)
