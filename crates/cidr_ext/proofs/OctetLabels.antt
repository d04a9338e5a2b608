-- An octet in decimal with a dot behind it, at the front of a string.
use Rattle.std.proofs.Common.{◌≡◌, ◌≢◌, ℕ, ◌+◌, ◌*◌, ◌/◌, ◌%◌, ◌<◌, ◌≤◌, List, [], ◌∷◌, ◌++◌, map, decimal, refl, sym, ap, ap₂, ◌∙◌, arith, inl, inr}
use Rattle.std.proofs.lemmas.Bool.{cases_lt}
use Rattle.std.proofs.lemmas.Bool.Decides.{nat_tests}
use Rattle.std.specs.Char.{to_ascii_lowercase}
use Rattle.cidr.specs.laws.DecimalLaws.{pushed_one, pushed_two, pushed_three}
use Rattle.cidr.specs.texts.Ipv4Text.{dot}
use Rattle.cidr.specs.declared.family.Family.TheVariants.{Ipv4}
use Rattle.cidr_ext.specs.internal.LabelReading.{IsFirstLabel, NoFirstLabel}

-- ---- case
pub stays : (x : ℕ) → x < 65 → to_ascii_lowercase x ≡ x
stays x h = grind (arith, nat_tests)

pub was : (x y : ℕ) → to_ascii_lowercase x ≡ y → y < 97 → x ≡ y
was x y e h = grind (arith, nat_tests)

-- bytes that come before the letters in lower case
IsPlain : List ℕ → Type 0
IsPlain [] = ◌≡◌ {A = ℕ} 0 0
IsPlain (x ∷ xs) = (x < 97) × IsPlain xs

plain_front : (xs text ys : List ℕ) → IsPlain xs → map to_ascii_lowercase text ≡ xs ++ ys → (t : List ℕ) × (text ≡ xs ++ t) × (map to_ascii_lowercase t ≡ ys)
unfolding IsPlain
plain_front [] text ys h e = (text, refl, e)
plain_front (x ∷ xs) [] ys h e = absurd (cc)
plain_front (x ∷ xs) (c ∷ text) ys h e =
    let head : to_ascii_lowercase c ≡ x = cc in
    let tail : map to_ascii_lowercase text ≡ xs ++ ys = cc in
    let (t, is, rest) = plain_front xs text ys h.1 tail in
    (t, ap₂ (λ a b. a ∷ b) (was c x head h.0) is, rest)

-- a string that begins with a dot
pub dot_first : (text ys : List ℕ) → map to_ascii_lowercase text ≡ dot ∷ ys → (t : List ℕ) × (text ≡ dot ∷ t) × (map to_ascii_lowercase t ≡ ys)
unfolding IsPlain
dot_first text ys e = plain_front (dot ∷ []) text ys (omega arith, refl) e

-- ---- an octet and a dot by their places
pub data Places (text : List ℕ) (n : ℕ) : Type 0 where
  one : (t : List ℕ) → n < 10 → text ≡ (48 + n) ∷ dot ∷ t → Places text n
  two : (t : List ℕ) → 10 ≤ n → n < 100 → text ≡ (48 + n / 10) ∷ (48 + n % 10) ∷ dot ∷ t → Places text n
  three : (t : List ℕ) → 100 ≤ n → n < 256 → text ≡ (48 + n / 100) ∷ (48 + n / 10 % 10) ∷ (48 + n % 10) ∷ dot ∷ t → Places text n

one_digit : (n : ℕ) → n < 10 → decimal n ≡ (48 + n) ∷ []
one_digit n h = sym (pushed_one n [] h)

two_digits : (n : ℕ) → 10 ≤ n → n < 100 → decimal n ≡ (48 + n / 10) ∷ (48 + n % 10) ∷ []
two_digits n h k = sym (pushed_two n [] h k)

three_digits : (n : ℕ) → 100 ≤ n → n < 256 → decimal n ≡ (48 + n / 100) ∷ (48 + n / 10 % 10) ∷ (48 + n % 10) ∷ []
three_digits n h k = sym (pushed_three n [] h k)

places : (text : List ℕ) (n : ℕ) (rest : List ℕ) → n < 256 → map to_ascii_lowercase text ≡ decimal n ++ dot ∷ rest → Places text n
unfolding IsPlain
places text n rest fits e = elim (cases_lt n 10) [
  | inl small ↦
      let s = (48 + n) ∷ dot ∷ [] in
      let (t, is, more) = plain_front s text rest (omega arith, (omega arith, refl)) (e ∙ ap (λ d. d ++ dot ∷ rest) (one_digit n small)) in
      one t small is
  | inr large ↦ elim (cases_lt n 100) [
    | inl small ↦
        let s = (48 + n / 10) ∷ (48 + n % 10) ∷ dot ∷ [] in
        let (t, is, more) = plain_front s text rest (omega arith, (omega arith, (omega arith, refl))) (e ∙ ap (λ d. d ++ dot ∷ rest) (two_digits n large small)) in
        two t large small is
    | inr larger ↦
        let s = (48 + n / 100) ∷ (48 + n / 10 % 10) ∷ (48 + n % 10) ∷ dot ∷ [] in
        let plain : IsPlain s = (omega arith, (omega arith, (omega arith, (omega arith, refl)))) in
        let (t, is, more) = plain_front s text rest plain (e ∙ ap (λ d. d ++ dot ∷ rest) (three_digits n larger fits)) in
        three t larger fits is
  ]
]

-- ---- as a program reads its digits
same_head : (x y : ℕ) (xs ys : List ℕ) → x ∷ xs ≡ y ∷ ys → x ≡ y
same_head x y xs ys e = cc

same_tail : (x y : ℕ) (xs ys : List ℕ) → x ∷ xs ≡ y ∷ ys → xs ≡ ys
same_tail x y xs ys e = cc

pub no_digit : (text : List ℕ) → ((d : ℕ) (rest : List ℕ) → d < 10 → text ≢ (48 + d) ∷ rest) → NoFirstLabel Ipv4 text
no_digit text none n rest fits e = elim (places text n rest fits e) [
  | one t small is ↦ none n (dot ∷ t) small is
  | two t more small is ↦ none (n / 10) ((48 + n % 10) ∷ dot ∷ t) (omega arith) is
  | three t large small is ↦ none (n / 100) ((48 + n / 10 % 10) ∷ (48 + n % 10) ∷ dot ∷ t) (omega arith) is
]

module _ (text after : List ℕ) (a : ℕ) (first : text ≡ (48 + a) ∷ after) where
  pub ends_at_one : (rest : List ℕ) → a < 10 → after ≡ dot ∷ rest → IsFirstLabel Ipv4 text a rest
  ends_at_one rest small stop = (
    omega arith,
    ap (map to_ascii_lowercase) (first ∙ ap (λ t. (48 + a) ∷ t) stop)
        ∙ ap₂ (λ x y. x ∷ y ∷ map to_ascii_lowercase rest) (stays (48 + a) (omega arith)) (stays dot (omega arith))
        ∙ ap (λ d. d ++ dot ∷ map to_ascii_lowercase rest) (sym (one_digit a small)),
  )

  module _ (goes_on : (rest : List ℕ) → after ≢ dot ∷ rest) where
    pub zero_goes_on : a ≡ 0 → NoFirstLabel Ipv4 text
    zero_goes_on z n rest fits e = elim (places text n rest fits e) [
      | one t small is ↦ goes_on t (same_tail _ _ _ _ (sym first ∙ is))
      | two t more small is ↦ let head = same_head _ _ _ _ (sym first ∙ is) in omega arith
      | three t large small is ↦ let head = same_head _ _ _ _ (sym first ∙ is) in omega arith
    ]

    pub no_second : ((d : ℕ) (rest : List ℕ) → d < 10 → after ≢ (48 + d) ∷ rest) → NoFirstLabel Ipv4 text
    no_second none n rest fits e = elim (places text n rest fits e) [
      | one t small is ↦ goes_on t (same_tail _ _ _ _ (sym first ∙ is))
      | two t more small is ↦ none (n % 10) (dot ∷ t) (omega arith) (same_tail _ _ _ _ (sym first ∙ is))
      | three t large small is ↦ none (n / 10 % 10) ((48 + n % 10) ∷ dot ∷ t) (omega arith) (same_tail _ _ _ _ (sym first ∙ is))
    ]

    module _ (later : List ℕ) (b : ℕ) (second : after ≡ (48 + b) ∷ later) (small_a : a < 10) (some : a ≢ 0) (small_b : b < 10) where
      pub ends_at_two : (rest : List ℕ) → later ≡ dot ∷ rest → IsFirstLabel Ipv4 text (a * 10 + b) rest
      ends_at_two rest stop =
          let n = a * 10 + b in
          let q : n / 10 ≡ a = omega arith in
          let r : n % 10 ≡ b = omega arith in
          let digits : decimal n ≡ (48 + a) ∷ (48 + b) ∷ [] = two_digits n (omega arith) (omega arith) ∙ ap₂ (λ x y. (48 + x) ∷ (48 + y) ∷ []) q r in
          let whole : text ≡ (48 + a) ∷ (48 + b) ∷ dot ∷ rest = first ∙ ap (λ t. (48 + a) ∷ t) (second ∙ ap (λ t. (48 + b) ∷ t) stop) in (
            omega arith,
            ap (map to_ascii_lowercase) whole
                ∙ ap₂ (λ x y. x ∷ y ∷ to_ascii_lowercase dot ∷ map to_ascii_lowercase rest) (stays (48 + a) (omega arith)) (stays (48 + b) (omega arith))
                ∙ ap (λ d. d ++ dot ∷ map to_ascii_lowercase rest) (sym digits),
          )

      module _ (further : (rest : List ℕ) → later ≢ dot ∷ rest) where
        pub no_third : ((d : ℕ) (rest : List ℕ) → d < 10 → later ≢ (48 + d) ∷ rest) → NoFirstLabel Ipv4 text
        no_third none n rest fits e = elim (places text n rest fits e) [
          | one t small is ↦ goes_on t (same_tail _ _ _ _ (sym first ∙ is))
          | two t more small is ↦ further t (same_tail _ _ _ _ (sym second ∙ same_tail _ _ _ _ (sym first ∙ is)))
          | three t large small is ↦ none (n % 10) (dot ∷ t) (omega arith) (same_tail _ _ _ _ (sym second ∙ same_tail _ _ _ _ (sym first ∙ is)))
        ]

        module _ (last : List ℕ) (c : ℕ) (third : later ≡ (48 + c) ∷ last) (small_c : c < 10) where
          pub too_large : 255 < (a * 10 + b) * 10 + c → NoFirstLabel Ipv4 text
          too_large over n rest fits e = elim (places text n rest fits e) [
            | one t small is ↦ goes_on t (same_tail _ _ _ _ (sym first ∙ is))
            | two t more small is ↦ further t (same_tail _ _ _ _ (sym second ∙ same_tail _ _ _ _ (sym first ∙ is)))
            | three t large small is ↦
                let x = same_head _ _ _ _ (sym first ∙ is) in
                let y = same_head _ _ _ _ (sym second ∙ same_tail _ _ _ _ (sym first ∙ is)) in
                let z = same_head _ _ _ _ (sym third ∙ same_tail _ _ _ _ (sym second ∙ same_tail _ _ _ _ (sym first ∙ is))) in
                omega arith
          ]

          pub no_end : ((rest : List ℕ) → last ≢ dot ∷ rest) → NoFirstLabel Ipv4 text
          no_end none n rest fits e = elim (places text n rest fits e) [
            | one t small is ↦ goes_on t (same_tail _ _ _ _ (sym first ∙ is))
            | two t more small is ↦ further t (same_tail _ _ _ _ (sym second ∙ same_tail _ _ _ _ (sym first ∙ is)))
            | three t large small is ↦ none t (same_tail _ _ _ _ (sym third ∙ same_tail _ _ _ _ (sym second ∙ same_tail _ _ _ _ (sym first ∙ is))))
          ]

          pub ends_at_three : (rest : List ℕ) → (a * 10 + b) * 10 + c ≤ 255 → last ≡ dot ∷ rest → IsFirstLabel Ipv4 text ((a * 10 + b) * 10 + c) rest
          ends_at_three rest fits stop =
              let n = (a * 10 + b) * 10 + c in
              let q : n / 100 ≡ a = omega arith in
              let r : n / 10 % 10 ≡ b = omega arith in
              let s : n % 10 ≡ c = omega arith in
              let digits : decimal n ≡ (48 + a) ∷ (48 + b) ∷ (48 + c) ∷ [] =
              three_digits n (omega arith) (omega arith) ∙ ap₂ (λ x y. (48 + x) ∷ (48 + y) ∷ (48 + n % 10) ∷ []) q r ∙ ap (λ z. (48 + a) ∷ (48 + b) ∷ (48 + z) ∷ []) s in
              let whole : text ≡ (48 + a) ∷ (48 + b) ∷ (48 + c) ∷ dot ∷ rest =
              first ∙ ap (λ t. (48 + a) ∷ t) (second ∙ ap (λ t. (48 + b) ∷ t) (third ∙ ap (λ t. (48 + c) ∷ t) stop)) in (
                omega arith,
                ap (map to_ascii_lowercase) whole
                    ∙ ap₂ (λ x y. x ∷ y ∷ to_ascii_lowercase (48 + c) ∷ to_ascii_lowercase dot ∷ map to_ascii_lowercase rest) (stays (48 + a) (omega arith)) (stays (48 + b) (omega arith))
                    ∙ ap (λ z. (48 + a) ∷ (48 + b) ∷ z ∷ to_ascii_lowercase dot ∷ map to_ascii_lowercase rest) (stays (48 + c) (omega arith))
                    ∙ ap (λ d. d ++ dot ∷ map to_ascii_lowercase rest) (sym digits),
              )

-- a string begins with one octet and a dot at most
pub same_octet : (text : List ℕ) (n m : ℕ) (xs ys : List ℕ) → n < 256 → m < 256 → map to_ascii_lowercase text ≡ decimal n ++ dot ∷ xs
    → map to_ascii_lowercase text ≡ decimal m ++ dot ∷ ys → n ≡ m
same_octet text n m xs ys hn hm en em = elim (places text n xs hn en) [
  | one t small is ↦ elim (places text m ys hm em) [
    | one u less was_one ↦ let h = same_head _ _ _ _ (sym is ∙ was_one) in omega arith
    | two u more less was_two ↦ let h = same_head _ _ _ _ (same_tail _ _ _ _ (sym is ∙ was_two)) in absurd (omega arith)
    | three u more less was_three ↦ let h = same_head _ _ _ _ (same_tail _ _ _ _ (sym is ∙ was_three)) in absurd (omega arith)
  ]
  | two t more small is ↦ elim (places text m ys hm em) [
    | one u less was_one ↦ let h = same_head _ _ _ _ (same_tail _ _ _ _ (sym is ∙ was_one)) in absurd (omega arith)
    | two u some less was_two ↦
        let h = same_head _ _ _ _ (sym is ∙ was_two) in
        let k = same_head _ _ _ _ (same_tail _ _ _ _ (sym is ∙ was_two)) in
        omega arith
    | three u some less was_three ↦ let h = same_head _ _ _ _ (same_tail _ _ _ _ (same_tail _ _ _ _ (sym is ∙ was_three))) in absurd (omega arith)
  ]
  | three t more small is ↦ elim (places text m ys hm em) [
    | one u less was_one ↦ let h = same_head _ _ _ _ (same_tail _ _ _ _ (sym is ∙ was_one)) in absurd (omega arith)
    | two u some less was_two ↦ let h = same_head _ _ _ _ (same_tail _ _ _ _ (same_tail _ _ _ _ (sym is ∙ was_two))) in absurd (omega arith)
    | three u some less was_three ↦
        let h = same_head _ _ _ _ (sym is ∙ was_three) in
        let k = same_head _ _ _ _ (same_tail _ _ _ _ (sym is ∙ was_three)) in
        let l = same_head _ _ _ _ (same_tail _ _ _ _ (same_tail _ _ _ _ (sym is ∙ was_three))) in
        omega arith
  ]
]

-- what is printed is in lower case
pub lower_decimal : (n : ℕ) → n < 256 → map to_ascii_lowercase (decimal n) ≡ decimal n
lower_decimal n fits = elim (cases_lt n 10) [
  | inl small ↦ ap (map to_ascii_lowercase) (one_digit n small) ∙ ap (λ x. x ∷ []) (stays (48 + n) (omega arith)) ∙ sym (one_digit n small)
  | inr large ↦ elim (cases_lt n 100) [
    | inl small ↦
        ap (map to_ascii_lowercase) (two_digits n large small) ∙ ap₂ (λ x y. x ∷ y ∷ []) (stays (48 + n / 10) (omega arith)) (stays (48 + n % 10) (omega arith))
        ∙ sym (two_digits n large small)
    | inr larger ↦
        ap (map to_ascii_lowercase) (three_digits n larger fits)
        ∙ ap₂ (λ x y. x ∷ y ∷ to_ascii_lowercase (48 + n % 10) ∷ []) (stays (48 + n / 100) (omega arith)) (stays (48 + n / 10 % 10) (omega arith))
        ∙ ap (λ z. (48 + n / 100) ∷ (48 + n / 10 % 10) ∷ z ∷ []) (stays (48 + n % 10) (omega arith)) ∙ sym (three_digits n larger fits)
  ]
]
