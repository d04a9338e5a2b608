-- Groups with all digits, one after another.
use Rattle.std.proofs.Common.{◌≡◌, ℕ, ◌/◌, ◌%◌, List, [], ◌∷◌, ◌++◌, map, refl, sym, ap, ◌∙◌, append_assoc, arith}
use Rattle.std.specs.Char.{digit_char}
use Rattle.std.proofs.lemmas.List.{map-append}
use Rattle.std.specs.List.{join_with_byte}
use Rattle.cidr_c.specs.model.Texts.{group_digits}

one_more : (x y : List ℕ) (ys : List (List ℕ)) → join_with_byte 58 (y ∷ (ys ++ x ∷ [])) ≡ join_with_byte 58 (y ∷ ys) ++ 58 ∷ x
one_more x y [] = refl
one_more x y (z ∷ ys) = ap (λ v. y ++ (58 ∷ v)) (one_more x z ys) ∙ sym (append_assoc y (58 ∷ join_with_byte 58 (z ∷ ys)) (58 ∷ x))

-- one more group
pub digits_more : (g : ℕ) (front : List ℕ) (x : ℕ) (old : List ℕ)
    → ((old ++ join_with_byte 58 (map group_digits (g ∷ front))) ++ 58 ∷ []) ++ group_digits x
    ≡ old ++ join_with_byte 58 (map group_digits (g ∷ (front ++ x ∷ [])))
digits_more g front x old =
    let e : join_with_byte 58 (map group_digits (g ∷ (front ++ x ∷ []))) ≡ join_with_byte 58 (map group_digits (g ∷ front)) ++ 58 ∷ group_digits x =
    ap (λ ds. join_with_byte 58 (group_digits g ∷ ds)) (map-append group_digits front (x ∷ []))
    ∙ one_more (group_digits x) (group_digits g) (map group_digits front) in
    rw e (simp append_assoc)

-- a group by its octets
pub by_octets : (g : ℕ) (old : List ℕ)
    → (old ++ digit_char (g / 256 / 16) ∷ digit_char (g / 256 % 16) ∷ []) ++ digit_char (g % 256 / 16) ∷ digit_char (g % 256 % 16) ∷ []
    ≡ old ++ group_digits g
unfolding group_digits
by_octets g old =
    let first : g / 256 / 16 ≡ g / 0x1000 = omega arith in
    let third : g % 256 / 16 ≡ g / 0x10 % 16 = omega arith in
    let fourth : g % 256 % 16 ≡ g % 16 = omega arith in
    append_assoc old (digit_char (g / 256 / 16) ∷ digit_char (g / 256 % 16) ∷ []) (digit_char (g % 256 / 16) ∷ digit_char (g % 256 % 16) ∷ [])
    ∙ ap (λ d. old ++ digit_char d ∷ digit_char (g / 256 % 16) ∷ digit_char (g % 256 / 16) ∷ digit_char (g % 256 % 16) ∷ []) first
    ∙ ap (λ d. old ++ digit_char (g / 0x1000) ∷ digit_char (g / 256 % 16) ∷ digit_char d ∷ digit_char (g % 256 % 16) ∷ []) third
    ∙ ap (λ d. old ++ digit_char (g / 0x1000) ∷ digit_char (g / 256 % 16) ∷ digit_char (g / 0x10 % 16) ∷ digit_char d ∷ []) fourth

pub ruleset group_laws = (digits_more)
