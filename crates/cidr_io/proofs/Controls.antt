-- Strings as they are shown have no control character.
use Rattle.std.proofs.Common.{◌≡◌, ℕ, ◌+◌, ◌-◌, ◌/◌, ◌%◌, ◌<◌, ◌≤◌, Bool, true, false, cond, ◌||◌, suc, get_or, List, [], ◌∷◌, ◌++◌, length, map, codes, refl, ap₂, ◌∙◌, arith, nat_le}
use Rattle.std.specs.Char.{digit_char, encode_utf8, is_ascii_control, is_control}
use Rattle.std.specs.Int.{is_in_range}
use Rattle.std.specs.Str.{chars}
use Rattle.std.proofs.lemmas.Bool.Decides.{nat_tests}
use Rattle.std.proofs.lemmas.List.Folds.{list_any-append}
use Rattle.cidr_io.specs.Shown.{byte_excerpt, cut_to, escape, excerpt, HasNoControl, is_hidden, shown_byte, shown_char, wide_escape}
use lib.Dec.{ltb}

-- ---- bytes
above : (b : ℕ) → 128 ≤ b → is_ascii_control b ≡ false
above b high = grind (arith, nat_tests)

digit : (d : ℕ) → d < 16 → is_ascii_control (digit_char d) ≡ false
digit d small = grind (arith, nat_tests)

behind : (b : ℕ) (bs : List ℕ) → is_ascii_control b ≡ false → HasNoControl bs → HasNoControl (b ∷ bs)
behind b bs first rest = ap₂ (λ (x y : Bool). x || y) first rest

joined : (front back : List ℕ) → HasNoControl front → HasNoControl back → HasNoControl (front ++ back)
joined front back first rest = list_any-append is_ascii_control front back ∙ ap₂ (λ (x y : Bool). x || y) first rest

one : (a : ℕ) → is_ascii_control a ≡ false → HasNoControl (a ∷ [])
one a h = behind a [] h refl

two : (a b : ℕ) → is_ascii_control a ≡ false → is_ascii_control b ≡ false → HasNoControl (a ∷ b ∷ [])
two a b h k = behind a (b ∷ []) h (one b k)

three : (a b c : ℕ) → is_ascii_control a ≡ false → is_ascii_control b ≡ false → is_ascii_control c ≡ false → HasNoControl (a ∷ b ∷ c ∷ [])
three a b c h k l = behind a (b ∷ c ∷ []) h (two b c k l)

four : (a b c d : ℕ) → is_ascii_control a ≡ false → is_ascii_control b ≡ false → is_ascii_control c ≡ false → is_ascii_control d ≡ false
    → HasNoControl (a ∷ b ∷ c ∷ d ∷ [])
four a b c d h k l m = behind a (b ∷ c ∷ d ∷ []) h (three b c d k l m)

escape_clean : (code : ℕ) → code < 256 → HasNoControl (escape code)
escape_clean code small =
    four 92 120 (digit_char (code / 16)) (digit_char (code % 16)) refl refl (digit (code / 16) (omega arith)) (digit (code % 16) (omega arith))

-- ---- characters
low : (c : ℕ) → ltb c 128 ≡ true → is_control c ≡ false → is_ascii_control c ≡ false
low c small free = grind (arith, nat_tests)

more : (n : ℕ) → is_ascii_control (128 + n) ≡ false
more n = above (128 + n) (omega arith)

encoded : (c : ℕ) (a b d : Bool) → ltb c 128 ≡ a → is_control c ≡ false
    → HasNoControl (cond a (c ∷ []) (cond b ((192 + c / 64) ∷ (128 + c % 64) ∷ [])
    (cond d ((224 + c / 4096) ∷ (128 + c / 64 % 64) ∷ (128 + c % 64) ∷ [])
    ((240 + c / 262144) ∷ (128 + c / 4096 % 64) ∷ (128 + c / 64 % 64) ∷ (128 + c % 64) ∷ []))))
encoded c true b d is free = one c (low c is free)
encoded c false true d is free = two (192 + c / 64) (128 + c % 64) (above (192 + c / 64) (omega arith)) (more (c % 64))
encoded c false false true is free =
    three (224 + c / 4096) (128 + c / 64 % 64) (128 + c % 64) (above (224 + c / 4096) (omega arith)) (more (c / 64 % 64)) (more (c % 64))
encoded c false false false is free =
    four (240 + c / 262144) (128 + c / 4096 % 64) (128 + c / 64 % 64) (128 + c % 64) (above (240 + c / 262144) (omega arith)) (more (c / 4096 % 64))
    (more (c / 64 % 64)) (more (c % 64))

encode_clean : (c : ℕ) → is_control c ≡ false → HasNoControl (encode_utf8 c)
unfolding encode_utf8
encode_clean c free = encoded c (ltb c 128) (ltb c 2048) (ltb c 65536) refl free

control_below : (c : ℕ) → is_control c ≡ true → c < 256
control_below c is = grind (arith, nat_tests)

hidden_below : (c : ℕ) → is_hidden c ≡ true → c < 65536
hidden_below c is = grind (arith, nat_tests)

wide_clean : (code : ℕ) → code < 65536 → HasNoControl (wide_escape code)
wide_clean code small =
    joined (92 ∷ 117 ∷ []) (digit_char (code / 4096) ∷ digit_char (code / 256 % 16) ∷ digit_char (code / 16 % 16) ∷ digit_char (code % 16) ∷ []) refl
    (four (digit_char (code / 4096)) (digit_char (code / 256 % 16)) (digit_char (code / 16 % 16)) (digit_char (code % 16))
    (digit (code / 4096) (omega arith)) (digit (code / 256 % 16) (omega arith)) (digit (code / 16 % 16) (omega arith)) (digit (code % 16) (omega arith)))

char_by : (c : ℕ) (b d : Bool) → is_control c ≡ b → is_hidden c ≡ d → HasNoControl (cond b (escape c) (cond d (wide_escape c) (encode_utf8 c)))
char_by c true d is hid = escape_clean c (control_below c is)
char_by c false true is hid = wide_clean c (hidden_below c hid)
char_by c false false is hid = encode_clean c is

printable : (byte : ℕ) → is_in_range 32 126 byte ≡ true → is_ascii_control byte ≡ false
printable byte is = grind (arith, nat_tests)

byte_by : (byte : ℕ) (b : Bool) → byte < 256 → is_in_range 32 126 byte ≡ b → HasNoControl (cond b (byte ∷ []) (escape byte))
byte_by byte true small is = one byte (printable byte is)
byte_by byte false small is = escape_clean byte small

-- ---- what is cut
cut_clean : {X : Type 0} (f : X → List ℕ) → ((x : X) → HasNoControl (f x)) → (room : ℕ) (xs : List X) → HasNoControl (cut_to room (map f xs))
cut_clean f clean room [] = refl
cut_clean f clean room (x ∷ xs) =
    elim (nat_le (length (f x)) room) as (λ b. HasNoControl (cond b (f x ++ cut_to (room - length (f x)) (map f xs)) (codes ".."))) [
      | true ↦ joined (f x) (cut_to (room - length (f x)) (map f xs)) (clean x) (cut_clean f clean (room - length (f x)) xs)
      | false ↦ refl
    ]

pub excerpt_clean : (text : List ℕ) → HasNoControl (excerpt text)
excerpt_clean text = cut_clean shown_char (λ c. char_by c (is_control c) (is_hidden c) refl refl) 40 (chars text)

byte_cut_clean : (room : ℕ) (bytes : List ℕ) → ((k : ℕ) → get_or bytes k 0 < 256) → HasNoControl (cut_to room (map shown_byte bytes))
byte_cut_clean room [] fits = refl
byte_cut_clean room (x ∷ xs) fits =
    elim (nat_le (length (shown_byte x)) room) as (λ b. HasNoControl (cond b (shown_byte x ++ cut_to (room - length (shown_byte x)) (map shown_byte xs)) (codes ".."))) [
      | true ↦ joined (shown_byte x) (cut_to (room - length (shown_byte x)) (map shown_byte xs)) (byte_by x (is_in_range 32 126 x) (fits 0) refl)
          (byte_cut_clean (room - length (shown_byte x)) xs (λ k. fits (suc k)))
      | false ↦ refl
    ]

pub byte_excerpt_clean : (bytes : List ℕ) → ((k : ℕ) → get_or bytes k 0 < 256) → HasNoControl (byte_excerpt bytes)
byte_excerpt_clean bytes fits = byte_cut_clean 40 bytes fits
