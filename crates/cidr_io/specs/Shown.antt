-- How a string from outside is shown in a message, so that it ends no line, moves no cursor and hides nothing.
use Rattle.std.specs.Prelude.{◌≡◌, ℕ, ◌-◌, ◌/◌, ◌%◌, Bool, false, ◌||◌, ◌==◌, if◌then◌else◌, nat_le, List, [], ◌∷◌, ◌++◌, length, map, codes}
use Rattle.std.specs.Char.{digit_char, encode_utf8, is_ascii_control, is_control}
use Rattle.std.specs.Int.{is_in_range}
use Rattle.std.specs.List.{flat_map, list_any}
use Rattle.std.specs.Str.{chars}
use Rattle.cidr_io.specs.declared.shown.MessagePart.{MessagePart}
use Rattle.cidr_io.specs.declared.shown.MessagePart.TheVariants.{Plain, Shown}

-- `\x` and two hexadecimal digits
abbrev pub escape : ℕ → List ℕ
escape code = 92 ∷ 120 ∷ digit_char (code / 16) ∷ digit_char (code % 16) ∷ []

-- `\u` and four hexadecimal digits
abbrev pub wide_escape : ℕ → List ℕ
wide_escape code = 92 ∷ 117 ∷ digit_char (code / 4096) ∷ digit_char (code / 256 % 16) ∷ digit_char (code / 16 % 16) ∷ digit_char (code % 16) ∷ []

-- a character that is not seen, parts lines or turns the direction of writing: U+200B to U+200F, U+2028 to U+202E, U+2060
-- to U+206F, and the byte order mark, U+FEFF
abbrev pub is_hidden : ℕ → Bool
is_hidden c = is_in_range 0x200b 0x200f c || is_in_range 0x2028 0x202e c || is_in_range 0x2060 0x206f c || (c == 0xfeff)

-- a character; a control character (of ASCII or C1: Unicode's class Cc) and a hidden one by its code
abbrev pub shown_char : ℕ → List ℕ
shown_char c = if is_control c then escape c else (if is_hidden c then wide_escape c else encode_utf8 c)

-- a byte of a string that is not UTF-8: only the characters of ASCII that are no control characters stay
abbrev pub shown_byte : ℕ → List ℕ
shown_byte byte = if is_in_range 32 126 byte then byte ∷ [] else escape byte

-- a string in whole
abbrev pub shown : List ℕ → List ℕ
shown text = flat_map shown_char (chars text)

-- as many parts as fit into so many bytes, and two dots where others are left
abbrev pub cut_to : ℕ → List (List ℕ) → List ℕ
cut_to room [] = []
cut_to room (part ∷ parts) = if nat_le (length part) room then part ++ cut_to (room - length part) parts else codes ".."

-- a string in at most 40 bytes
abbrev pub excerpt : List ℕ → List ℕ
excerpt text = cut_to 40 (map shown_char (chars text))

-- one that is not UTF-8
abbrev pub byte_excerpt : List ℕ → List ℕ
byte_excerpt bytes = cut_to 40 (map shown_byte bytes)

-- a part of a message: the program's own words, or a string from outside
abbrev pub part_text : MessagePart → List ℕ
part_text (Plain text) = text.now
part_text (Shown text) = shown text.now

-- no byte is a control character of ASCII
abbrev pub HasNoControl : List ℕ → Type 0
HasNoControl text = list_any is_ascii_control text ≡ false

-- ---- what private functions promise
-- a part comes behind others where it fits, and else two dots
abbrev pub AppendsWithin : List ℕ → List ℕ → List ℕ → Bool → Type 0
AppendsWithin part old new fits = (new ≡ old ++ (if fits then part else codes "..")) × (fits ≡ nat_le (length part) (40 - length old))
