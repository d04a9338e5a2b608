-- The messages of lines in error: the string that is wrong, as it is shown, and what is wrong with it.
use Rattle.std.specs.Prelude.{◌≡◌, ◌==◌, ℕ, if◌then◌else◌, List, ◌++◌, codes, decimal, Option, Some, None}
use Rattle.std.specs.List.{starts_with}
use Rattle.cidr.specs.texts.Messages.{address_message, parse_message}
use Rattle.cidr_io.specs.Shown.{excerpt, shown}
use Rattle.cidr_lists.specs.Wrong.{IsWrong, IsWrongWithMasks, is_of_length, wrong_message}
use Rattle.cidr_lists.specs.declared.wrong.Wrong.{Wrong}
use Rattle.cidr_lists.specs.declared.errors.BadText.{BadText}
use Rattle.cidr_lists.specs.declared.errors.LineError.{LineError}
use Rattle.cidr_lists.specs.declared.errors.LineError.TheVariants.{TooLong, NotUtf8, NoNetwork, NoAddress, NoField, Quoted, NoLength, NoCount, NoType, OtherType, RangeRow, NoAction, TwoFamilies, Reversed}
use Rattle.cidr_lists.specs.declared.lines.HostBits.{HostBits as Bits}
use Rattle.cidr_lists.specs.declared.lines.HostBits.TheVariants.{Refused, Cleared, RefusedWithMasks, ClearedWithMasks}

-- the beginning of a string as it is shown, and what is wrong with it, if that can be told
abbrev pub Shows : List ℕ → BadText → Type 0
Shows text bad = (bad.text.bytes ≡ excerpt text) × IsWrong text bad.wrong

-- the same of a string that is no network
abbrev pub ShowsBy : Bits → List ℕ → BadText → Type 0
ShowsBy Refused text bad = Shows text bad
ShowsBy Cleared text bad = Shows text bad
ShowsBy RefusedWithMasks text bad = (bad.text.bytes ≡ excerpt text) × IsWrongWithMasks text bad.wrong
ShowsBy ClearedWithMasks text bad = (bad.text.bytes ≡ excerpt text) × IsWrongWithMasks text bad.wrong

-- what is wrong with a string, or else the words of the error
abbrev pub wrong_words : Option Wrong → List ℕ → List ℕ
wrong_words None words = words
wrong_words (Some wrong) words = wrong_message wrong

-- the same of a string that is to be an address
abbrev pub address_words : Option Wrong → List ℕ → List ℕ
address_words None words = words
address_words (Some wrong) words = if is_of_length wrong then words else wrong_message wrong

-- what is told of bytes that are not UTF-8, by how they are shown: the first four of a file of look-ups are 0x89 and CID
abbrev pub not_text_words : List ℕ → List ℕ
not_text_words shown = if starts_with (λ a b. a == b) shown (codes "\\x89CID") then codes "not UTF-8, as a file of look-ups" else codes "not UTF-8"

-- the message of a line in error
abbrev pub line_message : LineError → List ℕ
line_message TooLong = codes "longer than 1 MiB"
line_message NoField = codes "the field is missing or empty"
line_message (NotUtf8 text) = text.bytes ++ codes ": " ++ not_text_words text.bytes
line_message (NoNetwork bad e) = bad.text.bytes ++ codes ": " ++ wrong_words bad.wrong (parse_message e)
line_message (NoAddress bad e) = bad.text.bytes ++ codes ": " ++ address_words bad.wrong (address_message e)
line_message (Quoted text) = text.bytes ++ codes ": " ++ codes "quoted fields are not read"
line_message (NoLength text) = text.bytes ++ codes ": " ++ codes "no prefix length"
line_message (NoCount text) = text.bytes ++ codes ": " ++ codes "no number of addresses from the first one on"
line_message (NoType text) = text.bytes ++ codes ": " ++ codes "neither ipv4, ipv6 nor asn"
line_message (OtherType text) = text.bytes ++ codes ": " ++ codes "not of the type of the record"
line_message (RangeRow text) = text.bytes ++ codes ": " ++ codes "the first address of a range, whose last one is the next field"
line_message (NoAction text) = text.bytes ++ codes ": " ++ codes "neither permit nor deny"
line_message (TwoFamilies text) = text.bytes ++ codes ": " ++ codes "the ends of the range are of two families"
line_message (Reversed text) = text.bytes ++ codes ": " ++ codes "the first address of the range is above the last one"

-- FILE:LINE: message, the name of the file as it is shown
abbrev pub fault_line : List ℕ → ℕ × LineError → List ℕ
fault_line file (number, e) = shown file ++ (codes ":" ++ (decimal number ++ (codes ": " ++ (line_message e ++ codes "\n"))))
