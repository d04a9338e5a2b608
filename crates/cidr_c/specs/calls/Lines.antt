-- Texts of networks, one a line.
use Rattle.std.specs.Prelude.{◌≡◌, ◌≢◌, ◌⊎◌, ℕ, ◌+◌, ◌*◌, ◌<◌, ◌≤◌, Bool, List, [], ◌∷◌, ◌++◌, drop, length, take, flat_map, slice_get, slice_index_or, Some, set, true, false, Ok, Err, IsUtf8}
use Rattle.std.specs.List.{AllZip, slice_split}
use Rattle.cidr.specs.either.IpText.{ReadsAnyNetwork, any_network_text}
use Rattle.cidr.specs.texts.Printed.{plain_text}
use Rattle.cidr.specs.declared.errors.NetworkParseError.{NetworkParseError}
use Rattle.cidr_io.specs.Lines.{is_line_feed}
use Rattle.cidr_c.specs.calls.Batches.{AreNetworkValues}
use Rattle.cidr_c.specs.calls.Calls.{IsRead}
use Rattle.cidr_c.specs.model.Codes.{no_room, no_value, not_utf8, parse_code}
use Rattle.cidr_c.specs.model.Values.{IsNetworkValue, network_in}
use Rattle.cidr_c.specs.declared.values.CValue.{CValue}

-- the bytes between line feeds
abbrev pub lines_between_feeds : List ℕ → List (List ℕ)
lines_between_feeds text = slice_split is_line_feed text

-- the line is the string of the network
abbrev pub SpellsNetwork : List ℕ → CValue → Type 0
SpellsNetwork line value = IsUtf8 line × IsNetworkValue value × ReadsAnyNetwork line (Ok (network_in value))

-- the line is in error: it is not UTF-8, or it is no network, and this is the number of the first error
abbrev pub HasErrorCode : List ℕ → ℕ → Type 0
HasErrorCode line code =
    ((code ≡ not_utf8) × ¬ (IsUtf8 line)) ⊎ ((e : NetworkParseError) × (code ≡ parse_code e) × ReadsAnyNetwork line (Err e))

-- the first line of a text, and what is behind its line feed; or the text has no line feed
abbrev pub IsFirstLine : List ℕ → List ℕ → List ℕ → Bool → Type 0
IsFirstLine text line behind true = (lines_between_feeds text ≡ line ∷ lines_between_feeds behind) × (length behind < length text)
IsFirstLine text line behind false = lines_between_feeds text ≡ line ∷ []

-- a line is read into a place, or there is no such place
abbrev pub IsLineRead : List ℕ → ℕ → List CValue → List CValue → ℕ → Type 0
IsLineRead line place old new code =
    ((length old ≤ place) × (code ≡ no_room) × (new ≡ old))
    ⊎ ((place < length old) × (value : CValue) × (new ≡ set old place value)
    × IsRead ReadsAnyNetwork parse_code IsNetworkValue network_in line (slice_index_or old place value) value code)

-- the first `count` lines of a text are read: all of them, or else the room is full, or the next one is in error; what is
-- behind their networks stays
pub record AreLinesRead (text : List ℕ) (old new : List CValue) (count code : ℕ) : Type 0 where
  pub fits : count ≤ length old
  pub said : AllZip SpellsNetwork (take count (lines_between_feeds text)) (take count new)
  pub behind : drop count new ≡ drop count old
  pub all : code ≡ 0 → count ≡ length (lines_between_feeds text)
  pub room : code ≡ no_room → (count ≡ length old) × (count < length (lines_between_feeds text))
  pub error : code ≢ 0 → code ≢ no_room → (line : List ℕ) × (slice_get (lines_between_feeds text) count ≡ Some line) × HasErrorCode line code
  pub before : code ≢ 0 → code ≢ no_room → count < length old

-- what is printed of networks, each with a line feed behind it
abbrev pub printed_lines : List CValue → List ℕ
printed_lines values = flat_map (λ v. any_network_text plain_text (network_in v) ++ 10 ∷ []) values

-- the first i values are networks, and their lines have room
abbrev pub HaveRoom : List CValue → (room i : ℕ) → Type 0
HaveRoom values room i = AreNetworkValues (take i values) × (length (printed_lines (take i values)) ≤ room)

-- it is there, `count` is how many bytes it has, and what is behind them stays; or there is an error, and `count` stays: that
-- of the first value that is no network, or whose line has no room. There is room where there are 44 bytes for each network
pub record AreLinesPrinted (values : List CValue) (old new : List ℕ) (count count_new code : ℕ) : Type 0 where
  pub networks : code ≡ 0 → AreNetworkValues values
  pub text : code ≡ 0 → (count_new ≤ length new) × (take count_new new ≡ printed_lines values)
  pub behind : code ≡ 0 → drop count_new new ≡ drop count_new old
  pub value : code ≡ no_value → ¬ (AreNetworkValues values)
  pub room : 44 * length values ≤ length new → code ≢ no_room
  pub codes : (code ≡ 0) ⊎ ((code ≡ no_value) ⊎ (code ≡ no_room))
  pub stays : code ≢ 0 → count_new ≡ count
  pub first_value : code ≡ no_value → (i : ℕ) × HaveRoom values (length new) i × ¬ (AreNetworkValues (take (i + 1) values))
  pub first_line : code ≡ no_room → (i : ℕ) × HaveRoom values (length new) i × AreNetworkValues (take (i + 1) values)
      × (length new < length (printed_lines (take (i + 1) values)))
