-- The rows of an address plan: a network, an address or a range a line, as in a list, with a name behind it. What a line of a list
-- says is said in `Rattle.cidr_lists.specs.ListLines`.
use Rattle.std.specs.Prelude.{◌≡◌, ◌⊎◌, ℕ, ◌+◌, ◌<◌, ◌≤◌, ◌==◌, Bool, not, ◌||◌, ◌&&◌, List, [], ◌∷◌, ◌++◌, All, drop, length, map, take, if◌then◌else◌, nat_le, nat_lt, IsUtf8}
use Rattle.std.specs.Char.{is_ascii_whitespace}
use Rattle.std.specs.List.{position_or_len, prefix_len}
use Rattle.cidr.specs.either.IpAddress.{IsIpText}
use Rattle.cidr.specs.declared.addr.ip.IpAddr.{IpAddr}
use Rattle.cidr.specs.declared.cidr.combined.IpCidr.{IpCidr}
use Rattle.cidr.specs.declared.cidr.combined.IpCidr.TheVariants.{V4, V6}
use Rattle.cidr.specs.declared.family.Family.{Family}
use Rattle.cidr.specs.declared.family.Family.TheVariants.{Ipv4, Ipv6}
use Rattle.cidr_io.specs.Shown.{byte_excerpt}
use Rattle.cidr_lists.specs.Lists.{AreContentNetworks, HasBadField, IsBadLineBy, IsContent, IsField, IsTooLong}
use Rattle.cidr_lists.specs.Messages.{line_message}
use Rattle.cidr_lists.specs.declared.errors.LineError.{LineError}
use Rattle.cidr_lists.specs.declared.errors.LineError.TheVariants.{RangeRow}
use Rattle.cidr_lists.specs.declared.lines.Content.{Content}
use Rattle.cidr_lists.specs.declared.lines.HostBits.{HostBits}
use Rattle.cidr_c.specs.calls.Calls.{IsPrintedInto}
use Rattle.cidr_c.specs.calls.Lines.{lines_between_feeds}
use Rattle.cidr_c.specs.model.Codes.{line_code, no_memory, no_room}
use Rattle.cidr_c.specs.model.Values.{IsIpNetworkValue, ip_network_in}
use Rattle.cidr_c.specs.declared.plans.CPlanFault.{CPlanFault}
use Rattle.cidr_c.specs.declared.plans.CPlanRow.{CPlanRow}

-- ---- where a row is cut
-- white space or a comma, which part words
abbrev pub is_gap : ℕ → Bool
is_gap byte = is_ascii_whitespace byte || (byte == 44)

abbrev pub is_hyphen : ℕ → Bool
is_hyphen byte = byte == 45

-- how many bytes at the front of a string part words, and where its first word ends
abbrev pub gap_len : List ℕ → ℕ
gap_len text = position_or_len (λ byte. not (is_gap byte)) text

abbrev pub word_end : List ℕ → ℕ
word_end text = gap_len text + position_or_len is_gap (drop (gap_len text) text)

-- where its first hyphen stands
abbrev pub hyphen_at : List ℕ → ℕ
hyphen_at text = position_or_len is_hyphen text

-- that is in the first word or next behind it, as in 10.0.0.0 - 10.0.0.9
abbrev pub has_early_hyphen : List ℕ → Bool
has_early_hyphen text =
    nat_lt (hyphen_at text) (length text) && nat_le (hyphen_at text) (word_end text + gap_len (drop (word_end text) text))

-- where ends what a row says of networks: behind its first word, or, with such a hyphen, behind the word that follows it
abbrev pub said_end : List ℕ → ℕ
said_end row =
    if has_early_hyphen row then hyphen_at row + 1 + word_end (drop (hyphen_at row + 1) row) else word_end row

-- where its name begins
abbrev pub name_at : List ℕ → ℕ
name_at row = said_end row + gap_len (drop (said_end row) row)

-- both
abbrev pub said_of : List ℕ → List ℕ
said_of row = take (said_end row) row

abbrev pub name_of : List ℕ → List ℕ
name_of row = drop (name_at row) row

-- ---- what a row says
-- the string is an address
abbrev pub IsAddressText : List ℕ → Type 0
IsAddressText text = IsUtf8 text × (a : IpAddr) × IsIpText text a

-- behind an address stands another one, which may be its mask or the last one of a range: such a row is refused
abbrev pub HasTwoAddresses : List ℕ → Type 0
HasTwoAddresses row = IsAddressText (said_of row) × IsAddressText (take (word_end (name_of row)) (name_of row))

-- without its comment and white space at both ends the line is a row, whose network or range is read as a line of a list; its name
-- begins at this byte of the line, and has so many
pub record RowSays (bits : HostBits) (line : List ℕ) (content : Content) (begin len : ℕ) : Type 0 where
  pub row : List ℕ
  pub field : List ℕ
  pub fits : ¬ (IsTooLong line)
  pub is_row : IsField line row
  pub is_field : IsField (said_of row) field
  pub says : IsContent bits field content
  pub one : ¬ (HasTwoAddresses row)
  pub place : begin ≡ prefix_len is_ascii_whitespace line + name_at row
  pub size : name_at row + len ≡ length row

-- the error of two addresses shows the first
abbrev pub IsOfTwoAddresses : List ℕ → LineError → Type 0
IsOfTwoAddresses row (RangeRow text) = HasTwoAddresses row × (text.bytes ≡ byte_excerpt (said_of row))
IsOfTwoAddresses row e = ⊥

-- the line is in error
abbrev pub HasBadRow : HostBits → List ℕ → LineError → Type 0
HasBadRow bits line e = (row : List ℕ) × IsField line row × (HasBadField bits (said_of row) e ⊎ IsOfTwoAddresses row e)

abbrev pub IsBadRow : HostBits → List ℕ → LineError → Type 0
IsBadRow bits line e = IsBadLineBy (HasBadRow bits) line e

-- ---- the rows of a text
-- a row as C has it: its network, the number of its line, and where its name lies in the text
abbrev pub plan_row : CPlanRow → IpCidr × (ℕ × (ℕ × ℕ))
plan_row row = (ip_network_in row.network, (row.line, (row.name, row.name_len)))

-- its network is one
abbrev pub IsPlanRow : CPlanRow → Type 0
IsPlanRow row = IsIpNetworkValue row.network

-- what the line of this number, which begins at this byte of the text, tells: a row for each network that it says; or it is in error
abbrev pub LineTells : HostBits → (number at : ℕ) → List ℕ → List (IpCidr × (ℕ × (ℕ × ℕ))) → List CPlanFault → Type 0
LineTells bits number at line rows faults =
    ((content : Content) × (begin len : ℕ) × (networks : List IpCidr) × RowSays bits line content begin len × AreContentNetworks content networks
    × (rows ≡ map (λ network. (network, (number, (at + begin, len)))) networks) × (faults ≡ []))
    ⊎ ((e : LineError) × IsBadRow bits line e × (rows ≡ [])
    × (faults ≡ record { line = number; text = at; text_len = length line; code = line_code e; zero = 0 } ∷ []))

-- what all lines tell, of which the first has this number and begins at this byte
abbrev pub LinesTell : HostBits → (number at : ℕ) → List (List ℕ) → List (IpCidr × (ℕ × (ℕ × ℕ))) → List CPlanFault → Type 0
LinesTell bits number at [] rows faults = (rows ≡ []) × (faults ≡ [])
LinesTell bits number at (line ∷ lines) rows faults =
    (own others : List (IpCidr × (ℕ × (ℕ × ℕ)))) × (bad worse : List CPlanFault) × (rows ≡ own ++ others) × (faults ≡ bad ++ worse)
    × LineTells bits number at line own bad × LinesTell bits (number + 1) (at + length line + 1) lines others worse

-- the rows of a text, and its lines in error, both in the order of the lines
pub record AreOfPlan (bits : HostBits) (text : List ℕ) (rows : List CPlanRow) (faults : List CPlanFault) : Type 0 where
  pub networks : All IsPlanRow rows
  pub told : LinesTell bits 1 0 (lines_between_feeds text) (map plan_row rows) faults

-- ---- the calls
-- as much of a list as there is room for is at the front of it, and the count is how long the list is
abbrev pub IsFrontPut : {P : Type 0} → List P → (old new : List P) → (count : ℕ) → Type 0
IsFrontPut list old new count = (count ≡ length list) × (new ≡ take (length old) list ++ drop (length list) old)

-- a plan is read: as many of its rows and faults as there is room for are in the caller's rooms, and both counts are how many there are;
-- or there is no memory, and all is as it was
pub record IsPlanRead (bits : HostBits) (text : List ℕ) (rows rows_new : List CPlanRow) (count count_new : ℕ)
    (faults faults_new : List CPlanFault) (wrong wrong_new code : ℕ) : Type 0 where
  pub read : (code ≡ 0) ⊎ (code ≡ no_room) → (all : List CPlanRow) × (bad : List CPlanFault) × AreOfPlan bits text all bad
      × IsFrontPut all rows rows_new count_new × IsFrontPut bad faults faults_new wrong_new
  pub fits : code ≡ 0 → (count_new ≤ length rows) × (wrong_new ≤ length faults)
  pub room : code ≡ no_room → (length rows < count_new) ⊎ (length faults < wrong_new)
  pub codes : (code ≡ 0) ⊎ ((code ≡ no_room) ⊎ (code ≡ no_memory))
  pub stays : code ≡ no_memory → (rows_new ≡ rows) × (count_new ≡ count) × (faults_new ≡ faults) × (wrong_new ≡ wrong)

-- the message of a line in error, and its number; or the line is in none, and the room is as it was
abbrev pub IsRowMessage : HostBits → List ℕ → (old new : List ℕ) → (code : ℕ) → Type 0
IsRowMessage bits line old new code =
    ((code ≡ 0) × (new ≡ old) × (content : Content) × (begin len : ℕ) × RowSays bits line content begin len)
    ⊎ ((e : LineError) × IsBadRow bits line e × (code ≡ line_code e) × (len : ℕ) × IsPrintedInto (line_message e) old new len)

-- ---- what private functions promise each other
-- what a row says, and where its name lies in its line
abbrev pub IsRowRead : HostBits → List ℕ → Content → ℕ × ℕ → Type 0
IsRowRead bits line content name = RowSays bits line content name.0 name.1

-- the networks of both families, those of IPv4 first
abbrev pub ip_networks : (Family → List (List Bool)) → List IpCidr
ip_networks networks = map (λ p. V4 p) (networks Ipv4) ++ map (λ p. V6 p) (networks Ipv6)

-- a row of this place for each of these networks comes behind the others
pub record AddsRows (old new : List CPlanRow) (networks : List IpCidr) (place : ℕ × (ℕ × ℕ)) : Type 0 where
  pub own : List CPlanRow
  pub all : new ≡ old ++ own
  pub are : All IsPlanRow own
  pub rows : map plan_row own ≡ map (λ network. (network, place)) networks

-- what a line tells comes behind what was told before
pub record AddsLine (bits : HostBits) (number at : ℕ) (line : List ℕ) (rows rows_new : List CPlanRow) (faults faults_new : List CPlanFault)
    : Type 0 where
  pub own : List CPlanRow
  pub bad : List CPlanFault
  pub all : rows_new ≡ rows ++ own
  pub wrong : faults_new ≡ faults ++ bad
  pub are : All IsPlanRow own
  pub tells : LineTells bits number at line (map plan_row own) bad
