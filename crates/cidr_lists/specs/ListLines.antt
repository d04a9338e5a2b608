-- What a line of a list of networks says: a network, an address or a range of addresses, with white space around it, and a
-- comment behind it from # or ; on. A line of more than 1 MiB is in error, whatever it says.
use Rattle.std.specs.Prelude.{◌≡◌, ◌≢◌, ◌⊎◌, ℕ, ◌==◌, Bool, true, false, List, [], ◌∷◌, ◌++◌, map, IsUtf8, ◌||◌}
use Rattle.std.specs.Char.{is_ascii_whitespace}
use Rattle.std.specs.List.{before_first}
use Rattle.std.specs.Str.{IsTrimAscii, IsTrimAsciiStart}
use Rattle.std.specs.declared.cmp.Ordering.TheVariants.{Greater}
use Rattle.cidr.specs.either.IpAddress.{IsIpText, address_family, ip_address_bits}
use Rattle.cidr.specs.either.IpHost.{host_at, host_network}
use Rattle.cidr.specs.either.IpText.{IsIpHostRefused, IsIpHostText, IsIpNetworkText, IsIpRefused}
use Rattle.cidr.specs.model.Bits.{bit_cmp}
use Rattle.cidr.specs.model.Errors.{AddressError}
use Rattle.cidr.specs.model.Host.{first_host}
use Rattle.cidr.specs.texts.Messages.{ip_error}
use Rattle.cidr.specs.texts.Refusal.{Lacks}
use Rattle.cidr.specs.declared.addr.ip.IpAddr.{IpAddr}
use Rattle.cidr.specs.declared.addr.ip.IpAddr.TheVariants as address
use Rattle.cidr.specs.declared.cidr.combined.IpCidr.{IpCidr}
use Rattle.cidr.specs.declared.cidr.combined.IpCidr.TheVariants.{V4, V6}
use Rattle.cidr.specs.declared.errors.NetworkParseError.{NetworkParseError}
use Rattle.cidr.specs.declared.inet.combined.IpInet.{IpInet}
pub use Rattle.cidr_ext.specs.texts.TextFaults.{hyphen}
pub use Rattle.cidr_io.specs.Lines.{IsTooLong, is_line_feed, kept_of, lines_of, most_bytes}
use Rattle.cidr_io.specs.Shown.{byte_excerpt, excerpt}
use Rattle.cidr_sets.specs.model.Ranges.{IsBetween}
use Rattle.cidr_sets.specs.model.Sets.{IsSetOf}
use Rattle.cidr_lists.specs.Masks.{IsClearedHost, IsMaskedHost}
use Rattle.cidr_lists.specs.Messages.{Shows, ShowsBy}
use Rattle.cidr_lists.specs.declared.errors.BadText.{BadText}
use Rattle.cidr_lists.specs.declared.errors.LineError.{LineError}
use Rattle.cidr_lists.specs.declared.errors.LineError.TheVariants.{TooLong, NotUtf8, NoNetwork, NoAddress, TwoFamilies, Reversed}
use Rattle.cidr_lists.specs.declared.lines.HostBits.{HostBits}
use Rattle.cidr_lists.specs.declared.lines.HostBits.TheVariants.{Refused, Cleared, RefusedWithMasks, ClearedWithMasks}
use Rattle.cidr_lists.specs.declared.lines.Content.{Content}
use Rattle.cidr_lists.specs.declared.lines.Content.TheVariants.{Blank, Network, Ipv4Range, Ipv6Range}

-- # or ;
abbrev pub is_comment_sign : ℕ → Bool
is_comment_sign byte = (byte == 35) || (byte == 59)

-- whether set bits are taken as unset, and whether masks are read
abbrev pub way_of : Bool → Bool → HostBits
way_of false false = Refused
way_of true false = Cleared
way_of false true = RefusedWithMasks
way_of true true = ClearedWithMasks

-- the line without a comment and without ASCII white space at both ends, the carriage return of CRLF among it
abbrev pub IsField : List ℕ → List ℕ → Type 0
IsField line field = IsTrimAscii (before_first is_comment_sign line) field

-- what stands before the first ASCII white space, behind white space at the front: `look` takes it of a row of a table, so
-- that a comment sign may be in it, and of an address without its comment
abbrev pub IsFirstField : List ℕ → List ℕ → Type 0
IsFirstField bytes field = (rest : List ℕ) × IsTrimAsciiStart bytes rest × (field ≡ before_first is_ascii_whitespace rest)

-- ---- what a line says
-- without white space at both ends the string is this address
abbrev pub IsEnd : List ℕ → IpAddr → Type 0
IsEnd text address = (end : List ℕ) × IsTrimAscii text end × IsIpText end address

-- the string is these two addresses with a hyphen between them, which may have white space around it
abbrev pub AreEnds : List ℕ → IpAddr → IpAddr → Type 0
AreEnds text first last =
    (front : List ℕ) × (back : List ℕ) × (text ≡ front ++ hyphen ∷ back) × IsEnd front first × IsEnd back last

-- the string is a network, or a host whose network it is; with masks it may be one with a mask too
abbrev pub IsNetworkBy : HostBits → List ℕ → IpCidr → Type 0
IsNetworkBy Refused text network = IsIpNetworkText text network
IsNetworkBy Cleared text network = (host : IpInet) × IsIpHostText text host × (network ≡ host_network host)
IsNetworkBy RefusedWithMasks text network = IsIpNetworkText text network ⊎ IsMaskedHost text (host_at first_host network)
IsNetworkBy ClearedWithMasks text network =
    (host : IpInet) × (IsIpHostText text host ⊎ IsClearedHost text host) × (network ≡ host_network host)

-- the field is empty, a network or an address, or a range of one family, whose first address is not above its last
abbrev pub IsContent : HostBits → List ℕ → Content → Type 0
IsContent bits field Blank = field ≡ []
IsContent bits field (Network network) = IsNetworkBy bits field network
IsContent bits field (Ipv4Range first last) =
    AreEnds field (address.V4 first) (address.V4 last) × (bit_cmp first last ≢ Greater)
IsContent bits field (Ipv6Range first last) =
    AreEnds field (address.V6 first) (address.V6 last) × (bit_cmp first last ≢ Greater)

-- its networks: for a range the shortest list that has exactly the addresses from the first to the last
abbrev pub AreContentNetworks : Content → List IpCidr → Type 0
AreContentNetworks Blank said = said ≡ []
AreContentNetworks (Network network) said = said ≡ network ∷ []
AreContentNetworks (Ipv4Range first last) said =
    (networks : List (List Bool)) × IsSetOf 129 (IsBetween first last) networks × (said ≡ map (λ p. V4 p) networks)
AreContentNetworks (Ipv6Range first last) said =
    (networks : List (List Bool)) × IsSetOf 129 (IsBetween first last) networks × (said ≡ map (λ p. V6 p) networks)

-- the line says these networks
abbrev pub LineSays : HostBits → List ℕ → List IpCidr → Type 0
LineSays bits line said = ¬ (IsTooLong line)
    × (field : List ℕ) × (content : Content) × IsField line field × IsContent bits field content × AreContentNetworks content said

-- ---- a line in error
-- the string is no address of either family
abbrev pub IsNoAddress : List ℕ → Type 0
IsNoAddress text = (a : IpAddr) → ¬ (IsIpText text a)

-- the string is no network, or no host, and this is the first error; with masks none with a mask either
abbrev pub IsNoNetworkBy : HostBits → List ℕ → NetworkParseError → Type 0
IsNoNetworkBy Refused text e = IsIpRefused text e × ((n : IpCidr) → ¬ (IsIpNetworkText text n))
IsNoNetworkBy Cleared text e = IsIpHostRefused text e × ((h : IpInet) → ¬ (IsIpHostText text h))
IsNoNetworkBy RefusedWithMasks text e = IsIpRefused text e × ((n : IpCidr) → ¬ (IsNetworkBy RefusedWithMasks text n))
IsNoNetworkBy ClearedWithMasks text e = IsIpHostRefused text e × ((n : IpCidr) → ¬ (IsNetworkBy ClearedWithMasks text n))

-- the string is no address: its beginning and its fault, and the error
abbrev pub IsNoAddressBy : List ℕ → BadText → AddressError → Type 0
IsNoAddressBy text bad e = IsNoAddress text × (e ≡ ip_error) × Shows text bad

-- the same without white space at both ends
abbrev pub IsNoEndBy : List ℕ → BadText → AddressError → Type 0
IsNoEndBy text bad e = (end : List ℕ) × IsTrimAscii text end × IsNoAddressBy end bad e

-- the first error of a field, with the string that is wrong: it is not UTF-8; else, without a hyphen, it is no network,
-- and this is the first error; else what stands before its first hyphen is no address, or else what stands behind it;
-- else the two are of two families; else the first is above the last
abbrev pub IsFieldError : HostBits → List ℕ → LineError → Type 0
IsFieldError bits field (NotUtf8 text) = ¬ (IsUtf8 field) × (text.bytes ≡ byte_excerpt field)
IsFieldError bits field (NoNetwork bad e) = (field ≢ []) × Lacks hyphen field × IsNoNetworkBy bits field e × ShowsBy bits field bad
IsFieldError bits field (NoAddress bad e) = (front : List ℕ) × (back : List ℕ) × (field ≡ front ++ hyphen ∷ back) × Lacks hyphen front
    × (IsNoEndBy front bad e ⊎ ((first : IpAddr) × IsEnd front first × IsNoEndBy back bad e))
IsFieldError bits field (TwoFamilies text) = (first : IpAddr) × (last : IpAddr) × AreEnds field first last
    × (address_family first ≢ address_family last) × (text.bytes ≡ excerpt field)
IsFieldError bits field (Reversed text) = (first : IpAddr) × (last : IpAddr) × AreEnds field first last
    × (address_family first ≡ address_family last) × (bit_cmp (ip_address_bits first) (ip_address_bits last) ≡ Greater)
    × (text.bytes ≡ excerpt field)
IsFieldError bits field e = ⊥

-- the line is in error: it is too long, or it is not, and the error is that of its bytes
abbrev pub IsBadLineBy : (List ℕ → LineError → Type 0) → List ℕ → LineError → Type 0
IsBadLineBy IsBad line e = ((e ≡ TooLong) × IsTooLong line) ⊎ (¬ (IsTooLong line) × IsBad line e)

-- the same by its field
abbrev pub HasBadField : HostBits → List ℕ → LineError → Type 0
HasBadField bits line e = (field : List ℕ) × IsField line field × IsFieldError bits field e

abbrev pub IsInError : HostBits → List ℕ → LineError → Type 0
IsInError bits line e = IsBadLineBy (HasBadField bits) line e
