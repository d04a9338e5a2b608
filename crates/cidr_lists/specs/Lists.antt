-- What a list of networks says, line by line: line feeds separate lines, so that a last one makes an empty line, which says
-- nothing.
use Rattle.std.specs.Prelude.{◌≡◌, Bool, ℕ, ◌+◌, List, [], ◌∷◌, ◌++◌, length}
use Rattle.std.specs.List.{AllZip, flat_map}
use Rattle.cidr.specs.declared.cidr.combined.IpCidr.{IpCidr}
use Rattle.cidr.specs.declared.cidr.combined.IpCidr.TheVariants.{V4, V6}
use Rattle.cidr.specs.declared.family.Family.{Family}
use Rattle.cidr.specs.declared.family.Family.TheVariants.{Ipv4, Ipv6}
pub use Rattle.cidr_lists.specs.ListLines.{IsTooLong, hyphen, is_comment_sign, is_line_feed, kept_of, lines_of, most_bytes, way_of}
pub use Rattle.cidr_lists.specs.ListLines.{AreContentNetworks, AreEnds, IsContent, IsEnd, IsField, IsFirstField, IsNetworkBy, LineSays}
pub use Rattle.cidr_lists.specs.ListLines.{HasBadField, IsBadLineBy, IsFieldError, IsInError, IsNoAddress, IsNoAddressBy, IsNoEndBy, IsNoNetworkBy}
use Rattle.cidr_lists.specs.Records.{IsBadRecord, RecordSays}
use Rattle.cidr_lists.specs.declared.errors.LineError.{LineError}
use Rattle.cidr_lists.specs.declared.lines.HostBits.{HostBits}
use Rattle.cidr_lists.specs.declared.lines.HostBits.TheVariants.{Refused}
use Rattle.cidr_lists.specs.declared.records.ListForm.{ListForm}
use Rattle.cidr_lists.specs.declared.records.ListForm.TheVariants.{Networks, Rir}

-- a list: its bytes, and its form
pub record Text : Type 0 where
  pub bytes : List ℕ
  pub form : ListForm

abbrev pub text_in : ListForm → List ℕ → Text
text_in form bytes = record { bytes = bytes; form = form }

-- a list of networks that are read in this way
abbrev pub text_by : HostBits → List ℕ → Text
text_by bits bytes = text_in (Networks bits) bytes

-- how networks are read beside a list of this form: those of a row or of a rule
abbrev pub bits_in : ListForm → HostBits
bits_in (Networks bits) = bits
bits_in Rir = Refused

-- what a line of a list says
abbrev pub SaysBy : ListForm → List ℕ → List IpCidr → Type 0
SaysBy (Networks bits) line said = LineSays bits line said
SaysBy Rir line said = RecordSays line said

-- or its error
abbrev pub IsBadBy : ListForm → List ℕ → LineError → Type 0
IsBadBy (Networks bits) line e = IsInError bits line e
IsBadBy Rir line e = IsBadRecord line e

-- what each line says
abbrev pub ListSays : Text → List (List IpCidr) → Type 0
ListSays text said = AllZip (SaysBy text.form) (lines_of text.bytes) said

-- of all these lines this is the first in error, by its number from 1 on: those before it say something
pub record IsFirstBad {S : Type 0} (Say : List (List ℕ) → S → Type 0) (IsBad : List ℕ → LineError → Type 0) (all : List (List ℕ)) (number : ℕ) (e : LineError) : Type 0 where
  pub before : List (List ℕ)
  pub line : List ℕ
  pub after : List (List ℕ)
  pub lines : all ≡ before ++ line ∷ after
  pub place : number ≡ length before + 1
  pub said : S
  pub fine : Say before said
  pub fault : IsBad line e

-- the first line of a list in error
abbrev pub IsFirstError : Text → ℕ → LineError → Type 0
IsFirstError text number e = IsFirstBad (AllZip (SaysBy text.form)) (IsBadBy text.form) (lines_of text.bytes) number e

-- the networks of a family among those that a line says
abbrev pub line_networks : Family → List IpCidr → List (List Bool)
line_networks family [] = []
line_networks Ipv4 (V4 p ∷ said) = p ∷ line_networks Ipv4 said
line_networks Ipv4 (V6 p ∷ said) = line_networks Ipv4 said
line_networks Ipv6 (V4 p ∷ said) = line_networks Ipv6 said
line_networks Ipv6 (V6 p ∷ said) = p ∷ line_networks Ipv6 said

-- the networks of a family that the lines say
abbrev pub networks_in : Family → List (List IpCidr) → List (List Bool)
networks_in family said = flat_map (line_networks family) said
