-- A line of an access list: `allow`, a blank and a network.
use Rattle.std.specs.Prelude.{◌≡◌, ◌≢◌, ℕ, List, ◌++◌, codes, Result, MatchResult}
use Rattle.cidr.specs.either.IpText.{IsAnyNetworkText, IsIpRefused}
use Rattle.cidr.specs.texts.Messages.{parse_message}
use Rattle.cidr.specs.declared.cidr.any.AnyIpCidr.{AnyIpCidr}
use Rattle.cidr_uses.specs.declared.config_line.LineError.{LineError}
use Rattle.cidr_uses.specs.declared.config_line.LineError.TheVariants as line_error

-- the text that stands before the network
abbrev pub verb : List ℕ
verb = codes "allow "

-- the line allows this network
abbrev pub IsLine : List ℕ → AnyIpCidr → Type 0
IsLine line network = (text : List ℕ) × (line ≡ verb ++ text) × IsAnyNetworkText text network

-- the error that comes first: the line does not begin with `allow `, or the text after that spells no network
abbrev pub IsLineRefused : List ℕ → LineError → Type 0
IsLineRefused line line_error.NotAllow = (text : List ℕ) → line ≢ verb ++ text
IsLineRefused line (line_error.Network e) = (text : List ℕ) × (line ≡ verb ++ text) × IsIpRefused text e

-- reading gives the network that the line allows, or where it allows none, the error
abbrev pub ReadsConfigLine : List ℕ → Result AnyIpCidr LineError → Type 0
ReadsConfigLine line r = MatchResult r (IsLine line) (λ e. IsLineRefused line e × ((n : AnyIpCidr) → ¬ (IsLine line n)))

-- the error's message
abbrev pub config_line_message : LineError → List ℕ
config_line_message line_error.NotAllow = codes "expected `allow NETWORK`"
config_line_message (line_error.Network e) = codes "allow: " ++ parse_message e
