-- Lists of networks as texts, with comments and ranges. What a list says, and which line of it is in error, is said in
-- `Rattle.cidr_lists.specs.Lists`.
use Rattle.std.specs.Prelude.{◌≡◌, ◌⊎◌, ℕ, ◌==◌, if◌then◌else◌, Bool, List, ◌++◌, map}
use Rattle.cidr.specs.declared.cidr.any.AnyIpCidr.{AnyIpCidr}
use Rattle.cidr.specs.declared.cidr.any.AnyIpCidr.TheVariants.{V4, V6}
use Rattle.cidr.specs.declared.cidr.combined.IpCidr.{IpCidr}
use Rattle.cidr.specs.declared.family.Family.{Family}
use Rattle.cidr.specs.declared.family.Family.TheVariants.{Ipv4, Ipv6}
use Rattle.cidr_lists.specs.Lists.{Text, IsFirstError, ListSays, networks_in, text_by}
use Rattle.cidr_lists.specs.Messages.{line_message}
use Rattle.cidr_lists.specs.declared.errors.LineError.{LineError}
use Rattle.cidr_lists.specs.declared.lines.HostBits.{HostBits}
use Rattle.cidr_lists.specs.declared.lines.HostBits.TheVariants.{Refused, Cleared, RefusedWithMasks, ClearedWithMasks}
use Rattle.cidr_c.specs.calls.Batches.{IsListInRoom}
use Rattle.cidr_c.specs.calls.Calls.{IsPrintedInto}
use Rattle.cidr_c.specs.model.Codes.{line_code}
use Rattle.cidr_c.specs.model.Values.{IsNetworkValue, network_in}
use Rattle.cidr_c.specs.declared.values.CValue.{CValue}

-- 1 and 3 take set bits after a prefix as unset, and with any other number they are an error; 2 and 3 read masks, too
abbrev pub host_bits_by : ℕ → HostBits
host_bits_by number =
    if number == 1 then Cleared
    else (if number == 2 then RefusedWithMasks
    else (if number == 3 then ClearedWithMasks else Refused))

-- a list as C gives it
abbrev pub list_by : ℕ → List ℕ → Text
list_by host_bits bytes = text_by (host_bits_by host_bits) bytes

-- networks of each family, those of IPv4 first
abbrev pub of_both : (Family → List (List Bool)) → List AnyIpCidr
of_both networks = map (λ p. V4 p) (networks Ipv4) ++ map (λ p. V6 p) (networks Ipv6)

-- what the lines of a list say: of each family in the order of the lines, those of IPv4 first
abbrev pub AreListNetworks : Text → List AnyIpCidr → Type 0
AreListNetworks text networks =
    (said : List (List IpCidr)) × ListSays text said × (networks ≡ of_both (λ family. networks_in family said))

-- the first line in error is told, by its number, counted from 1 on, and its message, and the room for networks stays
pub record IsBadLineTold (text : Text) (old new : List CValue) (count count_new line : ℕ) (message message_new : List ℕ) (code : ℕ)
    : Type 0 where
  pub error : LineError
  pub first : IsFirstError text line error
  pub number : code ≡ line_code error
  pub len : ℕ
  pub told : IsPrintedInto (line_message error) message message_new len
  pub stays : (new ≡ old) × (count_new ≡ count)

-- a list is read: its networks are in the caller's room, or there is too little room or no memory; or its first line in
-- error is told
abbrev pub IsListRead : Text → (old new : List CValue) → (count count_new line line_new : ℕ) → (message message_new : List ℕ) → (code : ℕ)
    → Type 0
IsListRead text old new count count_new line line_new message message_new code =
    (IsListInRoom (Unit {0}) IsNetworkValue network_in (AreListNetworks text) old new count count_new code
    × (line_new ≡ line) × (message_new ≡ message))
    ⊎ IsBadLineTold text old new count count_new line_new message message_new code
