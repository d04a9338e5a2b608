-- The lines of lists that have an address. A line is a network or a host, as `check` reads it, and has the addresses of the
-- network.
use Rattle.std.specs.Prelude.{◌≡◌, ℕ, Bool, if◌then◌else◌, List, [], ◌++◌, codes, decimal}
use Rattle.std.specs.List.{flat_map, list_any}
use Rattle.cidr.specs.either.IpAddress.{IsIpText, ip_address_bits}
use Rattle.cidr.specs.either.IpNetwork.{network_bits}
use Rattle.cidr.specs.either.IpHost.{host_network}
use Rattle.cidr.specs.either.IpText.{ip_network_text}
use Rattle.cidr.specs.texts.Printed.{plain_text}
use Rattle.cidr.specs.declared.addr.ip.IpAddr.{IpAddr}
use Rattle.cidr_io.specs.Shown.{shown}
use Rattle.cidr_table.specs.internal.Places.{begins_with}
use Rattle.cidr_lists.specs.Entries.{AreAllEntries}
use Rattle.cidr_lists.specs.Lists.{Text}
use Rattle.cidr_lists.specs.declared.entries.Entry.{Entry}
use Rattle.netset_commands.specs.Look.{verdict_of}
use Rattle.netset_commands.specs.declared.errors.ArgumentError.{ArgumentError}
use Rattle.netset_commands.specs.declared.errors.ArgumentError.TheVariants as bad
use Rattle.netset_commands.specs.declared.output.answers.Verdict.{Verdict}

-- the network of the line has the address: it begins with its bits, the family bit in front
abbrev pub has_address : IpAddr → Entry → Bool
has_address address entry = begins_with (ip_address_bits address) (network_bits (host_network entry.host))

-- the place of a line, and its network
abbrev pub which_text : Entry → List ℕ
which_text entry = shown entry.place.file.now ++ (codes ":" ++ (decimal entry.place.number
    ++ (codes ": " ++ (ip_network_text plain_text (host_network entry.host) ++ codes "\n"))))

-- the same, if its network has the address
abbrev pub which_line : IpAddr → Entry → List ℕ
which_line address entry = if has_address address entry then which_text entry else []

-- all such lines of the lists of these names and texts, in their order; yes where there is one
abbrev pub IsWhich : IpAddr → List (List ℕ) → List Text → List ℕ → Verdict → Type 0
IsWhich address names texts answer verdict = (entries : List Entry) × AreAllEntries names texts entries
    × (answer ≡ flat_map (which_line address) entries) × (verdict ≡ verdict_of (list_any (has_address address) entries))

-- the argument is no address
abbrev pub IsNoAddressArgument : List ℕ → List ℕ → ArgumentError → Type 0
IsNoAddressArgument given text bad.NoAddress = (text ≡ given) × ((a : IpAddr) → ¬ (IsIpText given a))
IsNoAddressArgument given text e = ⊥
