-- Tables of networks with a value each, as C has them, and what they forward, whose definitions are in
-- `Rattle.cidr_forwarding.specs.Forwarding`. Of a network that repeats the last row counts.
use Rattle.std.specs.Prelude.{ℕ, List, All, map}
use Rattle.cidr.specs.either.IpNetwork.{any_bits}
use Rattle.cidr.specs.declared.cidr.any.AnyIpCidr.{AnyIpCidr}
use Rattle.cidr_forwarding.specs.Forwarding.{ForwardSame, IsSmallest, in_bits}
use Rattle.cidr_table.specs.model.CoverAddresses.{IsIpAddressBits}
use Rattle.cidr_table.specs.model.LastRows.{AreLastRows}
use Rattle.cidr_c.specs.model.Values.{IsNetworkValue, network_in}
use Rattle.cidr_c.specs.declared.forwarding.CRow.{CRow}

-- a row is of a network
abbrev pub IsRowValue : CRow → Type 0
IsRowValue r = IsNetworkValue r.network

abbrev pub AreRowValues : List CRow → Type 0
AreRowValues rows = All IsRowValue rows

-- its network and its value
abbrev pub network_row : CRow → AnyIpCidr × ℕ
network_row r = (network_in r.network, r.value)

-- rows as tables: of those of each network the last one
abbrev pub AreOfTable : List CRow → List (AnyIpCidr × ℕ) → Type 0
AreOfTable rows table = AreLastRows (map network_row rows) table

-- the smallest table with the same forwarding
abbrev pub IsSmallestOf : List CRow → List (AnyIpCidr × ℕ) → Type 0
IsSmallestOf rows smallest =
    (table : List (AnyIpCidr × ℕ)) × AreOfTable rows table × IsSmallest IsIpAddressBits (in_bits any_bits table) (in_bits any_bits smallest)

-- each address has the same value in the tables of both, or in neither one
abbrev pub ForwardSameRows : List CRow → List CRow → Type 0
ForwardSameRows these those =
    (one other : List (AnyIpCidr × ℕ)) → AreOfTable these one → AreOfTable those other → ForwardSame any_bits IsIpAddressBits one other
