-- Where walks by IPv4 addresses begin.
use Rattle.std.specs.Prelude.{ℕ, ◌-◌, List}
use Rattle.cidr_mmdb.specs.Trees.{record_at, walk}
use Rattle.cidr_mmdb.specs.declared.records.RecordSize.{RecordSize}

-- the record behind as many zeros as an address of the tree has bits more than one of IPv4
abbrev pub start_in : RecordSize → List ℕ → ℕ → ℕ → ℕ
start_in record_size tree nodes width = (walk (record_at record_size tree) nodes 0 0 (width - 32)).0
