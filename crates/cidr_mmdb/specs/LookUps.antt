-- What a file has for an address (Search Lookup Algorithm, IPv4 addresses in an IPv6 tree).
use Rattle.std.specs.Prelude.{ℕ, ◌-◌, List, length, if◌then◌else◌, nat_lt}
use Rattle.cidr_mmdb.specs.Databases.{said_by}
use Rattle.cidr_mmdb.specs.Trees.{record_at, walk}
use Rattle.cidr_mmdb.specs.declared.database.Database.{Database}
use Rattle.cidr_mmdb.specs.declared.found.Found.{Found}
use Rattle.cidr_mmdb.specs.declared.found.Found.TheVariants.{Nothing}
use Rattle.cidr_mmdb.specs.declared.records.RecordSize.{RecordSize}

-- what is found for an address of w bits, and how many of these were read, in a tree of so many nodes whose addresses have `width` bits,
-- beside a data section of so many bytes: its number is walked by as many bits as an address has in the tree, and an address with more
-- bits than that is not in it
abbrev pub looked_in : RecordSize → List ℕ → ℕ → ℕ → ℕ → ℕ → ℕ → Found × ℕ
looked_in record_size tree nodes width size w address =
    let walked = walk (record_at record_size tree) nodes address 0 width in
    if nat_lt width w then (Nothing, 0) else (said_by nodes size walked.0, w - walked.1)

-- the same in a file
abbrev pub looked_up : Database → ℕ → ℕ → Found × ℕ
looked_up database =
    looked_in database.tree.record_size database.tree.bytes.now database.tree.node_count database.width (length database.data.now)
