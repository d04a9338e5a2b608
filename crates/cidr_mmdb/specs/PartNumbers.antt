-- The parts of a file as numbers that stand beside its bytes.
use Rattle.std.specs.Prelude.{◌≡◌, ℕ, List, length}
use Rattle.cidr_mmdb.specs.Databases.{IsOpened}
use Rattle.cidr_mmdb.specs.Starts.{start_in}
use Rattle.cidr_mmdb.specs.declared.database.Database.{Database}
use Rattle.cidr_mmdb.specs.declared.parts.Parts.{Parts}

-- these numbers are those of what `open` found in these bytes
pub record AreParts (bytes : List ℕ) (parts : Parts) (database : Database) : Type 0 where
  pub opened : IsOpened bytes database
  pub node_count : parts.node_count ≡ database.tree.node_count
  pub record_size : parts.record_size ≡ database.tree.record_size
  pub width : parts.width ≡ database.width
  pub data_len : parts.data_len ≡ length database.data.now
  pub ipv4_start : parts.ipv4_start ≡ start_in database.tree.record_size database.tree.bytes.now database.tree.node_count database.width
