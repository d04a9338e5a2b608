-- The parts of a file, and what it has for an address.
use Rattle.std.specs.Prelude.{◌≡◌, ℕ, ◌+◌, ◌-◌, ◌*◌, ◌≤◌, ◌<◌, List, length, take, drop, slice_range, Ok, Err, ◌==◌, if◌then◌else◌, nat_lt}
use Rattle.cidr_mmdb.specs.Metadata.{HasMarker, IsLastMarker, layout_of}
use Rattle.cidr_mmdb.specs.Trees.{node_bytes}
use Rattle.cidr_mmdb.specs.declared.database.Database.{Database}
use Rattle.cidr_mmdb.specs.declared.metadata.Layout.{Layout}
use Rattle.cidr_mmdb.specs.declared.found.Found.{Found}
use Rattle.cidr_mmdb.specs.declared.found.Found.TheVariants.{Value, Nothing, Broken}
use Rattle.cidr_mmdb.specs.declared.errors.OpenError.{OpenError}
use Rattle.cidr_mmdb.specs.declared.errors.OpenError.TheVariants.{NoMarker, Metadata, TreeTooLong}

-- how many bytes the search tree takes
abbrev pub tree_bytes : Layout → ℕ
tree_bytes layout = layout.node_count * node_bytes layout.record_size

-- the parts of a file: the search tree, 16 bytes, the data section up to the last marker, and behind it the metadata
pub record IsOpened (bytes : List ℕ) (database : Database) : Type 0 where
  pub marker_at : ℕ
  pub layout : Layout
  pub last : IsLastMarker bytes marker_at
  pub metadata_is : database.metadata.now ≡ drop (marker_at + 14) bytes
  pub says : layout_of database.metadata.now ≡ Ok layout
  pub room : tree_bytes layout + 16 ≤ marker_at
  pub node_count : database.tree.node_count ≡ layout.node_count
  pub record_size : database.tree.record_size ≡ layout.record_size
  pub width : database.width ≡ layout.width
  pub tree_is : database.tree.bytes.now ≡ take (tree_bytes layout) bytes
  pub data_is : database.data.now ≡ slice_range bytes (tree_bytes layout + 16) marker_at

-- why bytes are no file
abbrev pub IsRefused : List ℕ → OpenError → Type 0
IsRefused bytes NoMarker = (k : ℕ) → length bytes ≤ k + 131072 → HasMarker bytes k → ⊥
IsRefused bytes TreeTooLong = (at : ℕ) × (layout : Layout) × IsLastMarker bytes at × (layout_of (drop (at + 14) bytes) ≡ Ok layout) × (at < tree_bytes layout + 16)
IsRefused bytes (Metadata error) = (at : ℕ) × IsLastMarker bytes at × (layout_of (drop (at + 14) bytes) ≡ Err error)

-- what a record says, where there are so many nodes and the data section has so many bytes: the count of nodes stands for no value, and
-- a place is counted from there on, less the 16 bytes between (Search Lookup Algorithm, Data Section Separator)
abbrev pub said_by : ℕ → ℕ → ℕ → Found
said_by nodes size at =
    if nat_lt at nodes then Broken else if at == nodes then Nothing
    else if nat_lt (at - nodes) 16 then Broken else if nat_lt (at - nodes - 16) size then Value (at - nodes - 16) else Broken
