-- MaxMind DB files. Which bytes are one, and what it has, is said in `Rattle.cidr_mmdb.specs`.
use Rattle.std.specs.Prelude.{◌≡◌, ◌≢◌, ◌⊎◌, ◌↔◌, ℕ, ◌^◌, ◌<◌, ◌≤◌, List, drop, length, take, Option, Some, None, ◌==◌, if◌then◌else◌}
use Rattle.cidr.specs.either.IpAddress.{address_family, plain_bits}
use Rattle.cidr.specs.either.IpNetwork.{specific}
use Rattle.cidr.specs.model.Bits.{number}
use Rattle.cidr.specs.model.Network.{width_of}
use Rattle.cidr_mmdb.specs.Databases.{IsOpened, IsRefused}
use Rattle.cidr_mmdb.specs.LookUps.{looked_up}
use Rattle.cidr_mmdb.specs.Rows.{IsNextRow, IsPassed, begin_behind}
use Rattle.cidr_mmdb.specs.Starts.{start_in}
use Rattle.cidr_mmdb.specs.declared.database.Database.{Database}
use Rattle.cidr_mmdb.specs.declared.errors.JsonError.{JsonError}
use Rattle.cidr_mmdb.specs.declared.errors.JsonError.TheVariants.{Malformed, TooLong, NoMemory}
use Rattle.cidr_mmdb.specs.declared.errors.MetadataError.TheVariants.{NoNodeCount, NoRecordSize, NoIpVersion}
use Rattle.cidr_mmdb.specs.declared.errors.OpenError.{OpenError}
use Rattle.cidr_mmdb.specs.declared.errors.OpenError.TheVariants.{NoMarker, Metadata, TreeTooLong}
use Rattle.cidr_mmdb.specs.declared.found.Found.{Found}
use Rattle.cidr_mmdb.specs.declared.found.Found.TheVariants.{Value, Nothing, Broken}
use Rattle.cidr_mmdb.specs.declared.records.RecordSize.{RecordSize}
use Rattle.cidr_mmdb.specs.declared.records.RecordSize.TheVariants.{Bits24, Bits28, Bits32}
use Rattle.cidr_mmdb.specs.declared.rows.Row.{Row}
use Rattle.cidr_c.specs.model.Codes.{no_memory, no_room, no_such, no_value}
use Rattle.cidr_c.specs.model.Values.{IsAddressValue, IsIpNetworkValue, IsNetworkValue, address_in, family_in, ip_network_in, network_in, prefix_in}
use Rattle.cidr_c.specs.declared.mmdb.CMmdb.{CMmdb}
use Rattle.cidr_c.specs.declared.mmdb.CMmdbRow.{CMmdbRow}
use Rattle.cidr_c.specs.declared.values.CValue.{CValue}

-- ---- opening
-- how many bits a record has
abbrev pub record_bits : RecordSize → ℕ
record_bits Bits24 = 24
record_bits Bits28 = 28
record_bits Bits32 = 32

-- these numbers say where the parts of a file are in its bytes
pub record IsMmdbOf (bytes : List ℕ) (file : CMmdb) (database : Database) : Type 0 where
  pub opened : IsOpened bytes database
  pub node_count : file.node_count ≡ database.tree.node_count
  pub record_size : file.record_size ≡ record_bits database.tree.record_size
  pub width : file.width ≡ database.width
  pub data_len : file.data_len ≡ length database.data.now
  pub ipv4_start : file.ipv4_start ≡ start_in database.tree.record_size database.tree.bytes.now database.tree.node_count database.width

-- the number of why bytes are no file
abbrev pub open_code : OpenError → ℕ
open_code NoMarker = 31
open_code (Metadata NoNodeCount) = 32
open_code (Metadata NoRecordSize) = 33
open_code (Metadata NoIpVersion) = 34
open_code TreeTooLong = 35

-- opening: 0, and where the parts of a file are; or the number of the first reason why the bytes are none, and all is as it was
pub record IsMmdbOpened (bytes : List ℕ) (old new : CMmdb) (code : ℕ) : Type 0 where
  pub file : code ≡ 0 → (database : Database) × IsMmdbOf bytes new database
  pub fault : code ≢ 0 → (e : OpenError) × (code ≡ open_code e) × IsRefused bytes e
  pub stays : code ≢ 0 → new ≡ old

-- ---- look-ups and rows
-- what is found, by its number
abbrev pub found_in : CMmdbRow → Found
found_in row = if row.found == 0 then Nothing else if row.found == 1 then Value row.place else Broken

-- the row of a network
abbrev pub row_in : CMmdbRow → Row
row_in row = record { network = ip_network_in row.network; found = found_in row }

-- what is written as a row: a network of one family, and one of the three numbers; a place only beside the number of a value
pub record IsMmdbRow (row : CMmdbRow) : Type 0 where
  pub network : IsIpNetworkValue row.network
  pub found : row.found ≤ 2
  pub place : row.found ≢ 1 → row.place ≡ 0

-- a look-up: 0, and in the file the network that its tree has the address in and what it finds; or the value is no address, and all is as
-- it was
pub record IsMmdbFound (bytes : List ℕ) (file : CMmdb) (asked : CValue) (old new : CMmdbRow) (code : ℕ) : Type 0 where
  pub codes : (code ≡ 0) ⊎ (code ≡ no_value)
  pub refused : (code ≡ no_value) ↔ ¬ (IsAddressValue asked)
  pub stays : code ≢ 0 → new ≡ old
  pub row : code ≡ 0 → IsMmdbRow new
  pub family : code ≡ 0 → family_in new.network ≡ address_family (address_in asked)
  pub network : code ≡ 0 → (database : Database) → IsMmdbOf bytes file database → prefix_in new.network
      ≡ take (looked_up database (width_of (address_family (address_in asked))) (number (plain_bits (address_in asked)))).1 (plain_bits (address_in asked))
  pub found : code ≡ 0 → (database : Database) → IsMmdbOf bytes file database → found_in new
      ≡ (looked_up database (width_of (address_family (address_in asked))) (number (plain_bits (address_in asked)))).0

-- how many networks with nothing a call passes at the most
abbrev pub most_passed : ℕ
most_passed = 1000

-- the next row behind the network of a row, or for `any` the first: 0 and the row; or there is none; or the value is no network. But for
-- the first, all is as it was
pub record IsMmdbNext (bytes : List ℕ) (file : CMmdb) (old new : CMmdbRow) (code : ℕ) : Type 0 where
  pub codes : (code ≡ 0) ⊎ ((code ≡ no_such) ⊎ (code ≡ no_value))
  pub refused : (code ≡ no_value) ↔ ¬ (IsNetworkValue old.network)
  pub stays : code ≢ 0 → new ≡ old
  pub row : code ≡ 0 → IsMmdbRow new
  pub next : code ≡ 0 → (database : Database) → IsMmdbOf bytes file database
      → IsNextRow (looked_up database) database.width (begin_behind (specific (network_in old.network))) most_passed (row_in new)
  pub none : code ≡ no_such → (database : Database) → IsMmdbOf bytes file database
      → IsPassed (looked_up database) database.width (begin_behind (specific (network_in old.network))) (2 ^ database.width)

-- ---- values
-- the number of why a value has no text
abbrev pub json_code : JsonError → ℕ
json_code Malformed = 36
json_code TooLong = 37
json_code NoMemory = no_memory

-- the text of a value, of at most so many bytes, by what is read: 0, and it stands in the front of the room, as `count` tells how many
-- bytes; or the number of why there is none; or there is too little room, and `count` tells how much is enough
pub record IsMmdbText (limit : ℕ) (read : Option (List ℕ × ℕ)) (new : List ℕ) (count_new code : ℕ) : Type 0 where
  pub text : code ≡ 0 → (end : ℕ) × (read ≡ Some (take count_new new, end))
  pub within : code ≡ 0 → count_new ≤ limit
  pub room : code ≡ no_room → (text : List ℕ) × (end : ℕ) × (read ≡ Some (text, end)) × (count_new ≡ length text) × (length text ≤ limit) × (length new < count_new)
  pub malformed : code ≡ 36 → read ≡ None
  pub long : code ≡ 37 → (text : List ℕ) (end : ℕ) → read ≡ Some (text, end) → limit < length text

-- what the room and the count become, whatever the bytes are
pub record IsMmdbRoom (old new : List ℕ) (count count_new code : ℕ) : Type 0 where
  pub codes : (code ≡ 0) ⊎ ((code ≡ no_room) ⊎ ((code ≡ 36) ⊎ ((code ≡ 37) ⊎ (code ≡ no_memory))))
  pub fits : code ≡ 0 → count_new ≤ length new
  pub behind : code ≡ 0 → drop count_new new ≡ drop count_new old
  pub stays : code ≢ 0 → new ≡ old
  pub count_stays : code ≢ 0 → code ≢ no_room → count_new ≡ count
