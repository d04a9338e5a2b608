-- The messages of the errors: this project's own.
use Rattle.std.specs.Prelude.{ℕ, List, codes}
use Rattle.cidr_mmdb.specs.declared.errors.JsonError.{JsonError}
use Rattle.cidr_mmdb.specs.declared.errors.JsonError.TheVariants.{Malformed, TooLong, NoMemory}
use Rattle.cidr_mmdb.specs.declared.errors.MetadataError.{MetadataError}
use Rattle.cidr_mmdb.specs.declared.errors.MetadataError.TheVariants.{NoNodeCount, NoRecordSize, NoIpVersion}
use Rattle.cidr_mmdb.specs.declared.errors.OpenError.{OpenError}
use Rattle.cidr_mmdb.specs.declared.errors.OpenError.TheVariants.{NoMarker, Metadata, TreeTooLong}

abbrev pub metadata_message : MetadataError → List ℕ
metadata_message NoNodeCount = codes "no node_count in the metadata"
metadata_message NoRecordSize = codes "no record_size of 24, 28 or 32 in the metadata"
metadata_message NoIpVersion = codes "no ip_version of 4 or 6 in the metadata"

abbrev pub open_message : OpenError → List ℕ
open_message NoMarker = codes "no marker of the metadata in the last 128 KiB"
open_message (Metadata error) = metadata_message error
open_message TreeTooLong = codes "the search tree goes on behind the metadata"

abbrev pub json_message : JsonError → List ℕ
json_message Malformed = codes "no value there"
json_message TooLong = codes "longer than the limit"
json_message NoMemory = codes "out of memory"
