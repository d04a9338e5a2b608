-- The messages of the errors: this project's own.
use Rattle.std.specs.Prelude.{ℕ, List, ◌++◌, codes, decimal}
use Rattle.cidr_lookup.specs.Messages as lookup
use Rattle.cidr_files.specs.declared.faults.FileFault.{FileFault}
use Rattle.cidr_files.specs.declared.faults.FileFault.TheVariants.{Magic, Old, Version, Short, Long, Ipv4, Ipv6}
use Rattle.cidr_files.specs.declared.faults.TableFault.{TableFault}
use Rattle.cidr_files.specs.declared.faults.TableFault.TheVariants.{Words, Offsets}
use Rattle.cidr_files.specs.declared.faults.WriteError.{WriteError}
use Rattle.cidr_files.specs.declared.faults.WriteError.TheVariants as write

abbrev pub table_message : TableFault → List ℕ
table_message (Words fault) = lookup.fault_message fault
table_message Offsets = codes "values not one behind the other"

abbrev pub fault_message : FileFault → List ℕ
fault_message Magic = codes "no file of tables"
fault_message Old = codes "of an older version, which an older netset compile made: compile the table anew"
fault_message (Version other) = codes "of another version than 5: " ++ decimal other
fault_message Short = codes "shorter than its header says"
fault_message Long = codes "longer than its header says"
fault_message (Ipv4 fault) = codes "no table of IPv4: " ++ table_message fault
fault_message (Ipv6 fault) = codes "no table of IPv6: " ++ table_message fault

abbrev pub write_message : WriteError → List ℕ
write_message (write.Table e) = lookup.table_message e
write_message write.Values = codes "values not one behind the other, or too long"
