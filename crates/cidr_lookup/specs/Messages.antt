-- The messages of the errors: this project's own.
use Rattle.std.specs.Prelude.{ℕ, List, ◌++◌, codes, decimal}
use Rattle.cidr_lookup.specs.declared.table.TableError.{TableError}
use Rattle.cidr_lookup.specs.declared.table.TableError.TheVariants as error
use Rattle.cidr_lookup.specs.declared.checking.WordsFault.{WordsFault}
use Rattle.cidr_lookup.specs.declared.checking.WordsFault.TheVariants.{Steps, TooLong, Keys, First, Word}

abbrev pub table_message : TableError → List ℕ
table_message error.TooMany = codes "more than 2147483647 keys"
table_message (error.Refused index) = codes "no network, or out of order: key " ++ decimal index
table_message error.TooLarge = codes "more than 1073741823 words"
table_message error.NoMemory = codes "out of memory"

abbrev pub fault_message : WordsFault → List ℕ
fault_message Steps = codes "no such number of steps"
fault_message TooLong = codes "more than 1073741823 words"
fault_message (Keys problem) = table_message problem
fault_message (First index) = codes "not of the keys: entry " ++ decimal index
fault_message (Word index) = codes "not of the keys: word " ++ decimal index
