-- The messages of the errors: this project's own.
use Rattle.std.specs.Prelude.{ℕ, List, ◌++◌, codes, decimal}
use Rattle.cidr.specs.texts.Messages.{prefix_message}
use Rattle.cidr_table.specs.declared.table.load.LoadError.{LoadError}
use Rattle.cidr_table.specs.declared.table.load.LoadError.TheVariants.{Prefix, NoMemory}

abbrev pub load_message : LoadError → List ℕ
load_message (Prefix index e) = codes "prefix " ++ (decimal index ++ (codes ": " ++ prefix_message e))
load_message NoMemory = codes "memory allocation failed"
