-- Files in memory.
use Rattle.std.specs.Prelude.{ℕ, if◌then◌else◌, List, [], ◌∷◌, Option, Some, None}
use Rattle.std.specs.Str.{bytes_eq}
use Rattle.netset_commands.specs.declared.errors.Reason.{Reason}
use Rattle.netset_commands.specs.declared.errors.Reason.TheVariants.{NotFound}
use Rattle.netset_uses.specs.declared.texts.TextFile.{TextFile}

-- the bytes of the first file of this name
abbrev pub contents_of : List TextFile → List ℕ → Option (List ℕ)
contents_of [] name = None
contents_of (file ∷ files) name = if bytes_eq file.name.now name then Some file.bytes.now else contents_of files name

-- why a file can't be opened: there is none of its name
abbrev pub reason_of : Option (List ℕ) → Option Reason
reason_of None = Some NotFound
reason_of (Some bytes) = None

abbrev pub reasons_of : List TextFile → List ℕ → Option Reason
reasons_of files name = reason_of (contents_of files name)
