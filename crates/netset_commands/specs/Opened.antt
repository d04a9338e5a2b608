-- Why a file is not opened, and the bytes that a file or the standard input has left, a list in memory, or a file that begins with a header.
use Rattle.std.specs.Prelude.{ℕ, if◌then◌else◌, List, Option, Some, option_map}
use Rattle.std.specs.declared.io.ErrorKind.{ErrorKind}
use Rattle.std.specs.declared.io.ErrorKind.TheVariants as kind
use Rattle.netset_commands.specs.Program.{below_header}
use Rattle.netset_commands.specs.declared.errors.Reason.{Reason}
use Rattle.netset_commands.specs.declared.errors.Reason.TheVariants.{Denied, NotFound, Unknown}
use Rattle.netset_commands.specs.declared.input.files.Opened.{Opened}
use Rattle.netset_commands.specs.declared.input.files.Opened.TheVariants.{File, Input}
use Rattle.netset_commands.specs.declared.input.good.GoodReader.{GoodReader}
use Rattle.netset_commands.specs.declared.input.good.GoodReader.TheVariants.{Held, Beside}
use Rattle.netset_commands.specs.declared.input.headed.HeadedReader.{HeadedReader}

-- why a file is not opened, by the kind of the error
abbrev pub reason_of : ErrorKind → Reason
reason_of kind.NotFound = NotFound
reason_of kind.PermissionDenied = Denied
reason_of _ = Unknown

-- what is left of it
abbrev pub opened_remaining : {F I : Type 0} → (F → Option (List ℕ)) → (I → Option (List ℕ)) → Opened F I → Option (List ℕ)
opened_remaining of_file of_input (File file) = of_file file
opened_remaining of_file of_input (Input input) = of_input input

abbrev pub good_left : {S : Type 0} → (S → Option (List ℕ)) → GoodReader S → Option (List ℕ)
good_left left (Held bytes) = Some bytes.now
good_left left (Beside source) = left source

abbrev pub headed_left : {S : Type 0} → (S → Option (List ℕ)) → HeadedReader S → Option (List ℕ)
headed_left left reader = if reader.in_header then option_map below_header (left reader.source) else left reader.source
