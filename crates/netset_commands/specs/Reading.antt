-- What functions that read a list promise, about bytes that are known.
use Rattle.std.specs.Prelude.{◌≡◌, ℕ, List, Result, Ok, Err}
use Rattle.cidr.specs.declared.cidr.combined.IpCidr.{IpCidr}
pub use Rattle.cidr_io.specs.Lines.{IsNextLine}
use Rattle.cidr_io.specs.declared.lines.LineReadError.{LineReadError as NoLine}
use Rattle.cidr_io.specs.declared.lines.LineReadError.TheVariants.{Failed}
use Rattle.cidr_io.specs.declared.lines.LineReadError.TheVariants as no_line
use Rattle.cidr_lists.specs.Lists.{Text, SaysBy, IsBadBy, ListSays, IsFirstError, line_networks, networks_in}
use Rattle.netset_commands.specs.declared.errors.ListReadError.{ListReadError}
use Rattle.netset_commands.specs.declared.errors.ListReadError.TheVariants.{Line, Input, NoMemory}
use Rattle.cidr_lists.specs.declared.records.ListForm.{ListForm}
use Rattle.cidr_lists.specs.declared.lists.Lists.{Lists}
use Rattle.cidr_lists.specs.Reading.{Grows}

-- a source that has failed can't be read
abbrev pub read_error : NoLine → ListReadError
read_error Failed = Input
read_error no_line.NoMemory = NoMemory

-- no line is in error
abbrev pub IsStopped : ListReadError → Type 0
IsStopped (Line number e) = ⊥
IsStopped Input = Unit {0}
IsStopped NoMemory = Unit {0}

-- the first line in error, or nothing of the text where reading has stopped
abbrev pub IsReadError : Text → ListReadError → Type 0
IsReadError text (Line number e) = IsFirstError text number e
IsReadError text Input = Unit {0}
IsReadError text NoMemory = Unit {0}

-- the error is that of this line, or the line is not known to have one
abbrev pub IsLineError : ListForm → List ℕ → ℕ → ListReadError → Type 0
IsLineError bits line number (Line n e) = (n ≡ number) × IsBadBy bits line e
IsLineError bits line number Input = ⊥
IsLineError bits line number NoMemory = Unit {0}

-- the networks that a line says come behind those before
abbrev pub AddsLine : ListForm → List ℕ → ℕ → Lists → Lists → Result (Unit {0}) ListReadError → Type 0
AddsLine bits line number old new (Ok _) = (said : List IpCidr) × SaysBy bits line said × Grows old new (λ family. line_networks family said)
AddsLine bits line number old new (Err e) = IsLineError bits line number e

-- the networks that a text says come behind those before
abbrev pub ReadsList : Text → Lists → Lists → Result (Unit {0}) ListReadError → Type 0
ReadsList text old new (Ok _) = (said : List (List IpCidr)) × ListSays text said × Grows old new (λ family. networks_in family said)
ReadsList text old new (Err e) = IsReadError text e
