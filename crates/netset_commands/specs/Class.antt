-- What addresses are for, by the registries of IANA.
use Rattle.std.specs.Prelude.{◌≡◌, ◌⊎◌, ℕ, Bool, List, Option, Some}
use Rattle.cidr.specs.either.IpAddress.{IsIpText}
use Rattle.cidr.specs.declared.addr.ip.IpAddr.{IpAddr}
use Rattle.cidr_lists.specs.Classes.{IsClassLine, registry}
use Rattle.cidr_lists.specs.Lists.{Text, lines_of}
use Rattle.cidr_lists.specs.LookUps.{IsBadAsked, LinesTell}
use Rattle.cidr_lists.specs.declared.fields.Asked.TheVariants.{First}
use Rattle.cidr_lists.specs.declared.objects.Telling.TheVariants.{Alone}
use Rattle.netset_commands.specs.Causes.{FileMayFail}
use Rattle.netset_commands.specs.Look.{verdict_of}
use Rattle.netset_commands.specs.Streaming.{IsCut}
use Rattle.netset_commands.specs.declared.errors.ArgumentError.TheVariants as bad
use Rattle.netset_commands.specs.declared.errors.CommandError.{CommandError}
use Rattle.netset_commands.specs.declared.errors.CommandError.TheVariants as error
use Rattle.netset_commands.specs.declared.output.answers.Verdict.{Verdict}

-- the lines of the addresses of a text, and whether one of them has an entry
abbrev pub AreClasses : List ℕ → List ℕ → Verdict → Type 0
AreClasses text answer verdict = (found : Bool) × LinesTell Alone First registry (lines_of text) (answer, found) × (verdict ≡ verdict_of found)

-- the same of the lines that were read, where the text was not read to its end, for this reason
abbrev pub AreClassesCut : List ℕ → List ℕ → CommandError → Type 0
AreClassesCut text answer e = (found : Bool) × IsCut (LinesTell Alone First registry) (IsBadAsked First) (lines_of text) (answer, found) e

-- the string is no address of either family
abbrev pub IsNoAddressText : List ℕ → Type 0
IsNoAddressText operand = (address : IpAddr) → ¬ (IsIpText operand address)

-- the operand is an address, or else a file, of whose lines this is told
abbrev pub IsClassOf : (List ℕ → Option Text) → List ℕ → List ℕ → Verdict → Type 0
IsClassOf contents operand answer verdict = ((address : IpAddr) × IsIpText operand address × (found : Bool) × IsClassLine address answer found × (verdict ≡ verdict_of found))
    ⊎ (IsNoAddressText operand × ((text : Text) → contents operand ≡ Some text → AreClasses text.bytes answer verdict))

-- what belongs to the lines that were read of the file, if it was not read to its end
abbrev pub IsClassUntil : (List ℕ → Option Text) → List ℕ → List ℕ → CommandError → Type 0
IsClassUntil contents operand answer e =
    IsNoAddressText operand × ((text : Text) → contents operand ≡ Some text → AreClassesCut text.bytes answer e)

-- why nothing is told of an operand: it is no address, and its file can't be read, or there is no memory
abbrev pub IsUnclassed : (List ℕ → Option Text) → List ℕ → CommandError → Type 0
IsUnclassed contents operand (error.Argument text e) =
    (text.now ≡ operand) × (e ≡ bad.AddressOrFile) × IsNoAddressText operand × FileMayFail contents operand
IsUnclassed contents operand error.NoMemory = IsNoAddressText operand
IsUnclassed contents operand e = ⊥
