-- What functions that read several lists promise.
use Rattle.std.specs.Prelude.{◌≡◌, ◌≢◌, ◌⊎◌, ℕ, Bool, true, List, [], ◌∷◌, Option, Some, None, Result, Ok, Err}
use Rattle.std.specs.List.{AllZip}
use Rattle.cidr.specs.declared.cidr.combined.IpCidr.{IpCidr}
use Rattle.cidr.specs.declared.family.Family.{Family}
use Rattle.cidr.specs.either.IpNetwork.{network_family, network_prefix}
use Rattle.cidr_ext.specs.model.Subnets.{subnets_of}
use Rattle.cidr_sets.specs.model.Sets.{IsSetOf}
use Rattle.cidr_lists.specs.Changes.{merged}
use Rattle.cidr_lists.specs.Formats.{Style, printed_by, printed_walk}
use Rattle.cidr_lists.specs.Lists.{Text, ListSays, IsFirstError, networks_in}
use Rattle.cidr_lists.specs.Reading.{Grows}
use Rattle.cidr_lists.specs.Sets.{networks_of}
use Rattle.cidr_lists.specs.Texts.{SaysAddress}
use Rattle.netset_commands.specs.Commands.{AreTold, HoldsOf, IsFree, IsTold}
use Rattle.netset_commands.specs.Program.{HasNoSubnets, IsBadArgument, IsUnread, by_output}
use Rattle.netset_commands.specs.Stored.{AreFileBytes, IsNotGiven}
use Rattle.cidr_io.specs.Writing.{State, Answered}
use Rattle.cidr_io.specs.declared.sink.OutputFailed.{OutputFailed}
use Rattle.netset_commands.specs.Describing.{told_of}
use Rattle.netset_commands.specs.Free.{IsFreeText}
use Rattle.netset_commands.specs.Single.{HasNone}
use Rattle.netset_commands.specs.Operands.{IsUnlisted, IsUnreadOperand, OfList, OfOperand}
use Rattle.netset_commands.specs.declared.commands.describe.Description.{Description}
use Rattle.netset_commands.specs.declared.output.answers.Verdict.{Verdict}
use Rattle.netset_commands.specs.declared.output.answers.Verdict.TheVariants.{Yes, No}
use Rattle.cidr_lists.specs.declared.changes.Sign.{Sign}
use Rattle.netset_commands.specs.declared.errors.CommandError.{CommandError}
use Rattle.netset_commands.specs.declared.errors.ArgumentError.TheVariants as bad
use Rattle.netset_commands.specs.declared.errors.CommandError.TheVariants as error
use Rattle.std.specs.Borrow.{Bor}
use Rattle.cidr_lists.specs.declared.lists.Lists.{Lists}
use Rattle.cidr_lists.specs.declared.sets.Sets.{Sets}
use Rattle.netset_commands.specs.declared.input.begun.FileContent.{FileContent}
use Rattle.netset_commands.specs.declared.input.begun.FileContent.TheVariants.{Lines, Stored}
use Rattle.netset_commands.specs.declared.input.several.Several.{Several}

-- why the file of this name is not read
abbrev pub IsFileError : Option Text → List ℕ → CommandError → Type 0
IsFileError contents name (error.Argument text e) = ⊥
IsFileError contents name (error.Line file number e) = (file.now ≡ name) × ((text : Text) → contents ≡ Some text → IsFirstError text number e)
IsFileError contents name (error.Input file why) = file.now ≡ name
IsFileError contents name error.NoMemory = Unit {0}
IsFileError contents name error.Output = ⊥
IsFileError contents name (error.File file e) = ⊥

-- the networks of the list of a file come behind those before
abbrev pub AddsFile : Option Text → List ℕ → Lists → Lists → Result (Unit {0}) CommandError → Type 0
AddsFile contents name old new (Ok _) = (text : Text) → contents ≡ Some text
    → (said : List (List IpCidr)) × ListSays text said × Grows old new (λ family. networks_in family said)
AddsFile contents name old new (Err e) = IsFileError contents name e

-- the sets have the addresses that a list says
abbrev pub HasAddresses : List (List IpCidr) → Sets → Type 0
HasAddresses said sets = (family : Family) → IsSetOf 129 (SaysAddress said family) (networks_of sets family)

-- the addresses of the list of a file, or why it is not read
abbrev pub ReadsFile : Option Text → List ℕ → Result Sets CommandError → Type 0
ReadsFile contents name (Ok sets) = (text : Text) → contents ≡ Some text → (said : List (List IpCidr)) × ListSays text said × HasAddresses said sets
ReadsFile contents name (Err e) = IsFileError contents name e

-- what a file has in the place of a list: lines, by the addresses that they say, or the bytes of a file of look-ups; or why it is
-- not read
abbrev pub GivesList : Option Text → List ℕ → Result (FileContent Sets) CommandError → Type 0
GivesList contents name (Ok (Lines sets)) = ReadsFile contents name (Ok sets)
GivesList contents name (Ok (Stored bytes)) = AreFileBytes contents bytes.items
GivesList contents name (Err e) = IsNotGiven (IsFileError contents name) contents name e

-- the sets have the addresses of a list, or of the rows of a file of look-ups
abbrev pub HaveListAddresses : Text → Sets → Type 0
HaveListAddresses text sets = HoldsOf text (λ IsIn. (family : Family) → IsSetOf 129 (IsIn family) (networks_of sets family))

-- the addresses of a file, or why it is not read
abbrev pub ReadsAddresses : Option Text → List ℕ → Result Sets CommandError → Type 0
ReadsAddresses contents name (Ok sets) = (text : Text) → contents ≡ Some text → HaveListAddresses text sets
ReadsAddresses contents name (Err e) = IsNotGiven (IsFileError contents name) contents name e

-- each list of some files has the addresses of its set
abbrev pub AreRead : (List ℕ → Option Text) → List (List ℕ) → List Sets → Type 0
AreRead contents names sets = (texts : List Text) → AreTold contents names texts
    → (said : List (List (List IpCidr))) × AllZip ListSays texts said × AllZip HasAddresses said sets

-- those of a first file and of the others, or why they are not read
abbrev pub ReadsSeveral : (List ℕ → Option Text) → List (List ℕ) → Result Several CommandError → Type 0
ReadsSeveral contents names (Ok several) = AreRead contents names (several.first ∷ several.others.items)
ReadsSeveral contents names (Err e) = IsUnread contents names e

-- an error of reading a file, where that is an operand that is no network and no address
abbrev pub operand_error : Bor (List ℕ) → CommandError → CommandError
operand_error operand (error.Input name why) = error.Argument operand bad.Operand
operand_error operand e = e

-- the addresses of the list of a file, or why it is not read
abbrev pub ReadsListed : (List ℕ → Option Text) → List ℕ → Result Sets CommandError → Type 0
ReadsListed contents operand (Ok sets) = OfList (contents operand) (λ said. HasAddresses said sets)
ReadsListed contents operand (Err e) = IsUnlisted contents operand e

-- the addresses of an operand, or why it is not read
abbrev pub ReadsOperand : (List ℕ → Option Text) → List ℕ → Result Sets CommandError → Type 0
ReadsOperand contents operand (Ok sets) = OfOperand contents operand (λ said. HasAddresses said sets)
ReadsOperand contents operand (Err e) = IsUnreadOperand contents operand e

-- what is printed of sets in a style was written, or there was no memory for it
abbrev pub PrintsBy : Option Style → (Family → List (List Bool)) → Bool → State → State → Result Verdict CommandError → Type 0
PrintsBy style sets refused old new r = ((new ≡ old) × (refused ≡ true) × (r ≡ Err error.NoMemory))
    ⊎ ((written : Result (Unit {0}) OutputFailed) × Answered old new (printed_by style sets) written × (r ≡ by_output Yes written))

-- the free networks of sets were told
abbrev pub TellsFree : Option Style → (Family → List (List Bool)) → ℕ → Option ℕ → State → State → Result Verdict CommandError → Type 0
TellsFree style sets n most old new r = (answer : List ℕ) × (verdict : Verdict) × (written : Result (Unit {0}) OutputFailed)
    × IsFreeText style sets n most answer verdict × Answered old new answer written × (r ≡ by_output verdict written)

-- the networks of n bits inside a network, ascending
abbrev pub split_text : Option Style → IpCidr → ℕ → List ℕ
split_text style network n = printed_walk style (subnets_of (network_family network) (network_prefix network) n)

-- they were told, or the length is none of theirs
abbrev pub SplitsNetwork : Option Style → IpCidr → List ℕ → ℕ → State → State → Result Verdict CommandError → Type 0
SplitsNetwork style network len n old new r = ((new ≡ old) × (e : CommandError) × (r ≡ Err e) × IsBadArgument (HasNoSubnets network len n) e)
    ⊎ (¬ (HasNone network n) × (written : Result (Unit {0}) OutputFailed) × Answered old new (split_text style network n) written × (r ≡ by_output Yes written))

-- those inside the networks of a list were told, or the list is not read
abbrev pub SplitsList : (List ℕ → Option Text) → Option Style → List ℕ → ℕ → State → State → Result Verdict CommandError → Type 0
SplitsList contents style file n old new r = ((new ≡ old) × (e : CommandError) × (r ≡ Err e) × IsUnlisted contents file e)
    ⊎ ((answer : List ℕ) × (verdict : Verdict) × (written : Result (Unit {0}) OutputFailed)
    × OfList (contents file) (λ said. IsFree style n None (said ∷ []) answer verdict) × Answered old new answer written × (r ≡ by_output verdict written))

-- what is told of the networks of an operand was written, or it is not read
abbrev pub DescribesNetworks : (List ℕ → Option Text) → Description → List ℕ → State → State → Result Verdict CommandError → Type 0
DescribesNetworks contents what operand old new r =
    ((new ≡ old) × (e : CommandError) × (r ≡ Err e) × IsUnreadOperand contents operand e)
    ⊎ ((answer : List ℕ) × (written : Result (Unit {0}) OutputFailed) × OfOperand contents operand (λ said. IsTold (told_of what) said answer)
    × Answered old new answer written × (r ≡ by_output Yes written))

-- the networks of two sets with their signs
abbrev pub changed : Sets → Sets → Family → List (Sign × List Bool)
changed added lacking family = merged (λ p. p) (networks_of added family) (networks_of lacking family)

-- yes where nothing has changed
abbrev pub AreSame : (Family → List (Sign × List Bool)) → Verdict → Type 0
AreSame changes Yes = (family : Family) → changes family ≡ []
AreSame changes No = (family : Family) × (changes family ≢ [])
