-- An operand that is a network, an address or the name of a file: it is a network or an address where it reads as one, and
-- else the file of this name, so that ./NAME is a file in any case.
use Rattle.std.specs.Prelude.{◌≡◌, ◌⊎◌, ℕ, List, [], ◌∷◌, Option, Some}
use Rattle.cidr.specs.either.IpText.{IsIpNetworkText}
use Rattle.cidr.specs.declared.cidr.combined.IpCidr.{IpCidr}
use Rattle.cidr_lists.specs.Lists.{Text, ListSays, IsFirstError}
use Rattle.netset_commands.specs.Causes.{FileMayFail}
use Rattle.netset_commands.specs.declared.errors.ArgumentError.TheVariants as bad
use Rattle.netset_commands.specs.declared.errors.CommandError.{CommandError}
use Rattle.netset_commands.specs.declared.errors.CommandError.TheVariants as error

-- the string reads as a network or an address
abbrev pub ReadsAsNetwork : List ℕ → Type 0
ReadsAsNetwork operand = (network : IpCidr) × IsIpNetworkText operand network

-- the string reads as no network and no address
abbrev pub IsNoNetworkText : List ℕ → Type 0
IsNoNetworkText operand = (network : IpCidr) → ¬ (IsIpNetworkText operand network)

-- what the lines of a list say, if its file is told, is so
abbrev pub OfList : Option Text → (List (List IpCidr) → Type 0) → Type 0
OfList contents Is = (text : Text) → contents ≡ Some text → (said : List (List IpCidr)) × ListSays text said × Is said

-- what an operand says is so: one line of the network itself, or the lines of the list
abbrev pub OfOperand : (List ℕ → Option Text) → List ℕ → (List (List IpCidr) → Type 0) → Type 0
OfOperand contents operand Is = ((network : IpCidr) × IsIpNetworkText operand network × Is ((network ∷ []) ∷ []))
    ⊎ (IsNoNetworkText operand × OfList (contents operand) Is)

-- why the list of a file is not read: the file can't be read, or the first line in error, or memory
abbrev pub IsUnlisted : (List ℕ → Option Text) → List ℕ → CommandError → Type 0
IsUnlisted contents operand (error.Argument text e) = (text.now ≡ operand) × (e ≡ bad.Operand) × FileMayFail contents operand
IsUnlisted contents operand (error.Line file number e) =
    (file.now ≡ operand) × ((text : Text) → contents operand ≡ Some text → IsFirstError text number e)
IsUnlisted contents operand error.NoMemory = Unit {0}
IsUnlisted contents operand e = ⊥

-- why an operand is not read: it is no network and no address, and no list that is read, or memory
abbrev pub IsUnreadOperand : (List ℕ → Option Text) → List ℕ → CommandError → Type 0
IsUnreadOperand contents operand e = (IsNoNetworkText operand × IsUnlisted contents operand e) ⊎ (e ≡ error.NoMemory)
