-- Why access lists are not read.
use Rattle.std.specs.Prelude.{◌≡◌, ℕ, List, ◌∷◌, ◌++◌, Option, Some, Result, Ok, Err}
use Rattle.std.specs.List.{AllZip}
use Rattle.std.specs.Borrow.{Bor}
use Rattle.cidr.specs.declared.cidr.combined.IpCidr.{IpCidr}
use Rattle.cidr_sets.specs.declared.access.Action.{Action}
use Rattle.cidr_lists.specs.Lists.{Text}
use Rattle.cidr_lists.specs.Rules.{ArePermittedSets, HaveRules, IsFirstBadRule, RulesSay}
use Rattle.cidr_lists.specs.Sets.{networks_of}
use Rattle.cidr_lists.specs.declared.errors.ListError.{ListError}
use Rattle.cidr_lists.specs.declared.errors.ListError.TheVariants.{Line, NoMemory}
use Rattle.cidr_lists.specs.declared.rules.Rules.{Rules}
use Rattle.cidr_lists.specs.declared.sets.Sets.{Sets}
use Rattle.netset_commands.specs.Commands.{AreTold}
use Rattle.netset_commands.specs.declared.errors.CommandError.{CommandError}
use Rattle.netset_commands.specs.declared.errors.CommandError.TheVariants as error

-- the first line of an access list in error, its file can't be read, or memory
abbrev pub IsUnreadRules : Option Text → List ℕ → CommandError → Type 0
IsUnreadRules contents name (error.Line file number e) = (file.now ≡ name) × ((text : Text) → contents ≡ Some text → IsFirstBadRule text number e)
IsUnreadRules contents name (error.Input file why) = file.now ≡ name
IsUnreadRules contents name error.NoMemory = Unit {0}
IsUnreadRules contents name e = ⊥

-- the same of the first of these that is not read: those before it say their rules
abbrev pub IsUnreadAcl : (List ℕ → Option Text) → List (List ℕ) → CommandError → Type 0
IsUnreadAcl contents names e = (before after : List (List ℕ)) × (name : List ℕ) × (names ≡ before ++ name ∷ after)
    × ((texts : List Text) → AreTold contents before texts → (said : List (List (Option (IpCidr × Action)))) × AllZip RulesSay texts said)
    × IsUnreadRules (contents name) name e

-- ---- what private functions promise
-- the error of reading the rules of a file
abbrev pub rules_error : Bor (List ℕ) → ListError → CommandError
rules_error file (Line number e) = error.Line file number e
rules_error file NoMemory = error.NoMemory

-- the rules of a file, or why it is not read
abbrev pub ReadsRules : Option Text → List ℕ → Result Rules CommandError → Type 0
ReadsRules contents name (Ok rules) = (text : Text) → contents ≡ Some text → HaveRules text rules
ReadsRules contents name (Err e) = IsUnreadRules contents name e

-- what the rules of a file permit, or why it is not read
abbrev pub ReadsPermitted : Option Text → List ℕ → Result Sets CommandError → Type 0
ReadsPermitted contents name (Ok sets) = (text : Text) → contents ≡ Some text
    → (said : List (Option (IpCidr × Action))) × RulesSay text said × ArePermittedSets said (networks_of sets)
ReadsPermitted contents name (Err e) = IsUnreadRules contents name e
