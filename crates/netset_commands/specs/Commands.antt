-- The requests and what each is answered with.
use Rattle.std.specs.Prelude.{◌≡◌, ◌⊎◌, ℕ, ◌<◌, ◌≤◌, Bool, true, false, List, [], ◌∷◌, ◌++◌, count_by, codes, drop, Option, Some, None}
use Rattle.std.specs.List.{AllZip}
use Rattle.std.specs.Map.{keys_of}
use Rattle.cidr.specs.either.IpText.{IsIpNetworkText}
use Rattle.cidr.specs.declared.cidr.combined.IpCidr.{IpCidr}
use Rattle.cidr.specs.declared.family.Family.{Family}
use Rattle.cidr_table.specs.model.Cover.{Covers}
use Rattle.cidr_sets.specs.model.Sets.{IsSetOf}
use Rattle.netset_commands.specs.Class.{IsClassOf}
use Rattle.netset_commands.specs.Compiled.{HasTable}
use Rattle.netset_commands.specs.Describing.{IsNoLength, IsOfLength, told_of}
use Rattle.netset_commands.specs.Findings.{IsCheck, IsClean}
use Rattle.netset_commands.specs.Free.{IsFreeText, all_told}
use Rattle.netset_commands.specs.Look.{IsLook}
use Rattle.cidr_lists.specs.Lists.{Text, ListSays, line_networks, networks_in, way_of}
use Rattle.cidr.specs.either.IpNetwork.{network_family, network_prefix}
use Rattle.cidr_ext.specs.model.Subnets.{subnets_of}
use Rattle.cidr_lists.specs.Formats.{Style, IsPrintBy, printed_walk}
use Rattle.cidr_lists.specs.Rules.{Question, IsRulesAnswer, compared_with, faults_in}
use Rattle.cidr_lists.specs.Changes.{AreChanges, printed_changes}
use Rattle.netset_commands.specs.Combining.{form_of, IsMade}
use Rattle.netset_commands.specs.Operands.{IsNoNetworkText, OfList, OfOperand, ReadsAsNetwork}
use Rattle.netset_commands.specs.Matching.{has, is_word, IsMatch, IsMatchOfEach}
use Rattle.netset_commands.specs.Picking.{PicksOf}
use Rattle.netset_commands.specs.Smallest.{IsSmallestOf}
use Rattle.netset_commands.specs.Table.{help_text}
use Rattle.netset_commands.specs.Which.{IsWhich}
use Rattle.cidr.specs.either.IpAddress.{IsIpText}
use Rattle.cidr.specs.declared.addr.ip.IpAddr.{IpAddr}
use Rattle.netset_commands.specs.declared.commands.describe.Description.{Description}
use Rattle.netset_commands.specs.declared.commands.describe.Description.TheVariants.{Zones, Masks}
use Rattle.netset_commands.specs.declared.commands.table.Verb.{Verb}
use Rattle.netset_commands.specs.declared.program.TheConstants.{VERSION}
use Rattle.netset_commands.specs.declared.commands.AtFault.{AtFault}
use Rattle.netset_commands.specs.declared.commands.AtFault.TheVariants.{Stop, Tell, Skip}
use Rattle.netset_commands.specs.declared.commands.Reading.{Reading}
use Rattle.cidr_lists.specs.declared.forms.RowForm.{RowForm}
use Rattle.cidr_lists.specs.declared.lines.HostBits.{HostBits}
use Rattle.cidr_lists.specs.declared.records.ListForm.{ListForm}
use Rattle.cidr_lists.specs.declared.formats.LineFormat.{LineFormat}
use Rattle.cidr_lists.specs.declared.sets.Form.{Form}
use Rattle.netset_commands.specs.declared.commands.operations.Operation.{Operation}
use Rattle.netset_commands.specs.declared.commands.picking.Picking.{Picking}
use Rattle.netset_commands.specs.declared.commands.picking.Seeking.{Seeking}
use Rattle.netset_commands.specs.declared.commands.operations.Operation.TheVariants.{Minus, Not}
use Rattle.cidr_lists.specs.Sets.{IsPrinted}
use Rattle.cidr_lists.specs.Texts.{SaysAddress}
use Rattle.netset_commands.specs.Same.{IsSame}
use Rattle.netset_commands.specs.Single.{SingleRequest, HasNone, IsNumber, IsSingleAnswer}
use Rattle.netset_commands.specs.declared.output.answers.Verdict.{Verdict}
use Rattle.netset_commands.specs.declared.output.answers.Verdict.TheVariants.{Yes}
use Rattle.cidr_lists.specs.declared.changes.Sign.{Sign}

-- a command and its arguments: lists and files by their names, and a prefix length with the word that it is told in
pub data Request : Type 0 where
  Lists : Operation → List (List ℕ) → Request
  Styled : Style → Operation → List (List ℕ) → Request
  NotIn : Option Style → List ℕ → List (List ℕ) → Request
  Diff : LineFormat → List ℕ → List ℕ → Request
  Same : RowForm → List ℕ → List ℕ → Request
  Free : Option Style → Option ℕ → List ℕ → ℕ → List (List ℕ) → Request
  Acl : Question → List ℕ → Request
  Split : Option Style → List ℕ → List ℕ → ℕ → Request
  Check : List (List ℕ) → Request
  Which : List ℕ → List (List ℕ) → Request
  Match : Picking → List ℕ → List ℕ → Request
  MatchEach : Picking → List ℕ → List (List ℕ) → Request
  Look : Seeking → List ℕ → List ℕ → Request
  Compile : RowForm → List ℕ → List ℕ → Request
  Smallest : Bool → RowForm → List ℕ → Request
  Describe : Description → List ℕ → Request
  Class : List ℕ → Request
  Single : SingleRequest → Request
  Help : Option Verb → Request
  Version : Request

-- the name of the standard input
abbrev pub input_name : List ℕ
input_name = codes "-"

-- the files that are read: those named, or the standard input
abbrev pub read_files : List (List ℕ) → List (List ℕ)
read_files [] = input_name ∷ []
read_files (file ∷ files) = file ∷ files

-- ---- the files of a request
-- the lists that it names
abbrev pub lists_of : Request → List (List ℕ)
lists_of (Lists operation files) = read_files files
lists_of (Styled style operation files) = read_files files
lists_of (NotIn style net files) = read_files files
lists_of (Diff format old new) = old ∷ new ∷ []
lists_of (Same form old new) = old ∷ new ∷ []
lists_of (Free style most pool n used) = pool ∷ used
lists_of (Split style operand len n) = operand ∷ []
lists_of (Check files) = read_files files
lists_of (Which address files) = read_files files
lists_of (Match picking list file) = list ∷ []
lists_of (MatchEach picking list files) = list ∷ []
lists_of (Look seeking table file) = table ∷ []
lists_of (Compile form table name) = table ∷ []
lists_of (Smallest holes form table) = table ∷ []
lists_of (Describe what operand) = operand ∷ []
lists_of request = []

-- what it reads beside them
abbrev pub others_of : Request → List (List ℕ)
others_of (Match picking list file) = file ∷ []
others_of (MatchEach picking list files) = files
others_of (Look seeking table file) = file ∷ []
others_of (Acl asked file) = compared_with asked ++ file ∷ []
others_of (Class operand) = operand ∷ []
others_of request = []

-- the tables that it names, if they have headers
abbrev pub headed_tables : Request → Bool → List (List ℕ)
headed_tables (Same form old new) true = old ∷ new ∷ []
headed_tables (Look seeking table file) true = table ∷ []
headed_tables (Compile form table name) true = table ∷ []
headed_tables (Smallest holes form table) true = table ∷ []
headed_tables request header = []

-- the operand is no list where this is told of it: a network, an address or, of masks, a prefix length
abbrev pub IsNoList : Description → List ℕ → Type 0
IsNoList Zones operand = ReadsAsNetwork operand
IsNoList Masks operand = ((n : ℕ) × IsNumber operand n × (n ≤ 128)) ⊎ ReadsAsNetwork operand

-- the first of them is no list
abbrev pub HasNoFirstList : Request → Type 0
HasNoFirstList (Free style most pool n used) = ReadsAsNetwork pool
HasNoFirstList (Split style operand len n) = ReadsAsNetwork operand
HasNoFirstList (Describe what operand) = IsNoList what operand
HasNoFirstList request = ⊥

-- these are the lists among them
abbrev pub AreLists : Request → List (List ℕ) → Type 0
AreLists request names = (HasNoFirstList request × (names ≡ drop 1 (lists_of request))) ⊎ (¬ (HasNoFirstList request) × (names ≡ lists_of request))

-- the standard input is named twice among them, or once where it is read also without a name
abbrev pub ReadsInputTwice : Request → Type 0
ReadsInputTwice request = 1 < count_by (is_word input_name) (lists_of request ++ others_of request)

-- how networks are read by these options
abbrev pub bits_of : List (List ℕ) → HostBits
bits_of options = way_of (has (codes "--host-bits") options) (has (codes "--masks") options)

-- what is done at a line in error, by whether -k and --skip-bad are given
abbrev pub fault_way : Bool → Bool → AtFault
fault_way false false = Stop
fault_way true false = Tell
fault_way keeps true = Skip

-- how lists of this form are read by these options
abbrev pub reading_of : ListForm → List (List ℕ) → Reading
reading_of form options = record { list_form = form; at_fault = fault_way (has (codes "-k") options) (has (codes "--skip-bad") options); table_header = has (codes "--table-header") options }

-- these are the lists of the files of these names
abbrev pub AreTold : (List ℕ → Option Text) → List (List ℕ) → List Text → Type 0
AreTold contents names texts = AllZip (λ name text. contents name ≡ Some text) names texts

-- what is printed of the shortest list of networks of each family that has these addresses: the list, their ranges, or
-- how many they are
abbrev pub IsPrintOf : Form → (Family → List Bool → Type 0) → List ℕ → Type 0
IsPrintOf form IsIn text = (sets : Family → List (List Bool)) × ((family : Family) → IsSetOf 129 (IsIn family) (sets family)) × IsPrinted form sets text

-- what the lists say is so
abbrev pub OfLists : List Text → (List (List (List IpCidr)) → Type 0) → Type 0
OfLists texts Is = (said : List (List (List IpCidr))) × AllZip ListSays texts said × Is said

-- what the operation makes of the lists
abbrev pub IsMadeOf : Operation → List Text → List ℕ → Type 0
IsMadeOf operation texts answer = OfLists texts (λ said. IsPrintOf (form_of operation) (IsMade SaysAddress operation said) answer)

-- what a list has and another has not, both ways
abbrev pub IsDiff : LineFormat → Text → Text → List ℕ → Verdict → Type 0
IsDiff format old new answer verdict = (before after : List (List IpCidr)) × ListSays old before × ListSays new after
    × (changes : Family → List (Sign × List Bool))
    × ((family : Family) → AreChanges (networks_in family before) (networks_in family after) (changes family))
    × (answer ≡ printed_changes format changes) × IsClean answer verdict

-- the first networks of n bits that have only addresses of a first list that no other has, at most so many
abbrev pub IsFree : Option Style → ℕ → Option ℕ → List (List (List IpCidr)) → List ℕ → Verdict → Type 0
IsFree style n most said answer verdict = (sets : Family → List (List Bool))
    × ((family : Family) → IsSetOf 129 (IsMade SaysAddress Minus said family) (sets family)) × IsFreeText style sets n most answer verdict

-- the networks of n bits inside a network, or inside the networks of a list
abbrev pub IsSplitInto : (List ℕ → Option Text) → Option Style → List ℕ → ℕ → List ℕ → Verdict → Type 0
IsSplitInto contents style operand n answer verdict =
    ((network : IpCidr) × IsIpNetworkText operand network × ¬ (HasNone network n) × (answer ≡ printed_walk style (subnets_of (network_family network) (network_prefix network) n)) × (verdict ≡ Yes))
    ⊎ (IsNoNetworkText operand × OfList (contents operand) (λ said. IsFree style n None (said ∷ []) answer verdict))

-- what is told of each network of the shortest list that has the addresses of lines
abbrev pub IsTold : (IpCidr → List ℕ) → List (List IpCidr) → List ℕ → Type 0
IsTold told said answer = (sets : Family → List (List Bool)) × ((family : Family) → IsSetOf 129 (SaysAddress said family) (sets family))
    × (answer ≡ all_told told sets)

-- what is told of an operand: of a prefix length, or of networks
abbrev pub IsDescription : (List ℕ → Option Text) → Description → List ℕ → List ℕ → Type 0
IsDescription contents what operand answer = IsOfLength what operand answer
    ⊎ (IsNoLength what operand × OfOperand contents operand (λ said. IsTold (told_of what) said answer))

-- the address is in the network of a row
abbrev pub IsInRow : (Family → List (List Bool × List ℕ)) → Family → List Bool → Type 0
IsInRow table family a = Covers (keys_of (table family)) a

-- this holds of the addresses of a list: those of the networks of its lines, or of the rows of a file of look-ups
abbrev pub HoldsOf : Text → ((Family → List Bool → Type 0) → Type 0) → Type 0
HoldsOf text P = ((said : List (List IpCidr)) × ListSays text said × P (SaysAddress said))
    ⊎ ((table : Family → List (List Bool × List ℕ)) × HasTable table text.bytes × P (IsInRow table))

-- what a request is answered with, and whether the answer is none or no, from what is told of the files
abbrev pub IsAnswer : (List ℕ → Option Text) → Request → List ℕ → Verdict → Type 0
IsAnswer contents (Lists operation files) answer verdict =
    ((texts : List Text) → AreTold contents (read_files files) texts → IsMadeOf operation texts answer) × (verdict ≡ Yes)
IsAnswer contents (Styled style operation files) answer verdict = ((texts : List Text) → AreTold contents (read_files files) texts
    → OfLists texts (λ said. IsPrintBy (Some style) (IsMade SaysAddress operation said) answer)) × (verdict ≡ Yes)
IsAnswer contents (NotIn style net files) answer verdict = (network : IpCidr) × IsIpNetworkText net network × ((texts : List Text) → AreTold contents (read_files files) texts
    → OfLists texts (λ said. IsPrintBy style (λ family a. Covers (line_networks family (network ∷ [])) a × IsMade SaysAddress Not said family a) answer)) × (verdict ≡ Yes)
IsAnswer contents (Diff format old new) answer verdict = (before after : Text) → contents old ≡ Some before → contents new ≡ Some after → IsDiff format before after answer verdict
IsAnswer contents (Same form old new) answer verdict = (before after : Text) → contents old ≡ Some before → contents new ≡ Some after → IsSame form before after answer verdict
IsAnswer contents (Free style most pool n used) answer verdict = OfOperand contents pool (λ first. (texts : List Text) → AreTold contents used texts → OfLists texts (λ said. IsFree style n most (first ∷ said) answer verdict))
IsAnswer contents (Acl asked file) answer verdict = IsRulesAnswer contents asked file answer × IsClean (faults_in asked answer) verdict
IsAnswer contents (Split style operand len n) answer verdict = IsSplitInto contents style operand n answer verdict
IsAnswer contents (Check files) answer verdict =
    (texts : List Text) → AreTold contents (read_files files) texts → IsCheck (read_files files) texts answer verdict
IsAnswer contents (Which text files) answer verdict = (address : IpAddr) × IsIpText text address
    × ((texts : List Text) → AreTold contents (read_files files) texts → IsWhich address (read_files files) texts answer verdict)
IsAnswer contents (Match picking list file) answer verdict = (networks text : Text) → contents list ≡ Some networks → contents file ≡ Some text
    → HoldsOf networks (λ IsIn. IsMatch picking.headed (PicksOf picking IsIn) [] picking.written text.bytes None answer verdict)
IsAnswer contents (MatchEach picking list files) answer verdict = (networks : Text) → contents list ≡ Some networks
    → HoldsOf networks (λ IsIn. IsMatchOfEach contents picking.headed (PicksOf picking IsIn) picking.written files answer verdict)
IsAnswer contents (Look seeking table file) answer verdict = (rows text : Text) → contents table ≡ Some rows → contents file ≡ Some text
    → IsLook seeking.headed seeking.telling seeking.asked seeking.form rows text.bytes answer verdict
IsAnswer contents (Compile form table name) answer verdict = (answer ≡ []) × (verdict ≡ Yes)
IsAnswer contents (Smallest holes form table) answer verdict = ((text : Text) → contents table ≡ Some text → IsSmallestOf holes form text answer) × (verdict ≡ Yes)
IsAnswer contents (Describe what operand) answer verdict = IsDescription contents what operand answer × (verdict ≡ Yes)
IsAnswer contents (Class operand) answer verdict = IsClassOf contents operand answer verdict
IsAnswer contents (Single request) answer verdict = IsSingleAnswer request answer verdict
IsAnswer contents (Help topic) answer verdict = (answer ≡ help_text topic) × (verdict ≡ Yes)
IsAnswer contents Version answer verdict = (answer ≡ VERSION.now) × (verdict ≡ Yes)
