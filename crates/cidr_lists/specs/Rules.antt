-- Access lists: a line is a rule, permit or deny and, behind white space, a network or an address, with white space around it
-- and a comment behind it as in a list. Of the rules whose networks have an address the first decides.
use Rattle.std.specs.Prelude.{◌≡◌, ◌≢◌, ◌↔◌, ℕ, Bool, true, false, List, [], ◌∷◌, ◌++◌, map, Contains, slice_index, codes, decimal, Option, Some, None, Result, Ok, Err}
use Rattle.std.specs.List.{All, AllZip, enumerate_from, flat_map}
use Rattle.std.specs.List.Sorted.{IsStrictlyIncreasing}
use Rattle.cidr.specs.declared.cidr.combined.IpCidr.{IpCidr}
use Rattle.cidr.specs.declared.family.Family.{Family}
use Rattle.cidr.specs.declared.family.Family.TheVariants.{Ipv4, Ipv6}
use Rattle.cidr_io.specs.Shown.{byte_excerpt, shown}
use Rattle.cidr_sets.specs.model.FirstRules.{AreDecidingRules, IsPermitted, IsShadowed}
use Rattle.cidr_sets.specs.model.Sets.{IsSetOf}
use Rattle.cidr_sets.specs.declared.access.Action.{Action}
use Rattle.cidr_sets.specs.declared.access.Action.TheVariants.{Permit, Deny}
use Rattle.cidr_sets.specs.declared.access.Rule.{Rule}
use Rattle.cidr_lists.specs.Changes.{AreChanges, printed_changes}
use Rattle.cidr_lists.specs.Fields.{IsNoNetworkField, IsSplit}
use Rattle.cidr_lists.specs.Formats.{Style, line_style, printed_by}
use Rattle.cidr_lists.specs.Lists.{Text, IsBadLineBy, IsField, IsFirstBad, IsNetworkBy, IsTooLong, bits_in, lines_of}
use Rattle.cidr_lists.specs.Printing.{line}
use Rattle.cidr_lists.specs.Tables.{row_in}
use Rattle.cidr_lists.specs.declared.changes.Sign.{Sign}
use Rattle.cidr_lists.specs.declared.errors.LineError.{LineError}
use Rattle.cidr_lists.specs.declared.errors.LineError.TheVariants.{NoAction, NoField}
use Rattle.cidr_lists.specs.declared.errors.ListError.{ListError}
use Rattle.cidr_lists.specs.declared.errors.ListError.TheVariants.{Line, NoMemory}
use Rattle.cidr_lists.specs.declared.formats.LineFormat.{LineFormat}
use Rattle.cidr_lists.specs.declared.lines.HostBits.{HostBits}
use Rattle.cidr_lists.specs.declared.rules.Rules.{Rules}
use Rattle.cidr_lists.specs.declared.rules.Ruling.{Ruling}

-- ---- a rule
-- the word of an action
abbrev pub action_text : Action → List ℕ
action_text Permit = codes "permit"
action_text Deny = codes "deny"

-- the line says nothing, or a rule: a network and what is done with its addresses
abbrev pub RuleFieldsSay : HostBits → List ℕ → Option (IpCidr × Action) → Type 0
RuleFieldsSay bits line None = IsField line []
RuleFieldsSay bits line (Some (network, action)) = (rest : List ℕ) × IsSplit line (action_text action) rest × IsNetworkBy bits rest network

-- the same of a line that is not too long
abbrev pub RuleSays : HostBits → List ℕ → Option (IpCidr × Action) → Type 0
RuleSays bits line said = ¬ (IsTooLong line) × RuleFieldsSay bits line said

-- the word is that of an action
abbrev pub IsActionText : List ℕ → Type 0
IsActionText word = (action : Action) × (word ≡ action_text action)

-- the error of a first word and what stands behind it: the word is neither permit nor deny; else nothing stands behind it; else
-- that is no network
abbrev pub IsNoRule : HostBits → List ℕ → List ℕ → LineError → Type 0
IsNoRule bits first rest (NoAction text) = ¬ (IsActionText first) × (text.bytes ≡ byte_excerpt first)
IsNoRule bits first rest NoField = IsActionText first × (rest ≡ [])
IsNoRule bits first rest e = IsActionText first × (rest ≢ []) × IsNoNetworkField bits rest e

-- the line is in error, and this is its error
abbrev pub HasNoRule : HostBits → List ℕ → LineError → Type 0
HasNoRule bits line e = (first : List ℕ) × (rest : List ℕ) × IsSplit line first rest × IsNoRule bits first rest e

abbrev pub IsBadRule : HostBits → List ℕ → LineError → Type 0
IsBadRule bits line e = IsBadLineBy (HasNoRule bits) line e

-- ---- an access list
-- what each line of an access list says
abbrev pub RulesSay : Text → List (Option (IpCidr × Action)) → Type 0
RulesSay text said = AllZip (RuleSays (bits_in text.form)) (lines_of text.bytes) said

-- its first line in error
abbrev pub IsFirstBadRule : Text → ℕ → LineError → Type 0
IsFirstBadRule text number e = IsFirstBad (AllZip (RuleSays (bits_in text.form))) (IsBadRule (bits_in text.form)) (lines_of text.bytes) number e

-- the rule of a line of this number, if it is one of the family
abbrev pub rule_in : Family → ℕ × Option (IpCidr × Action) → List (List Bool × Ruling)
rule_in family (number, None) = []
rule_in family (number, Some (network, action)) = row_in family (network, record { action = action; number = number })

-- the rules of a family that the lines say
abbrev pub rules_in : Family → List (Option (IpCidr × Action)) → List (List Bool × Ruling)
rules_in family said = flat_map (rule_in family) (enumerate_from 1 said)

-- their networks, and the numbers of their lines
abbrev pub rule_networks : List (List Bool × Ruling) → List (List Bool)
rule_networks rules = map (λ rule. rule.0) rules

abbrev pub rule_numbers : List (List Bool × Ruling) → List ℕ
rule_numbers rules = map (λ rule. rule.1.number) rules

-- the first of the rules whose network has the address permits it
abbrev pub ArePermitting : List (List Bool × Ruling) → List Bool → Type 0
ArePermitting rules a = IsPermitted (rule_networks rules) (map (λ rule. rule.1.action) rules) a

-- the shortest lists of networks that have the addresses that the rules permit
abbrev pub ArePermittedSets : List (Option (IpCidr × Action)) → (Family → List (List Bool)) → Type 0
ArePermittedSets said sets = (family : Family) → IsSetOf 129 (ArePermitting (rules_in family said)) (sets family)

-- ---- rules that no address reaches
-- of the rules of these networks each that no address reaches, by its index from 0 on, and those that decide the addresses of
-- its network: earlier ones that cover it
pub record AreShadows (networks : List (List Bool)) (shadows : List (ℕ × List ℕ)) : Type 0 where
  pub exact : (i : ℕ) → Contains (map (λ shadow. shadow.0) shadows) i ↔ IsShadowed 129 networks i
  pub ascending : IsStrictlyIncreasing (map (λ shadow. shadow.0) shadows)
  pub by : All (λ shadow. AreDecidingRules 129 networks shadow.0 shadow.1) shadows

-- FILE:LINE of the rule at an index
abbrev pub rule_place : List ℕ → List ℕ → ℕ → List ℕ
rule_place file numbers i = file ++ (codes ":" ++ decimal (slice_index numbers i))

-- FILE:LINE: shadowed by FILE:LINE FILE:LINE ..
abbrev pub shadow_line : List ℕ → List ℕ → ℕ × List ℕ → List ℕ
shadow_line file numbers (i, by) =
    rule_place file numbers i ++ (codes ": shadowed by" ++ line (flat_map (λ j. codes " " ++ rule_place file numbers j) by))

-- what is told of the rules of a family in the file of this name
abbrev pub AreShadowLines : List ℕ → List (List Bool × Ruling) → List ℕ → Type 0
AreShadowLines file rules text = (shadows : List (ℕ × List ℕ)) × AreShadows (rule_networks rules) shadows
    × (text ≡ flat_map (shadow_line (shown file) (rule_numbers rules)) shadows)

-- ---- what is told of access lists
-- what is asked: the addresses that are permitted, the rules that no address reaches, or what a list permits and the one of
-- this name does not, and the other way round; and how that is written
pub data Question : Type 0 where
  Permitted : Option Style → Question
  Shadowed : Question
  Compared : LineFormat → List ℕ → Question

-- the list that it is compared with
abbrev pub compared_with : Question → List (List ℕ)
compared_with (Compared format old) = old ∷ []
compared_with asked = []

-- the style of the answer, if it has one
abbrev pub style_asked : Question → Option Style
style_asked (Permitted style) = style
style_asked Shadowed = None
style_asked (Compared format old) = line_style format

-- rules that no address reaches are asked for
abbrev pub is_shadowed : Question → Bool
is_shadowed Shadowed = true
is_shadowed asked = false

-- what there is to change: nothing is, of what is permitted
abbrev pub faults_in : Question → List ℕ → List ℕ
faults_in (Permitted style) answer = []
faults_in asked answer = answer

-- the networks that are permitted
abbrev pub ArePermittedLines : Option Style → Text → List ℕ → Type 0
ArePermittedLines style text answer = (said : List (Option (IpCidr × Action))) × RulesSay text said
    × (sets : Family → List (List Bool)) × ArePermittedSets said sets × (answer ≡ printed_by style sets)

-- the rules that no address reaches, IPv4 before IPv6
abbrev pub AreAllShadowLines : List ℕ → Text → List ℕ → Type 0
AreAllShadowLines file text answer = (said : List (Option (IpCidr × Action))) × RulesSay text said
    × (lines : Family → List ℕ) × ((family : Family) → AreShadowLines file (rules_in family said) (lines family))
    × (answer ≡ lines Ipv4 ++ lines Ipv6)

-- the addresses that are permitted by one of the lists alone
abbrev pub AreRuleChanges : LineFormat → Text → Text → List ℕ → Type 0
AreRuleChanges format old new answer = (before after : List (Option (IpCidr × Action))) × RulesSay old before × RulesSay new after
    × (was now : Family → List (List Bool)) × ArePermittedSets before was × ArePermittedSets after now
    × (changes : Family → List (Sign × List Bool)) × ((family : Family) → AreChanges (was family) (now family) (changes family))
    × (answer ≡ printed_changes format changes)

-- the answer about the list of this name, where the lists are told
abbrev pub IsRulesAnswer : (List ℕ → Option Text) → Question → List ℕ → List ℕ → Type 0
IsRulesAnswer contents (Permitted style) file answer = (text : Text) → contents file ≡ Some text → ArePermittedLines style text answer
IsRulesAnswer contents Shadowed file answer = (text : Text) → contents file ≡ Some text → AreAllShadowLines file text answer
IsRulesAnswer contents (Compared format old) file answer =
    (before after : Text) → contents old ≡ Some before → contents file ≡ Some after → AreRuleChanges format before after answer

-- ---- what private functions promise
-- what a line says, or its error
abbrev pub ReadsRule : HostBits → List ℕ → Result (Option (IpCidr × Action)) LineError → Type 0
ReadsRule bits line (Ok said) = RuleFieldsSay bits line said
ReadsRule bits line (Err e) = HasNoRule bits line e

-- the rules of a family
abbrev pub rules_of : Rules → Family → List (List Bool × Ruling)
rules_of rules Ipv4 = rules.v4.items
rules_of rules Ipv6 = rules.v6.items

-- further rules of each family
abbrev pub RulesGrow : Rules → Rules → (Family → List (List Bool × Ruling)) → Type 0
RulesGrow old new more = (family : Family) → rules_of new family ≡ rules_of old family ++ more family

-- the rules that an access list says
abbrev pub HaveRules : Text → Rules → Type 0
HaveRules text rules = (said : List (Option (IpCidr × Action))) × RulesSay text said × ((family : Family) → rules_of rules family ≡ rules_in family said)

-- why an access list is not read: its first line in error, or memory
abbrev pub IsRulesError : Text → ListError → Type 0
IsRulesError text (Line number e) = IsFirstBadRule text number e
IsRulesError text NoMemory = Unit {0}

-- the rule that a line says comes behind those before, or the line of this number is in error
abbrev pub AddsRuleLine : HostBits → List ℕ → ℕ → Rules → Rules → Result (Unit {0}) ListError → Type 0
AddsRuleLine bits line number old new (Ok _) = (said : Option (IpCidr × Action)) × RuleSays bits line said × RulesGrow old new (λ family. rule_in family (number, said))
AddsRuleLine bits line number old new (Err (Line n e)) = (n ≡ number) × IsBadRule bits line e
AddsRuleLine bits line number old new (Err NoMemory) = Unit {0}

-- a rule without its place
abbrev pub plain_rule : {C : Type 0} → C × Ruling → Rule C
plain_rule rule = record { action = rule.1.action; network = rule.0 }
