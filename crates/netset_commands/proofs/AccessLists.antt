-- Access lists that are read, and what is told of them.
use Rattle.std.proofs.Common.{◌≡◌, refl, sym, subst, inl, inr, ℕ, Bool, List, [], ◌∷◌, ◌++◌, Bor, Option, Some, Result, Ok, arith}
use Rattle.std.specs.List.{AllZip}
use Rattle.std.specs.Option.{IfSome}
use Rattle.std.proofs.lemmas.Grind.{common_steps}
use Rattle.cidr.specs.declared.cidr.combined.IpCidr.{IpCidr}
use Rattle.cidr.specs.declared.family.Family.{Family}
use Rattle.cidr.specs.declared.family.Family.TheVariants.{Ipv4, Ipv6}
use Rattle.cidr_io.specs.Writing.{State, Answered}
use Rattle.cidr_io.specs.declared.sink.OutputFailed.{OutputFailed}
use Rattle.cidr_sets.specs.model.Sets.{IsSetOf}
use Rattle.cidr_sets.specs.declared.access.Action.{Action}
use Rattle.cidr_lists.specs.Changes.{printed_changes}
use Rattle.cidr_lists.specs.Formats.{Style, printed_by}
use Rattle.cidr_lists.specs.Lists.{Text, bits_in, text_by, text_in}
use Rattle.cidr_lists.specs.Rules.{Permitted, Shadowed, Compared, ArePermittedLines, ArePermitting, AreShadowLines, HaveRules, IsFirstBadRule, IsRulesError, RulesSay, rules_of}
use Rattle.cidr_lists.specs.Sets.{IsInSets, Steps, networks_of}
use Rattle.cidr_lists.specs.declared.errors.ListError.{ListError}
use Rattle.cidr_lists.specs.declared.errors.ListError.TheVariants.{Line, NoMemory}
use Rattle.cidr_lists.specs.declared.formats.LineFormat.{LineFormat}
use Rattle.cidr_lists.specs.declared.records.ListForm.{ListForm}
use Rattle.cidr_lists.specs.declared.rules.Rules.{Rules}
use Rattle.cidr_lists.specs.declared.rules.Ruling.{Ruling}
use Rattle.cidr_lists.specs.declared.sets.Sets.{Sets}
use Rattle.cidr_lists.specs.declared.sets.Step.TheVariants.{Difference}
use Rattle.netset_commands.specs.Acl.{IsUnreadAcl, IsUnreadRules, ReadsPermitted, ReadsRules, rules_error}
use Rattle.netset_commands.specs.Answering.{AreSame, PrintsBy, changed}
use Rattle.netset_commands.specs.Changing.{TellsChanges}
use Rattle.netset_commands.specs.Commands.{Acl, AreTold}
use Rattle.netset_commands.specs.Findings.{IsClean}
use Rattle.netset_commands.specs.Gathering.{IsNotReadFurther}
use Rattle.netset_commands.specs.Program.{AnswersRequest, by_output}
use Rattle.netset_commands.specs.declared.errors.CommandError.{CommandError}
use Rattle.netset_commands.specs.declared.errors.CommandError.TheVariants as error
use Rattle.netset_commands.specs.declared.output.answers.Verdict.{Verdict}
use Rattle.netset_commands.specs.declared.output.answers.Verdict.TheVariants.{Yes}
use Rattle.netset_commands.proofs.Causes.{whole_read}
use Rattle.netset_commands.proofs.Changed.{changes_clean, are_merged, differ}

-- ---- the rules of a file
pub no_rules_read : (contents : Option Text) (name : List ℕ) (e : CommandError) → IsNotReadFurther name e → IsUnreadRules contents name e
no_rules_read contents name e h = grind (arith, common_steps)

-- the bytes that were read are the text
module _ (contents : Option Text) (known : Option (List ℕ)) (bytes : List ℕ) (bits : ListForm) (opens : (text : Text) → contents ≡ Some text → known ≡ Some text.bytes)
    (read : IfSome known (λ text. bytes ≡ text)) (by : (text : Text) → contents ≡ Some text → text.form ≡ bits) where
  told_of_text : (P : Text → Type 0) → P (text_in bits bytes) → (text : Text) → contents ≡ Some text → P text
  told_of_text P h text at =
      subst (λ (b : ListForm). P (text_in b text.bytes)) (sym (by text at))
      (subst (λ (b : List ℕ). P (text_in bits b)) (whole_read known text.bytes bytes (opens text at) read) h)

  pub rules_told : (rules : Rules) → HaveRules (text_by (bits_in bits) bytes) rules → (text : Text) → contents ≡ Some text → HaveRules text rules
  rules_told rules h = told_of_text (λ text. HaveRules text rules) h

  pub rules_untold : (file : Bor (List ℕ)) (e : ListError) → IsRulesError (text_by (bits_in bits) bytes) e → IsUnreadRules contents file.now (rules_error file e)
  rules_untold file (Line number e) h = (refl, told_of_text (λ text. IsFirstBadRule text number e) h)
  rules_untold file NoMemory h = tt

-- what they permit
pub permitted_read : (contents : Option Text) (name : List ℕ) (rules : Rules) (sets : Sets) → ReadsRules contents name (Ok rules)
    → ((family : Family) → IsSetOf 129 (ArePermitting (rules_of rules family)) (networks_of sets family)) → ReadsPermitted contents name (Ok sets)
permitted_read contents name rules sets read are = λ text at.
    let (said, says, have) = read text at in
    (said, says, λ family. subst (λ (k : List (List Bool × Ruling)). IsSetOf 129 (ArePermitting k) (networks_of sets family)) (have family) (are family))

-- ---- why an access list is not read
none_before : (contents : List ℕ → Option Text) (texts : List Text) → AreTold contents [] texts
    → (said : List (List (Option (IpCidr × Action)))) × AllZip RulesSay texts said
none_before contents [] told = ([], tt)
none_before contents (text ∷ texts) told = absurd told

one_before : (contents : List ℕ → Option Text) (name : List ℕ) (sets : Sets) → ReadsPermitted (contents name) name (Ok sets) → (texts : List Text)
    → AreTold contents (name ∷ []) texts → (said : List (List (Option (IpCidr × Action)))) × AllZip RulesSay texts said
one_before contents name sets read [] told = absurd told
one_before contents name sets read (text ∷ []) told = let (said, says, are) = read text told.0 in (said ∷ [], (says, tt))
one_before contents name sets read (text ∷ other ∷ texts) told = absurd told.1

pub first_unread : (contents : List ℕ → Option Text) (name : List ℕ) (after : List (List ℕ)) (e : CommandError) → IsUnreadRules (contents name) name e
    → IsUnreadAcl contents (name ∷ after) e
first_unread contents name after e h = ([], after, name, refl, none_before contents, h)

pub second_unread : (contents : List ℕ → Option Text) (old name : List ℕ) (sets : Sets) (e : CommandError) → ReadsPermitted (contents old) old (Ok sets)
    → IsUnreadRules (contents name) name e → IsUnreadAcl contents (old ∷ name ∷ []) e
second_unread contents old name sets e read h = (old ∷ [], [], name, refl, one_before contents old sets read, h)

-- ---- what is told
pub permitted_told : (contents : List ℕ → Option Text) (style : Option Style) (file : List ℕ) (sets : Sets) (refused : Bool) (s t : State) (r : Result Verdict CommandError)
    → ReadsPermitted (contents file) file (Ok sets) → PrintsBy style (networks_of sets) refused s t r → AnswersRequest contents (Acl (Permitted style) file) s t r
permitted_told contents style file sets refused s t r read (inl (kept, lack, none)) =
    subst (AnswersRequest contents (Acl (Permitted style) file) s t) (sym none) (inl (kept, first_unread contents file [] error.NoMemory tt))
permitted_told contents style file sets refused s t r read (inr (w, written, is)) =
    let answer : (text : Text) → contents file ≡ Some text → ArePermittedLines style text (printed_by style (networks_of sets)) = λ text at.
    let (said, says, are) = read text at in (said, says, networks_of sets, are, refl) in
    inr (printed_by style (networks_of sets), Yes, w, (answer, refl), written, is)

pub shadows_told : (contents : List ℕ → Option Text) (file : List ℕ) (rules : Rules) (text : List ℕ) (s t : State) (verdict : Verdict) (w : Result (Unit {0}) OutputFailed)
    (r : Result Verdict CommandError) → ReadsRules (contents file) file (Ok rules)
    → ((lines : Family → List ℕ) × ((family : Family) → AreShadowLines file (rules_of rules family) (lines family)) × (text ≡ lines Ipv4 ++ lines Ipv6))
    → IsClean text verdict → Answered s t text w → r ≡ by_output verdict w → AnswersRequest contents (Acl Shadowed file) s t r
shadows_told contents file rules text s t verdict w r read (lines, are, all) clean written is =
    inr (
      text,
      verdict,
      w,
      (
        λ list at. let (said, says, have) = read list at in
            (said, says, lines, λ family. subst (λ (k : List (List Bool × Ruling)). AreShadowLines file k (lines family)) (have family) (are family), all),
        clean,
      ),
      written,
      is,
    )

pub changes_told : (contents : List ℕ → Option Text) (format : LineFormat) (a b : List ℕ) (old new added lacking : Sets) (s t : State) (verdict : Verdict)
    (w : Result (Unit {0}) OutputFailed) (r : Result Verdict CommandError) → ReadsPermitted (contents a) a (Ok old) → ReadsPermitted (contents b) b (Ok new)
    → ((family : Family) → IsSetOf 129 (λ p. Steps Difference (IsInSets new family p) (IsInSets old family p)) (networks_of added family))
    → ((family : Family) → IsSetOf 129 (λ p. Steps Difference (IsInSets old family p) (IsInSets new family p)) (networks_of lacking family))
    → AreSame (changed added lacking) verdict → Answered s t (printed_changes format (changed added lacking)) w → r ≡ by_output verdict w
    → AnswersRequest contents (Acl (Compared format a) b) s t r
changes_told contents format a b old new added lacking s t verdict w r first second plus minus same written is =
    inr (
      printed_changes format (changed added lacking),
      verdict,
      w,
      (
        λ x y p q.
            let (before, says, has) = first x p in
            let (after, says_too, has_too) = second y q in (
              before,
              after,
              says,
              says_too,
              networks_of old,
              networks_of new,
              has,
              has_too,
              changed added lacking,
              λ family. (
                networks_of added family,
                networks_of lacking family,
                plus family,
                minus family,
                are_merged (networks_of added family) (networks_of lacking family) (plus family).reduced.ascending (minus family).reduced.ascending
                    (differ (networks_of old family) (networks_of new family) (networks_of added family) (networks_of lacking family) (plus family) (minus family)),
              ),
              refl,
            ),
        changes_clean format (changed added lacking) verdict same,
      ),
      written,
      is,
    )

pub compared_told : (contents : List ℕ → Option Text) (format : LineFormat) (a b : List ℕ) (old new : Sets) (refused : Bool) (s t : State) (r : Result Verdict CommandError)
    → ReadsPermitted (contents a) a (Ok old) → ReadsPermitted (contents b) b (Ok new) → TellsChanges format old new refused s t r
    → AnswersRequest contents (Acl (Compared format a) b) s t r
compared_told contents format a b old new refused s t r first second (inl (kept, lack, is)) = rw is (inl (kept, first_unread contents a (b ∷ []) error.NoMemory tt))
compared_told contents format a b old new refused s t r first second (inr (added, lacking, verdict, w, more, less, same, written, is)) =
    changes_told contents format a b old new added lacking s t verdict w r first second more less same written is
