-- What follows from the contract of a run that ends with status 2, of an operation on lists with --skip-bad, if it has printed
-- anything.
use Rattle.std.proofs.Common.{◌≡◌, sym, ◌∙◌, ap, subst, arith, inl, inr, max, ℕ, Bool, true, List, Option, Some, None, Result, Ok, Err}
use Rattle.cidr_io.specs.Writing.{State, Answered, Tells, Whole}
use Rattle.cidr_io.specs.declared.sink.OutputFailed.{OutputFailed}
use Rattle.cidr_lists.specs.Faults.{AreTellings}
use Rattle.cidr_lists.specs.Lists.{Text}
use Rattle.cidr_lists.specs.declared.forms.ListKind.TheVariants.{Networks}
use Rattle.netset_commands.specs.Arguments.{Line, line_request}
use Rattle.netset_commands.specs.Causes.{Refusals}
use Rattle.netset_commands.specs.Commands.{AreLists, AreTold, IsMadeOf, Lists, read_files}
use Rattle.netset_commands.specs.Keeping.{IsGoodFile}
use Rattle.netset_commands.specs.Matching.{has}
use Rattle.netset_commands.specs.Program.{KeepsGoing, Reports, Runs, RunsAnswer, RunsLine, RunsOnce, RunsRequest, by_output, contents_in, status_of}
use Rattle.netset_commands.specs.declared.commands.AtFault.{AtFault}
use Rattle.netset_commands.specs.declared.commands.AtFault.TheVariants.{Skip}
use Rattle.netset_commands.specs.declared.commands.Reading.{Reading}
use Rattle.netset_commands.specs.declared.commands.operations.Operation.{Operation}
use Rattle.netset_commands.specs.declared.errors.CommandError.{CommandError}
use Rattle.netset_commands.specs.declared.errors.Unsaved.TheVariants.{Denied}
use Rattle.netset_commands.specs.declared.output.answers.Verdict.{Verdict}
use Rattle.netset_commands.proofs.Consequences.{at_most_one}

-- each line in error was told, and what the operation makes of the lists without them was written
abbrev pub Skipped : (List ℕ → Option Text) → Operation → List (List ℕ) → State → State → State → State → Type 0
Skipped contents op files out new err new_err = (lines answer : List ℕ) × (read : List ℕ → Option Text)
    × ((texts : List Text) → AreTold contents (read_files files) texts → AreTellings Networks (read_files files) texts lines)
    × ((name : List ℕ) → IsGoodFile (has name (read_files files)) (Lists op files) (contents name) (read name))
    × ((texts : List Text) → AreTold read (read_files files) texts → IsMadeOf op texts answer) × Whole out new answer × Tells err new_err lines

-- the lists are those that are named
lists_named : (op : Operation) (files names : List (List ℕ)) → AreLists (Lists op files) names → names ≡ read_files files
lists_named op files names (inl (none, is)) = absurd none
lists_named op files names (inr (all, is)) = is

module _ (op : Operation) (files : List (List ℕ)) (refused : Refusals) (closed : Bool) (out new err new_err : State) (changed : ¬ (new ≡ out)) where
  -- an answer that was written
  written : (answer : List ℕ) (verdict : Verdict) (w : Result (Unit {0}) OutputFailed) (r : Result Verdict CommandError) (mid : State) (status : ℕ) → r ≡ by_output verdict w
      → Answered out new answer w → Reports closed r mid new_err → status ≡ status_of r → 2 ≡ max status 2 → Whole out new answer × (new_err ≡ mid)
  written answer verdict (Ok a) r mid status by whole says is two = (whole.0, (rw by at says))
  written answer verdict (Err f) r mid status by part says is two =
      let three : status ≡ 3 = is ∙ ap status_of by in
      absurd (omega (arith, three, two))

  -- it has not ended with 2
  never_two : (verdict : Verdict) (w : Result (Unit {0}) OutputFailed) (r : Result Verdict CommandError) → r ≡ by_output verdict w → 2 ≡ status_of r → ⊥
  never_two verdict (Ok a) r by two =
      let low : 2 ≡ status_of (Ok verdict) = two ∙ ap status_of by in
      omega (arith, at_most_one verdict, low)
  never_two verdict (Err f) r by two =
      let three : 2 ≡ 3 = two ∙ ap status_of by in
      omega (arith, three)

  module _ (contents : List ℕ → Option Text) where
    answered_good : (names : List (List ℕ)) (lines : List ℕ) (mid : State) (read : List ℕ → Option Text) (folder : Refusals) (status : ℕ) → names ≡ read_files files → Tells err mid lines
        → ((texts : List Text) → AreTold contents names texts → AreTellings Networks names texts lines)
        → ((name : List ℕ) → IsGoodFile (has name names) (Lists op files) (contents name) (read name))
        → RunsAnswer read folder (Lists op files) closed out new mid new_err status → 2 ≡ max status 2 → Skipped contents op files out new err new_err
    answered_good names lines mid read folder status are tells fine good (r, inl (same, unread), caused, says, is) two = absurd (changed same)
    answered_good names lines mid read folder status are tells fine good (r, inr (answer, verdict, w, holds, whole, by), caused, says, is) two =
        let (all, quiet) = written answer verdict w r mid status by whole says is two in (
          lines,
          answer,
          read,
          subst (λ (k : List (List ℕ)). (texts : List Text) → AreTold contents k texts → AreTellings Networks k texts lines) are fine,
          subst (λ (k : List (List ℕ)). (name : List ℕ) → IsGoodFile (has name k) (Lists op files) (contents name) (read name)) are good,
          holds.0,
          all,
          subst (λ (k : State). Tells err k lines) (sym quiet) tells,
        )

    never_plain : (mid : State) (folder : Refusals) → RunsAnswer contents folder (Lists op files) closed out new mid new_err 2 → ⊥
    never_plain mid folder (r, inl (same, unread), caused, says, is) = changed same
    never_plain mid folder (r, inr (answer, verdict, w, holds, whole, by), caused, says, is) = never_two verdict w r by is

    goes_on : KeepsGoing true contents refused (Lists op files) closed out new err new_err 2 → Skipped contents op files out new err new_err
    goes_on (inl (e, wrong, (same, says, ends))) = absurd (changed same)
    goes_on (inr (inl (right, (names, are, lines, mid, tells, inl (fine, inl (any, (read, status, good, reasons, same, runs, two))))))) =
        answered_good names lines mid read (record { memory = refused.memory; folder = Some Denied; files = reasons }) status (lists_named op files names are) tells fine good runs two
    goes_on (inr (inl (right, (names, are, lines, mid, tells, inl (fine, inr (none, runs)))))) = absurd (never_plain mid refused runs)
    goes_on (inr (inl (right, (names, are, lines, mid, tells, inr (before, after, split, front, rest, is, fine, begun, e, why, cause, (same, says, ends)))))) =
        absurd (changed same)
    goes_on (inr (inr (left, (same, says, ends)))) = absurd (changed same)

  -- ---- a run of such arguments
  module _ (words : List (List ℕ)) (contents : List ℕ → Option (List ℕ)) (reading : Reading) (asks : line_request words ≡ Ok (reading, (None, Lists op files)))
      (skips : reading.at_fault ≡ Skip) where
    abbrev HasSkipped : Type 0
    HasSkipped = Skipped (contents_in reading.list_form contents) op files out new err new_err

    once_skipped : RunsOnce reading contents refused (Lists op files) closed out new err new_err 2 → HasSkipped
    once_skipped (inl (twice, e, why, (same, says, ends))) = absurd (changed same)
    once_skipped (inr (single, runs)) =
        goes_on (contents_in reading.list_form contents)
        (subst (λ (k : AtFault). RunsRequest k (contents_in reading.list_form contents) refused (Lists op files) closed out new err new_err 2) skips runs)

    pub lists_skip : Runs (Some words) contents refused closed out new err new_err 2 → HasSkipped
    lists_skip (inl (given, are, runs)) =
        once_skipped (subst (λ (k : Result Line (List ℕ)). RunsLine k contents refused closed out new err new_err 2) (ap line_request are ∙ asks) runs)
    lists_skip (inr (inl (shown, unread, (same, says, two)))) = absurd (changed same)
    lists_skip (inr (inr (left, (same, says, ends)))) = absurd (changed same)
