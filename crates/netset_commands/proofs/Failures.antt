-- What follows from the contract of a run that ends with status 2, of an operation on lists without -k and --skip-bad.
use Rattle.std.proofs.Common.{◌≡◌, sym, ◌∙◌, ap, subst, inl, inr, ℕ, Bool, List, ◌∷◌, Contains, IsUtf8, Option, Some, None, Result, Ok, Err}
use Rattle.std.proofs.lemmas.List.Elements.{Contains-append_right}
use Rattle.cidr_table.proofs.MapLaws.{contains_first}
use Rattle.cidr_io.specs.Writing.{State, Tells}
use Rattle.cidr_io.specs.declared.sink.OutputFailed.{OutputFailed}
use Rattle.cidr_lists.specs.Lists.{Text}
use Rattle.netset_commands.specs.Arguments.{Line, line_request}
use Rattle.netset_commands.specs.Causes.{Cause, FileFails, Refusals}
use Rattle.netset_commands.specs.Commands.{Lists, ReadsInputTwice, read_files}
use Rattle.netset_commands.specs.Program.{AnswersRequest, IsCaused, IsUnread, Reports, Runs, RunsLine, RunsOnce, RunsRequest, by_output, contents_in, error_line, status_of}
use Rattle.netset_commands.specs.declared.commands.AtFault.{AtFault}
use Rattle.netset_commands.specs.declared.commands.AtFault.TheVariants.{Stop}
use Rattle.netset_commands.specs.declared.commands.Reading.{Reading}
use Rattle.netset_commands.specs.declared.commands.operations.Operation.{Operation}
use Rattle.netset_commands.specs.declared.errors.CommandError.{CommandError}
use Rattle.netset_commands.specs.declared.errors.CommandError.TheVariants as error
use Rattle.netset_commands.specs.declared.output.answers.Verdict.{Verdict}
use Rattle.netset_commands.specs.declared.output.answers.Verdict.TheVariants.{Yes, No}

-- some list is not read: its error was told, and nothing else was written
abbrev pub Failed : (List ℕ → Option Text) → Refusals → List (List ℕ) → State → State → State → State → Type 0
Failed contents refused names out new err new_err = (e : CommandError) × IsUnread contents names e × Cause (FileFails contents refused.files) refused.memory e
    × (new ≡ out) × Tells err new_err (error_line e) × (2 ≡ status_of (Err e))

-- ---- an answer
told : (e : CommandError) (closed : Bool) (err new_err : State) → 2 ≡ status_of (Err e) → Reports closed (Err e) err new_err → Tells err new_err (error_line e)
told (error.Argument text e) closed err new_err two says = says
told (error.Line name number e) closed err new_err two says = says
told (error.Input name why) closed err new_err two says = says
told (error.File name why) closed err new_err two says = says
told error.NoMemory closed err new_err two says = cc
told error.Output closed err new_err two says = cc

never_written : (verdict : Verdict) (w : Result (Unit {0}) OutputFailed) (e : CommandError) → Err e ≡ by_output verdict w → 2 ≡ status_of (Err e) → ⊥
never_written verdict (Ok a) e by two = cc
never_written verdict (Err f) e by two =
    let output : e ≡ error.Output = cc in
    let three : 2 ≡ status_of (Err error.Output) = subst (λ (k : CommandError). 2 ≡ status_of (Err k)) output two in
    cc

answer_failed : (contents : List ℕ → Option Text) (op : Operation) (files : List (List ℕ)) (refused : Refusals) (closed : Bool) (out new err new_err : State)
    (r : Result Verdict CommandError) → 2 ≡ status_of r → AnswersRequest contents (Lists op files) out new r → IsCaused contents refused (Lists op files) r
    → Reports closed r err new_err → Failed contents refused (read_files files) out new err new_err
answer_failed contents op files refused closed out new err new_err (Ok Yes) two answers caused says = cc
answer_failed contents op files refused closed out new err new_err (Ok No) two answers caused says = cc
answer_failed contents op files refused closed out new err new_err (Err e) two (inl (same, unread)) caused says =
    (e, unread, caused, same, told e closed err new_err two says, two)
answer_failed contents op files refused closed out new err new_err (Err e) two (inr (answer, verdict, w, is, written, by)) caused says =
    absurd (never_written verdict w e by two)

-- ---- a run of arguments that are an operation on lists, without -k and --skip-bad
module _ (words : List (List ℕ)) (contents : List ℕ → Option (List ℕ)) (refused : Refusals) (closed : Bool) (out new err new_err : State) (reading : Reading)
    (op : Operation) (files : List (List ℕ)) (asks : line_request words ≡ Ok (reading, (None, Lists op files))) (once : ¬ (ReadsInputTwice (Lists op files)))
    (first : reading.at_fault ≡ Stop) (text : (word : List ℕ) → Contains words word → IsUtf8 word) where
  abbrev HasFailed : Type 0
  HasFailed = Failed (contents_in reading.list_form contents) refused (read_files files) out new err new_err

  once_failed : RunsOnce reading contents refused (Lists op files) closed out new err new_err 2 → HasFailed
  once_failed (inl (twice, e, why, ends)) = absurd (once twice)
  once_failed (inr (single, runs)) =
      let (r, answers, caused, says, two) =
      subst (λ (k : AtFault). RunsRequest k (contents_in reading.list_form contents) refused (Lists op files) closed out new err new_err 2) first runs in
      answer_failed (contents_in reading.list_form contents) op files refused closed out new err new_err r two answers caused says

  pub lists_fail : Runs (Some words) contents refused closed out new err new_err 2 → HasFailed
  lists_fail (inl (given, are, runs)) =
      once_failed (subst (λ (k : Result Line (List ℕ)). RunsLine k contents refused closed out new err new_err 2) (ap line_request are ∙ asks) runs)
  lists_fail (inr (inl (shown, (before, after, word, are, texts, bad, is), ends))) =
      absurd (bad (text word (subst (λ (k : List (List ℕ)). Contains k word) (sym are)
      (Contains-append_right before (word ∷ after) word (contains_first word after)))))
  lists_fail (inr (inr (left, (same, says, two)))) = cc
