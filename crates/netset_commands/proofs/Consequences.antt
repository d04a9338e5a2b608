-- What follows from the contract of a run for a run that ends with the status of an answer, 0 or 1.
use Rattle.std.proofs.Common.{◌≡◌, refl, sym, ◌∙◌, ap, subst, arith, inl, inr, max, ℕ, zero, suc, ◌≤◌, Bool, true, false, List, [], Option, Some, None, Result, Ok, Err}
use Rattle.std.specs.Result.{result_unwrap_or}
use Rattle.cidr_io.specs.Writing.{State, Whole, Answered, Tells}
use Rattle.cidr_io.specs.declared.sink.OutputFailed.{OutputFailed}
use Rattle.cidr_lists.specs.declared.records.ListForm.TheVariants.{Networks as OfNetworks}
use Rattle.cidr_lists.specs.Lists.{Text}
use Rattle.netset_commands.specs.Arguments.{Line, line_request}
use Rattle.netset_commands.specs.Causes.{Refusals}
use Rattle.netset_commands.specs.Commands.{Request, Lists, Styled, NotIn, Diff, Same, Free, Acl, Split, Check, Which, Match, MatchEach, Look, Compile, Smallest, Describe, Class, Single, Help, Version, IsAnswer, bits_of, reading_of}
use Rattle.netset_commands.specs.Program.{AnswersRequest, AnswersWhole, IsRequestRefused, KeepsGoing, Reports, Runs, RunsFound, RunsLine, RunsOnce, RunsRequest, answer_status, by_output, status_of, contents_of}
use Rattle.netset_commands.specs.Typed.{AnswersTyped}
use Rattle.netset_commands.specs.declared.output.answers.Verdict.{Verdict}
use Rattle.netset_commands.specs.declared.output.answers.Verdict.TheVariants.{Yes, No}
use Rattle.netset_commands.specs.declared.commands.AtFault.{AtFault}
use Rattle.netset_commands.specs.declared.commands.AtFault.TheVariants.{Stop, Tell, Skip}
use Rattle.netset_commands.specs.declared.commands.Reading.{Reading}
use Rattle.netset_commands.specs.declared.errors.CommandError.{CommandError}
use Rattle.netset_commands.specs.declared.errors.CommandError.TheVariants as error
use Rattle.netset_commands.specs.declared.errors.Unsaved.TheVariants as unsaved
use Rattle.netset_commands.specs.declared.errors.FileError.TheVariants.{TooLarge, NotSaved, Hole, Unlike, Old, Version, Short, Long, Changed}
use Rattle.cidr_io.proofs.Chains.{whole_none}
use Rattle.netset_commands.proofs.Telling.{tells_nothing}
use Rattle.netset_commands.proofs.Typed.{typed_asks}

-- ---- the status
pub at_most_one : (verdict : Verdict) → answer_status verdict ≤ 1
at_most_one Yes = omega arith
at_most_one No = omega arith

pub above_one : (e : CommandError) → 2 ≤ status_of (Err e)
above_one (error.Argument text e) = omega arith
above_one (error.Line name number e) = omega arith
above_one (error.Input name why) = omega arith
above_one (error.File name TooLarge) = omega arith
above_one (error.File name (NotSaved unsaved.Full)) = omega arith
above_one (error.File name (NotSaved unsaved.Denied)) = omega arith
above_one (error.File name (NotSaved unsaved.ReadOnly)) = omega arith
above_one (error.File name (NotSaved unsaved.NoDirectory)) = omega arith
above_one (error.File name (NotSaved unsaved.Directory)) = omega arith
above_one (error.File name (NotSaved unsaved.Same)) = omega arith
above_one (error.File name (NotSaved unsaved.Unknown)) = omega arith
above_one (error.File name Hole) = omega arith
above_one (error.File name Unlike) = omega arith
above_one (error.File name Old) = omega arith
above_one (error.File name Version) = omega arith
above_one (error.File name Short) = omega arith
above_one (error.File name Long) = omega arith
above_one (error.File name Changed) = omega arith
above_one error.NoMemory = omega arith
above_one error.Output = omega arith

pub verdict_by : (status : ℕ) → status ≤ 1 → (verdict : Verdict) × (status ≡ answer_status verdict)
verdict_by zero few = (Yes, refl)
verdict_by (suc zero) few = (No, refl)
verdict_by (suc (suc n)) few = absurd (omega (arith, few))

never_two : (verdict : Verdict) → answer_status verdict ≡ 2 → ⊥
never_two verdict two = omega (arith, at_most_one verdict, two)

never_above : (verdict : Verdict) (status : ℕ) → answer_status verdict ≡ max status 2 → ⊥
never_above verdict status is = omega (arith, at_most_one verdict, is)

never_error : (verdict : Verdict) (e : CommandError) → answer_status verdict ≡ status_of (Err e) → ⊥
never_error verdict e ends = omega (arith, at_most_one verdict, above_one e, ends)

answer_of : (verdict : Verdict) (r : Result Verdict CommandError) → answer_status verdict ≡ status_of r → r ≡ Ok verdict
answer_of Yes (Ok Yes) ends = refl
answer_of Yes (Ok No) ends = cc
answer_of No (Ok Yes) ends = cc
answer_of No (Ok No) ends = refl
answer_of verdict (Err e) ends = absurd (never_error verdict e ends)

-- ---- an answer
never_refused : (contents : List ℕ → Option Text) (request : Request) (verdict : Verdict) → ¬ (IsRequestRefused contents request (Ok verdict))
never_refused contents request verdict h = h

pub written_whole : (out new : State) (answer : List ℕ) (was verdict : Verdict) (w : Result (Unit {0}) OutputFailed) → Ok verdict ≡ by_output was w
    → Answered out new answer w → (was ≡ verdict) × Whole out new answer
written_whole out new answer was verdict (Ok a) by h =
    let same : was ≡ verdict = cc in
    (same, h.0)
written_whole out new answer was verdict (Err f) by h = cc

-- what is answered, and written whole
abbrev Written : (List ℕ → Option Text) → Request → Verdict → State → State → Type 0
Written contents request verdict out new = (answer : List ℕ) × IsAnswer contents request answer verdict × Whole out new answer

whole_done : (contents : List ℕ → Option Text) (request : Request) (verdict : Verdict) (out new : State) → AnswersWhole contents request out new (Ok verdict)
    → Written contents request verdict out new
whole_done contents request verdict out new (inl (same, refused)) = absurd (never_refused contents request verdict refused)
whole_done contents request verdict out new (inr (answer, was, w, is, written, by)) =
    let (same, whole) = written_whole out new answer was verdict w by written in
    (answer, subst (λ (k : Verdict). IsAnswer contents request answer k) same is, whole)

-- nothing was written
same_whole : (out new : State) → new ≡ out → Whole out new []
same_whole out new same = subst (λ (k : State). Whole out k []) (sym same) (whole_none out)

answer_done : (contents : List ℕ → Option Text) (request : Request) (verdict : Verdict) (out new : State) → AnswersRequest contents request out new (Ok verdict)
    → Written contents request verdict out new
answer_done contents (Lists operation files) verdict out new h = whole_done contents (Lists operation files) verdict out new h
answer_done contents (Styled style operation files) verdict out new h = whole_done contents (Styled style operation files) verdict out new h
answer_done contents (NotIn style net files) verdict out new h = whole_done contents (NotIn style net files) verdict out new h
answer_done contents (Diff format old lists) verdict out new h = whole_done contents (Diff format old lists) verdict out new h
answer_done contents (Same form old lists) verdict out new h = whole_done contents (Same form old lists) verdict out new h
answer_done contents (Free style extent pool len used) verdict out new h = whole_done contents (Free style extent pool len used) verdict out new h
answer_done contents (Acl asked file) verdict out new h = whole_done contents (Acl asked file) verdict out new h
answer_done contents (Split style operand len n) verdict out new h = whole_done contents (Split style operand len n) verdict out new h
answer_done contents (Check files) verdict out new h = whole_done contents (Check files) verdict out new h
answer_done contents (Which address files) verdict out new h = whole_done contents (Which address files) verdict out new h
answer_done contents (Match picking list file) verdict out new (inl h) = whole_done contents (Match picking list file) verdict out new h
answer_done contents (Match picking list file) verdict out new (inr (e, is, of, answer, written, belongs)) = cc
answer_done contents (MatchEach picking list files) verdict out new (inl h) = whole_done contents (MatchEach picking list files) verdict out new h
answer_done contents (MatchEach picking list files) verdict out new (inr (before, after, file, split, (e, is, of, answer, written, belongs))) = cc
answer_done contents (Look seeking table file) verdict out new (inl h) = whole_done contents (Look seeking table file) verdict out new h
answer_done contents (Look seeking table file) verdict out new (inr (e, is, of, answer, written, belongs)) = cc
answer_done contents (Compile form table name) verdict out new (same, (differ, done)) = ([], (refl, done), same_whole out new same)
answer_done contents (Smallest holes form table) verdict out new h = whole_done contents (Smallest holes form table) verdict out new h
answer_done contents (Describe what operand) verdict out new h = whole_done contents (Describe what operand) verdict out new h
answer_done contents (Class operand) verdict out new (inl h) = whole_done contents (Class operand) verdict out new h
answer_done contents (Class operand) verdict out new (inr (e, is, of, answer, written, belongs)) = cc
answer_done contents (Single request) verdict out new h = whole_done contents (Single request) verdict out new h
answer_done contents (Help topic) verdict out new h = whole_done contents (Help topic) verdict out new h
answer_done contents Version verdict out new h = whole_done contents Version verdict out new h

-- ---- a run
-- the answer to a request was written whole, and nothing was told of an error
abbrev pub HasAnswered : (List ℕ → Option Text) → Request → Verdict → State → State → State → State → Type 0
HasAnswered contents request verdict out new_out err new_err =
    (answer : List ℕ) × IsAnswer contents request answer verdict × Whole out new_out answer × Tells err new_err []

module _ (verdict : Verdict) (refused : Refusals) (closed : Bool) (out new err new_err : State) where
  -- the arguments were read as a request, and that was answered, perhaps to a file
  abbrev Found : (List ℕ → Option (List ℕ)) → Result Line (List ℕ) → Type 0
  Found contents found = (reading : Reading) × (target : Option (List ℕ)) × (request : Request) × (found ≡ Ok (reading, (target, request)))
      × (target ≡ None → HasAnswered (contents_of reading request contents) request verdict out new err new_err)

  module _ (contents : List ℕ → Option Text) (request : Request) where
    request_done : (mid : State) (r : Result Verdict CommandError) → answer_status verdict ≡ status_of r → AnswersRequest contents request out new r
        → Reports closed r mid new_err → Tells err mid [] → HasAnswered contents request verdict out new err new_err
    request_done mid r ends answers says told_nothing =
        let yes = answer_of verdict r ends in
        let (answer, is, whole) = answer_done contents request verdict out new (rw yes at answers) in
        let same : new_err ≡ mid = (rw yes at says) in
        (answer, is, whole, subst (λ (k : State). Tells err k []) (sym same) told_nothing)

    keeps_done : (skips : Bool) → KeepsGoing skips contents refused request closed out new err new_err (answer_status verdict)
        → HasAnswered contents request verdict out new err new_err
    keeps_done skips (inl (e, wrong, (same, says, ends))) = absurd (never_error verdict e ends)
    keeps_done false (inr (inl (right, (names, are, lines, mid, tells, inl (fine, inl (any, (same, quiet, two))))))) = absurd (never_two verdict two)
    keeps_done true (inr (inl (right, (names, are, lines, mid, tells, inl (fine, inl (any, (read, answered, files, reasons, others, runs, above))))))) = absurd (never_above verdict answered above)
    keeps_done skips (inr (inl (right, (names, are, lines, mid, tells, inl (fine, inr (none, (r, answers, caused, says, ends))))))) =
        request_done mid r ends answers says (subst (λ (k : List ℕ). Tells err mid k) none tells)
    keeps_done skips (inr (inl (right, (names, are, lines, mid, tells, inr (before, after, split, front, rest, is, fine, begun, e, why, cause, (same, says, ends)))))) =
        absurd (never_error verdict e ends)
    keeps_done skips (inr (inr (left, (same, says, ends)))) = absurd (never_error verdict error.NoMemory ends)

    run_done : (way : AtFault) → RunsRequest way contents refused request closed out new err new_err (answer_status verdict)
        → HasAnswered contents request verdict out new err new_err
    run_done Stop (r, answers, caused, says, ends) = request_done err r ends answers says (tells_nothing err)
    run_done Tell goes = keeps_done false goes
    run_done Skip goes = keeps_done true goes

  once_done : (reading : Reading) (request : Request) (contents : List ℕ → Option (List ℕ))
      → RunsOnce reading contents refused request closed out new err new_err (answer_status verdict) → HasAnswered (contents_of reading request contents) request verdict out new err new_err
  once_done reading request contents (inl (twice, e, why, (same, says, ends))) = absurd (never_error verdict e ends)
  once_done reading request contents (inr (once, h)) = run_done (contents_of reading request contents) request reading.at_fault h

  pub found_answered : (reading : Reading) (request : Request) (contents : List ℕ → Option (List ℕ))
      → RunsFound (Ok (reading, (None, request))) contents refused closed out new err new_err (answer_status verdict)
      → HasAnswered (contents_of reading request contents) request verdict out new err new_err
  found_answered reading request contents (inl once) = once_done reading request contents once
  found_answered reading request contents (inr (left, (same, says, ends))) = absurd (never_error verdict error.NoMemory ends)

  line_done : (found : Result Line (List ℕ)) (contents : List ℕ → Option (List ℕ))
      → RunsLine found contents refused closed out new err new_err (answer_status verdict) → Found contents found
  line_done (Ok (reading, (None, request))) contents once = (reading, None, request, refl, λ none. once_done reading request contents once)
  line_done (Ok (reading, (Some name, request))) contents h = (reading, Some name, request, refl, λ none. cc)
  line_done (Err line) contents (same, says, two) = absurd (never_two verdict two)

  run_answered : (words : List (List ℕ)) (contents : List ℕ → Option (List ℕ))
      → Runs (Some words) contents refused closed out new err new_err (answer_status verdict) → Found contents (line_request words)
  run_answered words contents (inl (given, are, h)) =
      line_done (line_request words) contents
      (subst (λ (k : List (List ℕ)). RunsLine (line_request k) contents refused closed out new err new_err (answer_status verdict)) are h)
  run_answered words contents (inr (inl (shown, unread, (same, says, two)))) = absurd (never_two verdict two)
  run_answered words contents (inr (inr (left, (same, says, ends)))) = absurd (never_error verdict error.NoMemory ends)

-- words are one request, read in one way
one_request : {A : Type 0} (p q : A) (found : Result A (List ℕ)) → found ≡ Ok p → found ≡ Ok q → p ≡ q
one_request {A} p q found is also = ap (λ (k : Result A (List ℕ)). result_unwrap_or k p) (sym is ∙ also)

-- What such a run has written, where its arguments are a request as it is typed.
pub answers_typed : (words : Option (List (List ℕ))) (contents : List ℕ → Option (List ℕ)) (refused : Refusals) (closed : Bool) (out new err new_err : State) (status : ℕ)
    → Runs words contents refused closed out new err new_err status → AnswersTyped words contents out new err new_err status
answers_typed words contents refused closed out new err new_err status runs given options request verdict is typed ends =
    let told = subst (λ (k : Option (List (List ℕ))). Runs k contents refused closed out new err new_err status) is runs in
    let done = subst (λ (k : ℕ). Runs (Some given) contents refused closed out new err new_err k) ends told in
    let (reading, target, other, found, answered) = run_answered verdict refused closed out new err new_err given contents done in
    let same : (reading, (target, other)) ≡ (reading_of (OfNetworks (bits_of options)) options, (None, request)) =
    one_request (reading, (target, other)) (reading_of (OfNetworks (bits_of options)) options, (None, request)) (line_request given) found (typed_asks given options request typed) in
    subst (λ (k : Line). HasAnswered (contents_of k.0 (k.1).1 contents) (k.1).1 verdict out new err new_err) same
    (answered (ap (λ (k : Line). (k.1).0) same))
