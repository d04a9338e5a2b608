-- What a run leaves in the folder.
use Rattle.std.proofs.Common.{◌≡◌, ◌≢◌, refl, sym, ◌∙◌, ap, subst, arith, inl, inr, ℕ, ◌≤◌, Bool, false, List, Option, Some, None, Result, Ok, Err}
use Rattle.cidr_io.specs.Writing.{State}
use Rattle.cidr_lists.specs.Lists.{Text}
use Rattle.cidr_lists.specs.declared.forms.RowForm.{RowForm}
use Rattle.netset_commands.specs.Causes.{Refusals}
use Rattle.netset_commands.specs.Commands.{Request, Compile, IsAnswer}
use Rattle.netset_commands.specs.Arguments.{Line, line_request}
use Rattle.netset_commands.specs.Leaving.{IsSaved, Leaves, LeavesBy, LeavesFound, LeavesTo, RunLeaves}
use Rattle.netset_commands.specs.Program.{RunsFound, answer_status, empty, status_of, contents_of}
use Rattle.netset_commands.specs.Saving.{Told, with_file}
use Rattle.netset_commands.specs.declared.commands.Reading.{Reading}
use Rattle.netset_commands.specs.declared.errors.CommandError.{CommandError}
use Rattle.netset_commands.specs.declared.errors.Unsaved.TheVariants.{Denied}
use Rattle.netset_commands.specs.declared.output.answers.Verdict.{Verdict}
use Rattle.netset_commands.specs.declared.output.answers.Verdict.TheVariants.{Yes, No}
use Rattle.netset_commands.proofs.Consequences.{above_one, at_most_one, found_answered, verdict_by}
use Rattle.netset_commands.specs.declared.errors.Reason.{Reason}

-- the status of an error is not 0
pub not_zero : (e : CommandError) (status : ℕ) → status ≡ status_of (Err e) → status ≢ 0
not_zero e status is zero = omega (arith, above_one e, is, zero)

-- it is that of no answer
pub no_answer : (e : CommandError) (status : ℕ) → status ≡ status_of (Err e) → 2 ≤ status
no_answer e status is = omega (arith, above_one e, is)

-- the answer tells by the status what is left
pub left_by : (contents : List ℕ → Option Text) (request : Request) (old new : Option Told) (r : Result Verdict CommandError) (status : ℕ)
    → Leaves contents request old new r → status ≡ status_of r → LeavesBy contents request old new status
left_by contents (Compile form table name) old new (Ok Yes) status saved is = inl (is, saved)
left_by contents (Compile form table name) old new (Ok No) status never is = absurd never
left_by contents (Compile form table name) old new (Err e) status same is = inr (not_zero e status is, same)
left_by contents request old new r status same is = same

-- nothing is written where the status is not 0
pub left_alone : (contents : List ℕ → Option Text) (request : Request) (files : Option Told) (status : ℕ) → status ≢ 0
    → LeavesBy contents request files files status
left_alone contents (Compile form table name) files status other = inr (other, refl)
left_alone contents request files status other = refl

pub none_left : (found : Result Line (List ℕ)) (contents : List ℕ → Option (List ℕ)) (files : Option Told) (status : ℕ) → 2 ≤ status
    → LeavesFound found contents files files status
none_left (Ok (reading, (None, request))) contents files status two =
    left_alone (contents_of reading request contents) request files status (λ zero. omega (arith, zero, two))
none_left (Ok (reading, (Some name, request))) contents files status two = inr (two, refl)
none_left (Err line) contents files status two = refl

-- the same words
pub left_found : (found other : Result Line (List ℕ)) (contents : List ℕ → Option (List ℕ)) (old new : Option Told) (status : ℕ)
    → found ≡ other → LeavesFound other contents old new status → LeavesFound found contents old new status
left_found found other contents old new status is h =
    subst (λ (k : Result Line (List ℕ)). LeavesFound k contents old new status) (sym is) h

-- ---- what follows
saved_there : (contents : List ℕ → Option Text) (form : RowForm) (table name : List ℕ) (old new : Option Told) → LeavesBy contents (Compile form table name) old new 0
    → IsSaved form (contents table) table name old new
saved_there contents form table name old new (inl (zero, saved)) = saved
saved_there contents form table name old new (inr (other, same)) = absurd (other refl)

-- a run of `compile` that ends with status 0 has written the file of its table
pub compile_saves : (words : List (List ℕ)) (contents : List ℕ → Option (List ℕ)) (old new : Option Told) (reading : Reading) (form : RowForm) (table name : List ℕ)
    → RunLeaves (Some words) contents old new 0 → line_request words ≡ Ok (reading, (None, Compile form table name))
    → IsSaved form (contents_of reading (Compile form table name) contents table) table name old new
compile_saves words contents old new reading form table name (inl (given, are, h)) asks =
    saved_there (contents_of reading (Compile form table name) contents) form table name old new
    (subst (λ (k : Result Line (List ℕ)). LeavesFound k contents old new 0) asks
    (subst (λ (k : List (List ℕ)). LeavesFound (line_request k) contents old new 0) are h))
compile_saves words contents old new reading form table name (inr (two, same)) asks = absurd (omega (arith, two))

saved_to : (contents : List ℕ → Option Text) (request : Request) (name : List ℕ) (old new : Option Told) (status : ℕ) → status ≤ 1
    → LeavesTo (Some name) contents request old new status
    → (answer : List ℕ) × (verdict : Verdict) × IsAnswer contents request answer verdict × (status ≡ answer_status verdict) × (new ≡ with_file name answer old)
saved_to contents request name old new status few (inl saved) = saved
saved_to contents request name old new status few (inr (two, same)) = absurd (omega (arith, few, two))

-- a run with `-o` that ends with the status of an answer has written it to the file
pub answer_saves : (words : List (List ℕ)) (contents : List ℕ → Option (List ℕ)) (old new : Option Told) (status : ℕ) (reading : Reading) (name : List ℕ)
    (request : Request) → RunLeaves (Some words) contents old new status → status ≤ 1 → line_request words ≡ Ok (reading, (Some name, request))
    → (answer : List ℕ) × (verdict : Verdict) × IsAnswer (contents_of reading request contents) request answer verdict × (status ≡ answer_status verdict)
    × (new ≡ with_file name answer old)
answer_saves words contents old new status reading name request (inl (given, are, h)) few asks =
    saved_to (contents_of reading request contents) request name old new status few
    (subst (λ (k : Result Line (List ℕ)). LeavesFound k contents old new status) asks
    (subst (λ (k : List (List ℕ)). LeavesFound (line_request k) contents old new status) are h))
answer_saves words contents old new status reading name request (inr (two, same)) few asks = absurd (omega (arith, few, two))

kept_by : (contents : List ℕ → Option Text) (request : Request) (old new : Option Told) (status : ℕ) → status ≢ 0
    → LeavesBy contents request old new status → new ≡ old
kept_by contents (Compile form table name) old new status other (inl (zero, saved)) = absurd (other zero)
kept_by contents (Compile form table name) old new status other (inr (same, is)) = is
kept_by contents request old new status other is = is

kept_found : (found : Result Line (List ℕ)) (contents : List ℕ → Option (List ℕ)) (old new : Option Told) (status : ℕ) → 2 ≤ status
    → LeavesFound found contents old new status → new ≡ old
kept_found (Ok (reading, (None, request))) contents old new status two h =
    kept_by (contents_of reading request contents) request old new status (λ zero. omega (arith, zero, two)) h
kept_found (Ok (reading, (Some name, request))) contents old new status two (inl (answer, verdict, is, ends, saved)) =
    absurd (omega (arith, at_most_one verdict, ends, two))
kept_found (Ok (reading, (Some name, request))) contents old new status two (inr (other, is)) = is
kept_found (Err line) contents old new status two is = is

-- a run that ends with the status of no answer has left all files as they were
pub others_keep : (words : Option (List (List ℕ))) (contents : List ℕ → Option (List ℕ)) (old new : Option Told) (status : ℕ) → 2 ≤ status
    → RunLeaves words contents old new status → new ≡ old
others_keep words contents old new status two (inl (given, are, h)) = kept_found (line_request given) contents old new status two h
others_keep words contents old new status two (inr (other, is)) = is

-- ---- an answer that goes to a file
module _ (name : List ℕ) (reading : Reading) (contents : List ℕ → Option (List ℕ)) (refused : Bool) (reasons : List ℕ → Option Reason) (request : Request) (start : State) (held : List ℕ × Bool) (err new_err : State)
    (status : ℕ) (none : start ≡ empty) (bytes : List ℕ) (whole : held ≡ (bytes, false)) where
  -- the text in memory
  abbrev text : State
  text = record { taken = Some held.0; failed = held.1 }

  -- what was refused before, in a folder in which nothing is written
  abbrev before : Refusals
  before = record { memory = refused; folder = Some Denied; files = reasons }

  -- the run that writes it
  abbrev RunsBefore : State → ℕ → Type 0
  RunsBefore k n = RunsFound (Ok (reading, (None, request))) contents before held.1 k text err new_err n

  pub saved_into : (old new : Option Told) → status ≤ 1 → RunsBefore start status → new ≡ with_file name bytes old
      → LeavesTo (Some name) (contents_of reading request contents) request old new status
  saved_into old new few runs saved =
      let (verdict, ends) = verdict_by status few in
      let (answer, is, written, quiet) = found_answered verdict before held.1 empty text err new_err reading request contents
      (subst (RunsBefore empty) ends (subst (λ (k : State). RunsBefore k status) none runs)) in
      let all : held.0 ≡ answer = written.taken in
      inl (answer, verdict, is, ends, saved ∙ ap (λ (k : List ℕ). with_file name k old) (sym (ap (λ (k : List ℕ × Bool). k.0) whole) ∙ all))
