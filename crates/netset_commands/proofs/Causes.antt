-- What a run gives up for.
use Rattle.std.proofs.Common.{◌≡◌, ◌⊎◌, refl, sym, ap, subst, arith, inl, inr, ℕ, ◌+◌, ◌≤◌, Bor, Bool, true, false, List, ◌++◌, length, length-append, Option, Some, None, Result, Ok, Err, IfErr}
use Rattle.std.specs.List.{slice_split}
use Rattle.std.specs.Option.{IfSome}
use Rattle.std.specs.Result.{IsErrAnd}
use Rattle.std.proofs.lemmas.List.{length-map}
use Rattle.std.proofs.lemmas.List.Splits.{length-slice_split}
use Rattle.std.proofs.lemmas.List.Sums.{count_by-le-length}
use Rattle.std.proofs.lemmas.Result.{err_from_is_err_and}
use Rattle.std.proofs.lemmas.Grind.{common_steps}
use Rattle.cidr_io.specs.Lines.{MayFail as NoLineFails}
use Rattle.cidr_io.specs.declared.lines.LineReadError.{LineReadError as NoLine}
use Rattle.cidr_io.specs.declared.lines.LineReadError.TheVariants.{Failed}
use Rattle.cidr_io.specs.declared.lines.LineReadError.TheVariants as no_line
use Rattle.cidr_io.specs.declared.sink.OutputFailed.{OutputFailed}
use Rattle.cidr_io.specs.Writing.{State}
use Rattle.netset_commands.specs.Causes.{Cause, AreTooMany, LookCause, FileFails, IsToldReason, ReadCause, Refusals, TextFails}
use Rattle.netset_commands.specs.Commands.{Compile, Single as ASingle}
use Rattle.netset_commands.specs.Gathering.{IsLost, Stops, ended_by, told_behind}
use Rattle.cidr_lists.specs.Lists.{Text, is_line_feed, kept_of, lines_of}
use Rattle.netset_commands.specs.LookUps.{unread}
use Rattle.netset_commands.specs.Look.{IsUnreadTable}
use Rattle.netset_commands.specs.Program.{AnswersRequest, IsBadArgument, IsCaused, IsSameFile, by_output}
use Rattle.netset_commands.specs.Reading.{IsStopped, read_error}
use Rattle.netset_commands.specs.Single.{SingleRequest}
use Rattle.netset_commands.specs.declared.output.answers.Verdict.{Verdict}
use Rattle.netset_commands.specs.declared.errors.ArgumentError.{ArgumentError}
use Rattle.netset_commands.specs.declared.errors.CommandError.{CommandError}
use Rattle.netset_commands.specs.declared.errors.CommandError.TheVariants as error
use Rattle.netset_commands.specs.declared.errors.FileError.TheVariants.{TooLarge, NotSaved, Hole, Unlike, Old, Version, Short, Long, Changed}
use Rattle.cidr_lists.specs.declared.errors.LineError.{LineError}
use Rattle.cidr_lists.specs.declared.forms.RowForm.{RowForm}
use Rattle.netset_commands.specs.declared.errors.ListReadError.{ListReadError}
use Rattle.netset_commands.specs.declared.errors.ListReadError.TheVariants.{Line, Input, NoMemory}
use Rattle.netset_commands.specs.declared.commands.look.LookError.{LookError}
use Rattle.netset_commands.specs.declared.commands.look.LookError.TheVariants.{Reading, Output}
use Rattle.netset_commands.specs.declared.commands.matching.Written.{Written}
use Rattle.netset_commands.specs.declared.errors.Reason.{Reason}
use Rattle.netset_commands.specs.declared.errors.Reason.TheVariants.{Unknown}

-- ---- a reader
pub reading_stopped : (e : NoLine) → IsStopped (read_error e)
reading_stopped Failed = tt
reading_stopped no_line.NoMemory = tt

-- where a text is told, so is what is left of it
abbrev pub KnownOf : Option (List ℕ) → Option (List ℕ) → Type 0
KnownOf contents left = IfSome contents (λ text. (rest : List ℕ) × (left ≡ Some rest) × (length rest ≤ length text))

pub known_first : (contents : Option (List ℕ)) → KnownOf contents contents
known_first None = tt
known_first (Some text) = (text, refl, omega arith)

pub told_fails : (contents left : Option (List ℕ)) → KnownOf contents left → NoLineFails left → TextFails contents
told_fails None left known h = tt
told_fails (Some text) left (rest, is, size) h =
    let many : 18446744073709551615 ≤ length rest = subst NoLineFails is h in
    omega (arith, many, size)

pub no_line_cause : (contents left : Option (List ℕ)) (refused : Bool) (e : NoLine) → KnownOf contents left → (e ≡ Failed → NoLineFails left)
    → (e ≡ no_line.NoMemory → refused ≡ true) → ReadCause (TextFails contents) refused (read_error e)
no_line_cause contents left refused Failed known fails none = told_fails contents left known (fails refl)
no_line_cause contents left refused no_line.NoMemory known fails none = none refl

pub lines_cause : (contents left : Option (List ℕ)) (refused : Bool) (e : ListReadError) → KnownOf contents left → ReadCause (NoLineFails left) refused e
    → ReadCause (TextFails contents) refused e
lines_cause contents left refused (Line number e) known h = tt
lines_cause contents left refused Input known h = told_fails contents left known h
lines_cause contents left refused NoMemory known h = h

-- a line alone never says that a file can't be read
pub line_cause : (Fails : Type 0) (refused : Bool) (e : ListReadError) → ReadCause ⊥ refused e → ReadCause Fails refused e
line_cause Fails refused (Line number e) h = tt
line_cause Fails refused Input h = absurd h
line_cause Fails refused NoMemory h = h

pub look_line_cause : (Fails : Type 0) (refused : Bool) (e : LookError) → LookCause ⊥ false e → LookCause Fails refused e
look_line_cause Fails refused (Reading (Line number e)) h = tt
look_line_cause Fails refused (Reading Input) h = absurd h
look_line_cause Fails refused (Reading NoMemory) h = cc
look_line_cause Fails refused Output h = tt

-- more lines than there are numbers for
pub longer_than : (most : ℕ) (all before after : List (List ℕ)) (number : ℕ) → all ≡ before ++ after → number ≡ length before + 1 → most + 1 ≤ number → most ≤ length all
longer_than most all before after number lines place many = omega (arith, ap length lines, length-append before after)

-- a text has at least a byte for each line but one
pub enough_bytes : (text : List ℕ) → 18446744073709551614 ≤ length (lines_of text) → AreTooMany text
enough_bytes text many =
    omega (arith, many, length-map (slice_split is_line_feed text) kept_of, length-slice_split is_line_feed text, count_by-le-length is_line_feed text)

pub too_many : (text : List ℕ) (before after : List (List ℕ)) (number : ℕ) → lines_of text ≡ before ++ after → number ≡ length before + 1
    → 18446744073709551615 ≤ number → AreTooMany text
too_many text before after number lines place most =
    enough_bytes text (longer_than 18446744073709551614 (lines_of text) before after number lines place most)

-- ---- a file
fails_there : (contents : Option Text) (left : Option (List ℕ)) → ((text : Text) → contents ≡ Some text → left ≡ Some text.bytes) → TextFails left
    → IfSome contents (λ text. AreTooMany text.bytes)
fails_there None left opens h = tt
fails_there (Some text) left opens h = subst TextFails (opens text refl) h

pub file_fails : (contents : List ℕ → Option Text) (reasons : List ℕ → Option Reason) (name : List ℕ) (why : Reason) (left : Option (List ℕ))
    → reasons name ≡ None → ((text : Text) → contents name ≡ Some text → left ≡ Some text.bytes) → TextFails left → FileFails contents reasons name why
file_fails contents reasons name why left opened opens h =
    (fails_there (contents name) left opens h, subst (λ (k : Option Reason). IsToldReason k why) (sym opened) tt)

pub whole_fails : (contents : List ℕ → Option Text) (reasons : List ℕ → Option Reason) (name : List ℕ) (why : Reason) (left : Option (List ℕ))
    → reasons name ≡ None → ((text : Text) → contents name ≡ Some text → left ≡ Some text.bytes) → left ≡ None → FileFails contents reasons name why
whole_fails contents reasons name why left opened opens h = file_fails contents reasons name why left opened opens (subst TextFails (sym h) tt)

pub whole_read : (left : Option (List ℕ)) (text bytes : List ℕ) → left ≡ Some text → IfSome left (λ text. bytes ≡ text) → bytes ≡ text
whole_read left text bytes is h = subst (λ (k : Option (List ℕ)). IfSome k (λ text. bytes ≡ text)) is h

pub file_cause : (contents : List ℕ → Option Text) (reasons : List ℕ → Option Reason) (file : Bor (List ℕ)) (left : Option (List ℕ)) (refused : Bool) (e : ListReadError)
    → reasons file.now ≡ None → ((text : Text) → contents file.now ≡ Some text → left ≡ Some text.bytes) → ReadCause (TextFails left) refused e
    → Cause (FileFails contents reasons) refused (unread file e)
file_cause contents reasons file left refused (Line number e) opened opens h = tt
file_cause contents reasons file left refused Input opened opens h = file_fails contents reasons file.now Unknown left opened opens h
file_cause contents reasons file left refused NoMemory opened opens h = h

pub not_opened : (contents : List ℕ → Option Text) (reasons : List ℕ → Option Reason) (name : List ℕ) (why : Reason) → contents name ≡ None
    → IsToldReason (reasons name) why → FileFails contents reasons name why
not_opened contents reasons name why is told = (subst (λ (k : Option Text). IfSome k (λ text. AreTooMany text.bytes)) (sym is) tt, told)

pub cause_weaker : (F G : List ℕ → Reason → Type 0) (refused : Bool) (e : CommandError) → ((name : List ℕ) (why : Reason) → F name why → G name why) → Cause F refused e → Cause G refused e
cause_weaker F G refused e f h = grind (arith, common_steps)

pub causes_weaker : (F G : List ℕ → Reason → Type 0) (refused : Bool) (r : Result Verdict CommandError) → ((name : List ℕ) (why : Reason) → F name why → G name why) → IfErr r (Cause F refused)
    → IfErr r (Cause G refused)
causes_weaker F G refused (Ok verdict) f h = tt
causes_weaker F G refused (Err e) f h = cause_weaker F G refused e f h

-- a file that is read line by line
pub file_causes : (contents : List ℕ → Option Text) (reasons : List ℕ → Option Reason) (file : List ℕ) (left : Option (List ℕ)) (refused : Bool) (r : Result Verdict CommandError)
    → reasons file ≡ None → ((text : Text) → contents file ≡ Some text → left ≡ Some text.bytes) → IfErr r (Cause (λ name _. (name ≡ file) × TextFails left) refused)
    → IfErr r (Cause (FileFails contents reasons) refused)
file_causes contents reasons file left refused r opened opens h =
    causes_weaker (λ name _. (name ≡ file) × TextFails left) (FileFails contents reasons) refused r
    (λ name why k. subst (λ (n : List ℕ). FileFails contents reasons n why) (sym k.0) (file_fails contents reasons file why left opened opens k.1)) h

-- ---- an error that a `?` hands on
pub cause_handed : {X : Type 0} (F : List ℕ → Reason → Type 0) (refused : Bool) (e : CommandError) (r : Result X CommandError) → IsErrAnd r (λ y. y ≡ e) → Cause F refused e
    → IfErr r (Cause F refused)
cause_handed F refused e r is h = let (y, of, same) = err_from_is_err_and r is in rw (of, same) h

pub memory_handed : {X : Type 0} (F : List ℕ → Reason → Type 0) (refused : Bool) (r : Result X CommandError) → IsErrAnd r (λ y. y ≡ error.NoMemory) → refused ≡ true
    → IfErr r (Cause F refused)
memory_handed F refused r is h = cause_handed F refused error.NoMemory r is h

-- ---- an answer
pub output_cause : (F : List ℕ → Reason → Type 0) (refused : Bool) (verdict : Verdict) (w : Result (Unit {0}) OutputFailed) (r : Result Verdict CommandError)
    → r ≡ by_output verdict w → IfErr r (Cause F refused)
output_cause F refused verdict (Ok a) r is = subst (λ (k : Result Verdict CommandError). IfErr k (Cause F refused)) (sym is) tt
output_cause F refused verdict (Err f) r is = subst (λ (k : Result Verdict CommandError). IfErr k (Cause F refused)) (sym is) tt

pub argument_cause : (F : List ℕ → Reason → Type 0) (refused : Bool) (P : List ℕ → ArgumentError → Type 0) (e : CommandError) → IsBadArgument P e → Cause F refused e
argument_cause F refused P e h = grind (arith, common_steps)

pub single_cause : (F : List ℕ → Reason → Type 0) (refused : Bool) (contents : List ℕ → Option Text) (request : SingleRequest) (s t : State) (r : Result Verdict CommandError)
    → AnswersRequest contents (ASingle request) s t r → IfErr r (Cause F refused)
single_cause F refused contents request s t (Ok verdict) h = tt
single_cause F refused contents request s t (Err e) (inl (same, bad)) = argument_cause F refused _ e bad
single_cause F refused contents request s t (Err e) (inr (answer, verdict, w, is, written, by)) = output_cause F refused verdict w (Err e) by

-- a table that is to be written over by its own file
pub same_cause : (F : List ℕ → Reason → Type 0) (refused : Bool) (table name : List ℕ) (e : CommandError) → IsSameFile table name e → Cause F refused e
same_cause F refused table name e h = grind (arith, common_steps)

-- a table that is not compiled, before a file is written
pub uncompiled : (contents : List ℕ → Option Text) (refused : Refusals) (form : RowForm) (table name : List ℕ) (e : CommandError)
    → IsSameFile table name e ⊎ IsUnreadTable form (contents table) table e → Cause (FileFails contents refused.files) refused.memory e
    → IsCaused contents refused (Compile form table name) (Err e)
uncompiled contents refused form table name (error.Argument text why) is h = h
uncompiled contents refused form table name (error.Line file number why) is h = h
uncompiled contents refused form table name (error.Input file why) is h = h
uncompiled contents refused form table name error.NoMemory is h = h
uncompiled contents refused form table name error.Output is h = h
uncompiled contents refused form table name (error.File file (NotSaved why)) (inl (same, is)) h = inl (same, is.1)
uncompiled contents refused form table name (error.File file (NotSaved why)) (inr unread) h = absurd unread
uncompiled contents refused form table name (error.File file TooLarge) is h = h
uncompiled contents refused form table name (error.File file Hole) is h = h
uncompiled contents refused form table name (error.File file Unlike) is h = h
uncompiled contents refused form table name (error.File file Old) is h = h
uncompiled contents refused form table name (error.File file Version) is h = h
uncompiled contents refused form table name (error.File file Short) is h = h
uncompiled contents refused form table name (error.File file Long) is h = h
uncompiled contents refused form table name (error.File file Changed) is h = h

-- ---- lines that are picked
ended_cause : (F : List ℕ → Reason → Type 0) (refused : Bool) (e : CommandError) (w : Result (Unit {0}) OutputFailed) (r : Result Verdict CommandError)
    → r ≡ Err (ended_by e w) → Cause F refused e → IfErr r (Cause F refused)
ended_cause F refused e (Ok a) r is h = subst (λ (k : Result Verdict CommandError). IfErr k (Cause F refused)) (sym is) h
ended_cause F refused e (Err f) r is h = subst (λ (k : Result Verdict CommandError). IfErr k (Cause F refused)) (sym is) tt

pub stop_cause : (F : List ℕ → Reason → Type 0) (refused : Bool) (e : CommandError) (s t : State) (block : List ℕ) (r : Result Verdict CommandError) → Stops e s t block r
    → Cause F refused e → IfErr r (Cause F refused)
stop_cause F refused error.Output s t block r (same, is) h = subst (λ (k : Result Verdict CommandError). IfErr k (Cause F refused)) (sym is) tt
stop_cause F refused (error.Argument text e) s t block r (w, wrote, is) h = ended_cause F refused (error.Argument text e) w r is h
stop_cause F refused (error.Line name number e) s t block r (w, wrote, is) h = ended_cause F refused (error.Line name number e) w r is h
stop_cause F refused (error.Input name why) s t block r (w, wrote, is) h = ended_cause F refused (error.Input name why) w r is h
stop_cause F refused error.NoMemory s t block r (w, wrote, is) h = ended_cause F refused error.NoMemory w r is h
stop_cause F refused (error.File name why) s t block r (w, wrote, is) h = ended_cause F refused (error.File name why) w r is h

pub behind_cause : (F : List ℕ → Reason → Type 0) (refused : Bool) (file : Bor (List ℕ)) (long : Option ℕ) (r : Result Verdict CommandError) → IfErr r (Cause F refused)
    → IfErr (told_behind file long r) (Cause F refused)
behind_cause F refused file None r h = h
behind_cause F refused file (Some n) (Ok verdict) h = tt
behind_cause F refused file (Some n) (Err e) h = h

pub take_cause : (F : List ℕ → Reason → Type 0) (refused headed : Bool) (P : List ℕ → Result Bool LineError → Type 0) (label : List ℕ) (what : Written) (file : List ℕ) (number : ℕ) (part : List ℕ)
    (old new : State) (block rest : List ℕ) (e : CommandError) → IsLost headed P label what file number part old new block rest e → Cause F refused e
take_cause F refused headed P label what file number part old new block rest e h = grind (arith, common_steps)
