-- Runs with options of reading.
use Rattle.std.proofs.Common.{◌≡◌, refl, sym, ◌∙◌, ap, subst, arith, inl, inr, cond, ℕ, ◌<◌, ◌≤◌, ◌++◌, ◌&&◌, ◌||◌, codes, Bool, true, false, List, [], ◌∷◌, Option, Some, None, Result, Ok, Err}
use Rattle.std.proofs.lemmas.Bool.{true≢false}
use Rattle.std.specs.Bool.{Decides}
use Rattle.std.specs.List.{count_by}
use Rattle.std.proofs.lemmas.Grind.{common_steps}
use Rattle.cidr_io.specs.Arguments.{AreArguments}
use Rattle.cidr_io.specs.Writing.{State, Tells}
use Rattle.netset_commands.specs.Causes.{Cause, FileFails, Refusals}
use Rattle.netset_commands.specs.Arguments.{Line, Parts, and_then, line_parts, line_request, part_request, read_request, reading_in, target_in}
use Rattle.netset_commands.specs.Commands.{AreLists, Request, input_name, lists_of, others_of}
use Rattle.netset_commands.specs.Compiled.{begins_file}
use Rattle.netset_commands.specs.Keeping.{AreGoodBytes, AreGoodKept, IsGoodFile, IsGoodText, IsSameReason, good_bytes, good_file, good_files, kind_of, lined, list_named, none_of_kept, reasons_beside, takes_file}
use Rattle.cidr_lists.specs.Lists.{Text, text_in}
use Rattle.netset_commands.specs.Matching.{has, is_word}
use Rattle.netset_commands.specs.Loading.{AreListsLoaded, IsUnloaded}
use Rattle.netset_commands.specs.Program.{AnswersRequest, IntoFound, IsCaused, IsNotSaved, IsReadTwice, IsWrong, KeepsGoing, Reports, Runs, RunsFound, RunsGood, RunsOnce, RunsRequest, TellsFaults, empty, status_of, contents_of}
use Rattle.netset_commands.specs.declared.output.answers.Verdict.{Verdict}
use Rattle.netset_commands.specs.declared.commands.Reading.{Reading}
use Rattle.netset_commands.specs.declared.commands.table.Verb.{Verb}
use Rattle.netset_commands.specs.declared.errors.CommandError.{CommandError}
use Rattle.netset_commands.specs.declared.errors.Reason.{Reason}
use Rattle.netset_commands.specs.declared.errors.Unsaved.{Unsaved}
use Rattle.netset_commands.specs.declared.errors.Unsaved.TheVariants.{Denied}
use Rattle.netset_commands.specs.declared.input.keeping.Kept.{Kept}
use Rattle.cidr_lists.specs.declared.records.ListForm.{ListForm}
use Rattle.cidr_lists.specs.declared.forms.ListKind.{ListKind}
use Rattle.netset_commands.proofs.Arguments.{same_text}
use Rattle.netset_commands.proofs.ReadBy.{text_same}

-- ---- what is read without the lines in error
module _ (contents : List ℕ → Option Text) (request : Request) (bits : ListForm) (by : (name : List ℕ) (text : Text) → contents name ≡ Some text → text.form ≡ bits) where
  as_it_is : (found : Option Text) → ((text : Text) → found ≡ Some text → text.form ≡ bits) → good_file bits None found ≡ found
  as_it_is None same = refl
  as_it_is (Some text) same = ap (λ (k : Text). Some k) (text_same bits text (same text refl))

  module _ (name : List ℕ) where
    abbrev IsRead : Bool → Option Kept → Type 0
    IsRead listed found = IsGoodFile listed request (contents name) (good_file bits found (contents name))

    held_first : (first : List ℕ) (list : Kept) → AreGoodBytes (takes_file request) (kind_of request) (contents first) (good_bytes list) → first ≡ name → IsRead true (Some list)
    held_first first list good same text at =
        let bytes : List ℕ = good_bytes list in (
          text_in bits bytes,
          refl,
          subst (λ (k : ListForm). IsGoodText (takes_file request && begins_file text.bytes) (kind_of request) text (text_in k bytes)) (by name text at)
              (good text (ap contents same ∙ at)),
        )

    first_or_later : (here listed : Bool) (list : Kept) (later : Option Kept) → (here ≡ true → IsRead true (Some list)) → IsRead listed later
        → IsRead (here || listed) (cond here (Some list) later)
    first_or_later true listed list later this others = this refl
    first_or_later false listed list later this others = others

    good_named : (names : List (List ℕ)) (lists : List Kept) → AreGoodKept (takes_file request) contents (kind_of request) names lists → IsRead (has name names) (list_named name lists)
    good_named [] [] zip = as_it_is (contents name) (by name)
    good_named [] (list ∷ lists) zip = absurd zip
    good_named (first ∷ names) [] zip = absurd zip
    good_named (first ∷ names) (list ∷ lists) ((named, good), zip) =
        subst (λ (k : List ℕ). IsRead (is_word name first || has name names) (cond (is_word name k) (Some list) (list_named name lists))) (sym named)
        (first_or_later (is_word name first) (has name names) list (list_named name lists)
        (λ is. held_first first list good (same_text first name (sym is))) (good_named names lists zip))

-- ---- why a file is not opened, where no list of its name is read
module _ (takes : Bool) (contents : List ℕ → Option Text) (kind : ListKind) (reasons : List ℕ → Option Reason) (name : List ℕ) where
  reason_or_later : (here listed : Bool) (list : Kept) (later : Option Kept) → IsSameReason listed (reasons name) (none_of_kept later (reasons name))
      → IsSameReason (here || listed) (reasons name) (none_of_kept (cond here (Some list) later) (reasons name))
  reason_or_later true listed list later others = tt
  reason_or_later false listed list later others = others

  reason_named : (names : List (List ℕ)) (lists : List Kept) → AreGoodKept takes contents kind names lists
      → IsSameReason (has name names) (reasons name) (reasons_beside lists reasons name)
  reason_named [] [] zip = refl
  reason_named [] (list ∷ lists) zip = absurd zip
  reason_named (first ∷ names) [] zip = absurd zip
  reason_named (first ∷ names) (list ∷ lists) ((named, good), zip) =
      subst (λ (k : List ℕ). IsSameReason (is_word name first || has name names) (reasons name) (none_of_kept (cond (is_word name k) (Some list) (list_named name lists)) (reasons name))) (sym named)
      (reason_or_later (is_word name first) (has name names) list (list_named name lists) (reason_named names lists zip))

-- ---- with lists whose lines in error are told
module _ (contents : List ℕ → Option Text) (request : Request) (kind : ListKind) (takes : Bool) (names : List (List ℕ)) (skips : Bool) (refused : Refusals) (closed : Bool) (out s t : State)
    (is_kind : kind ≡ kind_of request) (is_taken : takes ≡ takes_file request) (are : AreLists request names) where
  loaded_of : (lists : List Kept) (found : Bool) → AreListsLoaded takes skips contents kind names s t lists found
      → AreListsLoaded (takes_file request) skips contents (kind_of request) names s t lists found
  loaded_of lists found h =
      subst (λ (k : ListKind). AreListsLoaded (takes_file request) skips contents k names s t lists found) is_kind
      (subst (λ (k : Bool). AreListsLoaded k skips contents kind names s t lists found) is_taken h)

  unloaded_of : (e : CommandError) → IsUnloaded (lined takes contents) kind names s t e
      → IsUnloaded (lined (takes_file request) contents) (kind_of request) names s t e
  unloaded_of e h =
      subst (λ (k : ListKind). IsUnloaded (lined (takes_file request) contents) k names s t e) is_kind
      (subst (λ (k : Bool). IsUnloaded (lined k contents) kind names s t e) is_taken h)

  pub lines_in_error : (lists : List Kept) → skips ≡ false → AreListsLoaded takes skips contents kind names s t lists true
      → TellsFaults skips contents refused request closed out out s t 2
  lines_in_error lists told h =
      let (lines, (tells, fine), any, kept, good) = loaded_of lists true h in
      (names, are, lines, t, tells, inl (fine, inl (any, rw told (refl, refl, refl))))

  pub lines_skipped : (lists : List Kept) (new u : State) (status : ℕ) → skips ≡ true → AreListsLoaded takes skips contents kind names s t lists true
      → RunsGood lists contents refused request closed out new t u status → TellsFaults skips contents refused request closed out new s u status
  lines_skipped lists new u status skip h (bits, answered, by, runs, is) =
      let (lines, (tells, fine), any, kept, good) = loaded_of lists true h in
      let read : (name : List ℕ) → IsGoodFile (has name names) request (contents name) (good_files bits lists contents name) =
      λ name. good_named contents request bits by name names lists (good skip) in
      let same : (name : List ℕ) → IsSameReason (has name names) (refused.files name) (reasons_beside lists refused.files name) =
      λ name. reason_named (takes_file request) contents (kind_of request) refused.files name names lists (good skip) in
      (names, are, lines, t, tells, inl (fine, inl (any, rw skip (good_files bits lists contents, answered, read, reasons_beside lists refused.files, same, runs, is))))

  pub no_line_in_error : (lists : List Kept) (new u : State) (r : Result Verdict CommandError) (status : ℕ) → AreListsLoaded takes skips contents kind names s t lists false
      → AnswersRequest contents request out new r → IsCaused contents refused request r → Reports closed r t u → status ≡ status_of r
      → TellsFaults skips contents refused request closed out new s u status
  no_line_in_error lists new u r status h answers caused says is =
      let (lines, (tells, fine), any, kept, good) = loaded_of lists false h in
      (names, are, lines, t, tells, inl (fine, inr (any, (r, answers, caused, says, is))))

  pub not_loaded : (u : State) (e : CommandError) (status : ℕ) → IsUnloaded (lined takes contents) kind names s t e → Cause (FileFails contents refused.files) refused.memory e → Reports closed (Err e) t u → status ≡ status_of (Err e)
      → TellsFaults skips contents refused request closed out out s u status
  not_loaded u e status h cause says is =
      let (before, after, split, why, front, rest, tells, fine, begun) = unloaded_of e h in
      (names, are, front ++ rest, t, tells, inr (before, after, split, front, rest, refl, fine, begun, e, why, cause, (refl, says, is)))

-- the first argument that is wrong
pub argument_first : (skips : Bool) (contents : List ℕ → Option Text) (request : Request) (refused : Refusals) (closed : Bool) (out s u : State) (e : CommandError) (status : ℕ)
    → IsWrong request e → Reports closed (Err e) s u → status ≡ status_of (Err e) → KeepsGoing skips contents refused request closed out out s u status
argument_first skips contents request refused closed out s u e status wrong says is = inl (e, wrong, (refl, says, is))

-- ---- arguments
-- what was found in the parts of a line was found in the line
pub found_parts : (words : List (List ℕ)) (verb : Verb) (parts : Parts) → line_parts words ≡ Ok (verb, parts) → line_request words ≡ read_request verb parts
found_parts words verb parts is = ap (λ (r : Result (Verb × Parts) (List ℕ)). and_then r (λ line. read_request line.0 line.1)) is

-- no parts, or no request
pub found_none : (words : List (List ℕ)) (line : List ℕ) → line_parts words ≡ Err line → line_request words ≡ Err line
found_none words line is = ap (λ (r : Result (Verb × Parts) (List ℕ)). and_then r (λ found. read_request found.0 found.1)) is

pub read_one : (verb : Verb) (parts : Parts) (reading : Reading) (target : Option (List ℕ)) (request : Request) → part_request verb parts ≡ Ok request
    → target_in verb parts ≡ Ok target → reading_in verb parts ≡ Ok reading → read_request verb parts ≡ Ok (reading, (target, request))
read_one verb parts reading target request is to read =
    ap (λ (r : Result Request (List ℕ)). and_then r (λ one. and_then (target_in verb parts) (λ name. and_then (reading_in verb parts) (λ way. Ok (way, (name, one)))))) is
    ∙ (ap (λ (r : Result (Option (List ℕ)) (List ℕ)). and_then r (λ name. and_then (reading_in verb parts) (λ way. Ok (way, (name, request))))) to
    ∙ ap (λ (r : Result Reading (List ℕ)). and_then r (λ way. Ok (way, (target, request)))) read)

pub run_found : (found other : Result Line (List ℕ)) (contents : List ℕ → Option (List ℕ)) (refused : Refusals) (closed : Bool) (out new s t : State) (status : ℕ)
    → found ≡ other → RunsFound other contents refused closed out new s t status → RunsFound found contents refused closed out new s t status
run_found found other contents refused closed out new s t status is h =
    subst (λ (k : Result Line (List ℕ)). RunsFound k contents refused closed out new s t status) (sym is) h

pub run_misused : (found : Result Line (List ℕ)) (line : List ℕ) (contents : List ℕ → Option (List ℕ)) (refused : Refusals) (closed : Bool) (out s t : State) (status : ℕ)
    → found ≡ Err line → Tells s t line → status ≡ 2 → RunsFound found contents refused closed out out s t status
run_misused found line contents refused closed out s t status is says ends =
    run_found found (Err line) contents refused closed out out s t status is (inl (refl, says, ends))

pub run_once : (reading : Reading) (contents : List ℕ → Option (List ℕ)) (refused : Refusals) (request : Request) (closed : Bool) (out new s t : State) (status : ℕ) (twice : Bool) (names : List (List ℕ))
    → names ≡ lists_of request ++ others_of request → Decides twice (1 < count_by (is_word input_name) names) → twice ≡ false → RunsRequest reading.at_fault (contents_of reading request contents) refused request closed out new s t status
    → RunsOnce reading contents refused request closed out new s t status
run_once reading contents refused request closed out new s t status twice names are decides once h = inr (
  λ twice_read. true≢false (sym (decides.1 (subst (λ (k : List (List ℕ)). 1 < count_by (is_word input_name) k) (sym are) twice_read)) ∙ once),
  h,
)

-- the standard input named twice is told whatever became of the output
told_anyway : (closed : Bool) (e : CommandError) (s t : State) → IsReadTwice e → Reports false (Err e) s t → Reports closed (Err e) s t
told_anyway closed e s t is says = grind (arith, common_steps)

pub run_none : (reading : Reading) (contents : List ℕ → Option (List ℕ)) (refused : Refusals) (request : Request) (closed : Bool) (out s t : State) (status : ℕ) (twice : Bool) (names : List (List ℕ)) (e : CommandError)
    → names ≡ lists_of request ++ others_of request → Decides twice (1 < count_by (is_word input_name) names) → twice ≡ true → IsReadTwice e → Reports false (Err e) s t → status ≡ status_of (Err e)
    → RunsOnce reading contents refused request closed out out s t status
run_none reading contents refused request closed out s t status twice names e are decides again is says ends =
    inl (subst (λ (k : List (List ℕ)). 1 < count_by (is_word input_name) k) are (decides.0 again), e, is, (refl, told_anyway closed e s t is says, ends))

-- the arguments, read as texts
pub run_arguments : (words : Option (List (List ℕ))) (given : List (List ℕ)) (contents : List ℕ → Option (List ℕ)) (refused : Refusals) (closed : Bool) (out new s t : State) (status : ℕ)
    → AreArguments words given → RunsFound (line_request given) contents refused closed out new s t status → Runs words contents refused closed out new s t status
run_arguments words given contents refused closed out new s t status are (inl runs) = inl (given, are, runs)
run_arguments words given contents refused closed out new s t status are (inr none) = inr (inr none)

-- ---- an answer that goes to a file
module _ (name : List ℕ) (reading : Reading) (contents : List ℕ → Option (List ℕ)) (was memory : Bool) (folder : Option Unsaved) (reasons : List ℕ → Option Reason) (request : Request) (start : State) (held : List ℕ × Bool) (s t : State)
    (answered : ℕ) (none : start ≡ empty) where
  -- what was refused before there was the text, in a folder in which nothing is written, and in the end
  abbrev before : Refusals
  before = record { memory = was; folder = Some Denied; files = reasons }

  abbrev refused : Refusals
  refused = record { memory = memory; folder = folder; files = reasons }

  -- the text in memory
  abbrev text : State
  text = record { taken = Some held.0; failed = held.1 }

  -- the run that writes it
  abbrev RunsBefore : State → Type 0
  RunsBefore k = RunsFound (Ok (reading, (None, request))) contents before held.1 k text s t answered

  abbrev Into : State → ℕ → Type 0
  Into u status = IntoFound name reading contents refused request s u status

  module _ (bytes : List ℕ) (whole : held ≡ (bytes, false)) (kept : memory ≡ was) where
    abbrev fine : held.1 ≡ false
    fine = ap (λ (k : List ℕ × Bool). k.1) whole

    told_by : RunsBefore empty → Into t answered
    told_by (inl once) now out = inl (refl, (before, text, t, answered, once, refl, inl (fine, sym kept, refl, refl)))
    told_by (inr (left, (same, says, ends))) now out = inr (kept ∙ left, (refl, says, ends))

    pub into_told : RunsBefore start → Into t answered
    into_told runs = told_by (subst RunsBefore none runs)

    module _ (u : State) (e : CommandError) (status : ℕ) (few : answered ≤ 1) (why : Unsaved) (unsaved : folder ≡ Some why) (is : IsNotSaved name why e) (says : Reports false (Err e) t u) (ends : status ≡ status_of (Err e)) where
      unsaved_by : RunsBefore empty → Into u status
      unsaved_by (inl once) now out = inl (refl, (before, text, t, answered, once, refl, inr (inl (fine, few, why, unsaved, e, is, says, ends))))
      unsaved_by (inr (left, (same, told, three))) now out =
          let is_three : answered ≡ 3 = three in
          absurd (omega (arith, few, is_three))

      pub into_unsaved : RunsBefore start → Into u status
      into_unsaved runs = unsaved_by (subst RunsBefore none runs)

  module _ (lost : held.1 ≡ true) (refusal : memory ≡ true) (u : State) (status : ℕ) (says : Tells t u (codes "no memory\n")) (ends : status ≡ 3) where
    lost_by : RunsBefore empty → Into u status
    lost_by (inl once) now out = inl (refl, (before, text, t, answered, once, refl, inr (inr (lost, refusal, says, ends))))
    lost_by (inr (left, (same, told, three))) now out = absurd (true≢false (sym lost ∙ ap (λ (k : State). k.failed) same))

    pub into_lost : RunsBefore start → Into u status
    into_lost runs = lost_by (subst RunsBefore none runs)
