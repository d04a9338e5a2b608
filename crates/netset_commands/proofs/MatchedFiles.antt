-- Lines that are picked of several files, one after another.
use Rattle.std.proofs.Common.{◌≡◌, ◌⊎◌, refl, sym, ◌∙◌, ap, subst, inl, inr, ℕ, ◌+◌, ◌<◌, ◌≤◌, Bool, true, false, List, [], ◌∷◌, ◌++◌, Bor, append_assoc, arith, drop, get_or, length, take, Option, Some, None, Result, Ok, Err}
use Rattle.std.specs.Bool.{Decides}
use Rattle.std.proofs.lemmas.Bool.{true≢false}
use Rattle.std.proofs.lemmas.List.{append-nil, at_drop_more, get_or-map, take-append-drop, take_all}
use Rattle.cidr_io.specs.Writing.{State, Whole, Answered}
use Rattle.cidr_io.specs.declared.sink.OutputFailed.{OutputFailed}
use Rattle.cidr_io.proofs.Chains.{part_none, whole_none, whole_part, whole_whole}
use Rattle.cidr_lists.specs.Lists.{Text}
use Rattle.cidr_lists.specs.Sets.{IsInSets}
use Rattle.netset_commands.specs.declared.commands.picking.Picking.{Picking}
use Rattle.cidr_lists.specs.declared.errors.LineError.{LineError}
use Rattle.cidr_lists.specs.declared.sets.Sets.{Sets}
use Rattle.netset_commands.specs.Answering.{HaveListAddresses}
use Rattle.netset_commands.specs.Commands.{MatchEach}
use Rattle.netset_commands.specs.Gathering.{AreStreamed, IsNotReadFurther, StreamsEach, StreamsFile}
use Rattle.netset_commands.specs.Matching.{AreMatched, IsEndedBy, IsEndedIn, IsMatch, IsMatchOfEach, either, file_label}
use Rattle.netset_commands.specs.Picking.{PicksOf}
use Rattle.netset_commands.specs.Program.{AnswersRequest, by_output}
use Rattle.netset_commands.specs.Streaming.{IsOfFile, IsWritten}
use Rattle.netset_commands.specs.declared.commands.matching.Written.{Written}
use Rattle.netset_commands.specs.declared.commands.matching.Written.TheVariants as written
use Rattle.netset_commands.specs.declared.errors.CommandError.{CommandError}
use Rattle.netset_commands.specs.declared.errors.CommandError.TheVariants as error
use Rattle.netset_commands.specs.declared.output.answers.Verdict.{Verdict}
use Rattle.netset_commands.specs.declared.output.answers.Verdict.TheVariants.{Yes, No}
use Rattle.netset_commands.proofs.Arguments.{bytes_of, same_length, within_bytes}
use Rattle.netset_commands.proofs.Consequences.{written_whole}
use Rattle.netset_commands.proofs.EachFile.{next_taken}
use Rattle.netset_commands.proofs.Matched.{cut_here, cut_same, match_same, nothing_passed, of_list, picks_same}

-- ---- one of two
either_no : (one : Verdict) → one ≡ either one No
either_no Yes = refl
either_no No = refl

either_assoc : (a b c : Verdict) → either (either a b) c ≡ either a (either b c)
either_assoc Yes b c = refl
either_assoc No b c = refl

-- ---- what is written
-- behind what was written whole
written_on : (s t u : State) (before text : List ℕ) (e : CommandError) → s.failed ≡ false → Whole s t before → IsWritten t u text e
    → IsWritten s u (before ++ text) e
written_on s t u before text (error.Argument name e) fine whole (rest, done) = (whole_whole s t u before text whole rest, done)
written_on s t u before text (error.Line name number e) fine whole (rest, done) = (whole_whole s t u before text whole rest, done)
written_on s t u before text (error.Input name why) fine whole (rest, done) = (whole_whole s t u before text whole rest, done)
written_on s t u before text error.NoMemory fine whole (rest, done) = (whole_whole s t u before text whole rest, done)
written_on s t u before text (error.File name e) fine whole (rest, done) = (whole_whole s t u before text whole rest, done)
written_on s t u before text error.Output fine whole (part, before_failed) =
    (whole_part s t u before text whole part, λ failed. absurd (true≢false (sym failed ∙ fine)))

-- nothing more, for a file that can't be opened
unopened_written : (s t : State) (text file : List ℕ) (e : CommandError) → s.failed ≡ false → Whole s t text → IsNotReadFurther file e
    → IsOfFile file e × IsWritten s t text e
unopened_written s t text file (error.Argument name e) fine whole h = absurd h
unopened_written s t text file (error.Line name number e) fine whole h = absurd h
unopened_written s t text file (error.Input name why) fine whole h = (h, (whole, whole.fine ∙ fine))
unopened_written s t text file error.NoMemory fine whole h = (tt, (whole, whole.fine ∙ fine))
unopened_written s t text file error.Output fine whole h = absurd h
unopened_written s t text file (error.File name e) fine whole h = absurd h

-- ---- files
module _ (contents : List ℕ → Option Text) (headed : Bool) (P : List ℕ → Result Bool LineError → Type 0) (what : Written) where
  matched_more : (files : List (List ℕ)) (file answer more : List ℕ) (verdict one : Verdict) → AreMatched contents headed P what files answer verdict
      → ((text : Text) → contents file ≡ Some text → IsMatch headed P (file_label file) what text.bytes None more one)
      → AreMatched contents headed P what (files ++ file ∷ []) (answer ++ more) (either verdict one)
  matched_more [] file answer more verdict one (none, lacks) match = (
    more,
    [],
    one,
    No,
    match,
    (refl, refl),
    ap (λ (k : List ℕ). k ++ more) none ∙ sym (append-nil more),
    ap (λ (k : Verdict). either k one) lacks ∙ either_no one,
  )
  matched_more (other ∷ files) file answer more verdict one (first, rest, v, w, here, others, is, by) match = (
    first,
    rest ++ more,
    v,
    either w one,
    here,
    matched_more files file rest more w one others match,
    ap (λ (k : List ℕ). k ++ more) is ∙ append_assoc first rest more,
    ap (λ (k : Verdict). either k one) by ∙ either_assoc v w one,
  )

  -- a file that is not read at all, and one that is not read further
  never_read : (file : List ℕ) (text : Text) (e : CommandError) → IsNotReadFurther file e → IsEndedBy headed P (file_label file) what text.bytes [] e
  never_read file text (error.Argument name e) h = absurd h
  never_read file text (error.Line name number e) h = absurd h
  never_read file text (error.Input name why) h =
      cut_here headed P (file_label file) what (Some text.bytes) (Some text.bytes) 1 ([], []) None (error.Input name why) (λ _ _. tt) (nothing_passed headed P (file_label file) what (Some text.bytes)) (λ e. refl)
  never_read file text error.NoMemory h =
      cut_here headed P (file_label file) what (Some text.bytes) (Some text.bytes) 1 ([], []) None error.NoMemory (λ _ _. tt) (nothing_passed headed P (file_label file) what (Some text.bytes)) (λ e. refl)
  never_read file text error.Output h = absurd h
  never_read file text (error.File name e) h = absurd h

  pub none_streamed : (s : State) → AreStreamed contents headed P what [] s s No
  none_streamed s = ([], (refl, refl), whole_none s)

  more_streamed : (files : List (List ℕ)) (file : List ℕ) (s t u : State) (verdict one : Verdict) → AreStreamed contents headed P what files s t verdict
      → StreamsFile headed P (file_label file) what file (contents file) t u (Ok one) → AreStreamed contents headed P what (files ++ file ∷ []) s u (either verdict one)
  more_streamed files file s t u verdict one (answer, are, whole) (inl (same, e, is, of)) = cc
  more_streamed files file s t u verdict one (answer, are, whole) (inr (known, opens, inl (more, v, w, match, wrote, by))) =
      let (same, all) = written_whole t u more v one w by wrote in (
        answer ++ more,
        matched_more files file answer more verdict one are
            (λ text told. subst (λ (k : Verdict). IsMatch headed P (file_label file) what text.bytes None more k) same (rw (opens text told) at match)),
        whole_whole s t u answer more whole all,
      )
  more_streamed files file s t u verdict one (answer, are, whole) (inr (known, opens, inr (e, is, of, more, begun, cut))) = cc

  all_streamed : (files left : List (List ℕ)) (s t : State) (verdict : Verdict) → s.failed ≡ false → AreStreamed contents headed P what files s t verdict
      → (left ≡ []) ⊎ ((what ≡ written.Nothing) × (verdict ≡ Yes)) → StreamsEach contents headed P what (files ++ left) s t (Ok verdict)
  all_streamed files left s t verdict fine (answer, are, whole) enough =
      inl (answer, verdict, Ok tt, (files, left, refl, are, enough), (whole, whole.fine ∙ fine), refl)

  -- the output failed at what is written of a file
  output_lost : (before after : List (List ℕ)) (file : List ℕ) (s t u : State) (answer more : List ℕ) (verdict v : Verdict) (w : Result (Unit {0}) OutputFailed) (e : CommandError)
      → s.failed ≡ false → (what ≡ written.Nothing → verdict ≡ No) → AreMatched contents headed P what before answer verdict → Whole s t answer
      → ((text : Text) → contents file ≡ Some text → IsMatch headed P (file_label file) what text.bytes None more v) → Answered t u more w → Err e ≡ by_output v w
      → StreamsEach contents headed P what (before ++ file ∷ after) s u (Err e)
  output_lost before after file s t u answer more verdict v (Ok a) e fine quiet are whole match wrote by = cc
  output_lost before after file s t u answer more verdict v (Err f) e fine quiet are whole match (part, before_failed) by =
      let is : e ≡ error.Output = cc in
      rw is (inr (
        before,
        after,
        file,
        refl,
        (
          error.Output,
          refl,
          tt,
          answer ++ more,
          (whole_part s t u answer more whole part, λ failed. absurd (true≢false (sym failed ∙ fine))),
          (answer, more, verdict, are, refl, quiet, λ text told. inr (v, match text told, refl)),
        ),
      ))

  one_failed : (before after : List (List ℕ)) (file : List ℕ) (s t u : State) (verdict : Verdict) (e : CommandError) → s.failed ≡ false
      → (what ≡ written.Nothing → verdict ≡ No) → AreStreamed contents headed P what before s t verdict → StreamsFile headed P (file_label file) what file (contents file) t u (Err e)
      → StreamsEach contents headed P what (before ++ file ∷ after) s u (Err e)
  one_failed before after file s t u verdict e fine quiet (answer, are, whole) (inl (same, why, is, of)) =
      let this : e ≡ why = cc in
      let (of_file, wrote) = unopened_written s t answer file why fine whole of in
      rw (this, same) (inr (
        before,
        after,
        file,
        refl,
        (why, refl, of_file, answer, wrote, (answer, [], verdict, are, sym (append-nil answer), quiet, λ text told. inl (never_read file text why of))),
      ))
  one_failed before after file s t u verdict e fine quiet (answer, are, whole) (inr (known, opens, inl (more, v, w, match, wrote, by))) =
      output_lost before after file s t u answer more verdict v w e fine quiet are whole (λ text told. rw (opens text told) at match) wrote by
  one_failed before after file s t u verdict e fine quiet (answer, are, whole) (inr (known, opens, inr (why, is, of, more, begun, cut))) =
      let this : e ≡ why = cc in
      rw this (inr (
        before,
        after,
        file,
        refl,
        (
          why,
          refl,
          of,
          answer ++ more,
          written_on s t u answer more why fine whole begun,
          (answer, more, verdict, are, refl, quiet, λ text told. inl (rw (opens text told) at cut)),
        ),
      ))

  -- an output that had failed before
  pub failed_before : (files : List (List ℕ)) (s : State) → s.failed ≡ true → StreamsEach contents headed P what files s s (Err error.Output)
  failed_before [] s failed = inl ([], No, Err (record {}), ([], [], refl, (refl, refl), inl refl), (part_none s [] failed, λ _. refl), refl)
  failed_before (file ∷ files) s failed = inr (
    [],
    files,
    file,
    refl,
    (
      error.Output,
      refl,
      tt,
      [],
      (part_none s [] failed, λ _. refl),
      (
        [],
        [],
        No,
        (refl, refl),
        refl,
        λ e. refl,
        λ text told. inl (cut_here headed P (file_label file) what (Some text.bytes) (Some text.bytes) 1 ([], []) None error.Output (λ _ _. tt)
            (nothing_passed headed P (file_label file) what (Some text.bytes)) (λ e. refl)),
      ),
    ),
  )

  -- -q needs a further file only where no line of one before was picked
  pub not_yet : (done : Bool) (verdict : Verdict) → Decides done ((what ≡ written.Nothing) × (verdict ≡ Yes)) → done ≡ false → what ≡ written.Nothing
      → verdict ≡ No
  not_yet done Yes d e nothing = absurd (true≢false (sym (d.1 (nothing, refl)) ∙ e))
  not_yet done No d e nothing = refl

  -- ---- the same of files by their names
  module _ (files : List (Bor (List ℕ))) (i : ℕ) (d : Bor (List ℕ)) (s t u : State) (verdict : Verdict) (within : i < length files)
      (before : AreStreamed contents headed P what (take i (bytes_of files)) s t verdict) where
    abbrev name_of : List ℕ
    name_of = (get_or files i d).now

    named : get_or (bytes_of files) i name_of ≡ name_of
    named = get_or-map (λ (w : Bor (List ℕ)). w.now) files i d name_of within

    split : bytes_of files ≡ take i (bytes_of files) ++ name_of ∷ drop (i + 1) (bytes_of files)
    split =
        let names = bytes_of files in
        sym (take-append-drop i names) ∙ (at_drop_more (λ k. take i names ++ k) names i name_of (within_bytes files i within)
        ∙ ap (λ (k : List ℕ). take i names ++ k ∷ drop (i + 1) names) named)

    pub file_streamed : (one : Verdict) → StreamsFile headed P (file_label (get_or files i d).now) what (get_or files i d).now (contents (get_or files i d).now) t u (Ok one)
        → AreStreamed contents headed P what (take (i + 1) (bytes_of files)) s u (either verdict one)
    file_streamed one streams =
        subst (λ (k : List (List ℕ)). AreStreamed contents headed P what k s u (either verdict one))
        (sym (next_taken (bytes_of files) i name_of (within_bytes files i within) named))
        (more_streamed (take i (bytes_of files)) name_of s t u verdict one before streams)

    pub file_failed : (e : CommandError) → s.failed ≡ false → (what ≡ written.Nothing → verdict ≡ No)
        → StreamsFile headed P (file_label (get_or files i d).now) what (get_or files i d).now (contents (get_or files i d).now) t u (Err e)
        → StreamsEach contents headed P what (bytes_of files) s u (Err e)
    file_failed e fine quiet streams =
        subst (λ (k : List (List ℕ)). StreamsEach contents headed P what k s u (Err e)) (sym split)
        (one_failed (take i (bytes_of files)) (drop (i + 1) (bytes_of files)) name_of s t u verdict e fine quiet before streams)

  pub enough_streamed : (files : List (List ℕ)) (i : ℕ) (s t : State) (verdict : Verdict) → s.failed ≡ false → AreStreamed contents headed P what (take i files) s t verdict
      → (what ≡ written.Nothing) × (verdict ≡ Yes) → StreamsEach contents headed P what files s t (Ok verdict)
  enough_streamed files i s t verdict fine are enough =
      subst (λ (k : List (List ℕ)). StreamsEach contents headed P what k s t (Ok verdict)) (take-append-drop i files)
      (all_streamed (take i files) (drop i files) s t verdict fine are (inr enough))

  pub files_streamed : (files : List (Bor (List ℕ))) (i : ℕ) (s t : State) (verdict : Verdict) → length files ≤ i → s.failed ≡ false
      → AreStreamed contents headed P what (take i (bytes_of files)) s t verdict → StreamsEach contents headed P what (bytes_of files) s t (Ok verdict)
  files_streamed files i s t verdict past fine are =
      subst (λ (k : List (List ℕ)). StreamsEach contents headed P what k s t (Ok verdict)) (append-nil (bytes_of files))
      (all_streamed (bytes_of files) [] s t verdict fine
      (subst (λ (k : List (List ℕ)). AreStreamed contents headed P what k s t verdict) (take_all i (bytes_of files) (omega (arith, same_length files))) are)
      (inl refl))

-- ---- by the bytes of the files
matched_same : (headed : Bool) (P Q : List ℕ → Result Bool LineError → Type 0) → ((line : List ℕ) (r : Result Bool LineError) → P line r → Q line r) → (contents : List ℕ → Option Text)
    (what : Written) (files : List (List ℕ)) (answer : List ℕ) (verdict : Verdict) → AreMatched contents headed P what files answer verdict → AreMatched contents headed Q what files answer verdict
matched_same headed P Q f contents what [] answer verdict h = h
matched_same headed P Q f contents what (file ∷ files) answer verdict (first, rest, one, other, match, others, is, by) = (
  first,
  rest,
  one,
  other,
  λ text told. match_same headed P Q f (file_label file) what text.bytes first None one (match text told),
  matched_same headed P Q f contents what files rest other others,
  is,
  by,
)

each_same : (headed : Bool) (P Q : List ℕ → Result Bool LineError → Type 0) → ((line : List ℕ) (r : Result Bool LineError) → P line r → Q line r) → (contents : List ℕ → Option Text)
    (what : Written) (files : List (List ℕ)) (answer : List ℕ) (verdict : Verdict) → IsMatchOfEach contents headed P what files answer verdict → IsMatchOfEach contents headed Q what files answer verdict
each_same headed P Q f contents what files answer verdict (read, left, split, are, enough) = (read, left, split, matched_same headed P Q f contents what read answer verdict are, enough)

ended_same : (headed : Bool) (P Q : List ℕ → Result Bool LineError → Type 0) → ((line : List ℕ) (r : Result Bool LineError) → P line r → Q line r) → (contents : List ℕ → Option Text)
    (what : Written) (before : List (List ℕ)) (file answer : List ℕ) (e : CommandError) → IsEndedIn contents headed P what before file answer e → IsEndedIn contents headed Q what before file answer e
ended_same headed P Q f contents what before file answer e (first, rest, verdict, are, is, quiet, ends) = (
  first,
  rest,
  verdict,
  matched_same headed P Q f contents what before first verdict are,
  is,
  quiet,
  λ text told. elim (ends text told) [
    | inl cut ↦ inl (cut_same headed P Q f (file_label file) what text.bytes rest e cut)
    | inr (v, match, lost) ↦ inr (v, match_same headed P Q f (file_label file) what text.bytes rest None v match, lost)
  ],
)

pub matched_each : (contents : List ℕ → Option Text) (picking : Picking) (list : List ℕ) (files : List (List ℕ)) (sets : Sets) (s t : State) (r : Result Verdict CommandError)
    → ((text : Text) → contents list ≡ Some text → HaveListAddresses text sets)
    → StreamsEach contents picking.headed (PicksOf picking (IsInSets sets)) picking.written files s t r → AnswersRequest contents (MatchEach picking list files) s t r
matched_each contents picking list files sets s t r reads (inl (answer, verdict, w, match, written, is)) =
    inl (inr (
      answer,
      verdict,
      w,
      λ networks told.
          of_list networks _ _ (λ IsIn same. each_same picking.headed _ _ (picks_same IsIn sets same picking.anywhere picking.column picking.inverted) contents picking.written files answer verdict match)
          (reads networks told),
      written,
      is,
    ))
matched_each contents picking list files sets s t r reads (inr (before, after, file, parts, (e, is, of_file, answer, begun, cut))) = inr (
  before,
  after,
  file,
  parts,
  (
    e,
    is,
    of_file,
    answer,
    begun,
    λ networks told.
        of_list networks _ _ (λ IsIn same. ended_same picking.headed _ _ (picks_same IsIn sets same picking.anywhere picking.column picking.inverted) contents picking.written before file answer e cut)
        (reads networks told),
  ),
)
