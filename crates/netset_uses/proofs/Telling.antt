-- What runs over texts in memory have printed and told.
use Rattle.std.proofs.Common.{◌≡◌, ◌≢◌, refl, sym, ◌∙◌, ap, ap₂, subst, arith, inl, inr, ℕ, zero, suc, ◌+◌, ◌<◌, ◌≤◌, Bool, false, List, [], ◌∷◌, ◌++◌, length, codes, decimal, slice_index, Contains, IsAscii, IsUtf8, Option, Some, None, option_map, Result, Ok, Err}
use Rattle.std.specs.List.{AllZip, flat_map}
use Rattle.std.specs.Option.{IfSome}
use Rattle.std.proofs.lemmas.Bool.{false≢true}
use Rattle.std.proofs.lemmas.List.{append-nil}
use Rattle.std.proofs.lemmas.Str.{IsUtf8-from_ascii}
use Rattle.std.proofs.lemmas.Fmt.{decimal_digit}
use Rattle.cidr.specs.declared.cidr.combined.IpCidr.{IpCidr}
use Rattle.cidr.specs.declared.family.Family.{Family}
use Rattle.cidr_io.specs.Writing.{State, Whole, Tells}
use Rattle.cidr_lists.specs.Faults.{AreTellings}
use Rattle.cidr_lists.specs.Lists.{ListSays, Text, text_by}
use Rattle.cidr_lists.specs.LookUps.{telling_by}
use Rattle.cidr_lists.specs.Formats.{bare}
use Rattle.cidr_lists.specs.Lines.{lines_in}
use Rattle.cidr_lists.specs.Messages.{fault_line}
use Rattle.cidr_lists.specs.Printing.{line}
use Rattle.cidr_lists.specs.Rules.{AreAllShadowLines, ArePermittedLines, Permitted, Shadowed, Compared}
use Rattle.cidr_lists.specs.ReadBack.{AreUnions}
use Rattle.cidr_lists.specs.Sets.{printed_sets}
use Rattle.cidr_lists.specs.declared.errors.LineError.{LineError}
use Rattle.cidr_lists.specs.declared.fields.Asked.TheVariants.{First}
use Rattle.cidr_lists.specs.declared.objects.Telling.{Telling}
use Rattle.cidr_lists.specs.declared.formats.Format.TheVariants.{Nft}
use Rattle.cidr_lists.specs.declared.forms.RowForm.{RowForm}
use Rattle.cidr_lists.specs.declared.formats.LineFormat.TheVariants.{Json, Plain}
use Rattle.cidr_lists.specs.declared.lines.HostBits.{HostBits}
use Rattle.cidr_lists.specs.declared.forms.ListKind.TheVariants.{Networks}
use Rattle.cidr_lists.specs.declared.lines.HostBits.TheVariants.{Refused}
use Rattle.cidr_lists.specs.declared.records.ListForm.TheVariants.{Networks as OfNetworks}
use Rattle.netset_commands.specs.Causes.{Refusals}
use Rattle.netset_commands.specs.Commands.{Acl, Diff, HoldsOf, IsDiff, IsMadeOf, Lists, Look, Match, ReadsInputTwice, reading_of}
use Rattle.netset_commands.specs.Look.{IsLook}
use Rattle.netset_commands.specs.Matching.{ArePicked, IsMatch, Picks}
use Rattle.netset_commands.specs.Picking.{IsFieldPlace, picking_of, seeking_of}
use Rattle.netset_commands.specs.Program.{Runs, contents_by, error_line}
use Rattle.netset_commands.specs.Typed.{AnswersTyped, IsTyped}
use Rattle.netset_commands.specs.declared.commands.operations.Operation.TheVariants.{Merge}
use Rattle.netset_commands.specs.declared.errors.CommandError.TheVariants as error
use Rattle.netset_commands.specs.declared.commands.matching.Written.TheVariants as written
use Rattle.netset_commands.specs.declared.output.answers.Verdict.{Verdict}
use Rattle.netset_commands.specs.declared.output.answers.Verdict.TheVariants.{Yes, No}
use Rattle.netset_commands.proofs.Failures.{Failed, lists_fail}
use Rattle.netset_commands.proofs.Matched.{of_list}
use Rattle.netset_commands.proofs.Skipped.{lists_skip}
use Rattle.netset_commands.proofs.Typed.{typed_asks}
use Rattle.netset_uses.specs.Runs.{AreLinesBySecond, ArePermittedTheSame, HasPrinted, HasRun, HasSkipped, HasToldLine, by_second, by_words, holding, second_field}
use Rattle.netset_uses.specs.declared.runs.Finished.{Finished}

-- ---- outputs
all_told : (err text : List ℕ) → Tells (holding []) (holding err) text → err ≡ text
all_told err text (Ok done, (whole, fine)) = whole.taken
all_told err text (Err e, (part, before)) = absurd (false≢true part.failed)

pub printed_by : (Is : List ℕ → Type 0) (run : Finished) (answer : List ℕ) → Is answer → Whole (holding []) (holding run.out.items) answer
    → Tells (holding []) (holding run.err.items) [] → HasPrinted Is run
printed_by Is run answer is whole quiet = (subst Is (sym whole.taken) is, all_told run.err.items [] quiet)

-- a run between outputs that hold what it has written
module _ (words : List (List ℕ)) (contents : List ℕ → Option (List ℕ)) (refused : Refusals) (closed : Bool) (status : ℕ) where
  abbrev RanBetween : State → State → State → State → Type 0
  RanBetween s t u v = AnswersTyped (Some words) contents s t u v status × Runs (Some words) contents refused closed s t u v status

  pub ran : (s t u v : State) (out err : List ℕ) → AnswersTyped (Some words) contents s t u v status → Runs (Some words) contents refused closed s t u v status
      → s ≡ holding [] → t ≡ holding out → u ≡ holding [] → v ≡ holding err
      → AnswersTyped (Some words) contents (holding []) (holding out) (holding []) (holding err) status
      × ((x : Refusals) × (y : Bool) × Runs (Some words) contents x y (holding []) (holding out) (holding []) (holding err) status)
  ran s t u v out err answered runs e f g h =
      let (printed, done) = subst (λ (k : State). RanBetween (holding []) (holding out) (holding []) k) h
      (subst (λ (k : State). RanBetween (holding []) (holding out) k v) g
      (subst (λ (k : State). RanBetween (holding []) k u v) f (subst (λ (k : State). RanBetween k t u v) e (answered, runs)))) in
      (printed, (refused, closed, done))

-- ---- merge
abbrev pub merge_words : List (List ℕ)
merge_words = codes "merge" ∷ codes "list" ∷ []

pub told_text : (contents : List ℕ → Option (List ℕ)) (name bytes : List ℕ) → contents name ≡ Some bytes → contents_by Refused contents name ≡ Some (text_by Refused bytes)
told_text contents name bytes told = ap (option_map (text_by Refused)) told

pub merge_printed : (contents : List ℕ → Option (List ℕ)) (list : List ℕ) (run : Finished) → contents (codes "list") ≡ Some list
    → HasRun merge_words contents run → run.status ≡ 0 → HasPrinted (IsMadeOf Merge (text_by Refused list ∷ [])) run
merge_printed contents list run told (answered, runs) ended =
    let (answer, is, whole, quiet) = answered merge_words [] (Lists Merge (codes "list" ∷ [])) Yes refl (refl, refl, refl, refl, refl) ended in
    printed_by (IsMadeOf Merge (text_by Refused list ∷ [])) run answer (is.0 (text_by Refused list ∷ []) (told_text contents (codes "list") list told, tt)) whole quiet

-- the words are text
merge_ascii : IsAscii (codes "merge")
merge_ascii zero = omega arith
merge_ascii (suc zero) = omega arith
merge_ascii (suc (suc zero)) = omega arith
merge_ascii (suc (suc (suc zero))) = omega arith
merge_ascii (suc (suc (suc (suc zero)))) = omega arith
merge_ascii (suc (suc (suc (suc (suc i))))) = omega arith

list_ascii : IsAscii (codes "list")
list_ascii zero = omega arith
list_ascii (suc zero) = omega arith
list_ascii (suc (suc zero)) = omega arith
list_ascii (suc (suc (suc zero))) = omega arith
list_ascii (suc (suc (suc (suc i)))) = omega arith

in_words : (word : List ℕ) → Contains merge_words word → IsUtf8 word
in_words word (zero, within, is) = subst IsUtf8 is (IsUtf8-from_ascii (codes "merge") merge_ascii)
in_words word (suc zero, within, is) = subst IsUtf8 is (IsUtf8-from_ascii (codes "list") list_ascii)
in_words word (suc (suc k), within, is) = absurd (omega (arith, within))

-- none of the files is the standard input
once : ¬ (ReadsInputTwice (Lists Merge (codes "list" ∷ [])))
once twice =
    let less : 1 < 0 = twice in
    omega (arith, less)

-- the one file is the one at fault
one_name : (file name : List ℕ) (before after : List (List ℕ)) → file ∷ [] ≡ before ++ name ∷ after → name ≡ file
one_name file name [] after e = cc
one_name file name (other ∷ []) after e = cc
one_name file name (other ∷ more ∷ before) after e = cc

-- an error of a list that is read to its end or to a line in error
pub list_failed : (contents : List ℕ → Option (List ℕ)) (file list : List ℕ) (refused : Refusals) (run : Finished) → contents file ≡ Some list
    → length list < 18446744073709551613
    → Failed (contents_by Refused contents) refused (file ∷ []) (holding []) (holding run.out.items) (holding []) (holding run.err.items)
    → HasToldLine file (text_by Refused list) run
list_failed contents file list refused run told short (error.Argument text e, unread, cause, same, says, two) = absurd unread
list_failed contents file list refused run told short (error.Line name number e, ((before, after, split, fine), is), cause, same, says, two) =
    let this : name.now ≡ file = one_name file name.now before after split in
    let known : contents_by Refused contents name.now ≡ Some (text_by Refused list) =
    ap (contents_by Refused contents) this ∙ told_text contents file list told in
    let taken : Some run.out.items ≡ Some [] = ap (λ (k : State). k.taken) same in
    let none : run.out.items ≡ [] = cc in (
      none,
      (
        number,
        e,
        is (text_by Refused list) known,
        all_told run.err.items (error_line (error.Line name number e)) says ∙ ap (λ (k : List ℕ). fault_line k (number, e)) this,
      ),
    )
list_failed contents file list refused run told short (error.Input name why, (before, after, split, fine), cause, same, says, two) =
    let this : name.now ≡ file = one_name file name.now before after split in
    let known : contents_by Refused contents name.now ≡ Some (text_by Refused list) =
    ap (contents_by Refused contents) this ∙ told_text contents file list told in
    let many : 18446744073709551613 ≤ length list = rw known at cause.0 in
    absurd (omega (arith, many, short))
list_failed contents file list refused run told short (error.File name why, unread, cause, same, says, two) = absurd unread
list_failed contents file list refused run told short (error.NoMemory, unread, cause, same, says, two) = cc
list_failed contents file list refused run told short (error.Output, unread, cause, same, says, two) = absurd unread

pub merge_told : (contents : List ℕ → Option (List ℕ)) (list : List ℕ) (run : Finished) → contents (codes "list") ≡ Some list
    → length list < 18446744073709551613 → HasRun merge_words contents run → run.status ≡ 2 → HasToldLine (codes "list") (text_by Refused list) run
merge_told contents list run told short (answered, (refused, closed, runs)) two =
    let done = subst (λ (k : ℕ). Runs (Some merge_words) contents refused closed (holding []) (holding run.out.items) (holding []) (holding run.err.items) k) two runs in
    list_failed contents (codes "list") list refused run told short
    (lists_fail merge_words contents refused closed (holding []) (holding run.out.items) (holding []) (holding run.err.items) (reading_of (OfNetworks Refused) [])
    Merge (codes "list" ∷ [])
    (typed_asks merge_words [] (Lists Merge (codes "list" ∷ [])) (refl, refl, refl, refl, refl)) once refl in_words done)

-- of a run that may lack memory for its outputs
pub merges_printed : (words : List (List ℕ)) (contents : List ℕ → Option (List ℕ)) (list : List ℕ) (r : Option Finished) → words ≡ merge_words
    → contents (codes "list") ≡ Some list → IfSome r (HasRun words contents)
    → IfSome r (λ run. run.status ≡ 0 → HasPrinted (IsMadeOf Merge (text_by Refused list ∷ [])) run)
merges_printed words contents list None same told h = tt
merges_printed words contents list (Some run) same told h =
    merge_printed contents list run told (subst (λ (k : List (List ℕ)). HasRun k contents run) same h)

pub merges_told : (words : List (List ℕ)) (contents : List ℕ → Option (List ℕ)) (list : List ℕ) (r : Option Finished) → words ≡ merge_words
    → contents (codes "list") ≡ Some list → length list < 18446744073709551613 → IfSome r (HasRun words contents)
    → IfSome r (λ run. run.status ≡ 2 → HasToldLine (codes "list") (text_by Refused list) run)
merges_told words contents list None same told short h = tt
merges_told words contents list (Some run) same told short h =
    merge_told contents list run told short (subst (λ (k : List (List ℕ)). HasRun k contents run) same h)

-- ---- merge --skip-bad
abbrev pub good_words : List (List ℕ)
good_words = codes "merge" ∷ codes "--skip-bad" ∷ codes "list" ∷ []

printed_more : (out : List ℕ) → out ≢ [] → ¬ (holding out ≡ holding [])
printed_more out some same =
    let taken : Some out ≡ Some [] = ap (λ (k : State). k.taken) same in
    some cc

pub good_printed : (contents : List ℕ → Option (List ℕ)) (list : List ℕ) (run : Finished) → contents (codes "list") ≡ Some list
    → HasRun good_words contents run → run.status ≡ 2 → run.out.items ≢ [] → HasSkipped (codes "list") (text_by Refused list) (IsMadeOf Merge) run
good_printed contents list run told (answered, (refused, closed, runs)) two some =
    let text : Text = text_by Refused list in
    let known : contents_by Refused contents (codes "list") ≡ Some text = told_text contents (codes "list") list told in
    let done = subst (λ (k : ℕ). Runs (Some good_words) contents refused closed (holding []) (holding run.out.items) (holding []) (holding run.err.items) k) two runs in
    let (lines, answer, read, told_lines, good, made, whole, says) =
    lists_skip Merge (codes "list" ∷ []) refused closed (holding []) (holding run.out.items) (holding []) (holding run.err.items) (printed_more run.out.items some)
    good_words contents (reading_of (OfNetworks Refused) (codes "--skip-bad" ∷ []))
    (typed_asks good_words (codes "--skip-bad" ∷ []) (Lists Merge (codes "list" ∷ [])) (refl, refl, refl, refl, refl)) refl done in
    let (only, is, fine) = good (codes "list") text known in (
      subst (AreTellings Networks (codes "list" ∷ []) (text ∷ [])) (sym (all_told run.err.items lines says)) (told_lines (text ∷ []) (known, tt)),
      (only, fine, subst (IsMadeOf Merge (only ∷ [])) (sym whole.taken) (made (only ∷ []) (is, tt))),
    )

pub goods_printed : (words : List (List ℕ)) (contents : List ℕ → Option (List ℕ)) (list : List ℕ) (r : Option Finished) → words ≡ good_words
    → contents (codes "list") ≡ Some list → IfSome r (HasRun words contents)
    → IfSome r (λ run. run.status ≡ 2 → run.out.items ≢ [] → HasSkipped (codes "list") (text_by Refused list) (IsMadeOf Merge) run)
goods_printed words contents list None same told h = tt
goods_printed words contents list (Some run) same told h =
    good_printed contents list run told (subst (λ (k : List (List ℕ)). HasRun k contents run) same h)

-- ---- look
-- addresses of first fields, looked up in rows of a form
module _ (telling : Telling) (form : RowForm) (named : List (List ℕ)) (contents : List ℕ → Option (List ℕ)) (table file : List ℕ) (told : telling_by form.values false ≡ telling)
    (first : contents (codes "table") ≡ Some table) (second : contents (codes "file") ≡ Some file) where
  abbrev look_words : List (List ℕ)
  look_words = codes "look" ∷ (named ++ (codes "table" ∷ codes "file" ∷ []))

  abbrev Printed : List ℕ → Type 0
  Printed answer = IsLook false telling First form (text_by Refused table) file answer Yes

  look_printed : (run : Finished) → HasRun look_words contents run → IsTyped look_words [] (Look (seeking_of [] None form) (codes "table") (codes "file"))
      → run.status ≡ 0 → HasPrinted Printed run
  look_printed run (answered, runs) typed ended =
      let (answer, is, whole, quiet) = answered look_words [] (Look (seeking_of [] None form) (codes "table") (codes "file")) Yes refl typed ended in
      printed_by Printed run answer
      (subst (λ (t : Telling). IsLook false t First form (text_by Refused table) file answer Yes) told
      (is (text_by Refused table) (text_by Refused file) (told_text contents (codes "table") table first) (told_text contents (codes "file") file second))) whole quiet

  pub looks_printed : (words : List (List ℕ)) (r : Option Finished) → words ≡ look_words
      → IsTyped look_words [] (Look (seeking_of [] None form) (codes "table") (codes "file")) → IfSome r (HasRun words contents)
      → IfSome r (λ run. run.status ≡ 0 → HasPrinted Printed run)
  looks_printed words None same typed h = tt
  looks_printed words (Some run) same typed h = look_printed run (subst (λ (k : List (List ℕ)). HasRun k contents run) same h) typed

-- neither needs more of its options
pub look_typed : IsTyped (codes "look" ∷ codes "table" ∷ codes "file" ∷ []) [] (Look (seeking_of [] None (by_words Plain)) (codes "table") (codes "file"))
look_typed = ([], None, refl, tt, λ _. refl, tt, inl (refl, refl, refl, refl, refl))

pub json_look_typed : IsTyped (codes "look" ∷ codes "--format" ∷ codes "json" ∷ codes "table" ∷ codes "file" ∷ []) []
    (Look (seeking_of [] None (by_words Json)) (codes "table") (codes "file"))
json_look_typed = ([], None, refl, tt, λ _. refl, tt, inl (refl, refl, refl, refl, refl))

-- the numbers of two fields
numbers_typed : codes "2,1" ≡ decimal (1 + 1) ++ 44 ∷ decimal (0 + 1)
numbers_typed = sym (ap₂ (λ (a b : List ℕ). a ++ 44 ∷ b) (decimal_digit 2 (omega arith)) (decimal_digit 1 (omega arith)))

abbrev typed_words : List ℕ → List (List ℕ)
typed_words numbers = codes "look" ∷ codes "--table-separator" ∷ codes "," ∷ codes "--table-fields" ∷ numbers ∷ codes "table" ∷ codes "file" ∷ []

pub second_look_typed : IsTyped (typed_words (codes "2,1")) [] (Look (seeking_of [] None by_second) (codes "table") (codes "file"))
second_look_typed = ([], None, refl, tt, λ _. refl, (omega arith, omega arith), inl (ap typed_words numbers_typed, refl, refl, refl, refl))

-- ---- diff
abbrev pub diff_words : List (List ℕ)
diff_words = codes "diff" ∷ codes "--format" ∷ codes "json" ∷ codes "old" ∷ codes "new" ∷ []

pub diff_printed : (words : List (List ℕ)) (contents : List ℕ → Option (List ℕ)) (old new : List ℕ) (r : Option Finished) → words ≡ diff_words
    → contents (codes "old") ≡ Some old → contents (codes "new") ≡ Some new → IfSome r (HasRun words contents)
    → IfSome r (λ run. run.status ≡ 1 → HasPrinted (λ answer. IsDiff Json (text_by Refused old) (text_by Refused new) answer No) run)
diff_printed words contents old new None same first second h = tt
diff_printed words contents old new (Some run) same first second h = λ ended.
    let (answered, runs) = subst (λ (k : List (List ℕ)). HasRun k contents run) same h in
    let (answer, is, whole, quiet) = answered diff_words [] (Diff Json (codes "old") (codes "new")) No refl (refl, refl, refl, refl, refl) ended in
    printed_by (λ answer. IsDiff Json (text_by Refused old) (text_by Refused new) answer No) run answer
    (is (text_by Refused old) (text_by Refused new) (told_text contents (codes "old") old first) (told_text contents (codes "new") new second)) whole quiet

-- ---- acl
abbrev pub acl_words : List (List ℕ)
acl_words = codes "acl" ∷ codes "rules" ∷ []

pub acl_printed : (words : List (List ℕ)) (contents : List ℕ → Option (List ℕ)) (rules : List ℕ) (r : Option Finished) → words ≡ acl_words
    → contents (codes "rules") ≡ Some rules → IfSome r (HasRun words contents)
    → IfSome r (λ run. run.status ≡ 0 → HasPrinted (ArePermittedLines None (text_by Refused rules)) run)
acl_printed words contents rules None same told h = tt
acl_printed words contents rules (Some run) same told h = λ ended.
    let (answered, runs) = subst (λ (k : List (List ℕ)). HasRun k contents run) same h in
    let (answer, (is, clean), whole, quiet) = answered acl_words [] (Acl (Permitted None) (codes "rules")) Yes refl (refl, tt, (refl, refl, refl, refl, refl)) ended in
    printed_by (ArePermittedLines None (text_by Refused rules)) run answer (is (text_by Refused rules) (told_text contents (codes "rules") rules told)) whole quiet

abbrev pub nft_words : List (List ℕ)
nft_words = codes "acl" ∷ codes "--format" ∷ codes "nft" ∷ codes "rules" ∷ []

pub nft_printed : (words : List (List ℕ)) (contents : List ℕ → Option (List ℕ)) (rules : List ℕ) (r : Option Finished) → words ≡ nft_words
    → contents (codes "rules") ≡ Some rules → IfSome r (HasRun words contents)
    → IfSome r (λ run. run.status ≡ 0 → HasPrinted (ArePermittedLines (Some (bare Nft)) (text_by Refused rules)) run)
nft_printed words contents rules None same told h = tt
nft_printed words contents rules (Some run) same told h = λ ended.
    let (answered, runs) = subst (λ (k : List (List ℕ)). HasRun k contents run) same h in
    let (answer, (is, clean), whole, quiet) = answered nft_words [] (Acl (Permitted (Some (bare Nft))) (codes "rules")) Yes refl
    (refl, refl, (refl, refl, refl, refl, refl)) ended in
    printed_by (ArePermittedLines (Some (bare Nft)) (text_by Refused rules)) run answer
    (is (text_by Refused rules) (told_text contents (codes "rules") rules told)) whole quiet

abbrev pub shadowed_words : List (List ℕ)
shadowed_words = codes "acl" ∷ codes "--shadowed" ∷ codes "rules" ∷ []

pub shadows_printed : (words : List (List ℕ)) (contents : List ℕ → Option (List ℕ)) (rules : List ℕ) (r : Option Finished) → words ≡ shadowed_words
    → contents (codes "rules") ≡ Some rules → IfSome r (HasRun words contents)
    → IfSome r (λ run. run.status ≡ 1 → HasPrinted (AreAllShadowLines (codes "rules") (text_by Refused rules)) run)
shadows_printed words contents rules None same told h = tt
shadows_printed words contents rules (Some run) same told h = λ ended.
    let (answered, runs) = subst (λ (k : List (List ℕ)). HasRun k contents run) same h in
    let (answer, (is, clean), whole, quiet) = answered shadowed_words (codes "--shadowed" ∷ []) (Acl Shadowed (codes "rules")) No refl
    (refl, tt, (refl, refl, refl, refl, refl)) ended in
    printed_by (AreAllShadowLines (codes "rules") (text_by Refused rules)) run answer
    (is (text_by Refused rules) (told_text contents (codes "rules") rules told)) whole quiet

abbrev pub compared_words : List (List ℕ)
compared_words = codes "acl" ∷ codes "--diff" ∷ codes "old" ∷ codes "rules" ∷ []

pub changes_printed : (words : List (List ℕ)) (contents : List ℕ → Option (List ℕ)) (old rules : List ℕ) (r : Option Finished) → words ≡ compared_words
    → contents (codes "old") ≡ Some old → contents (codes "rules") ≡ Some rules → IfSome r (HasRun words contents)
    → IfSome r (λ run. run.status ≡ 0 → HasPrinted (ArePermittedTheSame (text_by Refused old) (text_by Refused rules)) run)
changes_printed words contents old rules None same first second h = tt
changes_printed words contents old rules (Some run) same first second h = λ ended.
    let (answered, runs) = subst (λ (k : List (List ℕ)). HasRun k contents run) same h in
    let (answer, (is, clean), whole, quiet) = answered compared_words [] (Acl (Compared Plain (codes "old")) (codes "rules")) Yes refl
    (refl, tt, (refl, refl, refl, refl, refl)) ended in
    printed_by (ArePermittedTheSame (text_by Refused old) (text_by Refused rules)) run answer
    (is (text_by Refused old) (text_by Refused rules) (told_text contents (codes "old") old first) (told_text contents (codes "rules") rules second), clean) whole quiet

-- ---- match
abbrev pub match_words : List (List ℕ)
match_words = codes "match" ∷ codes "--field" ∷ codes "2" ∷ codes "--separator" ∷ codes "," ∷ codes "list" ∷ codes "file" ∷ []

-- the number of the field that is asked for
is_second : IsFieldPlace (codes "2") 1
is_second = (((omega arith, (omega arith, tt)), refl), omega arith)

-- all lines were read
all_picked : (P : List ℕ → Result Bool LineError → Type 0) (text answer : List ℕ) (verdict : Verdict) → IsMatch false P [] written.Lines text None answer verdict
    → (picked : List (List ℕ) × List (List ℕ)) × ArePicked false P (lines_in text) picked × (answer ≡ flat_map line picked.0)
all_picked P text answer verdict (read, left, picked, to, long, inl none, is, by, stops) = (
  picked,
  subst (λ (k : List (List ℕ)). ArePicked false P k picked) (sym (to.lines ∙ (ap (λ (k : List (List ℕ)). read ++ k) none ∙ append-nil read))) to.are,
  is,
)
all_picked P text answer verdict (read, left, picked, to, long, inr (nothing, some), is, by, stops) = cc

pub match_printed : (contents : List ℕ → Option (List ℕ)) (list file : List ℕ) (run : Finished) → contents (codes "list") ≡ Some list
    → contents (codes "file") ≡ Some file → HasRun match_words contents run → run.status ≡ 0
    → HasPrinted (AreLinesBySecond (text_by Refused list) file) run
match_printed contents list file run first second (answered, runs) ended =
    let (answer, is, whole, quiet) = answered match_words [] (Match (picking_of [] (Some second_field)) (codes "list") (codes "file")) Yes refl
    (codes "2", Some second_field, refl, (refl, is_second), inl (refl, refl, refl, refl, refl)) ended in
    let match = is (text_by Refused list) (text_by Refused file) (told_text contents (codes "list") list first) (told_text contents (codes "file") file second) in
    printed_by (AreLinesBySecond (text_by Refused list) file) run answer
    (of_list (text_by Refused list) _ _ (λ IsIn same. all_picked (Picks false second_field IsIn false) file answer Yes same) match) whole quiet

pub matches_printed : (words : List (List ℕ)) (contents : List ℕ → Option (List ℕ)) (list file : List ℕ) (r : Option Finished) → words ≡ match_words
    → contents (codes "list") ≡ Some list → contents (codes "file") ≡ Some file → IfSome r (HasRun words contents)
    → IfSome r (λ run. run.status ≡ 0 → HasPrinted (AreLinesBySecond (text_by Refused list) file) run)
matches_printed words contents list file None same first second h = tt
matches_printed words contents list file (Some run) same first second h =
    match_printed contents list file run first second (subst (λ (k : List (List ℕ)). HasRun k contents run) same h)

-- ---- merge again
-- the law of lists, as a function that does nothing ensures it
abbrev pub MergesAgain : Type 0
MergesAgain = (bits : HostBits) (texts : List Text) (lists : List (List (List IpCidr))) (networks again : Family → List (List Bool))
    (said : List (List IpCidr)) → AllZip ListSays texts lists → AreUnions lists networks
    → ListSays (text_by bits (printed_sets networks)) said → AreUnions (said ∷ []) again → printed_sets again ≡ printed_sets networks

pub merged_twice : MergesAgain → (list first second : List ℕ) → IsMadeOf Merge (text_by Refused list ∷ []) first
    → IsMadeOf Merge (text_by Refused first ∷ []) second → second ≡ first
merged_twice law list first second (lists, says, (networks, are, printed)) ([], never, made) = absurd never
merged_twice law list first second (lists, says, (networks, are, printed)) (said ∷ [], (one, end), (again, those, shown)) =
    shown
    ∙ (law Refused (text_by Refused list ∷ []) lists networks again said says are
    (subst (λ (k : List ℕ). ListSays (text_by Refused k) said) printed one) those
    ∙ sym printed)
merged_twice law list first second (lists, says, (networks, are, printed)) (said ∷ more ∷ others, (one, never), made) = absurd never
