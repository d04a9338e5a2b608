-- Lines in error that are told, one after another.
use Rattle.std.proofs.Common.{◌≡◌, ◌≢◌, refl, sym, ◌∙◌, ap, subst, arith, inl, inr, ℕ, ◌+◌, Bor, Bool, true, false, if◌then◌else◌, ◌&&◌, List, [], ◌∷◌, ◌++◌, length, length-append, take, drop, Option, Some, None, Result, Ok, Err, append_assoc, ◌||◌, Vec, Global}
use Rattle.std.specs.Option.{IfSome}
use Rattle.std.specs.List.{flat_map}
use Rattle.std.specs.Str.{IsTrimAscii}
use Rattle.std.proofs.lemmas.Bool.{true≢false}
use Rattle.std.proofs.lemmas.List.{append-nil, flat_map_more}
use Rattle.std.proofs.Math.Seq.{take-append_seam}
use Rattle.cidr_io.specs.Collecting.{HasSaid}
use Rattle.cidr_io.specs.Shown.{shown}
use Rattle.cidr_io.specs.Writing.{State, Part, Tells}
use Rattle.cidr_io.proofs.Collected.{nothing_said}
use Rattle.cidr_io.proofs.Chains.{part_more, part_none, whole_none, whole_part, whole_whole}
use Rattle.cidr_lists.specs.Entries.{AreEntries}
use Rattle.netset_commands.specs.Compiled.{begins_file}
use Rattle.netset_commands.specs.Keeping.{AddsBy, AllSaid, AreGoodLines, IsAny, IsGoodLine, IsGoodText, IsKept, AreErrorsTold, IsLoadError, IsNothingSaid, KeepsLine, KeepsListLines, KeepsList, SaysMore, kind_in, lined_in, only_lines}
use Rattle.cidr_lists.specs.Faults.{AreErrors, AreTellings, IsFaulty, IsPartTold, IsSound}
use Rattle.cidr_lists.specs.Messages.{fault_line}
use Rattle.cidr_lists.specs.Lists.{IsTooLong, SaysBy, Text, bits_in, lines_of, line_networks, text_in}
use Rattle.cidr_lists.specs.declared.lines.Content.TheVariants.{Blank}
use Rattle.cidr_lists.specs.Forms.{RowSays}
use Rattle.netset_commands.specs.Gathering.{IsNotReadFurther}
use Rattle.netset_commands.specs.LookUps.{unread}
use Rattle.netset_commands.specs.Reading.{IsNextLine, IsStopped}
use Rattle.netset_commands.specs.Stored.{AreFileBytes}
use Rattle.netset_commands.proofs.EntriesRead.{line_behind}
use Rattle.netset_commands.proofs.LinesRead.{LinesRead, last_read, line_read, none_read}
use Rattle.netset_commands.proofs.ReadBy.{bytes_read, some_same, text_same}
use Rattle.netset_commands.proofs.Stored.{stored_more}
use Rattle.netset_commands.proofs.Zips.{zip_behind}
use Rattle.netset_commands.specs.declared.errors.CommandError.{CommandError}
use Rattle.netset_commands.specs.declared.errors.CommandError.TheVariants as error
use Rattle.cidr_lists.specs.declared.errors.LineError.{LineError}
use Rattle.netset_commands.specs.declared.errors.ListReadError.{ListReadError}
use Rattle.netset_commands.specs.declared.errors.ListReadError.TheVariants.{Line, Input, NoMemory}
use Rattle.cidr_lists.specs.declared.forms.ListKind.{ListKind}
use Rattle.cidr_lists.specs.declared.forms.ListKind.TheVariants as kinds
use Rattle.cidr_lists.specs.declared.forms.RowForm.{RowForm}
use Rattle.netset_commands.specs.declared.input.begun.FileContent.TheVariants.{Lines, Stored}
use Rattle.netset_commands.specs.declared.input.keeping.Heard.{Heard}
use Rattle.netset_commands.specs.declared.input.keeping.Said.{Said}
use Rattle.netset_commands.specs.declared.input.keeping.Said.TheVariants.{Networks, Hosts, Rows}
use Rattle.cidr_lists.specs.declared.records.ListForm.{ListForm}
use Rattle.cidr_lists.specs.declared.records.ListForm.TheVariants.{Networks as OfNetworks, Rir}

-- ---- lines that are written one after another, as far as the sink takes them
nothing_by : (s : State) (b : Bool) → s.failed ≡ b → Tells s s []
nothing_by s true e = (Err (record {}), (part_none s [] e, λ _. refl))
nothing_by s false e = (Ok tt, (whole_none s, e))

pub tells_nothing : (s : State) → Tells s s []
tells_nothing s = nothing_by s s.failed refl

pub tells_more : (s t u : State) (xs ys : List ℕ) → Tells s t xs → Tells t u ys → Tells s u (xs ++ ys)
tells_more s t u xs ys (Ok a, (whole, fine)) (Ok b, (more, good)) = (Ok tt, (whole_whole s t u xs ys whole more, good))
tells_more s t u xs ys (Ok a, (whole, fine)) (Err f, (part, kept)) =
    (Err f, (whole_part s t u xs ys whole part, λ failed. absurd (true≢false (sym failed ∙ (sym whole.fine ∙ fine)))))
tells_more s t u xs ys (Err f, (part, kept)) (Ok b, (more, good)) = absurd (true≢false (sym part.failed ∙ (sym more.fine ∙ good)))
tells_more s t u xs ys (Err f, (part, kept)) (Err g, (more, still)) =
    let same : u ≡ t = still part.failed in
    (Err f, (subst (λ (k : State). Part s k (xs ++ ys)) (sym same) (part_more s t xs ys part), λ failed. same ∙ kept failed))

-- ---- the errors of lines
sound_behind : (kind : ListKind) (bits : ListForm) (first : ℕ) (lines : List (List ℕ)) (line : List ℕ) (errors : List (ℕ × LineError))
    → AreErrors kind bits first lines errors → IsSound kind bits line → AreErrors kind bits first (lines ++ line ∷ []) errors
sound_behind kind bits first [] line errors are sound = inl (sound, are)
sound_behind kind bits first (other ∷ lines) line errors (inl (here, are)) sound =
    inl (here, sound_behind kind bits (first + 1) lines line errors are sound)
sound_behind kind bits first (other ∷ lines) line errors (inr (e, rest, bad, are, is)) sound =
    inr (e, rest, bad, sound_behind kind bits (first + 1) lines line rest are sound, is)

faulty_behind : (kind : ListKind) (bits : ListForm) (first n : ℕ) (lines : List (List ℕ)) (line : List ℕ) (errors : List (ℕ × LineError)) (e : LineError)
    → n ≡ first + length lines → AreErrors kind bits first lines errors → IsFaulty kind bits line e
    → AreErrors kind bits first (lines ++ line ∷ []) (errors ++ (n, e) ∷ [])
faulty_behind kind bits first n [] line errors e at are bad =
    let here : n ≡ first = omega (arith, at) in
    inr (e, [], bad, refl, ap (λ (k : List (ℕ × LineError)). k ++ (n, e) ∷ []) are ∙ ap (λ (k : ℕ). (k, e) ∷ []) here)
faulty_behind kind bits first n (other ∷ lines) line errors e at (inl (here, are)) bad =
    inl (here, faulty_behind kind bits (first + 1) n lines line errors e (omega (arith, at)) are bad)
faulty_behind kind bits first n (other ∷ lines) line errors e at (inr (d, rest, was, are, is)) bad = inr (
  d,
  rest ++ (n, e) ∷ [],
  was,
  faulty_behind kind bits (first + 1) n lines line rest e (omega (arith, at)) are bad,
  ap (λ (k : List (ℕ × LineError)). k ++ (n, e) ∷ []) is,
)

-- ---- what a line says
module _ (bits : ListForm) (line : List ℕ) (number : ℕ) where
  pub same_kind : (was now : Said) (r : Result (Unit {0}) ListReadError) → AddsBy bits line number was now r → kind_in now ≡ kind_in was
  same_kind (Networks old) (Networks new) r h = refl
  same_kind (Hosts old) (Hosts new) r h = refl
  same_kind (Rows form old) (Rows same new) r h = ap (λ (k : RowForm). kinds.Rows k) h.0
  same_kind (Networks old) (Hosts new) r h = absurd h
  same_kind (Networks old) (Rows form new) r h = absurd h
  same_kind (Hosts old) (Networks new) r h = absurd h
  same_kind (Hosts old) (Rows form new) r h = absurd h
  same_kind (Rows form old) (Networks new) r h = absurd h
  same_kind (Rows form old) (Hosts new) r h = absurd h

  line_sound : (was now : Said) → AddsBy bits line number was now (Ok tt) → IsSound (kind_in was) bits line
  line_sound (Networks old) (Networks new) (said, says, grows) = (said, says)
  line_sound (Hosts old) (Hosts new) (one, has, is) = ([], number, one, has)
  line_sound (Rows form old) (Rows same new) (is, (said, says, adds)) = (said, says)
  line_sound (Networks old) (Hosts new) h = absurd h
  line_sound (Networks old) (Rows form new) h = absurd h
  line_sound (Hosts old) (Networks new) h = absurd h
  line_sound (Hosts old) (Rows form new) h = absurd h
  line_sound (Rows form old) (Networks new) h = absurd h
  line_sound (Rows form old) (Hosts new) h = absurd h

  pub line_faulty : (was now : Said) (n : ℕ) (e : LineError) → AddsBy bits line number was now (Err (Line n e)) → IsFaulty (kind_in was) bits line e
  line_faulty (Networks old) (Networks new) n e h = h.1
  line_faulty (Hosts old) (Hosts new) n e h = h.1
  line_faulty (Rows form old) (Rows same new) n e h = h.1.1
  line_faulty (Networks old) (Hosts new) n e h = absurd h
  line_faulty (Networks old) (Rows form new) n e h = absurd h
  line_faulty (Hosts old) (Networks new) n e h = absurd h
  line_faulty (Hosts old) (Rows form new) n e h = absurd h
  line_faulty (Rows form old) (Networks new) n e h = absurd h
  line_faulty (Rows form old) (Hosts new) n e h = absurd h

  said_behind : (was now : Said) → AddsBy bits line number was now (Ok tt) → (before : List (List ℕ)) → number ≡ length before + 1 → AllSaid bits before was
      → AllSaid bits (before ++ line ∷ []) now
  said_behind (Networks old) (Networks new) (one, says, grows) before at (said, zip, same) = (
    said ++ one ∷ [],
    zip_behind (SaysBy bits) before said line one zip says,
    λ family. grows family ∙ (ap (λ (k : List (List Bool)). k ++ line_networks family one) (same family) ∙ flat_map_more (line_networks family) [] said one),
  )
  said_behind (Hosts old) (Hosts new) (one, has, is) before at are =
      subst (AreEntries [] 1 (before ++ line ∷ [])) (sym is) (line_behind [] 1 number before line old.items one (omega (arith, at)) are has)
  said_behind (Rows form old) (Rows same new) (is, (one, says, adds)) before at (said, zip, stores) =
      subst (λ (k : RowForm). AllSaid bits (before ++ line ∷ []) (Rows k new)) (sym is)
      (said ++ one ∷ [], zip_behind (RowSays form (bits_in bits)) before said line one zip says, stored_more old new said one stores adds)
  said_behind (Networks old) (Hosts new) h before at are = absurd h
  said_behind (Networks old) (Rows form new) h before at are = absurd h
  said_behind (Hosts old) (Networks new) h before at are = absurd h
  said_behind (Hosts old) (Rows form new) h before at are = absurd h
  said_behind (Rows form old) (Networks new) h before at are = absurd h
  said_behind (Rows form old) (Hosts new) h before at are = absurd h

-- ---- whether there is an error
pub none_of : (a b : Bool) → (a || b) ≡ false → (a ≡ false) × (b ≡ false)
none_of false false h = (refl, refl)
none_of false true h = cc
none_of true b h = cc

any_same : (found : Bool) (xs : List ℕ) → IsAny found xs → IsAny (found || false) xs
any_same true xs h = h
any_same false xs h = h

any_true : (found : Bool) (xs : List ℕ) → xs ≢ [] → IsAny (found || true) xs
any_true true xs h = h
any_true false xs h = h

some_text : (xs file ys : List ℕ) (b : ℕ) → xs ++ (file ++ b ∷ ys) ≢ []
some_text [] [] ys b is = cc
some_text [] (c ∷ file) ys b is = cc
some_text (x ∷ xs) file ys b is = cc

-- ---- what is read of a line
-- a line that was added to a text, with a line feed in front, and taken away again if it is in error
module _ (old mid new line : List ℕ) (len : ℕ) (added : mid ≡ old ++ 10 ∷ line) (at : len ≡ length old + 1) where
  feed_alone : take len mid ≡ old ++ 10 ∷ []
  feed_alone =
      let front : List ℕ = old ++ 10 ∷ [] in
      ap (take len) (added ∙ sym (append_assoc old (10 ∷ []) line))
      ∙ (ap (λ (n : ℕ). take n (front ++ line)) (omega (arith, at, length-append old (10 ∷ []))) ∙ take-append_seam front line)

  good_line : (kind : ListKind) (bits : ListForm) (before : List (List ℕ)) → IsSound kind bits line → new ≡ mid → AreGoodLines kind bits before old
      → AreGoodLines kind bits (before ++ line ∷ []) new
  good_line kind bits before sound whole (goods, zip, all) = (
    goods ++ line ∷ [],
    zip_behind (IsGoodLine kind bits) before goods line line zip (inl (sound, refl)),
    whole ∙ (added ∙ (ap (λ (k : List ℕ). k ++ 10 ∷ line) all ∙ flat_map_more (λ (l : List ℕ). 10 ∷ l) [] goods line)),
  )

  left_empty : (kind : ListKind) (bits : ListForm) (before : List (List ℕ)) (e : LineError) → IsFaulty kind bits line e → new ≡ take len mid
      → AreGoodLines kind bits before old → AreGoodLines kind bits (before ++ line ∷ []) new
  left_empty kind bits before e bad cut (goods, zip, all) = (
    goods ++ [] ∷ [],
    zip_behind (IsGoodLine kind bits) before goods line [] zip (inr (e, bad, refl)),
    cut ∙ (feed_alone ∙ (ap (λ (k : List ℕ). k ++ 10 ∷ []) all ∙ flat_map_more (λ (l : List ℕ). 10 ∷ l) [] goods [])),
  )

-- the same if lines are to be skipped
abbrev pub IsAdded : Bool → List ℕ → List ℕ → ℕ → List ℕ → Type 0
IsAdded skips old line len mid = skips ≡ true → (mid ≡ old ++ 10 ∷ line) × (len ≡ length old + 1)

abbrev pub IsEnded : Bool → ℕ → List ℕ → List ℕ → Type 0
IsEnded bad len mid new = (bad ≡ true → new ≡ take len mid) × (bad ≡ false → new ≡ mid)

-- ---- one line after another
same_says : (old t u : State) (block now rest lines : List ℕ) → u ≡ t → rest ≡ now → SaysMore old block t now lines → SaysMore old block u rest lines
same_says old t u block now rest lines same kept says start text h =
    subst (λ (k : State). HasSaid start k rest (text ++ lines)) (sym same)
    (subst (λ (k : List ℕ). HasSaid start t k (text ++ lines)) (sym kept) (says start text h))

module _ (kind : ListKind) (bits : ListForm) (file : List ℕ) (skips : Bool) (s : State) (b : List ℕ) where
  -- how far the lines of a list were told and kept
  abbrev pub IsKeeping : Option (List ℕ) → Option (List ℕ) → State → List ℕ → Bool → Said → List ℕ → ℕ → Type 0
  IsKeeping contents left t block found said good number = (lines : List ℕ) × SaysMore s b t block lines × IsAny found lines × (kind_in said ≡ kind)
      × IfSome contents (λ text. LinesRead (IsKept kind bits file skips) text left (lines, found, said, good) number)

  pub keeping_started : (contents : Option (List ℕ)) (said : Said) (good : List ℕ) → IsNothingSaid kind said → good ≡ [] → IsKeeping contents contents s b false said good 1
  keeping_started contents said good none empty = (
    [],
    λ start text h. subst (HasSaid start s b) (sym (append-nil text)) h,
    refl,
    none.0,
    none_read (IsKept kind bits file skips) contents ([], false, said, good) ([], refl, refl, λ _. none.1 bits, λ _. ([], tt, empty)),
  )

  -- what a further line adds
  abbrev Adds : List ℕ → ℕ → State → List ℕ → Bool → Said → List ℕ → List ℕ × Bool × Said × List ℕ → Type 0
  Adds line number u rest found now good kept = (more : List ℕ) × SaysMore s b u rest more × IsAny found more × (kind_in now ≡ kind)
      × ((before : List (List ℕ)) → number ≡ length before + 1 → IsKept kind bits file skips before kept → IsKept kind bits file skips (before ++ line ∷ []) (more, found, now, good))

  line_kept : (was now : Said) (t u : State) (block rest : List ℕ) (found bad : Bool) (number : ℕ) (line lines old mid new : List ℕ) (len : ℕ) → IsAdded skips old line len mid
      → IsEnded bad len mid new → SaysMore s b t block lines → IsAny found lines → kind_in was ≡ kind → KeepsLine bits file number line was now t block u rest (Ok bad)
      → Adds line number u rest (found || bad) now new (lines, found, was, old)
  line_kept was now t u block rest found false number line lines old mid new len added ended says any is (adds, same, kept) =
      let sound : IsSound kind bits line = subst (λ (k : ListKind). IsSound k bits line) is (line_sound bits line number was now adds) in (
        lines,
        same_says s t u b block rest lines same kept says,
        any_same found lines any,
        same_kind bits line number was now (Ok tt) adds ∙ is,
        λ before at (errors, are, contents, fine, good). (
          errors,
          sound_behind kind bits 1 before line errors are sound,
          contents,
          λ none. said_behind bits line number was now adds before at (fine (none_of found false none).0),
          λ skip. good_line old mid new line len (added skip).0 (added skip).1 kind bits before sound (ended.1 refl) (good skip),
        ),
      )
  line_kept was now t u block rest found true number line lines old mid new len added ended says any is (e, same, bad, more) =
      let fault : ℕ × LineError = (number, e) in
      let faulty : IsFaulty kind bits line e = subst (λ (k : ListKind). IsFaulty k bits line e) is bad in (
        lines ++ fault_line file fault,
        λ start text h. subst (HasSaid start u rest) (append_assoc text lines (fault_line file fault)) (more start (text ++ lines) (says start text h)),
        any_true found (lines ++ fault_line file fault) (some_text lines (shown file) _ 58),
        same ∙ is,
        λ before at (errors, are, contents, fine, good). (
          errors ++ fault ∷ [],
          faulty_behind kind bits 1 number before line errors e (omega (arith, at)) are faulty,
          ap (λ (k : List ℕ). k ++ fault_line file fault) contents ∙ flat_map_more (fault_line file) [] errors fault,
          λ none. absurd (true≢false (none_of found true none).1),
          λ skip. left_empty old mid new line len (added skip).0 (added skip).1 kind bits before e faulty (ended.0 refl) (good skip),
        ),
      )

  module _ (contents left next : Option (List ℕ)) (t u : State) (block rest : List ℕ) (found bad : Bool) (was now : Said) (number : ℕ) (line given old mid new : List ℕ) (len : ℕ) (more : Bool)
      (h : IsKeeping contents left t block found was old number) (n : IfSome left (λ text. IsNextLine text line more next)) (same : given ≡ line)
      (keeps : KeepsLine bits file number given was now t block u rest (Ok bad)) (is_added : IsAdded skips old given len mid) (is_ended : IsEnded bad len mid new) where
    added : Adds line number u rest (found || bad) now new (h.0, found, was, old)
    added =
        line_kept was now t u block rest found bad number line h.0 old mid new len (subst (λ (k : List ℕ). IsAdded skips old k len mid) same is_added) is_ended h.1 h.2 h.3
        (subst (λ (k : List ℕ). KeepsLine bits file number k was now t block u rest (Ok bad)) same keeps)

    pub keeping_more : more ≡ true → IsKeeping contents next u rest (found || bad) now new (number + 1)
    keeping_more is = (
      added.0,
      added.1,
      added.2,
      added.3,
      line_read (IsKept kind bits file skips) contents left next (h.0, found, was, old) (added.0, found || bad, now, new) number line more is h.4 n added.4,
    )

    pub keeping_done : (good : Vec ℕ Global) → good.items ≡ new → more ≡ false
        → KeepsListLines kind bits file skips contents s b u rest (Ok (record { said = now; text = good; is_bad = found || bad }))
    keeping_done good read is = (
      added.0,
      added.1,
      added.2,
      subst (λ (k : List ℕ). IfSome contents (λ text. IsKept kind bits file skips (lines_of text) (added.0, found || bad, now, k))) (sym read)
          (last_read (IsKept kind bits file skips) contents left next (h.0, found, was, old) (added.0, found || bad, now, new) number line more is h.4 n added.4),
    )

  part_told : (contents left : Option (List ℕ)) (lines : List ℕ) (found : Bool) (said : Said) (good : List ℕ) (number : ℕ)
      → IfSome contents (λ text. LinesRead (IsKept kind bits file skips) text left (lines, found, said, good) number)
      → IfSome contents (λ text. IsPartTold kind file (text_in bits text) lines)
  part_told None left lines found said good number p = tt
  part_told (Some text) left lines found said good number p =
      let (errors, are, is, fine, read) = p.done in
      (p.before, lines_of p.rest, p.lines, errors, are, is)

  pub keeping_stopped : (contents left : Option (List ℕ)) (t u : State) (block rest : List ℕ) (found : Bool) (said : Said) (good : List ℕ) (number : ℕ) (e : ListReadError)
      → IsKeeping contents left t block found said good number → IsStopped e → u ≡ t → rest ≡ block → KeepsListLines kind bits file skips contents s b u rest (Err e)
  keeping_stopped contents left t u block rest found said good number e (lines, says, any, is, p) stopped same kept =
      (lines, same_says s t u b block rest lines same kept says, stopped, part_told contents left lines found said good number p)

-- ---- the list of a file
pub nothing_kept : (takes : Bool) (contents : Option Text) (kind : ListKind) (file : List ℕ) (skips : Bool) (s : State) (e : CommandError) → IsLoadError (file ∷ []) e
    → KeepsList takes contents kind file skips s s (Err e)
nothing_kept takes contents kind file skips s e why = ([], tells_nothing s, why, λ text is. ([], lines_of text.bytes, refl, [], refl, refl))

-- a file that is not read further is not read
pub not_begun : (file : List ℕ) (e : CommandError) → IsNotReadFurther file e → IsLoadError (file ∷ []) e
not_begun file (error.Argument text e) h = absurd h
not_begun file (error.Line name number e) h = absurd h
not_begun file (error.Input name why) h = ([], ap (λ (k : List ℕ). k ∷ []) (sym h))
not_begun file error.NoMemory h = tt
not_begun file error.Output h = absurd h
not_begun file (error.File name e) h = absurd h

abbrev pub EndsSaying : State → List ℕ → State → Type 0
EndsSaying old block new = (start : State) (text : List ℕ) → HasSaid start old block text → Tells start new text

all_told : (s t u : State) (block rest lines : List ℕ) → block ≡ [] → SaysMore s block t rest lines → EndsSaying t rest u → Tells s u lines
all_told s t u block rest lines none says ends = ends s lines (says s [] (nothing_said s block none))

-- a text is a list by its lines
lined_same : (takes : Bool) (contents : Option Text) → ((text : Text) → contents ≡ Some text → takes ≡ true → begins_file text.bytes ≡ false)
    → (text : Text) → lined_in takes contents ≡ Some text → contents ≡ Some text
lined_same false contents lines text is = is
lined_same true None lines text is = cc
lined_same true (Some known) lines text is =
    sym (ap (λ (b : Bool). Some (if b then text_in known.form [] else known)) (lines known refl refl)) ∙ is

-- so that its good lines are read
no_file : (takes stored : Bool) → (takes ≡ true → stored ≡ false) → (takes && stored) ≡ false
no_file false stored h = refl
no_file true stored h = h refl

module _ (takes : Bool) (contents : Option Text) (left : Option (List ℕ)) (kind : ListKind) (bits : ListForm) (skips : Bool) (s t u : State) (block rest : List ℕ)
    (lines_are : (text : Text) → contents ≡ Some text → takes ≡ true → begins_file text.bytes ≡ false)
    (opens : (text : Text) → contents ≡ Some text → left ≡ Some text.bytes) (by : (text : Text) → contents ≡ Some text → text.form ≡ bits)
    (none : block ≡ []) (ends : EndsSaying t rest u) where
  abbrev kept_of : List ℕ → Heard → List ℕ × Bool × Said × List ℕ
  kept_of lines heard = (lines, heard.is_bad, heard.said, heard.text.items)

  kept_by : (file lines : List ℕ) (heard : Heard) → IfSome left (λ bytes. IsKept kind bits file skips (lines_of bytes) (kept_of lines heard))
      → (text : Text) → contents ≡ Some text → IsKept kind text.form file skips (lines_of text.bytes) (kept_of lines heard)
  kept_by file lines heard is text at =
      subst (λ (k : ListForm). IsKept kind k file skips (lines_of text.bytes) (kept_of lines heard)) (sym (by text at))
      (bytes_read (λ bytes. IsKept kind bits file skips (lines_of bytes) (kept_of lines heard)) left text.bytes (opens text at) is)

  pub list_kept : (file : Bor (List ℕ)) (heard : Heard) → KeepsListLines kind bits file.now skips left s block t rest (Ok heard)
      → KeepsList takes contents kind file.now skips s u (Ok (record { name = file; given = Lines heard.said; text = heard.text }, heard.is_bad))
  list_kept file heard (lines, says, any, is) = (
    lines,
    all_told s t u block rest lines none says ends,
    any,
    λ text at.
        let (errors, are, same, fine, good) = kept_by file.now lines heard is text (lined_same takes contents lines_are text at) in
        (errors, are, same),
    λ sound text at. (kept_by file.now lines heard is text at).3 sound,
    λ skip text at.
        let bytes : List ℕ = drop 1 heard.text.items in
        subst (λ (b : Bool). IsGoodText b kind text (text_in text.form bytes)) (sym (no_file takes (begins_file text.bytes) (lines_are text at)))
        (refl, heard.text.items, (kept_by file.now lines heard is text at).4 skip, refl),
    refl,
  )

  load_error : (file : Bor (List ℕ)) (e : ListReadError) → IsStopped e → IsLoadError (file.now ∷ []) (unread file e)
  load_error file (Line number e) h = absurd h
  load_error file Input h = ([], refl)
  load_error file NoMemory h = tt

  pub list_cut : (file : Bor (List ℕ)) (e : ListReadError) → KeepsListLines kind bits file.now skips left s block t rest (Err e)
      → KeepsList takes contents kind file.now skips s u (Err (unread file e))
  list_cut file e (lines, says, stopped, is) = (
    lines,
    all_told s t u block rest lines none says ends,
    load_error file e stopped,
    λ text at.
        let here = lined_same takes contents lines_are text at in
        subst (λ (k : Text). IsPartTold kind file.now k lines) (text_same bits text (by text here))
        (bytes_read (λ bytes. IsPartTold kind file.now (text_in bits bytes) lines) left text.bytes (opens text here) is),
  )

-- ---- the bytes of a file of look-ups, which has no lines
blank_short : ¬ (IsTooLong [])
blank_short long = absurd (omega (arith, long))

blank_field : IsTrimAscii [] []
blank_field = (0, refl, λ i l. absurd (omega (arith, l)), λ l. absurd (omega (arith, l)), λ i l m. absurd (omega (arith, l, m)), λ l. absurd (omega (arith, l)))

blank_sound : (kind : ListKind) (bits : ListForm) → IsSound kind bits []
blank_sound kinds.Networks (OfNetworks bits) = ([], (blank_short, [], Blank, blank_field, refl, refl))
blank_sound kinds.Networks Rir = ([], (blank_short, Blank, inl ([], blank_field, refl), refl))
blank_sound kinds.Hosts bits = ([], 1, None, (blank_short, blank_field))
blank_sound (kinds.Rows form) bits = (None, (blank_short, ([], blank_field, refl)))

blank_told : (kind : ListKind) (file : List ℕ) (bits : ListForm) → AreErrorsTold kind file (text_in bits []) []
blank_told kind file bits = ([], inl (blank_sound kind bits, refl), refl)

file_lined : (contents : Option Text) → ((text : Text) → contents ≡ Some text → begins_file text.bytes ≡ true)
    → (text : Text) → lined_in true contents ≡ Some text → text_in text.form [] ≡ text
file_lined None is text at = cc
file_lined (Some known) is text at =
    let same : only_lines known ≡ text = some_same (only_lines known) text at in
    let none : only_lines known ≡ text_in known.form [] = ap (λ (b : Bool). if b then text_in known.form [] else known) (is known refl) in
    let bare : text_in known.form [] ≡ text = sym none ∙ same in
    ap (λ (b : ListForm). text_in b []) (sym (ap (λ (t : Text). t.form) bare)) ∙ bare

pub file_kept : (contents : Option Text) (kind : ListKind) (file : Bor (List ℕ)) (skips : Bool) (s : State) (bytes text : Vec ℕ Global) → AreFileBytes contents bytes.items
    → KeepsList true contents kind file.now skips s s (Ok (record { name = file; given = Stored bytes; text = text }, false))
file_kept contents kind file skips s bytes lines are = (
  [],
  tells_nothing s,
  refl,
  λ text at. subst (λ (k : Text). AreErrorsTold kind file.now k []) (file_lined contents (λ text is. (are text is).0) text at) (blank_told kind file.now text.form),
  λ _ text is. are text is,
  λ _ text at.
      subst (λ (b : Bool). IsGoodText b kind text (text_in text.form bytes.items)) (sym (are text at).0)
      (ap (text_in text.form) (are text at).1 ∙ text_same text.form text refl),
  refl,
)

-- ---- one list after another
pub tellings_behind : (kind : ListKind) (names : List (List ℕ)) (texts : List Text) (name : List ℕ) (text : Text) (lines : List ℕ) (errors : List (ℕ × LineError))
    → AreTellings kind names texts lines → AreErrors kind text.form 1 (lines_of text.bytes) errors
    → AreTellings kind (names ++ name ∷ []) (texts ++ text ∷ []) (lines ++ flat_map (fault_line name) errors)
tellings_behind kind [] [] name text lines errors none are = (
  errors,
  [],
  are,
  refl,
  ap (λ (k : List ℕ). k ++ flat_map (fault_line name) errors) none ∙ sym (append-nil (flat_map (fault_line name) errors)),
)
tellings_behind kind [] (other ∷ texts) name text lines errors h are = absurd h
tellings_behind kind (first ∷ names) [] name text lines errors h are = absurd h
tellings_behind kind (first ∷ names) (other ∷ texts) name text lines errors (these, rest, here, there, is) are = (
  these,
  rest ++ flat_map (fault_line name) errors,
  here,
  tellings_behind kind names texts name text rest errors there are,
  ap (λ (k : List ℕ). k ++ flat_map (fault_line name) errors) is ∙ append_assoc (flat_map (fault_line first) these) rest (flat_map (fault_line name) errors),
)
