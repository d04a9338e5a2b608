-- The entries of lists, read line by line and list by list.
use Rattle.std.proofs.Common.{◌≡◌, refl, sym, ◌∙◌, ap, subst, arith, Bor, Bool, Global, Vec, ℕ, ◌+◌, ◌<◌, ◌≤◌, List, [], ◌∷◌, ◌++◌, length, take, drop, get_or, Option, Some, None, Result, Ok, Err, append_assoc}
use Rattle.std.specs.Prelude.{option_to_list, IsTrue, ◌↔◌}
use Rattle.std.proofs.lemmas.List.{append-nil, take_all, take_more, take-append-drop, at_drop_more, get_or-map}
use Rattle.std.specs.List.{AllZip}
use Rattle.cidr.specs.either.IpText.{IsIpHostText, ip_host_text}
use Rattle.cidr.specs.texts.Printed.{plain_host_text}
use Rattle.cidr.specs.declared.inet.combined.IpInet.{IpInet}
use Rattle.netset_commands.specs.Entries.{AddsEntry, HasAdded, CopiesEntries, IsCopyIn}
use Rattle.netset_commands.specs.LineKinds.{AddsSaid, ReadsFileLines}
use Rattle.cidr_lists.specs.Entries.{AreAllEntries, AreEntries, HasNoHost, IsFirstFaultyLine, LineHas}
use Rattle.cidr_lists.specs.Lists.{Text, lines_of}
use Rattle.netset_commands.specs.Unchecked.{AddsFileEntries, AreToldEntries, IsFileFault, IsUnchecked}
use Rattle.cidr_lists.specs.declared.entries.Entry.{Entry}
use Rattle.netset_commands.specs.declared.errors.CommandError.{CommandError}
use Rattle.netset_commands.specs.declared.errors.CommandError.TheVariants as error
use Rattle.netset_commands.specs.declared.errors.ListReadError.{ListReadError}
use Rattle.netset_commands.specs.declared.errors.ListReadError.TheVariants.{Line, Input, NoMemory}
use Rattle.netset_commands.proofs.Arguments.{bytes_of, same_length, within_bytes}
use Rattle.netset_commands.proofs.EachFile.{last_told, next_taken}
use Rattle.netset_commands.proofs.Zips.{zip_behind}

-- ---- the lines of a file
pub line_behind : (file : List ℕ) (number n : ℕ) (lines : List (List ℕ)) (line : List ℕ) (entries : List Entry) (one : Option Entry) → n ≡ number + length lines
    → AreEntries file number lines entries → LineHas file n line one → AreEntries file number (lines ++ line ∷ []) (entries ++ option_to_list one)
line_behind file number n [] line entries one at are has =
    let here : n ≡ number = omega (arith, at) in (
      one,
      [],
      subst (λ (k : ℕ). LineHas file k line one) here has,
      refl,
      ap (λ (k : List Entry). k ++ option_to_list one) are ∙ sym (append-nil (option_to_list one)),
    )
line_behind file number n (other ∷ lines) line entries one at are has =
    let (first, rest, had, more, is) = are in (
      first,
      rest ++ option_to_list one,
      had,
      line_behind file (number + 1) n lines line rest one (omega (arith, at)) more has,
      ap (λ (k : List Entry). k ++ option_to_list one) is ∙ append_assoc (option_to_list first) rest (option_to_list one),
    )

-- one more line
line_added : (file : List ℕ) (old now new : List Entry) (number : ℕ) (line : List ℕ) → AddsEntry file number line now new (Ok tt)
    → (before : List (List ℕ)) → number ≡ length before + 1 → HasAdded file old before now → HasAdded file old (before ++ line ∷ []) new
line_added file old now new number line (one, has, adds) before at (entries, are, is) = (
  entries ++ option_to_list one,
  line_behind file 1 number before line entries one (omega (arith, at)) are has,
  adds ∙ (ap (λ (k : List Entry). k ++ option_to_list one) is ∙ append_assoc old entries (option_to_list one)),
)

pub entries_longer : (file : List ℕ) (line : List ℕ) (number : ℕ) (old new : Vec Entry Global) (r : Result (Unit {0}) ListReadError)
    → AddsEntry file number line old.items new.items r
    → AddsSaid (λ (old : Vec Entry Global) lines (new : Vec Entry Global). HasAdded file old.items lines new.items) HasNoHost line number old new r
entries_longer file line number old new (Ok done) h = λ start before. line_added file start.items old.items new.items number line h before
entries_longer file line number old new (Err (Line n e)) h = h
entries_longer file line number old new (Err Input) h = tt
entries_longer file line number old new (Err NoMemory) h = tt

-- ---- a list
-- the entries of a file, read by lines
module _ (contents : Option Text) (name : List ℕ) (old : List Entry) (new : Vec Entry Global) where
  abbrev Reads : Result (Unit {0}) CommandError → Type 0
  Reads r = ReadsFileLines (λ _ lines (now : Vec Entry Global). HasAdded name old lines now.items) (λ _. HasNoHost) contents name new r

  entries_unread : (e : CommandError) → Reads (Err e) → IsFileFault contents name e
  entries_unread (error.Line file number e) (named, h) = (
    named,
    λ text is.
        let first = h text is in
        record {
          before = first.before;
          line = first.line;
          after = first.after;
          lines = first.lines;
          place = first.place;
          said = first.fine.0;
          fine = first.fine.1;
          fault = first.fault;
        },
  )
  entries_unread e h = h

  pub entries_read : (r : Result (Unit {0}) CommandError) → Reads r → AddsFileEntries contents name old new.items r
  entries_read (Ok done) h = h
  entries_read (Err e) h = entries_unread e h

-- ---- one list after another
list_behind : (names : List (List ℕ)) (texts : List Text) (name : List ℕ) (text : Text) (entries more : List Entry) → AreAllEntries names texts entries
    → AreEntries name 1 (lines_of text.bytes) more → AreAllEntries (names ++ name ∷ []) (texts ++ text ∷ []) (entries ++ more)
list_behind [] [] name text entries more none are = (
  more,
  [],
  are,
  refl,
  ap (λ (k : List Entry). k ++ more) none ∙ sym (append-nil more),
)
list_behind [] (other ∷ texts) name text entries more none are = absurd none
list_behind (first ∷ names) [] name text entries more none are = absurd none
list_behind (first ∷ names) (other ∷ texts) name text entries more (these, those, here, there, is) are = (
  these,
  those ++ more,
  here,
  list_behind names texts name text those more there are,
  ap (λ (k : List Entry). k ++ more) is ∙ append_assoc these those more,
)

pub no_entries : (contents : List ℕ → Option Text) → AreToldEntries contents [] []
no_entries contents [] h = refl
no_entries contents (text ∷ texts) h = absurd h

pub file_behind : (contents : List ℕ → Option Text) (names : List (List ℕ)) (name : List ℕ) (old new : List Entry) → AreToldEntries contents names old
    → AddsFileEntries (contents name) name old new (Ok tt) → AreToldEntries contents (names ++ name ∷ []) new
file_behind contents names name old new before adds texts h =
    let (front, text, is, are, here) = last_told contents names name texts h in
    let (more, has, added) = adds text here in
    subst (λ (k : List Text). AreAllEntries (names ++ name ∷ []) k new) (sym is)
    (subst (AreAllEntries (names ++ name ∷ []) (front ++ text ∷ [])) (sym added) (list_behind names front name text old more (before front are) has))

-- a file that is not read
pub file_fault : (contents : List ℕ → Option Text) (names before after : List (List ℕ)) (name : List ℕ) (old : List Entry) (e : CommandError)
    → names ≡ before ++ name ∷ after → AreToldEntries contents before old → IsFileFault (contents name) name e → IsUnchecked contents names e
file_fault contents names before after name old (error.Argument text e) whole fine h = absurd h
file_fault contents names before after name old error.NoMemory whole fine h = tt
file_fault contents names before after name old error.Output whole fine h = absurd h
file_fault contents names before after name old (error.File file why) whole fine h = absurd h
file_fault contents names before after name old (error.Input file why) whole fine h =
    (before, after, whole ∙ ap (λ (k : List ℕ). before ++ k ∷ after) (sym h), λ texts are. (old, fine texts are))
file_fault contents names before after name old (error.Line file number e) whole fine h = (
  (before, after, whole ∙ ap (λ (k : List ℕ). before ++ k ∷ after) (sym h.0), λ texts are. (old, fine texts are)),
  λ text is. subst (λ (k : List ℕ). IsFirstFaultyLine k text.bytes number e) (sym h.0) (h.1 text (ap contents (sym h.0) ∙ is)),
)

-- the same of the files behind a first one
module _ (contents : List ℕ → Option Text) (first : List ℕ) (files : List (Bor (List ℕ))) (i : ℕ) (d : Bor (List ℕ)) (old : List Entry)
    (within : i < length files) (before : AreToldEntries contents (first ∷ take i (bytes_of files)) old) where
  abbrev name_of : List ℕ
  name_of = (get_or files i d).now

  named : get_or (bytes_of files) i name_of ≡ name_of
  named = get_or-map (λ (w : Bor (List ℕ)). w.now) files i d name_of within

  pub other_added : (new : List Entry) → AddsFileEntries (contents (get_or files i d).now) (get_or files i d).now old new (Ok tt)
      → AreToldEntries contents (first ∷ take (i + 1) (bytes_of files)) new
  other_added new adds =
      subst (λ (k : List (List ℕ)). AreToldEntries contents (first ∷ k) new) (sym (next_taken (bytes_of files) i name_of (within_bytes files i within) named))
      (file_behind contents (first ∷ take i (bytes_of files)) name_of old new before adds)

  pub other_failed : (new : List Entry) (e : CommandError) → AddsFileEntries (contents (get_or files i d).now) (get_or files i d).now old new (Err e)
      → IsUnchecked contents (first ∷ bytes_of files) e
  other_failed new e h =
      let names = bytes_of files in
      let whole : names ≡ take i names ++ name_of ∷ drop (i + 1) names =
      sym (take-append-drop i names) ∙ (at_drop_more (λ k. take i names ++ k) names i name_of (within_bytes files i within)
      ∙ ap (λ (k : List ℕ). take i names ++ k ∷ drop (i + 1) names) named) in
      file_fault contents (first ∷ names) (first ∷ take i names) (drop (i + 1) names) name_of old e (ap (λ (k : List (List ℕ)). first ∷ k) whole) before h

pub all_files_at : (contents : List ℕ → Option Text) (first : List ℕ) (files : List (Bor (List ℕ))) (i : ℕ) (entries : List Entry) → length files ≤ i
    → AreToldEntries contents (first ∷ take i (bytes_of files)) entries → AreToldEntries contents (first ∷ bytes_of files) entries
all_files_at contents first files i entries past h =
    subst (λ (k : List (List ℕ)). AreToldEntries contents (first ∷ k) entries) (take_all i (bytes_of files) (omega (arith, same_length files))) h

-- ---- entries that were kept in a file of no name
line_in : (file : List ℕ) (number : ℕ) (line : List ℕ) (entry copy : Entry) → IsCopyIn file entry copy → LineHas [] number line (Some entry)
    → LineHas file number line (Some copy)
line_in file number line entry copy (in_file, same_number, same_host, same_form) (short, (no_name, at, field, is_field, is_host, canonical)) = (
  short,
  (
    in_file,
    same_number ∙ at,
    field,
    is_field,
    subst (IsIpHostText field) (sym same_host) is_host,
    subst (λ (h : IpInet). IsTrue copy.is_canonical ↔ (field ≡ ip_host_text plain_host_text h)) (sym same_host)
        (subst (λ (b : Bool). IsTrue b ↔ (field ≡ ip_host_text plain_host_text entry.host)) (sym same_form) canonical),
  ),
)

-- one line and those behind it
entries_by : (file : List ℕ) (number : ℕ) (line : List ℕ) (lines : List (List ℕ)) (one : Option Entry) (rest copies : List Entry) → LineHas [] number line one
    → ((others : List Entry) → AllZip (IsCopyIn file) rest others → AreEntries file (number + 1) lines others)
    → AllZip (IsCopyIn file) (option_to_list one ++ rest) copies → AreEntries file number (line ∷ lines) copies
entries_by file number line lines None rest copies has more zip = (None, copies, has, more copies zip, refl)
entries_by file number line lines (Some entry) rest [] has more zip = absurd zip
entries_by file number line lines (Some entry) rest (copy ∷ copies) has more zip =
    (Some copy, copies, line_in file number line entry copy zip.0 has, more copies zip.1, refl)

none_zipped : (file : List ℕ) (copies : List Entry) → AllZip (IsCopyIn file) [] copies → copies ≡ []
none_zipped file [] zip = refl
none_zipped file (copy ∷ copies) zip = absurd zip

entries_in : (file : List ℕ) (number : ℕ) (lines : List (List ℕ)) (entries copies : List Entry) → AreEntries [] number lines entries
    → AllZip (IsCopyIn file) entries copies → AreEntries file number lines copies
entries_in file number [] entries copies are zip = none_zipped file copies (subst (λ (k : List Entry). AllZip (IsCopyIn file) k copies) are zip)
entries_in file number (line ∷ lines) entries copies (one, rest, has, more, is) zip =
    entries_by file number line lines one rest copies has (λ others h. entries_in file (number + 1) lines rest others more h)
    (subst (λ (k : List Entry). AllZip (IsCopyIn file) k copies) is zip)

pub entries_copied : (contents : Option Text) (file : List ℕ) (old new kept : List Entry)
    → ((text : Text) → contents ≡ Some text → AreEntries [] 1 (lines_of text.bytes) kept) → CopiesEntries file kept old new
    → AddsFileEntries contents file old new (Ok tt)
entries_copied contents file old new kept is (copies, zip, added) text at = (copies, entries_in file 1 (lines_of text.bytes) kept copies (is text at) zip, added)

pub none_copied : (file : List ℕ) (old : List Entry) → CopiesEntries file [] old old
none_copied file old = ([], tt, sym (append-nil old))

pub one_copied : (file : List ℕ) (old now new kept : List Entry) (i : ℕ) (item copy : Entry) → i < length kept → CopiesEntries file (take i kept) old now
    → item ≡ get_or kept i item → IsCopyIn file item copy → new ≡ now ++ copy ∷ [] → CopiesEntries file (take (i + 1) kept) old new
one_copied file old now new kept i item copy within (copies, zip, added) here is pushed = (
  copies ++ copy ∷ [],
  subst (λ (k : List Entry). AllZip (IsCopyIn file) k (copies ++ copy ∷ [])) (sym (take_more kept i item within))
      (zip_behind (IsCopyIn file) (take i kept) copies (get_or kept i item) copy zip (subst (λ (k : Entry). IsCopyIn file k copy) here is)),
  pushed ∙ (ap (λ (k : List Entry). k ++ copy ∷ []) added ∙ append_assoc old copies (copy ∷ [])),
)

pub all_copied : (file : List ℕ) (old new kept : List Entry) (i : ℕ) → length kept ≤ i → CopiesEntries file (take i kept) old new
    → CopiesEntries file kept old new
all_copied file old new kept i past h = subst (λ (k : List Entry). CopiesEntries file k old new) (take_all i kept past) h
