-- What is written of the findings in lists.
use Rattle.std.proofs.Common.{◌≡◌, refl, sym, ◌∙◌, ap, inr, subst, arith, false, true, ℕ, ◌+◌, ◌-◌, ◌*◌, ◌<◌, ◌≤◌, List, [], ◌∷◌, ◌++◌, codes, length, map, Option, Some, None, Result, Ok, Err, slice_get, append_assoc}
use Rattle.std.specs.List.{flat_map}
use Rattle.std.proofs.lemmas.List.{flat_map_more, length_push}
use Rattle.std.proofs.lemmas.List.Concat.{flat_map-append}
use Rattle.std.proofs.lemmas.Option.{slice_get_within}
use Rattle.cidr_io.specs.Writing.{Part, State, Writes}
use Rattle.cidr_io.specs.declared.sink.OutputFailed.{OutputFailed}
use Rattle.cidr_io.specs.Collecting.{Collects, Holds}
use Rattle.cidr_io.proofs.Chains.{answered, part_more, part_none}
use Rattle.cidr_io.proofs.Collected.{held_lost, held_then}
use Rattle.netset_commands.specs.Commands.{Check, read_files}
use Rattle.netset_commands.specs.Findings.{AnswersNotes, AreLost, AreNoted, AreNotesBelow, IsClean, NotesAll, NotesOn}
use Rattle.cidr_lists.specs.Findings.{AreNotes, IsOnlyNote, entry_network, note_line}
use Rattle.cidr_lists.specs.Lists.{Text}
use Rattle.cidr_lists.specs.Nearness.{AreNear}
use Rattle.netset_commands.specs.Program.{AnswersRequest}
use Rattle.netset_commands.specs.Unchecked.{AreToldEntries}
use Rattle.netset_commands.specs.declared.output.answers.Verdict.{Verdict}
use Rattle.netset_commands.specs.declared.output.answers.Verdict.TheVariants.{Yes, No}
use Rattle.cidr_lists.specs.declared.entries.Entry.{Entry}
use Rattle.netset_commands.specs.declared.errors.CommandError.TheVariants as error
use Rattle.cidr_lists.specs.declared.findings.Note.{Note}
use Rattle.cidr_lists.specs.declared.near.Near.{Near}
use Rattle.netset_commands.proofs.Blocks.{last_block, nothing_held}
use Rattle.netset_commands.proofs.Completed.{completed}
use Rattle.netset_commands.proofs.LineFindings.{all_noted, no_notes, none_noted, one_noted}

-- ---- one finding after another
-- a beginning of the findings was written
pub notes_lost : (entries : List Entry) (bound : ℕ) (start now : State) (block : List ℕ) (verdict : Verdict) (r : Result (Unit {0}) OutputFailed) (y : OutputFailed)
    → r ≡ Err y → AreLost entries start now → NotesOn entries bound start now block verdict r
notes_lost entries bound start now block verdict r y is h = subst (NotesOn entries bound start now block verdict) (sym is) h

pub none_noted_yet : (entries : List Entry) (s : State) (block : List ℕ) → block ≡ [] → AreNoted entries 0 s s block Yes
none_noted_yet entries s block none = record {
  notes = [];
  below = no_notes entries 0 [] refl refl;
  collected = subst (λ (k : List ℕ). Holds s s k []) (sym none) (nothing_held s);
  clean = refl;
}

module _ (entries : List Entry) (near : List Near) (are : AreNear (map entry_network entries) near) where
  rest_of : (bound : ℕ) (notes : List Note) → bound ≤ length entries * 5 → AreNotesBelow entries bound notes → (more : List Note) × AreNotes entries (notes ++ more)
  rest_of bound notes fits h =
      let left : bound + (length entries * 5 - bound) ≡ length entries * 5 = omega (arith, fits) in
      completed entries near are (length entries * 5 - bound) bound notes left h

  -- there are findings of all lines, or none
  pub some_notes : (notes : List Note) × AreNotes entries notes
  some_notes =
      let (more, all) = rest_of 0 [] (omega arith) (no_notes entries 0 [] refl refl) in
      (more, all)

  module _ (index : ℕ) (entry : Entry) (here : slice_get entries index ≡ Some entry) (place : ℕ) (low : place < 5) (bound : ℕ)
      (at : bound ≡ index * 5 + place) (start s t : State) (block next : List ℕ) (verdict : Verdict) (messages : AreNoted entries bound start s block verdict) where
    so_far : AreNotesBelow entries (index * 5 + place) messages.notes
    so_far = subst (λ (n : ℕ). AreNotesBelow entries n messages.notes) at messages.below

    pub nothing_told : IsOnlyNote entries index entry place None → AreNoted entries (bound + 1) start s block verdict
    nothing_told only = record {
      notes = messages.notes;
      below = subst (λ (n : ℕ). AreNotesBelow entries (n + 1) messages.notes) (sym at) (none_noted entries index entry here place low messages.notes only so_far);
      collected = messages.collected;
      clean = messages.clean;
    }

    with_it : (note : Note) → IsOnlyNote entries index entry place (Some note) → AreNotesBelow entries (bound + 1) (messages.notes ++ note ∷ [])
    with_it note only =
        subst (λ (n : ℕ). AreNotesBelow entries (n + 1) (messages.notes ++ note ∷ [])) (sym at)
        (one_noted entries index entry here place low note messages.notes only so_far)

    pub note_told : (note : Note) (r : Result (Unit {0}) OutputFailed) → IsOnlyNote entries index entry place (Some note)
        → Collects s t block next (note_line note) r → NotesOn entries (bound + 1) start t next No r
    note_told note (Ok u) only collected = record {
      notes = messages.notes ++ note ∷ [];
      below = with_it note only;
      collected = subst (Holds start t next) (flat_map_more note_line [] messages.notes note)
          (held_then start s t block next (flat_map note_line messages.notes) (note_line note) messages.collected collected);
      clean = λ e. omega (arith, ap length e, length_push messages.notes note);
    }
    note_told note (Err e) only part =
        let fits : bound + 1 ≤ length entries * 5 = omega (arith, at, low, slice_get_within entries index entry here) in
        let (more, all) = rest_of (bound + 1) (messages.notes ++ note ∷ []) fits (with_it note only) in
        let whole : (flat_map note_line messages.notes ++ note_line note) ++ flat_map note_line more ≡ flat_map note_line ((messages.notes ++ note ∷ []) ++ more) =
        ap (λ (k : List ℕ). k ++ flat_map note_line more) (flat_map_more note_line [] messages.notes note)
        ∙ sym (flat_map-append note_line (messages.notes ++ note ∷ []) more) in (
          (messages.notes ++ note ∷ []) ++ more,
          all,
          subst (Part start t) whole (part_more start t (flat_map note_line messages.notes ++ note_line note) (flat_map note_line more)
              (held_lost start s t block (flat_map note_line messages.notes) (note_line note) messages.collected part)),
        )

-- the last block
pub all_told : (entries : List Entry) (i : ℕ) (start s t : State) (block : List ℕ) (verdict : Verdict) → length entries ≤ i
    → AreNoted entries (i * 5) start s block verdict → Writes s t block (Ok tt) → NotesAll entries start t (Ok verdict)
all_told entries i start s t block verdict past messages wrote = (
  messages.notes,
  all_noted entries (i * 5) i messages.notes past refl messages.below,
  messages.clean,
  last_block start s t block (flat_map note_line messages.notes) (Ok tt) messages.collected wrote,
)

pub last_lost : (entries : List Entry) (i : ℕ) (start s t : State) (block : List ℕ) (verdict : Verdict) (e : OutputFailed) → length entries ≤ i
    → AreNoted entries (i * 5) start s block verdict → Part s t block → AreLost entries start t
last_lost entries i start s t block verdict e past messages part = (
  messages.notes,
  all_noted entries (i * 5) i messages.notes past refl messages.below,
  last_block start s t block (flat_map note_line messages.notes) (Err e) messages.collected part,
)

pub all_lost : (entries : List Entry) (start now : State) (r : Result Verdict OutputFailed) (y : OutputFailed) → r ≡ Err y → AreLost entries start now
    → NotesAll entries start now r
all_lost entries start now r y is h = subst (NotesAll entries start now) (sym is) h

-- ---- the answer
pub notes_answered : (entries : List Entry) (s t : State) (r : Result Verdict OutputFailed) → s.failed ≡ false → NotesAll entries s t r → AnswersNotes entries s t r
notes_answered entries s t (Ok verdict) fine (notes, all, clean, whole) =
    (notes, all, clean, answered s t (flat_map note_line notes) (Ok tt) fine whole)
notes_answered entries s t (Err e) fine (notes, all, part) = (notes, all, answered s t (flat_map note_line notes) (Err e) fine part)

pub nothing_answered : (entries : List Entry) (near : List Near) → AreNear (map entry_network entries) near → (s : State) (e : OutputFailed) → s.failed ≡ true
    → AnswersNotes entries s s (Err e)
nothing_answered entries near are s e failed =
    let (notes, all) = some_notes entries near are in
    (notes, all, (part_none s (flat_map note_line notes) failed, λ _. refl))

clean_of : (notes : List Note) → (verdict : Verdict) × IsClean notes verdict
clean_of [] = (Yes, refl)
clean_of (note ∷ notes) = (No, λ e. omega (arith, ap length e))

pub check_answered : (messages : List ℕ → Option Text) (files : List (List ℕ)) (entries : List Entry) (s t : State) (verdict : Verdict)
    → AreToldEntries messages (read_files files) entries → AnswersNotes entries s t (Ok verdict) → AnswersRequest messages (Check files) s t (Ok verdict)
check_answered messages files entries s t verdict are (notes, noted, clean, written) =
    inr (flat_map note_line notes, verdict, Ok tt, λ texts h. (entries, are texts h, notes, noted, refl, clean), written, refl)

pub check_lost : (messages : List ℕ → Option Text) (files : List (List ℕ)) (entries : List Entry) (s t : State) (e : OutputFailed)
    → AreToldEntries messages (read_files files) entries → AnswersNotes entries s t (Err e) → AnswersRequest messages (Check files) s t (Err error.Output)
check_lost messages files entries s t e are (notes, noted, written) =
    let (verdict, clean) = clean_of notes in
    inr (flat_map note_line notes, verdict, Err e, λ texts h. (entries, are texts h, notes, noted, refl, clean), written, refl)

-- ---- a line
regroup : (a b c d : List ℕ) → a ++ (b ++ (c ++ d)) ≡ (a ++ (b ++ c)) ++ d
regroup a b c d = simp append_assoc

-- the parts of a line are its text
pub note_collected : (s t : State) (block next : List ℕ) (r : Result (Unit {0}) OutputFailed) (file number rest : List ℕ)
    → Collects s t block next (file ++ (codes ":" ++ (number ++ rest))) r → Collects s t block next ((file ++ (codes ":" ++ number)) ++ rest) r
note_collected s t block next r file number rest h =
    subst (λ (k : List ℕ). Collects s t block next k r) (regroup file (codes ":") number rest) h

-- the same where a place comes last
pub place_collected : (s t : State) (block next : List ℕ) (r : Result (Unit {0}) OutputFailed) (file number front other line rest : List ℕ)
    → Collects s t block next (file ++ (codes ":" ++ (number ++ (front ++ (other ++ (codes ":" ++ (line ++ rest))))))) r
    → Collects s t block next ((file ++ (codes ":" ++ number)) ++ (front ++ ((other ++ (codes ":" ++ line)) ++ rest))) r
place_collected s t block next r file number front other line rest h =
    note_collected s t block next r file number (front ++ ((other ++ (codes ":" ++ line)) ++ rest))
    (subst (λ (k : List ℕ). Collects s t block next (file ++ (codes ":" ++ (number ++ (front ++ k)))) r) (regroup other (codes ":") line rest) h)
