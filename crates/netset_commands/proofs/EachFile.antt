-- Lists that are read one after another.
use Rattle.std.proofs.Common.{◌≡◌, refl, sym, ◌∙◌, ap, subst, arith, Bor, ℕ, ◌+◌, ◌<◌, ◌≤◌, List, Bool, [], ◌∷◌, ◌++◌, length, take, drop, get_or, Option, Some, Result, Ok, Err}
use Rattle.std.specs.List.{AllZip}
use Rattle.std.proofs.lemmas.List.{flat_map_more, take_more, take_all, take-append-drop, at_drop_more, get_or-map}
use Rattle.cidr.specs.declared.cidr.combined.IpCidr.{IpCidr}
use Rattle.cidr.specs.declared.family.Family.{Family}
use Rattle.cidr.specs.declared.family.Family.TheVariants.{Ipv4, Ipv6}
use Rattle.cidr_table.specs.model.Cover.{Covers}
use Rattle.cidr_sets.specs.model.Sets.{IsSetOf}
use Rattle.netset_commands.specs.Keeping.{AllSaid}
use Rattle.cidr_lists.specs.Lists.{Text, lines_of, ListSays, SaysBy, IsBadBy, line_networks, networks_in}
use Rattle.cidr_lists.specs.Reading.{Grows, listed}
use Rattle.netset_commands.specs.LineKinds.{AddsSaid, HasListed, IsUnreadBy, ReadsFileLines}
use Rattle.netset_commands.specs.Reading.{AddsLine}
use Rattle.netset_commands.specs.Commands.{AreTold}
use Rattle.netset_commands.specs.Program.{IsUnread, StopsAt}
use Rattle.cidr_lists.specs.Sets.{networks_of}
use Rattle.netset_commands.specs.Answering.{IsFileError, AddsFile, AreRead, HasAddresses, ReadsFile}
use Rattle.netset_commands.proofs.Arguments.{bytes_of, same_length, within_bytes}
use Rattle.netset_commands.proofs.Zips.{zip_behind}
use Rattle.netset_commands.specs.declared.errors.CommandError.{CommandError}
use Rattle.netset_commands.specs.declared.errors.CommandError.TheVariants as error
use Rattle.netset_commands.specs.declared.errors.ListReadError.{ListReadError}
use Rattle.netset_commands.specs.declared.errors.ListReadError.TheVariants.{Line, Input, NoMemory}
use Rattle.cidr_lists.specs.declared.records.ListForm.{ListForm}
use Rattle.netset_commands.specs.declared.input.keeping.Said.TheVariants.{Networks}
use Rattle.cidr_lists.specs.declared.lists.Lists.{Lists}
use Rattle.cidr_lists.specs.declared.sets.Sets.{Sets}

-- ---- the networks that lines say
pub list_longer : (form : ListForm) (line : List ℕ) (number : ℕ) (old new : Lists) (r : Result (Unit {0}) ListReadError) → AddsLine form line number old new r
    → AddsSaid (HasListed form) (IsBadBy form) line number old new r
list_longer form line number old new (Ok done) (one, says, grows) = λ start before at (said, are, grown). (
  said ++ one ∷ [],
  zip_behind (SaysBy form) before said line one are says,
  λ family. grows family ∙ (ap (λ k. k ++ line_networks family one) (grown family) ∙ flat_map_more (line_networks family) (listed start family) said one),
)
list_longer form line number old new (Err (Line n e)) h = h
list_longer form line number old new (Err Input) h = absurd h
list_longer form line number old new (Err NoMemory) h = tt

-- ---- a list
-- why the list of a file is not read
pub list_unread : (contents : Option Text) (name : List ℕ) (old : Lists) (e : CommandError) → IsUnreadBy (λ form. HasListed form old) IsBadBy contents name e
    → IsFileError contents name e
list_unread contents name old (error.Line file number e) (named, h) = (
  named,
  λ text is.
      let first = h text is in
      record {
        before = first.before;
        line = first.line;
        after = first.after;
        lines = first.lines;
        place = first.place;
        said = first.fine.0;
        fine = first.fine.1;
        fault = first.fault;
      },
)
list_unread contents name old e h = h

pub list_read : (contents : Option Text) (name : List ℕ) (old new : Lists) (r : Result (Unit {0}) CommandError)
    → ReadsFileLines (λ form. HasListed form old) IsBadBy contents name new r → AddsFile contents name old new r
list_read contents name old new (Ok done) h = h
list_read contents name old new (Err e) h = list_unread contents name old e h

-- the list of a file, as it was kept
pub networks_copied : (contents : Option Text) (name : List ℕ) (old new kept : Lists)
    → ((text : Text) → contents ≡ Some text → AllSaid text.form (lines_of text.bytes) (Networks kept)) → Grows old new (listed kept)
    → AddsFile contents name old new (Ok tt)
networks_copied contents name old new kept is grows text at =
    let (said, says, same) = is text at in
    (said, says, λ family. grows family ∙ ap (λ (k : List (List Bool)). listed old family ++ k) (same family))

-- the list of one file as a set
pub file_set : (contents : Option Text) (name : List ℕ) (old new : Lists) (sets : Sets) → old.v4.items ≡ [] → old.v6.items ≡ [] → AddsFile contents name old new (Ok tt)
    → ((family : Family) → IsSetOf 129 (Covers (listed new family)) (networks_of sets family)) → ReadsFile contents name (Ok sets)
file_set contents name old new sets four six added set text is =
    let (said, says, grows) = added text is in
    let none : (family : Family) → listed old family ≡ [] = elim [ Ipv4 ↦ four | Ipv6 ↦ six ] in (
      said,
      says,
      λ family. subst (λ (k : List (List Bool)). IsSetOf 129 (Covers k) (networks_of sets family)) (grows family ∙ ap (λ (k : List (List Bool)). k ++ networks_in family said) (none family)) (set family),
    )

pub none_read : (contents : List ℕ → Option Text) → AreRead contents [] []
none_read contents [] h = ([], tt, tt)
none_read contents (text ∷ texts) h = absurd h

-- the texts of some files and one more
pub last_told : (contents : List ℕ → Option Text) (names : List (List ℕ)) (name : List ℕ) (texts : List Text) → AreTold contents (names ++ name ∷ []) texts
    → (front : List Text) × (text : Text) × (texts ≡ front ++ text ∷ []) × AreTold contents names front × (contents name ≡ Some text)
last_told contents [] name [] h = absurd h
last_told contents [] name (text ∷ []) h = ([], text, refl, tt, h.0)
last_told contents [] name (text ∷ other ∷ texts) h = absurd h.1
last_told contents (first ∷ names) name [] h = absurd h
last_told contents (first ∷ names) name (text ∷ texts) h =
    let (front, last, is, are, at) = last_told contents names name texts h.1 in
    (text ∷ front, last, ap (λ (k : List Text). text ∷ k) is, (h.0, are), at)

pub next_taken : (names : List (List ℕ)) (i : ℕ) (name : List ℕ) → i < length names → get_or names i name ≡ name → take (i + 1) names ≡ take i names ++ name ∷ []
next_taken names i name within at = take_more names i name within ∙ ap (λ (k : List ℕ). take i names ++ k ∷ []) at

-- one more file
file_read : (contents : List ℕ → Option Text) (names : List (List ℕ)) (i : ℕ) (name : List ℕ) (sets : List Sets) (set : Sets) → i < length names → get_or names i name ≡ name
    → AreRead contents (take i names) sets → ReadsFile (contents name) name (Ok set) → AreRead contents (take (i + 1) names) (sets ++ set ∷ [])
file_read contents names i name sets set within at before read =
    let behind : AreRead contents (take i names ++ name ∷ []) (sets ++ set ∷ []) = λ texts h.
    let (front, text, is, are, here) = last_told contents (take i names) name texts h in
    let (said, says, has) = before front are in
    let (one, last, is_set) = read text here in (
      said ++ one ∷ [],
      subst (λ (k : List Text). AllZip ListSays k (said ++ one ∷ [])) (sym is) (zip_behind ListSays front said text one says last),
      zip_behind HasAddresses said sets one set has is_set,
    ) in
    let P : List (List ℕ) → Type 0 = λ k. AreRead contents k (sets ++ set ∷ []) in
    subst P (sym (next_taken names i name within at)) behind

-- a file that is not read
stops_there : (contents : List ℕ → Option Text) (names : List (List ℕ)) (i : ℕ) (name file : List ℕ) (sets : List Sets) → i < length names → get_or names i name ≡ name
    → AreRead contents (take i names) sets → file ≡ name → StopsAt contents names file
stops_there contents names i name file sets within at before same =
    let whole : names ≡ take i names ++ name ∷ drop (i + 1) names =
    sym (take-append-drop i names) ∙ (at_drop_more (λ k. take i names ++ k) names i name within ∙ ap (λ (k : List ℕ). take i names ++ k ∷ drop (i + 1) names) at) in (
      take i names,
      drop (i + 1) names,
      whole ∙ ap (λ (k : List ℕ). take i names ++ k ∷ drop (i + 1) names) (sym same),
      λ texts are. let (said, says, has) = before texts are in (said, says),
    )

not_read : (contents : List ℕ → Option Text) (names : List (List ℕ)) (i : ℕ) (name : List ℕ) (sets : List Sets) (e : CommandError) → i < length names → get_or names i name ≡ name
    → AreRead contents (take i names) sets → IsFileError (contents name) name e → IsUnread contents names e
not_read contents names i name sets (error.Argument text e) within at before h = absurd h
not_read contents names i name sets error.NoMemory within at before h = tt
not_read contents names i name sets error.Output within at before h = absurd h
not_read contents names i name sets (error.File file why) within at before h = absurd h
not_read contents names i name sets (error.Input file why) within at before h = stops_there contents names i name file.now sets within at before h
not_read contents names i name sets (error.Line file number e) within at before h =
    (stops_there contents names i name file.now sets within at before h.0, λ text is. h.1 text (ap contents (sym h.0) ∙ is))

-- the same of files by their names
pub file_read_at : (contents : List ℕ → Option Text) (files : List (Bor (List ℕ))) (i : ℕ) (d : Bor (List ℕ)) (sets : List Sets) (set : Sets) → i < length files
    → AreRead contents (take i (bytes_of files)) sets → ReadsFile (contents (get_or files i d).now) (get_or files i d).now (Ok set)
    → AreRead contents (take (i + 1) (bytes_of files)) (sets ++ set ∷ [])
file_read_at contents files i d sets set within before read =
    file_read contents (bytes_of files) i (get_or files i d).now sets set (within_bytes files i within)
    (get_or-map (λ (w : Bor (List ℕ)). w.now) files i d (get_or files i d).now within) before read

pub file_not_read_at : (contents : List ℕ → Option Text) (files : List (Bor (List ℕ))) (i : ℕ) (d : Bor (List ℕ)) (sets : List Sets) (e : CommandError)
    → i < length files → AreRead contents (take i (bytes_of files)) sets → ReadsFile (contents (get_or files i d).now) (get_or files i d).now (Err e)
    → IsUnread contents (bytes_of files) e
file_not_read_at contents files i d sets e within before h =
    not_read contents (bytes_of files) i (get_or files i d).now sets e (within_bytes files i within)
    (get_or-map (λ (w : Bor (List ℕ)). w.now) files i d (get_or files i d).now within) before h

pub all_read_at : (contents : List ℕ → Option Text) (files : List (Bor (List ℕ))) (i : ℕ) (sets : List Sets) → length files ≤ i
    → AreRead contents (take i (bytes_of files)) sets → AreRead contents (bytes_of files) sets
all_read_at contents files i sets past h =
    let P : List (List ℕ) → Type 0 = λ k. AreRead contents k sets in
    subst P (take_all i (bytes_of files) (omega (arith, same_length files))) h

-- a first file and the others
pub first_read : (contents : List ℕ → Option Text) (name : List ℕ) (names : List (List ℕ)) (set : Sets) (sets : List Sets) → ReadsFile (contents name) name (Ok set)
    → AreRead contents names sets → AreRead contents (name ∷ names) (set ∷ sets)
first_read contents name names set sets first others [] h = absurd h
first_read contents name names set sets first others (text ∷ texts) h =
    let (one, here, is_set) = first text h.0 in
    let (said, says, has) = others texts h.1 in
    (one ∷ said, (here, says), (is_set, has))

pub first_not_read : (contents : List ℕ → Option Text) (name : List ℕ) (names : List (List ℕ)) (e : CommandError) → ReadsFile (contents name) name (Err e)
    → IsUnread contents (name ∷ names) e
first_not_read contents name names e h = not_read contents (name ∷ names) 0 name [] e (omega arith) refl (none_read contents) h

said_first : (contents : List ℕ → Option Text) (name : List ℕ) (names : List (List ℕ)) (set : Sets) → ReadsFile (contents name) name (Ok set)
    → ((texts : List Text) → AreTold contents names texts → (said : List (List (List IpCidr))) × AllZip ListSays texts said)
    → (texts : List Text) → AreTold contents (name ∷ names) texts → (said : List (List (List IpCidr))) × AllZip ListSays texts said
said_first contents name names set first others [] h = absurd h
said_first contents name names set first others (text ∷ texts) h =
    let (one, here, is_set) = first text h.0 in
    let (said, says) = others texts h.1 in
    (one ∷ said, (here, says))

stops_behind : (contents : List ℕ → Option Text) (name : List ℕ) (names : List (List ℕ)) (set : Sets) (file : List ℕ) → ReadsFile (contents name) name (Ok set)
    → StopsAt contents names file → StopsAt contents (name ∷ names) file
stops_behind contents name names set file first (before, after, whole, says) =
    (name ∷ before, after, ap (λ (k : List (List ℕ)). name ∷ k) whole, said_first contents name before set first says)

pub others_not_read : (contents : List ℕ → Option Text) (name : List ℕ) (names : List (List ℕ)) (set : Sets) (e : CommandError) → ReadsFile (contents name) name (Ok set)
    → IsUnread contents names e → IsUnread contents (name ∷ names) e
others_not_read contents name names set (error.Argument text e) first h = absurd h
others_not_read contents name names set error.NoMemory first h = tt
others_not_read contents name names set error.Output first h = absurd h
others_not_read contents name names set (error.File file why) first h = absurd h
others_not_read contents name names set (error.Input file why) first h = stops_behind contents name names set file.now first h
others_not_read contents name names set (error.Line file number e) first h = (stops_behind contents name names set file.now first h.0, h.1)
