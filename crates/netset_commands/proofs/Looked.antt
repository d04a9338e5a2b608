-- Addresses that are looked up, one line after the other.
use Rattle.std.proofs.Common.{◌≡◌, ◌≢◌, ◌⊎◌, refl, sym, ◌∙◌, ap, subst, inl, inr, ℕ, ◌+◌, Bool, true, false, List, [], ◌∷◌, ◌++◌, ◌<◌, ◌≤◌, length, take, drop, get_or, arith, map, is_some, option_map, Bor, Option, Some, None, Result, Ok, Err, ◌||◌}
use Rattle.std.specs.Option.{IfSome}
use Rattle.std.specs.List.{AllZip, flat_map, list_any}
use Rattle.std.proofs.lemmas.Bool.{true≢false}
use Rattle.std.proofs.lemmas.Grind.{flat_map-append}
use Rattle.std.proofs.lemmas.List.Elements.{All-cons, All-nil}
use Rattle.std.proofs.lemmas.List.{append-nil, flat_map_more, length-take, map-append, take-append-drop, take_more}
use Rattle.std.proofs.lemmas.List.Folds.{list_any-append}
use Rattle.cidr.specs.either.IpAddress.{address_family, plain_bits}
use Rattle.cidr.specs.texts.PrintedAddress.{ip_text}
use Rattle.cidr.specs.declared.addr.ip.IpAddr.{IpAddr}
use Rattle.cidr.specs.declared.family.Family.{Family}
use Rattle.cidr_io.specs.Writing.{State, Part, Writes, Answered}
use Rattle.cidr_io.specs.declared.sink.OutputFailed.{OutputFailed}
use Rattle.cidr_io.proofs.Chains.{part_none, answered, then_writes}
use Rattle.cidr_table.specs.model.Prefixes.{IsLookedUp}
use Rattle.cidr_io.specs.Collecting.{Collects}
use Rattle.netset_commands.specs.Commands.{Look}
use Rattle.cidr_lists.specs.Lists.{Text, lines_of}
use Rattle.cidr_lists.specs.LookUps.{IsBadAsked, LineLooks, LinesTell, LookUp, found_line, is_found, lines_by, look_line, printed_row}
use Rattle.cidr_lists.specs.Lines.{IsBadBehind, lines_in}
use Rattle.cidr_lists.specs.declared.fields.Asked.{Asked}
use Rattle.cidr_lists.specs.declared.objects.Telling.{Telling}
use Rattle.cidr_lists.specs.declared.objects.Telling.TheVariants.{Alone, Kept, Objects}
use Rattle.netset_commands.specs.Gathering.{IsNotReadFurther}
use Rattle.netset_commands.specs.KeptLines.{IsRowAmong, IsRowOf, TellsFile, TellsLeft, TellsText}
use Rattle.netset_commands.specs.Look.{HeadedTell, verdict_of}
use Rattle.netset_commands.specs.declared.commands.picking.Seeking.{Seeking}
use Rattle.netset_commands.specs.LookUps.{AreFirstSaid, AllFound, AskLooks, AsksLines, EndsReading, IsFoundOf, LooksAll, LooksEach, LooksLines, LooksOne, LooksUp, PushesFound, answer_of, answer_row, unread}
use Rattle.cidr_lists.specs.Tables.{resolved, value_at}
use Rattle.netset_commands.specs.Compiled.{SaysTable}
use Rattle.netset_commands.specs.Program.{AnswersRequest, IsInputError}
use Rattle.netset_commands.specs.Stored.{HasUnfitRow, IsNoTable}
use Rattle.netset_commands.specs.Reading.{IsStopped}
use Rattle.netset_commands.specs.Streaming.{IsCut, IsCutBehind, IsOfFile, IsWritten}
use Rattle.netset_commands.specs.declared.errors.CommandError.{CommandError}
use Rattle.netset_commands.specs.declared.errors.CommandError.TheVariants as error
use Rattle.netset_commands.specs.declared.output.answers.Verdict.{Verdict}
use Rattle.netset_commands.specs.declared.errors.Reason.TheVariants.{Unknown}
use Rattle.netset_commands.specs.declared.errors.ListReadError.{ListReadError}
use Rattle.netset_commands.specs.declared.input.table.Answer.{Answer}
use Rattle.netset_commands.specs.declared.errors.ListReadError.TheVariants.{Line, Input, NoMemory}
use Rattle.netset_commands.specs.declared.commands.look.LookError.{LookError}
use Rattle.netset_commands.specs.declared.commands.look.LookError.TheVariants.{Reading, Output}
use Rattle.cidr_lists.specs.declared.rows.Span.{Span}
use Rattle.cidr_io.proofs.Collected.{collected_more, none_collected}
use Rattle.netset_commands.proofs.ReadBy.{bytes_read}
use Rattle.cidr_lists.proofs.Resolved.{looked_up_mapped}
use Rattle.netset_commands.proofs.Asked.{first_asked, group_all, group_ended, group_first, group_passed}
use Rattle.netset_commands.proofs.Zips.{zip_behind, zip_length}
use Rattle.netset_commands.proofs.TextProgress.{Passed, none_passed, first_passed, all_first, cut_before, cut_behind}

abbrev pub failing : LookError → Result Bool LookError
failing e = Err e

abbrev unwritten : OutputFailed → Result Bool OutputFailed
unwritten e = Err e

-- ---- one address
pub same_some : {X Y : Type 0} (f : X → Y) (o : Option X) → is_some (option_map f o) ≡ is_some o
same_some f None = refl
same_some f (Some x) = refl

pub looks_up : (table : Family → List (List Bool × List ℕ)) (address : IpAddr) (row : Option (List Bool × List ℕ)) (printed : Option (List ℕ × List ℕ))
    (s t : State) (block rest : List ℕ) (r : Result Bool OutputFailed)
    → IsLookedUp (λ (p : List Bool). p) (plain_bits address) (table (address_family address)) row
    → printed ≡ option_map (printed_row (address_family address)) row → PushesFound (ip_text address) printed s t block rest r
    → LooksUp table address s t block rest r
looks_up table address row printed s t block rest (Ok found) looked is pushed = (
  row,
  looked,
  subst (λ (k : Option (List ℕ × List ℕ)). Collects s t block rest (found_line (ip_text address) k) (Ok tt)) is pushed.0,
  pushed.1 ∙ (ap (λ (k : Option (List ℕ × List ℕ)). is_some k) is ∙ same_some (printed_row (address_family address)) row),
)
looks_up table address row printed s t block rest (Err e) looked is pushed = (
  row,
  looked,
  subst (λ (k : Option (List ℕ × List ℕ)). Part s t (block ++ found_line (ip_text address) k)) is pushed,
)

-- a row is its answer
same_row : (values : List ℕ) (address : IpAddr) (rows : List (List Bool × Span)) (found : Option (List Bool × Span))
    → IsLookedUp (λ (p : List Bool). p) (plain_bits address) rows found
    → option_map (resolved values) found ≡ option_map (answer_row values address) (option_map (λ (row : List Bool × Span). answer_of (length row.0) row.1) found)
same_row values address rows None h = refl
same_row values address rows (Some (p, span)) h = ap (λ (k : List Bool). Some (k, value_at values span)) (sym h.begins)

pub answer_found : (values : List ℕ) (all : List (List Bool × List ℕ)) (rows : List (List Bool × Span)) (address : IpAddr) (asked : List Bool) (found : Option (List Bool × Span))
    (answer : Option Answer) → asked ≡ plain_bits address → all ≡ map (resolved values) rows → IsLookedUp (λ (p : List Bool). p) asked rows found
    → answer ≡ option_map (λ (row : List Bool × Span). answer_of (length row.0) row.1) found
    → IsLookedUp (λ (p : List Bool). p) (plain_bits address) all (option_map (answer_row values address) answer)
answer_found values all rows address asked found answer bits are looked is =
    let here : IsLookedUp (λ (p : List Bool). p) (plain_bits address) rows found = subst (λ (k : List Bool). IsLookedUp (λ (p : List Bool). p) k rows found) bits looked in
    rw (are, is) (subst (IsLookedUp (λ (p : List Bool). p) (plain_bits address) (map (resolved values) rows)) (same_row values address rows found here)
    (looked_up_mapped (value_at values) (λ (p : List Bool). p) (plain_bits address) rows found here))

-- the row of an address, by its family and its bits
pub row_known : (table : Family → List (List Bool × List ℕ)) (address : IpAddr) (family : Family) (asked : List Bool) (row : Option (ℕ × List ℕ))
    → address_family address ≡ family → asked ≡ plain_bits address → IsRowAmong (table family) asked row → IsRowOf table address row
row_known table address family asked row of bits looked =
    subst (λ (k : List Bool). IsRowAmong (table (address_family address)) k row) bits
    (subst (λ (k : Family). IsRowAmong (table k) asked row) (sym of) looked)

-- ---- one line after the other
-- so far
pub record Looking (place : Asked) (table : Family → List (List Bool × List ℕ)) (contents left : Option (List ℕ)) (s t : State) (block rest : List ℕ) (found : Bool) (number : ℕ) : Type 0 where
  pub looks : List (Option LookUp)
  pub collected : Collects s t block rest (flat_map look_line looks) (Ok tt)
  pub hit : found ≡ list_any is_found looks
  pub passed : IfSome contents (λ text. Passed (LineLooks place table) text left looks number)

none_read : (place : Asked) (table : Family → List (List Bool × List ℕ)) (contents : Option (List ℕ)) → IfSome contents (λ text. Passed (LineLooks place table) text contents [] 1)
none_read place table None = tt
none_read place table (Some text) = none_passed (LineLooks place table) text

pub looking_started : (place : Asked) (table : Family → List (List Bool × List ℕ)) (contents : Option (List ℕ)) (s : State) (block : List ℕ) → Looking place table contents contents s s block block false 1
looking_started place table contents s block = record { looks = []; collected = none_collected s block; hit = refl; passed = none_read place table contents }

-- what was collected is written before more is read
pub caught_up : (place : Asked) (table : Family → List (List Bool × List ℕ)) (contents left : Option (List ℕ)) (s t u : State) (b c d : List ℕ) (found : Bool) (number : ℕ)
    → Looking place table contents left s t b c found number → Collects t u c d [] (Ok tt) → Looking place table contents left s u b d found number
caught_up place table contents left s t u b c d found number l more = record {
  looks = l.looks;
  collected = subst (λ (k : List ℕ). Collects s u b d k (Ok tt)) (append-nil (flat_map look_line l.looks))
      (collected_more s t u b c d (flat_map look_line l.looks) [] (Ok tt) l.collected more);
  hit = l.hit;
  passed = l.passed;
}

hits_more : (looks others : List (Option LookUp)) (hit found after : Bool) → found ≡ list_any is_found looks → hit ≡ list_any is_found others
    → after ≡ (found || hit) → after ≡ list_any is_found (looks ++ others)
hits_more looks others hit found after f h is = is ∙ (rw (f, h) (sym (list_any-append is_found looks others)))

group_collected : (s t u : State) (b c d : List ℕ) (looks others : List (Option LookUp)) (r : Result (Unit {0}) OutputFailed) → Collects s t b c (flat_map look_line looks) (Ok tt)
    → Collects t u c d (flat_map look_line others) r → Collects s u b d (flat_map look_line (looks ++ others)) r
group_collected s t u b c d looks others r first more =
    subst (λ (k : List ℕ). Collects s u b d k r) (sym (flat_map-append look_line looks others))
    (collected_more s t u b c d (flat_map look_line looks) (flat_map look_line others) r first more)

-- one or the other, as the code has it
pub either_of : (any hit after : Bool) → ((any ≡ true) × (after ≡ true)) ⊎ ((any ≡ false) × (after ≡ hit)) → after ≡ (any || hit)
either_of true hit after (inl e) = e.1
either_of true hit after (inr e) = absurd (true≢false e.0)
either_of false hit after (inl e) = absurd (true≢false (sym e.0))
either_of false hit after (inr e) = e.1

-- ---- addresses that were found, one after the other
or_none : (b : Bool) → b ≡ (b || false)
or_none true = refl
or_none false = refl

taken : {X : Type 0} (xs : List X) (i : ℕ) (x : X) → i < length xs → x ≡ get_or xs i x → take (i + 1) xs ≡ take i xs ++ x ∷ []
taken xs i x within is = take_more xs i x within ∙ ap (λ k. take i xs ++ k ∷ []) (sym is)

pub found_on : (IsFound : IpAddr → Option Answer → Type 0) (asked : List (Option IpAddr)) (i : ℕ) (ask : Option IpAddr) (found after : List (Option (IpAddr × Option Answer)))
    (one : Option (IpAddr × Option Answer)) → i < length asked → ask ≡ get_or asked i ask → AllZip (IsFoundOf IsFound) (take i asked) found → IsFoundOf IsFound ask one
    → after ≡ found ++ one ∷ [] → AllZip (IsFoundOf IsFound) (take (i + 1) asked) after
found_on IsFound asked i ask found after one within is before h new =
    rw new (subst (λ (k : List (Option IpAddr)). AllZip (IsFoundOf IsFound) k (found ++ one ∷ [])) (sym (taken asked i ask within is))
    (zip_behind (IsFoundOf IsFound) (take i asked) found ask one before h))

pub found_room : (IsFound : IpAddr → Option Answer → Type 0) (asked : List (Option IpAddr)) (i : ℕ) (found : List (Option (IpAddr × Option Answer))) → i < length asked
    → length asked ≤ 64 → AllZip (IsFoundOf IsFound) (take i asked) found → length found < 64
found_room IsFound asked i found within room before =
    omega (arith, within, room, length-take i asked, zip_length (IsFoundOf IsFound) (take i asked) found before)

found_at : (IsFound : IpAddr → Option Answer → Type 0) (ask : Option IpAddr) (one : Option (IpAddr × Option Answer)) → IsFoundOf IsFound ask one
    → IfSome one (λ (pair : IpAddr × Option Answer). IsFound pair.0 pair.1)
found_at IsFound (Some address) (Some (other, one)) h = subst (λ (k : IpAddr). IsFound k one) (sym h.0) h.1
found_at IsFound None None h = tt
found_at IsFound (Some address) None h = absurd h
found_at IsFound None (Some one) h = absurd h

pub all_found : (IsFound : IpAddr → Option Answer → Type 0) (asked : List (Option IpAddr)) (found : List (Option (IpAddr × Option Answer)))
    → AllZip (IsFoundOf IsFound) asked found → AllFound IsFound found
all_found IsFound [] [] h = All-nil (λ one. IfSome one (λ (pair : IpAddr × Option Answer). IsFound pair.0 pair.1))
all_found IsFound [] (one ∷ found) h = absurd h
all_found IsFound (ask ∷ asked) [] h = absurd h
all_found IsFound (ask ∷ asked) (one ∷ found) h =
    All-cons (λ one. IfSome one (λ (pair : IpAddr × Option Answer). IsFound pair.0 pair.1)) one found (found_at IsFound ask one h.0) (all_found IsFound asked found h.1)

-- the addresses that were asked
abbrev pub asked_in : List (Option (IpAddr × Option Answer)) → List (Option IpAddr)
asked_in = map (option_map (λ one. one.0))

pub same_asked : (IsFound : IpAddr → Option Answer → Type 0) (asked : List (Option IpAddr)) (found : List (Option (IpAddr × Option Answer)))
    → AllZip (IsFoundOf IsFound) asked found → map (option_map (λ (one : IpAddr × Option Answer). one.0)) found ≡ asked
same_asked IsFound [] [] h = refl
same_asked IsFound [] (one ∷ found) h = absurd h
same_asked IsFound (ask ∷ asked) [] h = absurd h
same_asked IsFound (Some address ∷ asked) (Some (other, one) ∷ found) h =
    ap (λ (k : IpAddr). Some k ∷ map (option_map (λ (one : IpAddr × Option Answer). one.0)) found) h.0.0
    ∙ ap (λ (k : List (Option IpAddr)). Some address ∷ k) (same_asked IsFound asked found h.1)
same_asked IsFound (None ∷ asked) (None ∷ found) h = ap (λ (k : List (Option IpAddr)). None ∷ k) (same_asked IsFound asked found h.1)
same_asked IsFound (Some address ∷ asked) (None ∷ found) h = absurd h.0
same_asked IsFound (None ∷ asked) (Some one ∷ found) h = absurd h.0

-- ---- their lines
pub one_pushed : (table : Family → List (List Bool × List ℕ)) (address : IpAddr) (s t : State) (b c : List ℕ) (r : Result Bool OutputFailed) → LooksUp table address s t b c r
    → LooksOne table (Some address) s t b c r
one_pushed table address s t b c (Ok hit) (row, looked, collects, tells) = (Some (record { address = address; found = row }), (refl, looked), collects, tells)
one_pushed table address s t b c (Err e) (row, looked, part) = (Some (record { address = address; found = row }), (refl, looked), part)

one_collected : (s t u : State) (b c d : List ℕ) (looks : List (Option LookUp)) (look : Option LookUp) (r : Result (Unit {0}) OutputFailed) → Collects s t b c (flat_map look_line looks) (Ok tt)
    → Collects t u c d (look_line look) r → Collects s u b d (flat_map look_line (looks ++ look ∷ [])) r
one_collected s t u b c d looks look r first more =
    subst (λ (k : List ℕ). Collects s u b d k r) (flat_map_more look_line [] looks look)
    (collected_more s t u b c d (flat_map look_line looks) (look_line look) r first more)

module _ (table : Family → List (List Bool × List ℕ)) (found : List (Option (IpAddr × Option Answer))) (i : ℕ) (one : Option (IpAddr × Option Answer)) (s t u : State) (b c d : List ℕ)
    (any : Bool) (within : i < length found) (is : one ≡ get_or found i one) (before : LooksEach table (asked_in (take i found)) s t b c (Ok any)) where
  asked_more : asked_in (take (i + 1) found) ≡ asked_in (take i found) ++ option_map (λ (k : IpAddr × Option Answer). k.0) one ∷ []
  asked_more = ap asked_in (taken found i one within is) ∙ map-append (option_map (λ (k : IpAddr × Option Answer). k.0)) (take i found) (one ∷ [])

  looked_more : (look : Option LookUp) → AskLooks table (option_map (λ (k : IpAddr × Option Answer). k.0) one) look
      → AllZip (AskLooks table) (asked_in (take (i + 1) found)) (before.0 ++ look ∷ [])
  looked_more look h =
      subst (λ (k : List (Option IpAddr)). AllZip (AskLooks table) k (before.0 ++ look ∷ [])) (sym asked_more)
      (zip_behind (AskLooks table) (asked_in (take i found)) before.0 (option_map (λ (k : IpAddr × Option Answer). k.0) one) look before.1 h)

  pub each_on : (hit after : Bool) → LooksOne table (option_map (λ (k : IpAddr × Option Answer). k.0) one) t u c d (Ok hit) → after ≡ (any || hit)
      → LooksEach table (asked_in (take (i + 1) found)) s u b d (Ok after)
  each_on hit after (look, looked, collects, tells) or = (
    before.0 ++ look ∷ [],
    looked_more look looked,
    one_collected s t u b c d before.0 look (Ok tt) before.2 collects,
    hits_more before.0 (look ∷ []) hit any after before.3 (tells ∙ or_none (is_found look)) or,
  )

  pub each_failed : (y e : OutputFailed) (r : Result Bool OutputFailed) → r ≡ Err y → y ≡ e → LooksOne table (option_map (λ (k : IpAddr × Option Answer). k.0) one) t u c d (Err e)
      → LooksEach table (asked_in found) s u b d r
  each_failed y e r is same (look, looked, part) = subst (LooksEach table (asked_in found) s u b d) (sym (is ∙ ap unwritten same)) (
    asked_in (take (i + 1) found),
    asked_in (drop (i + 1) found),
    ap asked_in (sym (take-append-drop (i + 1) found)) ∙ map-append (option_map (λ (k : IpAddr × Option Answer). k.0)) (take (i + 1) found) (drop (i + 1) found),
    before.0 ++ look ∷ [],
    looked_more look looked,
    one_collected s t u b c d before.0 look (Err e) before.2 part,
  )

-- ---- lines
pub looked_on : (place : Asked) (table : Family → List (List Bool × List ℕ)) (contents left next : Option (List ℕ)) (s t u : State) (b c d : List ℕ) (found hit any : Bool) (number after : ℕ)
    (asked : List (Option IpAddr)) → Looking place table contents left s t b c found number → AsksLines place number left next asked (Ok (Some after))
    → LooksEach table asked t u c d (Ok hit) → any ≡ (found || hit) → Looking place table contents next s u b d any after
looked_on place table contents left next s t u b c d found hit any number after asked l asks (looks, looked, collects, tells) is = record {
  looks = l.looks ++ looks;
  collected = group_collected s t u b c d l.looks looks (Ok tt) l.collected collects;
  hit = hits_more l.looks looks hit found any l.hit tells is;
  passed = group_passed place table contents left next l.looks looks asked number after asks.0 l.passed asks.1 looked;
}

pub looked_at_all : (place : Asked) (table : Family → List (List Bool × List ℕ)) (contents left next : Option (List ℕ)) (s t u : State) (b c d : List ℕ) (found hit any : Bool) (number : ℕ)
    (asked : List (Option IpAddr)) → Looking place table contents left s t b c found number → AsksLines place number left next asked (Ok None)
    → LooksEach table asked t u c d (Ok hit) → any ≡ (found || hit) → LooksLines place table contents s u b d (Ok any)
looked_at_all place table contents left next s t u b c d found hit any number asked l asks (looks, looked, collects, tells) is = (
  l.looks ++ looks,
  group_collected s t u b c d l.looks looks (Ok tt) l.collected collects,
  hits_more l.looks looks hit found any l.hit tells is,
  group_all place table contents left l.looks looks asked number l.passed asks looked,
)

pub looking_ended : (place : Asked) (table : Family → List (List Bool × List ℕ)) (contents left next : Option (List ℕ)) (s t u : State) (b c d : List ℕ) (found hit : Bool) (number : ℕ)
    (asked : List (Option IpAddr)) (e : ListReadError) → Looking place table contents left s t b c found number → AsksLines place number left next asked (Err e)
    → LooksEach table asked t u c d (Ok hit) → LooksLines place table contents s u b d (Err (Reading e))
looking_ended place table contents left next s t u b c d found hit number asked e l asks (looks, looked, collects, tells) = (
  l.looks ++ looks,
  group_collected s t u b c d l.looks looks (Ok tt) l.collected collects,
  group_ended place table contents left l.looks looks asked number e l.passed asks.0 asks.1 looked,
)

-- a line of a group was lost
pub looking_lost : (place : Asked) (table : Family → List (List Bool × List ℕ)) (contents left next : Option (List ℕ)) (s t u : State) (b c d : List ℕ) (found : Bool) (number : ℕ)
    (asked : List (Option IpAddr)) (read : Result (Option ℕ) ListReadError) (f : OutputFailed) (r : Result Bool LookError) → r ≡ Err Output
    → Looking place table contents left s t b c found number → AsksLines place number left next asked read → LooksEach table asked t u c d (Err f) → LooksLines place table contents s u b d r
looking_lost place table contents left next s t u b c d found number asked read f r is l asks (first, behind, cut, looks, looked, part) =
    subst (LooksLines place table contents s u b d) (sym is) (
      l.looks ++ looks,
      group_collected s t u b c d l.looks looks (Err f) l.collected part,
      group_first place table contents left l.looks looks asked first behind number l.passed (first_asked place number left next asked read asks) cut looked,
    )

-- ---- where the lines end early
first_read : (place : Asked) (table : Family → List (List Bool × List ℕ)) (contents left : Option (List ℕ)) (looks : List (Option LookUp)) (number : ℕ)
    → IfSome contents (λ text. Passed (LineLooks place table) text left looks number) → IfSome contents (λ text. AreFirstSaid (LineLooks place table) text looks)
first_read place table None left looks number p = tt
first_read place table (Some text) left looks number p = first_passed (LineLooks place table) text left looks number p

stopped_read : (place : Asked) (table : Family → List (List Bool × List ℕ)) (contents : Option (List ℕ)) (looks : List (Option LookUp)) (e : ListReadError) → IsStopped e
    → IfSome contents (λ text. AreFirstSaid (LineLooks place table) text looks) → IfSome contents (λ text. EndsReading place table text looks e)
stopped_read place table None looks e stopped p = tt
stopped_read place table (Some text) looks (Line number e) stopped p = absurd stopped
stopped_read place table (Some text) looks Input stopped p = p
stopped_read place table (Some text) looks NoMemory stopped p = p

-- what was collected is not all written before more is read
pub looking_unwritten : (place : Asked) (table : Family → List (List Bool × List ℕ)) (contents left : Option (List ℕ)) (s t u : State) (b c d : List ℕ) (found : Bool) (number : ℕ)
    (r : Result Bool LookError) → r ≡ Err Output → Looking place table contents left s t b c found number → Part t u (c ++ []) → LooksLines place table contents s u b d r
looking_unwritten place table contents left s t u b c d found number r is l part =
    subst (LooksLines place table contents s u b d) (sym is) (
      l.looks,
      subst (λ (k : List ℕ). Part s u (b ++ k)) (append-nil (flat_map look_line l.looks))
          (collected_more s t u b c d (flat_map look_line l.looks) [] (Err (record {})) l.collected part),
      first_read place table contents left l.looks number l.passed,
    )

pub looking_stopped : (place : Asked) (table : Family → List (List Bool × List ℕ)) (contents left : Option (List ℕ)) (s t : State) (b c : List ℕ) (found : Bool) (number : ℕ)
    (r : Result Bool LookError) (e : ListReadError) → r ≡ Err (Reading e) → IsStopped e → Looking place table contents left s t b c found number → LooksLines place table contents s t b c r
looking_stopped place table contents left s t b c found number r e is stopped l =
    subst (LooksLines place table contents s t b c) (sym is)
    (l.looks, l.collected, stopped_read place table contents l.looks e stopped (first_read place table contents left l.looks number l.passed))

-- ---- all lines written
-- what was collected behind nothing, and then written
written_rest : (s t u : State) (block rest text : List ℕ) (r : Result (Unit {0}) OutputFailed) → s.failed ≡ false → block ≡ [] → Collects s t block rest text (Ok tt)
    → Writes t u rest r → Answered s u text r
written_rest s t u block rest text r fine none (written, whole, split) wrote =
    let all : text ≡ written ++ rest = ap (λ (k : List ℕ). k ++ text) (sym none) ∙ split in
    answered s u text r fine (subst (λ (k : List ℕ). Writes s u k r) (sym all) (then_writes s t u written rest r whole wrote))

pub looked_all : (place : Asked) (table : Family → List (List Bool × List ℕ)) (contents : Option (List ℕ)) (s t u : State) (block rest : List ℕ) (found : Bool) → s.failed ≡ false → block ≡ []
    → LooksLines place table contents s t block rest (Ok found) → Writes t u rest (Ok tt) → LooksAll place table contents s u (Ok found)
looked_all place table contents s t u block rest found fine none (looks, collected, hit, says) wrote =
    (looks, written_rest s t u block rest (flat_map look_line looks) (Ok tt) fine none collected wrote, hit, says)

pub looked_part : (place : Asked) (table : Family → List (List Bool × List ℕ)) (contents : Option (List ℕ)) (s t u : State) (block rest : List ℕ) (e : ListReadError) → s.failed ≡ false → block ≡ []
    → LooksLines place table contents s t block rest (Err (Reading e)) → Writes t u rest (Ok tt) → LooksAll place table contents s u (Err (Reading e))
looked_part place table contents s t u block rest e fine none (looks, collected, ends) wrote =
    (looks, written_rest s t u block rest (flat_map look_line looks) (Ok tt) fine none collected wrote, ends)

pub looked_lost : (place : Asked) (table : Family → List (List Bool × List ℕ)) (contents : Option (List ℕ)) (s t : State) (block rest : List ℕ) → s.failed ≡ false → block ≡ []
    → LooksLines place table contents s t block rest (Err Output) → LooksAll place table contents s t (Err Output)
looked_lost place table contents s t block rest fine none (looks, part, ends) = (
  looks,
  record {},
  answered s t (flat_map look_line looks) (Err (record {})) fine (subst (λ (k : List ℕ). Part s t (k ++ flat_map look_line looks)) none part),
  ends,
)

all_told : (place : Asked) (table : Family → List (List Bool × List ℕ)) (contents : Option (List ℕ)) (looks : List (Option LookUp)) → IfSome contents (λ text. AllZip (LineLooks place table) (lines_of text) looks)
    → IfSome contents (λ text. AreFirstSaid (LineLooks place table) text looks)
all_told place table None looks h = tt
all_told place table (Some text) looks h = all_first (LineLooks place table) text looks h

part_told : (place : Asked) (table : Family → List (List Bool × List ℕ)) (contents : Option (List ℕ)) (looks : List (Option LookUp)) (e : ListReadError) → IfSome contents (λ text. EndsReading place table text looks e)
    → IfSome contents (λ text. AreFirstSaid (LineLooks place table) text looks)
part_told place table None looks e h = tt
part_told place table (Some text) looks (Line number e) h = record { before = h.before; after = h.line ∷ h.after; lines = h.lines; fine = h.fine }
part_told place table (Some text) looks Input h = h
part_told place table (Some text) looks NoMemory h = h

-- the rest was not written
pub all_unwritten : (place : Asked) (table : Family → List (List Bool × List ℕ)) (contents : Option (List ℕ)) (s t u : State) (block rest : List ℕ) (found : Bool) (f : OutputFailed)
    (r : Result Bool LookError) → r ≡ Err Output → s.failed ≡ false → block ≡ []
    → LooksLines place table contents s t block rest (Ok found) → Writes t u rest (Err f) → LooksAll place table contents s u r
all_unwritten place table contents s t u block rest found f r is fine none (looks, collected, hit, says) wrote =
    subst (LooksAll place table contents s u) (sym is)
    (looks, f, written_rest s t u block rest (flat_map look_line looks) (Err f) fine none collected wrote, all_told place table contents looks says)

pub part_unwritten : (place : Asked) (table : Family → List (List Bool × List ℕ)) (contents : Option (List ℕ)) (s t u : State) (block rest : List ℕ) (e : ListReadError) (f : OutputFailed)
    (r : Result Bool LookError) → r ≡ Err Output → s.failed ≡ false → block ≡ []
    → LooksLines place table contents s t block rest (Err (Reading e)) → Writes t u rest (Err f) → LooksAll place table contents s u r
part_unwritten place table contents s t u block rest e f r is fine none (looks, collected, ends) wrote =
    subst (LooksAll place table contents s u) (sym is)
    (looks, f, written_rest s t u block rest (flat_map look_line looks) (Err f) fine none collected wrote, part_told place table contents looks e ends)

nothing_told : (place : Asked) (table : Family → List (List Bool × List ℕ)) (contents : Option (List ℕ)) → IfSome contents (λ text. AreFirstSaid (LineLooks place table) text [])
nothing_told place table None = tt
nothing_told place table (Some text) = record { before = []; after = lines_of text; lines = refl; fine = tt }

-- the output had failed before
pub nothing_looked : (place : Asked) (table : Family → List (List Bool × List ℕ)) (contents : Option (List ℕ)) (s : State) → s.failed ≡ true → LooksAll place table contents s s (Err Output)
nothing_looked place table contents s failed = ([], record {}, (part_none s [] failed, λ _. refl), nothing_told place table contents)

-- ---- what is told of them
-- a line for each address
plain_told : (place : Asked) (table : Family → List (List Bool × List ℕ)) (lines : List (List ℕ)) (looks : List (Option LookUp)) → AllZip (LineLooks place table) lines looks
    → LinesTell Alone place table lines (flat_map look_line looks, list_any is_found looks)
plain_told place table [] [] h = ([], tt, refl, refl)
plain_told place table [] (look ∷ looks) h = absurd h
plain_told place table (line ∷ lines) [] h = absurd h
plain_told place table (line ∷ lines) (look ∷ looks) (here, others) =
    let (each, tell, texts, found) = plain_told place table lines looks others in (
      (look_line look, is_found look) ∷ each,
      ((look, here, refl, refl), tell),
      ap (λ (k : List ℕ). look_line look ++ k) texts,
      ap (λ (k : Bool). is_found look || k) found,
    )

-- up to where reading ended
plain_cut : (place : Asked) (table : Family → List (List Bool × List ℕ)) (lines : List (List ℕ)) (looks : List (Option LookUp)) (e : CommandError)
    → IsCut (AllZip (LineLooks place table)) (IsBadAsked place) lines looks e
    → IsCut (LinesTell Alone place table) (IsBadAsked place) lines (flat_map look_line looks, list_any is_found looks) e
plain_cut place table lines looks e (read, left, to, stops) =
    (read, left, record { lines = to.lines; are = plain_told place table read looks to.are }, stops)

module _ (place : Asked) (table : Family → List (List Bool × List ℕ)) (text : List ℕ) (looks : List (Option LookUp)) where
  pub ends_as : (file : Bor (List ℕ)) (e : ListReadError) → EndsReading place table text looks e
      → IsCut (LinesTell Alone place table) (IsBadAsked place) (lines_of text) (flat_map look_line looks, list_any is_found looks) (unread file e)
  ends_as file (Line number e) h =
      plain_cut place table (lines_of text) looks (error.Line file number e) (cut_before (LineLooks place table) (IsBadAsked place) text looks number e file h)
  ends_as file Input h =
      plain_cut place table (lines_of text) looks (error.Input file Unknown) (cut_behind (LineLooks place table) (IsBadAsked place) text looks (error.Input file Unknown) (λ _ _. tt) h)
  ends_as file NoMemory h =
      plain_cut place table (lines_of text) looks error.NoMemory (cut_behind (LineLooks place table) (IsBadAsked place) text looks error.NoMemory (λ _ _. tt) h)

  pub lost_as : AreFirstSaid (LineLooks place table) text looks
      → IsCut (LinesTell Alone place table) (IsBadAsked place) (lines_of text) (flat_map look_line looks, list_any is_found looks) error.Output
  lost_as h = plain_cut place table (lines_of text) looks error.Output (cut_behind (LineLooks place table) (IsBadAsked place) text looks error.Output (λ _ _. tt) h)

  pub all_as : AllZip (LineLooks place table) (lines_of text) looks → LinesTell Alone place table (lines_of text) (flat_map look_line looks, list_any is_found looks)
  all_as h = plain_told place table (lines_of text) looks h

-- ---- a file
pub of_file : (file : Bor (List ℕ)) (e : ListReadError) → IsOfFile file.now (unread file e)
of_file file (Line number e) = refl
of_file file Input = refl
of_file file NoMemory = tt

pub gone : (file : Bor (List ℕ)) (s t : State) (e : ListReadError) (text : List ℕ) → Answered s t text (Ok tt) → IsWritten s t text (unread file e)
gone file s t (Line number e) text h = h
gone file s t Input text h = h
gone file s t NoMemory text h = h

-- what follows of bytes, if they are told
pub each_told : (P Q : List ℕ → Type 0) (left : Option (List ℕ)) → ((bytes : List ℕ) → P bytes → Q bytes) → IfSome left P → IfSome left Q
each_told P Q None f h = tt
each_told P Q (Some bytes) f h = f bytes h

module _ (place : Asked) (table : Family → List (List Bool × List ℕ)) (file : Bor (List ℕ)) (left : Option (List ℕ)) (s t : State) where
  pub looked_whole : (found : Bool) → LooksAll place table left s t (Ok found) → TellsLeft false Alone place table left file.now s t (Ok (verdict_of found))
  looked_whole found (looks, written, hit, says) = inl (
    flat_map look_line looks,
    found,
    Ok tt,
    refl,
    written,
    each_told (λ text. AllZip (LineLooks place table) (lines_of text) looks) (λ text. HeadedTell false Alone place table (lines_of text) (flat_map look_line looks, found)) left
        (λ text h. subst (λ (k : Bool). LinesTell Alone place table (lines_of text) (flat_map look_line looks, k)) (sym hit) (all_as place table text looks h)) says,
  )

  -- the lines that were read, where there are others
  abbrev IsCutAs : List (Option LookUp) → CommandError → List ℕ → Type 0
  IsCutAs looks e text = (found : Bool) × IsCut (LinesTell Alone place table) (IsBadAsked place) (lines_of text) (flat_map look_line looks, found) e

  pub ended_early : (e : ListReadError) → LooksAll place table left s t (Err (Reading e)) → TellsLeft false Alone place table left file.now s t (Err (unread file e))
  ended_early e (looks, written, ends) = inr (
    unread file e,
    refl,
    of_file file e,
    flat_map look_line looks,
    gone file s t e (flat_map look_line looks) written,
    each_told (λ text. EndsReading place table text looks e) (IsCutAs looks (unread file e)) left (λ text h. (list_any is_found looks, ends_as place table text looks file e h)) ends,
  )

  pub output_failed : LooksAll place table left s t (Err Output) → TellsLeft false Alone place table left file.now s t (Err error.Output)
  output_failed (looks, f, written, ends) = inr (
    error.Output,
    refl,
    tt,
    flat_map look_line looks,
    written,
    each_told (λ text. AreFirstSaid (LineLooks place table) text looks) (IsCutAs looks error.Output) left (λ text h. (list_any is_found looks, lost_as place table text looks h)) ends,
  )

-- lines that are told one after the other
lines_told : (telling : Telling) (text : List ℕ) → telling ≢ Alone → lines_by telling text ≡ lines_in text
lines_told Alone text behind = absurd (behind refl)
lines_told Kept text behind = refl
lines_told Objects text behind = refl

module _ (telling : Telling) (place : Asked) (table : Family → List (List Bool × List ℕ)) (file : List ℕ) (left : Option (List ℕ)) (s t : State) (behind : telling ≢ Alone) where
  pub told_text : (r : Result Verdict CommandError) → TellsText telling place table left file s t r → TellsLeft false telling place table left file s t r
  told_text r (inl (answer, found, w, by, written, tells)) = inl (
    answer,
    found,
    w,
    by,
    written,
    each_told (λ text. LinesTell telling place table (lines_in text) (answer, found)) (λ text. LinesTell telling place table (lines_by telling text) (answer, found)) left
        (λ text h. subst (λ (k : List (List ℕ)). LinesTell telling place table k (answer, found)) (sym (lines_told telling text behind)) h) tells,
  )
  told_text r (inr (e, same, of, answer, written, belongs)) = inr (
    e,
    same,
    of,
    answer,
    written,
    each_told (λ text. (found : Bool) × IsCut (LinesTell telling place table) (IsBadAsked place) (lines_in text) (answer, found) e)
        (λ text. (found : Bool) × IsCut (LinesTell telling place table) (IsBadAsked place) (lines_by telling text) (answer, found) e) left
        (λ text h. subst (λ (k : List (List ℕ)). (found : Bool) × IsCut (LinesTell telling place table) (IsBadAsked place) k (answer, found) e) (sym (lines_told telling text behind)) h) belongs,
  )

-- ---- the command
module _ (contents : List ℕ → Option Text) (seeking : Seeking) (rows file : List ℕ) (table : Family → List (List Bool × List ℕ)) (s t : State)
    (reads : (text : Text) → contents rows ≡ Some text → SaysTable seeking.form text table) where
  not_read : (e : CommandError) → IsNotReadFurther file e → IsNoTable seeking.form (contents rows) rows e ⊎ (HasUnfitRow seeking.form (contents rows) rows e
      ⊎ (IsInputError file e × ((text : Text) → contents rows ≡ Some text → (kept : Family → List (List Bool × List ℕ)) × SaysTable seeking.form text kept)))
  not_read (error.Argument text e) h = absurd h
  not_read (error.Line name number e) h = absurd h
  not_read (error.Input name why) h = inr (inr (h, λ text one. (table, reads text one)))
  not_read error.NoMemory h = inl tt
  not_read error.Output h = absurd h
  not_read (error.File name e) h = absurd h

  pub told_file : (r : Result Verdict CommandError) → TellsFile seeking.headed seeking.telling seeking.asked table (contents file) file s t r → AnswersRequest contents (Look seeking rows file) s t r
  told_file r (inl (none, e, same, why)) = rw same (inl (inl (none, not_read e why)))
  told_file r (inr (left, opens, inl (answer, found, w, by, written, tells))) = inl (inr (
    answer,
    verdict_of found,
    w,
    λ first second one two. (
      table,
      reads first one,
      found,
      bytes_read (λ text. HeadedTell seeking.headed seeking.telling seeking.asked table (lines_by seeking.telling text) (answer, found)) left second.bytes (opens second two) tells,
      refl,
    ),
    written,
    by,
  ))
  told_file r (inr (left, opens, inr (e, same, of, answer, written, belongs))) = inr (
    e,
    same,
    of,
    answer,
    written,
    λ first second one two.
        let (found, cut) = bytes_read (λ text. (found : Bool) × IsCutBehind (HeadedTell seeking.headed seeking.telling seeking.asked table)
        (IsBadBehind seeking.headed (IsBadAsked seeking.asked)) (lines_by seeking.telling text) (answer, found) e) left second.bytes (opens second two) belongs in
        (table, reads first one, found, cut),
  )
