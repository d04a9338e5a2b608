-- Addresses that are told with their lines, or as objects.
use Rattle.std.proofs.Common.{◌≡◌, refl, sym, ◌∙◌, ap, subst, inl, inr, ℕ, ◌+◌, ◌≤◌, Bool, true, false, ◌||◌, List, [], ◌∷◌, ◌++◌, length, take, arith, codes, is_some, option_map, Bor, ◌==◌, Option, Some, None, Result, Ok, Err, append_assoc, length-append}
use Rattle.std.specs.Option.{IfSome}
use Rattle.std.specs.List.{AllZip, flat_map, list_any}
use Rattle.std.proofs.lemmas.Bool.{true≢false}
use Rattle.std.proofs.lemmas.List.{append-nil}
use Rattle.std.proofs.lemmas.List.Concat.{flat_map-append}
use Rattle.std.proofs.lemmas.List.Folds.{list_any-append}
use Rattle.std.proofs.lemmas.Grind.{common_steps}
use Rattle.cidr.specs.either.IpAddress.{address_family, plain_bits}
use Rattle.cidr.specs.texts.Printed.{plain_text}
use Rattle.cidr.specs.declared.addr.ip.IpAddr.{IpAddr}
use Rattle.cidr.specs.declared.family.Family.{Family}
use borrow.Author.Tests.{eqb-true}
use Rattle.cidr_io.specs.Collecting.{Collects, Holds}
use Rattle.cidr_io.specs.Writing.{State, Part, Whole, Writes}
use Rattle.cidr_io.specs.declared.sink.OutputFailed.{OutputFailed}
use Rattle.cidr_io.proofs.Chains.{answered, part_none}
use Rattle.cidr_io.proofs.Collected.{held_lost, held_then, none_collected}
use Rattle.cidr_lists.specs.Lines.{lines_in}
use Rattle.cidr_lists.specs.LookUps.{IsBadAsked, LineTells, LinesTell, LookUp, is_found, joint_of, kept_line, look_object, printed_found, printed_row, returns_of, told_line, without_returns}
use Rattle.cidr_lists.specs.declared.fields.Asked.{Asked}
use Rattle.cidr_lists.specs.declared.objects.Telling.{Telling}
use Rattle.cidr_lists.specs.declared.objects.Telling.TheVariants.{Objects}
use Rattle.netset_commands.specs.Causes.{TextFails}
use Rattle.netset_commands.specs.Gathering.{IsNotReadFurther, Stops, ended_by, lines_of_part}
use Rattle.netset_commands.specs.KeptLines.{HasNetwork, IsNetworkOf, IsObjectOf, IsRowOf, KeepsLine, TellsBy, TellsPart, TellsText}
use Rattle.netset_commands.specs.Look.{verdict_of}
use Rattle.netset_commands.specs.LookUps.{LineAsks}
use Rattle.netset_commands.specs.Program.{by_output}
use Rattle.netset_commands.specs.Reading.{IsNextLine}
use Rattle.netset_commands.specs.Streaming.{IsCut, IsOfFile, IsStop, IsWritten, ReadTo}
use Rattle.netset_commands.specs.declared.errors.CommandError.{CommandError}
use Rattle.netset_commands.specs.declared.errors.CommandError.TheVariants as error
use Rattle.netset_commands.specs.declared.output.answers.Verdict.{Verdict}
use Rattle.netset_commands.proofs.Asked.{line_looks}
use Rattle.netset_commands.proofs.Blocks.{last_block, nothing_held}
use Rattle.netset_commands.proofs.Causes.{KnownOf, enough_bytes, longer_than}
use Rattle.netset_commands.proofs.Looked.{same_some}
use Rattle.netset_commands.proofs.Matched.{more_parts, part_read}

-- ---- one line
pub network_printed : (table : Family → List (List Bool × List ℕ)) (address : IpAddr) (len : ℕ) (value text : List ℕ) → IsRowOf table address (Some (len, value))
    → text ≡ plain_text (address_family address) (take len (plain_bits address)) → IsNetworkOf table address (Some (text, value))
network_printed table address len value text looked is =
    (Some (take len (plain_bits address), value), looked, ap (λ (k : List ℕ). Some (k, value)) is)

pub no_network : (table : Family → List (List Bool × List ℕ)) (address : IpAddr) → IsRowOf table address None → IsNetworkOf table address None
no_network table address looked = (None, looked, refl)

pub nothing_asked : (table : Family → List (List Bool × List ℕ)) → HasNetwork table None None
nothing_asked table = (None, tt, refl)

pub address_asked : (table : Family → List (List Bool × List ℕ)) (address : IpAddr) (printed : Option (List ℕ × List ℕ)) → IsNetworkOf table address printed
    → HasNetwork table (Some address) printed
address_asked table address printed (row, looked, is) = (Some (record { address = address; found = row }), (refl, looked), is)

found_as : (look : Option LookUp) → is_some (printed_found look) ≡ is_found look
found_as None = refl
found_as (Some look) = same_some (printed_row (address_family look.address)) look.found

pub line_kept : (place : Asked) (table : Family → List (List Bool × List ℕ)) (line : List ℕ) (asked : Option IpAddr) (printed : Option (List ℕ × List ℕ))
    (s t : State) (b c : List ℕ) (hit : Bool) → HasNetwork table asked printed → Collects s t b c (kept_line (joint_of place) line printed) (Ok tt)
    → hit ≡ is_some printed → KeepsLine place table line asked s t b c (Ok hit)
line_kept place table line asked printed s t b c hit (look, looked, is) collects tells = (
  look,
  looked,
  subst (λ (k : Option (List ℕ × List ℕ)). Collects s t b c (kept_line (joint_of place) line k) (Ok tt)) is collects,
  tells ∙ (ap (λ (k : Option (List ℕ × List ℕ)). is_some k) is ∙ found_as look),
)

abbrev unwritten_line : OutputFailed → Result Bool OutputFailed
unwritten_line e = Err e

pub line_lost : (place : Asked) (table : Family → List (List Bool × List ℕ)) (line : List ℕ) (asked : Option IpAddr) (printed : Option (List ℕ × List ℕ))
    (s t : State) (b c : List ℕ) (y e : OutputFailed) (r : Result Bool OutputFailed) → r ≡ Err y → y ≡ e → HasNetwork table asked printed
    → Part s t (b ++ kept_line (joint_of place) line printed) → KeepsLine place table line asked s t b c r
line_lost place table line asked printed s t b c y e r is same (look, looked, shows) part =
    subst (KeepsLine place table line asked s t b c) (sym (is ∙ ap unwritten_line same))
    (look, looked, subst (λ (k : Option (List ℕ × List ℕ)). Part s t (b ++ kept_line (joint_of place) line k)) shows part)

-- a line with a network that has no value, and with one that has
pub kept_short : (joint : ℕ) (line n v : List ℕ) (test : Bool) → test ≡ (length v == 0) → test ≡ true
    → kept_line joint line (Some (n, v)) ≡ without_returns line ++ (joint ∷ (n ++ (returns_of line ++ codes "\n")))
kept_short joint line n [] test is holds = refl
kept_short joint line n (b ∷ v) test is holds = absurd (omega (arith, eqb-true (length (b ∷ v)) 0 (sym is ∙ holds)))

pub kept_long : (joint : ℕ) (line n v : List ℕ) (test : Bool) → test ≡ (length v == 0) → test ≡ false
    → kept_line joint line (Some (n, v)) ≡ without_returns line ++ (joint ∷ (n ++ (joint ∷ (v ++ (returns_of line ++ codes "\n")))))
kept_long joint line n [] test is fails = absurd (true≢false (sym is ∙ fails))
kept_long joint line n (b ∷ v) test is fails = refl

-- ---- one line, as it is told
-- an object
pub nothing_to_tell : (table : Family → List (List Bool × List ℕ)) (asked : Option IpAddr) (s : State) (b : List ℕ) → asked ≡ None
    → TellsBy look_object table asked s s b b (Ok false)
nothing_to_tell table asked s b none = rw none (None, tt, none_collected s b, refl)

pub object_made : (table : Family → List (List Bool × List ℕ)) (address : IpAddr) (row : Option (ℕ × Bor (List ℕ))) (none text : List ℕ) (found : Bool)
    → IsRowOf table address (option_map (λ (one : ℕ × Bor (List ℕ)). (one.0, one.1.now)) row) → none ≡ []
    → text ≡ none ++ look_object (Some (record { address = address; found = option_map (λ (one : ℕ × Bor (List ℕ)). (take one.0 (plain_bits address), one.1.now)) row }))
    → found ≡ is_some row → IsObjectOf table address text found
object_made table address None none text found looked empty is hit = (None, looked, is ∙ ap (λ (k : List ℕ). k ++ look_object (Some (record { address = address; found = None }))) empty, hit)
object_made table address (Some (len, value)) none text found looked empty is hit =
    let row : Option (List Bool × List ℕ) = Some (take len (plain_bits address), value.now) in
    (row, looked, is ∙ ap (λ (k : List ℕ). k ++ look_object (Some (record { address = address; found = row }))) empty, hit)

pub told_object : (table : Family → List (List Bool × List ℕ)) (address : IpAddr) (text bytes : List ℕ) (s t : State) (b c : List ℕ) (found : Bool)
    → IsObjectOf table address text found → bytes ≡ text → Collects s t b c bytes (Ok tt) → TellsBy look_object table (Some address) s t b c (Ok found)
told_object table address text bytes s t b c found (row, looked, is, hit) same collects = (
  Some (record { address = address; found = row }),
  (refl, looked),
  subst (λ (k : List ℕ). Collects s t b c k (Ok tt)) (same ∙ is) collects,
  hit,
)

pub lost_object : (table : Family → List (List Bool × List ℕ)) (address : IpAddr) (text bytes : List ℕ) (s t : State) (b : List ℕ) (c : List ℕ) (found : Bool)
    → IsObjectOf table address text found → bytes ≡ text → Part s t (b ++ bytes) → TellsBy look_object table (Some address) s t b c (Err error.Output)
lost_object table address text bytes s t b c found (row, looked, is, hit) same part = (
  Some (record { address = address; found = row }),
  (refl, looked),
  subst (λ (k : List ℕ). Part s t (b ++ k)) (same ∙ is) part,
)

pub as_object : (place : Asked) (table : Family → List (List Bool × List ℕ)) (line : List ℕ) (asked : Option IpAddr) (s t : State) (b c : List ℕ) (r : Result Bool CommandError)
    → TellsBy look_object table asked s t b c r → TellsBy (told_line Objects place line) table asked s t b c r
as_object place table line asked s t b c (Ok hit) h = h
as_object place table line asked s t b c (Err e) h = grind (arith, common_steps)

-- ---- several lines
or_none : (b : Bool) → b ≡ (b || false)
or_none true = refl
or_none false = refl

zip_both : {A B : Type 0} (P : A → B → Type 0) (xs ys : List A) (ms ns : List B) → AllZip P xs ms → AllZip P ys ns → AllZip P (xs ++ ys) (ms ++ ns)
zip_both P [] ys [] ns h k = k
zip_both P [] ys (m ∷ ms) ns h k = absurd h
zip_both P (x ∷ xs) ys [] ns h k = absurd h
zip_both P (x ∷ xs) ys (m ∷ ms) ns h k = (h.0, zip_both P xs ys ms ns h.1 k)

module _ (telling : Telling) (place : Asked) (table : Family → List (List Bool × List ℕ)) where
  -- what lines tell
  abbrev Tell : List (List ℕ) → List ℕ × Bool → Type 0
  Tell lines told = LinesTell telling place table lines told

  none_tell : Tell [] ([], false)
  none_tell = ([], tt, refl, refl)

  one_tells : (line : List ℕ) (told : List ℕ × Bool) → LineTells telling place table line told → Tell (line ∷ []) told
  one_tells line told h = (told ∷ [], (h, tt), sym (append-nil told.0), or_none told.1)

  both_tell : (xs ys : List (List ℕ)) (a b : List ℕ) (f g : Bool) → Tell xs (a, f) → Tell ys (b, g) → Tell (xs ++ ys) (a ++ b, f || g)
  both_tell xs ys a b f g (first, are, text, found) (second, more, other, also) = (
    first ++ second,
    zip_both (LineTells telling place table) xs ys first second are more,
    ap (λ (k : List ℕ). k ++ b) text
        ∙ (ap (λ (k : List ℕ). flat_map (λ (one : List ℕ × Bool). one.0) first ++ k) other
        ∙ sym (flat_map-append (λ (one : List ℕ × Bool). one.0) first second)),
    ap (λ (k : Bool). k || g) found
        ∙ (ap (λ (k : Bool). list_any (λ (one : List ℕ × Bool). one.1) first || k) also
        ∙ sym (list_any-append (λ (one : List ℕ × Bool). one.1) first second)),
  )

  -- ---- the line of a part
  pub no_line_kept : (file : List ℕ) (number : ℕ) (part : List ℕ) (more : Bool) (s : State) (b : List ℕ) → lines_of_part part more ≡ []
      → TellsPart telling place table file number part more s s b b (Ok false)
  no_line_kept file number part more s b none =
      ([], subst (λ (k : List (List ℕ)). Tell k ([], false)) (sym none) none_tell, none_collected s b)

  pub part_told : (file : List ℕ) (number : ℕ) (part : List ℕ) (more : Bool) (asked : Option IpAddr) (s t : State) (b c : List ℕ) (r : Result Bool CommandError)
      → lines_of_part part more ≡ part ∷ [] → LineAsks place part asked → TellsBy (told_line telling place part) table asked s t b c r
      → TellsPart telling place table file number part more s t b c r
  part_told file number part more asked s t b c (Ok hit) one says (look, looked, collects, tells) = (
    told_line telling place part look,
    subst (λ (k : List (List ℕ)). Tell k (told_line telling place part look, hit)) (sym one)
        (one_tells part (told_line telling place part look, hit) (look, line_looks place table part asked look says looked, refl, tells)),
    collects,
  )
  part_told file number part more asked s t b c (Err error.Output) one says (look, looked, part_written) = (
    one,
    (told_line telling place part look, is_found look),
    (look, line_looks place table part asked look says looked, refl, refl),
    part_written,
  )
  part_told file number part more asked s t b c (Err error.NoMemory) one says (still, kept) = (one, still, kept)
  part_told file number part more asked s t b c (Err (error.Argument text e)) one says h = absurd h
  part_told file number part more asked s t b c (Err (error.Line name n e)) one says h = absurd h
  part_told file number part more asked s t b c (Err (error.Input name why)) one says h = absurd h
  part_told file number part more asked s t b c (Err (error.File name why)) one says h = absurd h

  -- ---- one line after the other
  -- the lines before this number were read
  pub record Passed (text : List ℕ) (left : Option (List ℕ)) (number : ℕ) (told : List ℕ × Bool) : Type 0 where
    pub rest : List ℕ
    pub known : left ≡ Some rest
    pub read : List (List ℕ)
    pub lines : lines_in text ≡ read ++ lines_in rest
    pub size : length rest ≤ length text
    pub place_of : number ≡ length read + 1
    pub are : Tell read told

  pub record Keeping (known left : Option (List ℕ)) (s t : State) (number : ℕ) (block : List ℕ) (found : Bool) : Type 0 where
    pub text : List ℕ
    pub collected : Holds s t block text
    pub passed : IfSome known (λ bytes. Passed bytes left number (text, found))

  -- the part of this number was kept too
  pub record Reached (text : List ℕ) (next : Option (List ℕ)) (number : ℕ) (more : Bool) (told : List ℕ × Bool) : Type 0 where
    pub read : List (List ℕ)
    pub after : List (List ℕ)
    pub to : ReadTo Tell (lines_in text) read after told
    pub over : more ≡ false → after ≡ []
    pub on : more ≡ true → Passed text next (number + 1) told

  pub record Taken (known next : Option (List ℕ)) (s t : State) (number : ℕ) (block : List ℕ) (more found : Bool) : Type 0 where
    pub text : List ℕ
    pub collected : Holds s t block text
    pub reached : IfSome known (λ bytes. Reached bytes next number more (text, found))

  nothing_passed : (known : Option (List ℕ)) → IfSome known (λ text. Passed text known 1 ([], false))
  nothing_passed None = tt
  nothing_passed (Some text) = record { rest = text; known = refl; read = []; lines = refl; size = omega arith; place_of = refl; are = none_tell }

  pub started : (known : Option (List ℕ)) (s : State) (block : List ℕ) → block ≡ [] → Keeping known known s s 1 block false
  started known s block none = record {
    text = [];
    collected = subst (λ (k : List ℕ). Holds s s k []) (sym none) (nothing_held s);
    passed = nothing_passed known;
  }

  reached_by : (known left next : Option (List ℕ)) (number : ℕ) (part : List ℕ) (more : Bool) (text one : List ℕ) (found hit : Bool)
      → IfSome known (λ bytes. Passed bytes left number (text, found)) → IfSome left (λ bytes. IsNextLine bytes part more next)
      → Tell (lines_of_part part more) (one, hit) → IfSome known (λ bytes. Reached bytes next number more (text ++ one, found || hit))
  reached_by None left next number part more text one found hit p n k = tt
  reached_by (Some bytes) left next number part more text one found hit p n k =
      let (after, lines, over, on) = part_read p.rest part more next (rw p.known at n) in
      let all : lines_in bytes ≡ (p.read ++ lines_of_part part more) ++ after =
      p.lines ∙ (ap (λ (z : List (List ℕ)). p.read ++ z) lines ∙ sym (append_assoc p.read (lines_of_part part more) after)) in
      let are : Tell (p.read ++ lines_of_part part more) (text ++ one, found || hit) =
      both_tell p.read (lines_of_part part more) text one found hit p.are k in
      record {
        read = p.read ++ lines_of_part part more;
        after = after;
        to = record { lines = all; are = are };
        over = over;
        on = λ e.
            let (rest, known, is, less) = on e in
            record {
              rest = rest;
              known = known;
              read = p.read ++ lines_of_part part more;
              lines = all ∙ ap (λ (z : List (List ℕ)). (p.read ++ lines_of_part part more) ++ z) is;
              size = omega (arith, p.size, less);
              place_of = omega (arith, p.place_of, length-append p.read (lines_of_part part more), ap (λ (b : Bool). length (lines_of_part part b)) e);
              are = are;
            };
      }

  pub take_on : (file : List ℕ) (known left next : Option (List ℕ)) (s t u : State) (number : ℕ) (part : List ℕ) (more : Bool) (b c : List ℕ) (found hit any : Bool)
      → any ≡ (found || hit) → Keeping known left s t number b found → IfSome left (λ bytes. IsNextLine bytes part more next)
      → TellsPart telling place table file number part more t u b c (Ok hit) → Taken known next s u number c more any
  take_on file known left next s t u number part more b c found hit any is st n (one, tells, collects) = rw is (record {
    text = st.text ++ one;
    collected = held_then s t u b c st.text one st.collected collects;
    reached = reached_by known left next number part more st.text one found hit st.passed n tells;
  })

  passed_on : (known next : Option (List ℕ)) (number : ℕ) (more : Bool) (told : List ℕ × Bool) → more ≡ true
      → IfSome known (λ bytes. Reached bytes next number more told) → IfSome known (λ bytes. Passed bytes next (number + 1) told)
  passed_on None next number more told e r = tt
  passed_on (Some bytes) next number more told e r = r.on e

  pub go_on : (known next : Option (List ℕ)) (s t : State) (number : ℕ) (block : List ℕ) (more found : Bool) → more ≡ true
      → Taken known next s t number block more found → Keeping known next s t (number + 1) block found
  go_on known next s t number block more found e k = record {
    text = k.text;
    collected = k.collected;
    passed = passed_on known next number more (k.text, found) e k.reached;
  }

  -- ---- the end
  all_told : (known next : Option (List ℕ)) (number : ℕ) (more : Bool) (told : List ℕ × Bool) → more ≡ false
      → IfSome known (λ bytes. Reached bytes next number more told) → IfSome known (λ bytes. Tell (lines_in bytes) told)
  all_told None next number more told e r = tt
  all_told (Some bytes) next number more told e r =
      let all : lines_in bytes ≡ r.read = r.to.lines ∙ (ap (λ (k : List (List ℕ)). r.read ++ k) (r.over e) ∙ append-nil r.read) in
      subst (λ (k : List (List ℕ)). Tell k told) (sym all) r.to.are

  pub ended : (file : List ℕ) (known next : Option (List ℕ)) (s t u : State) (number : ℕ) (block : List ℕ) (more found : Bool)
      (w : Result (Unit {0}) OutputFailed) (r : Result Verdict CommandError) → more ≡ false → s.failed ≡ false → Taken known next s t number block more found
      → Writes t u block w → r ≡ by_output (verdict_of found) w → TellsText telling place table known file s u r
  ended file known next s t u number block more found w r e fine k wrote is = inl (
    k.text,
    found,
    w,
    is,
    answered s u k.text w fine (last_block s t u block k.text w k.collected wrote),
    all_told known next number more (k.text, found) e k.reached,
  )

  -- ---- a text that is not read to its end
  abbrev Cut : Option (List ℕ) → List ℕ → CommandError → Type 0
  Cut known answer e = IfSome known (λ bytes. (found : Bool) × IsCut Tell (IsBadAsked place) (lines_in bytes) (answer, found) e)

  cut_here : (known left : Option (List ℕ)) (number : ℕ) (text : List ℕ) (found : Bool) (e : CommandError)
      → ((read after : List (List ℕ)) → IsStop (λ before. IsBadAsked place) read after e) → IfSome known (λ bytes. Passed bytes left number (text, found)) → Cut known text e
  cut_here None left number text found e stops p = tt
  cut_here (Some bytes) left number text found e stops p =
      (found, (p.read, lines_in p.rest, record { lines = p.lines; are = p.are }, stops p.read (lines_in p.rest)))

  -- what is not yet written is written
  stopped : (file : List ℕ) (known : Option (List ℕ)) (s t u : State) (block text : List ℕ) (e : CommandError)
      (w : Result (Unit {0}) OutputFailed) (r : Result Verdict CommandError) → s.failed ≡ false → IsOfFile file e
      → ((text : List ℕ) → Whole s u text × (u.failed ≡ false) → IsWritten s u text e) → Holds s t block text → Writes t u block w
      → r ≡ Err (ended_by e w) → Cut known text e → Cut known text error.Output → TellsText telling place table known file s u r
  stopped file known s t u block text e (Ok a) r fine of goes collected wrote is cut lost = inr (
    e,
    is,
    of,
    text,
    goes text (answered s u text (Ok a) fine (last_block s t u block text (Ok a) collected wrote)),
    cut,
  )
  stopped file known s t u block text e (Err f) r fine of goes collected wrote is cut lost = inr (
    error.Output,
    is,
    tt,
    text,
    answered s u text (Err f) fine (last_block s t u block text (Err f) collected wrote),
    lost,
  )

  pub unread : (file : List ℕ) (known left : Option (List ℕ)) (s t u : State) (number : ℕ) (block : List ℕ) (found : Bool) (e : CommandError) (r : Result Verdict CommandError)
      → s.failed ≡ false → IsNotReadFurther file e → Keeping known left s t number block found → Stops e t u block r → TellsText telling place table known file s u r
  unread file known left s t u number block found (error.Argument text e) r fine h st stops = absurd h
  unread file known left s t u number block found (error.Line name n e) r fine h st stops = absurd h
  unread file known left s t u number block found (error.Input name why) r fine h st (w, wrote, is) =
      stopped file known s t u block st.text (error.Input name why) w r fine h (λ text all. all) st.collected wrote is
      (cut_here known left number st.text found (error.Input name why) (λ _ _. tt) st.passed)
      (cut_here known left number st.text found error.Output (λ _ _. tt) st.passed)
  unread file known left s t u number block found error.NoMemory r fine h st (w, wrote, is) =
      stopped file known s t u block st.text error.NoMemory w r fine tt (λ text all. all) st.collected wrote is
      (cut_here known left number st.text found error.NoMemory (λ _ _. tt) st.passed)
      (cut_here known left number st.text found error.Output (λ _ _. tt) st.passed)
  unread file known left s t u number block found error.Output r fine h st stops = absurd h
  unread file known left s t u number block found (error.File name why) r fine h st stops = absurd h

  -- what is left is told too
  pub left_known : (known left : Option (List ℕ)) (s t : State) (number : ℕ) (block : List ℕ) (found : Bool) → Keeping known left s t number block found → KnownOf known left
  left_known None left s t number block found st = tt
  left_known (Some bytes) left s t number block found st = (st.passed.rest, st.passed.known, st.passed.size)

  -- there are more lines than numbers
  pub numbers_used : (known left : Option (List ℕ)) (s t : State) (number : ℕ) (block : List ℕ) (found : Bool) → Keeping known left s t number block found
      → 18446744073709551615 ≤ number → TextFails known
  numbers_used None left s t number block found st most = tt
  numbers_used (Some bytes) left s t number block found st most =
      enough_bytes bytes (more_parts 18446744073709551614 bytes
      (longer_than 18446744073709551614 (lines_in bytes) st.passed.read (lines_in st.passed.rest) number st.passed.lines st.passed.place_of most))

  -- what was collected is written before more is read, or not all of it
  pub caught_up : (known left : Option (List ℕ)) (s t u : State) (number : ℕ) (block next : List ℕ) (found : Bool) → Collects t u block next [] (Ok tt)
      → Keeping known left s t number block found → Keeping known left s u number next found
  caught_up known left s t u number block next found more st = record {
    text = st.text;
    collected = subst (Holds s u next) (append-nil st.text) (held_then s t u block next st.text [] st.collected more);
    passed = st.passed;
  }

  pub unwritten : (file : List ℕ) (known left : Option (List ℕ)) (s t u : State) (number : ℕ) (block : List ℕ) (found : Bool) → s.failed ≡ false → Part t u (block ++ [])
      → Keeping known left s t number block found → TellsText telling place table known file s u (Err error.Output)
  unwritten file known left s t u number block found fine part st = inr (
    error.Output,
    refl,
    tt,
    st.text,
    (
      subst (Part s u) (append-nil st.text) (held_lost s t u block st.text [] st.collected part),
      λ before. absurd (true≢false (sym before ∙ fine)),
    ),
    cut_here known left number st.text found error.Output (λ _ _. tt) st.passed,
  )

  pub failed_before : (file : List ℕ) (known : Option (List ℕ)) (s : State) → s.failed ≡ true → TellsText telling place table known file s s (Err error.Output)
  failed_before file known s failed =
      inr (error.Output, refl, tt, [], (part_none s [] failed, λ _. refl), cut_here known known 1 [] false error.Output (λ _ _. tt) (nothing_passed known))

  cut_at_line : (known left next : Option (List ℕ)) (number : ℕ) (part : List ℕ) (more : Bool) (text : List ℕ) (found : Bool) (e : CommandError)
      → lines_of_part part more ≡ part ∷ [] → IfSome left (λ bytes. IsNextLine bytes part more next) → IfSome known (λ bytes. Passed bytes left number (text, found))
      → ((read after : List (List ℕ)) → number ≡ length read + 1 → IsStop (λ before. IsBadAsked place) read (part ∷ after) e) → Cut known text e
  cut_at_line None left next number part more text found e one n p stops = tt
  cut_at_line (Some bytes) left next number part more text found e one n p stops =
      let (after, lines, over, on) = part_read p.rest part more next (rw p.known at n) in
      let here : lines_in p.rest ≡ part ∷ after = lines ∙ ap (λ (z : List (List ℕ)). z ++ after) one in (
        found,
        (
          p.read,
          part ∷ after,
          record { lines = p.lines ∙ ap (λ (z : List (List ℕ)). p.read ++ z) here; are = p.are },
          stops p.read after p.place_of,
        ),
      )

  cut_behind : (known left next : Option (List ℕ)) (number : ℕ) (part : List ℕ) (more : Bool) (text : List ℕ) (found : Bool) (told : List ℕ × Bool)
      → lines_of_part part more ≡ part ∷ [] → LineTells telling place table part told
      → IfSome left (λ bytes. IsNextLine bytes part more next) → IfSome known (λ bytes. Passed bytes left number (text, found)) → Cut known (text ++ told.0) error.Output
  cut_behind None left next number part more text found told one h n p = tt
  cut_behind (Some bytes) left next number part more text found told one h n p =
      let (after, lines, over, on) = part_read p.rest part more next (rw p.known at n) in
      let here : lines_in p.rest ≡ part ∷ after = lines ∙ ap (λ (z : List (List ℕ)). z ++ after) one in (
        found || told.1,
        (
          p.read ++ part ∷ [],
          after,
          record {
            lines = p.lines ∙ (ap (λ (z : List (List ℕ)). p.read ++ z) here ∙ sym (append_assoc p.read (part ∷ []) after));
            are = both_tell p.read (part ∷ []) text told.0 found told.1 p.are (one_tells part told h);
          },
          tt,
        ),
      )

  pub lost : (file : List ℕ) (known left next : Option (List ℕ)) (s t u v : State) (number : ℕ) (block rest part : List ℕ) (more found : Bool) (e : CommandError)
      (r : Result Verdict CommandError) → s.failed ≡ false → Keeping known left s t number block found → IfSome left (λ bytes. IsNextLine bytes part more next)
      → TellsPart telling place table file number part more t u block rest (Err e) → Stops e u v rest r → TellsText telling place table known file s v r
  lost file known left next s t u v number block rest part more found (error.Argument text e) r fine st n h stops = absurd h
  lost file known left next s t u v number block rest part more found (error.Input name why) r fine st n h stops = absurd h
  lost file known left next s t u v number block rest part more found (error.File name why) r fine st n h stops = absurd h
  lost file known left next s t u v number block rest part more found (error.Line name m e) r fine st n (one, same, at, bad, still, kept) (w, wrote, is) =
      let collected : Holds s u rest st.text =
      subst (λ (z : State). Holds s z rest st.text) (sym still) (subst (λ (k : List ℕ). Holds s t k st.text) (sym kept) st.collected) in
      stopped file known s u v rest st.text (error.Line name m e) w r fine same (λ text all. all) collected wrote is
      (cut_at_line known left next number part more st.text found (error.Line name m e) one n st.passed (λ read after here. (at ∙ here, part, after, refl, bad)))
      (cut_at_line known left next number part more st.text found error.Output one n st.passed (λ _ _ _. tt))
  lost file known left next s t u v number block rest part more found error.NoMemory r fine st n (one, still, kept) (w, wrote, is) =
      let collected : Holds s u rest st.text =
      subst (λ (z : State). Holds s z rest st.text) (sym still) (subst (λ (k : List ℕ). Holds s t k st.text) (sym kept) st.collected) in
      stopped file known s u v rest st.text error.NoMemory w r fine tt (λ text all. all) collected wrote is
      (cut_at_line known left next number part more st.text found error.NoMemory one n st.passed (λ _ _ _. tt))
      (cut_at_line known left next number part more st.text found error.Output one n st.passed (λ _ _ _. tt))
  lost file known left next s t u v number block rest part more found error.Output r fine st n (one, told, tells, failed) (still, is) =
      inr (
        error.Output,
        is,
        tt,
        st.text ++ told.0,
        (
          subst (λ (z : State). Part s z (st.text ++ told.0)) (sym still) (held_lost s t u block st.text told.0 st.collected failed),
          λ before. absurd (true≢false (sym before ∙ fine)),
        ),
        cut_behind known left next number part more st.text found told one tells n st.passed,
      )
