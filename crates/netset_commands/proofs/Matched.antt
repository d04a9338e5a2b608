-- Lines that are picked of a file.
use Rattle.std.proofs.Common.{◌≡◌, ◌≢◌, ◌⊎◌, ◌↔◌, ◌&&◌, ◌==◌, refl, sym, ◌∙◌, ap, subst, inl, inr, ℕ, ◌+◌, ◌<◌, ◌≤◌, Bool, true, false, not, if◌then◌else◌, List, [], ◌∷◌, ◌++◌, length, arith, Option, Some, None, Result, Ok, Err, Decides, Bor, append_assoc, length-append}
use Rattle.std.specs.Option.{IfSome}
use Rattle.std.specs.List.{AllByRecursion, AllZip, flat_map, items_where_true, slice_split}
use Rattle.std.proofs.lemmas.Bool.{true≢false}
use borrow.Author.Tests.{eqb-true}
use Rattle.std.proofs.lemmas.List.{append-nil, flat_map_more, length-map}
use Rattle.std.proofs.lemmas.List.Concat.{flat_map-append}
use Rattle.std.proofs.lemmas.List.Splits.{length-slice_split}
use Rattle.cidr.specs.either.IpNetwork.{network_family, network_prefix}
use Rattle.cidr.specs.declared.cidr.combined.IpCidr.{IpCidr}
use Rattle.cidr.specs.declared.family.Family.{Family}
use Rattle.cidr_io.specs.Writing.{Answered, State, Whole, Part, Writes}
use Rattle.cidr_io.specs.declared.sink.OutputFailed.{OutputFailed}
use Rattle.cidr_io.proofs.Chains.{answered, part_none, then_writes}
use Rattle.netset_commands.specs.Answering.{HaveListAddresses}
use Rattle.cidr_io.specs.Collecting.{Collects, Holds}
use Rattle.netset_commands.specs.Causes.{TextFails}
use Rattle.netset_commands.specs.Combining.{Turned}
use Rattle.cidr_lists.specs.Texts.{SaysAddress}
use Rattle.netset_commands.specs.Commands.{IsInRow, HoldsOf, Match}
use Rattle.netset_commands.specs.Gathering.{Finishes, IsCounted, IsDone, IsLost, IsNotReadFurther, NotesLong, Stops, Streams, StreamsFile, GathersPart, TakesHeader, ended_by, lines_of_part, rest_written, told_behind}
use Rattle.cidr_lists.specs.Lists.{IsTooLong, Text, is_line_feed, kept_of, lines_of}
use Rattle.cidr_lists.specs.Within.{AreWithin, HasOneIn, LiesIn}
use Rattle.netset_commands.specs.Matching.{ArePicked, ArePickedBy, IsEndedBy, IsEnough, IsErrorBy, IsFirstLong, IsHeader, IsLongOrLost, IsMatch, NeedsMore, Picks, PicksBy, PicksByField, StopsAtPicked, all_written, line_written}
use Rattle.cidr_lists.specs.Lines.{AllBehind, IsBadBehind, behind_header, last_line, lines_among, lines_in}
use Rattle.cidr_lists.specs.Fields.{FieldSays}
use Rattle.netset_commands.specs.Picking.{PicksOf}
use Rattle.netset_commands.specs.Program.{AnswersRequest, by_output}
use Rattle.netset_commands.specs.Reading.{IsNextLine}
use Rattle.cidr_lists.specs.Sets.{IsInSets, networks_of}
use Rattle.cidr_sets.specs.model.Sets.{IsSetOf}
use Rattle.netset_commands.specs.Streaming.{IsOfFile, IsStop, IsWritten, ReadTo}
use Rattle.netset_commands.specs.declared.output.answers.Verdict.{Verdict}
use Rattle.netset_commands.specs.declared.output.answers.Verdict.TheVariants.{Yes, No}
use Rattle.netset_commands.specs.declared.errors.CommandError.{CommandError}
use Rattle.netset_commands.specs.declared.errors.CommandError.TheVariants as error
use Rattle.cidr_lists.specs.declared.columns.Column.{Column}
use Rattle.netset_commands.specs.declared.commands.picking.Picking.{Picking}
use Rattle.cidr_lists.specs.declared.errors.LineError.{LineError}
use Rattle.cidr_lists.specs.declared.errors.LineError.TheVariants.{TooLong}
use Rattle.netset_commands.specs.declared.commands.matching.Gathered.{Gathered}
use Rattle.netset_commands.specs.declared.commands.matching.Written.{Written}
use Rattle.netset_commands.specs.declared.commands.matching.Written.TheVariants as written
use Rattle.cidr_lists.specs.declared.sets.Sets.{Sets}
use Rattle.netset_commands.proofs.Blocks.{last_block, nothing_held}
use Rattle.cidr_io.proofs.Collected.{held_lost, held_then, none_collected}
use Rattle.netset_commands.proofs.Causes.{KnownOf, enough_bytes, longer_than}
use Rattle.netset_commands.proofs.Combining.{turned_same}

-- ---- lines
among_shorter : (parts : List (List ℕ)) → length (lines_among parts) ≤ length parts
among_shorter [] = omega arith
among_shorter ([] ∷ []) = omega arith
among_shorter ((byte ∷ part) ∷ []) = omega arith
among_shorter (part ∷ next ∷ parts) = omega (arith, among_shorter (next ∷ parts))

pub more_parts : (most : ℕ) (text : List ℕ) → most ≤ length (lines_in text) → most ≤ length (lines_of text)
more_parts most text h = omega (arith, h, among_shorter (lines_of text))

among_more : (part : List ℕ) (parts : List (List ℕ)) → 0 < length parts → lines_among (part ∷ parts) ≡ part ∷ lines_among parts
among_more part [] h = absurd (omega (arith, h))
among_more part (next ∷ parts) h = refl

-- the lines of the next part, and those behind it
pub part_read : (text part : List ℕ) (more : Bool) (next : Option (List ℕ)) → IsNextLine text part more next
    → (after : List (List ℕ)) × (lines_in text ≡ lines_of_part part more ++ after) × (more ≡ false → after ≡ [])
    × (more ≡ true → (rest : List ℕ) × (next ≡ Some rest) × (after ≡ lines_in rest) × (length rest < length text))
part_read text part true next n = (
  lines_in n.0,
  ap lines_among n.2 ∙ among_more part (lines_of n.0) (omega (arith, length-map (slice_split is_line_feed n.0) kept_of, length-slice_split is_line_feed n.0)),
  λ e. absurd (true≢false e),
  λ e. (n.0, n.1, refl, n.3),
)
part_read text part false next n = (
  [],
  ap lines_among n ∙ sym (append-nil (last_line part)),
  λ e. refl,
  λ e. absurd (true≢false (sym e)),
)

-- ---- the first line that is too long
-- no line of these is too long
abbrev AreShort : List (List ℕ) → Type 0
AreShort lines = AllByRecursion (λ line. ¬ (IsTooLong line)) lines

both_short : (xs ys : List (List ℕ)) → AreShort xs → AreShort ys → AreShort (xs ++ ys)
both_short [] ys h k = k
both_short (x ∷ xs) ys h k = (h.0, both_short xs ys h.1 k)

pub part_long : (part : List ℕ) (more : Bool) → IsTooLong part → lines_of_part part more ≡ part ∷ []
part_long part true long = refl
part_long [] false long = absurd (omega (arith, long))
part_long (byte ∷ part) false long = refl

part_short : (part : List ℕ) (more : Bool) → ¬ (IsTooLong part) → AreShort (lines_of_part part more)
part_short part true short = (short, tt)
part_short [] false short = tt
part_short (byte ∷ part) false short = (short, tt)

long_none : (read : List (List ℕ)) (number : ℕ) (part : List ℕ) (more : Bool) (now : Option ℕ) → number ≡ length read + 1 → AreShort read
    → (IsTooLong part × (now ≡ Some number)) ⊎ (¬ (IsTooLong part) × (now ≡ None)) → IsFirstLong (read ++ lines_of_part part more) now
long_none read number part more now at short (inl (long, is)) =
    rw (is, part_long part more long) (read, part, [], refl, at, long, short)
long_none read number part more now at short (inr (fits, is)) =
    rw is (both_short read (lines_of_part part more) short (part_short part more fits))

long_on : (read : List (List ℕ)) (number : ℕ) (part : List ℕ) (more : Bool) (long now : Option ℕ) → number ≡ length read + 1 → IsFirstLong read long
    → NotesLong number part long now → IsFirstLong (read ++ lines_of_part part more) now
long_on read number part more None now at short notes = long_none read number part more now at short notes
long_on read number part more (Some n) now at (before, line, after, split, place, bad, short) is =
    rw is (
      before,
      line,
      after ++ lines_of_part part more,
      ap (λ (k : List (List ℕ)). k ++ lines_of_part part more) split ∙ append_assoc before (line ∷ after) (lines_of_part part more),
      place,
      bad,
      short,
    )

part_few : (part : List ℕ) (more : Bool) → length (lines_of_part part more) ≤ 1
part_few part true = omega arith
part_few [] false = omega arith
part_few (byte ∷ part) false = omega arith

-- ---- lines that are picked
nothing_or : (what : Written) → (what ≡ written.Nothing) ⊎ (what ≢ written.Nothing)
nothing_or written.Lines = inr (λ e. cc e)
nothing_or written.Count = inr (λ e. cc e)
nothing_or written.Nothing = inl refl

none_yet : (picked : List (List ℕ)) (count : ℕ) → count ≡ length picked → ¬ (0 < count) → picked ≡ []
none_yet [] count is none = refl
none_yet (line ∷ picked) count is none = absurd (none (omega (arith, is)))

zip_both : {A B : Type 0} (P : A → B → Type 0) (xs ys : List A) (ms ns : List B) → AllZip P xs ms → AllZip P ys ns → AllZip P (xs ++ ys) (ms ++ ns)
zip_both P [] ys [] ns h k = k
zip_both P [] ys (m ∷ ms) ns h k = absurd h
zip_both P (x ∷ xs) ys [] ns h k = absurd h
zip_both P (x ∷ xs) ys (m ∷ ms) ns h k = (h.0, zip_both P xs ys ms ns h.1 k)

zip_same : {A B : Type 0} (P Q : A → B → Type 0) → ((x : A) (m : B) → P x m → Q x m) → (xs : List A) (ms : List B) → AllZip P xs ms → AllZip Q xs ms
zip_same P Q f [] [] h = tt
zip_same P Q f [] (m ∷ ms) h = absurd h
zip_same P Q f (x ∷ xs) [] h = absurd h
zip_same P Q f (x ∷ xs) (m ∷ ms) h = (f x m h.0, zip_same P Q f xs ms h.1)

where_both : {A : Type 0} (P : A → Bool → Type 0) (xs ys : List A) (ms ns : List Bool) → AllZip P xs ms
    → items_where_true (ms ++ ns) (xs ++ ys) ≡ items_where_true ms xs ++ items_where_true ns ys
where_both P [] ys [] ns h = refl
where_both P [] ys (m ∷ ms) ns h = absurd h
where_both P (x ∷ xs) ys [] ns h = absurd h
where_both {A} P (x ∷ xs) ys (true ∷ ms) ns h = ap (λ (k : List A). x ∷ k) (where_both P xs ys ms ns h.1)
where_both P (x ∷ xs) ys (false ∷ ms) ns h = where_both P xs ys ms ns h.1

abbrev pub no_lines : List (List ℕ) × List (List ℕ)
no_lines = ([], [])

pub none_picked : (headed : Bool) (P : List ℕ → Result Bool LineError → Type 0) → ArePicked headed P [] no_lines
none_picked true P = ([], tt, refl, refl)
none_picked false P = ([], tt, refl, refl)

pub one_picked : (P : List ℕ → Result Bool LineError → Type 0) (line : List ℕ) → P line (Ok true) → ArePicked false P (line ∷ []) (line ∷ [], line ∷ [])
one_picked P line h = (true ∷ [], (h, tt), refl, refl)

pub one_passed : (P : List ℕ → Result Bool LineError → Type 0) (line : List ℕ) → P line (Ok false) → ArePicked false P (line ∷ []) no_lines
one_passed P line h = (false ∷ [], (h, tt), refl, refl)

pub header_picked : (P : List ℕ → Result Bool LineError → Type 0) (line : List ℕ) → ¬ (IsTooLong line) → ArePicked true P (line ∷ []) (line ∷ [], [])
header_picked P line short = (true ∷ [], ((short, refl), tt), refl, refl)

-- ---- a header
-- the line behind these is one
abbrev IsHeadedHere : Bool → Bool → List (List ℕ) → Type 0
IsHeadedHere headed here read = Decides here ((headed ≡ true) × (read ≡ []))

one_is_first : (number : ℕ) → Decides (number == 1) ((true ≡ true) × (number ≡ 1))
one_is_first number = (λ e. (refl, eqb-true number 1 e), λ h. ap (λ (n : ℕ). n == 1) h.1)

pub header_here : (headed : Bool) (number : ℕ) → Decides (headed && (number == 1)) ((headed ≡ true) × (number ≡ 1))
header_here true number = one_is_first number
header_here false number = (λ e. absurd (true≢false (sym e)), λ h. h.0)

none_before : (read : List (List ℕ)) (number : ℕ) → number ≡ length read + 1 → number ≡ 1 → read ≡ []
none_before [] number at one = refl
none_before (line ∷ read) number at one = absurd (omega (arith, at, one))

headed_here : (headed : Bool) (number : ℕ) (read : List (List ℕ)) → number ≡ length read + 1 → IsHeadedHere headed (headed && (number == 1)) read
headed_here headed number read at =
    let d = header_here headed number in
    (λ e. ((d.0 e).0, none_before read number at (d.0 e).1), λ h. d.1 (h.0, at ∙ ap (λ (k : List (List ℕ)). length k + 1) h.1))

bad_behind : (headed here : Bool) (IsBad : List ℕ → LineError → Type 0) (read : List (List ℕ)) (line : List ℕ) (e : LineError) → IsHeadedHere headed here read
    → IsBadBehind here IsBad [] line e → IsBadBehind headed IsBad read line e
bad_behind false true IsBad read line e d h = absurd (true≢false (sym (d.0 refl).0))
bad_behind false false IsBad read line e d h = h
bad_behind true true IsBad [] line e d h = h
bad_behind true true IsBad (first ∷ read) line e d h = cc ((d.0 refl).1)
bad_behind true false IsBad [] line e d h = absurd (true≢false (sym (d.1 (refl, refl))))
bad_behind true false IsBad (first ∷ read) line e d h = h

picked_both : (headed here : Bool) (P : List ℕ → Result Bool LineError → Type 0) (xs ys : List (List ℕ)) (ps qs : List (List ℕ) × List (List ℕ)) → IsHeadedHere headed here xs
    → ArePicked headed P xs ps → ArePicked here P ys qs → ArePicked headed P (xs ++ ys) (ps.0 ++ qs.0, ps.1 ++ qs.1)
picked_both false true P xs ys ps qs d h k = absurd (true≢false (sym (d.0 refl).0))
picked_both false false P xs ys ps qs d (ms, are, is, all) (ns, more, too, each) = (
  ms ++ ns,
  zip_both (λ (line : List ℕ) (mark : Bool). P line (Ok mark)) xs ys ms ns are more,
  ap (λ (k : List (List ℕ)). k ++ qs.0) is
      ∙ (ap (λ (k : List (List ℕ)). items_where_true ms xs ++ k) too ∙ sym (where_both (λ (line : List ℕ) (mark : Bool). P line (Ok mark)) xs ys ms ns are)),
  ap (λ (k : List (List ℕ)). k ++ qs.1) all ∙ ap (λ (k : List (List ℕ)). ps.0 ++ k) each,
)
picked_both true true P [] ys ps qs d ([], are, is, all) k =
    let none : ps.1 ≡ [] = all ∙ ap (λ (z : List (List ℕ)). behind_header true z) is in
    rw (is, none) k
picked_both true true P [] ys ps qs d (m ∷ ms, are, is, all) k = absurd are
picked_both true false P [] ys ps qs d h k = absurd (true≢false (sym (d.1 (refl, refl))))
picked_both true true P (x ∷ xs) ys ps qs d h k = cc ((d.0 refl).1)
picked_both true false P (x ∷ xs) ys ps qs d ([], are, is, all) k = absurd are
picked_both true false P (x ∷ xs) ys ps qs d (false ∷ ms, (head, are), is, all) k = absurd (true≢false (sym head.1))
picked_both true false P (x ∷ xs) ys ps qs d (true ∷ ms, (head, are), is, all) (ns, more, too, each) = (
  true ∷ (ms ++ ns),
  (head, zip_both (λ (line : List ℕ) (mark : Bool). P line (Ok mark)) xs ys ms ns are more),
  ap (λ (k : List (List ℕ)). k ++ qs.0) is ∙ (ap (λ (k : List (List ℕ)). (x ∷ items_where_true ms xs) ++ k) too
      ∙ ap (λ (k : List (List ℕ)). x ∷ k) (sym (where_both (λ (line : List ℕ) (mark : Bool). P line (Ok mark)) xs ys ms ns are))),
  ap (λ (k : List (List ℕ)). k ++ qs.1) (all ∙ ap (λ (k : List (List ℕ)). behind_header true k) is)
      ∙ (ap (λ (k : List (List ℕ)). items_where_true ms xs ++ k) each ∙ sym (ap (λ (k : List (List ℕ)). behind_header true (k ++ qs.0)) is)),
)

behind_same : (P Q : List ℕ → Result Bool LineError → Type 0) → ((line : List ℕ) (r : Result Bool LineError) → P line r → Q line r) → (headed : Bool) (xs : List (List ℕ)) (ms : List Bool)
    → AllBehind headed IsHeader (λ line mark. P line (Ok mark)) xs ms → AllBehind headed IsHeader (λ line mark. Q line (Ok mark)) xs ms
behind_same P Q f true [] ms h = zip_same (λ (line : List ℕ) (mark : Bool). P line (Ok mark)) (λ (line : List ℕ) (mark : Bool). Q line (Ok mark)) (λ line mark. f line (Ok mark)) [] ms h
behind_same P Q f true (x ∷ xs) [] h = absurd h
behind_same P Q f true (x ∷ xs) (m ∷ ms) h =
    (h.0, zip_same (λ (line : List ℕ) (mark : Bool). P line (Ok mark)) (λ (line : List ℕ) (mark : Bool). Q line (Ok mark)) (λ line mark. f line (Ok mark)) xs ms h.1)
behind_same P Q f false xs ms h = zip_same (λ (line : List ℕ) (mark : Bool). P line (Ok mark)) (λ (line : List ℕ) (mark : Bool). Q line (Ok mark)) (λ line mark. f line (Ok mark)) xs ms h

picked_same : (headed : Bool) (P Q : List ℕ → Result Bool LineError → Type 0) → ((line : List ℕ) (r : Result Bool LineError) → P line r → Q line r) → (xs : List (List ℕ)) (ps : List (List ℕ) × List (List ℕ))
    → ArePicked headed P xs ps → ArePicked headed Q xs ps
picked_same headed P Q f xs ps (ms, are, is, all) = (ms, behind_same P Q f headed xs ms are, is, all)

decides_not : (P : Type 0) (b : Bool) → Decides b P → Decides (not b) (¬ P)
decides_not P true d = (λ e. absurd (true≢false (sym e)), λ h. absurd (h (d.0 refl)))
decides_not P false d = (λ e p. absurd (true≢false (sym (d.1 p))), λ h. refl)

decides_same : (P Q : Type 0) (b : Bool) → P ↔ Q → Decides b P → Decides b Q
decides_same P Q b same d = (λ e. same.0 (d.0 e), λ k. d.1 (same.1 k))

turned_by : (P : Type 0) (inverted lies picked : Bool) → picked ≡ (if inverted then not lies else lies) → Decides lies P → Decides picked (Turned inverted P)
turned_by P true lies picked e d = subst (λ (k : Bool). Decides k (¬ P)) (sym e) (decides_not P lies d)
turned_by P false lies picked e d = subst (λ (k : Bool). Decides k P) (sym e) d

pub picks_by : (column : Column) (IsIn : Family → List Bool → Type 0) (inverted : Bool) (line : List ℕ) (said : Option IpCidr) (lies picked : Bool)
    → picked ≡ (if inverted then not lies else lies) → FieldSays column line said → Decides lies (LiesIn IsIn said)
    → PicksByField column IsIn inverted line (Ok picked)
picks_by column IsIn inverted line said lies picked e says d = (said, says, turned_by (LiesIn IsIn said) inverted lies picked e d)

pub picks_anywhere : (column : Column) (IsIn : Family → List Bool → Type 0) (inverted : Bool) (line : List ℕ) (found picked : Bool)
    → picked ≡ (if inverted then not found else found) → Decides found (HasOneIn IsIn line) → PicksBy true column IsIn inverted line (Ok picked)
picks_anywhere column IsIn inverted line found picked e d = turned_by (HasOneIn IsIn line) inverted found picked e d

-- by the list as by its set
module _ (IsIn : Family → List Bool → Type 0) (sets : Sets) (h : (family : Family) → IsSetOf 129 (IsIn family) (networks_of sets family)) where
  within_same : (family : Family) (prefix : List Bool) → AreWithin (IsInSets sets) family prefix ↔ AreWithin IsIn family prefix
  within_same family prefix = (
    λ k a wide begins. ((h family).exact a wide).0 (k a wide begins),
    λ k a wide begins. ((h family).exact a wide).1 (k a wide begins),
  )

  lies_same : (what : Option IpCidr) → LiesIn (IsInSets sets) what ↔ LiesIn IsIn what
  lies_same None = (λ e. e, λ e. e)
  lies_same (Some network) = within_same (network_family network) (network_prefix network)

  one_same : (line : List ℕ) → HasOneIn (IsInSets sets) line ↔ HasOneIn IsIn line
  one_same line = (
    λ (family, (word, among, (text, bare, (address, spells, within)))).
        (family, (word, among, (text, bare, (address, spells, (within_same family address).0 within)))),
    λ (family, (word, among, (text, bare, (address, spells, within)))).
        (family, (word, among, (text, bare, (address, spells, (within_same family address).1 within)))),
  )

  picks_by_same : (anywhere : Bool) (column : Column) (inverted : Bool) (line : List ℕ) (r : Result Bool LineError)
      → PicksBy anywhere column (IsInSets sets) inverted line r → PicksBy anywhere column IsIn inverted line r
  picks_by_same true column inverted line (Ok picked) d =
      decides_same (Turned inverted (HasOneIn (IsInSets sets) line)) (Turned inverted (HasOneIn IsIn line)) picked
      (turned_same inverted (HasOneIn (IsInSets sets) line) (HasOneIn IsIn line) (one_same line)) d
  picks_by_same true column inverted line (Err e) bad = absurd bad
  picks_by_same false column inverted line (Ok picked) (what, says, d) = (
    what,
    says,
    decides_same (Turned inverted (LiesIn (IsInSets sets) what)) (Turned inverted (LiesIn IsIn what)) picked
        (turned_same inverted (LiesIn (IsInSets sets) what) (LiesIn IsIn what) (lies_same what)) d,
  )
  picks_by_same false column inverted line (Err e) bad = bad

  pub picks_same : (anywhere : Bool) (column : Column) (inverted : Bool) (line : List ℕ) (r : Result Bool LineError)
      → Picks anywhere column (IsInSets sets) inverted line r → Picks anywhere column IsIn inverted line r
  picks_same anywhere column inverted line r (inl long) = inl long
  picks_same anywhere column inverted line r (inr (short, picks)) = inr (short, picks_by_same anywhere column inverted line r picks)

-- ---- what is written
flat_none : (f : List ℕ → List ℕ) → ((l : List ℕ) → f l ≡ []) → (ls : List (List ℕ)) → flat_map f ls ≡ []
flat_none f none [] = refl
flat_none f none (l ∷ ls) = ap (λ (k : List ℕ). k ++ flat_map f ls) (none l) ∙ flat_none f none ls

all_split : (label : List ℕ) (what : Written) (picked : List (List ℕ) × List (List ℕ))
    → all_written label what picked ≡ flat_map (line_written label what) picked.0 ++ rest_written label what (length picked.1)
all_split label written.Lines picked = sym (append-nil (flat_map (line_written label written.Lines) picked.0))
all_split label written.Count picked =
    sym (ap (λ (k : List ℕ). k ++ rest_written label written.Count (length picked.1)) (flat_none (line_written label written.Count) (λ l. refl) picked.0))
all_split label written.Nothing picked = sym (ap (λ (k : List ℕ). k ++ []) (flat_none (line_written label written.Nothing) (λ l. refl) picked.0))

-- a block with more behind it is written
pub rest_gone : (s t u : State) (block next more : List ℕ) (r : Result (Unit {0}) OutputFailed) → Collects s t block next more (Ok tt) → Writes t u next r
    → Writes s u (block ++ more) r
rest_gone s t u block next more r (before, whole, split) wrote =
    subst (λ (k : List ℕ). Writes s u k r) (sym split) (then_writes s t u before next r whole wrote)

-- what is not yet written is written, or not all of it
pub stops_by : (e : CommandError) (s t : State) (block : List ℕ) (w : Result (Unit {0}) OutputFailed) → e ≢ error.Output → Writes s t block w
    → Stops e s t block (Err (ended_by e w))
stops_by (error.Argument text e) s t block w other wrote = (w, wrote, refl)
stops_by (error.Line name n e) s t block w other wrote = (w, wrote, refl)
stops_by (error.Input name why) s t block w other wrote = (w, wrote, refl)
stops_by error.NoMemory s t block w other wrote = (w, wrote, refl)
stops_by error.Output s t block w other wrote = absurd (other refl)
stops_by (error.File name why) s t block w other wrote = (w, wrote, refl)

-- ---- one part
module _ (P : List ℕ → Result Bool LineError → Type 0) (label : List ℕ) (what : Written) (file : List ℕ) (number : ℕ) where
  pub takes_none : (here : Bool) (part : List ℕ) (more : Bool) (s : State) (g : Gathered) → ArePicked here P (lines_of_part part more) no_lines
      → GathersPart here P label what file number part more s s g g (Ok tt)
  takes_none here part more s g are = (no_lines, are, omega arith, omega arith, none_collected s g.block)

  pub takes_empty : (here : Bool) (part : List ℕ) (more : Bool) (s : State) (g : Gathered) → lines_of_part part more ≡ [] → GathersPart here P label what file number part more s s g g (Ok tt)
  takes_empty here part more s g empty =
      takes_none here part more s g (subst (λ (k : List (List ℕ)). ArePicked here P k no_lines) (sym empty) (none_picked here P))

  -- a line that is no header
  module _ (here : Bool) (row : here ≡ false) where
    pub takes_passed : (part : List ℕ) (more : Bool) (s : State) (g : Gathered) → lines_of_part part more ≡ part ∷ [] → P part (Ok false)
        → GathersPart here P label what file number part more s s g g (Ok tt)
    takes_passed part more s g one passed =
        rw row (takes_none false part more s g (subst (λ (k : List (List ℕ)). ArePicked false P k no_lines) (sym one) (one_passed P part passed)))

    pub takes_picked : (part : List ℕ) (more : Bool) (s t : State) (before after : Gathered) → lines_of_part part more ≡ part ∷ [] → P part (Ok true)
        → after.count ≡ before.count + 1 → Collects s t before.block after.block (line_written label what part) (Ok tt)
        → GathersPart here P label what file number part more s t before after (Ok tt)
    takes_picked part more s t before after one picks count collects = rw row (
      (part ∷ [], part ∷ []),
      subst (λ (k : List (List ℕ)). ArePicked false P k (part ∷ [], part ∷ [])) (sym one) (one_picked P part picks),
      count,
      omega arith,
      subst (λ (k : List ℕ). Collects s t before.block after.block k (Ok tt)) (sym (append-nil (line_written label what part))) collects,
    )

    pub takes_lost : (part : List ℕ) (more : Bool) (s t : State) (before after : Gathered) → lines_of_part part more ≡ part ∷ [] → P part (Ok true)
        → Part s t (before.block ++ line_written label what part) → GathersPart here P label what file number part more s t before after (Err error.Output)
    takes_lost part more s t before after one picks failed = rw row (one, (part ∷ [], one_picked P part picks, failed))

  -- a header
  pub takes_header : (here : Bool) (part : List ℕ) (more : Bool) (s t : State) (before after : Gathered) (r : Result (Unit {0}) CommandError) → here ≡ true → number ≡ 1
      → lines_of_part part more ≡ part ∷ [] → TakesHeader label what file part s t before after r → GathersPart here P label what file number part more s t before after r
  takes_header here part more s t before after (Ok a) is at one (short, count, collects) = rw is (
    (part ∷ [], []),
    subst (λ (k : List (List ℕ)). ArePicked true P k (part ∷ [], [])) (sym one) (header_picked P part short),
    omega (arith, count),
    omega arith,
    subst (λ (k : List ℕ). Collects s t before.block after.block k (Ok tt)) (sym (append-nil (line_written label what part))) collects,
  )
  takes_header here part more s t before after (Err (error.Argument text e)) is at one h = absurd h
  takes_header here part more s t before after (Err (error.Line name n e)) is at one (same, first, why, long, still, kept) =
      rw is (one, (same, first ∙ sym at, (why, long), still, kept))
  takes_header here part more s t before after (Err (error.Input name why)) is at one h = absurd h
  takes_header here part more s t before after (Err error.NoMemory) is at one h = absurd h
  takes_header here part more s t before after (Err error.Output) is at one (short, failed) = rw is (one, ([], header_picked P part short, failed))
  takes_header here part more s t before after (Err (error.File name e)) is at one h = absurd h

module _ (headed : Bool) (P : List ℕ → Result Bool LineError → Type 0) (label : List ℕ) (what : Written) where
  -- the lines before this number were read
  pub record Passed (text : List ℕ) (left : Option (List ℕ)) (number : ℕ) (picked : List (List ℕ) × List (List ℕ)) (long : Option ℕ) : Type 0 where
    pub rest : List ℕ
    pub known : left ≡ Some rest
    pub read : List (List ℕ)
    pub lines : lines_in text ≡ read ++ lines_in rest
    pub size : length rest ≤ length text
    pub place : number ≡ length read + 1
    pub are : ArePicked headed P read picked
    pub first : IsFirstLong read long

  pub record Streamed (known left : Option (List ℕ)) (s t : State) (number count : ℕ) (block : List ℕ) (long : Option ℕ) : Type 0 where
    pub picked : List (List ℕ) × List (List ℕ)
    pub collected : Holds s t block (flat_map (line_written label what) picked.0)
    pub counted : count ≡ length picked.1
    pub few : count < number
    pub passed : IfSome known (λ text. Passed text left number picked long)
    pub quiet : NeedsMore what picked.1

  -- the part of this number was taken too
  pub record Reached (text : List ℕ) (next : Option (List ℕ)) (number : ℕ) (more : Bool) (picked : List (List ℕ) × List (List ℕ)) (long : Option ℕ) : Type 0 where
    pub read : List (List ℕ)
    pub after : List (List ℕ)
    pub to : ReadTo (ArePicked headed P) (lines_in text) read after picked
    pub first : IsFirstLong read long
    pub stops : StopsAtPicked headed P what read
    pub over : more ≡ false → after ≡ []
    pub on : more ≡ true → Passed text next (number + 1) picked long

  pub record Taken (known next : Option (List ℕ)) (s t : State) (number count : ℕ) (block : List ℕ) (more : Bool) (long : Option ℕ) : Type 0 where
    pub picked : List (List ℕ) × List (List ℕ)
    pub collected : Holds s t block (flat_map (line_written label what) picked.0)
    pub counted : count ≡ length picked.1
    pub few : count < number + 1
    pub reached : IfSome known (λ text. Reached text next number more picked long)

  pub nothing_passed : (known : Option (List ℕ)) → IfSome known (λ text. Passed text known 1 no_lines None)
  nothing_passed None = tt
  nothing_passed (Some text) = record { rest = text; known = refl; read = []; lines = refl; size = omega arith; place = refl; are = none_picked headed P; first = tt }

  pub started : (known : Option (List ℕ)) (s : State) (count : ℕ) (block : List ℕ) → count ≡ 0 → block ≡ [] → Streamed known known s s 1 count block None
  started known s count block zero empty = record {
    picked = no_lines;
    collected = subst (λ (k : List ℕ). Holds s s k []) (sym empty) (nothing_held s);
    counted = zero;
    few = omega (arith, zero);
    passed = nothing_passed known;
    quiet = λ e. refl;
  }

  reached_by : (known left next : Option (List ℕ)) (number : ℕ) (part : List ℕ) (more : Bool) (picked one : List (List ℕ) × List (List ℕ)) (long now : Option ℕ)
      → IfSome known (λ text. Passed text left number picked long) → IfSome left (λ text. IsNextLine text part more next)
      → ArePicked (headed && (number == 1)) P (lines_of_part part more) one → NotesLong number part long now → NeedsMore what picked.1
      → IfSome known (λ text. Reached text next number more (picked.0 ++ one.0, picked.1 ++ one.1) now)
  reached_by None left next number part more picked one long now p n k notes quiet = tt
  reached_by (Some text) left next number part more picked one long now p n k notes quiet =
      let (after, lines, over, on) = part_read p.rest part more next (rw p.known at n) in
      let all : lines_in text ≡ (p.read ++ lines_of_part part more) ++ after =
      p.lines ∙ (ap (λ (z : List (List ℕ)). p.read ++ z) lines ∙ sym (append_assoc p.read (lines_of_part part more) after)) in
      let are : ArePicked headed P (p.read ++ lines_of_part part more) (picked.0 ++ one.0, picked.1 ++ one.1) =
      picked_both headed (headed && (number == 1)) P p.read (lines_of_part part more) picked one (headed_here headed number p.read p.place) p.are k in
      let first : IsFirstLong (p.read ++ lines_of_part part more) now = long_on p.read number part more long now p.place p.first notes in
      record {
        read = p.read ++ lines_of_part part more;
        after = after;
        to = record { lines = all; are = are };
        first = first;
        stops = (p.read, lines_of_part part more, refl, part_few part more, picked, p.are, quiet);
        over = over;
        on = λ e.
            let (rest, known, is, less) = on e in
            record {
              rest = rest;
              known = known;
              read = p.read ++ lines_of_part part more;
              lines = all ∙ ap (λ (z : List (List ℕ)). (p.read ++ lines_of_part part more) ++ z) is;
              size = omega (arith, p.size, less);
              place = omega (arith, p.place, length-append p.read (lines_of_part part more), ap (λ (b : Bool). length (lines_of_part part b)) e);
              are = are;
              first = first;
            };
      }

  pub take_on : (file : List ℕ) (known left next : Option (List ℕ)) (s t u : State) (number : ℕ) (part : List ℕ) (more : Bool) (before after : Gathered) (long now : Option ℕ)
      → Streamed known left s t number before.count before.block long → IfSome left (λ text. IsNextLine text part more next) → NotesLong number part long now
      → GathersPart (headed && (number == 1)) P label what file number part more t u before after (Ok tt) → Taken known next s u number after.count after.block more now
  take_on file known left next s t u number part more before after long now st n notes (one, are, count, few, collects) = record {
    picked = (st.picked.0 ++ one.0, st.picked.1 ++ one.1);
    collected = subst (Holds s u after.block) (sym (flat_map-append (line_written label what) st.picked.0 one.0))
        (held_then s t u before.block after.block (flat_map (line_written label what) st.picked.0) (flat_map (line_written label what) one.0) st.collected collects);
    counted = omega (arith, count, st.counted, length-append st.picked.1 one.1);
    few = omega (arith, count, few, st.few);
    reached = reached_by known left next number part more st.picked one long now st.passed n are notes st.quiet;
  }

  passed_on : (known next : Option (List ℕ)) (number : ℕ) (more : Bool) (picked : List (List ℕ) × List (List ℕ)) (long : Option ℕ) → more ≡ true
      → IfSome known (λ text. Reached text next number more picked long) → IfSome known (λ text. Passed text next (number + 1) picked long)
  passed_on None next number more picked long e r = tt
  passed_on (Some text) next number more picked long e r = r.on e

  pub go_on : (known next : Option (List ℕ)) (s t : State) (number count : ℕ) (block : List ℕ) (more done : Bool) (long : Option ℕ) → Decides done (IsDone what more count)
      → done ≡ false → Taken known next s t number count block more long → Streamed known next s t (number + 1) count block long
  go_on known next s t number count block true done long d e k = record {
    picked = k.picked;
    collected = k.collected;
    counted = k.counted;
    few = k.few;
    passed = passed_on known next number true k.picked long refl k.reached;
    quiet = λ nothing. none_yet k.picked.1 count k.counted (λ some. true≢false (sym (d.1 (inr (nothing, some))) ∙ e));
  }
  go_on known next s t number count block false done long d e k = absurd (true≢false (sym (d.1 (inl refl)) ∙ e))

  -- ---- the end
  some_picked : (picked : List (List ℕ)) (count : ℕ) → count ≡ length picked → 0 < count → picked ≢ []
  some_picked picked count is some e = absurd (omega (arith, is, some, ap length e))

  no_picked : (picked : List (List ℕ)) (count : ℕ) → count ≡ length picked → count ≡ 0 → picked ≡ []
  no_picked [] count is none = refl
  no_picked (line ∷ picked) count is none = absurd (omega (arith, is, none))

  is_yes : (count : ℕ) (verdict : Verdict) → 0 < count → IsCounted count verdict → verdict ≡ Yes
  is_yes count Yes some h = refl
  is_yes count No some h = absurd (omega (arith, some, h))

  by_count : (picked : List (List ℕ)) (count : ℕ) (verdict : Verdict) → count ≡ length picked → IsCounted count verdict → ArePickedBy picked verdict
  by_count picked count Yes is h = some_picked picked count is h
  by_count picked count No is h = no_picked picked count is h

  matched_whole : (known next : Option (List ℕ)) (number count : ℕ) (more : Bool) (picked : List (List ℕ) × List (List ℕ)) (long : Option ℕ) (verdict : Verdict) → IsDone what more count
      → count ≡ length picked.1 → IsCounted count verdict → IfSome known (λ text. Reached text next number more picked long)
      → IfSome known (λ text. IsMatch headed P label what text long (all_written label what picked) verdict)
  matched_whole None next number count more picked long verdict done is h r = tt
  matched_whole (Some text) next number count more picked long verdict done is h r =
      let enough : IsEnough what r.after verdict = elim done [
        | inl e ↦ inl (r.over e)
        | inr (nothing, some) ↦ inr (nothing, is_yes count verdict some h)
      ] in
      (r.read, r.after, picked, r.to, r.first, enough, refl, by_count picked.1 count verdict is h, r.stops)

  match_but : (known : Option (List ℕ)) (answer : List ℕ) (n : ℕ) (verdict : Verdict) (e : CommandError) → IfSome known (λ text. IsMatch headed P label what text (Some n) answer verdict)
      → IsLongOrLost n e → IfSome known (λ text. IsEndedBy headed P label what text answer e)
  match_but None answer n verdict e match of = tt
  match_but (Some text) answer n verdict e match of = inr (n, verdict, match, of)

  -- the first line that is too long is told behind the answer
  told_too : (file : Bor (List ℕ)) (known : Option (List ℕ)) (s u : State) (answer : List ℕ) (long : Option ℕ) (verdict : Verdict) (w : Result (Unit {0}) OutputFailed)
      → IfSome known (λ text. IsMatch headed P label what text long answer verdict) → Answered s u answer w → Streams headed P label what file.now known s u (told_behind file long (by_output verdict w))
  told_too file known s u answer None verdict w match wrote = inl (answer, verdict, w, match, wrote, refl)
  told_too file known s u answer (Some n) verdict (Ok a) match wrote =
      inr (error.Line file n TooLong, refl, refl, answer, wrote, match_but known answer n verdict (error.Line file n TooLong) match (refl, refl))
  told_too file known s u answer (Some n) verdict (Err f) match wrote =
      inr (error.Output, refl, tt, answer, wrote, match_but known answer n verdict error.Output match tt)

  pub ended : (file : Bor (List ℕ)) (known next : Option (List ℕ)) (s t u : State) (number : ℕ) (gathered : Gathered) (more done : Bool) (long : Option ℕ) (r : Result Verdict CommandError)
      → Decides done (IsDone what more gathered.count) → done ≡ true → s.failed ≡ false
      → Taken known next s t number gathered.count gathered.block more long → Finishes label what t u gathered r → Streams headed P label what file.now known s u (told_behind file long r)
  ended file known next s t u number gathered more done long r d e fine k (verdict, w, counted, writes, is) =
      let (before, whole, split) = k.collected in
      let rest : List ℕ = rest_written label what gathered.count in
      let all : before ++ (gathered.block ++ rest) ≡ all_written label what k.picked =
      sym (append_assoc before gathered.block rest) ∙ (ap (λ (z : List ℕ). z ++ rest) (sym split)
      ∙ (ap (λ (n : ℕ). flat_map (line_written label what) k.picked.0 ++ rest_written label what n) k.counted ∙ sym (all_split label what k.picked))) in
      let wrote : Writes s u (all_written label what k.picked) w =
      subst (λ (z : List ℕ). Writes s u z w) all (then_writes s t u before (gathered.block ++ rest) w whole writes) in
      rw is (told_too file known s u (all_written label what k.picked) long verdict w
      (matched_whole known next number gathered.count more k.picked long verdict (d.0 e) k.counted counted k.reached)
      (answered s u (all_written label what k.picked) w fine wrote))

  -- ---- a file that is not read to its end
  pub cut_here : (known left : Option (List ℕ)) (number : ℕ) (picked : List (List ℕ) × List (List ℕ)) (long : Option ℕ) (e : CommandError)
      → ((read after : List (List ℕ)) → IsStop (IsBadBehind headed (IsErrorBy P)) read after e) → IfSome known (λ text. Passed text left number picked long)
      → NeedsMore what picked.1 → IfSome known (λ text. IsEndedBy headed P label what text (flat_map (line_written label what) picked.0) e)
  cut_here None left number picked long e stops p quiet = tt
  cut_here (Some text) left number picked long e stops p quiet =
      inl (picked, (p.read, lines_in p.rest, record { lines = p.lines; are = p.are }, stops p.read (lines_in p.rest)), refl, quiet)

  -- what is not yet written is written
  stopped : (file : List ℕ) (known : Option (List ℕ)) (s t u : State) (block : List ℕ) (picked : List (List ℕ) × List (List ℕ)) (e : CommandError)
      (w : Result (Unit {0}) OutputFailed) (r : Result Verdict CommandError) → s.failed ≡ false → IsOfFile file e
      → ((text : List ℕ) → Whole s u text × (u.failed ≡ false) → IsWritten s u text e) → Holds s t block (flat_map (line_written label what) picked.0) → Writes t u block w
      → r ≡ Err (ended_by e w) → IfSome known (λ text. IsEndedBy headed P label what text (flat_map (line_written label what) picked.0) e)
      → IfSome known (λ text. IsEndedBy headed P label what text (flat_map (line_written label what) picked.0) error.Output) → Streams headed P label what file known s u r
  stopped file known s t u block picked e (Ok a) r fine of goes collected wrote is cut lost = inr (
    e,
    is,
    of,
    flat_map (line_written label what) picked.0,
    goes (flat_map (line_written label what) picked.0) (answered s u (flat_map (line_written label what) picked.0) (Ok a) fine
        (last_block s t u block (flat_map (line_written label what) picked.0) (Ok a) collected wrote)),
    cut,
  )
  stopped file known s t u block picked e (Err f) r fine of goes collected wrote is cut lost = inr (
    error.Output,
    is,
    tt,
    flat_map (line_written label what) picked.0,
    answered s u (flat_map (line_written label what) picked.0) (Err f) fine
        (last_block s t u block (flat_map (line_written label what) picked.0) (Err f) collected wrote),
    lost,
  )

  pub unread : (file : List ℕ) (known left : Option (List ℕ)) (s t u : State) (number count : ℕ) (block : List ℕ) (long : Option ℕ) (e : CommandError) (r : Result Verdict CommandError)
      → s.failed ≡ false → IsNotReadFurther file e → Streamed known left s t number count block long → Stops e t u block r → Streams headed P label what file known s u r
  unread file known left s t u number count block long (error.Argument text e) r fine h st stops = absurd h
  unread file known left s t u number count block long (error.Line name n e) r fine h st stops = absurd h
  unread file known left s t u number count block long (error.Input name why) r fine h st (w, wrote, is) =
      stopped file known s t u block st.picked (error.Input name why) w r fine h (λ text all. all) st.collected wrote is
      (cut_here known left number st.picked long (error.Input name why) (λ _ _. tt) st.passed st.quiet)
      (cut_here known left number st.picked long error.Output (λ _ _. tt) st.passed st.quiet)
  unread file known left s t u number count block long error.NoMemory r fine h st (w, wrote, is) =
      stopped file known s t u block st.picked error.NoMemory w r fine tt (λ text all. all) st.collected wrote is
      (cut_here known left number st.picked long error.NoMemory (λ _ _. tt) st.passed st.quiet)
      (cut_here known left number st.picked long error.Output (λ _ _. tt) st.passed st.quiet)
  unread file known left s t u number count block long error.Output r fine h st stops = absurd h
  unread file known left s t u number count block long (error.File name why) r fine h st stops = absurd h

  -- what is left is told too
  pub left_known : (known left : Option (List ℕ)) (s t : State) (number count : ℕ) (block : List ℕ) (long : Option ℕ) → Streamed known left s t number count block long → KnownOf known left
  left_known None left s t number count block long st = tt
  left_known (Some text) left s t number count block long st = (st.passed.rest, st.passed.known, st.passed.size)

  -- there are more lines than numbers
  pub numbers_used : (known left : Option (List ℕ)) (s t : State) (number count : ℕ) (block : List ℕ) (long : Option ℕ) → Streamed known left s t number count block long
      → 18446744073709551615 ≤ number → TextFails known
  numbers_used None left s t number count block long st most = tt
  numbers_used (Some text) left s t number count block long st most =
      enough_bytes text (more_parts 18446744073709551614 text
      (longer_than 18446744073709551614 (lines_in text) st.passed.read (lines_in st.passed.rest) number st.passed.lines st.passed.place most))

  -- what was collected is written before more is read, or not all of it
  pub caught_up : (known left : Option (List ℕ)) (s t u : State) (number count after : ℕ) (block next : List ℕ) (long : Option ℕ) → after ≡ count → Collects t u block next [] (Ok tt)
      → Streamed known left s t number count block long → Streamed known left s u number after next long
  caught_up known left s t u number count after block next long same more st = record {
    picked = st.picked;
    collected = subst (Holds s u next) (append-nil (flat_map (line_written label what) st.picked.0))
        (held_then s t u block next (flat_map (line_written label what) st.picked.0) [] st.collected more);
    counted = same ∙ st.counted;
    few = omega (arith, same, st.few);
    passed = st.passed;
    quiet = st.quiet;
  }

  pub unwritten : (file : List ℕ) (known left : Option (List ℕ)) (s t u : State) (number count : ℕ) (block : List ℕ) (long : Option ℕ) → s.failed ≡ false → Part t u (block ++ [])
      → Streamed known left s t number count block long → Streams headed P label what file known s u (Err error.Output)
  unwritten file known left s t u number count block long fine part st = inr (
    error.Output,
    refl,
    tt,
    flat_map (line_written label what) st.picked.0,
    (
      subst (Part s u) (append-nil (flat_map (line_written label what) st.picked.0)) (held_lost s t u block (flat_map (line_written label what) st.picked.0) [] st.collected part),
      λ before. absurd (true≢false (sym before ∙ fine)),
    ),
    cut_here known left number st.picked long error.Output (λ _ _. tt) st.passed st.quiet,
  )

  pub failed_before : (file : List ℕ) (known : Option (List ℕ)) (s : State) → s.failed ≡ true → Streams headed P label what file known s s (Err error.Output)
  failed_before file known s failed =
      inr (error.Output, refl, tt, [], (part_none s [] failed, λ _. refl), cut_here known known 1 no_lines None error.Output (λ _ _. tt) (nothing_passed known) (λ e. refl))

  cut_at_line : (known left next : Option (List ℕ)) (number : ℕ) (part : List ℕ) (more : Bool) (picked : List (List ℕ) × List (List ℕ)) (long : Option ℕ) (e : CommandError)
      → lines_of_part part more ≡ part ∷ [] → IfSome left (λ text. IsNextLine text part more next) → IfSome known (λ text. Passed text left number picked long)
      → ((read after : List (List ℕ)) → number ≡ length read + 1 → IsStop (IsBadBehind headed (IsErrorBy P)) read (part ∷ after) e)
      → NeedsMore what picked.1 → IfSome known (λ text. IsEndedBy headed P label what text (flat_map (line_written label what) picked.0) e)
  cut_at_line None left next number part more picked long e one n p stops quiet = tt
  cut_at_line (Some text) left next number part more picked long e one n p stops quiet =
      let (after, lines, over, on) = part_read p.rest part more next (rw p.known at n) in
      let here : lines_in p.rest ≡ part ∷ after = lines ∙ ap (λ (z : List (List ℕ)). z ++ after) one in
      inl (
        picked,
        (
          p.read,
          part ∷ after,
          record { lines = p.lines ∙ ap (λ (z : List (List ℕ)). p.read ++ z) here; are = p.are },
          stops p.read after p.place,
        ),
        refl,
        quiet,
      )

  cut_behind : (known left next : Option (List ℕ)) (number : ℕ) (part : List ℕ) (more : Bool) (picked : List (List ℕ) × List (List ℕ)) (long : Option ℕ) (e : CommandError)
      → (counted : List (List ℕ)) → lines_of_part part more ≡ part ∷ [] → ArePicked (headed && (number == 1)) P (part ∷ []) (part ∷ [], counted)
      → ((read after : List (List ℕ)) → IsStop (IsBadBehind headed (IsErrorBy P)) read after e)
      → IfSome left (λ text. IsNextLine text part more next) → IfSome known (λ text. Passed text left number picked long) → what ≢ written.Nothing
      → IfSome known (λ text. IsEndedBy headed P label what text (flat_map (line_written label what) (picked.0 ++ part ∷ [])) e)
  cut_behind None left next number part more picked long e counted one h stops n p tells = tt
  cut_behind (Some text) left next number part more picked long e counted one h stops n p tells =
      let (after, lines, over, on) = part_read p.rest part more next (rw p.known at n) in
      let here : lines_in p.rest ≡ part ∷ after = lines ∙ ap (λ (z : List (List ℕ)). z ++ after) one in
      inl (
        (picked.0 ++ part ∷ [], picked.1 ++ counted),
        (
          p.read ++ part ∷ [],
          after,
          record {
            lines = p.lines ∙ (ap (λ (z : List (List ℕ)). p.read ++ z) here ∙ sym (append_assoc p.read (part ∷ []) after));
            are = picked_both headed (headed && (number == 1)) P p.read (part ∷ []) picked (part ∷ [], counted) (headed_here headed number p.read p.place) p.are h;
          },
          stops (p.read ++ part ∷ []) after,
        ),
        refl,
        λ nothing. absurd (tells nothing),
      )

  -- the output failed at a line that is picked, of which -q writes nothing
  lost_at : (file : List ℕ) (known left next : Option (List ℕ)) (s t u v : State) (number count : ℕ) (block part : List ℕ) (more : Bool) (long : Option ℕ)
      (counted : List (List ℕ)) (r : Result Verdict CommandError) → s.failed ≡ false → Streamed known left s t number count block long
      → IfSome left (λ text. IsNextLine text part more next) → lines_of_part part more ≡ part ∷ []
      → ArePicked (headed && (number == 1)) P (part ∷ []) (part ∷ [], counted) → Part t u (block ++ line_written label what part) → v ≡ u → r ≡ Err error.Output
      → (what ≡ written.Nothing) ⊎ (what ≢ written.Nothing) → Streams headed P label what file known s v r
  lost_at file known left next s t u v number count block part more long counted r fine st n one picks failed still is (inl nothing) =
      let text : List ℕ = flat_map (line_written label what) st.picked.0 in
      let none : line_written label what part ≡ [] = ap (λ (w : Written). line_written label w part) nothing in
      inr (
        error.Output,
        is,
        tt,
        text,
        (
          subst (λ (z : State). Part s z text) (sym still) (subst (Part s u) (append-nil text)
              (held_lost s t u block text [] st.collected (subst (λ (z : List ℕ). Part t u (block ++ z)) none failed))),
          λ before. absurd (true≢false (sym before ∙ fine)),
        ),
        cut_here known left number st.picked long error.Output (λ _ _. tt) st.passed st.quiet,
      )
  lost_at file known left next s t u v number count block part more long counted r fine st n one picks failed still is (inr tells) =
      let text : List ℕ = flat_map (line_written label what) st.picked.0 in
      inr (
        error.Output,
        is,
        tt,
        flat_map (line_written label what) (st.picked.0 ++ part ∷ []),
        (
          subst (λ (z : State). Part s z (flat_map (line_written label what) (st.picked.0 ++ part ∷ []))) (sym still)
              (subst (Part s u) (flat_map_more (line_written label what) [] st.picked.0 part) (held_lost s t u block text (line_written label what part) st.collected failed)),
          λ before. absurd (true≢false (sym before ∙ fine)),
        ),
        cut_behind known left next number part more st.picked long error.Output counted one picks (λ _ _. tt) n st.passed tells,
      )

  pub lost : (file : List ℕ) (known left next : Option (List ℕ)) (s t u v : State) (number count : ℕ) (block rest part : List ℕ) (more : Bool) (long : Option ℕ) (e : CommandError)
      (r : Result Verdict CommandError) → s.failed ≡ false → Streamed known left s t number count block long → IfSome left (λ text. IsNextLine text part more next)
      → (lines_of_part part more ≡ part ∷ []) × IsLost (headed && (number == 1)) P label what file number part t u block rest e → Stops e u v rest r → Streams headed P label what file known s v r
  lost file known left next s t u v number count block rest part more long (error.Argument text e) r fine st n h stops = absurd h.1
  lost file known left next s t u v number count block rest part more long (error.Input name why) r fine st n h stops = absurd h.1
  lost file known left next s t u v number count block rest part more long error.NoMemory r fine st n h stops = absurd h.1
  lost file known left next s t u v number count block rest part more long (error.File name why) r fine st n h stops = absurd h.1
  lost file known left next s t u v number count block rest part more long (error.Line name m e) r fine st n (one, (same, place, bad, still, kept)) (w, wrote, is) =
      let collected : Holds s u rest (flat_map (line_written label what) st.picked.0) =
      subst (λ (z : State). Holds s z rest (flat_map (line_written label what) st.picked.0)) (sym still)
      (subst (λ (k : List ℕ). Holds s t k (flat_map (line_written label what) st.picked.0)) (sym kept) st.collected) in
      stopped file known s u v rest st.picked (error.Line name m e) w r fine same (λ text all. all) collected wrote is
      (cut_at_line known left next number part more st.picked long (error.Line name m e) one n st.passed (λ read after at. (
        place ∙ at,
        part,
        after,
        refl,
        bad_behind headed (headed && (number == 1)) (IsErrorBy P) read part e (headed_here headed number read at) bad,
      )) st.quiet)
      (cut_at_line known left next number part more st.picked long error.Output one n st.passed (λ _ _ _. tt) st.quiet)
  lost file known left next s t u v number count block rest part more long error.Output r fine st n (one, (counted, picks, failed)) (still, is) =
      lost_at file known left next s t u v number count block part more long counted r fine st n one picks failed still is (nothing_or what)

-- ---- by the bytes of the files
pub match_same : (headed : Bool) (P Q : List ℕ → Result Bool LineError → Type 0) → ((line : List ℕ) (r : Result Bool LineError) → P line r → Q line r) → (label : List ℕ) (what : Written) (text answer : List ℕ) (long : Option ℕ)
    (verdict : Verdict) → IsMatch headed P label what text long answer verdict → IsMatch headed Q label what text long answer verdict
match_same headed P Q f label what text answer long verdict (read, left, picked, to, first, enough, written, by, (before, last, parts, few, passed, are, quiet)) = (
  read,
  left,
  picked,
  record { lines = to.lines; are = picked_same headed P Q f read picked to.are },
  first,
  enough,
  written,
  by,
  (before, last, parts, few, passed, picked_same headed P Q f before passed are, quiet),
)

known_match : (headed : Bool) (P Q : List ℕ → Result Bool LineError → Type 0) → ((line : List ℕ) (r : Result Bool LineError) → P line r → Q line r) → (label : List ℕ) (what : Written) (known : Option (List ℕ)) (text answer : List ℕ) (verdict : Verdict)
    → known ≡ Some text → IfSome known (λ k. IsMatch headed P label what k None answer verdict) → IsMatch headed Q label what text None answer verdict
known_match headed P Q f label what known text answer verdict is h = match_same headed P Q f label what text answer None verdict (rw is at h)

bad_same : (headed : Bool) (P Q : List ℕ → Result Bool LineError → Type 0) → ((line : List ℕ) (r : Result Bool LineError) → P line r → Q line r) → (read : List (List ℕ)) (line : List ℕ) (e : LineError)
    → IsBadBehind headed (IsErrorBy P) read line e → IsBadBehind headed (IsErrorBy Q) read line e
bad_same true P Q f [] line e h = h
bad_same true P Q f (first ∷ read) line e h = f line (Err e) h
bad_same false P Q f read line e h = f line (Err e) h

stop_same : (headed : Bool) (P Q : List ℕ → Result Bool LineError → Type 0) → ((line : List ℕ) (r : Result Bool LineError) → P line r → Q line r) → (read left : List (List ℕ)) (e : CommandError)
    → IsStop (IsBadBehind headed (IsErrorBy P)) read left e → IsStop (IsBadBehind headed (IsErrorBy Q)) read left e
stop_same headed P Q f read left (error.Argument text e) h = tt
stop_same headed P Q f read left (error.Line name number e) (place, line, after, is, bad) = (place, line, after, is, bad_same headed P Q f read line e bad)
stop_same headed P Q f read left (error.Input name why) h = tt
stop_same headed P Q f read left error.NoMemory h = tt
stop_same headed P Q f read left error.Output h = tt
stop_same headed P Q f read left (error.File name why) h = tt

pub cut_same : (headed : Bool) (P Q : List ℕ → Result Bool LineError → Type 0) → ((line : List ℕ) (r : Result Bool LineError) → P line r → Q line r) → (label : List ℕ) (what : Written) (text answer : List ℕ) (e : CommandError)
    → IsEndedBy headed P label what text answer e → IsEndedBy headed Q label what text answer e
cut_same headed P Q f label what text answer e (inl (picked, (read, left, to, stops), written, quiet)) =
    inl (picked, (read, left, record { lines = to.lines; are = picked_same headed P Q f read picked to.are }, stop_same headed P Q f read left e stops), written, quiet)
cut_same headed P Q f label what text answer e (inr (n, verdict, match, of)) = inr (n, verdict, match_same headed P Q f label what text answer (Some n) verdict match, of)

known_cut : (headed : Bool) (P Q : List ℕ → Result Bool LineError → Type 0) → ((line : List ℕ) (r : Result Bool LineError) → P line r → Q line r) → (label : List ℕ) (what : Written) (known : Option (List ℕ)) (text answer : List ℕ) (e : CommandError)
    → known ≡ Some text → IfSome known (λ k. IsEndedBy headed P label what k answer e) → IsEndedBy headed Q label what text answer e
known_cut headed P Q f label what known text answer e is h = cut_same headed P Q f label what text answer e (rw is at h)

-- what follows of the addresses of a list
pub of_list : (text : Text) (P Q : (Family → List Bool → Type 0) → Type 0) → ((IsIn : Family → List Bool → Type 0) → P IsIn → Q IsIn) → HoldsOf text P → HoldsOf text Q
of_list text P Q f (inl (said, says, h)) = inl (said, says, f (SaysAddress said) h)
of_list text P Q f (inr (table, has, h)) = inr (table, has, f (IsInRow table) h)

matched : (contents : List ℕ → Option Text) (picking : Picking) (list file : List ℕ) (sets : Sets) (known : Option (List ℕ)) (s t : State) (r : Result Verdict CommandError)
    → ((text : Text) → contents list ≡ Some text → HaveListAddresses text sets) → ((text : Text) → contents file ≡ Some text → known ≡ Some text.bytes)
    → Streams picking.headed (PicksOf picking (IsInSets sets)) [] picking.written file known s t r → AnswersRequest contents (Match picking list file) s t r
matched contents picking list file sets known s t r reads tells (inl (answer, verdict, w, match, written, is)) =
    inl (inr (
      answer,
      verdict,
      w,
      λ networks text p q.
          of_list networks _ _ (λ IsIn same. known_match picking.headed _ _ (picks_same IsIn sets same picking.anywhere picking.column picking.inverted) [] picking.written known text.bytes answer verdict (tells text q) match)
          (reads networks p),
      written,
      is,
    ))
matched contents picking list file sets known s t r reads tells (inr (e, is, of_file, answer, begun, cut)) =
    inr (
      e,
      is,
      of_file,
      answer,
      begun,
      λ networks text p q.
          of_list networks _ _ (λ IsIn same. known_cut picking.headed _ _ (picks_same IsIn sets same picking.anywhere picking.column picking.inverted) [] picking.written known text.bytes answer e (tells text q) cut)
          (reads networks p),
    )

-- a file that can't be opened
unopened : (contents : List ℕ → Option Text) (picking : Picking) (list file : List ℕ) (sets : Sets) (s : State) (e : CommandError)
    → ((text : Text) → contents list ≡ Some text → HaveListAddresses text sets) → IsNotReadFurther file e → AnswersRequest contents (Match picking list file) s s (Err e)
unopened contents picking list file sets s (error.Argument text e) reads h = absurd h
unopened contents picking list file sets s (error.Line name number e) reads h = absurd h
unopened contents picking list file sets s (error.Input name why) reads h =
    inl (inl (refl, inr (h, λ text one. of_list text (λ IsIn. (family : Family) → IsSetOf 129 (IsIn family) (networks_of sets family)) (λ IsIn. Unit {0}) (λ IsIn same. tt) (reads text one))))
unopened contents picking list file sets s error.NoMemory reads h = inl (inl (refl, inl tt))
unopened contents picking list file sets s error.Output reads h = absurd h
unopened contents picking list file sets s (error.File name why) reads h = absurd h

pub matched_file : (contents : List ℕ → Option Text) (picking : Picking) (list file : List ℕ) (sets : Sets) (s t : State) (r : Result Verdict CommandError)
    → ((text : Text) → contents list ≡ Some text → HaveListAddresses text sets)
    → StreamsFile picking.headed (PicksOf picking (IsInSets sets)) [] picking.written file (contents file) s t r → AnswersRequest contents (Match picking list file) s t r
matched_file contents picking list file sets s t r reads (inl (same, e, is, of)) = rw (same, is) (unopened contents picking list file sets s e reads of)
matched_file contents picking list file sets s t r reads (inr (known, opens, streams)) = matched contents picking list file sets known s t r reads opens streams
