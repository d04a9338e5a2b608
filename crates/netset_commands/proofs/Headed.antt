-- Addresses of a file whose first line is a header.
use Rattle.std.proofs.Common.{◌≡◌, refl, sym, ◌∙◌, ap, subst, inl, inr, ℕ, ◌<◌, ◌≤◌, Bool, true, false, Bor, List, [], ◌∷◌, ◌++◌, length, arith, Option, Some, None, Result, Ok, Err}
use Rattle.std.specs.Option.{IfSome}
use Rattle.std.specs.List.{flat_map}
use Rattle.std.proofs.lemmas.Bool.{true≢false}
use Rattle.std.proofs.lemmas.List.{append-nil}
use Rattle.cidr.specs.declared.family.Family.{Family}
use Rattle.cidr_io.specs.Collecting.{Collects}
use Rattle.cidr_io.specs.Lines.{MayFail as NoLineFails}
use Rattle.cidr_io.specs.Writing.{State, Whole, Part, Writes, Answered}
use Rattle.cidr_io.specs.declared.sink.OutputFailed.{OutputFailed}
use Rattle.cidr_io.proofs.Chains.{part_none, whole_none, whole_part, whole_whole}
use Rattle.cidr_lists.specs.Lines.{IsBadBehind, last_line, lines_among}
use Rattle.cidr_lists.specs.Lists.{IsTooLong, Text, lines_of}
use Rattle.cidr_lists.specs.LookUps.{IsBadAsked, LinesTell, lines_by, told_line}
use Rattle.cidr_lists.specs.Printing.{line}
use Rattle.cidr_lists.specs.declared.errors.LineError.{LineError}
use Rattle.cidr_lists.specs.declared.errors.LineError.TheVariants.{TooLong}
use Rattle.cidr_lists.specs.declared.fields.Asked.{Asked}
use Rattle.cidr_lists.specs.declared.objects.Telling.{Telling}
use Rattle.cidr_lists.specs.declared.objects.Telling.TheVariants.{Alone, Kept, Objects}
use Rattle.netset_commands.specs.Causes.{Cause, ReadCause, TextFails}
use Rattle.netset_commands.specs.Gathering.{IsNotReadFurther, lines_of_part}
use Rattle.netset_commands.specs.KeptLines.{IsBehindHeader, TellsFile, TellsLeft, header_text}
use Rattle.netset_commands.specs.Look.{HeadedTell, verdict_of}
use Rattle.netset_commands.specs.LookUps.{unread}
use Rattle.netset_commands.specs.Reading.{IsNextLine}
use Rattle.netset_commands.specs.Streaming.{IsCutBehind, IsOfFile, IsStop, IsWritten}
use Rattle.netset_commands.specs.declared.errors.CommandError.{CommandError}
use Rattle.netset_commands.specs.declared.errors.CommandError.TheVariants as error
use Rattle.netset_commands.specs.declared.errors.ListReadError.{ListReadError}
use Rattle.netset_commands.specs.declared.errors.ListReadError.TheVariants.{Line, Input, NoMemory}
use Rattle.netset_commands.specs.declared.output.answers.Verdict.{Verdict}
use Rattle.netset_commands.specs.declared.output.answers.Verdict.TheVariants.{No}
use Rattle.netset_commands.proofs.Causes.{cause_weaker, enough_bytes, known_first, longer_than, told_fails}
use Rattle.netset_commands.proofs.Matched.{more_parts, part_long, part_read, rest_gone}
use Rattle.netset_commands.proofs.ReadBy.{bytes_read}
use Rattle.netset_commands.specs.declared.errors.Reason.{Reason}

-- ---- one line in front of others
-- the lines of a part, and those behind it
lines_next : (telling : Telling) (text part : List ℕ) (next : Option (List ℕ)) → IsNextLine text part true next
    → (rest : List ℕ) × (next ≡ Some rest) × (lines_by telling text ≡ part ∷ lines_by telling rest) × (length rest < length text)
lines_next Alone text part next n = n
lines_next Kept text part next n =
    let (after, lines, over, on) = part_read text part true next n in
    let (rest, known, is, less) = on refl in
    (rest, known, lines ∙ ap (λ (k : List (List ℕ)). part ∷ k) is, less)
lines_next Objects text part next n =
    let (after, lines, over, on) = part_read text part true next n in
    let (rest, known, is, less) = on refl in
    (rest, known, lines ∙ ap (λ (k : List (List ℕ)). part ∷ k) is, less)

-- a line that is too long is one
long_first : (telling : Telling) (text part : List ℕ) (more : Bool) (next : Option (List ℕ)) → IsTooLong part → IsNextLine text part more next
    → (after : List (List ℕ)) × (lines_by telling text ≡ part ∷ after)
long_first Alone text part true next long n = (lines_of n.0, n.2)
long_first Alone text part false next long n = ([], n)
long_first Kept text part more next long n =
    let (after, lines, over, on) = part_read text part more next n in
    (after, lines ∙ ap (λ (k : List (List ℕ)). k ++ after) (part_long part more long))
long_first Objects text part more next long n =
    let (after, lines, over, on) = part_read text part more next n in
    (after, lines ∙ ap (λ (k : List (List ℕ)). k ++ after) (part_long part more long))

-- ---- what is written
header_told : (telling : Telling) (place : Asked) (part : List ℕ) → header_text telling part true ≡ told_line telling place part None
header_told Alone place part = refl
header_told Kept place part = append-nil (line part)
header_told Objects place part = refl

pub part_gone : (s t u : State) (block rest header : List ℕ) (more : Bool) (w : Result (Unit {0}) OutputFailed) → block ≡ [] → lines_of_part header more ≡ header ∷ []
    → Collects s t block rest (line header) (Ok tt) → Writes t u rest w → Writes s u (flat_map line (lines_of_part header more)) w
part_gone s t u block rest header more w none is collects wrote =
    subst (λ (k : List ℕ). Writes s u k w)
    (ap (λ (k : List ℕ). k ++ line header) none ∙ (sym (append-nil (line header)) ∙ ap (flat_map line) (sym is)))
    (rest_gone s t u block rest (line header) w collects wrote)

-- an answer behind it
pub behind_written : (s t u : State) (header answer : List ℕ) (w : Result (Unit {0}) OutputFailed) → s.failed ≡ false → Whole s t header → Answered t u answer w
    → Answered s u (header ++ answer) w
behind_written s t u header answer (Ok a) fine whole (rest, still) = (whole_whole s t u header answer whole rest, still)
behind_written s t u header answer (Err f) fine whole (part, none) = (whole_part s t u header answer whole part, λ failed. absurd (true≢false (sym failed ∙ fine)))

behind_cut : (s t u : State) (header answer : List ℕ) (e new : CommandError) → s.failed ≡ false → Whole s t header → IsBehindHeader e new → IsWritten t u answer e
    → IsWritten s u (header ++ answer) new
behind_cut s t u header answer error.Output new fine whole is (part, none) =
    subst (IsWritten s u (header ++ answer)) (sym is) (whole_part s t u header answer whole part, λ failed. absurd (true≢false (sym failed ∙ fine)))
behind_cut s t u header answer (error.Line name number e) new fine whole (inl (fits, is)) (rest, still) =
    subst (IsWritten s u (header ++ answer)) (sym is) (whole_whole s t u header answer whole rest, still)
behind_cut s t u header answer (error.Line name number e) new fine whole (inr (most, is)) (rest, still) =
    subst (IsWritten s u (header ++ answer)) (sym is) (whole_whole s t u header answer whole rest, still)
behind_cut s t u header answer (error.Argument text e) new fine whole is (rest, still) =
    subst (IsWritten s u (header ++ answer)) (sym is) (whole_whole s t u header answer whole rest, still)
behind_cut s t u header answer (error.Input name why) new fine whole is (rest, still) =
    subst (IsWritten s u (header ++ answer)) (sym is) (whole_whole s t u header answer whole rest, still)
behind_cut s t u header answer error.NoMemory new fine whole is (rest, still) =
    subst (IsWritten s u (header ++ answer)) (sym is) (whole_whole s t u header answer whole rest, still)
behind_cut s t u header answer (error.File name why) new fine whole is (rest, still) =
    subst (IsWritten s u (header ++ answer)) (sym is) (whole_whole s t u header answer whole rest, still)

of_behind : (file : List ℕ) (e new : CommandError) → IsBehindHeader e new → IsOfFile file e → IsOfFile file new
of_behind file error.Output new is h = subst (IsOfFile file) (sym is) h
of_behind file (error.Line name number e) new (inl (fits, is)) h = subst (IsOfFile file) (sym is) h
of_behind file (error.Line name number e) new (inr (most, is)) h = subst (IsOfFile file) (sym is) h
of_behind file (error.Argument text e) new is h = subst (IsOfFile file) (sym is) h
of_behind file (error.Input name why) new is h = subst (IsOfFile file) (sym is) h
of_behind file error.NoMemory new is h = subst (IsOfFile file) (sym is) h
of_behind file (error.File name why) new is h = subst (IsOfFile file) (sym is) h

-- ---- a header alone
nothing_tells : (telling : Telling) (place : Asked) (table : Family → List (List Bool × List ℕ)) → LinesTell telling place table [] ([], false)
nothing_tells telling place table = ([], tt, refl, refl)

kept_last : (place : Asked) (table : Family → List (List Bool × List ℕ)) (part : List ℕ) → ¬ (IsTooLong part)
    → HeadedTell true Kept place table (last_line part) (header_text Kept part false, false)
kept_last place table [] short = nothing_tells Kept place table
kept_last place table (byte ∷ part) short = ([], nothing_tells Kept place table, short, refl)

object_last : (place : Asked) (table : Family → List (List Bool × List ℕ)) (part : List ℕ) → ¬ (IsTooLong part)
    → HeadedTell true Objects place table (last_line part) ([], false)
object_last place table [] short = nothing_tells Objects place table
object_last place table (byte ∷ part) short = ([], nothing_tells Objects place table, short, refl)

last_told : (telling : Telling) (place : Asked) (table : Family → List (List Bool × List ℕ)) (text part : List ℕ) → ¬ (IsTooLong part) → lines_of text ≡ part ∷ []
    → HeadedTell true telling place table (lines_by telling text) (header_text telling part false, false)
last_told Alone place table text part short is =
    subst (λ (k : List (List ℕ)). HeadedTell true Alone place table k ([], false)) (sym is) ([], nothing_tells Alone place table, short, refl)
last_told Kept place table text part short is =
    subst (λ (k : List (List ℕ)). HeadedTell true Kept place table (lines_among k) (header_text Kept part false, false)) (sym is) (kept_last place table part short)
last_told Objects place table text part short is =
    subst (λ (k : List (List ℕ)). HeadedTell true Objects place table (lines_among k) ([], false)) (sym is) (object_last place table part short)

-- ---- more lines than there are numbers for
all_parts : (telling : Telling) (most : ℕ) (text : List ℕ) → most ≤ length (lines_by telling text) → most ≤ length (lines_of text)
all_parts Alone most text h = h
all_parts Kept most text h = more_parts most text h
all_parts Objects most text h = more_parts most text h

fails_before : (known next : Option (List ℕ)) (part : List ℕ) → IfSome known (λ text. IsNextLine text part true next) → TextFails next → TextFails known
fails_before None next part n h = tt
fails_before (Some text) next part n h =
    let many : 18446744073709551613 ≤ length n.0 = subst TextFails n.1 h in
    omega (arith, many, n.3)

-- ---- what is left of a file without a header
pub left_cause : (file : Bor (List ℕ)) (left : Option (List ℕ)) (refused : Bool) (e : ListReadError) → ReadCause (TextFails left) refused e
    → Cause (λ name _. (name ≡ file.now) × TextFails left) refused (unread file e)
left_cause file left refused (Line number e) h = tt
left_cause file left refused Input h = (refl, h)
left_cause file left refused NoMemory h = h

-- ---- a file that is opened
pub opened : (headed : Bool) (telling : Telling) (place : Asked) (table : Family → List (List Bool × List ℕ)) (contents : Option Text) (left : Option (List ℕ)) (file : List ℕ)
    (s t : State) (r : Result Verdict CommandError) → ((text : Text) → contents ≡ Some text → left ≡ Some text.bytes)
    → TellsLeft headed telling place table left file s t r → TellsFile headed telling place table contents file s t r
opened headed telling place table contents left file s t r opens h = inr (left, opens, h)

abbrev err_of : CommandError → Result Verdict CommandError
err_of e = Err e

err_same : (x y : CommandError) → err_of x ≡ err_of y → x ≡ y
err_same x y is = cc

not_ok : (verdict : Verdict) (e : CommandError) → Ok verdict ≡ err_of e → ⊥
not_ok verdict e is = cc

module _ (telling : Telling) (place : Asked) (table : Family → List (List Bool × List ℕ)) where
  -- what lines tell, behind a header and with it
  abbrev Tell : List (List ℕ) → List ℕ × Bool → Type 0
  Tell lines told = LinesTell telling place table lines told

  abbrev Told : List (List ℕ) → List ℕ × Bool → Type 0
  Told lines told = HeadedTell true telling place table lines told

  none_tell : Tell [] ([], false)
  none_tell = ([], tt, refl, refl)

  behind : (part : List ℕ) (lines : List (List ℕ)) (answer : List ℕ) (found : Bool) → ¬ (IsTooLong part) → Tell lines (answer, found)
      → Told (part ∷ lines) (header_text telling part true ++ answer, found)
  behind part lines answer found short h = (answer, h, short, ap (λ (k : List ℕ). k ++ answer) (header_told telling place part))

  -- ---- lines that were read up to some that are left
  abbrev Left : Bool → List ℕ → CommandError → List ℕ → Type 0
  Left headed answer e text =
      (found : Bool) × IsCutBehind (HeadedTell headed telling place table) (IsBadBehind headed (IsBadAsked place)) (lines_by telling text) (answer, found) e

  -- none of them
  nothing_left : (text : List ℕ) (e : CommandError) → ((left : List (List ℕ)) → IsStop (IsBadBehind true (IsBadAsked place)) [] left e) → Left true [] e text
  nothing_left text e stops = (false, ([], lines_by telling text, record { lines = refl; are = none_tell }, stops (lines_by telling text)))

  nothing_cut : (known : Option (List ℕ)) (e : CommandError) → ((left : List (List ℕ)) → IsStop (IsBadBehind true (IsBadAsked place)) [] left e)
      → IfSome known (Left true [] e)
  nothing_cut None e stops = tt
  nothing_cut (Some text) e stops = nothing_left text e stops

  pub nothing_told : (known : Option (List ℕ)) (file : List ℕ) (s : State) → s.failed ≡ true → TellsLeft true telling place table known file s s (Err error.Output)
  nothing_told known file s failed = inr (error.Output, refl, tt, [], (part_none s [] failed, λ _. refl), nothing_cut known error.Output (λ _. tt))

  -- a file that is not read
  pub not_read : (known : Option (List ℕ)) (file : List ℕ) (s : State) (e : CommandError) → s.failed ≡ false → IsNotReadFurther file e
      → TellsLeft true telling place table known file s s (Err e)
  not_read known file s (error.Argument text e) fine h = absurd h
  not_read known file s (error.Line name number e) fine h = absurd h
  not_read known file s (error.Input name why) fine h = inr (error.Input name why, refl, h, [], (whole_none s, fine), nothing_cut known (error.Input name why) (λ _. tt))
  not_read known file s error.NoMemory fine h = inr (error.NoMemory, refl, tt, [], (whole_none s, fine), nothing_cut known error.NoMemory (λ _. tt))
  not_read known file s error.Output fine h = absurd h
  not_read known file s (error.File name why) fine h = absurd h

  -- a header that is too long
  long_left : (known : Option (List ℕ)) (next : Option (List ℕ)) (part : List ℕ) (more : Bool) (file : Bor (List ℕ)) → IsTooLong part
      → IfSome known (λ text. IsNextLine text part more next) → IfSome known (Left true [] (error.Line file 1 TooLong))
  long_left None next part more file long n = tt
  long_left (Some text) next part more file long n =
      let (after, lines) = long_first telling text part more next long n in
      (false, ([], part ∷ after, record { lines = lines; are = none_tell }, (refl, part, after, refl, (refl, long))))

  pub too_long : (known next : Option (List ℕ)) (part : List ℕ) (more : Bool) (file : Bor (List ℕ)) (s : State) → s.failed ≡ false → IsTooLong part
      → IfSome known (λ text. IsNextLine text part more next) → TellsLeft true telling place table known file.now s s (Err (error.Line file 1 TooLong))
  too_long known next part more file s fine long n =
      inr (error.Line file 1 TooLong, refl, refl, [], (whole_none s, fine), long_left known next part more file long n)

  -- a header that is not written whole
  one_left : (text part : List ℕ) (next : Option (List ℕ)) → ¬ (IsTooLong part) → IsNextLine text part true next → Left true (header_text telling part true) error.Output text
  one_left text part next short n =
      let (rest, known, lines, less) = lines_next telling text part next n in (
        false,
        (
          part ∷ [],
          lines_by telling rest,
          record {
            lines = lines;
            are = subst (λ (k : List ℕ). Told (part ∷ []) (k, false)) (append-nil (header_text telling part true)) (behind part [] [] false short none_tell);
          },
          tt,
        ),
      )

  lost_left : (known next : Option (List ℕ)) (part : List ℕ) (more : Bool) → ¬ (IsTooLong part) → IfSome known (λ text. IsNextLine text part more next)
      → IfSome known (Left true (header_text telling part more) error.Output)
  lost_left None next part more short n = tt
  lost_left (Some text) next part true short n = one_left text part next short n
  lost_left (Some text) next part false short n =
      (false, (lines_by telling text, [], record { lines = sym (append-nil (lines_by telling text)); are = last_told telling place table text part short n }, tt))

  pub header_lost : (known next : Option (List ℕ)) (part : List ℕ) (more : Bool) (file : List ℕ) (s t : State) → s.failed ≡ false → ¬ (IsTooLong part)
      → IfSome known (λ text. IsNextLine text part more next) → Part s t (header_text telling part more)
      → TellsLeft true telling place table known file s t (Err error.Output)
  header_lost known next part more file s t fine short n lost =
      inr (error.Output, refl, tt, header_text telling part more, (lost, λ failed. absurd (true≢false (sym failed ∙ fine))), lost_left known next part more short n)

  -- nothing behind it
  alone_told : (known next : Option (List ℕ)) (part : List ℕ) → ¬ (IsTooLong part) → IfSome known (λ text. IsNextLine text part false next)
      → IfSome known (λ text. Told (lines_by telling text) (header_text telling part false, false))
  alone_told None next part short n = tt
  alone_told (Some text) next part short n = last_told telling place table text part short n

  pub header_alone : (known next : Option (List ℕ)) (part : List ℕ) (more : Bool) (file : List ℕ) (s t : State) → more ≡ false → s.failed ≡ false → ¬ (IsTooLong part)
      → IfSome known (λ text. IsNextLine text part more next) → Whole s t (header_text telling part more) → TellsLeft true telling place table known file s t (Ok No)
  header_alone known next part true file s t none fine short n whole = absurd (true≢false none)
  header_alone known next part false file s t none fine short n whole =
      inl (header_text telling part false, false, Ok tt, refl, (whole, whole.fine ∙ fine), alone_told known next part short n)

  -- lines behind it
  told_behind : (known next : Option (List ℕ)) (part answer : List ℕ) (found : Bool) → ¬ (IsTooLong part) → IfSome known (λ text. IsNextLine text part true next)
      → IfSome next (λ text. Tell (lines_by telling text) (answer, found))
      → IfSome known (λ text. Told (lines_by telling text) (header_text telling part true ++ answer, found))
  told_behind None next part answer found short n h = tt
  told_behind (Some text) next part answer found short n h =
      let (rest, is, lines, less) = lines_next telling text part next n in
      subst (λ (k : List (List ℕ)). Told k (header_text telling part true ++ answer, found)) (sym lines)
      (behind part (lines_by telling rest) answer found short (bytes_read (λ text. Tell (lines_by telling text) (answer, found)) next rest is h))

  stop_behind : (part : List ℕ) (read left : List (List ℕ)) (e new : CommandError) → IsBehindHeader e new → IsStop (IsBadBehind false (IsBadAsked place)) read left e
      → IsStop (IsBadBehind true (IsBadAsked place)) (part ∷ read) left new
  stop_behind part read left (error.Line name number e) new (inl (fits, is)) (at, line, after, same, bad) =
      subst (IsStop (IsBadBehind true (IsBadAsked place)) (part ∷ read) left) (sym is) (omega (arith, at), line, after, same, bad)
  stop_behind part read left (error.Line name number e) new (inr (most, is)) h = subst (IsStop (IsBadBehind true (IsBadAsked place)) (part ∷ read) left) (sym is) tt
  stop_behind part read left (error.Argument text e) new is h = subst (IsStop (IsBadBehind true (IsBadAsked place)) (part ∷ read) left) (sym is) tt
  stop_behind part read left (error.Input name why) new is h = subst (IsStop (IsBadBehind true (IsBadAsked place)) (part ∷ read) left) (sym is) tt
  stop_behind part read left error.NoMemory new is h = subst (IsStop (IsBadBehind true (IsBadAsked place)) (part ∷ read) left) (sym is) tt
  stop_behind part read left error.Output new is h = subst (IsStop (IsBadBehind true (IsBadAsked place)) (part ∷ read) left) (sym is) tt
  stop_behind part read left (error.File name why) new is h = subst (IsStop (IsBadBehind true (IsBadAsked place)) (part ∷ read) left) (sym is) tt

  cut_behind : (known next : Option (List ℕ)) (part answer : List ℕ) (e new : CommandError) → ¬ (IsTooLong part) → IfSome known (λ text. IsNextLine text part true next)
      → IsBehindHeader e new → IfSome next (Left false answer e) → IfSome known (Left true (header_text telling part true ++ answer) new)
  cut_behind None next part answer e new short n h left = tt
  cut_behind (Some text) next part answer e new short n h left =
      let (rest, is, lines, less) = lines_next telling text part next n in
      let (found, (read, after, to, stops)) = bytes_read (Left false answer e) next rest is left in (
        found,
        (
          part ∷ read,
          after,
          record { lines = lines ∙ ap (λ (k : List (List ℕ)). part ∷ k) to.lines; are = behind part read answer found short to.are },
          stop_behind part read after e new h stops,
        ),
      )

  pub all_behind : (known next : Option (List ℕ)) (part : List ℕ) (more : Bool) (file : List ℕ) (s t u : State) (verdict : Verdict) → more ≡ true → s.failed ≡ false
      → ¬ (IsTooLong part) → IfSome known (λ text. IsNextLine text part more next) → Whole s t (header_text telling part more)
      → TellsLeft false telling place table next file t u (Ok verdict) → TellsLeft true telling place table known file s u (Ok verdict)
  all_behind known next part false file s t u verdict some fine short n whole h = absurd (true≢false (sym some))
  all_behind known next part true file s t u verdict some fine short n whole (inl (answer, found, w, is, written, tells)) = inl (
    header_text telling part true ++ answer,
    found,
    w,
    is,
    behind_written s t u (header_text telling part true) answer w fine whole written,
    told_behind known next part answer found short n tells,
  )
  all_behind known next part true file s t u verdict some fine short n whole (inr (e, is, of, answer, written, belongs)) = absurd (not_ok verdict e is)

  pub part_behind : (known next : Option (List ℕ)) (part : List ℕ) (more : Bool) (file : List ℕ) (s t u : State) (e new : CommandError) → more ≡ true → s.failed ≡ false
      → ¬ (IsTooLong part) → IfSome known (λ text. IsNextLine text part more next) → Whole s t (header_text telling part more) → IsBehindHeader e new
      → TellsLeft false telling place table next file t u (Err e) → TellsLeft true telling place table known file s u (Err new)
  part_behind known next part false file s t u e new some fine short n whole h left = absurd (true≢false (sym some))
  part_behind known next part true file s t u e new some fine short n whole h (inl (answer, found, Ok a, is, written, tells)) = absurd (not_ok (verdict_of found) e (sym is))
  part_behind known next part true file s t u e new some fine short n whole h (inl (answer, found, Err f, is, written, tells)) = inl (
    header_text telling part true ++ answer,
    found,
    Err f,
    ap err_of (subst (λ (k : CommandError). IsBehindHeader k new) (err_same e error.Output is) h),
    behind_written s t u (header_text telling part true) answer (Err f) fine whole written,
    told_behind known next part answer found short n tells,
  )
  part_behind known next part true file s t u e new some fine short n whole h (inr (other, is, of, answer, written, belongs)) =
      let same : other ≡ e = sym (err_same e other is) in
      inr (
        new,
        refl,
        of_behind file e new h (subst (IsOfFile file) same of),
        header_text telling part true ++ answer,
        behind_cut s t u (header_text telling part true) answer e new fine whole h (subst (IsWritten t u answer) same written),
        cut_behind known next part answer e new short n h (subst (λ (k : CommandError). IfSome next (Left false answer k)) same belongs),
      )

  -- ---- why
  lines_fail : (next : Option (List ℕ)) (answer : List ℕ) (name : Bor (List ℕ)) (number : ℕ) (e : LineError) → number ≡ 18446744073709551615
      → IfSome next (Left false answer (error.Line name number e)) → TextFails next
  lines_fail None answer name number e most h = tt
  lines_fail (Some text) answer name number e most (found, (read, after, to, (at, line, behind, same, bad))) =
      enough_bytes text (all_parts telling 18446744073709551614 text
      (longer_than 18446744073709551614 (lines_by telling text) read after number to.lines at (omega (arith, most))))

  number_used : (next : Option (List ℕ)) (file : List ℕ) (t u : State) (name : Bor (List ℕ)) (number : ℕ) (e : LineError) → number ≡ 18446744073709551615
      → TellsLeft false telling place table next file t u (Err (error.Line name number e)) → (name.now ≡ file) × TextFails next
  number_used next file t u name number e most (inl (answer, found, Ok a, is, written, tells)) = absurd (not_ok (verdict_of found) (error.Line name number e) (sym is))
  number_used next file t u name number e most (inl (answer, found, Err f, is, written, tells)) = cc
  number_used next file t u name number e most (inr (other, is, of, answer, written, belongs)) =
      let same : other ≡ error.Line name number e = sym (err_same (error.Line name number e) other is) in (
        subst (IsOfFile file) same of,
        lines_fail next answer name number e most (subst (λ (k : CommandError). IfSome next (Left false answer k)) same belongs),
      )

  -- why a file is not read, by why what is left of it is not
  abbrev Fails : Option (List ℕ) → List ℕ → List ℕ → Reason → Type 0
  Fails known file name why = (name ≡ file) × TextFails known

  pub behind_cause : (known next : Option (List ℕ)) (part : List ℕ) (more : Bool) (file : List ℕ) (t u : State) (refused : Bool) (e new : CommandError) → more ≡ true
      → IfSome known (λ text. IsNextLine text part more next) → TellsLeft false telling place table next file t u (Err e) → IsBehindHeader e new
      → Cause (Fails next file) refused e → Cause (Fails known file) refused new
  behind_cause known next part false file t u refused e new some n left h why = absurd (true≢false (sym some))
  behind_cause known next part true file t u refused (error.Line name number e) new some n left (inl (fits, is)) why = subst (Cause (Fails known file) refused) (sym is) tt
  behind_cause known next part true file t u refused (error.Line name number e) new some n left (inr (most, is)) why =
      let (same, many) = number_used next file t u name number e most left in
      subst (Cause (Fails known file) refused) (sym is) (same, fails_before known next part n many)
  behind_cause known next part true file t u refused (error.Input name reason) new some n left is why =
      subst (Cause (Fails known file) refused) (sym is) (why.0, fails_before known next part n why.1)
  behind_cause known next part true file t u refused error.NoMemory new some n left is why = subst (Cause (Fails known file) refused) (sym is) why
  behind_cause known next part true file t u refused error.Output new some n left is why = subst (Cause (Fails known file) refused) (sym is) tt
  behind_cause known next part true file t u refused (error.Argument text e) new some n left is why = subst (Cause (Fails known file) refused) (sym is) tt
  behind_cause known next part true file t u refused (error.File name reason) new some n left is why = subst (Cause (Fails known file) refused) (sym is) tt

  -- a part that is not read
  pub read_cause : (known : Option (List ℕ)) (file : List ℕ) (refused : Bool) (e : CommandError) → Cause (λ name _. (name ≡ file) × NoLineFails known) refused e
      → Cause (Fails known file) refused e
  read_cause known file refused e why =
      cause_weaker (λ name _. (name ≡ file) × NoLineFails known) (Fails known file) refused e (λ name reason k. (k.0, told_fails known known (known_first known) k.1)) why
