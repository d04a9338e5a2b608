-- Addresses of lines that are read one after the other, before they are looked up.
use Rattle.std.proofs.Common.{◌≡◌, refl, sym, ◌∙◌, ap, subst, ℕ, ◌+◌, Bool, true, false, arith, List, [], ◌∷◌, ◌++◌, length, Option, Some, None, Result, Ok, Err, append_assoc, length-append, append-nil}
use Rattle.std.specs.Option.{IfSome}
use Rattle.std.specs.List.{AllZip}
use Rattle.cidr.specs.either.IpAddress.{address_family, plain_bits}
use Rattle.cidr.specs.declared.addr.ip.IpAddr.{IpAddr}
use Rattle.cidr.specs.declared.family.Family.{Family}
use Rattle.cidr_table.specs.model.Prefixes.{IsLookedUp}
use Rattle.cidr_lists.specs.Lists.{lines_of}
use Rattle.cidr_lists.specs.LookUps.{IsBadAsked, LineLooks, LookUp, SaysAsked}
use Rattle.cidr_lists.specs.declared.fields.Asked.{Asked}
use Rattle.netset_commands.specs.LookUps.{AreFirstSaid, AreReadBefore, AskLooks, AsksLines, EndsAsking, EndsReading, IsErrorBehind, LineAsks}
use Rattle.netset_commands.specs.Reading.{IsNextLine, IsStopped}
use Rattle.cidr_lists.specs.declared.errors.LineError.{LineError}
use Rattle.netset_commands.specs.declared.errors.ListReadError.{ListReadError}
use Rattle.netset_commands.specs.declared.errors.ListReadError.TheVariants.{Line, Input, NoMemory}
use Rattle.netset_commands.proofs.TextProgress.{Passed, none_passed, one_passed, all_passed, error_passed, first_passed}
use Rattle.netset_commands.proofs.Zips.{zip_length}

-- by the address that is taken of a line
module _ (which : Asked) where
  -- ---- lines read one after the other
  -- the lines from the one of the first number on, before the one of this number, have these addresses
  pub record Asking (first : ℕ) (contents left : Option (List ℕ)) (asked : List (Option IpAddr)) (number : ℕ) : Type 0 where
    pub place : number ≡ first + length asked
    pub passed : IfSome contents (λ text. Passed (LineAsks which) text left asked (length asked + 1))

  started : (contents : Option (List ℕ)) → IfSome contents (λ text. Passed (LineAsks which) text contents [] 1)
  started None = tt
  started (Some text) = none_passed (LineAsks which) text

  pub none_asked : (first : ℕ) (contents : Option (List ℕ)) (asked : List (Option IpAddr)) → asked ≡ [] → Asking first contents contents asked first
  none_asked first contents asked none = rw none (record { place = omega arith; passed = started contents })

  one_more : (contents left next : Option (List ℕ)) (asked : List (Option IpAddr)) (line : List ℕ) (more : Bool) (one : Option IpAddr) → more ≡ true
      → IfSome contents (λ text. Passed (LineAsks which) text left asked (length asked + 1)) → IfSome left (λ text. IsNextLine text line more next) → (LineAsks which) line one
      → IfSome contents (λ text. Passed (LineAsks which) text next (asked ++ one ∷ []) (length (asked ++ one ∷ []) + 1))
  one_more None left next asked line more one is p n says = tt
  one_more (Some text) left next asked line more one is p n says =
      let size : length asked + 1 ≡ length (asked ++ one ∷ []) = sym (length-append asked (one ∷ [])) in
      subst (λ (k : ℕ). Passed (LineAsks which) text next (asked ++ one ∷ []) (k + 1)) size
      (one_passed (LineAsks which) text left next asked (length asked + 1) line more one is p n says)

  pub asked_on : (first : ℕ) (contents left next : Option (List ℕ)) (asked after : List (Option IpAddr)) (number : ℕ) (line : List ℕ) (more : Bool) (one : Option IpAddr)
      → more ≡ true → Asking first contents left asked number → IfSome left (λ text. IsNextLine text line more next) → (LineAsks which) line one → after ≡ asked ++ one ∷ []
      → Asking first contents next after (number + 1)
  asked_on first contents left next asked after number line more one is a n says new = rw new (record {
    place = omega (arith, a.place, length-append asked (one ∷ []));
    passed = one_more contents left next asked line more one is a.passed n says;
  })

  read_before : (contents left : Option (List ℕ)) (asked : List (Option IpAddr)) → IfSome contents (λ text. Passed (LineAsks which) text left asked (length asked + 1))
      → IfSome contents (λ text. AreReadBefore (LineAsks which) text left asked)
  read_before None left asked p = tt
  read_before (Some text) left asked p = record { rest = p.rest; known = p.known; before = p.before; lines = p.lines; size = p.size; fine = p.done }

  pub asked_before : (first : ℕ) (contents left : Option (List ℕ)) (asked : List (Option IpAddr)) (number : ℕ) → Asking first contents left asked number
      → AsksLines which first contents left asked (Ok (Some number))
  asked_before first contents left asked number a = (a.place, read_before contents left asked a.passed)

  all_read : (contents left next : Option (List ℕ)) (asked : List (Option IpAddr)) (line : List ℕ) (more : Bool) (one : Option IpAddr) → more ≡ false
      → IfSome contents (λ text. Passed (LineAsks which) text left asked (length asked + 1)) → IfSome left (λ text. IsNextLine text line more next) → (LineAsks which) line one
      → IfSome contents (λ text. AllZip (LineAsks which) (lines_of text) (asked ++ one ∷ []))
  all_read None left next asked line more one is p n says = tt
  all_read (Some text) left next asked line more one is p n says = all_passed (LineAsks which) text left next asked (length asked + 1) line more one is p n says

  pub asked_all : (first : ℕ) (contents left next : Option (List ℕ)) (asked after : List (Option IpAddr)) (number : ℕ) (line : List ℕ) (more : Bool) (one : Option IpAddr)
      → more ≡ false → Asking first contents left asked number → IfSome left (λ text. IsNextLine text line more next) → (LineAsks which) line one → after ≡ asked ++ one ∷ []
      → AsksLines which first contents next after (Ok None)
  asked_all first contents left next asked after number line more one is a n says new = rw new (all_read contents left next asked line more one is a.passed n says)

  first_read : (contents left : Option (List ℕ)) (asked : List (Option IpAddr)) → IfSome contents (λ text. Passed (LineAsks which) text left asked (length asked + 1))
      → IfSome contents (λ text. AreFirstSaid (LineAsks which) text asked)
  first_read None left asked p = tt
  first_read (Some text) left asked p = first_passed (LineAsks which) text left asked (length asked + 1) p

  stopped : (contents : Option (List ℕ)) (asked : List (Option IpAddr)) (e : ListReadError) → IsStopped e → IfSome contents (λ text. AreFirstSaid (LineAsks which) text asked)
      → IfSome contents (λ text. EndsAsking which text asked e)
  stopped None asked e s p = tt
  stopped (Some text) asked (Line number e) s p = absurd s
  stopped (Some text) asked Input s p = p
  stopped (Some text) asked NoMemory s p = p

  stopped_behind : (first : ℕ) (asked : List (Option IpAddr)) (e : ListReadError) → IsStopped e → IsErrorBehind first asked e
  stopped_behind first asked (Line number e) s = absurd s
  stopped_behind first asked Input s = tt
  stopped_behind first asked NoMemory s = tt

  pub asking_stopped : (first : ℕ) (contents left next : Option (List ℕ)) (asked : List (Option IpAddr)) (number : ℕ) (e : ListReadError) → IsStopped e
      → Asking first contents left asked number → AsksLines which first contents next asked (Err e)
  asking_stopped first contents left next asked number e s a = (stopped_behind first asked e s, stopped contents asked e s (first_read contents left asked a.passed))

  error_read : (contents left next : Option (List ℕ)) (asked : List (Option IpAddr)) (line : List ℕ) (more : Bool) (number : ℕ) (e : LineError)
      → IfSome contents (λ text. Passed (LineAsks which) text left asked (length asked + 1)) → IfSome left (λ text. IsNextLine text line more next) → (IsBadAsked which) line e
      → IfSome contents (λ text. EndsAsking which text asked (Line number e))
  error_read None left next asked line more number e p n bad = tt
  error_read (Some text) left next asked line more number e p n bad =
      error_passed (LineAsks which) (IsBadAsked which) text left next asked (length asked + 1) line more (length asked + 1) e p n refl bad

  pub asking_failed : (first : ℕ) (contents left next : Option (List ℕ)) (asked after : List (Option IpAddr)) (number : ℕ) (line : List ℕ) (more : Bool) (e : LineError)
      → Asking first contents left asked number → IfSome left (λ text. IsNextLine text line more next) → (IsBadAsked which) line e → after ≡ asked
      → AsksLines which first contents next after (Err (Line number e))
  asking_failed first contents left next asked after number line more e a n bad same =
      rw same (a.place, error_read contents left next asked line more number e a.passed n bad)

  -- ---- the look-ups of lines
  module _ (table : Family → List (List Bool × List ℕ)) where
    pub line_looks : (line : List ℕ) (asked : Option IpAddr) (look : Option LookUp) → (LineAsks which) line asked → AskLooks table asked look → LineLooks which table line look
    line_looks line (Some address) (Some look) (short, says) (same, looked) = (
      short,
      (
        subst (λ (k : IpAddr). SaysAsked which line (Some k)) (sym same) says,
        subst (λ (k : IpAddr). IsLookedUp (λ (p : List Bool). p) (plain_bits k) (table (address_family k)) look.found) (sym same) looked,
      ),
    )
    line_looks line None None says h = says
    line_looks line (Some address) None says h = absurd h
    line_looks line None (Some look) says h = absurd h

    lines_look : (lines : List (List ℕ)) (asked : List (Option IpAddr)) (looks : List (Option LookUp)) → AllZip (LineAsks which) lines asked → AllZip (AskLooks table) asked looks
        → AllZip (LineLooks which table) lines looks
    lines_look [] [] [] says h = tt
    lines_look [] [] (look ∷ looks) says h = absurd h
    lines_look [] (ask ∷ asked) looks says h = absurd says
    lines_look (line ∷ lines) [] looks says h = absurd says
    lines_look (line ∷ lines) (ask ∷ asked) [] says h = absurd h
    lines_look (line ∷ lines) (ask ∷ asked) (look ∷ looks) says h = (line_looks line ask look says.0 h.0, lines_look lines asked looks says.1 h.1)

    -- of some of them
    first_lines : (lines : List (List ℕ)) (first behind : List (Option IpAddr)) (looks : List (Option LookUp)) → AllZip (LineAsks which) lines (first ++ behind)
        → AllZip (AskLooks table) first looks
        → (before : List (List ℕ)) × (after : List (List ℕ)) × (lines ≡ before ++ after) × AllZip (LineLooks which table) before looks
    first_lines lines [] behind [] says h = ([], lines, refl, tt)
    first_lines lines [] behind (look ∷ looks) says h = absurd h
    first_lines [] (ask ∷ first) behind looks says h = absurd says
    first_lines (line ∷ lines) (ask ∷ first) behind [] says h = absurd h
    first_lines (line ∷ lines) (ask ∷ first) behind (look ∷ looks) says h =
        let (before, after, is, zip) = first_lines lines first behind looks says.1 h.1 in
        (line ∷ before, after, ap (λ (k : List (List ℕ)). line ∷ k) is, (line_looks line ask look says.0 h.0, zip))

    joined : (lines more : List (List ℕ)) (looks others : List (Option LookUp)) → AllZip (LineLooks which table) lines looks → AllZip (LineLooks which table) more others
        → AllZip (LineLooks which table) (lines ++ more) (looks ++ others)
    joined [] more [] others h k = k
    joined [] more (look ∷ looks) others h k = absurd h
    joined (line ∷ lines) more [] others h k = absurd h
    joined (line ∷ lines) more (look ∷ looks) others h k = (h.0, joined lines more looks others h.1 k)

    goes_on : (text : List ℕ) (before more : List (List ℕ)) (rest after : List (List ℕ)) → lines_of text ≡ before ++ rest → rest ≡ more ++ after
        → lines_of text ≡ (before ++ more) ++ after
    goes_on text before more rest after lines is = lines ∙ (ap (λ (k : List (List ℕ)). before ++ k) is ∙ sym (append_assoc before more after))

    pub group_passed : (contents left next : Option (List ℕ)) (looks others : List (Option LookUp)) (asked : List (Option IpAddr)) (number after : ℕ)
        → after ≡ number + length asked → IfSome contents (λ text. Passed (LineLooks which table) text left looks number)
        → IfSome left (λ text. AreReadBefore (LineAsks which) text next asked) → AllZip (AskLooks table) asked others
        → IfSome contents (λ text. Passed (LineLooks which table) text next (looks ++ others) after)
    group_passed None left next looks others asked number after is p g h = tt
    group_passed (Some text) left next looks others asked number after is p g h =
        let r = (rw p.known at g) in
        record {
          rest = r.rest;
          known = r.known;
          before = p.before ++ r.before;
          lines = goes_on text p.before r.before (lines_of p.rest) (lines_of r.rest) p.lines r.lines;
          size = omega (arith, p.size, r.size);
          place = omega (arith, is, p.place, length-append p.before r.before, zip_length (LineAsks which) r.before asked r.fine);
          done = joined p.before r.before looks others p.done (lines_look r.before asked others r.fine h);
        }

    pub group_all : (contents left : Option (List ℕ)) (looks others : List (Option LookUp)) (asked : List (Option IpAddr)) (number : ℕ)
        → IfSome contents (λ text. Passed (LineLooks which table) text left looks number) → IfSome left (λ text. AllZip (LineAsks which) (lines_of text) asked)
        → AllZip (AskLooks table) asked others → IfSome contents (λ text. AllZip (LineLooks which table) (lines_of text) (looks ++ others))
    group_all None left looks others asked number p g h = tt
    group_all (Some text) left looks others asked number p g h =
        subst (λ (k : List (List ℕ)). AllZip (LineLooks which table) k (looks ++ others)) (sym p.lines)
        (joined p.before (lines_of p.rest) looks others p.done (lines_look (lines_of p.rest) asked others (rw p.known at g) h))

    first_of_group : (text : List ℕ) (left : Option (List ℕ)) (looks others : List (Option LookUp)) (asked first more : List (Option IpAddr)) (number : ℕ)
        → Passed (LineLooks which table) text left looks number → IfSome left (λ text. AreFirstSaid (LineAsks which) text asked) → asked ≡ first ++ more
        → AllZip (AskLooks table) first others → AreFirstSaid (LineLooks which table) text (looks ++ others)
    first_of_group text left looks others asked first more number p g is h =
        let r = (rw p.known at g) in
        let (before, after, cut, zip) = first_lines r.before first more others (subst (λ (k : List (Option IpAddr)). AllZip (LineAsks which) r.before k) is r.fine) h in
        record {
          before = p.before ++ before;
          after = after ++ r.after;
          lines = goes_on text p.before before (lines_of p.rest) (after ++ r.after) p.lines
              (r.lines ∙ (ap (λ (k : List (List ℕ)). k ++ r.after) cut ∙ append_assoc before after r.after));
          fine = joined p.before before looks others p.done zip;
        }

    pub group_first : (contents left : Option (List ℕ)) (looks others : List (Option LookUp)) (asked first more : List (Option IpAddr)) (number : ℕ)
        → IfSome contents (λ text. Passed (LineLooks which table) text left looks number) → IfSome left (λ text. AreFirstSaid (LineAsks which) text asked) → asked ≡ first ++ more
        → AllZip (AskLooks table) first others → IfSome contents (λ text. AreFirstSaid (LineLooks which table) text (looks ++ others))
    group_first None left looks others asked first more number p g is h = tt
    group_first (Some text) left looks others asked first more number p g is h = first_of_group text left looks others asked first more number p g is h

    error_in_group : (text : List ℕ) (left : Option (List ℕ)) (looks others : List (Option LookUp)) (asked : List (Option IpAddr)) (number : ℕ) (e : ListReadError)
        → Passed (LineLooks which table) text left looks number → IsErrorBehind number asked e → IfSome left (λ text. EndsAsking which text asked e)
        → AllZip (AskLooks table) asked others → EndsReading which table text (looks ++ others) e
    error_in_group text left looks others asked number (Line n e) p is g h =
        let r = (rw p.known at g) in
        record {
          before = p.before ++ r.before;
          line = r.line;
          after = r.after;
          lines = goes_on text p.before r.before (lines_of p.rest) (r.line ∷ r.after) p.lines r.lines;
          place = omega (arith, is, p.place, r.place, length-append p.before r.before);
          fine = joined p.before r.before looks others p.done (lines_look r.before asked others r.fine h);
          fault = r.fault;
        }
    error_in_group text left looks others asked number Input p is g h = first_of_group text left looks others asked asked [] number p g (sym (append-nil asked)) h
    error_in_group text left looks others asked number NoMemory p is g h = first_of_group text left looks others asked asked [] number p g (sym (append-nil asked)) h

    pub group_ended : (contents left : Option (List ℕ)) (looks others : List (Option LookUp)) (asked : List (Option IpAddr)) (number : ℕ) (e : ListReadError)
        → IfSome contents (λ text. Passed (LineLooks which table) text left looks number) → IsErrorBehind number asked e → IfSome left (λ text. EndsAsking which text asked e)
        → AllZip (AskLooks table) asked others → IfSome contents (λ text. EndsReading which table text (looks ++ others) e)
    group_ended None left looks others asked number e p is g h = tt
    group_ended (Some text) left looks others asked number e p is g h = error_in_group text left looks others asked number e p is g h

  -- ---- the lines that were read, however reading has ended
  before_first : (contents left : Option (List ℕ)) (asked : List (Option IpAddr)) → IfSome contents (λ text. AreReadBefore (LineAsks which) text left asked)
      → IfSome contents (λ text. AreFirstSaid (LineAsks which) text asked)
  before_first None left asked g = tt
  before_first (Some text) left asked g = record { before = g.before; after = lines_of g.rest; lines = g.lines; fine = g.fine }

  all_first : (contents : Option (List ℕ)) (asked : List (Option IpAddr)) → IfSome contents (λ text. AllZip (LineAsks which) (lines_of text) asked)
      → IfSome contents (λ text. AreFirstSaid (LineAsks which) text asked)
  all_first None asked g = tt
  all_first (Some text) asked g = record { before = lines_of text; after = []; lines = sym (append-nil (lines_of text)); fine = g }

  ended_first : (contents : Option (List ℕ)) (asked : List (Option IpAddr)) (e : ListReadError) → IfSome contents (λ text. EndsAsking which text asked e)
      → IfSome contents (λ text. AreFirstSaid (LineAsks which) text asked)
  ended_first None asked e g = tt
  ended_first (Some text) asked (Line number e) g = record { before = g.before; after = g.line ∷ g.after; lines = g.lines; fine = g.fine }
  ended_first (Some text) asked Input g = g
  ended_first (Some text) asked NoMemory g = g

  pub first_asked : (first : ℕ) (contents left : Option (List ℕ)) (asked : List (Option IpAddr)) (read : Result (Option ℕ) ListReadError) → AsksLines which first contents left asked read
      → IfSome contents (λ text. AreFirstSaid (LineAsks which) text asked)
  first_asked first contents left asked (Ok (Some number)) h = before_first contents left asked h.1
  first_asked first contents left asked (Ok None) h = all_first contents asked h
  first_asked first contents left asked (Err e) h = ended_first contents asked e h.1
