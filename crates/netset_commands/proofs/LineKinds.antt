-- Lines of any kind, read to their end or to the first in error, and files of them.
use Rattle.std.proofs.Common.{◌≡◌, refl, sym, ◌∙◌, ap, subst, Bor, false, ℕ, List, Option, Some, None, Result, Ok, Err}
use Rattle.std.specs.Option.{IfSome}
use Rattle.cidr_lists.specs.Lists.{IsFirstBad, Text, lines_of}
use Rattle.cidr_lists.specs.declared.errors.LineError.{LineError}
use Rattle.cidr_lists.specs.declared.records.ListForm.{ListForm}
use Rattle.netset_commands.specs.Compiled.{begins_file}
use Rattle.netset_commands.specs.LineKinds.{IsFaultAt, IsFaultIn, IsUnreadBy, ReadsFileLines, ReadsLines}
use Rattle.netset_commands.specs.LookUps.{unread}
use Rattle.netset_commands.specs.Reading.{IsStopped}
use Rattle.netset_commands.specs.Stored.{IsNotGiven}
use Rattle.netset_commands.specs.declared.errors.CommandError.{CommandError}
use Rattle.netset_commands.specs.declared.errors.ListReadError.{ListReadError}
use Rattle.netset_commands.specs.declared.errors.ListReadError.TheVariants.{Line, Input, NoMemory}
use Rattle.netset_commands.proofs.LinesRead.{LineAt}
use Rattle.netset_commands.proofs.ReadBy.{bytes_read}

-- ---- a text
module _ {S : Type 0} (Said : List (List ℕ) → S → Type 0) (IsBad : List ℕ → LineError → Type 0) (contents : Option (List ℕ)) where
  passed_on : (new : S) (r : Result (Unit {0}) ListReadError) (y e : ListReadError) → r ≡ Err y → y ≡ e
      → IfSome contents (λ text. IsFaultIn Said IsBad text e) → IfSome contents (λ text. ReadsLines Said IsBad text new r)
  passed_on new r y e is same h =
      subst (λ (k : Result (Unit {0}) ListReadError). IfSome contents (λ text. ReadsLines Said IsBad text new k))
      (sym (is ∙ ap (λ (k : ListReadError). Err k) same)) h

module _ {S : Type 0} (Said : List (List ℕ) → S → Type 0) (IsBad : List ℕ → LineError → Type 0) where
  -- a line in error
  fault_in : (contents : Option (List ℕ)) (now : S) (number : ℕ) (line : List ℕ) (e : ListReadError)
      → IfSome contents (λ text. LineAt Said text now number line) → IsFaultAt IsBad line number e → IfSome contents (λ text. IsFaultIn Said IsBad text e)
  fault_in None now number line e p h = tt
  fault_in (Some text) now number line Input p h = tt
  fault_in (Some text) now number line NoMemory p h = tt
  fault_in (Some text) now number line (Line n e) p h = record {
    before = p.before;
    line = line;
    after = p.after;
    lines = p.lines;
    place = h.0 ∙ p.place;
    said = now;
    fine = p.done;
    fault = h.1;
  }

  pub line_failed : (contents : Option (List ℕ)) (now new : S) (number : ℕ) (line : List ℕ) (r : Result (Unit {0}) ListReadError) (y e : ListReadError)
      → r ≡ Err y → y ≡ e → IfSome contents (λ text. LineAt Said text now number line) → IsFaultAt IsBad line number e
      → IfSome contents (λ text. ReadsLines Said IsBad text new r)
  line_failed contents now new number line r y e is same p h = passed_on Said IsBad contents new r y e is same (fault_in contents now number line e p h)

  -- an end of reading
  no_line : (contents : Option (List ℕ)) (e : ListReadError) → IsStopped e → IfSome contents (λ text. IsFaultIn Said IsBad text e)
  no_line None e h = tt
  no_line (Some text) (Line number e) h = absurd h
  no_line (Some text) Input h = tt
  no_line (Some text) NoMemory h = tt

  pub reading_ended : (contents : Option (List ℕ)) (new : S) (r : Result (Unit {0}) ListReadError) (y e : ListReadError) → r ≡ Err y → y ≡ e → IsStopped e
      → IfSome contents (λ text. ReadsLines Said IsBad text new r)
  reading_ended contents new r y e is same h = passed_on Said IsBad contents new r y e is same (no_line contents e h)

-- ---- a file
module _ {S : Type 0} (Said : ListForm → List (List ℕ) → S → Type 0) (IsBad : ListForm → List ℕ → LineError → Type 0) (contents : Option Text)
    (left : Option (List ℕ)) (form : ListForm) (opens : (text : Text) → contents ≡ Some text → left ≡ Some text.bytes)
    (by : (text : Text) → contents ≡ Some text → text.form ≡ form) where
  pub file_read : (name : List ℕ) (new : S) → IfSome left (λ text. ReadsLines (Said form) (IsBad form) text new (Ok tt))
      → ReadsFileLines Said IsBad contents name new (Ok tt)
  file_read name new h text is =
      subst (λ (f : ListForm). Said f (lines_of text.bytes) new) (sym (by text is))
      (bytes_read (λ bytes. Said form (lines_of bytes) new) left text.bytes (opens text is) h)

  pub file_unread : (file : Bor (List ℕ)) (new : S) (e : ListReadError) → IfSome left (λ text. ReadsLines (Said form) (IsBad form) text new (Err e))
      → IsUnreadBy Said IsBad contents file.now (unread file e)
  file_unread file new (Line number e) h = (
    refl,
    λ text is.
        subst (λ (f : ListForm). IsFirstBad (Said f) (IsBad f) (lines_of text.bytes) number e) (sym (by text is))
        (bytes_read (λ bytes. IsFirstBad (Said form) (IsBad form) (lines_of bytes) number e) left text.bytes (opens text is) h),
  )
  file_unread file new Input h = refl
  file_unread file new NoMemory h = tt

-- a line of it is in error, which does not begin as a file of look-ups
pub no_lines : (IsOther : CommandError → Type 0) (contents : Option Text) (file : Bor (List ℕ)) (e : ListReadError)
    → ((text : Text) → contents ≡ Some text → begins_file text.bytes ≡ false) → IsOther (unread file e) → IsNotGiven IsOther contents file.now (unread file e)
no_lines IsOther contents file (Line number e) begins h = (h, begins)
no_lines IsOther contents file Input begins h = h
no_lines IsOther contents file NoMemory begins h = h
