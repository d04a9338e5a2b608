-- Files in the place of a table: files of look-ups, and lines.
use Rattle.std.proofs.Common.{◌≡◌, sym, ◌∙◌, subst, inr, ℕ, Bool, true, List, Option, Some, None, Err, option_to_list, arith}
use Rattle.std.specs.Option.{IfSome}
use Rattle.std.proofs.lemmas.Grind.{common_steps}
use Rattle.cidr.specs.declared.family.Family.{Family}
use Rattle.cidr_files.specs.Faults.{IsFaultOfBytes}
use Rattle.cidr_lists.specs.Forms.{AreFit}
use Rattle.cidr_lists.specs.Lists.{Text}
use Rattle.cidr_lists.specs.declared.formats.LineFormat.{LineFormat}
use Rattle.cidr_lists.specs.declared.forms.RowForm.{RowForm}
use Rattle.netset_commands.specs.Begun.{IsBegunAt, begun_left}
use Rattle.netset_commands.specs.Causes.{Cause, FileFails}
use Rattle.netset_commands.specs.Compiled.{HasTable, SaysTable, begins_file}
use Rattle.netset_commands.specs.Gathering.{IsNotReadFurther}
use Rattle.netset_commands.specs.Stored.{AreFileBytes, ChecksFile, HasUnfitRow, IsNotGiven, TellsUnfit}
use Rattle.netset_commands.specs.declared.errors.CommandError.{CommandError}
use Rattle.netset_commands.specs.declared.errors.CommandError.TheVariants as error
use Rattle.netset_commands.specs.declared.input.begun.Begun.{Begun}
use Rattle.netset_commands.proofs.Causes.{cause_weaker, whole_fails, whole_read}
use Rattle.netset_commands.specs.declared.errors.Reason.{Reason}

-- ---- a file whose first byte was read
module _ {S : Type 0} (left : S → Option (List ℕ)) (contents : Option Text) (begun : Begun S)
    (told : (text : Text) → contents ≡ Some text → IsBegunAt left text.bytes begun) where
  pub opens_begun : (text : Text) → contents ≡ Some text → begun_left left begun ≡ Some text.bytes
  opens_begun text is = (told text is).all_left

  pub begins_as : (test : Bool) → test ≡ begins_file (option_to_list begun.first) → (first : Bool) → test ≡ first
      → (text : Text) → contents ≡ Some text → begins_file text.bytes ≡ first
  begins_as test is first here text at = sym (told text at).first ∙ (sym is ∙ here)

  pub file_bytes : (test : Bool) (bytes : List ℕ) → test ≡ begins_file (option_to_list begun.first) → test ≡ true
      → IfSome (begun_left left begun) (λ text. bytes ≡ text) → AreFileBytes contents bytes
  file_bytes test bytes is here read = λ text at.
      (begins_as test is true here text at, whole_read (begun_left left begun) text.bytes bytes (opens_begun text at) read)

-- ---- why it is not read
pub not_read : (IsOther : CommandError → Type 0) (contents : Option Text) (name : List ℕ) (e : CommandError) → ((e : CommandError) → IsNotReadFurther name e → IsOther e)
    → IsNotReadFurther name e → IsNotGiven IsOther contents name e
not_read IsOther contents name e f h = grind (arith, common_steps)

-- it is not read whole
pub whole_cause : (contents : List ℕ → Option Text) (reasons : List ℕ → Option Reason) (name : List ℕ) (left : Option (List ℕ)) (refused : Bool) (e : CommandError)
    → reasons name ≡ None → ((text : Text) → contents name ≡ Some text → left ≡ Some text.bytes) → Cause (λ k _. (k ≡ name) × (left ≡ None)) refused e
    → Cause (FileFails contents reasons) refused e
whole_cause contents reasons name left refused e opened opens h =
    cause_weaker (λ k _. (k ≡ name) × (left ≡ None)) (FileFails contents reasons) refused e
    (λ k why c. subst (λ (n : List ℕ). FileFails contents reasons n why) (sym c.0) (whole_fails contents reasons name why left opened opens c.1)) h

-- it is no file of look-ups
pub no_file : (IsOther : CommandError → Type 0) (contents : Option Text) (name bytes : List ℕ) (e : CommandError) → IsOther error.NoMemory → AreFileBytes contents bytes
    → ChecksFile name bytes (Err e) → IsNotGiven IsOther contents name e
no_file IsOther contents name bytes (error.File file why) none are (named, (f, fault, told)) =
    (named, f, told, λ text is. let (begins, same) = are text is in (begins, subst (λ (b : List ℕ). IsFaultOfBytes b f) same fault))
no_file IsOther contents name bytes (error.Argument text e) none are h = cc
no_file IsOther contents name bytes (error.Line file number e) none are h = cc
no_file IsOther contents name bytes (error.Input file why) none are h = cc
no_file IsOther contents name bytes error.NoMemory none are h = none
no_file IsOther contents name bytes error.Output none are h = cc

-- ---- its table
pub says_table : (form : RowForm) (contents : Option Text) (bytes : List ℕ) (table : Family → List (List Bool × List ℕ)) → AreFileBytes contents bytes → HasTable table bytes
    → ((family : Family) → AreFit form.values (table family)) → (text : Text) → contents ≡ Some text → SaysTable form text table
says_table form contents bytes table are has fit text is = inr (subst (HasTable table) (are text is).1 has, fit)

-- a row of it has a value that can't be told
pub unfit_row : (form : RowForm) (contents : Option Text) (name bytes : List ℕ) (table : Family → List (List Bool × List ℕ)) (e : CommandError) → AreFileBytes contents bytes
    → HasTable table bytes → TellsUnfit form.values table name e → HasUnfitRow form contents name e
unfit_row form contents name bytes table (error.Argument text e) are has h = absurd h
unfit_row form contents name bytes table (error.Line file number e) are has (named, unfit) =
    (named, λ text is. (table, subst (HasTable table) (are text is).1 has, unfit))
unfit_row form contents name bytes table (error.Input file why) are has h = absurd h
unfit_row form contents name bytes table error.NoMemory are has h = absurd h
unfit_row form contents name bytes table error.Output are has h = absurd h
unfit_row form contents name bytes table (error.File file why) are has h = absurd h

pub unfit_cause : (F : List ℕ → Reason → Type 0) (refused : Bool) (format : LineFormat) (table : Family → List (List Bool × List ℕ)) (name : List ℕ) (e : CommandError)
    → TellsUnfit format table name e → Cause F refused e
unfit_cause F refused format table name e h = grind (arith, common_steps)
