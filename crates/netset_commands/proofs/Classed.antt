-- What addresses are for, as it is told.
use Rattle.std.proofs.Common.{◌≡◌, refl, sym, ◌∙◌, ap, subst, inl, inr, ℕ, Bool, List, ◌++◌, Bor, Option, Some, Result, Ok, Err}
use Rattle.std.specs.List.{AllZip, flat_map, list_any}
use Rattle.cidr.specs.either.IpAddress.{IsIpText}
use Rattle.cidr.specs.declared.addr.ip.IpAddr.{IpAddr}
use Rattle.cidr_io.specs.Collecting.{Collects}
use Rattle.cidr_io.specs.Writing.{State, Answered, Part}
use Rattle.cidr_io.specs.declared.sink.OutputFailed.{OutputFailed}
use Rattle.cidr_lists.specs.Lists.{Text, lines_of}
use Rattle.cidr_lists.specs.LookUps.{LineLooks, is_found, look_line}
use Rattle.cidr_lists.specs.declared.fields.Asked.TheVariants.{First}
use Rattle.cidr_lists.specs.Classes.{IsClassLine, registry}
use Rattle.netset_commands.specs.Class.{IsNoAddressText}
use Rattle.netset_commands.specs.Commands.{Class}
use Rattle.netset_commands.specs.Look.{verdict_of}
use Rattle.netset_commands.specs.LookUps.{AreFirstSaid, EndsReading, LooksAll, LooksUp, unread}
use Rattle.netset_commands.specs.Program.{AnswersRequest, by_output}
use Rattle.netset_commands.specs.declared.commands.look.LookError.TheVariants.{Reading, Output}
use Rattle.netset_commands.specs.declared.errors.CommandError.{CommandError}
use Rattle.netset_commands.specs.declared.errors.CommandError.TheVariants as error
use Rattle.netset_commands.specs.declared.errors.ListReadError.{ListReadError}
use Rattle.netset_commands.specs.declared.output.answers.Verdict.{Verdict}
use Rattle.netset_commands.proofs.Looked.{all_as, ends_as, gone, lost_as, of_file}
use Rattle.netset_commands.proofs.ReadBy.{bytes_read}

-- ---- as a look-up
pub class_pushed : (address : IpAddr) (line : List ℕ) (found : Bool) (s t : State) (block rest : List ℕ) → IsClassLine address line found
    → Collects s t block rest line (Ok tt) → LooksUp registry address s t block rest (Ok found)
class_pushed address line found s t block rest (row, looked, is, hit) pushed =
    (row, looked, subst (λ (k : List ℕ). Collects s t block rest k (Ok tt)) is pushed, hit)

abbrev failing : OutputFailed → Result Bool OutputFailed
failing e = Err e

pub class_lost : (address : IpAddr) (line : List ℕ) (found : Bool) (s t : State) (block rest : List ℕ) (y e : OutputFailed) (r : Result Bool OutputFailed)
    → r ≡ Err y → y ≡ e → IsClassLine address line found → Part s t (block ++ line) → LooksUp registry address s t block rest r
class_lost address line found s t block rest y e r is same (row, looked, shown, hit) part =
    subst (LooksUp registry address s t block rest) (sym (is ∙ ap failing same))
    (row, looked, subst (λ (k : List ℕ). Part s t (block ++ k)) shown part)

-- ---- the command
pub class_told : (contents : List ℕ → Option Text) (operand : List ℕ) (address : IpAddr) (line : List ℕ) (found : Bool) (s t : State)
    (w : Result (Unit {0}) OutputFailed) (r : Result Verdict CommandError) → IsIpText operand address → IsClassLine address line found
    → Answered s t line w → r ≡ by_output (verdict_of found) w → AnswersRequest contents (Class operand) s t r
class_told contents operand address line found s t w r reads is written by =
    inl (inr (line, verdict_of found, w, inl (address, reads, found, is, refl), written, by))

module _ (contents : List ℕ → Option Text) (file : Bor (List ℕ)) (left : Option (List ℕ)) (s t : State) (none : IsNoAddressText file.now)
    (opens : (text : Text) → contents file.now ≡ Some text → left ≡ Some text.bytes) where
  pub classes_told : (found : Bool) → LooksAll First registry left s t (Ok found) → AnswersRequest contents (Class file.now) s t (Ok (verdict_of found))
  classes_told found (looks, written, hit, says) = inl (inr (
    flat_map look_line looks,
    verdict_of found,
    Ok tt,
    inr (
      none,
      λ text at.
          let each = bytes_read (λ bytes. AllZip (LineLooks First registry) (lines_of bytes) looks) left text.bytes (opens text at) says in
          (found, rw hit (all_as First registry text.bytes looks each), refl),
    ),
    written,
    refl,
  ))

  pub classes_cut : (e : ListReadError) → LooksAll First registry left s t (Err (Reading e)) → AnswersRequest contents (Class file.now) s t (Err (unread file e))
  classes_cut e (looks, written, ends) = inr (
    unread file e,
    refl,
    of_file file e,
    flat_map look_line looks,
    gone file s t e (flat_map look_line looks) written,
    (
      none,
      λ text at.
          let ends_here = bytes_read (λ bytes. EndsReading First registry bytes looks e) left text.bytes (opens text at) ends in
          (list_any is_found looks, ends_as First registry text.bytes looks file e ends_here),
    ),
  )

  pub classes_lost : LooksAll First registry left s t (Err Output) → AnswersRequest contents (Class file.now) s t (Err error.Output)
  classes_lost (looks, f, written, ends) = inr (
    error.Output,
    refl,
    tt,
    flat_map look_line looks,
    written,
    (
      none,
      λ text at.
          let first_lines = bytes_read (λ bytes. AreFirstSaid (LineLooks First registry) bytes looks) left text.bytes (opens text at) ends in
          (list_any is_found looks, lost_as First registry text.bytes looks first_lines),
    ),
  )
