use Rattle.std.proofs.Common.{refl, sym, ◌∙◌, ap, subst, List, ℕ, Option}
use Rattle.netset_commands.specs.Causes.{IsToldReason}
use Rattle.netset_commands.specs.declared.errors.Reason.TheVariants.{NotFound}
use Rattle.netset_uses.specs.Texts.{reason_of}
use Rattle.netset_uses.proofs.Opening.{found, none_found, passed}
use Rattle.netset_uses.proofs.texts.TextFilesFiles.open.Goals as goal

pub loop-file-init : goal.loop-file-init
loop-file-init c = refl

pub loop-file-preserved : goal.loop-file-preserved
loop-file-preserved c =
    passed c.args.self.now.files.now c.args.name.now c.loop-file.file-index _ c.loop-file-test.true c.loop-file.invariant
    (sym c.has_name.ensures ∙ c.if-has_name.false)

pub returns-then-has_name-clause-left : goal.returns-then-has_name-clause-left
returns-then-has_name-clause-left c = λ text told.
    sym (found c.args.self.now.files.now c.args.name.now c.loop-file.file-index _ c.loop-file-test.true c.loop-file.invariant
    (sym c.has_name.ensures ∙ c.if-has_name.true)) ∙ told

pub returns-clause-none : goal.returns-clause-none
returns-clause-none c =
    none_found c.args.self.now.files.now c.args.name.now c.loop-file.file-index c.loop-file-test.false c.loop-file.invariant

pub returns-then-has_name-clause-opened : goal.returns-then-has_name-clause-opened
returns-then-has_name-clause-opened c =
    ap reason_of (found c.args.self.now.files.now c.args.name.now c.loop-file.file-index _ c.loop-file-test.true c.loop-file.invariant
    (sym c.has_name.ensures ∙ c.if-has_name.true))

pub returns-clause-why : goal.returns-clause-why
returns-clause-why c =
    subst (λ (k : Option (List ℕ)). IsToldReason (reason_of k) NotFound)
    (sym (none_found c.args.self.now.files.now c.args.name.now c.loop-file.file-index c.loop-file-test.false c.loop-file.invariant)) refl
