use Rattle.std.proofs.Common.{sym, ◌∙◌, ap, arith, ◌+◌, ℕ, Bool, Bor, List}
use Rattle.std.proofs.lemmas.List.Sums.{count_by_more_yes, count_by_more_no}
use Rattle.netset_commands.specs.Commands.{input_name}
use Rattle.netset_commands.specs.Matching.{is_word}
use Rattle.netset_commands.proofs.Arguments.{count_of_bytes}
use Rattle.netset_commands.proofs.commands.input_count.Goals as goal
use Rattle.netset_commands.proofs.commands.input_count.Goals.{then-is_input, else-is_input}

-- a file is the standard input
abbrev names_input : Bor (List ℕ) → Bool
names_input file = is_word input_name file.now

pub loop-file-preserved : goal.loop-file-preserved
loop-file-preserved c = elim c.if-is_input.branch [
  | then-is_input w ↦ (
    w.count-is ∙ (ap (λ (n : ℕ). n + 1) c.loop-file.invariant.0
        ∙ sym (count_by_more_yes names_input c.args.files.now c.loop-file.file-index _ c.loop-file-test.true (sym c.is_input.ensures ∙ w.if-is_input.true))),
    omega arith,
  )
  | else-is_input w ↦ (
    w.count-is ∙ (c.loop-file.invariant.0
        ∙ sym (count_by_more_no names_input c.args.files.now c.loop-file.file-index _ c.loop-file-test.true (sym c.is_input.ensures ∙ w.if-is_input.false))),
    omega arith,
  )
]

pub returns : goal.returns
returns c = count_of_bytes (is_word input_name) c.args.files.now c.loop-file.file-index _ c.loop-file-test.false c.loop-file.invariant.0
