use Rattle.std.proofs.Common.{◌∙◌, ap, List, ℕ, Err, sym}
use Rattle.std.proofs.lemmas.Result.{err_from_is_err_and}
use Rattle.netset_commands.specs.Command.{given_parts}
use Rattle.netset_commands.proofs.Parts.{all_left, any_left, operand_left, value_missing, word_left, word_wrong}
use Rattle.netset_commands.proofs.commands.arguments.parts_of.Goals as goal

pub loop-word-init : goal.loop-word-init
loop-word-init g c = all_left c.args.command c.args.words.now (given_parts c.new-parts.result) c.new-parts.ensures

pub loop-word-preserved : goal.loop-word-preserved
loop-word-preserved g c =
    word_left c.args.command c.args.words.now c.loop-word.word-index _ (given_parts c.loop-word.parts) c.loop-word.next c.loop-word-test.true c.loop-word.invariant
    (given_parts c.add.new.self) c.in_ok-next.next c.in_ok-next.ensures

pub returns-in_err-next : goal.returns-in_err-next
returns-in_err-next g c =
    let (y, is, same) = err_from_is_err_and c.from_residual.result c.from_residual.ensures.1 in
    rw (is, same) (word_wrong c.args.command c.args.words.now c.loop-word.word-index _ (given_parts c.loop-word.parts) c.loop-word.next c.loop-word-test.true c.loop-word.invariant
    (g.M.Memory.refused c.add.new.memory) _ c.in_err-next.ensures)

pub returns-in-Any : goal.returns-in-Any
returns-in-Any g c =
    any_left c.args.command c.args.words.now c.loop-word.word-index (given_parts c.loop-word.parts) c.loop-word.next c.loop-word-test.false c.loop-word.invariant c.in-Any.is

pub returns-in-Operand : goal.returns-in-Operand
returns-in-Operand g c =
    operand_left c.args.command c.args.words.now c.loop-word.word-index (given_parts c.loop-word.parts) c.loop-word.next c.loop-word-test.false c.loop-word.invariant c.in-Operand.is

pub returns : goal.returns
returns g c =
    value_missing c.args.command c.args.words.now c.loop-word.word-index (given_parts c.loop-word.parts) c.loop-word.next c.loop-word-test.false c.loop-word.invariant c.in-Value.is
    ∙ ap (λ (line : List ℕ). Err line) (sym c.misused.ensures)
