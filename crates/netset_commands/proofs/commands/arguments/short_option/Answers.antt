use Rattle.std.proofs.Common.{ap, sym, ◌∙◌}
use Rattle.std.specs.List.{list_any}
use Rattle.netset_commands.specs.Arguments.{short_option}
use Rattle.netset_commands.specs.Matching.{is_word}
use Rattle.netset_commands.proofs.Arguments.{any_at, none_at_all, none_passed, same_text}
use Rattle.netset_commands.proofs.commands.arguments.short_option.Goals as goal

pub returns-then-is_short : goal.returns-then-is_short
returns-then-is_short c = (
  same_text _ (short_option c.args.letter) (sym c.if-is_short.true ∙ c.is_short.ensures),
  ap (list_any (is_word (short_option c.args.letter))) (sym c.options_of-options.ensures)
      ∙ any_at (is_word (short_option c.args.letter)) c.options_of-options.result.now c.loop-option.option-index _ c.is_short.result c.loop-option-test.true c.is_short.ensures c.if-is_short.true,
)

pub loop-option-preserved : goal.loop-option-preserved
loop-option-preserved c =
    none_passed (is_word (short_option c.args.letter)) c.options_of-options.result.now c.loop-option.option-index _ c.is_short.result c.loop-option-test.true c.is_short.ensures
    c.if-is_short.false c.loop-option.invariant

pub returns : goal.returns
returns c =
    ap (list_any (is_word (short_option c.args.letter))) (sym c.options_of-options.ensures)
    ∙ none_at_all (is_word (short_option c.args.letter)) c.options_of-options.result.now c.loop-option.option-index c.loop-option-test.false c.loop-option.invariant
