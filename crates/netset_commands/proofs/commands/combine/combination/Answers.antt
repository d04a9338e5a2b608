use Rattle.netset_commands.proofs.Combining.{made_kept, made_turned}
use Rattle.netset_commands.proofs.commands.combine.combination.Goals as goal

pub returns-then-turns : goal.returns-then-turns
returns-then-turns c =
    made_turned c.args.operation c.step_of.result c.turns.result c.args.several.first c.as_slice.result.now c.args.several.others.items c.in_ok-all.all c.in_ok-rest.rest
    c.step_of.ensures c.turns.ensures c.if-turns.true c.as_slice.ensures.value c.in_ok-all.ensures c.in_ok-rest.ensures

pub returns : goal.returns
returns c =
    made_kept c.args.operation c.step_of.result c.turns.result c.args.several.first c.as_slice.result.now c.args.several.others.items c.in_ok-all.all
    c.step_of.ensures c.turns.ensures c.if-turns.false c.as_slice.ensures.value c.in_ok-all.ensures
