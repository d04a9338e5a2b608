use Rattle.cidr_lists.proofs.SetSteps.{one_more, all_steps}
use Rattle.cidr_lists.proofs.sets.combined.Goals as goal

pub loop-other-preserved : goal.loop-other-preserved
loop-other-preserved c =
    one_more c.args.step c.args.first c.args.others.now c.loop-other.other-index c.other-item.result c.loop-other.all c.in_ok-all.all c.loop-other-test.true
    c.other-item.is c.loop-other.invariant c.in_ok-all.ensures

pub returns : goal.returns
returns c =
    all_steps c.args.step c.args.first c.args.others.now c.loop-other.other-index c.loop-other.all c.loop-other-test.false c.loop-other.invariant
