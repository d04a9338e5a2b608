use Rattle.cidr_lists.proofs.KeptNear.{changed_more, none_changed}
use Rattle.cidr_lists.proofs.Passing.{all_passed, none_passed, rows_still}
use Rattle.cidr_lists.proofs.near.keep.Goals as goal

pub loop-index-init : goal.loop-index-init
loop-index-init g c = record {
  passed = none_passed g.C.BitString.bits c.args.rows.now c.args.near.now c.new-nest.result.items c.new-nest.ensures.items;
  others = none_changed c.args.rows.now c.args.near.now;
}

pub pass-requires-clause-rows : goal.pass-requires-clause-rows
pass-requires-clause-rows g c = rows_still c.args.rows.now c.args.near.now c.loop-index.near c.requires.rows c.loop-index.invariant.others

pub loop-index-preserved : goal.loop-index-preserved
loop-index-preserved g c = record {
  passed = c.in_ok-pass.ensures.passed;
  others = changed_more c.args.rows.now c.args.near.now c.loop-index.near c.pass.new.near c.loop-index.invariant.others c.in_ok-pass.ensures.others;
}

pub returns-in_err-pass-clause-others : goal.returns-in_err-pass-clause-others
returns-in_err-pass-clause-others g c =
    changed_more c.args.rows.now c.args.near.now c.loop-index.near c.pass.new.near c.loop-index.invariant.others c.in_err-pass.ensures.others

pub returns : goal.returns
returns g c = record {
  kept = all_passed g.C.BitString.bits c.args.rows.now c.loop-index.index c.loop-index.near c.loop-index.nest.items c.loop-index-test.false c.loop-index.invariant.passed;
  others = c.loop-index.invariant.others;
}
