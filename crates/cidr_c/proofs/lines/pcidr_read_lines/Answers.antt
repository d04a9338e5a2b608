use Rattle.std.proofs.Common.{Bool, subst}
use Rattle.cidr_c.proofs.LineSteps.{AreSoFar, one_more, stopped}
use Rattle.cidr_c.proofs.lines.pcidr_read_lines.Goals as goal

pub returns-then-code-ne-OK : goal.returns-then-code-ne-OK
returns-then-code-ne-OK c =
    let so_far = subst (λ (m : Bool). AreSoFar c.args.text.now c.loop-more.rest.now m c.args.out.now c.loop-more.n c.loop-more.out) c.loop-more-test.true c.loop-more.invariant in
    stopped c.args.text.now c.loop-more.rest.now c.args.out.now c.loop-more.n c.loop-more.out so_far
    c.first_line-has_more.result.0.now c.first_line-has_more.result.1.now c.first_line-has_more.result.2 c.first_line-has_more.ensures
    c.read_into-code.new.out c.read_into-code.result c.if-code-ne-OK.true c.read_into-code.ensures

pub loop-more-preserved : goal.loop-more-preserved
loop-more-preserved c =
    let so_far = subst (λ (m : Bool). AreSoFar c.args.text.now c.loop-more.rest.now m c.args.out.now c.loop-more.n c.loop-more.out) c.loop-more-test.true c.loop-more.invariant in
    one_more c.args.text.now c.loop-more.rest.now c.args.out.now c.loop-more.n c.loop-more.out so_far
    c.first_line-has_more.result.0.now c.first_line-has_more.result.1.now c.first_line-has_more.result.2 c.first_line-has_more.ensures
    c.read_into-code.new.out c.read_into-code.result c.if-code-ne-OK.false c.read_into-code.ensures
