use Rattle.std.proofs.Common.{◌∙◌}
use Rattle.cidr_c.proofs.Forwarded.{rows_more}
use Rattle.cidr_c.proofs.forwarding.c_rows.Goals as goal

pub loop-row-preserved : goal.loop-row-preserved
loop-row-preserved c =
    let l = c.loop-row in
    rw c.in_ok-push.ensures.items
    (rows_more l.rows.items c.c_row.result c.args.listed.now l.row-index c.row-item.result c.loop-row-test.true l.invariant
    c.c_row.ensures.is_row (c.c_row.ensures.row ∙ c.row-item.is))
