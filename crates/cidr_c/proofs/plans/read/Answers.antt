use Rattle.cidr_lists.proofs.Anywhere.{all_of, next_is}
use Rattle.cidr_c.proofs.PlanLines.{last_told, line_told, none_told}
use Rattle.cidr_c.proofs.plans.read.Goals as goal

pub loop-faults-init : goal.loop-faults-init
loop-faults-init c = none_told c.args.host_bits c.args.text.now c.new-rows.result.items c.new-faults.result.items c.new-rows.ensures.items c.new-faults.ensures.items

pub returns-in_default : goal.returns-in_default
returns-in_default c =
    let l = c.loop-faults in
    let rest = l.rest.now in
    last_told c.args.host_bits c.args.text.now rest c.split_at.result.0.now c.line_len.result l.number l.at l.rows.items c.push_line.new.rows.items l.faults.items
    c.push_line.new.faults.items c.line_len.ensures.first c.split_at.ensures.front l.invariant c.in_ok-push_line.ensures
    (all_of rest c.line_len.result c.line_len.ensures.fits (rw c.split_at.ensures.back at c.in_default.ensures.cases))

pub loop-faults-preserved : goal.loop-faults-preserved
loop-faults-preserved c =
    let l = c.loop-faults in
    let rest = l.rest.now in
    let split = rw c.split_at.ensures.back at c.in-Some.ensures.cases.0 in
    let next = next_is rest c.in-Some.next.now c.line_len.result c.in-Some.field-0-0.now c.line_len.ensures.fits split in
    line_told c.args.host_bits c.args.text.now rest c.split_at.result.0.now c.line_len.result l.number l.at l.rows.items c.push_line.new.rows.items l.faults.items
    c.push_line.new.faults.items c.line_len.ensures.first c.split_at.ensures.front l.invariant c.in_ok-push_line.ensures c.in-Some.next.now next.0 next.1
