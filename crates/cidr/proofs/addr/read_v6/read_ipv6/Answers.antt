-- An IPv6 text is a head of groups and, after two colons, a tail; each way out of the reader finds one of them missing.
use Rattle.std.proofs.Common.{arith, sym, ◌∙◌}
use Rattle.cidr.proofs.Ipv6Reading.{none_left, some_left, left_over, room_left}
use Rattle.cidr.proofs.Ipv6Whole.{at_stuck, at_eight, at_no_colons, at_stuck_tail, at_left_over, at_end, whole_fits}
use Rattle.cidr.proofs.addr.read_v6.read_ipv6.Goals as goal

pub returns-in_err-head : goal.returns-in_err-head
returns-in_err-head c = rw c.from_residual.ensures (at_stuck _ c.in_err-head.ensures)

pub returns-then-head-eq8 : goal.returns-then-head-eq8
returns-then-head-eq8 c =
    let h = c.in_ok-head.ensures in
    at_eight h.found c.if-head-eq8.true (h.all (none_left _ c.if-is_empty.ensures))

pub returns-else-head-eq8 : goal.returns-else-head-eq8
returns-else-head-eq8 c =
    let h = c.in_ok-head.ensures in
    let none = h.all (none_left _ c.if-is_empty.ensures) in
    at_no_colons h.found c.if-head-eq8.false (rw none (λ more e. cc))

pub returns-in_err-tail_text : goal.returns-in_err-tail_text
returns-in_err-tail_text c =
    let h = c.in_ok-head.ensures in
    let some = some_left _ c.if-is_empty.ensures in
    rw c.from_residual-in_err-tail_text.ensures
    (at_no_colons h.found (room_left h some (omega arith))
    (λ more e. c.in_err-tail_text.ensures more (sym (h.some some) ∙ e)))

pub returns-in_err-tail : goal.returns-in_err-tail
returns-in_err-tail c =
    let h = c.in_ok-head.ensures in
    let some = some_left _ c.if-is_empty.ensures in
    let both = h.some some ∙ c.in_ok-tail_text.ensures in
    rw c.from_residual-in_err-tail.ensures
    (at_stuck_tail h.found (room_left h some (omega arith)) both c.in_err-tail.ensures)

pub returns-then-not-is_empty : goal.returns-then-not-is_empty
returns-then-not-is_empty c =
    let h = c.in_ok-head.ensures in
    let t = c.in_ok-tail.ensures in
    let some = some_left _ c.if-is_empty.ensures in
    let more = left_over t (some_left _ c.if-not-is_empty.ensures) in
    at_left_over h.found (room_left h some (omega arith)) (h.some some ∙ c.in_ok-tail_text.ensures) t.found more

pub overflow_add-result : goal.overflow_add-result
overflow_add-result c =
    let h = c.in_ok-head.ensures in
    let t = c.in_ok-tail.ensures in
    let some = some_left _ c.if-is_empty.ensures in
    let fits = whole_fits h.found (room_left h some (omega arith)) (h.some some ∙ c.in_ok-tail_text.ensures) t.found in
    omega arith

pub returns : goal.returns
returns c =
    let h = c.in_ok-head.ensures in
    let t = c.in_ok-tail.ensures in
    let some = some_left _ c.if-is_empty.ensures in
    let none = t.all (none_left _ c.if-not-is_empty.ensures) in
    at_end h.found (room_left h some (omega arith)) (h.some some ∙ c.in_ok-tail_text.ensures) t.found none
