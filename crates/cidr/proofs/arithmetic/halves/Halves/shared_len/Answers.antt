-- The first bits are those of the upper halves, and where these are the same, those of the lower halves too.
use Rattle.cidr.proofs.HalfNumbers.{shared-lower, shared-upper}
use Rattle.cidr.proofs.arithmetic.halves.Halves.shared_len.Goals as goal

pub returns-then-self-other-clause-shared : goal.returns-then-self-other-clause-shared
returns-then-self-other-clause-shared c =
    let a = c.self.inside in
    let b = c.other.inside in
    rw (← c.self.view_is, ← c.other.view_is)
    (shared-lower a.upper b.upper a.lower b.lower c.shared_len.result c.if-self-other.true c.self.invariant.1 c.other.invariant.1 c.shared_len.ensures.shared)

pub returns-else-self-other-clause-shared : goal.returns-else-self-other-clause-shared
returns-else-self-other-clause-shared c =
    let a = c.self.inside in
    let b = c.other.inside in
    let here = c.shared_len-else-self-other in
    rw (← c.self.view_is, ← c.other.view_is)
    (shared-upper a.upper b.upper a.lower b.lower here.result c.if-self-other.false c.self.invariant.1 c.other.invariant.1 here.ensures.fits here.ensures.shared)
