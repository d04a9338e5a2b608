-- Each half has its first bits from the one number and the others from the other.
use Rattle.cidr.proofs.HalfNumbers.{parts-halves}
use Rattle.cidr.proofs.arithmetic.halves.Halves.with_host_part.Goals as goal

pub returns : goal.returns
returns c =
    let a = c.self.inside in
    let b = c.other.inside in
    rw (c.with_host_part.ensures, c.with_host_part-2.ensures, c.saturating_sub-lower_len.ensures, ← c.self.view_is, ← c.other.view_is)
    (parts-halves c.args.len a.upper a.lower b.upper b.lower c.requires c.self.invariant.1 c.other.invariant.1)
