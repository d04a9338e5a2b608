-- The host part of the number is that of both halves.
use Rattle.cidr.proofs.HalfNumbers.{host-halves}
use Rattle.cidr.proofs.arithmetic.halves.Halves.host_part.Goals as goal

pub returns : goal.returns
returns c =
    let a = c.self.inside in
    rw (c.host_part.ensures, c.host_part-2.ensures, c.saturating_sub.ensures, ← c.self.view_is)
    (host-halves c.args.len a.upper a.lower c.requires c.self.invariant.1)
