-- The room of the number is that of both halves.
use Rattle.cidr.proofs.HalfNumbers.{room-halves}
use Rattle.cidr.proofs.arithmetic.halves.Halves.host_room.Goals as goal

pub returns : goal.returns
returns c =
    let a = c.self.inside in
    rw (c.host_room.ensures, c.host_room-2.ensures, c.saturating_sub.ensures, ← c.self.view_is)
    (room-halves c.args.len a.upper a.lower c.requires c.self.invariant.1)
