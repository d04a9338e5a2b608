-- What two networks of one family share, with the family bit in front.
use Rattle.std.proofs.Common.{false, true}
use Rattle.cidr.proofs.SharedLength.{shared_behind}
use Rattle.cidr.proofs.bits.any.AnyIpCidrBitString.shared_prefix_len.Goals as goal
use Rattle.cidr.proofs.bits.any.AnyIpCidrBitString.shared_prefix_len.Goals.{in-V4-V4, in-V6-V6}

pub returns : goal.returns
returns c = elim c.match-self.branch [
  | in-V4-V4 w ↦
      rw (w.in-V4-V4.is-0, w.in-V4-V4.is-1, c.from.ensures, w.shared-is)
      (shared_behind false w.shared_length-shared.result w.in-V4-V4.one w.in-V4-V4.other w.shared_length-shared.ensures)
  | in-V6-V6 w ↦
      rw (w.in-V6-V6.is-0, w.in-V6-V6.is-1, c.from.ensures, w.shared-is)
      (shared_behind true w.shared_length-shared-in-V6-V6.result w.in-V6-V6.one w.in-V6-V6.other
      w.shared_length-shared-in-V6-V6.ensures)
]
