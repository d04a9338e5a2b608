-- The bit stands in one of the halves.
use Rattle.std.proofs.Common.{◌≡◌, ◌+◌, ◌-◌, ◌%◌, arith}
use Rattle.cidr.proofs.HalfNumbers.{bit-upper, bit-lower}
use Rattle.cidr.proofs.arithmetic.halves.Halves.bit.Goals as goal
use Rattle.cidr.proofs.arithmetic.halves.Halves.bit.Goals.{then-i-lt64, else-i-lt64}

pub returns : goal.returns
returns c = elim c.if-i-lt64.branch [
  | then-i-lt64 w ↦
      let a = c.self.inside in
      let place : 127 - c.args.i ≡ 64 + (63 - c.args.i % 64) = omega (arith, w.if-i-lt64.true) in
      rw (← c.self.view_is, place, bit-upper (63 - c.args.i % 64) a.upper a.lower c.self.invariant.1, ← w.half-is) c.bit.ensures
  | else-i-lt64 w ↦
      let a = c.self.inside in
      let place : 127 - c.args.i ≡ 63 - c.args.i % 64 = omega (arith, w.if-i-lt64.false) in
      rw (← c.self.view_is, place, bit-lower (63 - c.args.i % 64) a.upper a.lower c.self.invariant.1 (omega arith), ← w.half-is) c.bit.ensures
]
