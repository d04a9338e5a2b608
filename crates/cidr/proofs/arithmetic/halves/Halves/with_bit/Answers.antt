-- The bit stands in one of the halves.
use Rattle.std.proofs.Common.{◌≡◌, ◌+◌, ◌-◌, arith}
use Rattle.cidr.proofs.HalfNumbers.{with-upper, with-lower}
use Rattle.cidr.proofs.arithmetic.halves.Halves.with_bit.Goals as goal

pub returns-then-i-lt64-clause-set : goal.returns-then-i-lt64-clause-set
returns-then-i-lt64-clause-set c =
    let a = c.self.inside in
    let here = c.with_bit in
    rw (c.new.ensures) (with-upper c.args.i here.result a.upper a.lower c.args.b c.if-i-lt64.true c.self.invariant.1 here.ensures.set here.ensures.kept).0

pub returns-then-i-lt64-clause-kept : goal.returns-then-i-lt64-clause-kept
returns-then-i-lt64-clause-kept c =
    let a = c.self.inside in
    let here = c.with_bit in
    rw (c.new.ensures, ← c.self.view_is) (with-upper c.args.i here.result a.upper a.lower c.args.b c.if-i-lt64.true c.self.invariant.1 here.ensures.set here.ensures.kept).1

pub returns-else-i-lt64-clause-set : goal.returns-else-i-lt64-clause-set
returns-else-i-lt64-clause-set c =
    let a = c.self.inside in
    let here = c.with_bit-else-i-lt64 in
    let place : c.args.i ≡ 64 + (c.args.i - 64) = omega arith in
    let bits = with-lower (c.args.i - 64) here.result a.upper a.lower c.args.b (omega arith) c.self.invariant.1 (omega arith) here.ensures.set here.ensures.kept in
    rw (c.new-else-i-lt64.ensures, place) bits.0

pub returns-else-i-lt64-clause-kept : goal.returns-else-i-lt64-clause-kept
returns-else-i-lt64-clause-kept c =
    let a = c.self.inside in
    let here = c.with_bit-else-i-lt64 in
    let place : c.args.i ≡ 64 + (c.args.i - 64) = omega arith in
    let bits = with-lower (c.args.i - 64) here.result a.upper a.lower c.args.b (omega arith) c.self.invariant.1 (omega arith) here.ensures.set here.ensures.kept in
    rw (c.new-else-i-lt64.ensures, ← c.self.view_is, place) bits.1
