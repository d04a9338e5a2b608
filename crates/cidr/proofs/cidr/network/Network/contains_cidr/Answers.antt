-- What the test tells besides, where the other network is not shorter.
use Rattle.std.proofs.Common.{arith}
use Rattle.cidr.specs.model.Network.{width_of}
use Rattle.cidr.proofs.Holding.{begins_first, both_ways}
use Rattle.cidr.proofs.Nesting.{apart_by_test, consecutive_by_test}
use Rattle.cidr.proofs.cidr.network.Network.contains_cidr.Goals as goal

pub returns-then-self-other-clause-begins : goal.returns-then-self-other-clause-begins
returns-then-self-other-clause-begins g c =
    let first = begins_first (width_of g.A.AddressBits.FAMILY) c.self.inside.len c.other.inside.len (g.A.AddressBits.bits c.self.inside.address)
    (g.A.AddressBits.bits c.other.inside.address) c.self.invariant.0 c.self.invariant.1 (omega (arith, c.if-self-other.true)) in
    let test = rw (← c.self.view_is) at c.contains-begins.ensures in
    rw (← c.self.view_is, ← c.other.view_is) (both_ways test first)

pub returns-then-self-other-clause-apart : goal.returns-then-self-other-clause-apart
returns-then-self-other-clause-apart g c = apart_by_test _ _ _ (returns-then-self-other-clause-begins g c)

pub returns-then-self-other-clause-consecutive : goal.returns-then-self-other-clause-consecutive
returns-then-self-other-clause-consecutive g c = consecutive_by_test _ _ _ (returns-then-self-other-clause-begins g c)
