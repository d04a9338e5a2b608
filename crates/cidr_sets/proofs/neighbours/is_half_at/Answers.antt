use Rattle.std.proofs.Common.{arith, rules}
use Rattle.cidr_sets.specs.internal.Edits.{IsHalf}
use Rattle.cidr_sets.proofs.Moves.{at_index}
use Rattle.cidr_sets.proofs.neighbours.is_half_at.Goals as goal

pub returns-then-at-networks : goal.returns-then-at-networks
returns-then-at-networks g c =
    let f = g.C.BitString.bits in
    at_index f (λ y. IsHalf y (f c.args.parent.now)) c.args.networks.now c.args.at c.index-networks-at.result c.args.parent.now
    c.is_half.result c.if-at-networks.true c.index-networks-at.is c.is_half.ensures

pub returns-else-at-networks : goal.returns-else-at-networks
returns-else-at-networks g c = (λ t. absurd (search (rules, t)), λ h. absurd (omega (arith, h.0, c.if-at-networks.false)))
