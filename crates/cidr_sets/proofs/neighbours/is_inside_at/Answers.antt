use Rattle.std.proofs.Common.{arith, rules}
use Rattle.cidr.specs.model.Network.{BeginsWith}
use Rattle.cidr_sets.proofs.Moves.{at_index}
use Rattle.cidr_sets.proofs.neighbours.is_inside_at.Goals as goal

pub returns-then-at-networks : goal.returns-then-at-networks
returns-then-at-networks g c =
    let f = g.C.BitString.bits in
    at_index f (λ y. BeginsWith y (f c.args.outer.now)) c.args.networks.now c.args.at c.index-networks-at.result c.args.outer.now
    c.is_inside.result c.if-at-networks.true c.index-networks-at.is c.is_inside.ensures

pub returns-else-at-networks : goal.returns-else-at-networks
returns-else-at-networks g c = (λ t. absurd (search (rules, t)), λ h. absurd (omega (arith, h.0, c.if-at-networks.false)))
