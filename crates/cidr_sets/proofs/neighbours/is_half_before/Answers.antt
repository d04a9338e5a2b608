use Rattle.std.proofs.Common.{◌-◌, arith, rules}
use Rattle.cidr_sets.specs.internal.Edits.{IsHalf}
use Rattle.cidr_sets.proofs.Moves.{at_index}
use Rattle.cidr_sets.proofs.neighbours.is_half_before.Goals as goal

pub returns-then-start-gt0 : goal.returns-then-start-gt0
returns-then-start-gt0 g c =
    let f = g.C.BitString.bits in
    let some = c.if-start-gt0.true in
    let told = at_index f (λ y. IsHalf y (f c.args.parent.now)) c.args.networks.now (c.args.start - 1) c.index-networks-start.result c.args.parent.now
    c.is_half.result (omega (arith, some, c.requires)) c.index-networks-start.is c.is_half.ensures in
    (λ t. (some, (told.0 t).1), λ h. told.1 (omega (arith, some, c.requires), h.1))

pub returns-else-start-gt0 : goal.returns-else-start-gt0
returns-else-start-gt0 g c = (λ t. absurd (search (rules, t)), λ h. absurd (omega (arith, h.0, c.if-start-gt0.false)))
