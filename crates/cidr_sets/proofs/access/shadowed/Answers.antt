use Rattle.std.proofs.Common.{arith}
use Rattle.std.proofs.lemmas.List.{length-map}
use Rattle.cidr_sets.proofs.access.shadowed.Goals as goal

pub returns-clause-indices : goal.returns-clause-indices
returns-clause-indices g c i =
    let h = c.in_ok-decide_all.ensures.unreached in
    (λ k. ((h.exact i).0 k).1, λ s. (h.exact i).1 (omega (arith, s.0, length-map c.args.rules.now (λ r. g.C.BitString.bits r.network)), s))
