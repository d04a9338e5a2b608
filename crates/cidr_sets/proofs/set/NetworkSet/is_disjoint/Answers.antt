use Rattle.std.proofs.Common.{map, rules}
use borrow.Author.Tests.{tests}
use Rattle.std.proofs.lemmas.Iterator.{cases_from_any, YieldsList-from_slice}
use Rattle.cidr_sets.specs.model.Sets.{Meets}
use Rattle.cidr_sets.proofs.Algebra.{apart_from_each}
use Rattle.cidr_sets.proofs.set.NetworkSet.is_disjoint.Goals as goal

pub returns : goal.returns
returns g c =
    let f = g.C.BitString.bits in
    let s = map f c.args.other.now in
    apart_from_each f c.args.self.now s c.any.result
    (cases_from_any _ _ _ (λ x. Meets 129 s (f x)) (λ x. ¬ (Meets 129 s (f x))) c.any.ensures.ran
    (YieldsList-from_slice c.args.self.now (cc)) (λ x q k. search (rules, tests)) (λ x q k. search (rules, tests)))
