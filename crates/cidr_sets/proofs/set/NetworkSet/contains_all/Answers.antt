use Rattle.std.proofs.Common.{map, rules}
use borrow.Author.Tests.{tests}
use Rattle.std.proofs.lemmas.Iterator.{cases_from_all, YieldsList-from_slice}
use Rattle.cidr_table.specs.model.Cover.{IsFull}
use Rattle.cidr_sets.proofs.Algebra.{subset_from_each}
use Rattle.cidr_sets.proofs.set.NetworkSet.contains_all.Goals as goal

pub returns : goal.returns
returns g c =
    let f = g.C.BitString.bits in
    let s = map f c.args.self.now in
    subset_from_each f c.args.networks.now s c.all.result
    (cases_from_all _ _ _ (λ x. IsFull 129 s (f x)) (λ x. ¬ (IsFull 129 s (f x))) c.all.ensures.ran
    (YieldsList-from_slice c.args.networks.now cc) (λ x q k. search (rules, tests)) (λ x q k. search (rules, tests)))
