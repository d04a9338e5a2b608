use Rattle.std.proofs.Common.{◌∙◌, [], ◌∷◌, rules, Some}
use borrow.Author.Tests.{tests}
use Rattle.cidr_sets.proofs.FirstFound.{first_from_find_map}
use Rattle.cidr_sets.proofs.Free.{HasNone, first_of_each}
use Rattle.cidr_sets.specs.model.Pools.{IsFirstFree}
use Rattle.std.specs.Slice.Iter.{iter_rest}
use Rattle.cidr_sets.proofs.set.NetworkSet.first_free.Goals as goal

pub returns-clause-first : goal.returns-clause-first
returns-clause-first g c =
    let f = g.C.BitString.bits in
    let N = g.C.PoolNetwork.IsNetwork in
    let s = c.args.self.now in
    let n = c.args.len in
    first_of_each N n f s c.find_map.result c.as_slice.ensures.reduced
    (first_from_find_map iter_rest (HasNone N n f s) (λ x y. IsFirstFree N (f x ∷ []) n (Some (f y))) (λ x k. search (rules, tests)) (λ x y k. search (rules, tests))
    s c.iter.result c.find_map.result c.iter.ensures.runs (c.iter.ensures.rest ∙ c.as_slice.ensures.networks) (λ a r q k. search rules) c.find_map.ensures.runs)
