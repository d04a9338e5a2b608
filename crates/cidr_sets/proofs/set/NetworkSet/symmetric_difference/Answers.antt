use Rattle.std.proofs.Common.{List, map}
use Rattle.std.proofs.lemmas.Result.{IfOk-weaker}
use Rattle.cidr_sets.specs.model.Sets.{IsUnion, IsSymmetricDifference}
use Rattle.cidr_sets.proofs.Algebra.{symmetric_of}
use Rattle.cidr_sets.proofs.set.NetworkSet.symmetric_difference.Goals as goal

pub returns : goal.returns
returns g c =
    let f = g.C.BitString.bits in
    let ds = map f c.in_ok-these.these in
    let es = map f c.in_ok-those.those in
    let these = map f c.args.self.now in
    let those = map f c.args.other.now in
    IfOk-weaker c.union.result (λ (s : List g.row.C.Denot). IsUnion 129 ds es (map f s)) (λ (s : List g.row.C.Denot). IsSymmetricDifference 129 these those (map f s))
    (λ s u. symmetric_of these those ds es (map f s) c.in_ok-these.ensures.set c.in_ok-those.ensures.set u) c.union.ensures.set
