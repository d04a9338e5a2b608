use Rattle.std.proofs.lemmas.Result.{IfOk-weaker}
use Rattle.cidr_sets.proofs.Deciding.{inner_decide, one_decides}
use Rattle.cidr_sets.proofs.decisions.deciding_in.Goals as goal

pub returns-in_ok-push-in-Some-clause-indices : goal.returns-in_ok-push-in-Some-clause-indices
returns-in_ok-push-in-Some-clause-indices g c networks tells =
    rw (c.in_ok-push-in-Some.ensures.items, c.new-by.ensures.items)
    (one_decides g.C.BitString.bits networks c.args.parts.now.rows tells (g.C.BitString.bits c.args.network.now) c.has_at_most_129_bits.ensures c.in-Some.row.now c.in-Some.ensures.row)

pub returns-in-None-clause-indices : goal.returns-in-None-clause-indices
returns-in-None-clause-indices g c =
    IfOk-weaker c.indices_of.result _ _ (λ by are networks tells j.
    let told = inner_decide g.C.BitString.bits networks c.args.parts.now.rows tells (g.C.BitString.bits c.args.network.now) c.has_at_most_129_bits.ensures
    c.inside.result.now c.in-None.ensures.row c.inside.ensures.rows j in
    (λ k. told.0 ((are j).0 k), λ d. (are j).1 (told.1 d))) c.indices_of.ensures.indices
