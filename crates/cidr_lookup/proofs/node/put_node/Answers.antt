use Rattle.std.proofs.Common.{refl, ◌++◌, ◌∷◌, ◌/◌, ◌%◌, ◌^◌, take}
use Rattle.cidr_lookup.proofs.Lists.{not_put, one_put}
use Rattle.cidr_lookup.proofs.Nodes.{on_err}
use Rattle.cidr_lookup.proofs.node.put_node.Goals as goal

pub returns-in_err-push-2-clause-stopped : goal.returns-in_err-push-2-clause-stopped
returns-in_err-push-2-clause-stopped g c =
    let runs = c.args.runs.now in
    let low = runs.marks % 2 ^ 32 in
    let high = runs.marks / 2 ^ 32 in
    let rest = take runs.count runs.entries in
    let old = g.S.Sink.put c.args.sink.now in
    let one = g.S.Sink.put c.push.new.self in
    let all = old ++ low ∷ high ∷ rest in
    on_err c.from_residual-in_err-push-2.result (not_put one rest all high (g.S.Sink.put c.push-2.new.self) (g.S.Sink.refuses c.push-2.new.self)
    (one_put old (high ∷ rest) all low one refl c.in_ok-push.ensures.put) c.in_err-push-2.ensures.refused.0 c.in_err-push-2.ensures.refused.1)
