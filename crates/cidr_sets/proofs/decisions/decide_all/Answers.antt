use Rattle.std.proofs.Common.{length, map, sym, subst, arith}
use Rattle.std.proofs.lemmas.List.{length-map}
use Rattle.std.specs.List.{Contains}
use Rattle.cidr_sets.proofs.Deciding.{index_within, unreached_rules}
use Rattle.cidr_sets.proofs.decisions.decide_all.Goals as goal

pub unreached_in-requires : goal.unreached_in-requires
unreached_in-requires g c part k =
    let f = g.C.BitString.bits in
    let rules = c.args.rules.now in
    let within = index_within f (map (λ r. f r.network) rules) (length rules) c.in_ok-parts.parts.items c.in_ok-parts.ensures part
    (subst (λ l. Contains l part) c.as_slice.ensures.value k) in
    omega (arith, within, length-map rules (λ r. f r.network))

pub returns-clause-unreached : goal.returns-clause-unreached
returns-clause-unreached g c =
    let f = g.C.BitString.bits in
    let rules = c.args.rules.now in
    unreached_rules f (map (λ r. f r.network) rules) (length rules) c.in_ok-parts.parts.items c.in_ok-parts.ensures c.in_ok-unreached.unreached.items
    (sym (length-map rules (λ r. f r.network))) (rw c.as_slice.ensures.value at c.in_ok-unreached.ensures.indices) c.in_ok-unreached.ensures.ascending
