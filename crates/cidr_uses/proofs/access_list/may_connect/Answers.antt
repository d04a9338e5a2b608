use Rattle.std.proofs.Common.{Bool, List, map, sym, subst, arith}
use Rattle.cidr_sets.specs.model.FirstRules.{IsPermitted}
use Rattle.cidr_uses.proofs.access_list.may_connect.Goals as goal

pub returns : goal.returns
returns c =
    let rules = c.args.rules.now in
    let networks = map (λ r. r.network) rules in
    let actions = map (λ r. r.action) rules in
    let set = map {A = List Bool} {B = List Bool} (λ p. p) c.in_ok-set.set in
    let told = c.permitted_sets_decide_addresses.ensures.width 129 32 networks set actions (omega arith) c.have_32_bits.ensures c.in_ok-set.ensures in
    let host = c.new_host in
    let exact = told.exact host.result host.ensures.full in (
      λ t. subst (IsPermitted networks actions) host.ensures.value (exact.0 (c.contains.ensures.networks.0 t)),
      λ k. c.contains.ensures.networks.1 (exact.1 (subst (IsPermitted networks actions) (sym host.ensures.value) k)),
    )
