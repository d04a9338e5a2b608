use Rattle.std.proofs.Common.{map, subst}
use Rattle.std.specs.Bool.{Decides}
use Rattle.cidr_sets.specs.model.FirstRules.{IsPermitted}
use Rattle.cidr_uses.proofs.AccessLists.{same_answer}
use Rattle.cidr_uses.proofs.access_list.set_and_rules_agree.Goals as goal

pub returns : goal.returns
returns c =
    let rules = c.args.rules.now in
    let networks = map (λ r. r.network) rules in
    let actions = map (λ r. r.action) rules in
    same_answer (IsPermitted networks actions c.args.address) c.in_ok-may.may c.permits.result c.in_ok-may.ensures
    (subst (λ a. Decides c.permits.result (IsPermitted networks actions a)) c.new_host.ensures.value c.permits.ensures)
