use Rattle.std.proofs.Common.{List, ◌∷◌, [], refl, subst}
use Rattle.cidr.specs.declared.cidr.combined.IpCidr.{IpCidr}
use Rattle.cidr_c.specs.calls.Plans.{AddsRows}
use Rattle.cidr_c.proofs.PlanLines.{listed_said}
use Rattle.cidr_c.proofs.plans.push_content.Goals as goal

pub returns-in-Network : goal.returns-in-Network
returns-in-Network c = (c.in-Network.network ∷ [], rw c.in-Network.is refl, c.in_ok-push_row.ensures)

pub returns : goal.returns
returns c =
    let (said, are, grows) = c.in_ok-push_content.ensures in (
      said,
      are,
      subst (λ (t : List IpCidr). AddsRows c.args.rows.now.items c.push_lists.new.rows.items t c.args.place)
          (listed_said c.args.content.now said c.new-lists.result c.push_content.new.self c.new-lists.ensures.v4 c.new-lists.ensures.v6 are grows)
          c.in_ok-push_lists.ensures,
    )
