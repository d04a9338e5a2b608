use Rattle.std.proofs.Common.{get_or, sym, ◌∙◌}
use Rattle.std.proofs.lemmas.List.{get_or_default}
use Rattle.cidr_rules.proofs.Deciding.{permits_behind, permits_here}
use Rattle.cidr_rules.proofs.search.permits_from.Goals as goal

pub returns-then-i-rules : goal.returns-then-i-rules
returns-then-i-rules g c =
    let r = get_or c.args.rules.now c.args.i c.index-rules-i.result in
    c.is_permit.ensures ∙ sym (permits_here c.args.rules.now c.args.i r c.if-i-rules.true
    (get_or_default c.args.rules.now c.args.i c.index-rules-i.result r c.if-i-rules.true))

pub returns-else-i-rules : goal.returns-else-i-rules
returns-else-i-rules g c = sym (permits_behind c.args.rules.now c.args.i c.if-i-rules.false)
