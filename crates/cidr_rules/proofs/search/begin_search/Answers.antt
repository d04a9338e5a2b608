use Rattle.std.proofs.Common.{sym, ◌∙◌}
use Rattle.std.proofs.lemmas.Bool.{and_parts}
use Rattle.cidr_rules.specs.Packets.{ranges_of}
use Rattle.cidr_rules.proofs.Holes.{search_nothing, search_region}
use Rattle.cidr_rules.proofs.search.begin_search.Goals as goal

pub returns-then-not-is_open : goal.returns-then-not-is_open
returns-then-not-is_open g c = rw (c.requires.parts, c.requires.holes)
    (search_nothing g.A.FieldValue.number (ranges_of g.A.FieldValue.number c.args.region.now) c.args.rules.now c.args.others.now (sym c.is_open.ensures ∙ c.if-not-is_open.true))

pub returns : goal.returns
returns g c = rw (c.in_ok-push.ensures.items, c.requires.parts)
    (search_region g.A.FieldValue.number c.args.region.now c.args.rules.now c.args.others.now c.push_holes.new.holes.items c.push_holes-2.new.holes.items
    (and_parts _ _ (sym c.is_open.ensures ∙ c.if-not-is_open.false)).0 (rw c.requires.holes at c.in_ok-push_holes.ensures) c.in_ok-push_holes-2.ensures)
