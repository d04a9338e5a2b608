use Rattle.std.proofs.Common.{sym, ◌∙◌}
use Rattle.cidr_rules.specs.Packets.{ranges_of}
use Rattle.cidr_rules.proofs.Steps.{clear_of_all, covered_by_one, meets_at}
use Rattle.cidr_rules.proofs.parts.step_of.Goals as goal

pub returns-in-None : goal.returns-in-None
returns-in-None g c = clear_of_all g.A.FieldValue.number (ranges_of g.A.FieldValue.number c.args.region.now) c.args.holes.now (sym c.first_meeting.ensures ∙ c.in-None.is)

pub returns-then-one_covers : goal.returns-then-one_covers
returns-then-one_covers g c =
    covered_by_one g.A.FieldValue.number (ranges_of g.A.FieldValue.number c.args.region.now) c.args.holes.now (sym c.one_covers.ensures ∙ c.if-one_covers.true)

pub returns-else-one_covers : goal.returns-else-one_covers
returns-else-one_covers g c =
    meets_at g.A.FieldValue.number (ranges_of g.A.FieldValue.number c.args.region.now) c.args.holes.now c.in-Some.i (sym c.first_meeting.ensures ∙ c.in-Some.is)
