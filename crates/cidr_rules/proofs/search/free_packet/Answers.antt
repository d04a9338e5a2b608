use Rattle.std.proofs.Common.{arith}
use Rattle.cidr_rules.specs.Packets.{ranges_of}
use Rattle.cidr_rules.proofs.Boxes.{full_corner}
use Rattle.cidr_rules.proofs.Holes.{free_none, free_some}
use Rattle.cidr_rules.proofs.search.free_packet.Goals as goal

pub next_rest-requires-clause-holes : goal.next_rest-requires-clause-holes
next_rest-requires-clause-holes g c = rw c.deref.ensures.value c.in_ok-begin_search.ensures.holes_full

pub returns-in-Some-clause-found : goal.returns-in-Some-clause-found
returns-in-Some-clause-found g c =
    let rest = rw (c.in-Some.is, c.deref.ensures.value) at c.in_ok-found.ensures.rest in
    rw c.first_packet.ensures (free_some g.A.FieldValue.number (ranges_of g.A.FieldValue.number c.args.region.now) c.args.rules.now c.args.others.now
    c.begin_search.new.parts.items c.begin_search.new.holes.items c.in_ok-begin_search.ensures _ (ranges_of g.A.FieldValue.number c.in-Some.rest) rest _
    (full_corner (ranges_of g.A.FieldValue.number c.in-Some.rest) rest.full))

pub returns-in-Some-clause-spent : goal.returns-in-Some-clause-spent
returns-in-Some-clause-spent g c =
    let spent = rw c.deref.ensures.value at c.in_ok-found.ensures.spent in
    omega (arith, spent, c.in_ok-begin_search.ensures.few)

pub returns-clause-found : goal.returns-clause-found
returns-clause-found g c =
    let none = rw (c.in-None.is, c.deref.ensures.value) at c.in_ok-found.ensures.rest in
    free_none g.A.FieldValue.number (ranges_of g.A.FieldValue.number c.args.region.now) c.args.rules.now c.args.others.now
    c.begin_search.new.parts.items c.begin_search.new.holes.items c.in_ok-begin_search.ensures none

pub returns-clause-spent : goal.returns-clause-spent
returns-clause-spent g c =
    let spent = rw c.deref.ensures.value at c.in_ok-found.ensures.spent in
    omega (arith, spent, c.in_ok-begin_search.ensures.few)
