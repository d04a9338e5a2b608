use Rattle.std.proofs.Common.{rules, List, length, sym, ap, subst, arith}
use Rattle.std.proofs.lemmas.List.{length-map}
use Rattle.cidr_rules.specs.declared.regions.Region.{Region}
use Rattle.cidr_rules.specs.Packets.{ranges_of}
use Rattle.cidr_rules.specs.Parts.{boxes_of}
use Rattle.cidr_rules.proofs.Telling.{IsWalk, walk_end, walk_more, walk_start}
use Rattle.cidr_rules.proofs.search.rests.Goals as goal

pub loop-out-init : goal.loop-out-init
loop-out-init g c =
    let holes = boxes_of g.A.FieldValue.number c.begin_search.new.holes.items in
    let parts = boxes_of g.A.FieldValue.number c.begin_search.new.parts.items in
    record {
      walk = subst (λ (l : List (Region g.row.A.Denot)). IsWalk holes parts parts (boxes_of g.A.FieldValue.number l)) (sym c.new-out.ensures.items)
          (walk_start holes parts c.in_ok-begin_search.ensures.parts_full);
      cells = omega arith;
      few = omega (arith, ap length c.new-out.ensures.items);
    }

pub next_rest-requires-clause-parts : goal.next_rest-requires-clause-parts
next_rest-requires-clause-parts g c = c.loop-out.invariant.walk.full

pub next_rest-requires-clause-holes : goal.next_rest-requires-clause-holes
next_rest-requires-clause-holes g c = rw c.deref.ensures.value c.in_ok-begin_search.ensures.holes_full

pub push_joined-requires-clause-regions : goal.push_joined-requires-clause-regions
push_joined-requires-clause-regions g c = c.loop-out.invariant.walk.separate

pub push_joined-requires-clause-region : goal.push_joined-requires-clause-region
push_joined-requires-clause-region g c =
    let rest = rw (c.in-Some.is, c.deref.ensures.value) at c.in_ok-found.ensures.rest in
    rest.full

pub loop-out-preserved : goal.loop-out-preserved
loop-out-preserved g c =
    let holes = boxes_of g.A.FieldValue.number c.begin_search.new.holes.items in
    let first = boxes_of g.A.FieldValue.number c.begin_search.new.parts.items in
    let rest = rw (c.in-Some.is, c.deref.ensures.value) at c.in_ok-found.ensures.rest in
    let spent = rw c.deref.ensures.value at c.in_ok-found.ensures.spent in
    let less = rw c.in-Some.is at c.in_ok-found.ensures.less in
    let joined = c.in_ok-push_joined-in-Some.ensures in
    record {
      walk = walk_more holes first (boxes_of g.A.FieldValue.number c.loop-out.parts.items) (boxes_of g.A.FieldValue.number c.loop-out.out.items)
          (boxes_of g.A.FieldValue.number c.next_rest.new.parts.items) (boxes_of g.A.FieldValue.number c.push_joined.new.regions.items)
          (ranges_of g.A.FieldValue.number c.in-Some.rest) c.loop-out.invariant.walk c.in_ok-found.ensures.parts rest joined;
      cells = omega (arith, spent, c.loop-out.invariant.cells);
      few = omega (
        arith,
        less,
        joined.few,
        length-map c.push_joined.new.regions.items (ranges_of g.A.FieldValue.number),
        length-map c.loop-out.out.items (ranges_of g.A.FieldValue.number),
        c.loop-out.invariant.few,
      );
    }

pub loop-out-smaller : goal.loop-out-smaller
loop-out-smaller g c =
    let less = rw c.in-Some.is at c.in_ok-found.ensures.less in
    omega (arith, less)

pub returns-in-None-clause-rests : goal.returns-in-None-clause-rests
returns-in-None-clause-rests g c =
    let none = rw (c.in-None.is, c.deref.ensures.value) at c.in_ok-found.ensures.rest in
    walk_end g.A.FieldValue.number (ranges_of g.A.FieldValue.number c.args.region.now) c.args.rules.now c.args.others.now
    c.begin_search.new.parts.items c.begin_search.new.holes.items (boxes_of g.A.FieldValue.number c.loop-out.parts.items) (boxes_of g.A.FieldValue.number c.loop-out.out.items)
    c.in_ok-begin_search.ensures c.loop-out.invariant.walk none

pub returns-in-None-clause-few : goal.returns-in-None-clause-few
returns-in-None-clause-few g c =
    let less = rw c.in-None.is at c.in_ok-found.ensures.less in
    omega (arith, less, c.loop-out.invariant.few)

pub returns-in-None-clause-spent : goal.returns-in-None-clause-spent
returns-in-None-clause-spent g c =
    let spent = rw c.deref.ensures.value at c.in_ok-found.ensures.spent in
    omega (arith, spent, c.loop-out.invariant.cells, c.in_ok-begin_search.ensures.few)

pub returns-in_err-found-clause-limit : goal.returns-in_err-found-clause-limit
returns-in_err-found-clause-limit g c =
    let limit = rw c.deref.ensures.value at c.in_err-found.ensures.limit in
    λ e. omega (arith, limit (search rules), c.loop-out.invariant.cells, c.in_ok-begin_search.ensures.few)
