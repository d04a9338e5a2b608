use Rattle.std.proofs.Common.{◌+◌, rules, List, length, sym, ap, subst, arith, length-take}
use Rattle.cidr_rules.specs.declared.regions.Region.{Region}
use Rattle.cidr_rules.specs.Packets.{ranges_of}
use Rattle.cidr_rules.specs.Parts.{boxes_of}
use Rattle.cidr_rules.specs.Searches.{AreOfPair}
use Rattle.cidr_rules.proofs.Holes.{most_more}
use Rattle.cidr_rules.proofs.Telling.{pair_nothing, pair_rests}
use Rattle.cidr_rules.proofs.comparing.regions_of_pair.Goals as goal

pub returns-in-None-clause-regions : goal.returns-in-None-clause-regions
returns-in-None-clause-regions g c =
    subst (λ (l : List (Region g.row.A.Denot)). AreOfPair g.A.FieldValue.number c.args.rules.now c.args.i c.args.others.now c.args.j (boxes_of g.A.FieldValue.number l)) (sym c.new.ensures.items)
    (pair_nothing g.A.FieldValue.number c.args.rules.now c.args.i c.args.others.now c.args.j c.in-None.ensures)

pub returns-in-None-clause-few : goal.returns-in-None-clause-few
returns-in-None-clause-few g c = omega (arith, ap length c.new.ensures.items)

pub returns-in_ok-regions-in-Some-clause-regions : goal.returns-in_ok-regions-in-Some-clause-regions
returns-in_ok-regions-in-Some-clause-regions g c =
    let found = rw (c.first_rules-before.ensures, c.first_rules-beside.ensures) at c.in_ok-regions-in-Some.ensures.rests in
    pair_rests g.A.FieldValue.number c.args.rules.now c.args.i c.args.others.now c.args.j (ranges_of g.A.FieldValue.number c.in-Some.region) c.in-Some.ensures _ found

pub returns-in_ok-regions-in-Some-clause-spent : goal.returns-in_ok-regions-in-Some-clause-spent
returns-in_ok-regions-in-Some-clause-spent g c =
    let few = most_more (length c.first_rules-before.result.now + length c.first_rules-beside.result.now) (length c.args.rules.now + length c.args.others.now)
    (omega (arith, ap length c.first_rules-before.ensures, ap length c.first_rules-beside.ensures, length-take c.args.i c.args.rules.now, length-take c.args.j c.args.others.now)) in
    omega (arith, few, c.in_ok-regions-in-Some.ensures.spent)

pub returns-in_err-regions-in-Some-clause-limit : goal.returns-in_err-regions-in-Some-clause-limit
returns-in_err-regions-in-Some-clause-limit g c =
    let few = most_more (length c.first_rules-before.result.now + length c.first_rules-beside.result.now) (length c.args.rules.now + length c.args.others.now)
    (omega (arith, ap length c.first_rules-before.ensures, ap length c.first_rules-beside.ensures, length-take c.args.i c.args.rules.now, length-take c.args.j c.args.others.now)) in
    λ e. omega (arith, few, c.in_err-regions-in-Some.ensures.limit (search rules))
