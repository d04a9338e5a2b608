use Rattle.std.proofs.Common.{◌+◌, rules, length, ap, arith, length-take}
use Rattle.cidr_rules.specs.Packets.{ranges_of}
use Rattle.cidr_rules.proofs.Holes.{most_more}
use Rattle.cidr_rules.proofs.Pairs.{pair_found, pair_none}
use Rattle.cidr_rules.proofs.comparing.packet_of_pair.Goals as goal

pub returns-in-None-clause-found : goal.returns-in-None-clause-found
returns-in-None-clause-found g c = pair_none g.A.FieldValue.number c.args.rules.now c.args.i c.args.others.now c.args.j c.in-None.ensures

pub returns-in_ok-packet-in-Some-clause-found : goal.returns-in_ok-packet-in-Some-clause-found
returns-in_ok-packet-in-Some-clause-found g c =
    let found = rw (c.first_rules-before.ensures, c.first_rules-beside.ensures) at c.in_ok-packet-in-Some.ensures.found in
    pair_found g.A.FieldValue.number c.args.rules.now c.args.i c.args.others.now c.args.j (ranges_of g.A.FieldValue.number c.in-Some.region) c.in-Some.ensures.1 c.in-Some.ensures.0 _ found

pub returns-in_ok-packet-in-Some-clause-spent : goal.returns-in_ok-packet-in-Some-clause-spent
returns-in_ok-packet-in-Some-clause-spent g c =
    let few = most_more (length c.first_rules-before.result.now + length c.first_rules-beside.result.now) (length c.args.rules.now + length c.args.others.now)
    (omega (arith, ap length c.first_rules-before.ensures, ap length c.first_rules-beside.ensures, length-take c.args.i c.args.rules.now, length-take c.args.j c.args.others.now)) in
    omega (arith, few, c.in_ok-packet-in-Some.ensures.spent)

pub returns-in_err-packet-in-Some-clause-limit : goal.returns-in_err-packet-in-Some-clause-limit
returns-in_err-packet-in-Some-clause-limit g c =
    let few = most_more (length c.first_rules-before.result.now + length c.first_rules-beside.result.now) (length c.args.rules.now + length c.args.others.now)
    (omega (arith, ap length c.first_rules-before.ensures, ap length c.first_rules-beside.ensures, length-take c.args.i c.args.rules.now, length-take c.args.j c.args.others.now)) in
    λ e. omega (arith, few, c.in_err-packet-in-Some.ensures.limit (search rules))
