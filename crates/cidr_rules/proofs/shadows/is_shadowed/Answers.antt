use Rattle.std.proofs.Common.{◌+◌, rules, length, get_or, ap, arith, length-take}
use Rattle.std.proofs.lemmas.List.{get_or_default}
use Rattle.cidr_rules.specs.Packets.{fields_of}
use Rattle.cidr_rules.proofs.Holes.{most_more}
use Rattle.cidr_rules.proofs.Needless.{shadowed_at, used_at}
use Rattle.cidr_rules.proofs.shadows.is_shadowed.Goals as goal

pub returns-in-Some-clause-answer : goal.returns-in-Some-clause-answer
returns-in-Some-clause-answer g c =
    let r = get_or c.args.rules.now c.args.i c.index-rules-i.result in
    let free = rw (c.first_rules-earlier.ensures, c.first_rules-none.ensures) at (rw c.in-Some.is at c.in_ok-packet.ensures.found) in (
      fields_of g.A.FieldValue.number c.in-Some.field-0,
      used_at g.A.FieldValue.number c.args.rules.now c.args.i r c.requires (get_or_default c.args.rules.now c.args.i c.index-rules-i.result r c.requires)
          (fields_of g.A.FieldValue.number c.in-Some.field-0) free,
    )

pub returns-in-None-clause-answer : goal.returns-in-None-clause-answer
returns-in-None-clause-answer g c =
    let r = get_or c.args.rules.now c.args.i c.index-rules-i.result in
    let none = rw (c.first_rules-earlier.ensures, c.first_rules-none.ensures) at (rw c.in-None.is at c.in_ok-packet.ensures.found) in
    shadowed_at g.A.FieldValue.number c.args.rules.now c.args.i r c.requires (get_or_default c.args.rules.now c.args.i c.index-rules-i.result r c.requires) none

pub returns-in-Some-clause-spent : goal.returns-in-Some-clause-spent
returns-in-Some-clause-spent g c =
    let few = most_more (length c.first_rules-earlier.result.now + length c.first_rules-none.result.now) (length c.args.rules.now)
    (omega (arith, ap length c.first_rules-earlier.ensures, ap length c.first_rules-none.ensures, length-take c.args.i c.args.rules.now)) in
    omega (arith, few, c.in_ok-packet.ensures.spent)

pub returns-in-None-clause-spent : goal.returns-in-None-clause-spent
returns-in-None-clause-spent g c =
    let few = most_more (length c.first_rules-earlier.result.now + length c.first_rules-none.result.now) (length c.args.rules.now)
    (omega (arith, ap length c.first_rules-earlier.ensures, ap length c.first_rules-none.ensures, length-take c.args.i c.args.rules.now)) in
    omega (arith, few, c.in_ok-packet.ensures.spent)

pub returns-in_err-packet-clause-limit : goal.returns-in_err-packet-clause-limit
returns-in_err-packet-clause-limit g c =
    let few = most_more (length c.first_rules-earlier.result.now + length c.first_rules-none.result.now) (length c.args.rules.now)
    (omega (arith, ap length c.first_rules-earlier.ensures, ap length c.first_rules-none.ensures, length-take c.args.i c.args.rules.now)) in
    λ e. omega (arith, few, c.in_err-packet.ensures.limit (search rules))
