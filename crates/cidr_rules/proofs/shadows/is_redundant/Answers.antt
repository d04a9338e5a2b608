use Rattle.std.proofs.Common.{rules, arith}
use Rattle.cidr_rules.proofs.Needless.{needed_at, redundant_at, without_bound}
use Rattle.cidr_rules.proofs.shadows.is_redundant.Goals as goal

pub returns-in-Some-clause-answer : goal.returns-in-Some-clause-answer
returns-in-Some-clause-answer g c =
    needed_at g.A.FieldValue.number c.args.rules.now c.args.rest.now c.args.i c.requires.within c.requires.rest _ (rw c.in-Some.is at c.in_ok-packet.ensures.found)

pub returns-in-None-clause-answer : goal.returns-in-None-clause-answer
returns-in-None-clause-answer g c =
    redundant_at g.A.FieldValue.number c.args.rules.now c.args.rest.now c.args.i c.requires.within c.requires.rest (rw c.in-None.is at c.in_ok-packet.ensures.found)

pub returns-in-Some-clause-spent : goal.returns-in-Some-clause-spent
returns-in-Some-clause-spent g c = omega (arith, c.in_ok-packet.ensures.spent, without_bound c.args.rules.now c.args.rest.now c.args.i c.requires.within c.requires.rest)

pub returns-in-None-clause-spent : goal.returns-in-None-clause-spent
returns-in-None-clause-spent g c = omega (arith, c.in_ok-packet.ensures.spent, without_bound c.args.rules.now c.args.rest.now c.args.i c.requires.within c.requires.rest)

pub returns-in_err-packet-clause-limit : goal.returns-in_err-packet-clause-limit
returns-in_err-packet-clause-limit g c =
    let few = without_bound c.args.rules.now c.args.rest.now c.args.i c.requires.within c.requires.rest in
    λ e. omega (arith, few, c.in_err-packet.ensures.limit (search rules))
