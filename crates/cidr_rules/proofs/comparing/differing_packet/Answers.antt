use Rattle.std.proofs.Common.{◌≢◌, ◌+◌, ◌*◌, true, rules, length, arith}
use Rattle.cidr_rules.specs.declared.regions.Packet.{Packet}
use Rattle.cidr_rules.specs.Packets.{fields_of}
use Rattle.cidr_rules.specs.Lists.{is_permitted, most_parts}
use Rattle.cidr_rules.proofs.Pairs.{found_all, row_more, same_more, step_le}
use Rattle.cidr_rules.proofs.comparing.differing_packet.Goals as goal

pub loop-i-preserved : goal.loop-i-preserved
loop-i-preserved g c =
    let same = rw c.in-None.is at c.in_ok-found.ensures.found in
    record {
      same = same_more g.A.FieldValue.number (λ _. true) c.args.rules.now c.args.others.now c.args.rules.now c.loop-i.i c.loop-i.invariant.same (λ x _ stops. same x stops);
      spent = omega (
        arith,
        row_more c.loop-i.i ((length c.args.others.now + 1) * most_parts (length c.args.rules.now + length c.args.others.now)),
        c.in_ok-found.ensures.spent,
        c.loop-i.invariant.spent,
      );
    }

pub returns-in_err-found-clause-limit : goal.returns-in_err-found-clause-limit
returns-in_err-found-clause-limit g c =
    let step = step_le c.loop-i.i (length c.args.rules.now + 1) ((length c.args.others.now + 1) * most_parts (length c.args.rules.now + length c.args.others.now)) (omega arith) in
    λ e. omega (arith, step, c.in_err-found.ensures.limit (search rules), c.loop-i.invariant.spent)

pub returns-in_err-last-clause-limit : goal.returns-in_err-last-clause-limit
returns-in_err-last-clause-limit g c =
    let step = step_le c.loop-i.i (length c.args.rules.now + 1) ((length c.args.others.now + 1) * most_parts (length c.args.rules.now + length c.args.others.now)) (omega arith) in
    λ e. omega (arith, step, c.in_err-last.ensures.limit (search rules), c.loop-i.invariant.spent)

pub returns-clause-found : goal.returns-clause-found
returns-clause-found g c =
    found_all g.A.FieldValue.number
    (λ (p : Packet g.row.A.Denot). is_permitted g.A.FieldValue.number c.args.rules.now (fields_of g.A.FieldValue.number p) ≢ is_permitted g.A.FieldValue.number c.args.others.now (fields_of g.A.FieldValue.number p))
    c.args.rules.now c.args.others.now c.loop-i.i (omega arith) c.loop-i.invariant.same _ c.in_ok-last.ensures.found
