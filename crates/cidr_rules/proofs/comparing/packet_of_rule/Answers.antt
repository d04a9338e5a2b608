use Rattle.std.proofs.Common.{◌≢◌, ◌+◌, rules, length, arith}
use Rattle.cidr_rules.specs.declared.regions.Packet.{Packet}
use Rattle.cidr_rules.specs.Packets.{fields_of}
use Rattle.cidr_rules.specs.Lists.{is_permitted, most_parts}
use Rattle.cidr_rules.specs.Searches.{stops_at}
use Rattle.cidr_rules.proofs.Pairs.{found_last, row_more, same_more, same_none, step_le}
use Rattle.cidr_rules.proofs.comparing.packet_of_rule.Goals as goal

pub loop-j-init : goal.loop-j-init
loop-j-init g c = record {
  same = same_none g.A.FieldValue.number (stops_at g.A.FieldValue.number c.args.rules.now c.args.i) c.args.rules.now c.args.others.now c.args.others.now;
  spent = omega arith;
}

pub loop-j-preserved : goal.loop-j-preserved
loop-j-preserved g c =
    let same = rw c.in-None.is at c.in_ok-found.ensures.found in
    record {
      same = same_more g.A.FieldValue.number (stops_at g.A.FieldValue.number c.args.rules.now c.args.i) c.args.rules.now c.args.others.now c.args.others.now
          c.loop-j.j c.loop-j.invariant.same same;
      spent = omega (arith, row_more c.loop-j.j (most_parts (length c.args.rules.now + length c.args.others.now)), c.in_ok-found.ensures.spent, c.loop-j.invariant.spent);
    }

pub returns-in-Some-clause-spent : goal.returns-in-Some-clause-spent
returns-in-Some-clause-spent g c =
    let step = step_le c.loop-j.j (length c.args.others.now + 1) (most_parts (length c.args.rules.now + length c.args.others.now)) (omega arith) in
    omega (arith, step, c.in_ok-found.ensures.spent, c.loop-j.invariant.spent)

pub returns-in_err-found-clause-limit : goal.returns-in_err-found-clause-limit
returns-in_err-found-clause-limit g c =
    let step = step_le c.loop-j.j (length c.args.others.now + 1) (most_parts (length c.args.rules.now + length c.args.others.now)) (omega arith) in
    λ e. omega (arith, step, c.in_err-found.ensures.limit (search rules), c.loop-j.invariant.spent)

pub returns-clause-found : goal.returns-clause-found
returns-clause-found g c =
    found_last g.A.FieldValue.number
    (λ (p : Packet g.row.A.Denot). is_permitted g.A.FieldValue.number c.args.rules.now (fields_of g.A.FieldValue.number p) ≢ is_permitted g.A.FieldValue.number c.args.others.now (fields_of g.A.FieldValue.number p))
    (stops_at g.A.FieldValue.number c.args.rules.now c.args.i) c.args.rules.now c.args.others.now c.args.others.now c.loop-j.j (omega arith) c.loop-j.invariant.same _ c.in_ok-last.ensures.found
