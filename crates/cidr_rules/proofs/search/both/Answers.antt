use Rattle.std.proofs.Common.{◌<◌, length, get_or, sym, ◌∙◌, inl, inr, arith}
use Rattle.std.proofs.lemmas.List.{get_or_default}
use Rattle.cidr_rules.specs.Packets.{ranges_of}
use Rattle.cidr_rules.proofs.Pairs.{both_apart, both_first, both_meet, both_second}
use Rattle.cidr_rules.proofs.search.both.Goals as goal

pub returns-then-meets : goal.returns-then-meets
returns-then-meets g c =
    let r = get_or c.args.rules.now c.args.i c.index-rules-i-then-meets.result in
    let q = get_or c.args.others.now c.args.j c.index-others-j-then-meets.result in
    both_meet g.A.FieldValue.number c.args.rules.now c.args.i r c.args.others.now c.args.j q
    c.if-i-rules.true (get_or_default c.args.rules.now c.args.i c.index-rules-i-then-meets.result r c.if-i-rules.true)
    c.if-j-others.true (get_or_default c.args.others.now c.args.j c.index-others-j-then-meets.result q c.if-j-others.true)
    (ranges_of g.A.FieldValue.number c.shared.result) c.shared.ensures

pub returns-else-meets : goal.returns-else-meets
returns-else-meets g c =
    let r = get_or c.args.rules.now c.args.i c.index-rules-i.result in
    let q = get_or c.args.others.now c.args.j c.index-others-j.result in
    both_apart g.A.FieldValue.number c.args.rules.now c.args.i r c.args.others.now c.args.j q
    c.if-i-rules.true (get_or_default c.args.rules.now c.args.i c.index-rules-i.result r c.if-i-rules.true)
    c.if-j-others.true (get_or_default c.args.others.now c.args.j c.index-others-j.result q c.if-j-others.true)
    (sym c.meets.ensures ∙ c.if-meets.false)

pub returns-else-j-others : goal.returns-else-j-others
returns-else-j-others g c =
    let r = get_or c.args.rules.now c.args.i c.index-rules-i-else-j-others.result in
    both_first g.A.FieldValue.number c.args.rules.now c.args.i r c.args.others.now c.args.j
    c.if-i-rules.true (get_or_default c.args.rules.now c.args.i c.index-rules-i-else-j-others.result r c.if-i-rules.true) c.if-j-others.false

pub returns-else-i-rules : goal.returns-else-i-rules
returns-else-i-rules g c =
    let lt : c.args.j < length c.args.others.now = elim c.requires [
      | inl h ↦ absurd (omega (arith, h, c.if-i-rules.false))
      | inr h ↦ h
    ] in
    let q = get_or c.args.others.now c.args.j c.index-others-j-else-i-rules.result in
    both_second g.A.FieldValue.number c.args.rules.now c.args.i c.args.others.now c.args.j q c.if-i-rules.false lt
    (get_or_default c.args.others.now c.args.j c.index-others-j-else-i-rules.result q lt)
