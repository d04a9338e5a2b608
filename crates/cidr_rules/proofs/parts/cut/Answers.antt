use Rattle.std.proofs.Common.{arith}
use Rattle.cidr_rules.specs.Packets.{ranges_of}
use Rattle.cidr_rules.specs.Parts.{boxes_of}
use Rattle.cidr_rules.proofs.Cuts.{cut_end, cut_more, cut_start}
use Rattle.cidr_rules.proofs.parts.cut.Goals as goal

pub returns : goal.returns
returns g c =
    let rs = ranges_of g.A.FieldValue.number c.args.region.now in
    let hole = ranges_of g.A.FieldValue.number c.args.hole.now in
    let old = boxes_of g.A.FieldValue.number c.args.parts.now.items in
    let r1 = ranges_of g.A.FieldValue.number c.trim.new.rest in
    let r2 = ranges_of g.A.FieldValue.number c.trim-2.new.rest in
    let r3 = ranges_of g.A.FieldValue.number c.trim-3.new.rest in
    let r4 = ranges_of g.A.FieldValue.number c.trim-4.new.rest in
    let r5 = ranges_of g.A.FieldValue.number c.trim-5.new.rest in
    let p1 = boxes_of g.A.FieldValue.number c.trim.new.parts.items in
    let p2 = boxes_of g.A.FieldValue.number c.trim-2.new.parts.items in
    let p3 = boxes_of g.A.FieldValue.number c.trim-3.new.parts.items in
    let p4 = boxes_of g.A.FieldValue.number c.trim-4.new.parts.items in
    let p5 = boxes_of g.A.FieldValue.number c.trim-5.new.parts.items in
    let solid = c.requires.hole in
    let s0 = cut_start rs hole old c.requires.parts c.requires.region c.requires.met in
    let s1 = cut_more 0 rs rs hole r1 old old p1 solid s0 c.in_ok-trim.ensures (omega arith) (omega arith) in
    let s2 = cut_more 1 rs r1 hole r2 old p1 p2 solid s1 c.in_ok-trim-2.ensures (omega arith) (omega arith) in
    let s3 = cut_more 2 rs r2 hole r3 old p2 p3 solid s2 c.in_ok-trim-3.ensures (omega arith) (omega arith) in
    let s4 = cut_more 3 rs r3 hole r4 old p3 p4 solid s3 c.in_ok-trim-4.ensures (omega arith) (omega arith) in
    let s5 = cut_more 4 rs r4 hole r5 old p4 p5 solid s4 c.in_ok-trim-5.ensures (omega arith) (omega arith) in
    cut_end 5 rs r5 hole old p5 (omega arith) (omega arith) s5
