-- One more call, at the front or at the back, gives the next of the answers.
use Rattle.std.proofs.Common.{◌<◌, length, arith}
use Rattle.cidr.specs.model.Views.{in_family}
use Rattle.cidr.proofs.Driven.{front_turn, back_turn}
use Rattle.cidr.proofs.inet_iterator.driving.drive.Goals as goal
use Rattle.cidr.proofs.inet_iterator.driving.drive.Goals.{in-Front, in-Back}

pub loop-i-preserved : goal.loop-i-preserved
loop-i-preserved g c =
    let a : c.loop-i.i < length c.loop-i.answers = omega arith in
    let b : c.loop-i.i < length c.args.ends.now = omega arith in
    let view = in_family g.A.PrivUnspecAddress.family_of g.A.PrivUnspecAddress.bits in
    let items = c.args.iter.now in
    let ends = c.args.ends.now in
    let now = c.loop-i in
    elim c.match-end.branch [
      | in-Front w ↦
          let r = w.next.result in
          let left = w.next.new.self in
          rw (w.answers-is, w.iter-is) (front_turn view items ends now.i now.answers now.iter r left b a now.invariant w.in-Front.is w.next.ensures.steps)
      | in-Back w ↦
          let r = w.next_back.result in
          let left = w.next_back.new.self in
          rw (w.answers-is, w.iter-is) (back_turn view items ends now.i now.answers now.iter r left b a now.invariant w.in-Back.is w.next_back.ensures.steps)
    ]
