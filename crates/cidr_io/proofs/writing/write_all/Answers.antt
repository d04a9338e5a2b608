use Rattle.std.proofs.lemmas.List.{take_rest}
use Rattle.cidr_io.proofs.Chains.{offered}
use Rattle.cidr_io.proofs.writing.write_all.Goals as goal

pub loop-rest-preserved : goal.loop-rest-preserved
loop-rest-preserved g c =
    let (front, split, whole) = c.loop-rest.invariant in
    let o = offered (g.S.Sink.state c.args.out.now) (g.S.Sink.state c.loop-rest.out) (g.S.Sink.state c.write.new.self)
    c.args.text.now front c.loop-rest.rest.now c.in-Some.n split whole c.in-Some.ensures.takes in
    (_, rw take_rest o.0, o.1)
