use Rattle.std.proofs.Common.{map}
use Rattle.std.proofs.lemmas.Bool.Decides.{not_from_Decides}
use Rattle.cidr_sets.proofs.Cuts.{cut_skipped, over_skipped, suffix_apart, suffix_ascends}
use Rattle.cidr_sets.proofs.Joining.{on_err}
use Rattle.cidr_sets.proofs.CutsWithin.{around_cut, starts_from}
use Rattle.cidr_sets.proofs.rests.write_rest.Goals as goal

pub returns-then-starts_around-clause-cut : goal.returns-then-starts_around-clause-cut
returns-then-starts_around-clause-cut g c =
    let f = g.C.BitString.bits in
    let p = f c.args.network.now in
    let old = map f (g.O.Writable.written c.args.out.now) in
    let left = map f c.skip-left.result.now in
    cut_skipped p old old (map f c.args.others.now) left left c.skip-left.ensures
    (around_cut p old c.requires.ascend c.requires.before left (c.starts_around.ensures.0 c.if-starts_around.true))

pub returns-then-starts_around-clause-one : goal.returns-then-starts_around-clause-one
returns-then-starts_around-clause-one g c = g.met.O.Writable.stay c.args.out.now

pub write_within-requires-clause-others : goal.write_within-requires-clause-others
write_within-requires-clause-others g c =
    let f = g.C.BitString.bits in
    suffix_ascends (map f c.skip-left.result.now) (map f c.args.others.now) c.skip-left.ensures.suffix c.requires.others

pub write_within-requires-clause-apart : goal.write_within-requires-clause-apart
write_within-requires-clause-apart g c =
    let f = g.C.BitString.bits in
    suffix_apart (map f c.skip-left.result.now) (map f c.args.others.now) c.skip-left.ensures.suffix c.requires.apart

pub write_within-requires-clause-from : goal.write_within-requires-clause-from
write_within-requires-clause-from g c =
    let f = g.C.BitString.bits in
    starts_from (f c.args.network.now) (map f c.skip-left.result.now) c.skip-left.ensures.first
    (not_from_Decides c.starts_around.result c.starts_around.ensures c.if-starts_around.false)

pub returns-in_err-rest-clause-over : goal.returns-in_err-rest-clause-over
returns-in_err-rest-clause-over g c =
    let f = g.C.BitString.bits in
    on_err c.from_residual.result
    (over_skipped (f c.args.network.now) (map f (g.O.Writable.written c.args.out.now)) (map f c.args.others.now) (map f c.skip-left.result.now)
    (g.O.Writable.room c.args.out.now) c.skip-left.ensures c.in_err-rest.ensures.over)

pub returns-clause-cut : goal.returns-clause-cut
returns-clause-cut g c =
    let f = g.C.BitString.bits in
    cut_skipped (f c.args.network.now) (map f (g.O.Writable.written c.args.out.now)) (map f (g.O.Writable.written c.write_within.new.out))
    (map f c.args.others.now) (map f c.skip-left.result.now) (map f c.in_ok-rest.rest.now) c.skip-left.ensures c.in_ok-rest.ensures.cut
