use Rattle.std.proofs.Common.{◌*◌, length, map, sym, ap, subst, arith}
use Rattle.std.proofs.lemmas.List.{length-map}
use Rattle.cidr_table.proofs.Stacks.{spread_from_reduced}
use Rattle.cidr_sets.specs.internal.Steps.{Ascend, IsDifferenceStep, IsOver}
use Rattle.cidr_sets.proofs.Cuts.{complement_over, complement_set, cut_fits}
use Rattle.cidr_sets.proofs.Joining.{on_err}
use Rattle.cidr_sets.proofs.Steps.{none_ascend}
use Rattle.cidr_sets.proofs.rests.write_complement.Goals as goal

pub write_rest-requires-clause-apart : goal.write_rest-requires-clause-apart
write_rest-requires-clause-apart g c = (spread_from_reduced 129 (map g.C.BitString.bits c.args.networks.now) c.requires.networks).apart

pub write_rest-requires-clause-ascend : goal.write_rest-requires-clause-ascend
write_rest-requires-clause-ascend g c = subst (λ l. Ascend (map g.C.BitString.bits l)) (sym c.requires.none) none_ascend

pub returns-in_err-write_rest-clause-short : goal.returns-in_err-write_rest-clause-short
returns-in_err-write_rest-clause-short g c =
    let f = g.C.BitString.bits in
    let p = f c.args.network.now in
    let others = map f c.args.networks.now in
    let room = g.O.Writable.room c.args.out.now in
    on_err c.from_residual.result (complement_over p c.has_at_most_129_bits.ensures others c.requires.networks room
    (subst (λ l. IsOver p (map f l) others room) c.requires.none c.in_err-write_rest.ensures.over))

pub returns-clause-set : goal.returns-clause-set
returns-clause-set g c =
    let f = g.C.BitString.bits in
    let p = f c.args.network.now in
    let others = map f c.args.networks.now in
    let new = map f (g.O.Writable.written c.write_rest.new.out) in
    let rest = map f c.in_ok-write_rest.field-0.now in
    complement_set p c.has_at_most_129_bits.ensures others c.requires.networks new rest
    (subst (λ l. IsDifferenceStep p (map f l) new others rest) c.requires.none c.in_ok-write_rest.ensures.cut)

pub returns-clause-fits : goal.returns-clause-fits
returns-clause-fits g c w n =
    let f = g.C.BitString.bits in
    let xs = c.args.networks.now in
    let new = g.O.Writable.written c.write_rest.new.out in
    let most = cut_fits (f c.args.network.now) (map f (g.O.Writable.written c.args.out.now)) (map f new) (map f xs) (map f c.in_ok-write_rest.field-0.now)
    c.in_ok-write_rest.ensures.cut (ap (λ l. length (map f l)) c.requires.none) w n in
    omega (arith, most, length-map new f, ap (λ k. w * k) (length-map xs f))
