use Rattle.std.proofs.Common.{◌+◌, ◌≤◌, true, false, [], length, map, sym, ap, subst, arith}
use Rattle.cidr_sets.specs.model.Ranges.{IsFilled, IsOverfull, IsBetweenEdges, most, side}
use Rattle.cidr_sets.specs.internal.Steps.{Ascend}
use Rattle.cidr_sets.proofs.Between.{range_filled, range_overfull, root_most}
use Rattle.cidr_sets.proofs.Joining.{on_err}
use Rattle.cidr_sets.proofs.Steps.{none_ascend}
use Rattle.cidr_sets.proofs.spans.write_range.Goals as goal

pub write_between-requires-clause-ascend : goal.write_between-requires-clause-ascend
write_between-requires-clause-ascend g c = subst (λ l. Ascend (map g.C.BitString.bits l)) (sym c.requires.none) none_ascend

pub returns-in_err-write_between-clause-short : goal.returns-in_err-write_between-clause-short
returns-in_err-write_between-clause-short g c =
    let f = g.C.BitString.bits in
    let first = f c.single-first.result in
    let last = f c.single-last.result in
    let room = g.O.Writable.room c.args.out.now in
    rw (← c.single-first.ensures.bits, ← c.single-last.ensures.bits)
    (on_err c.from_residual.result (range_overfull first last c.has_at_most_129_bits.ensures c.has_at_most_129_bits-2.ensures room
    (subst (λ z. IsOverfull (IsBetweenEdges first last) z [] room) c.null.ensures.bits
    (subst (λ l. IsOverfull (IsBetweenEdges first last) (f c.null.result) (map f l) room) c.requires.none c.in_err-write_between.ensures.over))))

pub returns-clause-set : goal.returns-clause-set
returns-clause-set g c =
    let f = g.C.BitString.bits in
    let first = f c.single-first.result in
    let last = f c.single-last.result in
    let new = map f (g.O.Writable.written c.write_between.new.out) in
    rw (← c.single-first.ensures.bits, ← c.single-last.ensures.bits)
    (range_filled first last c.has_at_most_129_bits.ensures c.has_at_most_129_bits-2.ensures new
    (subst (λ z. IsFilled (IsBetweenEdges first last) z [] new) c.null.ensures.bits
    (subst (λ l. IsFilled (IsBetweenEdges first last) (f c.null.result) (map f l) new) c.requires.none c.in_ok-write_between.ensures.filled)))

pub returns-clause-fits : goal.returns-clause-fits
returns-clause-fits g c =
    let f = g.C.BitString.bits in
    let first = f c.single-first.result in
    let last = f c.single-last.result in
    let n = length (g.O.Writable.written c.write_between.new.out) in
    let old = length (g.O.Writable.written c.args.out.now) in
    rw (← c.single-first.ensures.bits, ← c.single-last.ensures.bits)
    (omega (
      arith,
      ap length c.requires.none,
      subst (λ z. n ≤ old + most (side false first z) (side true last z)) c.null.ensures.bits c.in_ok-write_between.ensures.fits,
      root_most first last (omega (arith, c.single-first.ensures.long, ap length c.single-first.ensures.bits))
          (omega (arith, c.single-last.ensures.long, ap length c.single-last.ensures.bits)),
    ))
