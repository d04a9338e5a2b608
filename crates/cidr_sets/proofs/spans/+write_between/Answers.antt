use Rattle.std.proofs.Common.{◌≡◌, ◌<◌, ◌≤◌, ◌-◌, ◌+◌, Bool, List, rules, [], ◌∷◌, ◌++◌, true, false, length, map, sym, ap, ◌∙◌, subst, arith, inl, inr}
use Rattle.std.proofs.lemmas.Bool.Decides.{not_from_Decides}
use Rattle.std.proofs.lemmas.List.{length-map, length_push, map_push}
use Rattle.std.specs.List.{Contains}
use Rattle.std.specs.declared.cmp.Ordering.TheVariants.{Less}
use Rattle.cidr.specs.model.Bits.{bit_cmp}
use Rattle.cidr_table.proofs.Halves.{half_begins, length_half}
use Rattle.cidr_sets.specs.model.Ranges.{IsFilled, IsOverfull, IsBetweenEdges, most, side}
use Rattle.cidr_sets.specs.internal.Steps.{Ascend}
use Rattle.cidr_sets.proofs.Between.{all_within, filled_halves, filled_none, filled_whole, first_one, halves_most, last_one, none_within, not_all_within, one_most, overfull_less, overfull_lower, overfull_upper, overfull_whole, upper_after}
use Rattle.cidr_sets.proofs.Joining.{by_none, on_err}
use Rattle.cidr_sets.proofs.Steps.{less_longer}
use Rattle.cidr_sets.proofs.spans.+write_between.Goals as goal
use Rattle.cidr_sets.proofs.spans.+write_between.Goals.{then-is_passed-via-then-is_passed, then-is_passed-via-else-is_passed+then-is_passed-2}

pub returns-then-is_passed-clause-filled : goal.returns-then-is_passed-clause-filled
returns-then-is_passed-clause-filled g t c =
    let f = g.C.BitString.bits in
    let first = f c.args.first.now in
    let last = f c.args.last.now in
    let p = f c.args.network.now in
    filled_none (IsBetweenEdges first last) p (map f (g.O.Writable.written c.args.out.now)) c.requires.ascend c.requires.before
    (none_within first last c.has_at_most_129_bits-2.ensures c.has_at_most_129_bits-3.ensures p (elim c.then-is_passed.branch [
      | then-is_passed-via-then-is_passed w ↦ inl (c.is_passed.ensures.0 w.if-is_passed.true)
      | then-is_passed-via-else-is_passed+then-is_passed-2 w ↦ inr (w.is_passed-else-is_passed.ensures.0 w.if-is_passed-2.true)
    ]))

pub returns-then-is_passed-clause-one : goal.returns-then-is_passed-clause-one
returns-then-is_passed-clause-one g t c = g.met.O.Writable.stay c.args.out.now

-- where a network is neither left out nor cut
pub returns-in_err-write-clause-over : goal.returns-in_err-write-clause-over
returns-in_err-write-clause-over g t c =
    let f = g.C.BitString.bits in
    let first = f c.args.first.now in
    let last = f c.args.last.now in
    let p = f c.args.network.now in
    let xs = g.O.Writable.written c.args.out.now in
    let some = not_from_Decides c.is_passed.result c.is_passed.ensures c.if-is_passed.false in
    let more = not_from_Decides c.is_passed-else-is_passed.result c.is_passed-else-is_passed.ensures c.if-is_passed-2.false in
    let whole = by_none c.cutting.result _ _ c.in_default.not-Some c.cutting.ensures in
    let all = all_within first last c.has_at_most_129_bits-2.ensures c.has_at_most_129_bits-3.ensures p (first_one first last p some more whole.0) (last_one first last p some more whole.1) in
    on_err c.from_residual.result
    (overfull_whole (IsBetweenEdges first last) p (map f xs) (g.O.Writable.room c.args.out.now)
    (filled_whole (IsBetweenEdges first last) p (map f xs) c.requires.ascend c.requires.before c.has_at_most_129_bits.ensures all)
    (omega (arith, c.in_err-write.ensures.err, length-map xs f)))

pub returns-in_default-clause-filled : goal.returns-in_default-clause-filled
returns-in_default-clause-filled g t c =
    let f = g.C.BitString.bits in
    let first = f c.args.first.now in
    let last = f c.args.last.now in
    let p = f c.args.network.now in
    let xs = g.O.Writable.written c.args.out.now in
    let some = not_from_Decides c.is_passed.result c.is_passed.ensures c.if-is_passed.false in
    let more = not_from_Decides c.is_passed-else-is_passed.result c.is_passed-else-is_passed.ensures c.if-is_passed-2.false in
    let whole = by_none c.cutting.result _ _ c.in_default.not-Some c.cutting.ensures in
    let all = all_within first last c.has_at_most_129_bits-2.ensures c.has_at_most_129_bits-3.ensures p (first_one first last p some more whole.0) (last_one first last p some more whole.1) in
    subst (λ new. IsFilled (IsBetweenEdges first last) p (map f xs) new)
    (sym (ap (map f) c.in_ok-write.ensures.ok ∙ map_push f xs c.args.network.now))
    (filled_whole (IsBetweenEdges first last) p (map f xs) c.requires.ascend c.requires.before c.has_at_most_129_bits.ensures all)

pub returns-in_default-clause-fits : goal.returns-in_default-clause-fits
returns-in_default-clause-fits g t c =
    let f = g.C.BitString.bits in
    let first = f c.args.first.now in
    let last = f c.args.last.now in
    let p = f c.args.network.now in
    let xs = g.O.Writable.written c.args.out.now in
    let some = not_from_Decides c.is_passed.result c.is_passed.ensures c.if-is_passed.false in
    let more = not_from_Decides c.is_passed-else-is_passed.result c.is_passed-else-is_passed.ensures c.if-is_passed-2.false in
    let whole = by_none c.cutting.result _ _ c.in_default.not-Some c.cutting.ensures in
    omega (
      arith,
      ap length c.in_ok-write.ensures.ok,
      length_push xs c.args.network.now,
      one_most (side false first p) (side true last p) (first_one first last p some more whole.0) (last_one first last p some more whole.1),
    )

pub write_between-requires : goal.write_between-requires
write_between-requires g t c κs within =
    let f = g.C.BitString.bits in
    let p = f c.args.network.now in
    let half = f c.half-lower.result in
    let bits = c.half-lower.ensures.bits in
    let before : (x : List Bool) → Contains (map f (g.O.Writable.written c.args.out.now)) x → bit_cmp x half ≡ Less = λ x k.
    subst (λ z. bit_cmp x z ≡ Less) (sym bits) (less_longer x p (p ++ false ∷ []) (c.requires.before x k) (half_begins p false)) in
    let fewer : 129 - length half < 129 - length p = omega (arith, ap length bits, length_half p false, c.half-lower.ensures.room) in
    let ascend = c.requires.ascend in
    search (rules, before, ascend, fewer)

pub returns-in_err-write_between-clause-over : goal.returns-in_err-write_between-clause-over
returns-in_err-write_between-clause-over g t c =
    let f = g.C.BitString.bits in
    let first = f c.args.first.now in
    let last = f c.args.last.now in
    let p = f c.args.network.now in
    let old = map f (g.O.Writable.written c.args.out.now) in
    let room = g.O.Writable.room c.args.out.now in
    let bare = not_all_within first last c.has_at_most_129_bits-2.ensures c.has_at_most_129_bits-3.ensures p c.in-Some.ensures.0 in
    on_err c.from_residual-in_err-write_between.result
    (overfull_lower (IsBetweenEdges first last) p old bare room
    (subst (λ z. IsOverfull (IsBetweenEdges first last) z old room) c.half-lower.ensures.bits c.in_err-write_between.ensures.over))

pub write_between-requires-2 : goal.write_between-requires-2
write_between-requires-2 g t c κs within =
    let f = g.C.BitString.bits in
    let first = f c.args.first.now in
    let last = f c.args.last.now in
    let p = f c.args.network.now in
    let old = map f (g.O.Writable.written c.args.out.now) in
    let mid = map f (g.O.Writable.written c.write_between.new.out) in
    let half = f c.half-upper.result in
    let bits = c.half-upper.ensures.bits in
    let bare = not_all_within first last c.has_at_most_129_bits-2.ensures c.has_at_most_129_bits-3.ensures p c.in-Some.ensures.0 in
    let lo = subst (λ z. IsFilled (IsBetweenEdges first last) z old mid) c.half-lower.ensures.bits c.in_ok-write_between.ensures.filled in
    let ascend : Ascend mid = lo.ascend in
    let before : (x : List Bool) → Contains mid x → bit_cmp x half ≡ Less = λ x k.
    subst (λ z. bit_cmp x z ≡ Less) (sym bits) (upper_after (IsBetweenEdges first last) p old bare mid lo x k) in
    let fewer : 129 - length half < 129 - length p = omega (arith, ap length bits, length_half p true, c.half-upper.ensures.room) in
    search (rules, ascend, before, fewer)

pub returns-in_err-write_between-2-clause-over : goal.returns-in_err-write_between-2-clause-over
returns-in_err-write_between-2-clause-over g t c =
    let f = g.C.BitString.bits in
    let first = f c.args.first.now in
    let last = f c.args.last.now in
    let p = f c.args.network.now in
    let old = map f (g.O.Writable.written c.args.out.now) in
    let mid = map f (g.O.Writable.written c.write_between.new.out) in
    let room = g.O.Writable.room c.args.out.now in
    let more = g.O.Writable.room c.write_between.new.out in
    let bare = not_all_within first last c.has_at_most_129_bits-2.ensures c.has_at_most_129_bits-3.ensures p c.in-Some.ensures.0 in
    let lo = subst (λ z. IsFilled (IsBetweenEdges first last) z old mid) c.half-lower.ensures.bits c.in_ok-write_between.ensures.filled in
    on_err c.from_residual-in_err-write_between-2.result
    (overfull_upper (IsBetweenEdges first last) p old bare mid lo room
    (overfull_less (IsBetweenEdges first last) (p ++ true ∷ []) mid room more c.write_between.ensures.room
    (subst (λ z. IsOverfull (IsBetweenEdges first last) z mid more) c.half-upper.ensures.bits c.in_err-write_between-2.ensures.over)))

pub returns-clause-filled : goal.returns-clause-filled
returns-clause-filled g t c =
    let f = g.C.BitString.bits in
    let first = f c.args.first.now in
    let last = f c.args.last.now in
    let p = f c.args.network.now in
    let old = map f (g.O.Writable.written c.args.out.now) in
    let mid = map f (g.O.Writable.written c.write_between.new.out) in
    let new = map f (g.O.Writable.written c.write_between-2.new.out) in
    let bare = not_all_within first last c.has_at_most_129_bits-2.ensures c.has_at_most_129_bits-3.ensures p c.in-Some.ensures.0 in
    let lo = subst (λ z. IsFilled (IsBetweenEdges first last) z old mid) c.half-lower.ensures.bits c.in_ok-write_between.ensures.filled in
    filled_halves (IsBetweenEdges first last) p old bare mid lo new
    (subst (λ z. IsFilled (IsBetweenEdges first last) z mid new) c.half-upper.ensures.bits c.in_ok-write_between-2.ensures.filled)
    c.half-lower.ensures.room

pub returns-clause-fits : goal.returns-clause-fits
returns-clause-fits g t c =
    let f = g.C.BitString.bits in
    let first = f c.args.first.now in
    let last = f c.args.last.now in
    let p = f c.args.network.now in
    let n = length (g.O.Writable.written c.args.out.now) in
    let mid = length (g.O.Writable.written c.write_between.new.out) in
    let all = length (g.O.Writable.written c.write_between-2.new.out) in
    let some = not_from_Decides c.is_passed.result c.is_passed.ensures c.if-is_passed.false in
    let more = not_from_Decides c.is_passed-else-is_passed.result c.is_passed-else-is_passed.ensures c.if-is_passed-2.false in
    omega (
      arith,
      halves_most first last p some more c.in-Some.ensures.0,
      subst (λ z. mid ≤ n + most (side false first z) (side true last z)) c.half-lower.ensures.bits c.in_ok-write_between.ensures.fits,
      subst (λ z. all ≤ mid + most (side false first z) (side true last z)) c.half-upper.ensures.bits c.in_ok-write_between-2.ensures.fits,
    )
