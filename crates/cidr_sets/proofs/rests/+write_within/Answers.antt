use Rattle.std.proofs.Common.{◌≡◌, ◌<◌, ◌-◌, Bool, List, rules, [], ◌∷◌, ◌++◌, true, false, length, map, sym, ap, ◌∙◌, subst, arith}
use Rattle.std.proofs.lemmas.List.{length-map, map_push}
use Rattle.std.specs.List.{Contains}
use Rattle.std.specs.declared.cmp.Ordering.TheVariants.{Less}
use Rattle.cidr.specs.model.Bits.{bit_cmp}
use Rattle.cidr_table.proofs.Beginnings.{begins_length}
use Rattle.cidr_table.proofs.Halves.{begins_itself, half_begins, length_half}
use Rattle.cidr_sets.specs.internal.Steps.{AreApart, Ascend, IsDifferenceStep, IsOver, StartsBehind, StartsFrom}
use Rattle.cidr_sets.proofs.Cuts.{cut_halves, over_lower, over_upper, over_whole, suffix_apart, suffix_ascends, upper_behind}
use Rattle.cidr_sets.proofs.CutsWithin.{free_cut, free_next, lower_starts, over_less, same_cut, same_next, upper_starts, whole_starts}
use Rattle.cidr_sets.proofs.Joining.{by_none, on_err}
use Rattle.cidr_sets.proofs.Steps.{less_longer}
use Rattle.cidr_sets.proofs.rests.+write_within.Goals as goal

pub returns-in_err-write-clause-over : goal.returns-in_err-write-clause-over
returns-in_err-write-clause-over g t c =
    let f = g.C.BitString.bits in
    let xs = g.O.Writable.written c.args.out.now in
    let p = f c.args.network.now in
    let others = map f c.args.others.now in
    on_err c.from_residual.result
    (over_whole p (map f xs) others others (g.O.Writable.room c.args.out.now)
    (free_cut p (map f xs) c.requires.ascend c.requires.before others c.requires.others c.requires.from
    (by_none c.split_inside.result _ _ c.in_default.not-Some c.split_inside.ensures))
    (omega (arith, c.in_err-write.ensures.err, length-map xs f)))

pub returns-in_default-clause-cut : goal.returns-in_default-clause-cut
returns-in_default-clause-cut g t c =
    let f = g.C.BitString.bits in
    let xs = g.O.Writable.written c.args.out.now in
    let p = f c.args.network.now in
    let others = map f c.args.others.now in
    subst (λ new. IsDifferenceStep p (map f xs) new others others)
    (sym (ap (map f) c.in_ok-write.ensures.ok ∙ map_push f xs c.args.network.now))
    (free_cut p (map f xs) c.requires.ascend c.requires.before others c.requires.others c.requires.from
    (by_none c.split_inside.result _ _ c.in_default.not-Some c.split_inside.ensures))

pub returns-in_default-clause-next : goal.returns-in_default-clause-next
returns-in_default-clause-next g t c =
    let f = g.C.BitString.bits in
    let xs = g.O.Writable.written c.args.out.now in
    free_next (f c.args.network.now) (map f xs) c.requires.ascend c.requires.before (map f c.args.others.now) c.requires.others c.requires.from
    (by_none c.split_inside.result _ _ c.in_default.not-Some c.split_inside.ensures)

pub returns-then-len-clause-cut : goal.returns-then-len-clause-cut
returns-then-len-clause-cut g t c =
    let f = g.C.BitString.bits in
    let p = f c.args.network.now in
    let old = map f (g.O.Writable.written c.args.out.now) in
    let behind = map f c.in-Some.behind.now in
    let split = ap (map f) c.in-Some.ensures.0 in
    subst (λ l. IsDifferenceStep p old old l behind) (sym split)
    (same_cut p old c.requires.ascend c.requires.before (f c.in-Some.first.now) behind (subst Ascend split c.requires.others)
    (subst AreApart split c.requires.apart) c.in-Some.ensures.1 (omega (arith, c.if-len.true, c.len.ensures.value, c.len-2.ensures.value)))

pub returns-then-len-clause-next : goal.returns-then-len-clause-next
returns-then-len-clause-next g t c =
    let f = g.C.BitString.bits in
    let split = ap (map f) c.in-Some.ensures.0 in
    same_next (f c.args.network.now) (map f (g.O.Writable.written c.args.out.now)) c.requires.ascend c.requires.before (f c.in-Some.first.now)
    (map f c.in-Some.behind.now) (subst Ascend split c.requires.others) (subst AreApart split c.requires.apart) c.in-Some.ensures.1
    (omega (arith, c.if-len.true, c.len.ensures.value, c.len-2.ensures.value))

pub write_within-requires : goal.write_within-requires
write_within-requires g t c κs within =
    let f = g.C.BitString.bits in
    let p = f c.args.network.now in
    let others = map f c.args.others.now in
    let first = f c.in-Some.first.now in
    let split = ap (map f) c.in-Some.ensures.0 in
    let half = f c.half-lower.result in
    let bits = c.half-lower.ensures.bits in
    let short : length p < length first = omega (arith, begins_length first p c.in-Some.ensures.1, c.if-len.false, c.len.ensures.value, c.len-2.ensures.value) in
    let apart : AreApart others = c.requires.apart in
    let asc : Ascend others = c.requires.others in
    let from : StartsFrom half others = subst (λ z. StartsFrom z others) (sym bits)
    (subst (StartsFrom (p ++ false ∷ [])) (sym split) (lower_starts p first (map f c.in-Some.behind.now) c.in-Some.ensures.1 short)) in
    let before : (x : List Bool) → Contains (map f (g.O.Writable.written c.args.out.now)) x → bit_cmp x half ≡ Less = λ x k.
    subst (λ z. bit_cmp x z ≡ Less) (sym bits) (less_longer x p (p ++ false ∷ []) (c.requires.before x k) (half_begins p false)) in
    let ascend = c.requires.ascend in
    let fewer : 129 - length half < 129 - length p = omega (arith, ap length bits, length_half p false, c.half-lower.ensures.room) in
    search (rules, asc, apart, from, ascend, before, fewer)

pub returns-in_err-rest-clause-over : goal.returns-in_err-rest-clause-over
returns-in_err-rest-clause-over g t c =
    let f = g.C.BitString.bits in
    let p = f c.args.network.now in
    let old = map f (g.O.Writable.written c.args.out.now) in
    let others = map f c.args.others.now in
    let first = f c.in-Some.first.now in
    let split = ap (map f) c.in-Some.ensures.0 in
    let room = g.O.Writable.room c.args.out.now in
    let short : length p < length first = omega (arith, begins_length first p c.in-Some.ensures.1, c.if-len.false, c.len.ensures.value, c.len-2.ensures.value) in
    let lo = subst (λ l. IsOver (p ++ false ∷ []) old l room) split
    (subst (λ z. IsOver z old others room) c.half-lower.ensures.bits c.in_err-rest.ensures.over) in
    on_err c.from_residual-in_err-rest.result
    (subst (λ l. IsOver p old l room) (sym split) (over_lower p first (map f c.in-Some.behind.now) c.in-Some.ensures.1 short old room lo))

pub write_within-requires-2 : goal.write_within-requires-2
write_within-requires-2 g t c κs within =
    let f = g.C.BitString.bits in
    let p = f c.args.network.now in
    let others = map f c.args.others.now in
    let mid = map f (g.O.Writable.written c.write_within.new.out) in
    let rest = map f c.in_ok-rest.rest.now in
    let up = p ++ true ∷ [] in
    let half = f c.half-upper.result in
    let bits = c.half-upper.ensures.bits in
    let lo = subst (λ z. IsDifferenceStep z (map f (g.O.Writable.written c.args.out.now)) mid others rest) c.half-lower.ensures.bits c.in_ok-rest.ensures.cut in
    let asc : Ascend rest = suffix_ascends rest others lo.suffix c.requires.others in
    let apart : AreApart rest = suffix_apart rest others lo.suffix c.requires.apart in
    let from : StartsFrom half rest = subst (λ z. StartsFrom z rest) (sym bits)
    (upper_starts p rest (subst (λ z. StartsBehind z rest) c.half-lower.ensures.bits c.in_ok-rest.ensures.next)) in
    let ascend : Ascend mid = lo.ascend in
    let before : (x : List Bool) → Contains mid x → bit_cmp x half ≡ Less = λ x k.
    subst (λ z. bit_cmp x z ≡ Less) (sym bits) (lo.before up (upper_behind p up (begins_itself up)) x k) in
    let fewer : 129 - length half < 129 - length p = omega (arith, ap length bits, length_half p true, c.half-upper.ensures.room) in
    search (rules, asc, apart, from, ascend, before, fewer)

pub returns-in_err-last-clause-over : goal.returns-in_err-last-clause-over
returns-in_err-last-clause-over g t c =
    let f = g.C.BitString.bits in
    let p = f c.args.network.now in
    let old = map f (g.O.Writable.written c.args.out.now) in
    let mid = map f (g.O.Writable.written c.write_within.new.out) in
    let others = map f c.args.others.now in
    let rest = map f c.in_ok-rest.rest.now in
    let first = f c.in-Some.first.now in
    let split = ap (map f) c.in-Some.ensures.0 in
    let room = g.O.Writable.room c.args.out.now in
    let more = g.O.Writable.room c.write_within.new.out in
    let short : length p < length first = omega (arith, begins_length first p c.in-Some.ensures.1, c.if-len.false, c.len.ensures.value, c.len-2.ensures.value) in
    let lo = subst (λ l. IsDifferenceStep (p ++ false ∷ []) old mid l rest) split
    (subst (λ z. IsDifferenceStep z old mid others rest) c.half-lower.ensures.bits c.in_ok-rest.ensures.cut) in
    let up = over_less (p ++ true ∷ []) mid rest room more c.write_within.ensures.room
    (subst (λ z. IsOver z mid rest more) c.half-upper.ensures.bits c.in_err-last.ensures.over) in
    on_err c.from_residual-in_err-last.result
    (subst (λ l. IsOver p old l room) (sym split)
    (over_upper p first (map f c.in-Some.behind.now) c.in-Some.ensures.1 short old mid rest lo room up))

pub returns-clause-cut : goal.returns-clause-cut
returns-clause-cut g t c =
    let f = g.C.BitString.bits in
    let p = f c.args.network.now in
    let old = map f (g.O.Writable.written c.args.out.now) in
    let mid = map f (g.O.Writable.written c.write_within.new.out) in
    let new = map f (g.O.Writable.written c.write_within-2.new.out) in
    let others = map f c.args.others.now in
    let rest = map f c.in_ok-rest.rest.now in
    let last = map f c.in_ok-last.last.now in
    let first = f c.in-Some.first.now in
    let split = ap (map f) c.in-Some.ensures.0 in
    let short : length p < length first = omega (arith, begins_length first p c.in-Some.ensures.1, c.if-len.false, c.len.ensures.value, c.len-2.ensures.value) in
    let lo = subst (λ l. IsDifferenceStep (p ++ false ∷ []) old mid l rest) split
    (subst (λ z. IsDifferenceStep z old mid others rest) c.half-lower.ensures.bits c.in_ok-rest.ensures.cut) in
    let up = subst (λ z. IsDifferenceStep z mid new rest last) c.half-upper.ensures.bits c.in_ok-last.ensures.cut in
    subst (λ l. IsDifferenceStep p old new l last) (sym split)
    (cut_halves p first (map f c.in-Some.behind.now) old mid new rest last c.in-Some.ensures.1 short lo up c.half-lower.ensures.room)

pub returns-clause-next : goal.returns-clause-next
returns-clause-next g t c =
    let f = g.C.BitString.bits in
    let last = map f c.in_ok-last.last.now in
    whole_starts (f c.args.network.now) last (subst (λ z. StartsBehind z last) c.half-upper.ensures.bits c.in_ok-last.ensures.next)
