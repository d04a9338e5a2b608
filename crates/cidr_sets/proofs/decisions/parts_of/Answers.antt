use Rattle.std.proofs.Common.{◌≡◌, [], length, length-append, map, ap, sym, subst, arith}
use Rattle.cidr_sets.specs.internal.Deciding.{AreRows, AscendFrom}
use Rattle.cidr_sets.proofs.Deciding.{AreDecided, behind_from, decided_all, decided_more, decided_none}
use Rattle.cidr_sets.proofs.Joining.{by_none, nothing}
use Rattle.cidr_sets.proofs.decisions.parts_of.Goals as goal

pub loop-row-init : goal.loop-row-init
loop-row-init g c =
    rw c.new-parts.ensures.items (decided_none g.C.BitString.bits (length c.args.rules.now) c.as_slice-left.result.now)

pub push_parts-requires : goal.push_parts-requires
push_parts-requires g c =
    let f = g.C.BitString.bits in
    let n = length c.args.rules.now in
    let ps = map (λ r. f r.network) c.args.rules.now in
    let all = c.as_slice-left.result.now in
    let l = c.loop-row in
    let value = sym c.as_slice-left.ensures.value in
    behind_from f n all ps (subst (AreRows f ps n) value c.in_ok-rows.ensures.rows) (subst (AscendFrom f []) value c.in_ok-rows.ensures.ascend)
    c.in-Some.row.now c.in-Some.behind.now l.parts.items (subst (λ left. AreDecided f n all left l.parts.items) c.in-Some.ensures.cases.0 l.invariant)

pub loop-row-preserved : goal.loop-row-preserved
loop-row-preserved g c =
    let f = g.C.BitString.bits in
    let n = length c.args.rules.now in
    let ps = map (λ r. f r.network) c.args.rules.now in
    let all = c.as_slice-left.result.now in
    let l = c.loop-row in
    let value = sym c.as_slice-left.ensures.value in
    decided_more f n all ps (subst (AreRows f ps n) value c.in_ok-rows.ensures.rows) (subst (AscendFrom f []) value c.in_ok-rows.ensures.ascend)
    c.in-Some.row.now c.in-Some.behind.now l.parts.items (subst (λ left. AreDecided f n all left l.parts.items) c.in-Some.ensures.cases.0 l.invariant)
    c.in_ok-left.left.now c.push_parts.new.parts.items c.in_ok-left.ensures

pub loop-row-smaller : goal.loop-row-smaller
loop-row-smaller g c =
    let s = c.in_ok-left.ensures in
    omega (arith, ap length s.split, length-append s.gone c.in_ok-left.left.now, c.in-Some.ensures.cases.1)

pub returns : goal.returns
returns g c =
    let f = g.C.BitString.bits in
    let n = length c.args.rules.now in
    let ps = map (λ r. f r.network) c.args.rules.now in
    let all = c.as_slice-left.result.now in
    let l = c.loop-row in
    let are = subst (AreRows f ps n) (sym c.as_slice-left.ensures.value) c.in_ok-rows.ensures.rows in
    let none = nothing l.left.now (by_none c.split_first.result (length l.left.now ≡ 0) _ c.in_default.not-Some c.split_first.ensures.cases) in
    decided_all f n all ps are l.parts.items (subst (λ left. AreDecided f n all left l.parts.items) none l.invariant)
