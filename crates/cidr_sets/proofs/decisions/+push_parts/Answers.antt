use Rattle.std.proofs.Common.{◌≡◌, ◌-◌, ◌<◌, ◌≤◌, ◌++◌, ◌∷◌, [], true, false, rules, length, refl, sym, ap, ◌∙◌, subst, arith}
use Rattle.std.proofs.lemmas.Bool.Decides.{not_from_Decides}
use Rattle.std.proofs.lemmas.Result.{IfOk-weaker}
use Rattle.std.specs.List.{Contains}
use Rattle.cidr_table.proofs.Halves.{length_half}
use Rattle.cidr_table.proofs.MapLaws.{contains_nothing}
use Rattle.cidr_sets.specs.internal.Deciding.{AscendFrom, IsPartStep}
use Rattle.cidr_sets.proofs.Deciding.{from_behind, lower_from, none_inside, step_halves, step_later, step_same, step_whole, upper_from}
use Rattle.cidr_sets.proofs.Joining.{by_none, nothing}
use Rattle.cidr_sets.proofs.decisions.+push_parts.Goals as goal
use Rattle.cidr_sets.proofs.decisions.+push_parts.Goals.{in-Some+then-not-is_inside, in_default}

pub loop-row-init : goal.loop-row-init
loop-row-init g t c = record { parts = refl; from = c.requires; left = λ rest old new s. s }

pub loop-row-preserved-else-len : goal.loop-row-preserved-else-len
loop-row-preserved-else-len g t c =
    let f = g.C.BitString.bits in
    let h = c.loop-row.invariant in
    let p = f c.args.network.now in
    let x = c.in-Some.row.now in
    let behind = c.in-Some.behind.now in
    let split = c.in-Some.ensures.cases.0 in
    let short : length (f x.0) ≤ length p = omega (arith, c.if-len.false) in
    record {
      parts = h.parts;
      from = from_behind f p (x ∷ []) behind (subst (AscendFrom f p) split h.from);
      left = λ rest old new s. h.left rest old new (subst (λ left. IsPartStep f p c.loop-row.least left rest old new) (sym split)
          (step_same f p c.loop-row.least x behind (c.is_inside.ensures.0 c.if-not-is_inside.false) short c.if-row-least.true rest old new s));
    }

pub loop-row-preserved : goal.loop-row-preserved
loop-row-preserved g t c =
    let f = g.C.BitString.bits in
    let h = c.loop-row.invariant in
    let p = f c.args.network.now in
    let x = c.in-Some.row.now in
    let behind = c.in-Some.behind.now in
    let split = c.in-Some.ensures.cases.0 in
    record {
      parts = h.parts;
      from = from_behind f p (x ∷ []) behind (subst (AscendFrom f p) split h.from);
      left = λ rest old new s. h.left rest old new (subst (λ left. IsPartStep f p c.loop-row.least left rest old new) (sym split)
          (step_later f p c.loop-row.least x behind (c.is_inside.ensures.0 c.if-not-is_inside.false) c.if-row-least.false rest old new s));
    }

pub push_parts-requires : goal.push_parts-requires
push_parts-requires g t c =
    let f = g.C.BitString.bits in
    let l = c.loop-row in
    let p = f c.args.network.now in
    let left = l.left.now in
    let longer : length p < length (f c.in-Some.row.now.0) = omega (arith, c.if-len.true) in
    let from : AscendFrom f (f c.half-lower.result) left = subst (λ z. AscendFrom f z left) (sym c.half-lower.ensures.bits)
    (lower_from f p left c.in-Some.behind.now c.in-Some.row.now c.in-Some.ensures.cases.0 l.invariant.from
    (c.is_inside.ensures.0 c.if-not-is_inside.false) longer) in
    let fewer : 129 - length (f c.half-lower.result) < 129 - length p =
    omega (arith, ap length c.half-lower.ensures.bits, length_half p false, c.half-lower.ensures.room) in
    search (rules, from, fewer)

pub push_parts-requires-then-len : goal.push_parts-requires-then-len
push_parts-requires-then-len g t c =
    let f = g.C.BitString.bits in
    let l = c.loop-row in
    let p = f c.args.network.now in
    let left = l.left.now in
    let rest = c.in_ok-rest.rest.now in
    let mid = c.push_parts.new.parts.items in
    let longer : length p < length (f c.in-Some.row.now.0) = omega (arith, c.if-len.true) in
    let from : AscendFrom f (f c.half-upper.result) rest = subst (λ z. AscendFrom f z rest) (sym c.half-upper.ensures.bits)
    (upper_from f p l.least left rest l.parts.items mid
    (subst (λ z. IsPartStep f z l.least left rest l.parts.items mid) c.half-lower.ensures.bits c.in_ok-rest.ensures)
    (lower_from f p left c.in-Some.behind.now c.in-Some.row.now c.in-Some.ensures.cases.0 l.invariant.from
    (c.is_inside.ensures.0 c.if-not-is_inside.false) longer)) in
    let fewer : 129 - length (f c.half-upper.result) < 129 - length p =
    omega (arith, ap length c.half-upper.ensures.bits, length_half p true, c.half-upper.ensures.room) in
    search (rules, from, fewer)

pub returns-then-len : goal.returns-then-len
returns-then-len g t c =
    let f = g.C.BitString.bits in
    let l = c.loop-row in
    let p = f c.args.network.now in
    let left = l.left.now in
    let rest = c.in_ok-rest.rest.now in
    let mid = c.push_parts.new.parts.items in
    let new = c.push_parts-then-len.new.parts.items in
    let longer : length p < length (f c.in-Some.row.now.0) = omega (arith, c.if-len.true) in
    IfOk-weaker c.push_parts-then-len.result _ _ (λ last up.
    subst (λ old. IsPartStep f p c.args.index c.args.rows.now last.now old new) l.invariant.parts
    (l.invariant.left last.now l.parts.items new (step_halves f p l.least left rest l.parts.items mid
    (subst (λ z. IsPartStep f z l.least left rest l.parts.items mid) c.half-lower.ensures.bits c.in_ok-rest.ensures)
    last.now new c.half-lower.ensures.room
    (lower_from f p left c.in-Some.behind.now c.in-Some.row.now c.in-Some.ensures.cases.0 l.invariant.from
    (c.is_inside.ensures.0 c.if-not-is_inside.false) longer)
    (subst (λ z. IsPartStep f z l.least rest last.now mid new) c.half-upper.ensures.bits up)))) c.push_parts-then-len.ensures

pub returns : goal.returns
returns g t c =
    let f = g.C.BitString.bits in
    let l = c.loop-row in
    let p = f c.args.network.now in
    let left = l.left.now in
    let old = c.args.parts.now.items in
    subst (λ new. IsPartStep f p c.args.index c.args.rows.now left old new)
    (sym (c.in_ok-push.ensures.items ∙ ap (λ parts. parts ++ (c.args.network.now, l.least) ∷ []) l.invariant.parts))
    (l.invariant.left left old (old ++ (c.args.network.now, l.least) ∷ [])
    (step_whole f p l.least c.args.network.now refl c.has_at_most_129_bits.ensures left old l.invariant.from (elim c.match-split_first.branch [
      | in-Some+then-not-is_inside w ↦ none_inside f p left w.in-Some.behind.now w.in-Some.row.now w.in-Some.ensures.cases.0 l.invariant.from
          (not_from_Decides w.is_inside.result w.is_inside.ensures w.if-not-is_inside.true)
      | in_default w ↦
          let none = nothing left (by_none c.split_first.result (length left ≡ 0) _ w.in_default.not-Some c.split_first.ensures.cases) in
          λ row k. absurd (contains_nothing row (subst (λ s. Contains s row) none k))
    ])))
