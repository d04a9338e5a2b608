use Rattle.std.proofs.Common.{◌++◌, ◌∷◌, [], refl, ◌∙◌, ap, arith, length}
use Rattle.std.specs.List.{Contains}
use Rattle.cidr_routes.proofs.Answering.{next_covers, none_said, one_by_one, told_early, told_last}
use Rattle.cidr_routes.proofs.origins.Payloads.validity.Goals as goal

pub loop-payload-init : goal.loop-payload-init
loop-payload-init g c = ([], refl, none_said g.C.BitString.bits (g.C.BitString.bits c.args.route.now) c.args.origin)

pub beside-seen-requires : goal.beside-seen-requires
beside-seen-requires g c =
    let (before, e, h) = c.loop-payload.invariant in
    let p = c.in-Some.payload.now in
    next_covers g.C.BitString.bits (g.C.BitString.bits c.args.route.now) c.args.origin (Contains c.args.self.now) c.covering-covering.result
    c.covering-covering.ensures.same before c.next.new.self p (e ∙ ap (λ xs. before ++ xs) c.in-Some.ensures.steps)

pub returns-then-is_valid : goal.returns-then-is_valid
returns-then-is_valid g c =
    let (before, e, h) = c.loop-payload.invariant in
    let p = c.in-Some.payload.now in
    told_early g.C.BitString.bits (g.C.BitString.bits c.args.route.now) c.args.origin (Contains c.args.self.now) c.covering-covering.result
    c.covering-covering.ensures.same (before ++ p ∷ []) c.next.new.self
    (e ∙ (ap (λ xs. before ++ xs) c.in-Some.ensures.steps
    ∙ one_by_one g.C.BitString.bits (g.C.BitString.bits c.args.route.now) c.args.origin before c.next.new.self p))
    c.beside-seen.result (c.is_valid.ensures.0 c.if-is_valid.true) (c.beside-seen.ensures before h)

pub loop-payload-preserved : goal.loop-payload-preserved
loop-payload-preserved g c =
    let (before, e, h) = c.loop-payload.invariant in
    let p = c.in-Some.payload.now in (
      before ++ p ∷ [],
      e ∙ (ap (λ xs. before ++ xs) c.in-Some.ensures.steps
          ∙ one_by_one g.C.BitString.bits (g.C.BitString.bits c.args.route.now) c.args.origin before c.next.new.self p),
      c.beside-seen.ensures before h,
    )

pub loop-payload-smaller : goal.loop-payload-smaller
loop-payload-smaller g c = omega (arith, ap (λ xs. length xs) c.in-Some.ensures.steps)

pub returns : goal.returns
returns g c =
    let (before, e, h) = c.loop-payload.invariant in
    told_last g.C.BitString.bits (g.C.BitString.bits c.args.route.now) c.args.origin (Contains c.args.self.now) c.covering-covering.result
    c.covering-covering.ensures.same before (e ∙ ap (λ xs. before ++ xs) c.in_default.ensures.steps.0) c.loop-payload.seen h
