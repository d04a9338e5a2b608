use Rattle.std.proofs.Common.{◌≡◌, ◌-◌, ◌<◌, sym, ◌∙◌, subst, arith, length, get_or, Some}
use Rattle.std.proofs.lemmas.Bool.{false≢true}
use Rattle.std.proofs.lemmas.Option.{same_Some, slice_get-get_or}
use Rattle.std.specs.List.{slice_get}
use Rattle.cidr.specs.model.Network.{BeginsWith}
use Rattle.cidr_routes.proofs.Linking.{read, skipped}
use Rattle.cidr_routes.proofs.links.last_covering.Goals as goal

pub loop-left-init : goal.loop-left-init
loop-left-init g c = record { within = omega arith; none = λ j v le lt s. absurd (omega (arith, le, lt)) }

pub returns-then-is_inside : goal.returns-then-is_inside
returns-then-is_inside g c =
    let bits = g.C.BitString.bits in
    let l = c.loop-left in
    let vrps = c.args.payloads.now in
    let p = c.index-payloads-left.result in
    let at : slice_get vrps (l.left - 1) ≡ Some p = read vrps (l.left - 1) p (omega (arith, l.invariant.within, c.requires.within, c.loop-left-test.true)) c.index-payloads-left.is in record {
      within = l.invariant.within;
      last = λ v pos s. subst (λ x. BeginsWith (bits c.args.network.now) (bits x.network)) (sym c.index-payloads-left.is ∙ same_Some p v (sym at ∙ s)) (c.is_inside.ensures.0 c.if-is_inside.true);
      none = l.invariant.none;
    }

pub loop-left-preserved : goal.loop-left-preserved
loop-left-preserved g c =
    let bits = g.C.BitString.bits in
    let l = c.loop-left in
    let vrps = c.args.payloads.now in
    let above = c.args.above.now in
    let p = c.index-payloads-left.result in
    let at : slice_get vrps (l.left - 1) ≡ Some p = read vrps (l.left - 1) p (omega (arith, l.invariant.within, c.requires.within, c.loop-left-test.true)) c.index-payloads-left.is in
    let known : l.left - 1 < length above = omega (arith, l.invariant.within, c.requires.known, c.loop-left-test.true) in
    let upto = c.requires.linked (l.left - 1) (get_or above (l.left - 1) 0) p at (slice_get-get_or above (l.left - 1) 0 known) in
    let other : ¬ (BeginsWith (bits c.args.network.now) (bits p.network)) =
    λ b. false≢true (sym c.if-is_inside.false ∙ c.is_inside.ensures.1 (subst (λ x. BeginsWith (bits c.args.network.now) (bits x.network)) c.index-payloads-left.is b)) in record {
      within = omega (arith, upto.within, l.invariant.within);
      none = skipped bits vrps (bits c.args.network.now) c.args.end l.left (get_or above (l.left - 1) 0) p c.requires.nested
          (omega (arith, c.loop-left-test.true)) l.invariant.within at upto other l.invariant.none;
    }

pub loop-left-smaller : goal.loop-left-smaller
loop-left-smaller g c =
    let l = c.loop-left in
    let vrps = c.args.payloads.now in
    let above = c.args.above.now in
    let p = c.index-payloads-left.result in
    let at : slice_get vrps (l.left - 1) ≡ Some p = read vrps (l.left - 1) p (omega (arith, l.invariant.within, c.requires.within, c.loop-left-test.true)) c.index-payloads-left.is in
    let known : l.left - 1 < length above = omega (arith, l.invariant.within, c.requires.known, c.loop-left-test.true) in
    let upto = c.requires.linked (l.left - 1) (get_or above (l.left - 1) 0) p at (slice_get-get_or above (l.left - 1) 0 known) in
    omega (arith, upto.within, c.loop-left-test.true)

pub returns : goal.returns
returns g c =
    let l = c.loop-left in record {
      within = omega arith;
      last = λ v pos s. absurd (omega (arith, pos));
      none = λ j v le lt s. l.invariant.none j v (omega (arith, c.loop-left-test.false)) lt s;
    }
