use Rattle.std.proofs.Common.{◌≡◌, ◌-◌, ◌∷◌, suc, sym, ◌∙◌, ap, arith, get_or, Some}
use Rattle.std.proofs.lemmas.Option.{slice_get-get_or}
use Rattle.std.specs.List.{slice_get}
use Rattle.cidr.specs.model.Network.{BeginsWith}
use Rattle.cidr_routes.specs.Links.{covered}
use Rattle.cidr_routes.proofs.Linking.{read, covered_first, covered_passed, none_between, progress}
use Rattle.cidr_routes.proofs.covering.CoveringIterator.next.Goals as goal

pub returns-clause-steps : goal.returns-clause-steps
returns-clause-steps g c =
    let bits = g.C.BitString.bits in
    let i = c.self.inside in
    let vrps = i.payloads.now in
    let above = i.above.now in
    let asked = bits i.route in
    let n = i.end - 1 in
    let p = c.index-self-place.result in
    let (ordered, linked, len, within, last) = c.self.invariant in
    let at : slice_get vrps n ≡ Some p = read vrps n p (omega (arith, within, c.if-self-eq0.false)) c.index-self-place.is in
    let b : BeginsWith asked (bits p.network) = last p (omega (arith, c.if-self-eq0.false)) at in
    let upto = linked n (get_or above n 0) p at (slice_get-get_or above n 0 (omega (arith, len, within, c.if-self-eq0.false))) in
    let one : i.end ≡ suc n = omega (arith, c.if-self-eq0.false) in
    sym c.self.view_is ∙ (ap (covered bits vrps asked) one ∙ (covered_first bits vrps asked n p at b
    ∙ (ap (λ xs. p ∷ xs) (covered_passed bits vrps asked (get_or above n 0) n upto.within (none_between bits vrps ordered asked n (get_or above n 0) p at b upto))
    ∙ ap (λ x. x ∷ covered bits vrps asked (get_or above n 0)) c.index-self-place.is)))

pub returns-clause-goes : goal.returns-clause-goes
returns-clause-goes g c = progress (λ x. x.now) (λ s. tt) c.args.self.now _ _ (returns-clause-steps g c)
