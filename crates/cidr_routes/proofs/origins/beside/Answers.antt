use Rattle.std.proofs.Common.{rules, sym, ◌∙◌, subst, arith}
use Rattle.std.proofs.lemmas.Bool.{false≢true}
use Rattle.std.specs.List.{Contains}
use Rattle.cidr_routes.specs.Origins.{IsValidity}
use Rattle.cidr_routes.proofs.Answering.{one_valid, still_valid, one_too_long, first_other, one_other}
use Rattle.cidr_routes.proofs.origins.beside.Goals as goal

pub returns-in-NotFound : goal.returns-in-NotFound
returns-in-NotFound g c = λ before h.
    let bits = g.C.BitString.bits in
    let route = bits c.args.route.now in
    first_other bits route c.args.origin before c.args.payload.now c.requires
    (λ o. false≢true (sym (search (rules, c.if-not-is_of_origin.true)) ∙ c.is_of_origin.ensures.1 o))
    (subst (IsValidity bits route c.args.origin (Contains before)) c.in-NotFound.is h)

pub returns-in_default : goal.returns-in_default
returns-in_default g c = λ before h.
    one_other g.C.BitString.bits (g.C.BitString.bits c.args.route.now) c.args.origin before c.args.payload.now c.requires
    (λ o. false≢true (sym (search (rules, c.if-not-is_of_origin.true)) ∙ c.is_of_origin.ensures.1 o)) c.args.seen c.in_default.not-NotFound h

pub returns-then-network_length-payload : goal.returns-then-network_length-payload
returns-then-network_length-payload g c = λ before h.
    one_valid g.C.BitString.bits (g.C.BitString.bits c.args.route.now) c.args.origin before c.args.payload.now c.requires (
      c.requires,
      omega (arith, c.if-network_length-payload.true, c.network_length.ensures.value),
      c.is_of_origin.ensures.0 (search (rules, c.if-not-is_of_origin.false)),
    )

pub returns-in-Valid : goal.returns-in-Valid
returns-in-Valid g c = λ before h.
    let bits = g.C.BitString.bits in
    let route = bits c.args.route.now in
    still_valid bits route c.args.origin before c.args.payload.now c.requires
    (subst (IsValidity bits route c.args.origin (Contains before)) c.in-Valid.is h)

pub returns-in_default-seen : goal.returns-in_default-seen
returns-in_default-seen g c = λ before h.
    one_too_long g.C.BitString.bits (g.C.BitString.bits c.args.route.now) c.args.origin before c.args.payload.now c.requires
    (c.is_of_origin.ensures.0 (search (rules, c.if-not-is_of_origin.false)))
    (λ le. omega (arith, le, c.if-network_length-payload.false, c.network_length.ensures.value)) c.args.seen c.in_default-seen.not-Valid h
