use Rattle.std.proofs.Common.{rules, sym, ◌∙◌, subst, arith}
use Rattle.std.proofs.lemmas.Bool.{false≢true}
use Rattle.std.specs.List.{Contains}
use Rattle.cidr.specs.either.IpNetwork.{any_bits}
use Rattle.cidr_routes.specs.Origins.{IsValidity}
use Rattle.cidr_routes.proofs.Answering.{first_other, one_too_long, one_valid}
use Rattle.cidr_c.specs.model.Routes.{payload_in}
use Rattle.cidr_c.proofs.RouteAnswers.{one_aside}
use Rattle.cidr_c.proofs.routes.beside.Goals as goal

pub returns-then-not-contains : goal.returns-then-not-contains
returns-then-not-contains c = λ before h.
    one_aside any_bits (any_bits c.args.route.now) c.args.origin before (payload_in c.args.payload.now)
    (λ b. false≢true (sym (search (rules, c.if-not-contains.true)) ∙ c.contains.ensures.1 b)) c.args.seen h

pub returns-in-NotFound : goal.returns-in-NotFound
returns-in-NotFound c = λ before h.
    let route = any_bits c.args.route.now in
    first_other any_bits route c.args.origin before (payload_in c.args.payload.now) (c.contains.ensures.0 (search (rules, c.if-not-contains.false)))
    (λ o. false≢true (sym (search (rules, c.if-not-is_of_origin.true)) ∙ c.is_of_origin.ensures.1 o))
    (subst (IsValidity any_bits route c.args.origin (Contains before)) c.in-NotFound.is h)

pub returns-then-len-from : goal.returns-then-len-from
returns-then-len-from c = λ before h.
    let covers = c.contains.ensures.0 (search (rules, c.if-not-contains.false)) in
    one_valid any_bits (any_bits c.args.route.now) c.args.origin before (payload_in c.args.payload.now) covers (
      covers,
      omega (arith, c.if-len-from.true, c.len.ensures.value, c.from.ensures),
      c.is_of_origin.ensures.0 (search (rules, c.if-not-is_of_origin.false)),
    )

pub returns-in_default-seen : goal.returns-in_default-seen
returns-in_default-seen c = λ before h.
    one_too_long any_bits (any_bits c.args.route.now) c.args.origin before (payload_in c.args.payload.now)
    (c.contains.ensures.0 (search (rules, c.if-not-contains.false)))
    (c.is_of_origin.ensures.0 (search (rules, c.if-not-is_of_origin.false)))
    (λ le. omega (arith, le, c.if-len-from.false, c.len.ensures.value, c.from.ensures)) c.args.seen c.in_default-seen.not-Valid h
