use Rattle.std.proofs.Common.{get_or, map, take}
use Rattle.std.proofs.lemmas.List.{get_or_default}
use Rattle.cidr.specs.either.IpNetwork.{any_bits}
use Rattle.cidr_routes.proofs.Answering.{none_said}
use Rattle.cidr_c.specs.model.Routes.{payload_in}
use Rattle.cidr_c.specs.declared.routes.CPayload.{CPayload}
use Rattle.cidr_c.proofs.RouteAnswers.{all_said, one_said}
use Rattle.cidr_c.proofs.routes.validity_of.Goals as goal

pub loop-payload-init : goal.loop-payload-init
loop-payload-init c = none_said any_bits (any_bits c.args.route.now) c.args.origin

pub beside-seen-requires : goal.beside-seen-requires
beside-seen-requires c = c.requires c.loop-payload.payload-index _ c.loop-payload-test.true

pub loop-payload-preserved : goal.loop-payload-preserved
loop-payload-preserved c =
    let payloads = c.args.payloads.now in
    let i = c.loop-payload.payload-index in
    let none : CPayload = record { network = record { high = 0; low = 0; tag = 0; zero_17 = 0; zero_18 = 0; zero_20 = 0 }; origin = 0; max_length = 0 } in
    let p = get_or payloads i none in
    one_said any_bits (any_bits c.args.route.now) c.args.origin payload_in payloads i p c.beside-seen.result c.loop-payload-test.true
    (get_or_default payloads i none p c.loop-payload-test.true)
    (c.beside-seen.ensures (map payload_in (take i payloads)) c.loop-payload.invariant)

pub returns : goal.returns
returns c =
    all_said any_bits (any_bits c.args.route.now) c.args.origin payload_in c.args.payloads.now c.loop-payload.payload-index c.loop-payload.seen
    c.loop-payload-test.false c.loop-payload.invariant
