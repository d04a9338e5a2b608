use Rattle.std.proofs.Common.{inr, subst, map, ℕ, Option}
use Rattle.std.specs.List.{Contains}
use Rattle.cidr.specs.either.IpNetwork.{any_bits}
use Rattle.cidr.specs.declared.cidr.any.AnyIpCidr.{AnyIpCidr}
use Rattle.cidr_routes.specs.Origins.{IsValidity}
use Rattle.cidr_c.specs.model.Routes.{origin_in, payload_in}
use Rattle.cidr_c.proofs.routes.pcidr_validity.Goals as goal

pub returns-then-are_payloads : goal.returns-then-are_payloads
returns-then-are_payloads c =
    let payloads = c.args.payloads.now in inr (
      c.are_payloads.ensures.0 c.if-are_payloads.true,
      c.in-Some.ensures.0,
      c.validity_of.result,
      c.validity_code.ensures,
      subst (λ (n : AnyIpCidr). IsValidity any_bits (any_bits n) (origin_in c.args.origin) (Contains (map payload_in payloads)) c.validity_of.result) c.in-Some.ensures.1
          (subst (λ (o : Option ℕ). IsValidity any_bits (any_bits c.in-Some.route) o (Contains (map payload_in payloads)) c.validity_of.result) c.origin_of.ensures
          c.validity_of.ensures),
    )
