use Rattle.cidr.specs.either.IpNetwork.{any_bits}
use Rattle.cidr_c.specs.model.Routes.{payload_in}
use Rattle.cidr_c.proofs.RouteAnswers.{Said}
use Rattle.cidr_c.proofs.routes.validity_of.Given as goal

-- what those before say
abbrev pub invariant-loop-payload : goal.invariant-loop-payload
invariant-loop-payload l = Said any_bits (any_bits l.route) l.origin payload_in l.payloads l.payload-index l.seen
