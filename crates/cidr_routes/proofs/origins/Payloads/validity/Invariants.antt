use Rattle.std.proofs.Common.{◌≡◌, ◌++◌, List, length}
use Rattle.std.specs.List.{Contains}
use Rattle.cidr_routes.specs.declared.origins.Payload.{Payload}
use Rattle.cidr_routes.specs.Origins.{IsValidity}
use Rattle.cidr_routes.proofs.origins.Payloads.validity.Given as goal

-- what those said that came so far
abbrev pub invariant-loop-payload : goal.invariant-loop-payload
invariant-loop-payload g l = (before : List (Payload g.row.C.Denot)) × (l.initial.covering ≡ before ++ l.covering)
    × IsValidity g.C.BitString.bits (g.C.BitString.bits l.route) l.origin (Contains before) l.seen

abbrev pub decreases-loop-payload : goal.decreases-loop-payload
decreases-loop-payload g l = length l.covering
