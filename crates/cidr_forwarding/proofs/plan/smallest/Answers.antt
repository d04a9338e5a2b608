use Rattle.std.proofs.Common.{◌∙◌, ◌++◌, [], None, refl, ap₂}
use Rattle.cidr_forwarding.specs.Forwarding.{in_bits}
use Rattle.cidr_forwarding.specs.Plans.{behind, put_rows, planned}
use Rattle.cidr_forwarding.proofs.Placing.{behind_nothing}
use Rattle.cidr_forwarding.proofs.Final.{of_nothing}
use Rattle.cidr_forwarding.proofs.plan.smallest.Goals as goal

pub measure-requires-clause-of : goal.measure-requires-clause-of
measure-requires-clause-of g c = ([], refl, of_nothing g.C.BitString.bits [] c.args.rows.now refl)

pub place-requires-clause-of : goal.place-requires-clause-of
place-requires-clause-of g c = of_nothing g.C.BitString.bits (g.C.BitString.bits c.null.result) c.args.rows.now c.null.ensures.bits

pub returns-clause-rows : goal.returns-clause-rows
returns-clause-rows g c =
    let f = g.C.BitString.bits in
    let put = put_rows g.V.PartialEq.eq c.args.holes (planned f 0 None c.args.rows.now) None in
    c.in_ok-place.ensures.rows ∙ ap₂ (λ out q. in_bits f out ++ behind q put) c.new-out.ensures.items c.null.ensures.bits ∙ behind_nothing put
