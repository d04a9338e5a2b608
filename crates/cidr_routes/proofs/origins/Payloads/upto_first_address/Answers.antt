use Rattle.std.proofs.Common.{◌≡◌, ◌∙◌, subst, length}
use Rattle.cidr.specs.model.Network.{first_of, width_of}
use Rattle.cidr_routes.specs.Links.{IsUpto}
use Rattle.cidr_routes.proofs.Linking.{upto_none, upto_some}
use Rattle.cidr_routes.proofs.origins.Payloads.upto_first_address.Goals as goal

pub returns-in-Some : goal.returns-in-Some
returns-in-Some g c =
    let bits = g.C.BitString.bits in
    let vs = c.self.inside.payloads.items in
    let (sorted, ordered, linked, len, ends) = c.self.invariant in
    let row = c.in-Some.row.now in
    let a : bits c.new_host-address.result ≡ first_of (width_of g.C.FamilyCidr.FAMILY) (bits c.args.route.now) =
    c.new_host-address.ensures.bits ∙ c.first_address.ensures in
    subst (λ x. IsUpto bits c.args.self.now x (length c.args.self.now) row.1) a
    (subst (λ xs. IsUpto bits xs (bits c.new_host-address.result) (length xs) row.1) c.self.view_is
    (upto_some bits g.met.C.NetworkBits.determined vs c.self.inside.ends.rows ends (bits c.new_host-address.result) ordered row.0 row.1 c.in-Some.ensures))

pub returns-in-None : goal.returns-in-None
returns-in-None g c =
    let bits = g.C.BitString.bits in
    let vs = c.self.inside.payloads.items in
    let (sorted, ordered, linked, len, ends) = c.self.invariant in
    let a : bits c.new_host-address.result ≡ first_of (width_of g.C.FamilyCidr.FAMILY) (bits c.args.route.now) =
    c.new_host-address.ensures.bits ∙ c.first_address.ensures in
    subst (λ x. IsUpto bits c.args.self.now x (length c.args.self.now) 0) a
    (subst (λ xs. IsUpto bits xs (bits c.new_host-address.result) (length xs) 0) c.self.view_is
    (upto_none bits g.met.C.NetworkBits.determined vs c.self.inside.ends.rows ends (bits c.new_host-address.result) c.in-None.ensures))
