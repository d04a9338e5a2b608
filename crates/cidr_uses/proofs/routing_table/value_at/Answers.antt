use Rattle.std.proofs.Common.{ap, ◌∙◌, subst}
use Rattle.cidr.specs.either.IpNetwork.{any_bits}
use Rattle.cidr_uses.specs.Routing.{IsRoute}
use Rattle.cidr_uses.proofs.Routes.{bits_of_address}
use Rattle.cidr_uses.proofs.routing_table.value_at.Goals as goal

pub returns : goal.returns
returns g c =
    let bits = ap any_bits c.new_host.ensures.value ∙ bits_of_address c.args.address in
    (c.in_ok-value.field-0-0, subst (λ a. IsRoute any_bits c.args.routes.now.rows a (c.in_ok-value.field-0-0, c.in_ok-value.value)) bits c.in_ok-value.ensures)
