use Rattle.std.proofs.Common.{ℕ, List, Some, subst}
use Rattle.cidr.specs.declared.cidr.combined.IpCidr.{IpCidr}
use Rattle.cidr.specs.either.IpNetwork.{network_family, network_prefix}
use Rattle.cidr_c.specs.calls.Calls.{IsPrintedInto}
use Rattle.cidr_c.specs.model.Texts.{IsZoneAt}
use Rattle.cidr_c.proofs.names.pcidr_print_reverse_zone.Goals as goal

pub returns-in-Some-zone_at-clause-zone : goal.returns-in-Some-zone_at-clause-zone
returns-in-Some-zone_at-clause-zone c =
    let name = c.in-Some-zone_at.name.bytes in
    λ host. (
      Some name,
      subst (λ (n : IpCidr). IsZoneAt (network_family n) (network_prefix n) c.args.index (Some name)) c.in-Some.ensures.1 c.in-Some-zone_at.ensures,
      subst (λ (t : List ℕ). IsPrintedInto t c.args.out.now c.print.new.out c.print.result) c.as_str.ensures.value c.print.ensures,
    )
