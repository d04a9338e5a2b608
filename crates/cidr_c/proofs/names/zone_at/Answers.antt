use Rattle.std.proofs.Common.{sym}
use Rattle.std.proofs.lemmas.Iterator.Consumers.{YieldsList-from_first, nth_from_yields_List}
use Rattle.cidr.specs.either.IpNetwork.{network_family, network_prefix}
use Rattle.cidr_ext.specs.texts.Zones.{zones_of}
use Rattle.cidr_c.proofs.names.zone_at.Goals as goal

pub returns : goal.returns
returns c =
    let told = c.reverse_zones.ensures in
    let network = c.args.network.now in
    let all = zones_of (network_family network) (network_prefix network) told.0 in (
      told.0,
      told.1,
      sym (nth_from_yields_List c.nth.result c.nth.new.self c.args.index c.nth.ensures.ran
          (YieldsList-from_first (λ name. name.bytes) (λ s. s) all told.2)),
    )
