use Rattle.std.proofs.Common.{◌+◌, ℕ, map, subst}
use Rattle.std.specs.Option.{option_map}
use Rattle.cidr.specs.either.IpNetwork.{any_bits}
use Rattle.cidr_table.specs.model.CoverAddresses.{IsIpNetworkBits}
use Rattle.cidr_sets.specs.model.Pools.{IsBestFree, ip_addresses_of}
use Rattle.cidr_c.proofs.Free.{free_sought}
use Rattle.cidr_c.proofs.pools.pcidr_best_free.Goals as goal

pub returns-in-Ok : goal.returns-in-Ok
returns-in-Ok c =
    let told = c.in-Ok.ensures in
    let set = map any_bits c.in-Ok.set in
    free_sought (IsBestFree IsIpNetworkBits ip_addresses_of) c.args.networks.now c.args.len set c.best_free.result c.args.out.now c.put_any_found.new.out c.put_any_found.result
    told.0 told.1
    (subst (λ (n : ℕ). IsBestFree IsIpNetworkBits ip_addresses_of set (n + 1) (option_map any_bits c.best_free.result)) c.from.ensures c.best_free.ensures.best)
    c.put_any_found.ensures
