use Rattle.std.proofs.Common.{map}
use Rattle.cidr.specs.either.IpNetwork.{any_bits}
use Rattle.cidr_c.specs.calls.Batches.{AreBothNetworks, bits_in}
use Rattle.cidr_c.proofs.NetworkLists.{delivered, if_ok}
use Rattle.cidr_c.proofs.sets.combined.Goals as goal

pub returns-in-Ok : goal.returns-in-Ok
returns-in-Ok g c =
    let own = c.args.these.now in
    let others = c.args.those.now in
    let one = c.in-Ok.ensures.0 in
    let other = c.in-Ok.ensures.1 in
    delivered (AreBothNetworks own others) (g.K.Combination.Combines (bits_in own) (bits_in others)) c.of.result c.args.out.now
    c.deliver.new.out c.args.count.now c.deliver.new.count c.deliver.result (one.0, other.0)
    (if_ok (g.K.Combination.Combines (map any_bits c.in-Ok.these) (map any_bits c.in-Ok.those)) (g.K.Combination.Combines (bits_in own) (bits_in others))
    c.of.result (λ set h. g.K.Combination.of_addresses (bits_in own) (bits_in others) (map any_bits c.in-Ok.these) (map any_bits c.in-Ok.those) set one.1 other.1 h)
    c.of.ensures)
    c.deliver.ensures
