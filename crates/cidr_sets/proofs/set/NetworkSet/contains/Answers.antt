use Rattle.std.proofs.Common.{map}
use Rattle.cidr_sets.proofs.Addresses.{covers_from_full, full_from_covers}
use Rattle.cidr_sets.proofs.set.NetworkSet.contains.Goals as goal

pub returns-clause-networks : goal.returns-clause-networks
returns-clause-networks g c = rw (← c.probe.ensures.networks) c.contains.ensures.answer

pub returns-clause-addresses : goal.returns-clause-addresses
returns-clause-addresses g c =
    let f = g.C.BitString.bits in
    let s = map f c.args.self.now in
    let k = f c.args.network.now in
    let told = returns-clause-networks g c in (
      λ h. full_from_covers 129 s k (told.0 h),
      λ h. told.1 (covers_from_full 129 s k c.probe.ensures.reduced c.has_at_most_129_bits.ensures h),
    )
