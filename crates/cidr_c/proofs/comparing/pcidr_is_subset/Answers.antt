use Rattle.std.proofs.Common.{map}
use Rattle.cidr.specs.either.IpNetwork.{any_bits}
use Rattle.cidr_sets.specs.model.Sets.{IsSubset}
use Rattle.cidr_c.specs.calls.Batches.{AreBothNetworks, bits_in}
use Rattle.cidr_c.proofs.Compared.{set_answered, subset_of}
use Rattle.cidr_c.proofs.comparing.pcidr_is_subset.Goals as goal

pub returns-in-Ok : goal.returns-in-Ok
returns-in-Ok c =
    let one = c.in-Ok.ensures.0 in
    let other = c.in-Ok.ensures.1 in
    let these = bits_in c.args.these.now in
    let those = bits_in c.args.those.now in
    let first = map any_bits c.in-Ok.these in
    let second = map any_bits c.in-Ok.those in
    set_answered (AreBothNetworks c.args.these.now c.args.those.now) (IsSubset 129 first second) (IsSubset 129 these those) c.is_subset.result
    c.args.answer.now c.yes_or_no.result (one.0, other.0) (subset_of these those first second one.1 other.1) c.is_subset.ensures c.yes_or_no.ensures
