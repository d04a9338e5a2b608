use Rattle.std.proofs.Common.{map, ap, sym, ◌∙◌, subst}
use Rattle.std.proofs.lemmas.List.{append-nil}
use Rattle.cidr.specs.model.Network.{width_of}
use Rattle.cidr_sets.specs.internal.AddressLists.{addresses_in}
use Rattle.cidr_sets.specs.model.Counts.{AreAddresses}
use Rattle.cidr_sets.proofs.AddressIndexes.{are_all}
use Rattle.cidr_sets.proofs.set.NetworkSet.addresses.Goals as goal

pub returns : goal.returns
returns g c =
    let w = width_of g.C.FamilyCidr.FAMILY in
    let f = g.C.BitString.bits in
    let ps = map f c.args.self.now in
    let same = c.as_slice.ensures.networks in
    subst (AreAddresses w ps) (sym (c._new.ensures ∙ append-nil (addresses_in w (map f c.as_slice.result.now)) ∙ ap (λ xs. addresses_in w (map f xs)) same))
    (are_all w ps c.as_slice.ensures.reduced)
