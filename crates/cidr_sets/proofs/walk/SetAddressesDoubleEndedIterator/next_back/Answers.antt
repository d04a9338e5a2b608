use Rattle.std.proofs.Common.{◌≡◌, ◌⊎◌, ◌<◌, ◌≤◌, ◌-◌, map, Some, None, sym, ◌∙◌, inl, inr}
use Rattle.cidr.specs.model.Network.{width_of}
use Rattle.cidr_sets.specs.internal.AddressLists.{left_of}
use Rattle.cidr_sets.proofs.AddressWalks.{IsOpenedBack, stepped_back, ends_back, back_kept, back_opened, back_moved, progress_back}
use Rattle.cidr_sets.proofs.walk.SetAddressesDoubleEndedIterator.next_back.Goals as goal
use Rattle.cidr_sets.proofs.walk.SetAddressesDoubleEndedIterator.next_back.Given as given
use Rattle.cidr_sets.proofs.walk.SetAddressesDoubleEndedIterator.next_back.Goals.{in-Some, in-None+in-Some-split_last, in-None+in-None-split_last+in_ok-first-in-None-split_last}
use Rattle.cidr_sets.proofs.walk.SetAddressesDoubleEndedIterator.next_back.Goals.{then-first-last, else-first-last}

-- the network at the back end is opened
opened : (g : given.Over) (c : goal.After-self-1 g) → IsOpenedBack (width_of g.C.FamilyCidr.FAMILY) g.C.BitString.bits c.args.self.now c.match-self.first c.match-self.self-inside.networks.now c.match-self.self-inside.front
opened g c =
    let w = width_of g.C.FamilyCidr.FAMILY in
    let f = g.C.BitString.bits in
    let s = c.self.inside in
    elim c.match-self.branch [
      | in-Some v ↦ rw (v.first-is, v.self-inside-is) (back_kept w f c.args.self.now s.front s.back s.networks.now c.self.view_is c.self.invariant v.in-Some.ends v.in-Some.is)
      | in-None+in-Some-split_last v ↦ rw (v.first-is, v.self-inside-is) (back_opened w f c.args.self.now s.front s.back s.networks.now c.self.view_is c.self.invariant
          v.in-Some-split_last.network.now v.in-Some-split_last.before.now v.ends.result v.ends.ensures.first v.ends.ensures.last v.ends.ensures.fits
          v.in-None.is v.in-Some-split_last.ensures.cases.0)
      | in-None+in-None-split_last+in_ok-first-in-None-split_last v ↦ rw (v.first-is, v.self-inside-is, v.in_ok-first-in-None-split_last.ensures.after) (back_moved w f c.args.self.now s.front s.back s.networks.now c.self.view_is c.self.invariant
          (v.in_ok-first-in-None-split_last.first, v.in_ok-first-in-None-split_last.last) v.in-None.is v.in-None-split_last.ensures.cases (sym v.take.ensures.value ∙ v.in_ok-first-in-None-split_last.was))
    ]

pub from_number-requires : goal.from_number-requires
from_number-requires g c =
    let o : IsOpenedBack (width_of g.C.FamilyCidr.FAMILY) g.C.BitString.bits c.args.self.now c.match-self.first c.match-self.self-inside.networks.now c.match-self.self-inside.front = opened g c in
    o.are.1

-- whether it has more addresses
ways : (g : given.Over) (c : goal.After-from_number g) → ((c.match-self.first.0 < c.match-self.first.1) × (c.if-first-last.self ≡ Some (c.match-self.first.0, c.match-self.first.1 - 1)))
    ⊎ ((c.match-self.first.1 ≤ c.match-self.first.0) × (c.if-first-last.self ≡ None))
ways g c = elim c.if-first-last.branch [ then-first-last v ↦ inl (v.if-first-last.true, v.self-is) | else-first-last v ↦ inr (v.if-first-last.false, v.self-is) ]

opened_2 : (g : given.Over) (c : goal.After-from_number g) → IsOpenedBack (width_of g.C.FamilyCidr.FAMILY) g.C.BitString.bits c.args.self.now c.match-self.first c.match-self.self-inside.networks.now c.match-self.self-inside.front
opened_2 g c =
    let w = width_of g.C.FamilyCidr.FAMILY in
    let f = g.C.BitString.bits in
    let s = c.self.inside in
    elim c.match-self.branch [
      | in-Some v ↦ rw (v.first-is, v.self-inside-is) (back_kept w f c.args.self.now s.front s.back s.networks.now c.self.view_is c.self.invariant v.in-Some.ends v.in-Some.is)
      | in-None+in-Some-split_last v ↦ rw (v.first-is, v.self-inside-is) (back_opened w f c.args.self.now s.front s.back s.networks.now c.self.view_is c.self.invariant
          v.in-Some-split_last.network.now v.in-Some-split_last.before.now v.ends.result v.ends.ensures.first v.ends.ensures.last v.ends.ensures.fits
          v.in-None.is v.in-Some-split_last.ensures.cases.0)
      | in-None+in-None-split_last+in_ok-first-in-None-split_last v ↦ rw (v.first-is, v.self-inside-is, v.in_ok-first-in-None-split_last.ensures.after) (back_moved w f c.args.self.now s.front s.back s.networks.now c.self.view_is c.self.invariant
          (v.in_ok-first-in-None-split_last.first, v.in_ok-first-in-None-split_last.last) v.in-None.is v.in-None-split_last.ensures.cases (sym v.take.ensures.value ∙ v.in_ok-first-in-None-split_last.was))
    ]

pub invariant_of-self-2 : goal.invariant_of-self-2
invariant_of-self-2 g c =
    let w = width_of g.C.FamilyCidr.FAMILY in
    let s = c.match-self.self-inside in
    let o = opened_2 g c in
    let e = ends_back w c.args.self.now c.match-self.first.0 c.match-self.first.1 (map g.C.BitString.bits s.networks.now) c.if-first-last.self (g.C.Address.PrivUnspecAddress.bits c.from_number.result) o.are (ways g c) in
    (o.other, e)

pub returns-clause-steps : goal.returns-clause-steps
returns-clause-steps g c =
    let w = width_of g.C.FamilyCidr.FAMILY in
    let f = g.C.BitString.bits in
    let s = c.match-self.self-inside in
    let o = opened_2 g c in
    stepped_back w c.args.self.now c.match-self.first.0 c.match-self.first.1 (map f s.networks.now) c.if-first-last.self (g.C.Address.PrivUnspecAddress.bits c.from_number.result) o.are s.front o.whole c.from_number.ensures (ways g c)

pub returns-clause-goes : goal.returns-clause-goes
returns-clause-goes g c =
    let s = c.match-self.self-inside in
    progress_back g.C.Address.PrivUnspecAddress.bits (λ s. tt) c.args.self.now
    (left_of (width_of g.C.FamilyCidr.FAMILY) s.front (map g.C.BitString.bits s.networks.now) c.if-first-last.self) c.from_number.result (returns-clause-steps g c)
