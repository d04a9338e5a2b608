use Rattle.std.proofs.Common.{◌≡◌, ◌-◌, sym, ◌∙◌, ap, subst, arith, length}
use Rattle.std.specs.List.{Contains}
use Rattle.std.specs.List.Sorted.{IsStrictlySortedBy}
use Rattle.cidr.specs.model.Network.{first_of, width_of, zeros}
use Rattle.cidr_routes.specs.Links.{AreLinked, AreOrdered, IsUpto}
use Rattle.cidr_routes.specs.Origins.{payload_cmp}
use Rattle.cidr_routes.proofs.Linking.{all_covering, begins_append, covered_descend, nested_within}
use Rattle.cidr_routes.proofs.origins.Payloads.covering.Goals as goal

pub last_covering-end-requires : goal.last_covering-end-requires
last_covering-end-requires g c =
    let bits = g.C.BitString.bits in
    let route = bits c.args.route.now in
    let w = width_of g.C.FamilyCidr.FAMILY in
    let a = first_of w route in
    let vs = c.self.inside.payloads.items in
    let slice = c.as_slice-payloads.result.now in
    let upto = c.upto_first_address-upto.result in
    let (sorted, order, links, len, ends) = c.self.invariant in
    let value = c.as_slice-payloads.ensures.value in
    let ordered : AreOrdered bits slice = subst (AreOrdered bits) (sym value) order in
    let linked : AreLinked bits slice c.as_slice-above.result.now =
    subst (λ xs. AreLinked bits xs c.as_slice-above.result.now) (sym value) (subst (AreLinked bits vs) (sym c.as_slice-above.ensures.value) links) in
    let first : IsUpto bits slice a (length slice) upto =
    subst (λ xs. IsUpto bits xs a (length xs) upto) (sym (value ∙ c.self.view_is)) c.upto_first_address-upto.ensures in
    let size : length c.as_slice-above.result.now ≡ length slice =
    ap (λ xs. length xs) c.as_slice-above.ensures.value ∙ (len ∙ sym (ap (λ xs. length xs) value)) in record {
      within = first.within;
      known = omega (arith, first.within, size);
      linked = linked;
      nested = nested_within bits slice ordered upto a route first.within first.last (begins_append route (zeros (w - length route)));
    }

pub invariant_of-result : goal.invariant_of-result
invariant_of-result g c =
    let bits = g.C.BitString.bits in
    let a = first_of (width_of g.C.FamilyCidr.FAMILY) (bits c.args.route.now) in
    let vs = c.self.inside.payloads.items in
    let slice = c.as_slice-payloads.result.now in
    let upto = c.upto_first_address-upto.result in
    let (sorted, order, links, len, ends) = c.self.invariant in
    let value = c.as_slice-payloads.ensures.value in
    let first : IsUpto bits slice a (length slice) upto =
    subst (λ xs. IsUpto bits xs a (length xs) upto) (sym (value ∙ c.self.view_is)) c.upto_first_address-upto.ensures in
    let size : length c.as_slice-above.result.now ≡ length slice =
    ap (λ xs. length xs) c.as_slice-above.ensures.value ∙ (len ∙ sym (ap (λ xs. length xs) value)) in (
      subst (AreOrdered bits) (sym value) order,
      subst (λ xs. AreLinked bits xs c.as_slice-above.result.now) (sym value) (subst (AreLinked bits vs) (sym c.as_slice-above.ensures.value) links),
      size,
      omega (arith, first.within, c.last_covering-end.ensures.within),
      c.last_covering-end.ensures.last,
    )

pub returns-clause-same : goal.returns-clause-same
returns-clause-same g c = λ v.
    let bits = g.C.BitString.bits in
    let route = bits c.args.route.now in
    let w = width_of g.C.FamilyCidr.FAMILY in
    let a = first_of w route in
    let slice = c.as_slice-payloads.result.now in
    let upto = c.upto_first_address-upto.result in
    let same : slice ≡ c.args.self.now = c.as_slice-payloads.ensures.value ∙ c.self.view_is in
    let first : IsUpto bits slice a (length slice) upto = subst (λ xs. IsUpto bits xs a (length xs) upto) (sym same) c.upto_first_address-upto.ensures in
    let k = all_covering bits slice a route upto c.last_covering-end.result first (begins_append route (zeros (w - length route))) c.last_covering-end.ensures v in (
      λ d. let h = k.0 d in (subst (λ xs. Contains xs v) same h.0, h.1),
      λ h. k.1 (subst (λ xs. Contains xs v) (sym same) h.0, h.1),
    )

pub returns-clause-descending : goal.returns-clause-descending
returns-clause-descending g c =
    let bits = g.C.BitString.bits in
    let (sorted, order, links, len, ends) = c.self.invariant in
    covered_descend bits c.as_slice-payloads.result.now (bits c.args.route.now) (payload_cmp g.C.Ord.cmp)
    (subst (IsStrictlySortedBy (payload_cmp g.C.Ord.cmp)) (sym c.as_slice-payloads.ensures.value) sorted) c.last_covering-end.result
