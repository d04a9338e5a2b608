use Rattle.std.proofs.Common.{◌≡◌, inr, sym, ◌∙◌, ap, subst, length}
use Rattle.std.proofs.lemmas.Result.{err_from_is_err_and}
use Rattle.std.specs.List.Sorted.{IsStrictlySortedBy}
use Rattle.std.specs.Map.{keys_of}
use Rattle.std.specs.Prelude.{IfOk}
use Rattle.cidr_table.proofs.Beginnings.{cmp_exact}
use Rattle.cidr_routes.specs.Links.{AreEnds, AreLinked, AreOrdered}
use Rattle.cidr_routes.proofs.Networks.{rows_of}
use Rattle.cidr_routes.proofs.Sorting.{networks_ordered, payloads_tie}
use Rattle.cidr_routes.proofs.origins.Payloads.new.Goals as goal

pub ascending-payloads-requires : goal.ascending-payloads-requires
ascending-payloads-requires g c =
    payloads_tie g.C.Ord.cmp g.met.C.Ord.total
    (cmp_exact g.C.Ord.cmp g.C.BitString.bits g.met.C.NetworkBits.ordered g.met.C.NetworkBits.determined)

-- payloads that ascend stand in the order of their networks
pub links-requires : goal.links-requires
links-requires g c =
    subst (AreOrdered g.C.BitString.bits) (sym c.as_slice.ensures.value)
    (networks_ordered g.C.Ord.cmp g.C.BitString.bits g.met.C.NetworkBits.ordered c.ascending-payloads.result.items c.ascending-payloads.ensures.ascending)

pub invariant_of-result : goal.invariant_of-result
invariant_of-result g c =
    let bits = g.C.BitString.bits in
    let made = subst (λ r. IfOk r (λ above. AreLinked bits c.as_slice.result.now above.items)) c.in_ok-above.ensures.ok c.links.ensures.linked in
    let size = subst (λ r. IfOk r (λ above. length above.items ≡ length c.as_slice.result.now)) c.in_ok-above.ensures.ok c.links.ensures.len in
    let ends = subst (λ r. IfOk r (λ table. AreEnds c.as_slice-2.result.now table.rows)) c.in_ok-or_no_memory.ensures.ok c.ends_of.ensures.ends in (
      c.ascending-payloads.ensures.ascending,
      networks_ordered g.C.Ord.cmp bits g.met.C.NetworkBits.ordered c.ascending-payloads.result.items c.ascending-payloads.ensures.ascending,
      subst (λ vs. AreLinked bits vs c.in_ok-above.above.items) c.as_slice.ensures.value made,
      size ∙ ap (λ vs. length vs) c.as_slice.ensures.value,
      subst (λ t. AreEnds c.ascending-payloads.result.items t.rows) (sym c.in_ok-ends.ensures.ok)
          (subst (λ vs. AreEnds vs c.in_ok-or_no_memory.field-0.rows) c.as_slice-2.ensures.value ends),
    )

pub returns-in_err-ends-clause-refused : goal.returns-in_err-ends-clause-refused
returns-in_err-ends-clause-refused g c =
    let (y, is, same) = err_from_is_err_and c.from_residual-in_err-ends.result c.from_residual-in_err-ends.ensures.1 in
    let rows = c.in_ok-or_no_memory.field-0.rows in
    let kept = c.ascending-payloads.result.items in
    let ends = subst (λ r. IfOk r (λ table. AreEnds c.as_slice-2.result.now table.rows)) c.in_ok-or_no_memory.ensures.ok c.ends_of.ensures.ends in
    let once = subst (λ r. IfOk r (λ table. IsStrictlySortedBy g.C.Ord.cmp (keys_of table.rows))) c.in_ok-or_no_memory.ensures.ok c.ends_of.ensures.once in
    rw is (inr (
      rows,
      rows_of g.C.Ord.cmp c.args.payloads.items kept rows c.ascending-payloads.ensures.same once (subst (λ vs. AreEnds vs rows) c.as_slice-2.ensures.value ends),
      rw same c.in_err-ends.ensures.refused,
      λ e. c.in_err-ends.ensures.large (sym same ∙ e),
    ))
