use Rattle.std.proofs.Common.{◌≡◌, ℕ, ◌+◌, ◌<◌, ◌∙◌, inl, inr, ap, arith, subst, sym, length, get_or, set, slice_get, Some, List}
use Rattle.std.proofs.lemmas.Bool.{cases_eq}
use Rattle.std.proofs.lemmas.List.{drop-set-lt, length-set}
use Rattle.std.proofs.lemmas.Option.{get_or_from_slice_get, same_Some, slice_get-get_or, slice_get_within}
use Rattle.cidr.specs.declared.cidr.any.AnyIpCidr.{AnyIpCidr}
use Rattle.cidr_c.specs.Nested.{AreRowsOfList}
use Rattle.cidr_c.specs.calls.Ordering.{IsNearestIndex}
use Rattle.cidr_c.proofs.Answering.{slice_get-set_here, slice_get-set_other}
use Rattle.cidr_c.proofs.Outers.{nearest_index}
use Rattle.cidr_c.proofs.nested.put_nearest.Goals as goal

-- one row has its own, and what other rows have at the same index is of the same network
one_put : (networks : List AnyIpCidr) (rows : List (AnyIpCidr × ℕ)) (out : List ℕ) (inner at answer : ℕ) (row : AnyIpCidr × ℕ) → AreRowsOfList networks rows
    → slice_get rows inner ≡ Some row → at ≡ row.1 → at < length out → IsNearestIndex networks row.0 answer
    → ((k : ℕ) (row : AnyIpCidr × ℕ) → k < inner → slice_get rows k ≡ Some row → (answer : ℕ) × (slice_get out row.1 ≡ Some answer) × IsNearestIndex networks row.0 answer)
    → (k : ℕ) (row : AnyIpCidr × ℕ) → k < inner + 1 → slice_get rows k ≡ Some row
    → (one : ℕ) × (slice_get (set out at answer) row.1 ≡ Some one) × IsNearestIndex networks row.0 one
one_put networks rows out inner at answer row are here is fits its before k other lt there =
    let contained : (i : ℕ) (r : AnyIpCidr × ℕ) → slice_get rows i ≡ Some r → slice_get networks r.1 ≡ Some r.0 = λ i r stands.
    (are r).0 (i, slice_get_within rows i r stands, get_or_from_slice_get rows i r r stands) in
    elim (cases_eq other.1 at) [
      | inl same ↦
          let network : row.0 ≡ other.0 = same_Some row.0 other.0 (sym (contained inner row here) ∙ (ap (slice_get networks) (sym is ∙ sym same) ∙ contained k other there)) in
          (answer, ap (slice_get (set out at answer)) same ∙ slice_get-set_here out at answer fits, subst (λ (n : AnyIpCidr). IsNearestIndex networks n answer) network its)
      | inr apart ↦
          let earlier : k < inner = elim (cases_eq k inner) [
            | inl e ↦
                let one : row ≡ other = same_Some row other (sym here ∙ (ap (slice_get rows) (sym e) ∙ there)) in
                absurd (apart (sym (is ∙ ap (λ (r : AnyIpCidr × ℕ). r.1) one)))
            | inr e ↦ omega (arith, e, lt)
          ] in
          let old = before k other earlier there in
          (old.0, slice_get-set_other out at other.1 answer apart ∙ old.1, old.2)
    ]

pub loop-inner-preserved : goal.loop-inner-preserved
loop-inner-preserved c =
    let rows = c.args.rows.now in
    let inner = c.loop-inner.inner in
    let out = c.loop-inner.out in
    let answer = c.index_before.result in
    let row = c.index-rows-inner.result in
    let here : slice_get rows inner ≡ Some row = slice_get-get_or rows inner row c.loop-inner-test.true ∙ ap Some (sym c.index-rows-inner.is) in
    let at = (get_or rows inner row).1 in
    let is : at ≡ row.1 = ap (λ (r : AnyIpCidr × ℕ). r.1) (sym c.index-rows-inner.is) in
    let fits : at < length out = omega (arith, is, c.requires.room row inner here, c.loop-inner.invariant.size) in
    record {
      size = length-set out at answer ∙ c.loop-inner.invariant.size;
      put = λ networks are.
          one_put networks rows out inner at answer row are here is fits
          (nearest_index networks rows c.requires.rows are inner (get_or c.args.outers.now inner 0) row here (c.requires.outers.each inner c.loop-inner-test.true) answer c.index_before.ensures)
          (c.loop-inner.invariant.put networks are);
      behind = λ many all. drop-set-lt many out at answer (omega (arith, is, all row inner here)) ∙ c.loop-inner.invariant.behind many all;
    }

pub returns-clause-put : goal.returns-clause-put
returns-clause-put c = λ networks are i network there.
    let stands = (are (network, i)).1 there in
    c.loop-inner.invariant.put networks are stands.0 (network, i) (omega (arith, stands.1, c.loop-inner-test.false))
    (slice_get-get_or c.args.rows.now stands.0 (network, i) stands.1 ∙ ap Some stands.2)
