use Rattle.std.proofs.Common.{◌≡◌, sym, ◌∙◌, ap, subst, arith, inl, inr, Some}
use Rattle.std.proofs.lemmas.List.{length_push}
use Rattle.std.proofs.lemmas.Option.{same_Some}
use Rattle.std.specs.List.{slice_get}
use Rattle.cidr_routes.specs.Links.{IsUpto}
use Rattle.cidr_routes.proofs.Linking.{read, nested_before, pushed_cases}
use Rattle.cidr_routes.proofs.links.links.Goals as goal

pub last_covering-count-requires-clause-nested : goal.last_covering-count-requires-clause-nested
last_covering-count-requires-clause-nested g c =
    let vrps = c.args.payloads.now in
    let p = c.index-payloads-i.result in
    nested_before g.C.BitString.bits vrps c.requires c.loop-i.i p (read vrps c.loop-i.i p c.loop-i-test.true c.index-payloads-i.is)

pub loop-i-preserved : goal.loop-i-preserved
loop-i-preserved g c =
    let bits = g.C.BitString.bits in
    let l = c.loop-i in
    let vrps = c.args.payloads.now in
    let p = c.index-payloads-i.result in
    let n = c.last_covering-count.result in
    let there : slice_get vrps l.i ≡ Some p = read vrps l.i p c.loop-i-test.true c.index-payloads-i.is in
    rw c.in_ok-push.ensures.items record {
      len = omega (arith, length_push l.above.items n, l.invariant.len);
      linked = λ i count v sv sc. elim (pushed_cases l.above.items n count i sc) [
        | inl old ↦ l.invariant.linked i count v sv old
        | inr new ↦
            let here : i ≡ l.i = omega (arith, new.0, l.invariant.len) in
            let same : p ≡ v = same_Some p v (sym there ∙ (ap (slice_get vrps) (sym here) ∙ sv)) in
            subst (λ m. IsUpto bits vrps (bits v.network) i m) new.1
            (subst (λ k. IsUpto bits vrps (bits v.network) k n) (sym here)
            (subst (λ x. IsUpto bits vrps (bits x.network) l.i n) same c.last_covering-count.ensures))
      ];
    }
