use Rattle.std.proofs.Common.{◌≡◌, ◌-◌, ◌+◌, ◌<◌, [], ◌∷◌, ◌++◌, length, get_or, map, take, drop, sym, ap, ap₂, ◌∙◌, subst, arith, rules}
use Rattle.std.proofs.lemmas.List.{drop-map, get_or-map, get_or_default, length-map, take-map}
use Rattle.std.proofs.lemmas.Result.{on_ok_weaker}
use Rattle.cidr.specs.model.Network.{BeginsWith}
use Rattle.cidr_sets.specs.internal.Edits.{IsParted}
use Rattle.cidr_sets.specs.model.Sets.{IsDifference}
use Rattle.cidr_sets.specs.internal.Steps.{Ascend, IsDifferenceStep}
use Rattle.cidr_sets.proofs.Edits.{without_part}
use Rattle.cidr_sets.proofs.Moves.{map_three}
use Rattle.cidr_sets.proofs.Parts.{parted_at}
use Rattle.cidr_sets.proofs.Places.{holder_before}
use Rattle.cidr_sets.proofs.Steps.{none_ascend, one_ascends}
use Rattle.cidr_sets.proofs.set.edits.split.Goals as goal

pub overflow_sub-end : goal.overflow_sub-end
overflow_sub-end g c =
    let f = g.C.BitString.bits in
    let xs = c.args.networks.now.items in
    (holder_before (map f xs) (f c.args.network.now) c.upto-end.result c.requires.reduced
    (rw c.as_slice.ensures.value at c.upto-end.ensures.index) c.requires.covered).0

pub write_rest-requires-clause-others : goal.write_rest-requires-clause-others
write_rest-requires-clause-others g c =
    let f = g.C.BitString.bits in
    let is : c.push.new.self.items ≡ c.args.network.now ∷ [] = c.in_ok-push.ensures.items ∙ ap (λ l. l ++ c.args.network.now ∷ []) c.new-single.ensures.items in
    simp (c.as_slice-2.ensures.value, is) (one_ascends (f c.args.network.now))

pub write_rest-requires-clause-ascend : goal.write_rest-requires-clause-ascend
write_rest-requires-clause-ascend g c = subst (λ l. Ascend (map g.C.BitString.bits l)) (sym c.new-rests.ensures.items) none_ascend

pub overflow_sub-end-2 : goal.overflow_sub-end-2
overflow_sub-end-2 g c =
    let f = g.C.BitString.bits in
    let xs = c.args.networks.now.items in
    (holder_before (map f xs) (f c.args.network.now) c.upto-end.result c.requires.reduced
    (rw c.as_slice.ensures.value at c.upto-end.ensures.index) c.requires.covered).0

pub returns-clause-ok : goal.returns-clause-ok
returns-clause-ok g c =
    let f = g.C.BitString.bits in
    let xs = c.args.networks.now.items in
    let s = map f xs in
    let p = f c.args.network.now in
    let end = c.upto-end.result in
    let holder = holder_before s p end c.requires.reduced (rw c.as_slice.ensures.value at c.upto-end.ensures.index) c.requires.covered in
    let i = end - 1 in
    let within : i < length xs = omega (arith, holder.0, c.upto-end.ensures.within, ap length c.as_slice.ensures.value) in
    let low : i < length s = omega (arith, within, length-map xs f) in
    let outer = c.index.result.now in
    let q = f outer in
    let here : get_or s i q ≡ q = get_or-map f xs i outer q within ∙ ap f (sym c.index.ensures) in
    let inside : BeginsWith p q = subst (BeginsWith p) (get_or_default s i p q low ∙ here) holder.1 in
    let after : i + 1 ≡ end = omega (arith, holder.0) in
    let parted : IsParted s q (take i s) (drop end s) =
    subst (λ k. IsParted s q (take i s) (drop k s)) after (parted_at s c.requires.reduced q i low here) in
    let new = map f c.write_rest.new.out.items in
    let cut : IsDifferenceStep q [] new (p ∷ []) (map f c.in_ok-write_rest.field-0.now) = search rules in
    let rest = without_part s c.requires.reduced p c.has_at_most_129_bits.ensures q (take i s) (drop end s) new _ parted (i, low, here) inside cut in
    let left : IsDifference 129 s (p ∷ []) (map f (take i xs ++ c.write_rest.new.out.items ++ drop end xs)) =
    subst (IsDifference 129 s (p ∷ []))
    (ap₂ (λ u v. u ++ new ++ v) (take-map f i xs) (drop-map f end xs) ∙ sym (map_three f (take i xs) c.write_rest.new.out.items (drop end xs))) rest in
    on_ok_weaker c.replace.result
    (λ is. subst (λ l. IsDifference 129 s (p ∷ []) (map f l)) (sym is)
    (subst (λ l. IsDifference 129 s (p ∷ []) (map f (take i xs ++ l ++ drop end xs))) (sym c.as_slice-3.ensures.value) left))
    c.replace.ensures.ok
