use Rattle.std.proofs.Common.{OnOk, OnErr, ◌≡◌, [], ◌∷◌, ◌++◌, map, take, drop, sym, ap, ◌∙◌, subst}
use Rattle.std.proofs.lemmas.Bool.Decides.{not_from_Decides}
use Rattle.std.proofs.lemmas.List.{map-append}
use Rattle.cidr_table.specs.model.Cover.{Covers, IsReduced}
use Rattle.cidr_sets.specs.model.Sets.{IsDifference}
use Rattle.cidr_sets.proofs.Edits.{without_inside}
use Rattle.cidr_sets.proofs.set.NetworkSet.remove.Goals as goal

pub inside_of-start-requires-clause-apart : goal.inside_of-start-requires-clause-apart
inside_of-start-requires-clause-apart g c d =
    let f = g.C.BitString.bits in
    let p = f c.args.network.now in
    not_from_Decides c.covers.result c.covers.ensures c.if-covers.false
    (subst (λ l. Covers (map f l) p) (sym c.as_slice.ensures.networks) (subst (λ l. Covers (map f l) p) c.as_slice-2.ensures.networks d))

pub returns-clause-ok : goal.returns-clause-ok
returns-clause-ok g c =
    let f = g.C.BitString.bits in
    let xs = c.as_slice-2.result.now in
    let p = f c.args.network.now in
    let start = c.inside_of-start.result.0 in
    let end = c.inside_of-start.result.1 in
    let same = c.as_slice-2.ensures.networks in
    let reduced : IsReduced 129 (map f xs) = subst (λ l. IsReduced 129 (map f l)) (sym same) c.as_slice-2.ensures.reduced in
    let rest = without_inside (map f xs) reduced p c.has_at_most_129_bits.ensures (map f (take start xs)) (map f (drop end xs))
    c.inside_of-start.ensures.parted
    (λ d. not_from_Decides c.covers.result c.covers.ensures c.if-covers.false
    (subst (λ l. Covers (map f l) p) (sym c.as_slice.ensures.networks) (subst (λ l. Covers (map f l) p) same d))) in
    let left = subst (IsDifference 129 (map f xs) (p ∷ [])) (sym (map-append f (take start xs) (drop end xs))) rest in
    subst (λ l. IsDifference 129 (map f c.args.self.now) (p ∷ []) (map f l))
    (sym (c.cut.ensures ∙ ap (λ l. take start l ++ drop end l) c.self.view_is))
    (subst (λ l. IsDifference 129 (map f l) (p ∷ []) (map f (take start l ++ drop end l))) same left)

pub invariant_of-self-2 : goal.invariant_of-self-2
invariant_of-self-2 g c = (returns-clause-ok g c).reduced

pub covers-requires : goal.covers-requires
covers-requires g c = subst (λ l. IsReduced 129 (map g.C.BitString.bits l)) (sym c.as_slice.ensures.networks) c.as_slice.ensures.reduced

pub inside_of-start-requires-clause-reduced : goal.inside_of-start-requires-clause-reduced
inside_of-start-requires-clause-reduced g c = subst (λ l. IsReduced 129 (map g.C.BitString.bits l)) (sym c.as_slice-2.ensures.networks) c.as_slice-2.ensures.reduced

pub cut-requires-clause-order : goal.cut-requires-clause-order
cut-requires-clause-order g c = c.inside_of-start.ensures.order

pub split-requires-clause-reduced : goal.split-requires-clause-reduced
split-requires-clause-reduced g c = c.self.invariant

pub split-requires-clause-covered : goal.split-requires-clause-covered
split-requires-clause-covered g c = subst (λ l. Covers (map g.C.BitString.bits l) (g.C.BitString.bits c.args.network.now)) (c.as_slice.ensures.networks ∙ sym c.self.view_is) (c.covers.ensures.0 c.if-covers.true)

pub returns-then-covers-clause-apart : goal.returns-then-covers-clause-apart
returns-then-covers-clause-apart g c = λ apart. absurd (apart (subst (λ l. Covers (map g.C.BitString.bits l) (g.C.BitString.bits c.args.network.now)) c.as_slice.ensures.networks (c.covers.ensures.0 c.if-covers.true)))

pub returns-then-covers-clause-ok : goal.returns-then-covers-clause-ok
returns-then-covers-clause-ok g c = subst (λ l. OnOk c.split.result (IsDifference 129 (map g.C.BitString.bits l) (g.C.BitString.bits c.args.network.now ∷ []) (map g.C.BitString.bits c.split.new.networks.items))) c.self.view_is c.split.ensures.ok

pub returns-then-covers-clause-err : goal.returns-then-covers-clause-err
returns-then-covers-clause-err g c = subst (λ l. OnErr c.split.result (c.split.new.networks.items ≡ l)) c.self.view_is c.split.ensures.err
