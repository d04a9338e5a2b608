use Rattle.std.proofs.Common.{Result, Ok, Err, OnOk, OnErr, ap, ◌<◌, ◌++◌, ◌∙◌, ◌∷◌, [], List, length, take, drop, map, sym, subst, arith}
use Rattle.std.proofs.lemmas.Bool.Decides.{not_from_Decides}
use Rattle.std.proofs.lemmas.Result.{on_err_weaker, on_ok_weaker}
use Rattle.std.proofs.lemmas.List.{map-append}
use Rattle.cidr_table.specs.model.Cover.{Covers, IsReduced}
use Rattle.cidr_sets.specs.model.Sets.{IsUnion}
use Rattle.cidr_sets.proofs.Edits.{one_more, union_held}
use Rattle.cidr_sets.proofs.set.NetworkSet.insert.Goals as goal

pub returns-then-covers-clause-ok : goal.returns-then-covers-clause-ok
returns-then-covers-clause-ok g c =
    let f = g.C.BitString.bits in
    let p = f c.args.network in
    let same = c.as_slice.ensures.networks in
    let reduced = c.as_slice.ensures.reduced in
    union_held (map f c.args.self.now) reduced p c.has_at_most_129_bits.ensures (subst (λ l. Covers (map f l) p) same (c.covers.ensures.0 c.if-covers.true))

pub joined_with-whole-requires-clause-apart : goal.joined_with-whole-requires-clause-apart
joined_with-whole-requires-clause-apart g c d =
    let f = g.C.BitString.bits in
    not_from_Decides c.covers.result c.covers.ensures c.if-covers.false
    (subst (λ l. Covers (map f l) (f c.args.network)) (sym c.as_slice.ensures.networks)
    (subst (λ l. Covers (map f l) (f c.args.network)) c.as_slice-2.ensures.networks d))

pub returns-clause-held : goal.returns-clause-held
returns-clause-held g c d =
    let f = g.C.BitString.bits in
    absurd (not_from_Decides c.covers.result c.covers.ensures c.if-covers.false
    (subst (λ l. Covers (map f l) (f c.args.network)) (sym c.as_slice.ensures.networks) d))

pub returns-clause-grows : goal.returns-clause-grows
returns-clause-grows g c =
    let f = g.C.BitString.bits in
    let p = f c.args.network in
    let xs = c.as_slice-2.result.now in
    let start = c.joined_with-whole.result.1 in
    let q = f c.joined_with-whole.result.0 in
    on_err_weaker c.put.result
    (λ same set told. subst (λ (l : List _). length l < length set) c.as_slice-2.ensures.networks
    (one_more f xs start q _ set (omega (arith, same, c.joined_with-whole.ensures.within))
    (subst (λ k. IsUnion 129 (map f xs) (p ∷ []) (map f (take start xs) ++ q ∷ [] ++ map f (drop k xs))) (sym same) c.joined_with-whole.ensures.set)
    (subst (λ l. IsUnion 129 (map f l) (p ∷ []) set) (sym c.as_slice-2.ensures.networks) told)))
    c.put.ensures.grows

pub covers-requires : goal.covers-requires
covers-requires g c = subst (λ l. IsReduced 129 (map g.C.BitString.bits l)) (sym c.as_slice.ensures.networks) c.as_slice.ensures.reduced

pub joined_with-whole-requires-clause-reduced : goal.joined_with-whole-requires-clause-reduced
joined_with-whole-requires-clause-reduced g c = subst (λ l. IsReduced 129 (map g.C.BitString.bits l)) (sym c.as_slice-2.ensures.networks) c.as_slice-2.ensures.reduced

pub put-requires-clause-order : goal.put-requires-clause-order
put-requires-clause-order g c = c.joined_with-whole.ensures.order

pub returns-clause-err : goal.returns-clause-err
returns-clause-err g c = on_err_weaker c.put.result (λ same. same ∙ c.self.view_is) c.put.ensures.err

-- what holds whatever was returned
settled : {X E : Type 0} (P : Type 0) (r : Result X E) → OnOk r P → OnErr r P → P
settled P (Ok x) ok err = ok
settled P (Err e) ok err = err

pub returns-clause-ok : goal.returns-clause-ok
returns-clause-ok g c =
    let f = g.C.BitString.bits in
    let p = f c.args.network in
    let xs = c.as_slice-2.result.now in
    let q = c.joined_with-whole.result.0 in
    let start = c.joined_with-whole.result.1 in
    let end = c.joined_with-whole.result.2 in
    on_ok_weaker c.put.result
    (λ same. subst (λ l. IsUnion 129 (map f c.args.self.now) (p ∷ []) (map f l)) (sym (same ∙ ap (λ l. take start l ++ q ∷ [] ++ drop end l) c.self.view_is))
    (subst (λ l. IsUnion 129 (map f l) (p ∷ []) (map f (take start l ++ q ∷ [] ++ drop end l))) c.as_slice-2.ensures.networks
    (subst (IsUnion 129 (map f xs) (p ∷ [])) (sym (map-append f (take start xs ++ q ∷ []) (drop end xs) ∙ ap (λ l. l ++ map f (drop end xs)) (map-append f (take start xs) (q ∷ [])))) c.joined_with-whole.ensures.set)))
    c.put.ensures.ok

pub invariant_of-self : goal.invariant_of-self
invariant_of-self g c =
    let f = g.C.BitString.bits in
    settled (IsReduced 129 (map f c.put.new.elements.items)) c.put.result (on_ok_weaker c.put.result (λ union. union.reduced) (returns-clause-ok g c))
    (on_err_weaker c.put.result (λ same. subst (λ l. IsReduced 129 (map f l)) (sym same) c.self.invariant) c.put.ensures.err)
