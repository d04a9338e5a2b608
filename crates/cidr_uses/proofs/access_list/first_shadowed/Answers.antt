use Rattle.std.proofs.Common.{◌<◌, length, ap, ◌∙◌, arith}
use Rattle.std.proofs.lemmas.List.{length-map}
use Rattle.std.specs.List.{slice_get}
use Rattle.cidr_uses.proofs.AccessLists.{are_deciders, first_contained, none_contained}
use Rattle.cidr_uses.proofs.access_list.first_shadowed.Goals as goal

pub bounds-rules-index : goal.bounds-rules-index
bounds-rules-index g c =
    let found = first_contained c.in_ok-unreached.unreached.items c.in-Some.index.now
    (c.in-Some.ensures.value ∙ ap (λ xs. slice_get xs 0) c.deref.ensures.value) in
    omega (arith, ((c.in_ok-unreached.ensures.indices c.in-Some.index.now).0 found).0, length-map c.args.rules.now (λ r. g.C.BitString.bits r.network))

pub offset_bounds-rules-index : goal.offset_bounds-rules-index
offset_bounds-rules-index g c = let e = bounds-rules-index g c in omega (arith, e)

pub returns-in-Some : goal.returns-in-Some
returns-in-Some g c =
    let found = first_contained c.in_ok-unreached.unreached.items c.in-Some.index.now
    (c.in-Some.ensures.value ∙ ap (λ xs. slice_get xs 0) c.deref.ensures.value) in
    let unreached = (c.in_ok-unreached.ensures.indices c.in-Some.index.now).0 found in
    let xs = c.args.rules.now in
    let f = g.C.BitString.bits in
    let here : c.in-Some.index.now < length xs = omega (arith, unreached.0, length-map xs (λ r. f r.network)) in
    let told = c.shadowed_rules_are_decided_earlier.ensures in (
      unreached,
      are_deciders (λ r. f r.network) xs c.in-Some.index.now c.index-rules-index.result here
          told.some told.earlier c.in_ok-earlier-in-Some.earlier.items c.in_ok-earlier-in-Some.ensures.indices unreached,
    )

pub returns : goal.returns
returns g c i s =
    none_contained c.in_ok-unreached.unreached.items (c.in-None.ensures.value ∙ ap (λ xs. slice_get xs 0) c.deref.ensures.value) i
    ((c.in_ok-unreached.ensures.indices i).1 s)
