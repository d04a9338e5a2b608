use Rattle.std.proofs.Common.{◌≡◌, ◌⊎◌, [], ◌∷◌, ◌++◌, length, length-append, map, ap, sym, inl, inr, subst, arith, Some, None}
use Rattle.std.proofs.lemmas.List.{length-map, map_push}
use Rattle.std.specs.Option.{option_map}
use Rattle.cidr_sets.specs.internal.Steps.{IsIntersectionStep}
use Rattle.cidr_sets.proofs.Joining.{by_none}
use Rattle.cidr_sets.proofs.Steps.{IsSharing, none_of, sharing_all, sharing_more, sharing_none, sharing_same}
use Rattle.cidr_sets.proofs.merging.write_shared.Goals as goal

pub loop-shared-init : goal.loop-shared-init
loop-shared-init g c =
    let f = g.C.BitString.bits in (
      rw c.requires.none (sharing_none (map f c.args.these.now) (map f c.args.those.now) c.requires.these.ascending c.requires.those.ascending),
      c.requires.room,
      g.met.O.Writable.stay c.args.out.now,
    )

pub put-requires : goal.put-requires
put-requires g c =
    let f = g.C.BitString.bits in
    let l = c.loop-shared in
    omega (
      arith,
      l.invariant.0.fits,
      l.invariant.1,
      c.in-Some.ensures.fewer,
      c.in-Some.ensures.some,
      length-map c.args.these.now f,
      length-map c.args.those.now f,
    )

pub loop-shared-preserved-in-Some-shared : goal.loop-shared-preserved-in-Some-shared
loop-shared-preserved-in-Some-shared g c =
    let f = g.C.BitString.bits in
    let l = c.loop-shared in
    let these = map f c.args.these.now in
    let those = map f c.args.those.now in
    let xs = g.O.Writable.written l.out in
    let x = c.in-Some-shared.network in
    let bs = map f c.in-Some.behind.now in
    let us = map f c.in-Some.rest.now in
    let step : IsIntersectionStep (map f l.left.now) (map f l.right.now) (Some (f x)) bs us =
    subst (λ o. IsIntersectionStep (map f l.left.now) (map f l.right.now) (option_map f o) bs us) c.in-Some-shared.is c.in-Some.ensures in
    let more : IsSharing these those (length (xs ++ x ∷ [])) (map f (xs ++ x ∷ [])) bs us =
    rw (length-append xs (x ∷ []), map_push f xs x) (sharing_more these those (length xs) (map f xs) (map f l.left.now) (map f l.right.now) bs us
    l.invariant.0 (f x) step) in (
      subst (λ ys. IsSharing these those (length ys) (map f ys) bs us) (sym c.put.ensures.written) more,
      omega (arith, l.invariant.1, c.put.ensures.room),
      g.met.O.Writable.follow _ _ _ l.invariant.2 c.put.ensures.one,
    )

pub loop-shared-preserved : goal.loop-shared-preserved
loop-shared-preserved g c =
    let f = g.C.BitString.bits in
    let l = c.loop-shared in
    let xs = g.O.Writable.written l.out in
    let none : c.in-Some.shared ≡ None = none_of c.in-Some.shared c.in_default-shared.not-Some in (
      sharing_same (map f c.args.these.now) (map f c.args.those.now) (length xs) (map f xs) (map f l.left.now) (map f l.right.now)
          (map f c.in-Some.behind.now) (map f c.in-Some.rest.now) l.invariant.0 (option_map f c.in-Some.shared) (ap (option_map f) none)
          c.in-Some.ensures,
      l.invariant.1,
      l.invariant.2,
    )

pub returns-clause-set : goal.returns-clause-set
returns-clause-set g c =
    let f = g.C.BitString.bits in
    let l = c.loop-shared in
    let xs = g.O.Writable.written l.out in
    let none : (length l.left.now ≡ 0) ⊎ (length l.right.now ≡ 0) =
    by_none c.next_shared.result ((length l.left.now ≡ 0) ⊎ (length l.right.now ≡ 0)) _ c.in_default.not-Some c.next_shared.ensures in
    sharing_all (map f c.args.these.now) (map f c.args.those.now) (length xs) (map f xs) (map f l.left.now) (map f l.right.now)
    c.requires.these c.requires.those l.invariant.0
    (elim none [
      | inl e ↦ inl (omega (arith, e, length-map l.left.now f))
      | inr e ↦ inr (omega (arith, e, length-map l.right.now f))
    ])
