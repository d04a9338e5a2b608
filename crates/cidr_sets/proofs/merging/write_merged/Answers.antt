use Rattle.std.proofs.Common.{◌≡◌, ◌+◌, [], ◌∷◌, ◌++◌, length, length-append, map, sym, subst, arith}
use Rattle.std.proofs.lemmas.List.{length-map, map_push}
use Rattle.cidr_sets.proofs.Joining.{by_none}
use Rattle.cidr_sets.proofs.Steps.{IsMerged, merged_all, merged_more, merged_none}
use Rattle.cidr_sets.proofs.merging.write_merged.Goals as goal

pub loop-network-init : goal.loop-network-init
loop-network-init g c =
    let f = g.C.BitString.bits in (
      rw c.requires.none (merged_none (map f c.args.these.now) (map f c.args.those.now) c.requires.these c.requires.those),
      c.requires.room,
      g.met.O.Writable.stay c.args.out.now,
    )

pub put-requires : goal.put-requires
put-requires g c =
    let f = g.C.BitString.bits in
    let l = c.loop-network in
    omega (
      arith,
      l.invariant.0.fits,
      l.invariant.1,
      c.in-Some.ensures.fewer,
      length-map c.args.these.now f,
      length-map c.args.those.now f,
    )

pub loop-network-preserved : goal.loop-network-preserved
loop-network-preserved g c =
    let f = g.C.BitString.bits in
    let l = c.loop-network in
    let these = map f c.args.these.now in
    let those = map f c.args.those.now in
    let xs = g.O.Writable.written l.out in
    let x = c.in-Some.network.now in
    let bs = map f c.in-Some.behind.now in
    let us = map f c.in-Some.rest.now in
    let more : IsMerged these those (length (xs ++ x ∷ [])) (map f (xs ++ x ∷ [])) bs us =
    rw (length-append xs (x ∷ []), map_push f xs x) (merged_more these those (length xs) (map f xs) (map f l.left.now) (map f l.right.now) bs us (f x)
    l.invariant.0 c.in-Some.ensures) in (
      subst (λ ys. IsMerged these those (length ys) (map f ys) bs us) (sym c.put.ensures.written) more,
      omega (arith, l.invariant.1, c.put.ensures.room),
      g.met.O.Writable.follow _ _ _ l.invariant.2 c.put.ensures.one,
    )

pub returns-clause-merge : goal.returns-clause-merge
returns-clause-merge g c =
    let f = g.C.BitString.bits in
    let l = c.loop-network in
    let xs = g.O.Writable.written l.out in
    let none : length l.left.now + length l.right.now ≡ 0 = by_none c.next_of.result (length l.left.now + length l.right.now ≡ 0) _ c.in_default.not-Some c.next_of.ensures in
    record {
      ascend = l.invariant.0.ascend;
      covers = merged_all (map f c.args.these.now) (map f c.args.those.now) (length xs) (map f xs) (map f l.left.now) (map f l.right.now)
          l.invariant.0 (omega (arith, none, length-map l.left.now f, length-map l.right.now f));
    }
