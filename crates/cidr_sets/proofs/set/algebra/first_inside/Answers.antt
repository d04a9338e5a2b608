use Rattle.std.proofs.Common.{◌≡◌, get_or, map, sym, ap, ◌∙◌, subst, arith}
use Rattle.std.proofs.lemmas.Bool.Decides.{not_from_Decides}
use Rattle.std.proofs.lemmas.List.{get_or-map, length-map}
use Rattle.cidr.specs.model.Network.{BeginsWith}
use Rattle.cidr_sets.proofs.Places.{inner_behind}
use Rattle.cidr_sets.proofs.set.algebra.first_inside.Goals as goal
use Rattle.cidr_sets.proofs.set.algebra.first_inside.Goals.{else-index-networks-via-then-index-networks+else-is_inside, else-index-networks-via-else-index-networks}

pub returns-else-index-networks : goal.returns-else-index-networks
returns-else-index-networks g c q d b =
    let f = g.C.BitString.bits in
    let xs = c.args.networks.now in
    let k = c.args.outer.now in
    let index = c.upto-index.result in
    let next = inner_behind (map f xs) (f k) index c.requires.reduced c.upto-index.ensures.index q d b c.requires.apart in
    elim c.else-index-networks.branch [
      | else-index-networks-via-then-index-networks+else-is_inside w ↦
          let x = w.index-networks-index.result in
          let is : get_or (map f xs) index (f k) ≡ f x = get_or-map f xs index x (f k) w.if-index-networks.true
          ∙ ap f (sym w.index-networks-index.is) in
          not_from_Decides w.is_inside.result w.is_inside.ensures w.if-is_inside.false
          (subst (λ y. BeginsWith y (f k)) is next.1)
      | else-index-networks-via-else-index-networks w ↦ omega (arith, next.0, length-map xs f, w.if-index-networks.false)
    ]
