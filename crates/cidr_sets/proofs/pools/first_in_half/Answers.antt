use Rattle.std.proofs.Common.{◌≡◌, Bool, List, [], ◌∷◌, ◌++◌, ap, ◌∙◌, subst, arith}
use Rattle.cidr_sets.specs.model.Pools.{IsRoom}
use Rattle.cidr_sets.proofs.Free.{lowest_free, too_deep, too_long}
use Rattle.cidr_sets.proofs.pools.first_in_half.Goals as goal
use Rattle.cidr_sets.proofs.pools.first_in_half.Goals.{else-len-gt0-via-then-len-gt0+else-len-room, else-len-gt0-via-else-len-gt0}

pub returns-then-len-room : goal.returns-then-len-room
returns-then-len-room g c =
    let one = c.args.upper ∷ [] in
    let is : g.C.BitString.bits c.append.new.self ≡ one = c.append.ensures.bits ∙ ap (λ (x : List Bool). x ++ one) c.null-half.ensures.bits in
    lowest_free g.C.PoolNetwork.IsNetwork c.args.len one (g.C.BitString.bits c.lowest.result)
    (omega (arith, c.if-len-gt0.true)) (rw is at c.lowest.ensures)

pub returns-else-len-gt0 : goal.returns-else-len-gt0
returns-else-len-gt0 g c p h =
    let one = c.args.upper ∷ [] in
    let half = c.append.new.self in
    let is : g.C.BitString.bits c.append.new.self ≡ one = c.append.ensures.bits ∙ ap (λ (x : List Bool). x ++ one) c.null-half.ensures.bits in
    let room = g.C.BitString.room half in
    let N = g.C.PoolNetwork.IsNetwork in
    elim c.else-len-gt0.branch [
      | else-len-gt0-via-then-len-gt0+else-len-room w ↦
          too_deep N c.args.len one room (subst (λ q. IsRoom N q room) is (g.met.C.PoolNetwork.deepest half)) (omega arith)
          (omega (arith, w.if-len-room.false, w.room.ensures.value)) p h
      | else-len-gt0-via-else-len-gt0 w ↦ too_long N c.args.len one (omega (arith, w.if-len-gt0.false)) p h
    ]
