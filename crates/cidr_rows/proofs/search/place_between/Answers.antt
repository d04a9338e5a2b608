use Rattle.std.proofs.Common.{arith, ◌/◌}
use Rattle.cidr_rows.proofs.Halving.{right, left_half}
use Rattle.cidr_rows.proofs.search.place_between.Goals as goal

pub loop-left-preserved-then-is_lt : goal.loop-left-preserved-then-is_lt
loop-left-preserved-then-is_lt g c =
    let h = c.loop-left.invariant in
    let keys = g.K.Keys.keys c.args.rows.now in
    let key = c.args.key.now in
    let low = c.loop-left.low in
    let left = c.loop-left.left in
    record {
      within = omega (arith, h.within);
      told = λ f. omega (arith, h.told f);
      narrow = λ s b.
          right g.C.Ord.cmp g.met.C.Ord.total keys s key c.args.end low left (left / 2) c.loop-left.found c.requires.end h.within (h.narrow s b)
          (omega arith) (omega arith) (omega arith) c.key.result (c.key.ensures key)
          c.cmp-order.result c.cmp-order.ensures c.if-is_lt.ensures;
    }

pub loop-left-preserved : goal.loop-left-preserved
loop-left-preserved g c =
    let h = c.loop-left.invariant in
    let keys = g.K.Keys.keys c.args.rows.now in
    let key = c.args.key.now in
    let low = c.loop-left.low in
    let left = c.loop-left.left in
    record {
      within = omega (arith, h.within);
      told = λ f. omega (arith, h.within);
      narrow = λ s b. rw c.is_eq-found.ensures (
          left_half g.C.Ord.cmp g.met.C.Ord.total keys s key c.args.end low left (left / 2) c.loop-left.found c.requires.end h.within (h.narrow s b)
          (omega arith) (omega arith) (omega arith) c.key.result (c.key.ensures key)
          c.cmp-order.result c.cmp-order.ensures c.if-is_lt.ensures);
    }
