use Rattle.std.proofs.Common.{refl, arith, ◌+◌, ◌/◌, get_or}
use Rattle.std.proofs.lemmas.Bool.{false≢true}
use Rattle.cidr.specs.model.Network.{BeginsWith}
use Rattle.cidr_rows.proofs.ByBits.{sorted_keys}
use Rattle.cidr_rows.proofs.Insides.{between, told}
use Rattle.cidr_rows.proofs.search.covered.Goals as goal

pub loop-left-preserved-then-is_inside : goal.loop-left-preserved-then-is_inside
loop-left-preserved-then-is_inside g c =
    let h = c.loop-left.invariant in
    let keys = g.K.Keys.keys c.args.rows.now in
    let outer = c.args.outer.now in
    let mid = c.loop-left.to + c.loop-left.left / 2 in
    let here : BeginsWith (g.C.BitString.bits (get_or keys mid outer)) (g.C.BitString.bits outer) = rw (c.key.ensures outer) (c.if-is_inside.ensures.0 refl) in
    record {
      from = omega (arith, h.from);
      within = omega (arith, h.within);
      inside = λ s j a l.
          between g.C.Ord.cmp g.C.BitString.bits g.met.C.NetworkBits.ordered keys s outer c.lower_bound-from.result (c.lower_bound-from.ensures.index s)
          j mid a (omega arith) (omega (arith, h.within)) here;
      behind = λ s j a l. h.behind s j (omega arith) l;
    }

pub loop-left-preserved : goal.loop-left-preserved
loop-left-preserved g c =
    let h = c.loop-left.invariant in
    let keys = g.K.Keys.keys c.args.rows.now in
    let outer = c.args.outer.now in
    let mid = c.loop-left.to + c.loop-left.left / 2 in
    let other : ¬ (BeginsWith (g.C.BitString.bits (get_or keys mid outer)) (g.C.BitString.bits outer)) =
    λ x. false≢true (c.if-is_inside.ensures.1 (rw (c.key.ensures outer) at x)) in
    record {
      from = h.from;
      within = omega (arith, h.within);
      inside = h.inside;
      behind = λ s j a l inner. other (
          between g.C.Ord.cmp g.C.BitString.bits g.met.C.NetworkBits.ordered keys s outer c.lower_bound-from.result (c.lower_bound-from.ensures.index s)
          mid j (omega (arith, h.from)) a l inner);
    }

pub returns-clause-inside : goal.returns-clause-inside
returns-clause-inside g c = λ by_bits.
    let h = c.loop-left.invariant in
    let keys = g.K.Keys.keys c.args.rows.now in
    let s = sorted_keys g.C.Ord.cmp g.C.BitString.bits g.met.C.NetworkBits.ordered keys by_bits in
    told g.C.Ord.cmp g.C.BitString.bits g.met.C.NetworkBits.ordered keys s c.args.outer.now c.lower_bound-from.result
    (c.lower_bound-from.ensures.index s) c.loop-left.to (h.inside s) (λ j a l. h.behind s j (omega arith) l)
