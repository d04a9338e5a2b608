use Rattle.std.proofs.Common.{◌≡◌, ℕ, ◌+◌, ◌/◌, ◌<◌, Bool, List, length, get_or, map, sym, ap, ◌∙◌, arith}
use Rattle.std.proofs.lemmas.List.{get_or-map, length-map}
use Rattle.std.specs.declared.cmp.Ordering.{Ordering}
use Rattle.cidr.specs.model.Bits.{bit_cmp}
use Rattle.cidr_sets.proofs.Halves.{is_behind, is_upto, narrowed_lower, narrowed_upper}
use Rattle.cidr_sets.proofs.search.index.Goals as goal

-- what a comparison with one of them returns
compared : {C : Type 0} (f : C → List Bool) (cmp : C → C → Ordering) → ((x y : C) → cmp x y ≡ bit_cmp (f x) (f y)) → (xs : List C) (k : C)
    (i : ℕ) (r : Ordering) → i < length xs → r ≡ cmp (get_or xs i k) k → bit_cmp (get_or (map f xs) i (f k)) (f k) ≡ r
compared f cmp ordered xs k i r within e =
    ap (λ x. bit_cmp x (f k)) (get_or-map f xs i k (f k) within) ∙ sym (ordered (get_or xs i k) k) ∙ sym e

pub loop-left-preserved-then-is_le : goal.loop-left-preserved-then-is_le
loop-left-preserved-then-is_le g c =
    let f = g.C.BitString.bits in
    let l = c.loop-left in
    let h = l.invariant.narrowed in
    let xs = g.P.Probe.keys c.args.networks.now in
    let k = c.args.network.now in
    let within : l.low + l.left / 2 < length xs = omega (arith, h.within, length-map xs f, c.loop-left-test.true) in
    let told = compared f g.C.Ord.cmp g.met.C.NetworkBits.ordered xs k (l.low + l.left / 2) c.compare-order.result within
    (rw l.invariant.same at c.compare-order.ensures.answer) in
    record {
      same = c.compare-order.ensures.keys ∙ l.invariant.same;
      narrowed = rw c.compare-order.ensures.count (narrowed_upper (map f xs) (f k) c.requires.ascending (g.P.Probe.count c.args.networks.now)
          (g.P.Probe.count l.networks) l.low l.left (l.left / 2) h c.loop-left-test.true (omega arith) (omega arith)
          (λ e. is_upto c.compare-order.result (sym c.if-is_le.ensures) (sym told ∙ e)));
    }

pub loop-left-preserved : goal.loop-left-preserved
loop-left-preserved g c =
    let f = g.C.BitString.bits in
    let l = c.loop-left in
    let h = l.invariant.narrowed in
    let xs = g.P.Probe.keys c.args.networks.now in
    let k = c.args.network.now in
    let within : l.low + l.left / 2 < length xs = omega (arith, h.within, length-map xs f, c.loop-left-test.true) in
    let told = compared f g.C.Ord.cmp g.met.C.NetworkBits.ordered xs k (l.low + l.left / 2) c.compare-order.result within
    (rw l.invariant.same at c.compare-order.ensures.answer) in
    record {
      same = c.compare-order.ensures.keys ∙ l.invariant.same;
      narrowed = rw c.compare-order.ensures.count (narrowed_lower (map f xs) (f k) c.requires.ascending (g.P.Probe.count c.args.networks.now)
          (g.P.Probe.count l.networks) l.low l.left (l.left / 2) h c.loop-left-test.true (omega arith) (omega arith)
          (told ∙ is_behind c.compare-order.result (sym c.if-is_le.ensures)));
    }
