use Rattle.std.proofs.Common.{◌≡◌, Bool, true, false, List, [], ◌∷◌, length, map, sym, ap, ◌∙◌}
use Rattle.cidr_sets.specs.model.Ranges.{joined_ranges, touches}
use Rattle.cidr_sets.proofs.Joining.{by_none, no_ranges, nothing, progress_front}
use Rattle.cidr_sets.proofs.Runs.{begun, begun_end, begun_last, begun_more, begun_self}
use Rattle.cidr_sets.proofs.ranges.RangesIterator.next.Goals as goal
use Rattle.cidr_sets.proofs.ranges.RangesIterator.next.Goals.{in-Some+then-not-touches, in_default}

pub returns-in_err-first-clause-steps : goal.returns-in_err-first-clause-steps
returns-in_err-first-clause-steps g c =
    let none : c.args.self.now ≡ [] = sym c.self.view_is ∙ no_ranges g.C.Addressed.first_bits g.C.Addressed.last_bits g.C.BitString.bits
    c.self.inside.networks.now c.in_err-first.ensures.cases in
    rw c.from_residual.ensures (none, none)

pub loop-next-preserved : goal.loop-next-preserved
loop-next-preserved g c =
    let f = g.C.BitString.bits in
    let l = c.loop-next in
    let first = f c.in_ok-first.first.now in
    let last = f l.last.now in
    let touch : touches last (f c.in-Some.next.now) ≡ true = sym c.touches.ensures ∙ c.if-not-touches.false in
    l.invariant ∙ ap (λ ys. begun first (joined_ranges (last ∷ map f ys))) c.in-Some.ensures.cases.0
    ∙ begun_more first last (f c.in-Some.next.now) (map f c.in-Some.rest.now) touch

pub returns-clause-steps : goal.returns-clause-steps
returns-clause-steps g c =
    let f = g.C.BitString.bits in
    let F = g.C.Addressed.first_bits in
    let L = g.C.Addressed.last_bits in
    let l = c.loop-next in
    let first = f c.in_ok-first.first.now in
    let last = f l.last.now in
    let behind = l.behind.now in
    let end : begun first (joined_ranges (last ∷ map f behind)) ≡ (first, last) ∷ joined_ranges (map f behind) = elim c.match-split_first.branch [
      | in-Some+then-not-touches w ↦
          let next = f w.in-Some.next.now in
          let rest = map f w.in-Some.rest.now in
          let split = w.in-Some.ensures.cases.0 in
          let apart : touches last next ≡ false = sym w.touches.ensures ∙ w.if-not-touches.true in
          ap (λ ys. begun first (joined_ranges (last ∷ map f ys))) split ∙ begun_end first last next rest apart
          ∙ sym (ap (λ ys. (first, last) ∷ joined_ranges (map f ys)) split)
      | in_default w ↦
          let none : behind ≡ [] = nothing behind
          (by_none c.split_first-in-loop-next.result (length behind ≡ 0) _ w.in_default.not-Some c.split_first-in-loop-next.ensures.cases) in
          ap (λ ys. begun first (joined_ranges (last ∷ map f ys))) none ∙ begun_last first last
          ∙ sym (ap (λ ys. (first, last) ∷ joined_ranges (map f ys)) none)
    ] in
    let whole : joined_ranges (map f c.self.inside.networks.now) ≡ (first, last) ∷ joined_ranges (map f behind) =
    ap (λ xs. joined_ranges (map f xs)) c.in_ok-first.ensures.cases.0 ∙ begun_self first (map f c.in_ok-first.behind.now) ∙ l.invariant ∙ end in
    rw (c.lowest.ensures, c.highest.ensures)
    (sym c.self.view_is ∙ ap (map (λ (r : List Bool × List Bool). (F r.0, L r.1))) whole)

pub returns-clause-goes : goal.returns-clause-goes
returns-clause-goes g c =
    progress_front (λ r. (g.C.Addressed.address_bits r.first, g.C.Addressed.address_bits r.last)) (λ s. tt) c.args.self.now
    _ (record { first = c.lowest.result; last = c.highest.result }) (returns-clause-steps g c)
