use Rattle.std.proofs.Common.{◌≡◌, ◌⊎◌, ℕ, ◌+◌, ◌<◌, ◌≤◌, Bool, List, length, get_or, take, drop, map, sym, subst, arith, inl, inr}
use Rattle.std.proofs.lemmas.Bool.{cases_lt}
use Rattle.std.proofs.lemmas.Bool.Decides.{not_from_Decides}
use Rattle.std.proofs.lemmas.List.{drop-map, get_or-map, length-map, take-map}
use Rattle.cidr.specs.model.Network.{BeginsWith}
use Rattle.cidr_sets.specs.internal.Edits.{IsParted}
use Rattle.cidr_sets.proofs.Parts.{parted_inside}
use Rattle.cidr_sets.proofs.neighbours.inside_of.Goals as goal

-- one more of them
more : (s : List (List Bool)) (p : List Bool) (start end : ℕ)
    → ((i : ℕ) → start ≤ i → i < end → BeginsWith (get_or s i p) p) → BeginsWith (get_or s end p) p
    → (i : ℕ) → start ≤ i → i < end + 1 → BeginsWith (get_or s i p) p
more s p start end h here i le lt = elim (cases_lt i end) [
  | inl low ↦ h i le low
  | inr high ↦ (let is : end ≡ i = omega arith in subst (λ k. BeginsWith (get_or s k p) p) is here)
]

pub loop-end-preserved : goal.loop-end-preserved
loop-end-preserved g c =
    let f = g.C.BitString.bits in
    let l = c.loop-end in
    let xs = c.args.networks.now in
    let told = c.is_inside_at.ensures.0 c.loop-end-test.true in
    record {
      order = omega (arith, l.invariant.order);
      within = omega (arith, told.0);
      inside = more (map f xs) (f c.args.outer.now) c.upto-start.result l.end l.invariant.inside
          (subst (λ y. BeginsWith y (f c.args.outer.now)) (sym (get_or-map f xs l.end c.args.outer.now (f c.args.outer.now) told.0)) told.1);
    }

pub returns-clause-parted : goal.returns-clause-parted
returns-clause-parted g c =
    let f = g.C.BitString.bits in
    let l = c.loop-end in
    let xs = c.args.networks.now in
    let p = f c.args.outer.now in
    let start = c.upto-start.result in
    let none = not_from_Decides c.is_inside_at.result c.is_inside_at.ensures c.loop-end-test.false in
    let last : (length (map f xs) ≤ l.end) ⊎ ¬ (BeginsWith (get_or (map f xs) l.end p) p) = elim (cases_lt l.end (length xs)) [
      | inl lt ↦ inr (λ b. none (lt, subst (λ y. BeginsWith y p) (get_or-map f xs l.end c.args.outer.now p lt) b))
      | inr le ↦ inl (omega (arith, le, length-map xs f))
    ] in
    let parted = parted_inside (map f xs) c.requires.reduced p c.requires.apart start c.upto-start.ensures.index l.end
    l.invariant.order (omega (arith, l.invariant.within, length-map xs f)) l.invariant.inside last in
    subst (λ u. IsParted (map f xs) p u (map f (drop l.end xs))) (take-map f start xs)
    (subst (IsParted (map f xs) p (take start (map f xs))) (drop-map f l.end xs) parted)
