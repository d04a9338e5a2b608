use Rattle.std.proofs.Common.{map, ◌∙◌, ap, subst, sym}
use Rattle.std.proofs.lemmas.List.{take_all}
use Rattle.std.proofs.lemmas.List.Filters.{dedup_is}
use Rattle.std.specs.List.{Contains}
use Rattle.cidr_sets.proofs.Deciding.{sorted_once}
use lib.Dec.{eqb}
use Rattle.cidr_sets.proofs.decisions.indices_of.Goals as goal

pub returns-clause-indices : goal.returns-clause-indices
returns-clause-indices g c j =
    let l = c.loop-row in
    let all = l.invariant ∙ ap (map (λ row. row.1)) (take_all l.row-index c.args.rows.now c.loop-row-test.false) in
    let once = sorted_once l.out.items c.sort_unstable.new.self.items c.dedup.new.self.items c.sort_unstable.ensures.permutation
    c.sort_unstable.ensures.sorted (dedup_is eqb c.sort_unstable.new.self.items c.dedup.new.self.items c.dedup.ensures.filtered) in
    (λ k. subst (λ xs. Contains xs j) all ((once.0 j).0 k), λ k. (once.0 j).1 (subst (λ xs. Contains xs j) (sym all) k))

pub returns-clause-ascending : goal.returns-clause-ascending
returns-clause-ascending g c =
    (sorted_once c.loop-row.out.items c.sort_unstable.new.self.items c.dedup.new.self.items c.sort_unstable.ensures.permutation
    c.sort_unstable.ensures.sorted (dedup_is eqb c.sort_unstable.new.self.items c.dedup.new.self.items c.dedup.ensures.filtered)).1
