-- The closure says of each network whether the set has it.
use Rattle.std.proofs.Common.{ℕ, ◌<◌, length, map, subst, rules, tests}
use Rattle.std.proofs.lemmas.Grind.{common_steps}
use Rattle.std.proofs.lemmas.Iterator.{cases_from_all, YieldsList-from_slice}
use Rattle.std.proofs.lemmas.Iterator.Search.{true_from_All}
use Rattle.std.proofs.lemmas.List.Elements.{All-from_all_within}
use Rattle.std.specs.Bool.{MatchBool}
use Rattle.std.specs.List.{AllWithin, HoldsAt}
use Rattle.cidr_table.specs.model.Cover.{Covers}
use Rattle.cidr_uses.proofs.ready_sets.are_in.Goals as goal

pub returns : goal.returns
returns g c =
    let f = g.C.BitString.bits in
    let asked = c.args.asked.now in
    let Held : g.row.C.Denot → Type 0 = λ x. Covers (map f c.args.ready.now) (f x) in
    let Missing : g.row.C.Denot → Type 0 = λ x. ¬ (Covers (map f c.args.ready.now) (f x)) in
    let told : MatchBool c.all.result (AllWithin Held asked 0 (length asked)) ((k : ℕ) × (k < length asked) × HoldsAt Missing asked k) =
    cases_from_all _ _ c.all.result Held Missing c.all.ensures.ran (YieldsList-from_slice asked cc)
    (λ x q k. search (rules, tests))
    (λ x q k. first_of (search (rules, tests), grind (tests, common_steps))) in (
      λ t. All-from_all_within Held asked (subst (λ b. MatchBool b (AllWithin Held asked 0 (length asked)) ((k : ℕ) × (k < length asked) × HoldsAt Missing asked k)) t told),
      true_from_All Held Missing c.all.result asked (λ x h n. n h) told,
    )
