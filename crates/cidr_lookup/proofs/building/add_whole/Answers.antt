use Rattle.std.proofs.Common.{◌≡◌, sym, subst, ◌∙◌, arith, inl, inr, ℕ, ◌+◌, ◌-◌, ◌*◌, ◌^◌, ◌<◌, ◌≤◌, ◌++◌, get_or, length, map, replicate}
use Rattle.std.proofs.lemmas.Bool.{cases_lt}
use Rattle.std.proofs.lemmas.List.{get_or_append_left, get_or-append_right, get_or-replicate, length-map}
use Rattle.cidr_lookup.specs.Keys.{key_networks}
use Rattle.cidr_lookup.specs.Putting.{AllHave}
use Rattle.cidr_lookup.specs.Tables.{IsAnswer}
use Rattle.cidr_lookup.proofs.Numbers.{length_networks}
use Rattle.cidr_lookup.proofs.Blocks.{first_part, later, part_fits}
use Rattle.cidr_lookup.proofs.BlockAnswers.{whole}
use Rattle.cidr_lookup.proofs.building.add_whole.Goals as goal

pub part_of_next-end-requires-clause-behind : goal.part_of_next-end-requires-clause-behind
part_of_next-end-requires-clause-behind g c = λ more.
    omega (arith, c.last_upto-range.ensures.next more, first_part c.args.steps c.args.block c.requires.some, later c.args.steps c.args.block 0 c.loop-part.part (omega arith))

pub loop-part-preserved : goal.loop-part-preserved
loop-part-preserved g c =
    let w = g.A.Address.width in
    let padding = g.A.Address.padding in
    let networks = key_networks g.A.Address.value c.args.keys.now in
    let starts = map g.A.Address.value c.args.starts.now in
    let steps = c.args.steps in
    let block = c.args.block in
    let part = c.loop-part.part in
    let end = c.part_of_next-end.result in
    let k = c.last_upto-range.result in
    let answer = get_or c.args.answers.now k 0 in
    let h = c.loop-part.invariant in
    let size : length starts ≡ length c.args.starts.now = length-map c.args.starts.now g.A.Address.value in
    let all : (i : ℕ) → part ≤ i → i < end → AllHave (IsAnswer w padding networks) (steps - 1) (block * 64 + i) answer = λ i low l.
    whole w padding networks starts c.args.answers.now c.requires.ranges (steps - 1) (block * 64 + i) k
    (part_fits steps block i (2 ^ (w + padding)) c.requires.some (omega (arith, l, c.part_of_next-end.ensures.parts)) c.requires.block)
    (omega (arith, c.last_upto-range.ensures.within, size)) (omega (arith, c.last_upto-range.ensures.upto, later steps block part i low))
    (omega (arith, c.requires.few, length_networks g.A.Address.value c.args.keys.now)) (λ more. c.part_of_next-end.ensures.before i l (omega (arith, more, size))) in
    record {
      from = omega (arith, h.from, c.if-end-part.false);
      parts = c.part_of_next-end.ensures.parts;
      near = c.last_upto-range.ensures.within;
      upto = omega (arith, c.last_upto-range.ensures.upto, later steps block part end (omega (arith, c.if-end-part.false)));
      some = (h.some.0 ++ replicate (end - part) answer, c.add.ensures h.some.0 h.some.1);
      runs = λ before are.
          let old = h.runs before are in
          let more = replicate (end - part) answer in
          let left : (i : ℕ) → i < part → get_or (old.0 ++ more) i 0 ≡ get_or old.0 i 0 = λ i l. get_or_append_left old.0 more 0 i (omega (arith, l, old.1.parts)) in (
            old.0 ++ more,
            c.add.ensures old.0 old.1,
            λ i l. left i (omega (arith, l, h.from)) ∙ old.2 i l,
            λ i low l. elim (cases_lt i part) [
              | inl less ↦ subst (λ a. AllHave (IsAnswer w padding networks) (steps - 1) (block * 64 + i) a) (sym (left i less)) (old.3 i low less)
              | inr ge ↦ subst (λ a. AllHave (IsAnswer w padding networks) (steps - 1) (block * 64 + i) a)
                  (sym (get_or-append_right old.0 more part i 0 old.1.parts ge ∙ get_or-replicate (end - part) (i - part) answer 0 (omega (arith, ge, l)))) (all i ge l)
            ],
          );
    }
