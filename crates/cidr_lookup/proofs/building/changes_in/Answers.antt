use Rattle.std.proofs.Common.{◌≡◌, sym, ap, ◌∙◌, arith, inl, inr, ℕ, ◌+◌, ◌*◌, ◌/◌, ◌%◌, ◌^◌, ◌<◌, ◌≤◌, length, map, get_or}
use Rattle.std.proofs.lemmas.Bool.{cases_eq, cases_lt, iff_false}
use Rattle.std.proofs.lemmas.List.{length-map}
use Rattle.std.proofs.lemmas.Nat.{pow_pos}
use Rattle.cidr_lookup.specs.Keys.{key_networks}
use Rattle.cidr_lookup.proofs.Blocks.{no_rest}
use Rattle.cidr_lookup.proofs.ListAnswers.{has_list, no_list}
use Rattle.cidr_lookup.proofs.Numbers.{length_networks}
use Rattle.cidr_lookup.proofs.building.changes_in.Goals as goal

pub loop-count-init : goal.loop-count-init
loop-count-init g c = record {
  few = omega arith;
  within = omega (arith, c.requires.more);
  each = λ j lt le. absurd (omega arith);
}

-- a list has few steps
pub returns-then-steps-gt-MOST_LIST_STEPS-clause-none : goal.returns-then-steps-gt-MOST_LIST_STEPS-clause-none
returns-then-steps-gt-MOST_LIST_STEPS-clause-none g c = λ one. omega (arith, one.2.3, c.if-steps-gt-MOST_LIST_STEPS.true)

pub overflow_add-range : goal.overflow_add-range
overflow_add-range g c = omega (arith, c.loop-count.invariant.within, c.loop-count.invariant.few, c.ranges.range)

pub is_whole-requires-clause-range : goal.is_whole-requires-clause-range
is_whole-requires-clause-range g c = c.loop-count.invariant.within

-- where another range begins in the block
begins : (next long block at : ℕ) → ((next < long → block < at) → ⊥) → (next < long) × (at ≤ block)
begins next long block at other = elim (cases_lt next long) [
  | inl more ↦ elim (cases_lt block at) [
    | inl less ↦ absurd (other (λ _. less))
    | inr not_less ↦ (more, omega (arith, not_less))
  ]
  | inr past ↦ absurd (other (λ more. absurd (omega (arith, past, more))))
]

pub returns-then-count-gt-MOST_CHANGES-clause-none : goal.returns-then-count-gt-MOST_CHANGES-clause-none
returns-then-count-gt-MOST_CHANGES-clause-none g c =
    let starts = map g.A.Address.value c.args.starts.now in
    let size : length starts ≡ length c.args.starts.now = length-map c.args.starts.now g.A.Address.value in
    let j = c.args.range + c.loop-count.count + 1 in
    let at = begins j (length c.args.starts.now) c.args.block (get_or starts j 0 * 2 ^ g.A.Address.padding / 2 ^ (6 * c.args.steps)) (iff_false c.is_whole.ensures c.loop-count-test.true) in
    no_list g.A.Address.width g.A.Address.padding (key_networks g.A.Address.value c.args.keys.now) starts c.args.answers.now c.requires.ranges
    (omega (arith, c.requires.few, length_networks g.A.Address.value c.args.keys.now)) c.requires.keys c.args.steps c.args.block c.args.range j c.requires.block c.requires.upto c.requires.next (omega arith)
    (omega (arith, at.0, size)) at.1 (inr (omega (arith, c.if-count-gt-MOST_CHANGES.true)))

pub returns-then-rest_of-ne0-clause-none : goal.returns-then-rest_of-ne0-clause-none
returns-then-rest_of-ne0-clause-none g c =
    let starts = map g.A.Address.value c.args.starts.now in
    let size : length starts ≡ length c.args.starts.now = length-map c.args.starts.now g.A.Address.value in
    let j = c.args.range + c.loop-count.count + 1 in
    let e : c.args.range + (c.loop-count.count + 1) ≡ j = omega arith in
    let at = begins j (length c.args.starts.now) c.args.block (get_or starts j 0 * 2 ^ g.A.Address.padding / 2 ^ (6 * c.args.steps)) (iff_false c.is_whole.ensures c.loop-count-test.true) in
    no_list g.A.Address.width g.A.Address.padding (key_networks g.A.Address.value c.args.keys.now) starts c.args.answers.now c.requires.ranges
    (omega (arith, c.requires.few, length_networks g.A.Address.value c.args.keys.now)) c.requires.keys c.args.steps c.args.block c.args.range j c.requires.block c.requires.upto c.requires.next (omega arith)
    (omega (arith, at.0, size)) at.1 (inl (λ none. c.if-rest_of-ne0.true (no_rest c.rest_of.result (2 ^ g.A.Address.padding) (pow_pos g.A.Address.padding)
    (c.rest_of.ensures ∙ (ap (λ i. get_or starts i 0 * 2 ^ g.A.Address.padding % 2 ^ 82) e ∙ none)))))

pub loop-count-smaller : goal.loop-count-smaller
loop-count-smaller g c = omega (arith, c.if-count-gt-MOST_CHANGES.false, c.loop-count.invariant.few)

pub loop-count-preserved : goal.loop-count-preserved
loop-count-preserved g c =
    let starts = map g.A.Address.value c.args.starts.now in
    let count = c.loop-count.count in
    let j = c.args.range + count + 1 in
    let e : c.args.range + (count + 1) ≡ j = omega arith in
    let at = begins j (length c.args.starts.now) c.args.block (get_or starts j 0 * 2 ^ g.A.Address.padding / 2 ^ (6 * c.args.steps)) (iff_false c.is_whole.ensures c.loop-count-test.true) in
    record {
      few = omega (arith, c.if-count-gt-MOST_CHANGES.false);
      within = omega (arith, at.0);
      each = λ i lt le. elim (cases_eq i j) [
        | inl same ↦ (
          ap (λ k. get_or starts k 0 * 2 ^ g.A.Address.padding % 2 ^ 82) (same ∙ sym e) ∙ (sym c.rest_of.ensures ∙ (ap (λ r. r * 2 ^ g.A.Address.padding) c.if-rest_of-ne0.false ∙ omega arith)),
          omega (arith, ap (λ k. get_or starts k 0 * 2 ^ g.A.Address.padding / 2 ^ (6 * c.args.steps)) same, at.1),
        )
        | inr other ↦ c.loop-count.invariant.each i lt (omega arith)
      ];
    }

pub returns-clause-some : goal.returns-clause-some
returns-clause-some g c =
    let starts = map g.A.Address.value c.args.starts.now in
    let size : length starts ≡ length c.args.starts.now = length-map c.args.starts.now g.A.Address.value in
    let count = c.loop-count.count in
    let next : ℕ → ℕ = λ (n : ℕ). get_or starts (c.args.range + n + 1) 0 * 2 ^ g.A.Address.padding / 2 ^ (6 * c.args.steps) in
    let whole = c.is_whole.ensures.0 c.loop-count-test.false in
    let some : 0 < count = elim (cases_eq count 0) [
      | inl none ↦
          let first : c.args.range + count + 1 ≡ c.args.range + 1 = omega arith in
          absurd (omega (arith, whole (omega (arith, first, c.requires.more)), ap (λ i. get_or starts i 0 * 2 ^ g.A.Address.padding / 2 ^ (6 * c.args.steps)) first, c.requires.inner))
      | inr other ↦ omega arith
    ] in (
      c.loop-count.invariant.within,
      has_list g.A.Address.width g.A.Address.padding (key_networks g.A.Address.value c.args.keys.now) starts c.args.answers.now c.requires.ranges
          (omega (arith, c.requires.few, length_networks g.A.Address.value c.args.keys.now)) c.args.steps c.args.block c.args.range count
          (omega (arith, size, c.loop-count.invariant.within)) some (omega (arith, c.loop-count.invariant.few)) (omega (arith, c.if-steps-gt-MOST_LIST_STEPS.false)) c.requires.block c.requires.upto c.requires.next
          c.loop-count.invariant.each (λ l. whole (omega (arith, size, l))),
    )
