use Rattle.std.proofs.Common.{◌≡◌, ◌≤◌, ◌+◌, ◌-◌, ◌∷◌, sym, ◌∙◌, ap, subst, arith, length, take, drop}
use Rattle.std.proofs.lemmas.Bool.{true≢false}
use Rattle.std.proofs.lemmas.List.{take_all, length-drop}
use Rattle.std.specs.List.Sorted.{IsStrictlySortedBy}
use Rattle.std.specs.Map.{keys_of}
use Rattle.cidr_table.specs.internal.Places.{matching}
use Rattle.cidr_table.proofs.Insides.{sorted_drop}
use Rattle.cidr_table.proofs.Reached.{is_above}
use Rattle.cidr_table.proofs.Matching.{matching_first, matching_other, sorted_behind, none_from, passed_over}
use Rattle.cidr_table.proofs.table.matches.first_match.Goals as goal

pub returns-then-is_inside : goal.returns-then-is_inside
returns-then-is_inside g c =
    let a = g.C.BitString.bits c.args.asked.now in
    let row = c.in-Some.row.now in
    let behind = c.in-Some.behind.now in
    let sorted : IsStrictlySortedBy g.C.Ord.cmp (keys_of (row ∷ behind)) = subst (λ t. IsStrictlySortedBy g.C.Ord.cmp (keys_of t)) c.in-Some.ensures.cases.0 c.loop-row.invariant.1 in (
      c.loop-row.invariant.0 ∙ (ap (λ t. matching g.C.BitString.bits a t) c.in-Some.ensures.cases.0 ∙ matching_first g.C.BitString.bits a row behind
          (c.is_inside.ensures.0 c.if-is_inside.true)),
      sorted_behind g.C.Ord.cmp g.C.BitString.bits g.met.C.NetworkBits.ordered row behind sorted c.args.asked.now,
    )

pub returns-then-is_gt : goal.returns-then-is_gt
returns-then-is_gt g c =
    let a = g.C.BitString.bits c.args.asked.now in
    let row = c.in-Some.row.now in
    let behind = c.in-Some.behind.now in
    let sorted : IsStrictlySortedBy g.C.Ord.cmp (keys_of (row ∷ behind)) = subst (λ t. IsStrictlySortedBy g.C.Ord.cmp (keys_of t)) c.in-Some.ensures.cases.0 c.loop-row.invariant.1 in
    let above = sym c.cmp.ensures ∙ is_above c.cmp.result (sym c.if-is_gt.true ∙ c.is_gt.ensures) in
    c.loop-row.invariant.0 ∙ (ap (λ t. matching g.C.BitString.bits a t) c.in-Some.ensures.cases.0
    ∙ none_from g.C.Ord.cmp g.C.BitString.bits g.met.C.NetworkBits.ordered row behind sorted c.args.asked.now g.met.C.Ord.total above)

pub lower_bound-requires : goal.lower_bound-requires
lower_bound-requires g c =
    let row = c.in-Some.row.now in
    let behind = c.in-Some.behind.now in
    let sorted : IsStrictlySortedBy g.C.Ord.cmp (keys_of (row ∷ behind)) = subst (λ t. IsStrictlySortedBy g.C.Ord.cmp (keys_of t)) c.in-Some.ensures.cases.0 c.loop-row.invariant.1 in
    sorted_behind g.C.Ord.cmp g.C.BitString.bits g.met.C.NetworkBits.ordered row behind sorted c.args.asked.now

-- on to the rows from the lower bound on
pub loop-row-preserved : goal.loop-row-preserved
loop-row-preserved g c =
    let a = g.C.BitString.bits c.args.asked.now in
    let row = c.in-Some.row.now in
    let behind = c.in-Some.behind.now in
    let i = c.lower_bound.result in
    let sorted : IsStrictlySortedBy g.C.Ord.cmp (keys_of (row ∷ behind)) = subst (λ t. IsStrictlySortedBy g.C.Ord.cmp (keys_of t)) c.in-Some.ensures.cases.0 c.loop-row.invariant.1 in
    let rest : take (length behind - i) (drop i behind) ≡ drop i behind = take_all (length behind - i) (drop i behind) (omega (arith, length-drop i behind)) in
    let most : c.saturating_add.result ≤ c.shared_prefix_len-shared.result + 1 = omega (arith, c.saturating_add.ensures) in
    let other = matching_other g.C.BitString.bits a row behind
    (λ b. true≢false (sym (c.is_inside.ensures.1 b) ∙ c.if-is_inside.false)) in
    let passed = passed_over g.C.Ord.cmp g.C.BitString.bits g.met.C.NetworkBits.ordered row behind sorted c.args.asked.now c.clipped-next.result
    c.shared_prefix_len-shared.result c.saturating_add.result i c.shared_prefix_len-shared.ensures most c.clipped-next.ensures c.lower_bound.ensures in
    let tail = sorted_behind g.C.Ord.cmp g.C.BitString.bits g.met.C.NetworkBits.ordered row behind sorted c.args.asked.now in
    rw rest (
      c.loop-row.invariant.0 ∙ (ap (λ t. matching g.C.BitString.bits a t) c.in-Some.ensures.cases.0 ∙ (other ∙ passed)),
      sorted_drop g.C.Ord.cmp i behind tail,
    )
