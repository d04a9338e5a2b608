use Rattle.std.proofs.Common.{◌≡◌, ◌≢◌, ℕ, ◌+◌, ◌-◌, ◌/◌, ◌<◌, ◌≤◌, ◌∙◌, ap, arith, subst, sym, length, slice_get, Some}
use Rattle.std.specs.declared.cmp.Ordering.TheVariants.{Greater}
use Rattle.std.proofs.lemmas.Bool.{true≢false}
use Rattle.std.proofs.lemmas.Option.{slice_get-get_or}
use Rattle.cidr.specs.model.Bits.{bit_cmp}
use Rattle.cidr_c.proofs.Outers.{IsFoundUpto, upto_begun, upto_further, upto_no_further}
use Rattle.cidr_c.proofs.nested.rows_upto.Goals as goal
use Rattle.cidr_c.proofs.nested.rows_upto.Goals.{then-not-is_behind, else-not-is_behind}

pub loop-left-init : goal.loop-left-init
loop-left-init g c = upto_begun g.C.BitString.bits c.args.rows.now (g.C.BitString.bits c.args.asked.now)

pub loop-left-preserved : goal.loop-left-preserved
loop-left-preserved g c =
    let bits = g.C.BitString.bits in
    let rows = c.args.rows.now in
    let asked = bits c.args.asked.now in
    let found = c.loop-left.found in
    let left = c.loop-left.left in
    let half = left - left / 2 in
    let row = c.index-rows-found.result in
    let all : half + left / 2 ≡ left = omega arith in
    let most : half ≤ left / 2 + 1 = omega arith in
    let some : 0 < half = omega (arith, c.loop-left-test.true) in
    let at : found + half - 1 < length rows = omega (arith, c.loop-left.invariant.within, all, some) in
    let here : slice_get rows (found + half - 1) ≡ Some row = slice_get-get_or rows (found + half - 1) row at ∙ ap Some (sym c.index-rows-found.is) in
    elim c.if-not-is_behind.branch [
      | then-not-is_behind w ↦
          let up : bit_cmp (bits row.0) asked ≢ Greater = λ greater.
          true≢false
          (sym (c.is_behind.ensures.1 (subst (λ (r : g.row.C.Denot × ℕ). bit_cmp (bits r.0) asked ≡ Greater) c.index-rows-found.is greater)) ∙ w.if-not-is_behind.true) in
          subst (λ (k : ℕ). IsFoundUpto bits rows asked k (left / 2)) (sym w.found-is)
          (upto_further bits rows asked c.requires found left half row all some c.loop-left.invariant here up)
      | else-not-is_behind w ↦
          let greater : bit_cmp (bits row.0) asked ≡ Greater =
          subst (λ (r : g.row.C.Denot × ℕ). bit_cmp (bits r.0) asked ≡ Greater) (sym c.index-rows-found.is) (c.is_behind.ensures.0 w.if-not-is_behind.false) in
          subst (λ (k : ℕ). IsFoundUpto bits rows asked k (left / 2)) (sym w.found-is)
          (upto_no_further bits rows asked c.requires found left half row all most some c.loop-left.invariant here greater)
    ]
