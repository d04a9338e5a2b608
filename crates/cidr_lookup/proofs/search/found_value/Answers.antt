use Rattle.std.proofs.Common.{◌≡◌, refl, sym, ap, ap₂, subst, ◌∙◌, arith, ℕ, ◌+◌, ◌-◌, ◌*◌, ◌/◌, ◌%◌, ◌^◌, ◌<◌, ◌≤◌, List, [], length, get_or, count_ones}
use Rattle.std.proofs.lemmas.Nat.{pow_pos, div_below}
use Rattle.cidr_lookup.specs.Nodes.{IsEntry}
use Rattle.cidr_lookup.specs.Searching.{IsValueAt}
use Rattle.cidr_lookup.specs.Tables.{IsAnswer}
use Rattle.cidr_lookup.proofs.Blocks.{behind_more, first_six, padded_fits}
use Rattle.cidr_lookup.proofs.Changes.{list_has, ordered}
use Rattle.cidr_lookup.proofs.Entries.{Leads, each, grows, leads, led, list_of, next, part_at}
use Rattle.cidr_lookup.proofs.search.found_value.Goals as goal
use Rattle.cidr_lookup.proofs.search.found_value.Goals.{else-width-gt-LISTS-via-then-width-gt-LISTS+else-entry-eq1, else-width-gt-LISTS-via-else-width-gt-LISTS}

pub returns-then-shift-width : goal.returns-then-shift-width
returns-then-shift-width g c = λ networks table. absurd (omega (arith, table.some))

pub returns-then-width-shift-gt31 : goal.returns-then-width-shift-gt31
returns-then-width-shift-gt31 g c = λ networks table. absurd (omega (arith, table.few, table.some, c.padded_width-width.ensures.value, c.padded_width-width.ensures.parts, c.if-width-shift-gt31.true))

-- the first bits choose an entry
within : (number shift steps count size at : ℕ) → shift ≡ 6 * steps → at ≡ number / 2 ^ shift → number < 2 ^ size → count * 2 ^ (6 * steps) ≡ 2 ^ size → at < count
within number shift steps count size at e is fits all =
    let less : number / 2 ^ (6 * steps) < count = div_below number (2 ^ (6 * steps)) count (pow_pos (6 * steps)) (omega arith) in
    omega (arith, less, ap (λ s. number / 2 ^ s) e)

pub returns-then-at-len : goal.returns-then-at-len
returns-then-at-len g c = λ networks table.
    let number = g.A.Address.value c.args.address * 2 ^ g.A.Address.padding in
    let fits : number < 2 ^ (g.A.Address.width + g.A.Address.padding) =
    padded_fits (g.A.Address.value c.args.address) g.A.Address.width g.A.Address.padding (omega (arith, c.number.ensures.value, c.number.ensures.fits)) in
    absurd (omega (arith, c.len.ensures, within number (6 * c.args.steps) c.args.steps (length (g.T.Words.words c.args.first.now)) (g.A.Address.width + g.A.Address.padding) c.block-at.result refl c.block-at.ensures fits table.size))

pub loop-entry-init : goal.loop-entry-init
loop-entry-init g c = record {
  within = omega arith;
  leads = λ networks table.
      let number = g.A.Address.value c.args.address * 2 ^ g.A.Address.padding in
      let Has = IsAnswer g.A.Address.width g.A.Address.padding networks in
      let first = g.T.Words.words c.args.first.now in
      let words = g.T.Words.words c.args.words.now in
      let at = c.block-at.result in
      let steps = c.args.steps in
      let one = each (IsEntry Has steps) (grows Has steps) 0 (length first) [] first words table.entries at (omega (arith, c.len.ensures)) in
      let block : 0 + at ≡ number / 2 ^ (6 * steps) = omega (arith, c.block-at.ensures) in
      let known : Leads Has words steps (0 + at) (get_or first at 0) = leads Has words steps (0 + at) one.0 (get_or first at 0) one.1 one.2 one.3 one.4 in
      let bits : c.padded_width-width.result - 6 * steps ≡ g.A.Address.width + g.A.Address.padding - 6 * steps = omega (arith, c.padded_width-width.ensures.value) in (
        c.behind-rest.ensures ∙ ap (λ k. g.A.Address.value c.args.address * 2 ^ k % 2 ^ g.A.Address.width) bits,
        subst (λ b. Leads Has words steps b c.word-entry.result) block (subst (λ x. Leads Has words steps (0 + at) x) (sym c.word-entry.ensures) known),
      );
}

-- where the entry of a part is
placed : (words : List ℕ) (index part high low digit : ℕ) → high ≡ get_or words (index + 1) 0 → low ≡ get_or words index 0 → digit ≡ part
    → index + 1 + count_ones ((high * 2 ^ 32 + low) / 2 ^ (63 - digit)) ≡ part_at words index part
placed words index part high low digit h l d = ap₂ (λ m k. index + 1 + count_ones (m / 2 ^ (63 - k))) (ap₂ (λ x y. x * 2 ^ 32 + y) h l) d

-- an odd entry is that of a list
pub returns-then-entry-eq1 : goal.returns-then-entry-eq1
returns-then-entry-eq1 g c = λ networks table.
    let number = g.A.Address.value c.args.address * 2 ^ g.A.Address.padding in
    let Has = IsAnswer g.A.Address.width g.A.Address.padding networks in
    let words = g.T.Words.words c.args.words.now in
    let h = c.loop-entry.invariant.leads networks table in
    let block = number / 2 ^ (6 * c.loop-entry.left) in
    let at = list_of Has words c.loop-entry.left block c.loop-entry.entry ((c.loop-entry.entry - 2 ^ 31) / 2) h.1 c.loop-entry-test.true c.if-entry-eq1.true refl in
    let found = c.listed.ensures at.0 at.1 at.3 at.2.1 (ordered Has c.loop-entry.left block at.0 at.1 at.2) in
    list_has Has c.loop-entry.left number at.0 at.1 c.listed.result at.2 (subst (λ u. IsValueAt at.0 at.1 u c.listed.result) c.list_word.ensures found)

-- where no step is left, the entry is a value
pub returns-then-left-eq0 : goal.returns-then-left-eq0
returns-then-left-eq0 g c = λ networks table.
    let number = g.A.Address.value c.args.address * 2 ^ g.A.Address.padding in
    let words = g.T.Words.words c.args.words.now in
    let h = c.loop-entry.invariant.leads networks table in
    let short : c.loop-entry.entry % 2 ≡ 1 → 6 * c.loop-entry.left ≤ 82 = elim c.else-width-gt-LISTS.branch [
      | else-width-gt-LISTS-via-then-width-gt-LISTS+else-entry-eq1 w ↦ λ odd. absurd (w.if-entry-eq1.false odd)
      | else-width-gt-LISTS-via-else-width-gt-LISTS w ↦ λ _. omega (arith, c.loop-entry.invariant.within, w.if-width-gt-LISTS.false, c.if-shift-width.false)
    ] in
    let on = next (IsAnswer g.A.Address.width g.A.Address.padding networks) words c.loop-entry.left number c.loop-entry.entry ((c.loop-entry.entry - 2 ^ 31) / 2) h.1 c.loop-entry-test.true short refl in
    absurd (omega (arith, on.1, c.if-left-eq0.true))

pub returns-then-index-len : goal.returns-then-index-len
returns-then-index-len g c = λ networks table.
    let number = g.A.Address.value c.args.address * 2 ^ g.A.Address.padding in
    let words = g.T.Words.words c.args.words.now in
    let h = c.loop-entry.invariant.leads networks table in
    let short : c.loop-entry.entry % 2 ≡ 1 → 6 * c.loop-entry.left ≤ 82 = elim c.else-width-gt-LISTS.branch [
      | else-width-gt-LISTS-via-then-width-gt-LISTS+else-entry-eq1 w ↦ λ odd. absurd (w.if-entry-eq1.false odd)
      | else-width-gt-LISTS-via-else-width-gt-LISTS w ↦ λ _. omega (arith, c.loop-entry.invariant.within, w.if-width-gt-LISTS.false, c.if-shift-width.false)
    ] in
    let on = next (IsAnswer g.A.Address.width g.A.Address.padding networks) words c.loop-entry.left number c.loop-entry.entry ((c.loop-entry.entry - 2 ^ 31) / 2) h.1 c.loop-entry-test.true short refl in
    absurd (omega (arith, on.2.0, c.len-in-loop-entry.ensures, c.if-index-len.true))

pub returns-then-next-len : goal.returns-then-next-len
returns-then-next-len g c = λ networks table.
    let number = g.A.Address.value c.args.address * 2 ^ g.A.Address.padding in
    let words = g.T.Words.words c.args.words.now in
    let h = c.loop-entry.invariant.leads networks table in
    let short : c.loop-entry.entry % 2 ≡ 1 → 6 * c.loop-entry.left ≤ 82 = elim c.else-width-gt-LISTS.branch [
      | else-width-gt-LISTS-via-then-width-gt-LISTS+else-entry-eq1 w ↦ λ odd. absurd (w.if-entry-eq1.false odd)
      | else-width-gt-LISTS-via-else-width-gt-LISTS w ↦ λ _. omega (arith, c.loop-entry.invariant.within, w.if-width-gt-LISTS.false, c.if-shift-width.false)
    ] in
    let on = next (IsAnswer g.A.Address.width g.A.Address.padding networks) words c.loop-entry.left number c.loop-entry.entry ((c.loop-entry.entry - 2 ^ 31) / 2) h.1 c.loop-entry-test.true short refl in
    let bits : g.A.Address.width + g.A.Address.padding - 6 * c.loop-entry.left + 6 * on.0 + 6 ≡ g.A.Address.width + g.A.Address.padding = omega (arith, on.1, c.loop-entry.invariant.within, c.if-shift-width.false, c.padded_width-width.ensures.value) in
    let part : c.part.result ≡ number / 2 ^ (6 * on.0) % 64 = c.part.ensures.value ∙ (ap (λ r. r / 2 ^ (g.A.Address.width - 6)) h.0
    ∙ first_six (g.A.Address.value c.args.address) g.A.Address.width g.A.Address.padding (g.A.Address.width + g.A.Address.padding - 6 * c.loop-entry.left) (6 * on.0) c.part.ensures.wide bits) in
    let at = placed words ((c.loop-entry.entry - 2 ^ 31) / 2) (number / 2 ^ (6 * on.0) % 64) c.from.result c.from-in-loop-entry.result c.part.result
    (c.from.ensures ∙ c.word.ensures) (c.from-in-loop-entry.ensures ∙ c.word-in-loop-entry.ensures) part in
    absurd (omega (arith, on.2.0, at, c.len-in-loop-entry.ensures, c.if-next-len.true))

pub loop-entry-preserved : goal.loop-entry-preserved
loop-entry-preserved g c = record {
  within = omega (arith, c.loop-entry.invariant.within);
  leads = λ networks table.
      let number = g.A.Address.value c.args.address * 2 ^ g.A.Address.padding in
      let words = g.T.Words.words c.args.words.now in
      let h = c.loop-entry.invariant.leads networks table in
      let short : c.loop-entry.entry % 2 ≡ 1 → 6 * c.loop-entry.left ≤ 82 = elim c.else-width-gt-LISTS.branch [
        | else-width-gt-LISTS-via-then-width-gt-LISTS+else-entry-eq1 w ↦ λ odd. absurd (w.if-entry-eq1.false odd)
        | else-width-gt-LISTS-via-else-width-gt-LISTS w ↦ λ _. omega (arith, c.loop-entry.invariant.within, w.if-width-gt-LISTS.false, c.if-shift-width.false)
      ] in
      let on = next (IsAnswer g.A.Address.width g.A.Address.padding networks) words c.loop-entry.left number c.loop-entry.entry ((c.loop-entry.entry - 2 ^ 31) / 2) h.1 c.loop-entry-test.true short refl in
      let bits : g.A.Address.width + g.A.Address.padding - 6 * c.loop-entry.left + 6 * on.0 + 6 ≡ g.A.Address.width + g.A.Address.padding = omega (arith, on.1, c.loop-entry.invariant.within, c.if-shift-width.false, c.padded_width-width.ensures.value) in
      let part : c.part.result ≡ number / 2 ^ (6 * on.0) % 64 = c.part.ensures.value ∙ (ap (λ r. r / 2 ^ (g.A.Address.width - 6)) h.0
      ∙ first_six (g.A.Address.value c.args.address) g.A.Address.width g.A.Address.padding (g.A.Address.width + g.A.Address.padding - 6 * c.loop-entry.left) (6 * on.0) c.part.ensures.wide bits) in
      let at = placed words ((c.loop-entry.entry - 2 ^ 31) / 2) (number / 2 ^ (6 * on.0) % 64) c.from.result c.from-in-loop-entry.result c.part.result
      (c.from.ensures ∙ c.word.ensures) (c.from-in-loop-entry.ensures ∙ c.word-in-loop-entry.ensures) part in
      let Has = IsAnswer g.A.Address.width g.A.Address.padding networks in
      let v = g.A.Address.value c.args.address in
      let w = g.A.Address.width in
      let bits' : w + g.A.Address.padding - 6 * on.0 ≡ w + g.A.Address.padding - 6 * c.loop-entry.left + 6 = omega (arith, bits) in
      let left : on.0 ≡ c.loop-entry.left - 1 = omega (arith, on.1) in
      let entry = c.word-entry-in-loop-entry.result in
      subst (λ n. (g.A.Address.value c.behind-rest-in-loop-entry.result ≡ v * 2 ^ (w + g.A.Address.padding - 6 * n) % 2 ^ w) × Leads Has words n (number / 2 ^ (6 * n)) entry) left (
        c.behind-rest-in-loop-entry.ensures ∙ (ap (λ r. r * 2 ^ 6 % 2 ^ w) h.0 ∙ behind_more v w (w + g.A.Address.padding - 6 * c.loop-entry.left) 6 (w + g.A.Address.padding - 6 * on.0) bits'),
        subst (λ x. Leads Has words on.0 (number / 2 ^ (6 * on.0)) x) (ap (λ i. get_or words i 0) (sym at) ∙ sym c.word-entry-in-loop-entry.ensures) on.2.1,
      );
}

pub returns : goal.returns
returns g c = λ networks table.
    let number = g.A.Address.value c.args.address * 2 ^ g.A.Address.padding in
    let h = c.loop-entry.invariant.leads networks table in
    led (IsAnswer g.A.Address.width g.A.Address.padding networks) (g.T.Words.words c.args.words.now) c.loop-entry.left number c.loop-entry.entry h.1 c.loop-entry-test.false
