use Rattle.std.proofs.Common.{◌≡◌, refl, ℕ, sym, ap, subst, ◌∙◌, arith, ◌+◌, ◌-◌, ◌*◌, ◌%◌, ◌^◌, List, [], ◌∷◌, length, length-append, get_or, map}
use Rattle.std.proofs.lemmas.List.{get_or_append_left, get_or_push, length-map}
use Rattle.cidr_lookup.specs.Keys.{key_networks}
use Rattle.cidr_lookup.specs.Nodes.{AreEntries, IsEntry}
use Rattle.cidr_lookup.specs.Putting.{StopsBefore}
use Rattle.cidr_lookup.specs.Tables.{IsAnswer}
use Rattle.cidr_lookup.proofs.Blocks.{all_blocks, block_fits, one_count}
use Rattle.cidr_lookup.proofs.Entries.{no_entries, one_more, stops_at_entry, stops_in_block}
use Rattle.cidr_lookup.proofs.BlockAnswers.{one_answer}
use Rattle.cidr_lookup.proofs.building.put_table.Goals as goal

pub loop-block-init : goal.loop-block-init
loop-block-init g c =
    let starts = map g.A.Address.value c.args.starts.now in
    let IsOne = IsEntry (IsAnswer g.A.Address.width g.A.Address.padding (key_networks g.A.Address.value c.args.keys.now)) c.args.steps in
    let zero : get_or starts 0 0 * 2 ^ g.A.Address.padding ≡ 0 = ap (λ s. s * 2 ^ g.A.Address.padding) c.requires.ranges.ordered.first ∙ omega arith in
    record {
      kept_first = refl;
      kept_words = refl;
      near = omega (arith, c.requires.ranges.ordered.some, length-map c.args.starts.now g.A.Address.value);
      upto = omega (arith, zero);
      until = λ b l more. absurd (omega arith);
      long = ap length c.requires.first;
      entries = subst (λ x. AreEntries IsOne 0 0 [] (g.F.Sink.put c.args.first.now) x) (sym c.requires.words) (no_entries IsOne 0 [] (g.F.Sink.put c.args.first.now));
    }

pub loop-block-preserved : goal.loop-block-preserved
loop-block-preserved g c =
    let h = c.loop-block.invariant in
    let old = g.F.Sink.put c.loop-block.first in
    let entry = c.in-Ok.entry in
    let put = c.in-Ok-push.ensures.put in
    let block = c.loop-block.block in
    let IsOne = IsEntry (IsAnswer g.A.Address.width g.A.Address.padding (key_networks g.A.Address.value c.args.keys.now)) c.args.steps in
    let zero : block ≡ 0 + block = omega arith in
    record {
      kept_first = c.push.ensures.kept ∙ h.kept_first;
      kept_words = c.next_entry.ensures.kept ∙ h.kept_words;
      near = c.next_entry.ensures.near;
      upto = c.next_entry.ensures.upto;
      until = c.in-Ok.ensures.until;
      long = ap length put ∙ (length-append old (entry ∷ []) ∙ ap (λ n. n + 1) h.long);
      entries = one_more IsOne 0 block [] old (g.F.Sink.put c.push.new.self) (g.S.Sink.put c.loop-block.words) (g.S.Sink.put c.next_entry.new.sink) entry
          (λ i l. ap (λ xs. get_or xs i 0) put ∙ get_or_append_left old (entry ∷ []) 0 i (omega (arith, h.long)))
          (ap (λ xs. get_or xs block 0) put ∙ get_or_push old entry 0 block h.long) h.entries
          (subst (λ b. IsOne b (g.S.Sink.put c.loop-block.words) entry (g.S.Sink.put c.next_entry.new.sink)) zero c.in-Ok.ensures.entry);
    }

pub next_entry-requires-clause-block : goal.next_entry-requires-clause-block
next_entry-requires-clause-block g c =
    let size = g.A.Address.width + g.A.Address.padding in
    let all = all_blocks c.args.steps size c.padded_width.result c.padded_width.ensures.value c.requires.some c.requires.few in
    block_fits c.args.steps size (1 * 2 ^ (c.padded_width.result - 6 * c.args.steps) % 2 ^ 64) c.loop-block.block all c.loop-block-test.true

pub next_entry-requires-clause-some : goal.next_entry-requires-clause-some
next_entry-requires-clause-some g c = omega (arith, c.padded_width.ensures.value, c.padded_width.ensures.long, c.requires.few)

pub next_entry-requires-clause-wide : goal.next_entry-requires-clause-wide
next_entry-requires-clause-wide g c = omega (arith, c.padded_width.ensures.value, c.padded_width.ensures.fits)

pub returns-clause-table : goal.returns-clause-table
returns-clause-table g c =
    let size = g.A.Address.width + g.A.Address.padding in
    let h = c.loop-block.invariant in
    let all = all_blocks c.args.steps size c.padded_width.result c.padded_width.ensures.value c.requires.some c.requires.few in
    let whole : length (g.F.Sink.put c.loop-block.first) ≡ 1 * 2 ^ (c.padded_width.result - 6 * c.args.steps) % 2 ^ 64 = omega (arith, h.long, c.loop-block.auto.block-end, c.loop-block-test.false) in
    record {
      keys = c.requires.keys;
      some = c.requires.some;
      few = c.requires.few;
      size = ap (λ n. n * 2 ^ (6 * c.args.steps)) whole ∙ all;
      entries = subst (λ n. AreEntries (IsEntry (IsAnswer g.A.Address.width g.A.Address.padding (key_networks g.A.Address.value c.args.keys.now)) c.args.steps) 0 n [] (g.F.Sink.put c.loop-block.first)
          (g.S.Sink.put c.loop-block.words)) (sym h.long) h.entries;
    }

pub returns-in-Err-clause-stopped : goal.returns-in-Err-clause-stopped
returns-in-Err-clause-stopped g c = λ all_first all_words table.
    let w = g.A.Address.width in
    let padding = g.A.Address.padding in
    let steps = c.args.steps in
    let networks = key_networks g.A.Address.value c.args.keys.now in
    let count = one_count steps (2 ^ (w + padding)) (length all_first) (1 * 2 ^ (c.padded_width.result - 6 * steps) % 2 ^ 64) table.size
    (all_blocks steps (w + padding) c.padded_width.result c.padded_width.ensures.value c.requires.some c.requires.few) in
    let block : c.loop-block.block ≡ 0 + c.loop-block.block = omega arith in
    stops_in_block (IsAnswer w padding networks) (one_answer w padding networks c.requires.keys) steps (length all_first) all_first all_words (g.F.Sink.put c.loop-block.first)
    (g.S.Sink.put c.loop-block.words) c.loop-block.block table.entries c.loop-block.invariant.entries (omega (arith, count, c.loop-block-test.true)) (g.S.Sink.put c.next_entry.new.sink)
    (g.S.Sink.refuses c.next_entry.new.sink)
    (subst (λ b. (entry : ℕ) (next : List ℕ) → IsEntry (IsAnswer w padding networks) steps b (g.S.Sink.put c.loop-block.words) entry next
    → StopsBefore (g.S.Sink.put c.next_entry.new.sink) (g.S.Sink.refuses c.next_entry.new.sink) next) block c.in-Err.ensures.stopped)

pub returns-in-Err-push-clause-stopped : goal.returns-in-Err-push-clause-stopped
returns-in-Err-push-clause-stopped g c = λ all_first all_words table.
    let w = g.A.Address.width in
    let padding = g.A.Address.padding in
    let steps = c.args.steps in
    let networks = key_networks g.A.Address.value c.args.keys.now in
    let count = one_count steps (2 ^ (w + padding)) (length all_first) (1 * 2 ^ (c.padded_width.result - 6 * steps) % 2 ^ 64) table.size
    (all_blocks steps (w + padding) c.padded_width.result c.padded_width.ensures.value c.requires.some c.requires.few) in
    let block : c.loop-block.block ≡ 0 + c.loop-block.block = omega arith in
    let refused = c.in-Err-push.ensures.refused in
    stops_at_entry (IsAnswer w padding networks) (one_answer w padding networks c.requires.keys) steps (length all_first) all_first all_words (g.F.Sink.put c.loop-block.first)
    (g.S.Sink.put c.loop-block.words) c.loop-block.block table.entries c.loop-block.invariant.entries (omega (arith, count, c.loop-block-test.true)) (g.F.Sink.put c.push.new.self)
    (g.F.Sink.refuses c.push.new.self) c.in-Ok.entry (g.S.Sink.put c.next_entry.new.sink) refl c.loop-block.invariant.long
    (subst (λ b. IsEntry (IsAnswer w padding networks) steps b (g.S.Sink.put c.loop-block.words) c.in-Ok.entry (g.S.Sink.put c.next_entry.new.sink)) block c.in-Ok.ensures.entry) refused.0 refused.1
