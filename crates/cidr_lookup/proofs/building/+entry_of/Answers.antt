use Rattle.std.proofs.Common.{◌≡◌, refl, sym, ap, subst, ◌∙◌, arith, ℕ, ◌+◌, ◌-◌, ◌*◌, ◌^◌, ◌<◌, ◌≤◌, List, [], ◌++◌, ◌∷◌, length, get_or, map, replicate}
use Rattle.std.proofs.lemmas.Bool.{iff_false}
use Rattle.std.proofs.lemmas.List.{get_or_append_left, get_or_push, length-map}
use Rattle.cidr_lookup.specs.Keys.{key_networks}
use Rattle.cidr_lookup.proofs.Numbers.{length_networks}
use Rattle.cidr_lookup.specs.Nodes.{AreEntries, IsEntry}
use Rattle.cidr_lookup.specs.Putting.{AreRuns, StopsBefore}
use Rattle.cidr_lookup.specs.Tables.{IsAnswer}
use Rattle.cidr_lookup.proofs.Blocks.{cut, first_part, part_ends, part_fits, part_number}
use Rattle.cidr_lookup.proofs.Entries.{no_entries, node_entry, one_more, stops_at_place, stops_in_node, stops_in_part, value_entry, values_more}
use Rattle.cidr_lookup.proofs.Nodes.{on_err, whole_node}
use Rattle.cidr_lookup.proofs.BlockAnswers.{divided, one_answer, whole}
use Rattle.cidr_lookup.proofs.building.+entry_of.Goals as goal

-- a part more
with_one : (entries : List ℕ) (part set : ℕ) (kept : List ℕ) (count entry : ℕ) → AreRuns (entries ++ replicate (part + 1 - part) entry) (part + 1) set kept count
    → AreRuns (entries ++ entry ∷ []) (part + 1) set kept count
with_one entries part set kept count entry are =
    let one : part + 1 - part ≡ 1 = omega arith in
    subst (λ n. AreRuns (entries ++ replicate n entry) (part + 1) set kept count) one are

pub last_upto-requires-clause-upto : goal.last_upto-requires-clause-upto
last_upto-requires-clause-upto g t c =
    omega (arith, c.requires.upto, first_part c.args.steps c.args.block c.requires.some)

pub returns-then-is_whole-clause-upto : goal.returns-then-is_whole-clause-upto
returns-then-is_whole-clause-upto g t c =
    omega (arith, c.last_upto.ensures.upto, first_part c.args.steps c.args.block c.requires.some)

pub returns-then-is_whole-clause-entry : goal.returns-then-is_whole-clause-entry
returns-then-is_whole-clause-entry g t c =
    let w = g.A.Address.width in
    let padding = g.A.Address.padding in
    let steps = c.args.steps in
    let block = c.args.block in
    let k = c.last_upto.result in
    let count = length c.args.starts.now in
    let start = λ (j : ℕ). get_or (map g.A.Address.value c.args.starts.now) j 0 * 2 ^ padding in
    let front = first_part steps block c.requires.some in
    let upto : start k ≤ block * 2 ^ (6 * steps) = omega (arith, c.last_upto.ensures.upto, front) in
    let next : k + 1 < count → block * 2 ^ (6 * steps) < start (k + 1) = λ more. omega (arith, c.last_upto.ensures.next more, front) in
    let networks = key_networks g.A.Address.value c.args.keys.now in
    let size = length-map c.args.starts.now g.A.Address.value in
    value_entry (IsAnswer w padding networks) steps block (g.S.Sink.put c.args.sink.now) (get_or c.args.answers.now k 0)
    (whole w padding networks (map g.A.Address.value c.args.starts.now) c.args.answers.now c.requires.ranges steps block k c.requires.block (omega (arith, c.last_upto.ensures.within, size)) upto
    (omega (arith, c.requires.few, length_networks g.A.Address.value c.args.keys.now)) (λ l. c.is_whole.ensures.0 c.if-is_whole.true (omega (arith, l, size))))

pub changes_in-requires-clause-more : goal.changes_in-requires-clause-more
changes_in-requires-clause-more g t c =
    let w = g.A.Address.width in
    let padding = g.A.Address.padding in
    let steps = c.args.steps in
    let block = c.args.block in
    let k = c.last_upto.result in
    let count = length c.args.starts.now in
    let start = λ (j : ℕ). get_or (map g.A.Address.value c.args.starts.now) j 0 * 2 ^ padding in
    let front = first_part steps block c.requires.some in
    let upto : start k ≤ block * 2 ^ (6 * steps) = omega (arith, c.last_upto.ensures.upto, front) in
    let next : k + 1 < count → block * 2 ^ (6 * steps) < start (k + 1) = λ more. omega (arith, c.last_upto.ensures.next more, front) in
    let at = cut steps block k count (start (k + 1)) next (iff_false c.is_whole.ensures c.if-is_whole.false) in
    at.0

pub changes_in-requires-clause-upto : goal.changes_in-requires-clause-upto
changes_in-requires-clause-upto g t c =
    let w = g.A.Address.width in
    let padding = g.A.Address.padding in
    let steps = c.args.steps in
    let block = c.args.block in
    let k = c.last_upto.result in
    let count = length c.args.starts.now in
    let start = λ (j : ℕ). get_or (map g.A.Address.value c.args.starts.now) j 0 * 2 ^ padding in
    let front = first_part steps block c.requires.some in
    let upto : start k ≤ block * 2 ^ (6 * steps) = omega (arith, c.last_upto.ensures.upto, front) in
    let next : k + 1 < count → block * 2 ^ (6 * steps) < start (k + 1) = λ more. omega (arith, c.last_upto.ensures.next more, front) in
    upto

pub changes_in-requires-clause-next : goal.changes_in-requires-clause-next
changes_in-requires-clause-next g t c =
    let w = g.A.Address.width in
    let padding = g.A.Address.padding in
    let steps = c.args.steps in
    let block = c.args.block in
    let k = c.last_upto.result in
    let count = length c.args.starts.now in
    let start = λ (j : ℕ). get_or (map g.A.Address.value c.args.starts.now) j 0 * 2 ^ padding in
    let front = first_part steps block c.requires.some in
    let upto : start k ≤ block * 2 ^ (6 * steps) = omega (arith, c.last_upto.ensures.upto, front) in
    let next : k + 1 < count → block * 2 ^ (6 * steps) < start (k + 1) = λ more. omega (arith, c.last_upto.ensures.next more, front) in
    let at = cut steps block k count (start (k + 1)) next (iff_false c.is_whole.ensures c.if-is_whole.false) in
    at.1

pub changes_in-requires-clause-inner : goal.changes_in-requires-clause-inner
changes_in-requires-clause-inner g t c =
    let w = g.A.Address.width in
    let padding = g.A.Address.padding in
    let steps = c.args.steps in
    let block = c.args.block in
    let k = c.last_upto.result in
    let count = length c.args.starts.now in
    let start = λ (j : ℕ). get_or (map g.A.Address.value c.args.starts.now) j 0 * 2 ^ padding in
    let front = first_part steps block c.requires.some in
    let upto : start k ≤ block * 2 ^ (6 * steps) = omega (arith, c.last_upto.ensures.upto, front) in
    let next : k + 1 < count → block * 2 ^ (6 * steps) < start (k + 1) = λ more. omega (arith, c.last_upto.ensures.next more, front) in
    let at = cut steps block k count (start (k + 1)) next (iff_false c.is_whole.ensures c.if-is_whole.false) in
    at.2

pub loop-part-init : goal.loop-part-init
loop-part-init g t c =
    let w = g.A.Address.width in
    let padding = g.A.Address.padding in
    let steps = c.args.steps in
    let block = c.args.block in
    let k = c.last_upto.result in
    let count = length c.args.starts.now in
    let start = λ (j : ℕ). get_or (map g.A.Address.value c.args.starts.now) j 0 * 2 ^ padding in
    let front = first_part steps block c.requires.some in
    let upto : start k ≤ block * 2 ^ (6 * steps) = omega (arith, c.last_upto.ensures.upto, front) in
    let next : k + 1 < count → block * 2 ^ (6 * steps) < start (k + 1) = λ more. omega (arith, c.last_upto.ensures.next more, front) in
    let at = cut steps block k count (start (k + 1)) next (iff_false c.is_whole.ensures c.if-is_whole.false) in
    record {
      kept = refl;
      parts = omega arith;
      near = c.last_upto.ensures.within;
      upto = c.last_upto.ensures.upto;
      entries = ([], c.new-runs.ensures, no_entries (IsEntry (IsAnswer w padding (key_networks g.A.Address.value c.args.keys.now)) (steps - 1)) (block * 64) (g.S.Sink.put c.args.sink.now) []);
    }

pub add_whole-part-requires-clause-runs : goal.add_whole-part-requires-clause-runs
add_whole-part-requires-clause-runs g t c =
    (c.loop-part.invariant.entries.0, c.loop-part.invariant.entries.1)

pub overflow_mul-child : goal.overflow_mul-child
overflow_mul-child g t c =
    omega (
      arith,
      part_number c.args.steps c.args.block c.add_whole-part.result (g.A.Address.width + g.A.Address.padding)
          (c.add_whole-part.ensures.deeper c.if-part-ge-PARTS.false) c.if-part-ge-PARTS.false c.requires.wide c.requires.block,
    )

pub overflow_add-child : goal.overflow_add-child
overflow_add-child g t c =
    omega (
      arith,
      part_number c.args.steps c.args.block c.add_whole-part.result (g.A.Address.width + g.A.Address.padding)
          (c.add_whole-part.ensures.deeper c.if-part-ge-PARTS.false) c.if-part-ge-PARTS.false c.requires.wide c.requires.block,
    )

pub entry_of-requires : goal.entry_of-requires
entry_of-requires g t c = λ κs h.
    let size = g.A.Address.width + g.A.Address.padding in
    let deep = c.add_whole-part.ensures.deeper c.if-part-ge-PARTS.false in (
      omega (arith, deep),
      (
        h.0,
        (
          h.1,
          (
            c.requires.keys,
            (
              c.requires.ranges,
              (
                c.requires.few,
                (
                  c.requires.wide,
                  (
                    omega (arith, deep),
                    (
                      omega (arith, c.requires.steps),
                      (
                        c.add_whole-part.ensures.near,
                        (
                          c.add_whole-part.ensures.upto,
                          part_fits c.args.steps c.args.block c.add_whole-part.result (2 ^ size) c.requires.some c.if-part-ge-PARTS.false c.requires.block,
                        ),
                      ),
                    ),
                  ),
                ),
              ),
            ),
          ),
        ),
      ),
    )

pub returns-in_err-entry-clause-upto : goal.returns-in_err-entry-clause-upto
returns-in_err-entry-clause-upto g t c =
    omega (arith, c.entry_of.ensures.upto, part_fits c.args.steps c.args.block c.add_whole-part.result ((c.args.block + 1) * 2 ^ (6 * c.args.steps)) c.requires.some c.if-part-ge-PARTS.false (omega arith))

pub add-requires-clause-runs : goal.add-requires-clause-runs
add-requires-clause-runs g t c =
    let w = g.A.Address.width in
    let padding = g.A.Address.padding in
    let steps = c.args.steps in
    let block = c.args.block in
    let k = c.last_upto.result in
    let count = length c.args.starts.now in
    let start = λ (j : ℕ). get_or (map g.A.Address.value c.args.starts.now) j 0 * 2 ^ padding in
    let front = first_part steps block c.requires.some in
    let upto : start k ≤ block * 2 ^ (6 * steps) = omega (arith, c.last_upto.ensures.upto, front) in
    let next : k + 1 < count → block * 2 ^ (6 * steps) < start (k + 1) = λ more. omega (arith, c.last_upto.ensures.next more, front) in
    let at = cut steps block k count (start (k + 1)) next (iff_false c.is_whole.ensures c.if-is_whole.false) in
    let networks = key_networks g.A.Address.value c.args.keys.now in
    let Has = IsAnswer w padding networks in
    let none = divided w padding networks (map g.A.Address.value c.args.starts.now) c.args.answers.now c.requires.ranges steps block k count
    (length-map c.args.starts.now g.A.Address.value) c.requires.keys c.requires.block c.last_upto.ensures.within upto next (iff_false c.is_whole.ensures c.if-is_whole.false) in
    let part = c.add_whole-part.result in
    let old = c.loop-part.invariant.entries in
    let more = c.add_whole-part.ensures.runs old.0 old.1 in
    let filled = values_more Has (steps - 1) (block * 64) c.loop-part.part part (g.S.Sink.put c.args.sink.now) old.0 more.0
    (g.S.Sink.put c.loop-part.sink) c.add_whole-part.ensures.from more.2 more.3 old.2 in
    (more.0, more.1)

pub loop-part-preserved : goal.loop-part-preserved
loop-part-preserved g t c =
    let w = g.A.Address.width in
    let padding = g.A.Address.padding in
    let steps = c.args.steps in
    let block = c.args.block in
    let k = c.last_upto.result in
    let count = length c.args.starts.now in
    let start = λ (j : ℕ). get_or (map g.A.Address.value c.args.starts.now) j 0 * 2 ^ padding in
    let front = first_part steps block c.requires.some in
    let upto : start k ≤ block * 2 ^ (6 * steps) = omega (arith, c.last_upto.ensures.upto, front) in
    let next : k + 1 < count → block * 2 ^ (6 * steps) < start (k + 1) = λ more. omega (arith, c.last_upto.ensures.next more, front) in
    let at = cut steps block k count (start (k + 1)) next (iff_false c.is_whole.ensures c.if-is_whole.false) in
    let networks = key_networks g.A.Address.value c.args.keys.now in
    let Has = IsAnswer w padding networks in
    let none = divided w padding networks (map g.A.Address.value c.args.starts.now) c.args.answers.now c.requires.ranges steps block k count
    (length-map c.args.starts.now g.A.Address.value) c.requires.keys c.requires.block c.last_upto.ensures.within upto next (iff_false c.is_whole.ensures c.if-is_whole.false) in
    let part = c.add_whole-part.result in
    let old = c.loop-part.invariant.entries in
    let more = c.add_whole-part.ensures.runs old.0 old.1 in
    let filled = values_more Has (steps - 1) (block * 64) c.loop-part.part part (g.S.Sink.put c.args.sink.now) old.0 more.0
    (g.S.Sink.put c.loop-part.sink) c.add_whole-part.ensures.from more.2 more.3 old.2 in
    let entry = c.in_ok-entry.entry in
    let e : block * 64 + part + 1 ≡ block * 64 + (part + 1) = omega arith in
    record {
      kept = c.entry_of.ensures.kept ∙ c.loop-part.invariant.kept;
      parts = omega (arith, c.if-part-ge-PARTS.false);
      near = c.entry_of.ensures.near;
      upto = omega (arith, c.entry_of.ensures.upto, ap (λ n. n * 2 ^ (6 * (steps - 1))) e);
      entries = (
        more.0 ++ entry ∷ [],
        with_one more.0 part c.add.new.self.marks c.add.new.self.entries c.add.new.self.count entry (c.add.ensures more.0 more.1),
        one_more (IsEntry Has (steps - 1)) (block * 64) part (g.S.Sink.put c.args.sink.now) more.0 (more.0 ++ entry ∷ []) (g.S.Sink.put c.loop-part.sink)
            (g.S.Sink.put c.entry_of.new.sink) entry (λ i l. get_or_append_left more.0 (entry ∷ []) 0 i (omega (arith, l, more.1.parts)))
            (get_or_push more.0 entry 0 part more.1.parts) filled c.in_ok-entry.ensures.entry,
      );
    }

pub returns-then-index-ge-MOST_WORDS-clause-upto : goal.returns-then-index-ge-MOST_WORDS-clause-upto
returns-then-index-ge-MOST_WORDS-clause-upto g t c =
    omega (arith, c.add_whole-part.ensures.upto, part_ends c.args.steps c.args.block c.add_whole-part.result c.requires.some c.add_whole-part.ensures.parts)

pub returns-in_err-put_node-clause-upto : goal.returns-in_err-put_node-clause-upto
returns-in_err-put_node-clause-upto g t c =
    omega (arith, c.add_whole-part.ensures.upto, part_ends c.args.steps c.args.block c.add_whole-part.result c.requires.some c.add_whole-part.ensures.parts)

pub returns-clause-upto : goal.returns-clause-upto
returns-clause-upto g t c =
    omega (arith, c.add_whole-part.ensures.upto, part_ends c.args.steps c.args.block c.add_whole-part.result c.requires.some c.add_whole-part.ensures.parts)

pub returns-in_err-entry-clause-stopped : goal.returns-in_err-entry-clause-stopped
returns-in_err-entry-clause-stopped g t c =
    let w = g.A.Address.width in
    let padding = g.A.Address.padding in
    let steps = c.args.steps in
    let block = c.args.block in
    let k = c.last_upto.result in
    let count = length c.args.starts.now in
    let start = λ (j : ℕ). get_or (map g.A.Address.value c.args.starts.now) j 0 * 2 ^ padding in
    let front = first_part steps block c.requires.some in
    let upto : start k ≤ block * 2 ^ (6 * steps) = omega (arith, c.last_upto.ensures.upto, front) in
    let next : k + 1 < count → block * 2 ^ (6 * steps) < start (k + 1) = λ more. omega (arith, c.last_upto.ensures.next more, front) in
    let at = cut steps block k count (start (k + 1)) next (iff_false c.is_whole.ensures c.if-is_whole.false) in
    let networks = key_networks g.A.Address.value c.args.keys.now in
    let Has = IsAnswer w padding networks in
    let none = divided w padding networks (map g.A.Address.value c.args.starts.now) c.args.answers.now c.requires.ranges steps block k count
    (length-map c.args.starts.now g.A.Address.value) c.requires.keys c.requires.block c.last_upto.ensures.within upto next (iff_false c.is_whole.ensures c.if-is_whole.false) in
    let part = c.add_whole-part.result in
    let old = c.loop-part.invariant.entries in
    let more = c.add_whole-part.ensures.runs old.0 old.1 in
    let filled = values_more Has (steps - 1) (block * 64) c.loop-part.part part (g.S.Sink.put c.args.sink.now) old.0 more.0
    (g.S.Sink.put c.loop-part.sink) c.add_whole-part.ensures.from more.2 more.3 old.2 in
    on_err c.from_residual.result (λ entry after known.
    stops_in_part Has (one_answer w padding networks c.requires.keys) steps block (g.S.Sink.put c.args.sink.now) entry after more.0
    (g.S.Sink.put c.loop-part.sink) part c.requires.some none c.in_default.ensures.none known filled (g.S.Sink.put c.entry_of.new.sink) (g.S.Sink.refuses c.entry_of.new.sink) c.if-part-ge-PARTS.false
    c.in_err-entry.ensures.stopped)

pub returns-then-index-ge-MOST_WORDS-clause-stopped : goal.returns-then-index-ge-MOST_WORDS-clause-stopped
returns-then-index-ge-MOST_WORDS-clause-stopped g t c =
    let w = g.A.Address.width in
    let padding = g.A.Address.padding in
    let steps = c.args.steps in
    let block = c.args.block in
    let k = c.last_upto.result in
    let count = length c.args.starts.now in
    let start = λ (j : ℕ). get_or (map g.A.Address.value c.args.starts.now) j 0 * 2 ^ padding in
    let front = first_part steps block c.requires.some in
    let upto : start k ≤ block * 2 ^ (6 * steps) = omega (arith, c.last_upto.ensures.upto, front) in
    let next : k + 1 < count → block * 2 ^ (6 * steps) < start (k + 1) = λ more. omega (arith, c.last_upto.ensures.next more, front) in
    let at = cut steps block k count (start (k + 1)) next (iff_false c.is_whole.ensures c.if-is_whole.false) in
    let networks = key_networks g.A.Address.value c.args.keys.now in
    let Has = IsAnswer w padding networks in
    let none = divided w padding networks (map g.A.Address.value c.args.starts.now) c.args.answers.now c.requires.ranges steps block k count
    (length-map c.args.starts.now g.A.Address.value) c.requires.keys c.requires.block c.last_upto.ensures.within upto next (iff_false c.is_whole.ensures c.if-is_whole.false) in
    let part = c.add_whole-part.result in
    let old = c.loop-part.invariant.entries in
    let more = c.add_whole-part.ensures.runs old.0 old.1 in
    let filled = values_more Has (steps - 1) (block * 64) c.loop-part.part part (g.S.Sink.put c.args.sink.now) old.0 more.0
    (g.S.Sink.put c.loop-part.sink) c.add_whole-part.ensures.from more.2 more.3 old.2 in
    λ entry after known.
    stops_at_place Has (one_answer w padding networks c.requires.keys) steps block (g.S.Sink.put c.args.sink.now) entry after more.0
    (g.S.Sink.put c.loop-part.sink) part c.requires.some none c.in_default.ensures.none known filled (g.S.Sink.put c.loop-part.sink) (g.S.Sink.refuses c.loop-part.sink)
    (omega (arith, c.add_whole-part.ensures.parts, c.if-part-ge-PARTS.true)) refl (omega (arith, c.len-index.ensures, c.if-index-ge-MOST_WORDS.true))

pub put_node-requires : goal.put_node-requires
put_node-requires g t c =
    let w = g.A.Address.width in
    let padding = g.A.Address.padding in
    let steps = c.args.steps in
    let block = c.args.block in
    let k = c.last_upto.result in
    let count = length c.args.starts.now in
    let start = λ (j : ℕ). get_or (map g.A.Address.value c.args.starts.now) j 0 * 2 ^ padding in
    let front = first_part steps block c.requires.some in
    let upto : start k ≤ block * 2 ^ (6 * steps) = omega (arith, c.last_upto.ensures.upto, front) in
    let next : k + 1 < count → block * 2 ^ (6 * steps) < start (k + 1) = λ more. omega (arith, c.last_upto.ensures.next more, front) in
    let at = cut steps block k count (start (k + 1)) next (iff_false c.is_whole.ensures c.if-is_whole.false) in
    let networks = key_networks g.A.Address.value c.args.keys.now in
    let Has = IsAnswer w padding networks in
    let none = divided w padding networks (map g.A.Address.value c.args.starts.now) c.args.answers.now c.requires.ranges steps block k count
    (length-map c.args.starts.now g.A.Address.value) c.requires.keys c.requires.block c.last_upto.ensures.within upto next (iff_false c.is_whole.ensures c.if-is_whole.false) in
    let part = c.add_whole-part.result in
    let old = c.loop-part.invariant.entries in
    let more = c.add_whole-part.ensures.runs old.0 old.1 in
    let filled = values_more Has (steps - 1) (block * 64) c.loop-part.part part (g.S.Sink.put c.args.sink.now) old.0 more.0
    (g.S.Sink.put c.loop-part.sink) c.add_whole-part.ensures.from more.2 more.3 old.2 in
    omega (arith, more.1.few, c.add_whole-part.ensures.parts)

pub returns-in_err-put_node-clause-stopped : goal.returns-in_err-put_node-clause-stopped
returns-in_err-put_node-clause-stopped g t c =
    let w = g.A.Address.width in
    let padding = g.A.Address.padding in
    let steps = c.args.steps in
    let block = c.args.block in
    let k = c.last_upto.result in
    let count = length c.args.starts.now in
    let start = λ (j : ℕ). get_or (map g.A.Address.value c.args.starts.now) j 0 * 2 ^ padding in
    let front = first_part steps block c.requires.some in
    let upto : start k ≤ block * 2 ^ (6 * steps) = omega (arith, c.last_upto.ensures.upto, front) in
    let next : k + 1 < count → block * 2 ^ (6 * steps) < start (k + 1) = λ more. omega (arith, c.last_upto.ensures.next more, front) in
    let at = cut steps block k count (start (k + 1)) next (iff_false c.is_whole.ensures c.if-is_whole.false) in
    let networks = key_networks g.A.Address.value c.args.keys.now in
    let Has = IsAnswer w padding networks in
    let none = divided w padding networks (map g.A.Address.value c.args.starts.now) c.args.answers.now c.requires.ranges steps block k count
    (length-map c.args.starts.now g.A.Address.value) c.requires.keys c.requires.block c.last_upto.ensures.within upto next (iff_false c.is_whole.ensures c.if-is_whole.false) in
    let part = c.add_whole-part.result in
    let old = c.loop-part.invariant.entries in
    let more = c.add_whole-part.ensures.runs old.0 old.1 in
    let filled = values_more Has (steps - 1) (block * 64) c.loop-part.part part (g.S.Sink.put c.args.sink.now) old.0 more.0
    (g.S.Sink.put c.loop-part.sink) c.add_whole-part.ensures.from more.2 more.3 old.2 in
    let all : part ≡ 64 = omega (arith, c.add_whole-part.ensures.parts, c.if-part-ge-PARTS.true) in
    let runs = c.add_whole-part.new.runs in
    let words = whole_node more.0 runs.marks runs.entries runs.count (subst (λ n. AreRuns more.0 n runs.marks runs.entries runs.count) all more.1) in
    on_err c.from_residual-in_err-put_node.result (λ entry after known.
    stops_in_node Has (one_answer w padding networks c.requires.keys) steps block (g.S.Sink.put c.args.sink.now) entry after more.0
    (g.S.Sink.put c.loop-part.sink) part c.requires.some none c.in_default.ensures.none known filled (g.S.Sink.put c.put_node.new.sink) (g.S.Sink.refuses c.put_node.new.sink) all
    (subst (λ x. StopsBefore (g.S.Sink.put c.put_node.new.sink) (g.S.Sink.refuses c.put_node.new.sink) (g.S.Sink.put c.loop-part.sink ++ x)) (sym words) c.in_err-put_node.ensures.stopped))

pub returns-clause-entry : goal.returns-clause-entry
returns-clause-entry g t c =
    let w = g.A.Address.width in
    let padding = g.A.Address.padding in
    let steps = c.args.steps in
    let block = c.args.block in
    let k = c.last_upto.result in
    let count = length c.args.starts.now in
    let start = λ (j : ℕ). get_or (map g.A.Address.value c.args.starts.now) j 0 * 2 ^ padding in
    let front = first_part steps block c.requires.some in
    let upto : start k ≤ block * 2 ^ (6 * steps) = omega (arith, c.last_upto.ensures.upto, front) in
    let next : k + 1 < count → block * 2 ^ (6 * steps) < start (k + 1) = λ more. omega (arith, c.last_upto.ensures.next more, front) in
    let at = cut steps block k count (start (k + 1)) next (iff_false c.is_whole.ensures c.if-is_whole.false) in
    let networks = key_networks g.A.Address.value c.args.keys.now in
    let Has = IsAnswer w padding networks in
    let none = divided w padding networks (map g.A.Address.value c.args.starts.now) c.args.answers.now c.requires.ranges steps block k count
    (length-map c.args.starts.now g.A.Address.value) c.requires.keys c.requires.block c.last_upto.ensures.within upto next (iff_false c.is_whole.ensures c.if-is_whole.false) in
    let part = c.add_whole-part.result in
    let old = c.loop-part.invariant.entries in
    let more = c.add_whole-part.ensures.runs old.0 old.1 in
    let filled = values_more Has (steps - 1) (block * 64) c.loop-part.part part (g.S.Sink.put c.args.sink.now) old.0 more.0
    (g.S.Sink.put c.loop-part.sink) c.add_whole-part.ensures.from more.2 more.3 old.2 in
    let all : part ≡ 64 = omega (arith, c.add_whole-part.ensures.parts, c.if-part-ge-PARTS.true) in
    let runs = c.add_whole-part.new.runs in
    let words = whole_node more.0 runs.marks runs.entries runs.count (subst (λ n. AreRuns more.0 n runs.marks runs.entries runs.count) all more.1) in
    node_entry Has steps block (g.S.Sink.put c.args.sink.now) (2 ^ 31 + 2 * c.len-index.result) (g.S.Sink.put c.put_node.new.sink) more.0 (g.S.Sink.put c.loop-part.sink)
    c.requires.some none c.in_default.ensures.none
    (subst (λ n. AreEntries (IsEntry Has (steps - 1)) (block * 64) n (g.S.Sink.put c.args.sink.now) more.0 (g.S.Sink.put c.loop-part.sink)) all filled)
    (ap (λ (n : ℕ). 2 ^ 31 + 2 * n) c.len-index.ensures) (c.in_ok-put_node.ensures.put ∙ ap (λ x. g.S.Sink.put c.loop-part.sink ++ x) (sym words))

pub returns-in-Some-clause-upto : goal.returns-in-Some-clause-upto
returns-in-Some-clause-upto g t c = omega (arith, c.last_upto.ensures.upto, first_part c.args.steps c.args.block c.requires.some)
