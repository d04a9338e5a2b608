use Rattle.std.proofs.Common.{arith, take}
use Rattle.cidr_table.proofs.Beginnings.{begins_first}
use Rattle.cidr_table.proofs.Halves.{begins_begins}
use Rattle.cidr_rows.proofs.Shortening.{whole, not_whole, at_place, no_place, none_left, before_place, shorter, no_shorter}
use Rattle.cidr_rows.proofs.search.longest_key.Goals as goal

pub returns-in-Ok-clause-longest : goal.returns-in-Ok-clause-longest
returns-in-Ok-clause-longest g c = λ s known.
    let h = c.loop-end.invariant in
    at_place g.C.Ord.cmp g.C.BitString.bits g.met.C.NetworkBits.ordered (g.K.Keys.keys c.args.rows.now) s c.args.asked.now
    c.loop-end.sought c.loop-end.end h.within h.begins (h.left s known) c.in-Ok.index (c.in-Ok.ensures.index s)

pub returns-in-Err-eq0-clause-longest : goal.returns-in-Err-eq0-clause-longest
returns-in-Err-eq0-clause-longest g c = λ s known.
    let h = c.loop-end.invariant in
    no_place g.C.Ord.cmp g.C.BitString.bits g.met.C.NetworkBits.ordered (g.K.Keys.keys c.args.rows.now) s c.args.asked.now
    c.loop-end.sought c.loop-end.end h.within h.begins (h.left s known) c.in-Err-eq0.field-0 (omega arith) (c.in-Err-eq0.ensures.index s)

pub returns-then-shared-len-clause-longest : goal.returns-then-shared-len-clause-longest
returns-then-shared-len-clause-longest g c = λ s known.
    let h = c.loop-end.invariant in
    let bits = g.C.BitString.bits in
    before_place g.C.Ord.cmp bits g.met.C.NetworkBits.ordered (g.K.Keys.keys c.args.rows.now) s c.args.asked.now
    c.loop-end.sought c.loop-end.end h.within h.begins (h.left s known) c.in-Err.index (omega arith) (c.in-Err.ensures.index s)
    (rw (c.key-before.ensures c.args.asked.now) (whole (bits c.loop-end.sought) (bits c.key-before.result) c.shared_prefix_len-shared.result
    (omega (arith, c.len.ensures.value)) c.shared_prefix_len-shared.ensures))

pub loop-end-preserved : goal.loop-end-preserved
loop-end-preserved g c =
    let h = c.loop-end.invariant in
    let bits = g.C.BitString.bits in
    let sought = bits c.loop-end.sought in
    let n = c.shared_prefix_len-shared.result in
    let len = c.in_ok-len-in-Err.len in
    let before = c.key-before.ensures c.args.asked.now in
    record {
      within = omega (arith, h.within, c.in-Err.ensures.within);
      begins = rw c.clip.ensures.bits (begins_begins (bits c.args.asked.now) sought (take len sought) h.begins (begins_first len sought));
      left = λ s known j l b. rw c.clip.ensures.bits (
          shorter g.C.Ord.cmp bits g.met.C.NetworkBits.ordered (g.K.Keys.keys c.args.rows.now) s c.args.asked.now
          c.loop-end.sought c.loop-end.end h.within h.begins (h.left s known) c.args.lengths.now known c.in-Err.index n len (omega arith) (c.in-Err.ensures.index s)
          (rw before (not_whole sought (bits c.key-before.result) n (λ e. omega (arith, c.len.ensures.value, e)) c.shared_prefix_len-shared.ensures))
          (rw before c.shared_prefix_len-shared.ensures) c.in_ok-len-in-Err.ensures.2 j l b);
    }

pub returns-in_err-len-in-Err-clause-longest : goal.returns-in_err-len-in-Err-clause-longest
returns-in_err-len-in-Err-clause-longest g c = rw c.from_residual.ensures (λ s known.
    let h = c.loop-end.invariant in
    let bits = g.C.BitString.bits in
    let n = c.shared_prefix_len-shared.result in
    let before = c.key-before.ensures c.args.asked.now in
    no_shorter g.C.Ord.cmp bits g.met.C.NetworkBits.ordered (g.K.Keys.keys c.args.rows.now) s c.args.asked.now
    c.loop-end.sought c.loop-end.end h.within h.begins (h.left s known) c.args.lengths.now known c.in-Err.index n (omega arith) (c.in-Err.ensures.index s)
    (rw before (not_whole (bits c.loop-end.sought) (bits c.key-before.result) n (λ e. omega (arith, c.len.ensures.value, e)) c.shared_prefix_len-shared.ensures))
    (rw before c.shared_prefix_len-shared.ensures) c.in_err-len-in-Err.ensures)

pub returns-clause-longest : goal.returns-clause-longest
returns-clause-longest g c = λ s known.
    let h = c.loop-end.invariant in
    none_left g.C.Ord.cmp g.C.BitString.bits g.met.C.NetworkBits.ordered (g.K.Keys.keys c.args.rows.now) s c.args.asked.now
    c.loop-end.sought c.loop-end.end h.within h.begins (h.left s known) (omega arith)
