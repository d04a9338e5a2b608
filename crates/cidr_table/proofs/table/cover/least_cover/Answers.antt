use Rattle.std.proofs.Common.{◌≡◌, ◌<◌, length, subst, arith}
use Rattle.std.proofs.lemmas.Map.Entries.{length-keys_of}
use Rattle.std.specs.Map.{keys_of}
use Rattle.cidr_table.proofs.Passing.{IsPassed, passed_none, passed_all, passed_skip, passed_push, own_cover, key_pushed, key_behind, key_within, key_read}
use Rattle.cidr_table.proofs.table.cover.least_cover.Goals as goal
use Rattle.cidr_table.proofs.table.cover.least_cover.Goals.{then-not-is_covered, else-not-is_covered}

pub loop-row-init : goal.loop-row-init
loop-row-init g c = passed_none g.C.BitString.bits 129 (keys_of c.args.rows.now) c.args.out.now

pub is_covered-requires-clause-reduced : goal.is_covered-requires-clause-reduced
is_covered-requires-clause-reduced g c =
    let l = c.loop-row in
    own_cover g.C.BitString.bits g.C.Ord.cmp g.met.C.NetworkBits.ordered 129 (keys_of c.args.rows.now)
    c.requires.sorted l.out l.row-index l.n l.invariant c.row-item.result.0 (key_within c.args.rows.now l.row-index c.loop-row-test.true)
    (key_read c.args.rows.now l.row-index c.row-item.result c.loop-row-test.true c.row-item.is)

pub is_covered-requires-clause-before : goal.is_covered-requires-clause-before
is_covered-requires-clause-before g c =
    let l = c.loop-row in
    key_behind g.C.BitString.bits g.C.Ord.cmp g.met.C.NetworkBits.ordered 129 (keys_of c.args.rows.now)
    c.requires.sorted l.out l.row-index l.n l.invariant c.row-item.result.0 (key_within c.args.rows.now l.row-index c.loop-row-test.true)
    (key_read c.args.rows.now l.row-index c.row-item.result c.loop-row-test.true c.row-item.is)

pub merge-n-requires-clause-pushed : goal.merge-n-requires-clause-pushed
merge-n-requires-clause-pushed g c =
    let l = c.loop-row in
    let room : l.n < length l.out = omega (arith, l.invariant.fits, l.auto.out, c.requires.room, c.loop-row-test.true) in
    key_pushed g.C.BitString.bits g.C.Ord.cmp g.met.C.NetworkBits.ordered 129 (keys_of c.args.rows.now)
    c.requires.sorted l.out l.row-index l.n l.invariant c.row-item.result.0 (key_within c.args.rows.now l.row-index c.loop-row-test.true)
    (key_read c.args.rows.now l.row-index c.row-item.result c.loop-row-test.true c.row-item.is)
    room c.is_covered.result c.is_covered.ensures c.if-not-is_covered.true c.has_at_most_129_bits.ensures

pub loop-row-preserved : goal.loop-row-preserved
loop-row-preserved g c =
    let l = c.loop-row in
    let room : l.n < length l.out = omega (arith, l.invariant.fits, l.auto.out, c.requires.room, c.loop-row-test.true) in
    elim c.if-not-is_covered.branch [
      | then-not-is_covered w ↦
          rw (w.out-is, w.n-is) (passed_push g.C.BitString.bits g.C.Ord.cmp g.met.C.NetworkBits.ordered 129 (keys_of c.args.rows.now)
          c.requires.sorted l.out l.row-index l.n l.invariant c.row-item.result.0 (key_within c.args.rows.now l.row-index c.loop-row-test.true)
          (key_read c.args.rows.now l.row-index c.row-item.result c.loop-row-test.true c.row-item.is)
          room w.merge-n.new.out w.merge-n.result w.merge-n.ensures.fewer
          w.merge-n.ensures.cover w.merge-n.ensures.before)
      | else-not-is_covered w ↦
          rw (w.out-is, w.n-is) (passed_skip g.C.BitString.bits g.C.Ord.cmp g.met.C.NetworkBits.ordered 129 (keys_of c.args.rows.now)
          c.requires.sorted l.out l.row-index l.n l.invariant c.row-item.result.0 (key_within c.args.rows.now l.row-index c.loop-row-test.true)
          (key_read c.args.rows.now l.row-index c.row-item.result c.loop-row-test.true c.row-item.is)
          (c.is_covered.ensures.0 w.if-not-is_covered.false))
    ]

pub returns-clause-cover : goal.returns-clause-cover
returns-clause-cover g c =
    let keys = keys_of c.args.rows.now in
    let at_end : c.loop-row.row-index ≡ length keys = omega
    (arith, c.loop-row-test.false, c.loop-row.auto.row-index-end, length-keys_of c.args.rows.now) in
    passed_all g.C.BitString.bits 129 keys c.loop-row.out c.loop-row.n
    (subst (λ i. IsPassed g.C.BitString.bits 129 keys c.loop-row.out i c.loop-row.n) at_end c.loop-row.invariant)
