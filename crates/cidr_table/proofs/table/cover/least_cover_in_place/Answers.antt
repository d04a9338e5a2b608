use Rattle.std.proofs.Common.{◌≡◌, ◌+◌, ◌<◌, length, refl, subst, arith, rules}
use Rattle.cidr_table.proofs.InPlace.{same_first, same_later, same_written}
use Rattle.cidr_table.proofs.Passing.{IsPassed, passed_none, passed_all, passed_skip, passed_push, own_cover, key_pushed, key_behind}
use Rattle.cidr_table.proofs.table.cover.least_cover_in_place.Goals as goal
use Rattle.cidr_table.proofs.table.cover.least_cover_in_place.Goals.{then-not-is_covered, else-not-is_covered}

pub loop-i-init : goal.loop-i-init
loop-i-init g c =
    record {
      passed = passed_none g.C.BitString.bits 129 c.args.networks.now c.args.networks.now;
      rest = refl;
    }

pub is_covered-requires-clause-reduced : goal.is_covered-requires-clause-reduced
is_covered-requires-clause-reduced g c =
    let l = c.loop-i in
    let keys = c.args.networks.now in
    let key = c.index-networks-i.result in
    own_cover g.C.BitString.bits g.C.Ord.cmp g.met.C.NetworkBits.ordered 129 keys c.requires l.networks l.i l.n
    l.invariant.passed key (search rules) (same_first l.networks keys l.i key l.invariant.rest c.index-networks-i.is)

pub is_covered-requires-clause-before : goal.is_covered-requires-clause-before
is_covered-requires-clause-before g c =
    let l = c.loop-i in
    let keys = c.args.networks.now in
    let key = c.index-networks-i.result in
    key_behind g.C.BitString.bits g.C.Ord.cmp g.met.C.NetworkBits.ordered 129 keys c.requires l.networks l.i l.n
    l.invariant.passed key (search rules) (same_first l.networks keys l.i key l.invariant.rest c.index-networks-i.is)

pub merge-n-requires-clause-pushed : goal.merge-n-requires-clause-pushed
merge-n-requires-clause-pushed g c =
    let l = c.loop-i in
    let keys = c.args.networks.now in
    let key = c.index-networks-i.result in
    let room : l.n < length l.networks = omega (arith, l.invariant.passed.fits) in
    key_pushed g.C.BitString.bits g.C.Ord.cmp g.met.C.NetworkBits.ordered 129 keys c.requires l.networks l.i l.n
    l.invariant.passed key (search rules) (same_first l.networks keys l.i key l.invariant.rest c.index-networks-i.is)
    room c.is_covered.result c.is_covered.ensures c.if-not-is_covered.true c.has_at_most_129_bits.ensures

pub loop-i-preserved : goal.loop-i-preserved
loop-i-preserved g c =
    let l = c.loop-i in
    let keys = c.args.networks.now in
    let key = c.index-networks-i.result in
    let room : l.n < length l.networks = omega (arith, l.invariant.passed.fits) in
    let within : l.i < length keys = omega arith in
    let is = same_first l.networks keys l.i key l.invariant.rest c.index-networks-i.is in
    elim c.if-not-is_covered.branch [
      | then-not-is_covered w ↦
          rw (w.networks-is, w.n-is) (record {
            passed = passed_push g.C.BitString.bits g.C.Ord.cmp g.met.C.NetworkBits.ordered 129 keys c.requires
                l.networks l.i l.n l.invariant.passed key within is
                room w.merge-n.new.out w.merge-n.result w.merge-n.ensures.fewer
                w.merge-n.ensures.cover w.merge-n.ensures.before;
            rest = same_written l.networks keys w.merge-n.new.out l.i l.n key l.invariant.passed.fits l.invariant.rest
                w.merge-n.ensures.rest;
          })
      | else-not-is_covered w ↦
          rw (w.networks-is, w.n-is) (record {
            passed = passed_skip g.C.BitString.bits g.C.Ord.cmp g.met.C.NetworkBits.ordered 129 keys c.requires
                l.networks l.i l.n l.invariant.passed key within is
                (c.is_covered.ensures.0 w.if-not-is_covered.false);
            rest = same_later l.networks keys l.i (l.i + 1) (omega arith) l.invariant.rest;
          })
    ]

pub returns-clause-cover : goal.returns-clause-cover
returns-clause-cover g c =
    let keys = c.args.networks.now in
    let l = c.loop-i in
    let at_end : l.i ≡ length keys = omega arith in
    passed_all g.C.BitString.bits 129 keys l.networks l.n
    (subst (λ i. IsPassed g.C.BitString.bits 129 keys l.networks i l.n) at_end l.invariant.passed)
