use Rattle.std.proofs.Common.{arith, length}
use Rattle.cidr_rows.proofs.ByBits.{place_by_bits, sorted_keys}
use Rattle.cidr_rows.proofs.search.find.Goals as goal

pub returns-clause-index : goal.returns-clause-index
returns-clause-index g c = λ s.
    let keys = g.K.Keys.keys c.args.rows.now in
    let cmp = g.C.Ord.cmp in
    let ordered = g.met.C.NetworkBits.ordered in
    place_by_bits cmp g.C.BitString.bits ordered keys c.args.key.now (length keys) (omega arith) c.place_of.result
    (rw c.len.ensures at (c.place_of.ensures.index (sorted_keys cmp g.C.BitString.bits ordered keys s)))
