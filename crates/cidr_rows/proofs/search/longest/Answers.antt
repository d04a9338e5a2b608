use Rattle.cidr_rows.proofs.ByBits.{sorted_keys}
use Rattle.cidr_rows.proofs.search.longest.Goals as goal

pub returns-clause-longest : goal.returns-clause-longest
returns-clause-longest g c = λ s known.
    c.longest_key.ensures.longest (sorted_keys g.C.Ord.cmp g.C.BitString.bits g.met.C.NetworkBits.ordered (g.K.Keys.keys c.args.rows.now) s) known
