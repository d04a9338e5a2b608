use Rattle.std.proofs.Common.{◌≡◌, arith, length}
use Rattle.std.proofs.lemmas.List.{length-map}
use Rattle.std.specs.Map.{keys_of}
use Rattle.cidr_table.proofs.Reached.{reached_at, reached_gap}
use Rattle.cidr_table.proofs.table.lookups.upto_back.Goals as goal

pub returns-in-Ok-clause-reached : goal.returns-in-Ok-clause-reached
returns-in-Ok-clause-reached g c = λ any.
    let size : length (keys_of c.args.rows.now) ≡ length c.args.rows.now = length-map c.args.rows.now (λ (x : g.row.C.Denot × g.row.V.Denot). x.0) in
    reached_at g.C.Ord.cmp g.C.BitString.bits g.met.C.NetworkBits.ordered (keys_of c.args.rows.now) c.requires.sorted any c.args.asked.now
    c.args.end c.in-Ok.index g.met.C.Ord.total (omega (arith, size)) (rw c.new.ensures.rows at c.in-Ok.ensures.index)

pub returns-in-Err-clause-reached : goal.returns-in-Err-clause-reached
returns-in-Err-clause-reached g c = λ any.
    let size : length (keys_of c.args.rows.now) ≡ length c.args.rows.now = length-map c.args.rows.now (λ (x : g.row.C.Denot × g.row.V.Denot). x.0) in
    reached_gap g.C.Ord.cmp g.C.BitString.bits g.met.C.NetworkBits.ordered (keys_of c.args.rows.now) c.requires.sorted any c.args.asked.now
    c.args.end c.in-Err.index (omega (arith, size)) (rw c.new.ensures.rows at c.in-Err.ensures.index)
