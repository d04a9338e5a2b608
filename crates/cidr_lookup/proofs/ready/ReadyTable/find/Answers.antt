use Rattle.std.proofs.Common.{ap, arith, List, Some, None}
use Rattle.std.specs.Map.{keys_of}
use Rattle.cidr_table.specs.model.FiniteMap.{StoredRows}
use Rattle.cidr_lookup.proofs.Networks.{first_match, host_match, nothing}
use Rattle.cidr_lookup.proofs.ready.ReadyTable.find.Goals as goal

pub returns-in_err-index : goal.returns-in_err-index
returns-in_err-index g c =
    let rows : StoredRows g.row.C.Denot g.row.V.Denot → List (g.row.C.Denot × g.row.V.Denot) = λ t. t.rows in
    rw c.from_residual.ensures (nothing g.C.Number.Address.width g.C.BitString.bits (g.C.BitString.bits c.args.asked.now) (keys_of c.args.self.now.rows)
    (first_match g.C.Number.Address.width g.C.BitString.bits g.C.Number.Address.padding c.self.inside.words.steps c.self.inside.words.first.items c.self.inside.words.words.items
    c.as_slice-first.result.now c.as_slice-words.result.now (g.C.Number.Address.value c.of-key.result.address) (g.C.BitString.bits c.args.asked.now)
    c.self.inside.table.rows c.args.self.now.rows None c.self.invariant c.as_slice-first.ensures.value c.as_slice-words.ensures.value (ap rows c.self.view_is)
    c.of-key.ensures.address (omega (arith, c.of-key.ensures.len, c.of-key.ensures.fits)) c.in_err-index.ensures))

pub returns-then-key-width : goal.returns-then-key-width
returns-then-key-width g c =
    let rows : StoredRows g.row.C.Denot g.row.V.Denot → List (g.row.C.Denot × g.row.V.Denot) = λ t. t.rows in
    host_match g.C.Number.Address.width g.C.BitString.bits (g.C.BitString.bits c.args.asked.now) (keys_of c.args.self.now.rows) c.in_ok-index.index
    (omega (arith, c.of-key.ensures.len, c.width.ensures.value, c.if-key-width.true))
    (first_match g.C.Number.Address.width g.C.BitString.bits g.C.Number.Address.padding c.self.inside.words.steps c.self.inside.words.first.items c.self.inside.words.words.items
    c.as_slice-first.result.now c.as_slice-words.result.now (g.C.Number.Address.value c.of-key.result.address) (g.C.BitString.bits c.args.asked.now)
    c.self.inside.table.rows c.args.self.now.rows (Some c.in_ok-index.index) c.self.invariant c.as_slice-first.ensures.value c.as_slice-words.ensures.value (ap rows c.self.view_is)
    c.of-key.ensures.address (omega (arith, c.of-key.ensures.len, c.of-key.ensures.fits)) c.in_ok-index.ensures)

pub shorter-requires : goal.shorter-requires
shorter-requires g c =
    let rows : StoredRows g.row.C.Denot g.row.V.Denot → List (g.row.C.Denot × g.row.V.Denot) = λ t. t.rows in
    first_match g.C.Number.Address.width g.C.BitString.bits g.C.Number.Address.padding c.self.inside.words.steps c.self.inside.words.first.items c.self.inside.words.words.items
    c.as_slice-first.result.now c.as_slice-words.result.now (g.C.Number.Address.value c.of-key.result.address) (g.C.BitString.bits c.args.asked.now)
    c.self.inside.table.rows c.args.self.now.rows (Some c.in_ok-index.index) c.self.invariant c.as_slice-first.ensures.value c.as_slice-words.ensures.value (ap rows c.self.view_is)
    c.of-key.ensures.address (omega (arith, c.of-key.ensures.len, c.of-key.ensures.fits)) c.in_ok-index.ensures
