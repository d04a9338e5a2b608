use Rattle.std.proofs.Common.{refl, ◌∙◌, ap, arith, Some, map}
use Rattle.std.specs.Int.{from_le_bytes, w32}
use Rattle.cidr_files.specs.Layout.{words}
use Rattle.cidr_c.proofs.Founds.{longest_there, row_within}
use Rattle.cidr_c.proofs.files.row_at.Goals as goal

pub returns-in_err-first-clause-longest : goal.returns-in_err-first-clause-longest
returns-in_err-first-clause-longest g c = λ size inside good. absurd (omega (arith, inside.first, c.in_err-first.ensures.none refl))

pub returns-in_err-words-clause-longest : goal.returns-in_err-words-clause-longest
returns-in_err-words-clause-longest g c = λ size inside good. absurd (omega (arith, inside.words, c.in_err-words.ensures.none refl))

pub returns-then-row-table-clause-longest : goal.returns-then-row-table-clause-longest
returns-then-row-table-clause-longest g c = λ size inside good.
    let numbers = map (from_le_bytes w32) in
    let w = g.W.Address.width in
    let padding = g.W.Address.padding in
    let row = c.in_ok-row.row in
    let m = longest_there w padding g.W.FileAddress.numbers size c.args.table.now c.args.bytes.now (g.W.Address.value c.args.address) (Some row)
    (numbers c.as_chunks.result.0.now) (numbers c.as_chunks-2.result.0.now) c.in_ok-row.ensures
    (ap numbers c.as_chunks.ensures.front ∙ ap words c.in_ok-first.ensures.part)
    (ap numbers c.as_chunks-2.ensures.front ∙ ap words c.in_ok-words.ensures.part)
    good in
    absurd (omega (arith, row_within w padding g.W.FileAddress.numbers size c.args.table.now c.args.bytes.now (g.W.Address.value c.args.address) row m, c.if-row-table.true))
