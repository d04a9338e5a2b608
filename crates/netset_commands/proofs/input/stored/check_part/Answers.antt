use Rattle.std.proofs.Common.{◌≡◌, ◌<◌, refl, subst, arith, length, ℕ}
use Rattle.cidr_files.specs.Tables.{parts_in, stored_networks, value_in}
use Rattle.cidr_lists.specs.Forms.{Fits}
use Rattle.netset_commands.proofs.StoredFiles.{fit_more, rows_counted, unfit_at, values_fit}
use Rattle.netset_commands.proofs.input.stored.check_part.Goals as goal

pub returns-in-Err : goal.returns-in-Err
returns-in-Err g c =
    let parts = parts_in c.args.part.now in
    let networks = stored_networks g.W.FileAddress.numbers parts in
    let many : length networks ≡ c.min-row-end.result =
    rows_counted g.W.Address.value g.W.FileAddress.numbers parts c.addresses-addresses.result.now c.min-row-end.result c.addresses-addresses.ensures c.min-row-end.ensures in
    let l : c.loop-row.row < length networks = omega (arith, c.loop-row-test.true, many) in
    unfit_at g.W.Address.width (value_in parts) c.args.format networks c.loop-row.row _ c.stored_value.result.now c.in-Err.e l refl c.loop-row.invariant
    (c.stored_value.ensures (length networks) l c.requires.offsets) c.in-Err.ensures

pub loop-row-preserved : goal.loop-row-preserved
loop-row-preserved g c =
    let parts = parts_in c.args.part.now in
    let networks = stored_networks g.W.FileAddress.numbers parts in
    let many : length networks ≡ c.min-row-end.result =
    rows_counted g.W.Address.value g.W.FileAddress.numbers parts c.addresses-addresses.result.now c.min-row-end.result c.addresses-addresses.ensures c.min-row-end.ensures in
    let l : c.loop-row.row < length networks = omega (arith, c.loop-row-test.true, many) in
    fit_more g.W.Address.width (value_in parts) c.args.format c.loop-row.row c.loop-row.invariant
    (subst (Fits c.args.format) (c.stored_value.ensures (length networks) l c.requires.offsets) c.in_default.ensures)

pub returns : goal.returns
returns g c =
    let parts = parts_in c.args.part.now in
    let networks = stored_networks g.W.FileAddress.numbers parts in
    let many : length networks ≡ c.min-row-end.result =
    rows_counted g.W.Address.value g.W.FileAddress.numbers parts c.addresses-addresses.result.now c.min-row-end.result c.addresses-addresses.ensures c.min-row-end.ensures in
    values_fit g.W.Address.width (value_in parts) c.args.format networks 0
    (λ i l. subst (λ (k : ℕ). Fits c.args.format (value_in parts k)) (omega arith) (c.loop-row.invariant i (omega (arith, l, many, c.loop-row-test.false))))
