use Rattle.std.proofs.Common.{◌≡◌, refl, sym, ap, arith, length, map}
use Rattle.std.proofs.lemmas.List.{length-map}
use Rattle.std.proofs.lemmas.Option.{slice_get_within}
use Rattle.std.proofs.lemmas.Slice.Zip.{length-zip}
use Rattle.std.specs.Int.{from_le_bytes, w32}
use Rattle.cidr_lookup.specs.Tables.{IsLookupTable}
use Rattle.cidr_files.specs.Layout.{words}
use Rattle.cidr_files.specs.Tables.{stored_networks, parts_in}
use Rattle.cidr_files.proofs.KeyRows.{same_words}
use Rattle.cidr_files.proofs.looking.longest_row.Goals as goal

pub returns-then-row-min-clause-longest : goal.returns-then-row-min-clause-longest
returns-then-row-min-clause-longest g c = λ good.
    let w = g.W.Address.width in
    let padding = g.W.Address.padding in
    let p = c.args.part.now in
    let networks = stored_networks g.W.FileAddress.numbers (parts_in p) in
    let first : map (from_le_bytes w32) c.as_chunks.result.0.now ≡ words p.first.now = ap (map (from_le_bytes w32)) c.as_chunks.ensures.front in
    let nodes : map (from_le_bytes w32) c.as_chunks-2.result.0.now ≡ words p.words.now = ap (map (from_le_bytes w32)) c.as_chunks-2.ensures.front in
    let table : IsLookupTable w padding p.steps networks (map (from_le_bytes w32) c.as_chunks.result.0.now) (map (from_le_bytes w32) c.as_chunks-2.result.0.now) =
    same_words (λ ks fs ns. IsLookupTable w padding p.steps ks fs ns) networks networks (words p.first.now) _ (words p.words.now) _ refl (sym first) (sym nodes) good in
    let m = c.in_ok-row.ensures networks table in
    absurd (omega (
      arith,
      slice_get_within networks c.in_ok-row.row m.key m.here,
      length-zip (g.W.FileAddress.numbers p.addresses.now) p.lengths.now,
      ap length c.addresses-addresses.ensures,
      length-map c.addresses-addresses.result.now g.W.Address.value,
      c.min.ensures,
      c.if-row-min.true,
    ))

pub returns-clause-within : goal.returns-clause-within
returns-clause-within g c =
    let p = c.args.part.now in
    omega (
      arith,
      length-zip (g.W.FileAddress.numbers p.addresses.now) p.lengths.now,
      ap length c.addresses-addresses.ensures,
      length-map c.addresses-addresses.result.now g.W.Address.value,
      c.min.ensures,
      c.if-row-min.false,
    )
