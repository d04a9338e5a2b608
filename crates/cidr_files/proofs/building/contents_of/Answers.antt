use Rattle.std.proofs.Common.{sym, ap, refl, arith, length}
use Rattle.cidr_lookup.specs.Keys.{key_networks}
use Rattle.cidr_lookup.specs.Tables.{IsLookupTable}
use Rattle.cidr_files.proofs.KeyRows.{same_words}
use Rattle.cidr_files.proofs.building.contents_of.Goals as goal

pub returns-clause-contents : goal.returns-clause-contents
returns-clause-contents g c =
    let h = c.requires in
    let table = c.args.table.now in
    let networks = key_networks g.W.Address.value c.args.rows.now.keys.now in
    let first = c.as_slice.ensures.value in
    let nodes = c.as_slice-2.ensures.value in
    record {
      table =
          same_words (λ ks fs ns. IsLookupTable g.W.Address.width g.W.Address.padding table.steps ks fs ns) networks networks table.first.items c.as_slice.result.now
          table.words.items c.as_slice-2.result.now refl (sym first) (sym nodes) h.table_is;
      offsets = h.offsets;
      rows = h.keys;
      entries = omega (arith, ap length first, h.entries);
      nodes = omega (arith, ap length nodes, h.nodes);
      sizes = h.sizes;
    }
