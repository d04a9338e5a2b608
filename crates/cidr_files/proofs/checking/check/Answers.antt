use Rattle.std.proofs.Common.{◌≡◌, refl, ◌∙◌, ap, subst, arith, List, ℕ, length, map}
use Rattle.std.specs.Int.{from_le_bytes, w32}
use Rattle.std.specs.List.{zip}
use Rattle.cidr_lookup.specs.Keys.{key_networks}
use Rattle.cidr_lookup.proofs.Numbers.{length_networks}
use Rattle.cidr_lookup.specs.Faults.{IsFault}
use Rattle.cidr_lookup.specs.Tables.{IsLookupTable}
use Rattle.cidr_files.specs.FaultLaws.{wrong_words}
use Rattle.cidr_files.specs.Layout.{words}
use Rattle.cidr_files.specs.Tables.{AreOffsets, stored_networks, parts_in}
use Rattle.cidr_files.proofs.KeyRows.{same_words}
use Rattle.cidr_files.proofs.checking.check.Goals as goal

pub returns-in-Err-clause-refused : goal.returns-in-Err-clause-refused
returns-in-Err-clause-refused g c =
    let w = g.W.Address.width in
    let padding = g.W.Address.padding in
    let value = g.W.Address.value in
    let p = c.args.part.now in
    let keys = c.in-Ok.ensures ∙ ap (λ (xs : List ℕ). zip xs p.lengths.now) c.addresses-addresses.ensures in
    let first : map (from_le_bytes w32) c.as_chunks.result.0.now ≡ words p.first.now = ap (map (from_le_bytes w32)) c.as_chunks.ensures.front in
    let nodes : map (from_le_bytes w32) c.as_chunks-2.result.0.now ≡ words p.words.now = ap (map (from_le_bytes w32)) c.as_chunks-2.ensures.front in
    wrong_words w padding g.W.FileAddress.numbers (parts_in p) p.steps c.in-Err.fault
    (same_words (λ ks fs ns. IsFault w padding p.steps ks fs ns c.in-Err.fault)
    (key_networks value c.as_slice.result.now) (stored_networks g.W.FileAddress.numbers (parts_in p)) _ (words p.first.now) _ (words p.words.now)
    (ap (key_networks value) c.as_slice.ensures.value ∙ keys) first nodes c.in-Err.ensures.refused)

pub returns-clause-table : goal.returns-clause-table
returns-clause-table g c =
    let w = g.W.Address.width in
    let padding = g.W.Address.padding in
    let value = g.W.Address.value in
    let p = c.args.part.now in
    let networks = stored_networks g.W.FileAddress.numbers (parts_in p) in
    let keys : key_networks value c.in-Ok.keys.items ≡ networks =
    c.in-Ok.ensures ∙ ap (λ (xs : List ℕ). zip xs p.lengths.now) c.addresses-addresses.ensures in
    let first : map (from_le_bytes w32) c.as_chunks.result.0.now ≡ words p.first.now = ap (map (from_le_bytes w32)) c.as_chunks.ensures.front in
    let nodes : map (from_le_bytes w32) c.as_chunks-2.result.0.now ≡ words p.words.now = ap (map (from_le_bytes w32)) c.as_chunks-2.ensures.front in
    let count : c.len.result ≡ length networks =
    omega (arith, c.len.ensures, c.in-Ok.keys.ok.0, length_networks value c.in-Ok.keys.items, ap length keys) in
    let offsets : map (from_le_bytes w32) c.as_chunks-3.result.0.now ≡ words p.offsets.now = ap (map (from_le_bytes w32)) c.as_chunks-3.ensures.front in
    record {
      look_ups =
          same_words (λ ks fs ns. IsLookupTable w padding p.steps ks fs ns)
          (key_networks value c.as_slice.result.now) networks _ (words p.first.now) _ (words p.words.now)
          (ap (key_networks value) c.as_slice.ensures.value ∙ keys) first nodes c.in_default-check.ensures.table;
      offsets =
          subst (λ (n : ℕ). AreOffsets (words p.offsets.now) n (length p.values.now)) count
          (subst (λ (xs : List ℕ). AreOffsets xs c.len.result (length p.values.now)) offsets (c.if-not-are_offsets.ensures.0 refl));
    }
