-- What is found in the parts of a table, is found in a file.
use Rattle.std.proofs.Common.{◌≡◌, refl, sym, ap, subst, arith, inl, inr, ℕ, zero, suc, ◌+◌, ◌-◌, ◌*◌, ◌^◌, ◌<◌, ◌≤◌, nat_lt, if◌then◌else◌, List, length, drop, Option, Some, None}
use Rattle.std.proofs.lemmas.List.{length-take}
use Rattle.std.proofs.lemmas.Option.{get_or_from_slice_get, slice_get_within}
use Rattle.std.proofs.lemmas.Slice.Zip.{length-zip}
use Rattle.cidr.specs.model.Bits.{bits}
use Rattle.cidr_table.specs.model.Prefixes.{IsLongestMatch}
use Rattle.cidr_lookup.specs.Keys.{prefix_bits, row_behind}
use Rattle.cidr_lookup.specs.Tables.{IsLookupTable}
use Rattle.cidr_files.specs.Layout.{ipv4_counts, ipv4_parts, ipv6_counts, ipv6_parts, wide_words, words}
use Rattle.cidr_files.specs.Tables.{AreLookUps, AreOffsets, offsets_in, part_at, stored_networks, value_in}
use Rattle.cidr_files.proofs.KeyRows.{same_words}
use Rattle.cidr_c.specs.calls.Calls.{IsYesOrNo}
use Rattle.cidr_c.specs.model.Files.{LieInBytes, IsFoundInFile, IsFoundInParts, IsInNetworks, IsInSet, IsInSetAt, IsMatched, bytes_at, parts_at}
use Rattle.cidr_c.specs.model.Tables.{no_row}
use Rattle.cidr_c.specs.model.Values.{IsLow, number_in}
use Rattle.cidr_c.specs.declared.files.CFile.{CFile}
use Rattle.cidr_c.specs.declared.files.CFileTable.{CFileTable}
use Rattle.cidr_c.specs.declared.files.CFound.{CFound}
use Rattle.cidr_c.specs.declared.values.CValue.{CValue}
use Rattle.cidr_c.proofs.Places.{ipv4_at, ipv4_inside, ipv6_at, ipv6_inside, moved}

-- ---- the row of an answer
pub row_behind_some : (answer : ℕ) → 0 < answer → Some (answer - 1) ≡ row_behind answer
row_behind_some zero some = absurd (omega arith)
row_behind_some (suc row) some = ap Some (omega arith)

pub row_behind_none : (answer : ℕ) → answer ≡ 0 → None ≡ row_behind answer
row_behind_none answer none = ap row_behind (sym none)

-- ---- in a table
-- a table has at most as many rows as it says
pub few_rows : (numbers : List ℕ → List ℕ) (size : ℕ) (table : CFileTable) (bytes : List ℕ)
    → length (stored_networks numbers (parts_at size table bytes)) ≤ table.rows
few_rows numbers size table bytes =
    omega (
      arith,
      length-zip (numbers (part_at (parts_at size table bytes) 2)) (bytes_at bytes table.lengths table.rows),
      length-take table.rows (drop table.lengths bytes),
    )

module _ (w padding : ℕ) (numbers : List ℕ → List ℕ) (size : ℕ) (table : CFileTable) (bytes : List ℕ) (address : ℕ) where
  -- what is longest among the networks of words, is so among those of the parts
  pub longest_there : (result : Option ℕ) (first nodes : List ℕ)
      → ((networks : List (ℕ × ℕ)) → IsLookupTable w padding table.steps networks first nodes → IsLongestMatch (prefix_bits w) (bits w address) networks result)
      → first ≡ words (bytes_at bytes table.first (4 * table.entries)) → nodes ≡ words (bytes_at bytes table.words (4 * table.words_len))
      → AreLookUps w padding numbers (parts_at size table bytes) table.steps
      → IsLongestMatch (prefix_bits w) (bits w address) (stored_networks numbers (parts_at size table bytes)) result
  longest_there result first nodes finds f n good =
      let networks = stored_networks numbers (parts_at size table bytes) in
      finds networks
      (same_words (λ ks fs ns. IsLookupTable w padding table.steps ks fs ns) networks networks (words (bytes_at bytes table.first (4 * table.entries))) first
      (words (bytes_at bytes table.words (4 * table.words_len))) nodes refl (sym f) (sym n) good)

  -- and it is one of the rows
  pub row_within : (row : ℕ) → IsLongestMatch (prefix_bits w) (bits w address) (stored_networks numbers (parts_at size table bytes)) (Some row) → row < table.rows
  row_within row m =
      let networks = stored_networks numbers (parts_at size table bytes) in
      omega (arith, slice_get_within networks row m.key m.here, few_rows numbers size table bytes)

  pub row_there : (row value value_len : ℕ) → row < table.rows → row + 1 < 2 ^ 32 → value + value_len ≤ length bytes
      → (LieInBytes table bytes → AreLookUps w padding numbers (parts_at size table bytes) table.steps
      → IsLongestMatch (prefix_bits w) (bits w address) (stored_networks numbers (parts_at size table bytes)) (Some row))
      → (LieInBytes table bytes → AreOffsets (offsets_in (parts_at size table bytes)) (length (stored_networks numbers (parts_at size table bytes)))
      (length (bytes_at bytes table.values table.values_len)) → row < length (stored_networks numbers (parts_at size table bytes))
      → bytes_at bytes value value_len ≡ value_in (parts_at size table bytes) row)
      → IsFoundInParts w padding numbers size table bytes address (record { value = value; value_len = value_len; row = row })
  row_there row value value_len within fits inside longest is = record {
    inside = inside;
    nothing = λ none. absurd (omega (arith, none, fits));
    within = λ _. within;
    matched = λ places good.
        let m = longest places good.look_ups in
        inl (m, is places good.offsets (slice_get_within (stored_networks numbers (parts_at size table bytes)) row m.key m.here));
  }

  pub nothing_there : (found : CFound) → found ≡ record { value = 0; value_len = 0; row = no_row }
      → (LieInBytes table bytes → AreLookUps w padding numbers (parts_at size table bytes) table.steps
      → IsLongestMatch (prefix_bits w) (bits w address) (stored_networks numbers (parts_at size table bytes)) None)
      → IsFoundInParts w padding numbers size table bytes address found
  nothing_there found is none =
      subst (λ (f : CFound). IsFoundInParts w padding numbers size table bytes address f) (sym is)
      (record {
        inside = omega arith;
        nothing = λ _. (refl, refl);
        within = λ some. absurd (some refl);
        matched = λ places good. inr (refl, none places good.look_ups);
      })

  -- whether there is one
  pub has_one : (row : ℕ) → (LieInBytes table bytes → AreLookUps w padding numbers (parts_at size table bytes) table.steps
      → IsLongestMatch (prefix_bits w) (bits w address) (stored_networks numbers (parts_at size table bytes)) (Some row))
      → IsInSetAt w padding numbers size table bytes address 1
  has_one row longest = record {
    codes = omega arith;
    answer = λ places good.
        let networks = stored_networks numbers (parts_at size table bytes) in
        let m = longest places good.look_ups in (
          omega arith,
          (λ _. (m.key, (row, slice_get_within networks row m.key m.here, get_or_from_slice_get networks row m.key m.key m.here), m.begins), λ _. refl),
        );
  }

  pub has_none : (LieInBytes table bytes → AreLookUps w padding numbers (parts_at size table bytes) table.steps
      → IsLongestMatch (prefix_bits w) (bits w address) (stored_networks numbers (parts_at size table bytes)) None)
      → IsInSetAt w padding numbers size table bytes address 0
  has_none none = record {
    codes = omega arith;
    answer = λ places good. (omega arith, (λ one. absurd (omega (arith, one)), λ found. absurd (none places good.look_ups found.0 found.1 found.2)));
  }

-- ---- in a file
module _ (bytes : List ℕ) (file : CFile) (asked : CValue) (a : ℕ) where
  pub ipv4_found : (found : CFound) → asked.tag ≡ 32 → IsLow asked → a ≡ asked.low
      → IsFoundInParts 32 4 words 4 file.ipv4 bytes a found → IsFoundInFile bytes file asked found
  ipv4_found found tag low is h = record {
    inside = h.inside;
    nothing = h.nothing;
    within = λ some. subst (λ (t : ℕ). found.row < (if nat_lt t 64 then file.ipv4.rows else file.ipv6.rows)) (sym tag) (h.within some);
    address = λ _. inl (tag, low);
    ipv4 = λ good same _ _.
        moved 32 4 words (λ ps n. IsMatched 32 (stored_networks words ps) (value_in ps) bytes n found) (parts_at 4 file.ipv4 bytes) (ipv4_parts bytes)
        file.ipv4.steps (ipv4_counts bytes).steps a asked.low (ipv4_at bytes file same) (ap (λ (f : CFile). f.ipv4.steps) same) is
        (h.matched (ipv4_inside bytes file same good.laid_out)) good.ipv4;
    ipv6 = λ _ _ other. absurd (omega (arith, tag, other));
  }

  pub ipv6_found : (found : CFound) → asked.tag ≡ 192 → a ≡ number_in asked
      → IsFoundInParts 128 2 wide_words 16 file.ipv6 bytes a found → IsFoundInFile bytes file asked found
  ipv6_found found tag is h = record {
    inside = h.inside;
    nothing = h.nothing;
    within = λ some. subst (λ (t : ℕ). found.row < (if nat_lt t 64 then file.ipv4.rows else file.ipv6.rows)) (sym tag) (h.within some);
    address = λ _. inr tag;
    ipv4 = λ _ _ other _. absurd (omega (arith, tag, other));
    ipv6 = λ good same _.
        moved 128 2 wide_words (λ ps n. IsMatched 128 (stored_networks wide_words ps) (value_in ps) bytes n found) (parts_at 16 file.ipv6 bytes)
        (ipv6_parts bytes) file.ipv6.steps (ipv6_counts bytes).steps a (number_in asked) (ipv6_at bytes file same)
        (ap (λ (f : CFile). f.ipv6.steps) same) is
        (h.matched (ipv6_inside bytes file same good.laid_out)) good.ipv6;
  }

  pub ipv4_has : (code : ℕ) → asked.tag ≡ 32 → IsLow asked → a ≡ asked.low
      → IsInSetAt 32 4 words 4 file.ipv4 bytes a code → IsInSet bytes file asked code
  ipv4_has code tag low is h = record {
    codes = h.codes;
    address = λ _. inl (tag, low);
    ipv4 = λ good same _ _.
        moved 32 4 words (λ ps n. IsYesOrNo code (IsInNetworks 32 (stored_networks words ps) n)) (parts_at 4 file.ipv4 bytes) (ipv4_parts bytes)
        file.ipv4.steps (ipv4_counts bytes).steps a asked.low (ipv4_at bytes file same) (ap (λ (f : CFile). f.ipv4.steps) same) is
        (h.answer (ipv4_inside bytes file same good.laid_out)) good.ipv4;
    ipv6 = λ _ _ other. absurd (omega (arith, tag, other));
  }

  pub ipv6_has : (code : ℕ) → asked.tag ≡ 192 → a ≡ number_in asked
      → IsInSetAt 128 2 wide_words 16 file.ipv6 bytes a code → IsInSet bytes file asked code
  ipv6_has code tag is h = record {
    codes = h.codes;
    address = λ _. inr tag;
    ipv4 = λ _ _ other _. absurd (omega (arith, tag, other));
    ipv6 = λ good same _.
        moved 128 2 wide_words (λ ps n. IsYesOrNo code (IsInNetworks 128 (stored_networks wide_words ps) n)) (parts_at 16 file.ipv6 bytes)
        (ipv6_parts bytes) file.ipv6.steps (ipv6_counts bytes).steps a (number_in asked) (ipv6_at bytes file same)
        (ap (λ (f : CFile). f.ipv6.steps) same) is
        (h.answer (ipv6_inside bytes file same good.laid_out)) good.ipv6;
  }
