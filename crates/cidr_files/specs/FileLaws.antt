-- Rows have one file.
use Rattle.std.proofs.Common.{◌≡◌, sym, ◌∙◌, ap, ap₂, subst, ℕ, List, [], ◌∷◌, ◌++◌, length}
use Rattle.std.specs.Int.{from_le_bytes, w32}
use Rattle.cidr_lookup.specs.Keys.{key_networks}
use Rattle.cidr_lookup.specs.Tables.{IsLookupTable}
use Rattle.cidr_lookup.proofs.Tables.{one_table}
use Rattle.cidr_files.specs.Contents.{AreContents, IsFileOfRows, counts_of, head_of, key_addresses, lengths_of, parts_written}
use Rattle.cidr_files.specs.Layout.{wide_word}
use Rattle.cidr_files.specs.Spelling.{wide_bytes, word_bytes}
use Rattle.cidr_files.specs.Written.{joined_parts, spelled}
use Rattle.cidr_files.specs.declared.contents.Contents.{Contents}
use Rattle.cidr_files.specs.declared.contents.FileRows.{FileRows}
use Rattle.cidr_files.specs.declared.layout.Counts.{Counts}

module _ {W : Type 0} (w padding : ℕ) (value : W → ℕ) (a b : Contents W) (good_a : AreContents w padding value a) (good_b : AreContents w padding value b)
    (rows : a.rows.now ≡ b.rows.now) (steps : a.steps ≡ b.steps) where
  same_words : (a.first.now ≡ b.first.now) × (a.words.now ≡ b.words.now)
  same_words =
      let table : IsLookupTable w padding a.steps (key_networks value a.rows.now.keys.now) b.first.now b.words.now =
      subst (λ (r : FileRows W). IsLookupTable w padding a.steps (key_networks value r.keys.now) b.first.now b.words.now) (sym rows)
      (subst (λ (n : ℕ). IsLookupTable w padding n (key_networks value b.rows.now.keys.now) b.first.now b.words.now) (sym steps) good_b.table) in
      one_table w padding a.steps (key_networks value a.rows.now.keys.now) a.first.now a.words.now b.first.now b.words.now good_a.table table

  same_counts : counts_of a ≡ counts_of b
  same_counts =
      let counts : FileRows W → List ℕ → List ℕ → ℕ → Counts =
      λ r f n s. record { rows = length r.keys.now; entries = length f; words = length n; steps = s; values = length r.values.now } in
      ap₂ (λ (r : FileRows W) (f : List ℕ). counts r f a.words.now a.steps) rows same_words.0
      ∙ ap₂ (λ (n : List ℕ) (s : ℕ). counts b.rows.now b.first.now n s) same_words.1 steps

  same_parts : (bytes : ℕ → List ℕ) → parts_written value bytes a ≡ parts_written value bytes b
  same_parts bytes =
      let parts : FileRows W → List ℕ → List ℕ → List (List ℕ) =
      λ r f n. spelled word_bytes f ∷ spelled word_bytes n ∷ spelled bytes (key_addresses value r.keys.now) ∷ lengths_of r.keys.now
      ∷ spelled word_bytes r.offsets.now ∷ r.values.now ∷ [] in
      ap₂ (λ (r : FileRows W) (f : List ℕ). parts r f a.words.now) rows same_words.0 ∙ ap (λ (n : List ℕ). parts b.rows.now b.first.now n) same_words.1

pub one_file : (ipv4 : FileRows (List ℕ)) (ipv6 : FileRows (List (List ℕ))) (bytes bytes' : List ℕ) → IsFileOfRows ipv4 ipv6 bytes → IsFileOfRows ipv4 ipv6 bytes'
    → bytes ≡ bytes'
one_file ipv4 ipv6 bytes bytes' one other =
    let rows4 = one.ipv4_rows ∙ sym other.ipv4_rows in
    let rows6 = one.ipv6_rows ∙ sym other.ipv6_rows in
    let steps4 = one.ipv4_own ∙ sym other.ipv4_own in
    let steps6 = one.ipv6_own ∙ sym other.ipv6_own in
    let counts4 = same_counts 32 4 (from_le_bytes w32) one.ipv4_contents other.ipv4_contents one.ipv4_are other.ipv4_are rows4 steps4 in
    let counts6 = same_counts 128 2 wide_word one.ipv6_contents other.ipv6_contents one.ipv6_are other.ipv6_are rows6 steps6 in
    let parts4 = same_parts 32 4 (from_le_bytes w32) one.ipv4_contents other.ipv4_contents one.ipv4_are other.ipv4_are rows4 steps4 word_bytes in
    let parts6 = same_parts 128 2 wide_word one.ipv6_contents other.ipv6_contents one.ipv6_are other.ipv6_are rows6 steps6 wide_bytes in
    one.bytes_are
    ∙ (ap₂ (λ (head rest : List ℕ). head ++ rest) (ap₂ (λ (x y : Counts). spelled word_bytes (head_of x y)) counts4 counts6)
    (ap₂ (λ (x y : List (List ℕ)). joined_parts x ++ joined_parts y) parts4 parts6)
    ∙ sym other.bytes_are)
