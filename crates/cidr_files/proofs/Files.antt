-- A file that is written is cut into what was written.
use Rattle.std.proofs.Common.{◌≡◌, refl, sym, ◌∙◌, ap, ap₂, subst, arith, ℕ, zero, suc, ◌+◌, ◌*◌, ◌^◌, ◌<◌, ◌≤◌, List, [], ◌∷◌, ◌++◌, length, get_or, map, drop}
use Rattle.std.proofs.lemmas.List.{append-nil, drop_at, length-append, length-map}
use Rattle.std.specs.List.{zip}
use Rattle.cidr_lookup.specs.Keys.{key_networks}
use Rattle.cidr_lookup.specs.declared.key.Key.{Key}
use Rattle.cidr_lookup.proofs.Numbers.{length_networks}
use Rattle.cidr_lookup.specs.Tables.{IsLookupTable}
use Rattle.cidr_lookup.proofs.Fits.{table_fits}
use Rattle.cidr_files.specs.Contents.{AreContents, HasRows, HasZerosBetween, key_addresses, counts_of, head_of, lengths_of, parts_written}
use Rattle.cidr_files.specs.Layout.{IsLaidOut, bytes_behind, counts_in, header, ipv4_counts, ipv4_parts, ipv4_sizes, ipv6_counts, ipv6_parts, ipv6_sizes, magic, parts_by_size, padded_room, sizes_of, version, wide_words, words}
use Rattle.cidr_files.specs.Spelling.{length-spelled, length-wide_bytes, length-word_bytes, spells_wide, spells_words, wide_bytes, word_bytes, words-spelled}
use Rattle.cidr_files.specs.Tables.{AreOffsets, HasFewWords, IsFile, IsSmall, IsStoredTable, stored_networks}
use Rattle.cidr_files.specs.Written.{AreBelow, joined_parts, spelled}
use Rattle.cidr_files.specs.declared.contents.Contents.{Contents}
use Rattle.cidr_files.specs.declared.layout.Counts.{Counts}
use Rattle.cidr_files.proofs.Joined.{behind-joined, length-joined, parts_of-joined}
use Rattle.cidr_files.proofs.KeyRows.{same_words}

module _ (a b : Counts) (ipv4 ipv6 : List (List ℕ)) (bytes : List ℕ) (below : AreBelow (2 ^ 32) (head_of a b))
    (is : bytes ≡ spelled word_bytes (head_of a b) ++ (joined_parts ipv4 ++ joined_parts ipv6))
    (sizes_a : map length ipv4 ≡ sizes_of 4 a) (sizes_b : map length ipv6 ≡ sizes_of 16 b) where
  words_are : words bytes ≡ head_of a b ++ words (joined_parts ipv4 ++ joined_parts ipv6)
  words_are = ap words is ∙ words-spelled (head_of a b) below (joined_parts ipv4 ++ joined_parts ipv6)

  pub counts_a : ipv4_counts bytes ≡ a
  counts_a = ap (λ ws. counts_in ws 4) words_are

  pub counts_b : ipv6_counts bytes ≡ b
  counts_b = ap (λ ws. counts_in ws 10) words_are

  size_a : ipv4_sizes bytes ≡ map length ipv4
  size_a = ap (sizes_of 4) counts_a ∙ sym sizes_a

  size_b : ipv6_sizes bytes ≡ map length ipv6
  size_b = ap (sizes_of 16) counts_b ∙ sym sizes_b

  head_size : length (spelled word_bytes (head_of a b)) ≡ header
  head_size = length-spelled word_bytes 4 length-word_bytes (head_of a b)

  behind_head : drop header bytes ≡ joined_parts ipv4 ++ joined_parts ipv6
  behind_head = ap (drop header) is ∙ drop_at (spelled word_bytes (head_of a b)) (joined_parts ipv4 ++ joined_parts ipv6) header head_size

  pub parts_a : ipv4_parts bytes ≡ ipv4
  parts_a = ap₂ parts_by_size size_a behind_head ∙ parts_of-joined ipv4 (joined_parts ipv6)

  pub parts_b : ipv6_parts bytes ≡ ipv6
  parts_b =
      ap₂ parts_by_size size_b (ap₂ bytes_behind size_a behind_head ∙ (behind-joined ipv4 (joined_parts ipv6) ∙ sym (append-nil (joined_parts ipv6))))
      ∙ parts_of-joined ipv6 []

  pub zeros_between : HasZerosBetween bytes
  zeros_between =
      is ∙ ap₂ (λ (ws ps : List ℕ). spelled word_bytes ws ++ ps) (ap₂ head_of (sym counts_a) (sym counts_b))
      (ap₂ (λ (x y : List (List ℕ)). joined_parts x ++ joined_parts y) (sym parts_a) (sym parts_b))

  pub laid_out : IsLaidOut bytes
  laid_out = record {
    magic_is = ap (λ ws. get_or ws 0 0) words_are;
    version_is = ap (λ ws. get_or ws 1 0) words_are;
    long =
        let rest = length-append (joined_parts ipv4) (joined_parts ipv6) in
        let all = ap length is ∙ length-append (spelled word_bytes (head_of a b)) (joined_parts ipv4 ++ joined_parts ipv6) in
        let rooms : padded_room (ipv4_sizes bytes) + padded_room (ipv6_sizes bytes) ≡ length (joined_parts ipv4) + length (joined_parts ipv6) =
        ap₂ (λ x y. padded_room x + padded_room y) size_a size_b ∙ sym (ap₂ (λ x y. x + y) (length-joined ipv4) (length-joined ipv6)) in
        omega (arith, all, rest, rooms, head_size);
  }

-- ---- the parts of a table
-- networks are their addresses and their lengths
zip-networks : {W : Type 0} (value : W → ℕ) (keys : List (Key W)) → zip (key_addresses value keys) (lengths_of keys) ≡ key_networks value keys
zip-networks value [] = refl
zip-networks value (key ∷ keys) = ap (λ rest. (value key.address, key.len) ∷ rest) (zip-networks value keys)

-- the address of each key is that of a network, and so is its length
address-network : {W : Type 0} (value : W → ℕ) (keys : List (Key W)) (i : ℕ) → i < length keys
    → get_or (key_addresses value keys) i 0 ≡ (get_or (key_networks value keys) i (0, 0)).0
address-network value [] i l = absurd (omega arith)
address-network value (key ∷ keys) zero l = refl
address-network value (key ∷ keys) (suc i) l = address-network value keys i (omega arith)

length-network : {W : Type 0} (value : W → ℕ) (keys : List (Key W)) (i : ℕ) → i < length keys
    → get_or (lengths_of keys) i 0 ≡ (get_or (key_networks value keys) i (0, 0)).1
length-network value [] i l = absurd (omega arith)
length-network value (key ∷ keys) zero l = refl
length-network value (key ∷ keys) (suc i) l = length-network value keys i (omega arith)

module _ {W : Type 0} (w padding : ℕ) (value : W → ℕ) (contents : Contents W) (good : AreContents w padding value contents) where
  pub addresses_below : AreBelow (2 ^ w) (key_addresses value contents.rows.now.keys.now)
  addresses_below = λ k l.
      let within : k < length contents.rows.now.keys.now = omega (arith, length-map contents.rows.now.keys.now (λ (key : Key W). value key.address)) in
      omega (
        arith,
        address-network value contents.rows.now.keys.now k within,
        (good.table.keys.each k (omega (arith, length_networks value contents.rows.now.keys.now))).within,
      )

  pub lengths_below : w ≤ 128 → AreBelow 256 (lengths_of contents.rows.now.keys.now)
  lengths_below wide = λ k l.
      let within : k < length contents.rows.now.keys.now = omega (arith, length-map contents.rows.now.keys.now (λ (key : Key W). key.len)) in
      omega (
        arith,
        length-network value contents.rows.now.keys.now k within,
        (good.table.keys.each k (omega (arith, length_networks value contents.rows.now.keys.now))).fits,
      )

  words_below : AreBelow (2 ^ 32) contents.first.now × AreBelow (2 ^ 32) contents.words.now
  words_below = table_fits w padding contents.steps (key_networks value contents.rows.now.keys.now) contents.first.now contents.words.now good.table good.nodes

  pub offsets_below : AreBelow (2 ^ 32) contents.rows.now.offsets.now
  offsets_below = λ k l.
      let o = good.offsets in
      omega (arith, o.many, o.ascending k (length contents.rows.now.keys.now) (omega (arith, o.many)) (omega arith), o.last, good.sizes)

  module _ (size : ℕ) (numbers : List ℕ → List ℕ) (bytes : ℕ → List ℕ) (long : (n : ℕ) → length (bytes n) ≡ size)
      (spells : (ns : List ℕ) → AreBelow (2 ^ w) ns → numbers (spelled bytes ns) ≡ ns) where
    pub sizes_are : map length (parts_written value bytes contents) ≡ sizes_of size (counts_of contents)
    sizes_are =
        let c = contents in
        let word = length-spelled word_bytes 4 length-word_bytes in
        ap₂ ◌∷◌ (word c.first.now)
        (ap₂ ◌∷◌ (word c.words.now)
        (ap₂ ◌∷◌ (length-spelled bytes size long (key_addresses value c.rows.now.keys.now) ∙ ap (λ n. size * n) (length-map c.rows.now.keys.now (λ (key : Key W). value key.address)))
        (ap₂ ◌∷◌ (length-map c.rows.now.keys.now (λ (key : Key W). key.len))
        (ap₂ ◌∷◌ (word c.rows.now.offsets.now ∙ ap (λ n. 4 * n) good.offsets.many) refl))))

    pub has_rows : HasRows numbers (parts_written value bytes contents) value contents.rows.now
    has_rows = record {
      networks_are =
          ap (λ xs. zip xs (lengths_of contents.rows.now.keys.now)) (spells (key_addresses value contents.rows.now.keys.now) addresses_below)
          ∙ zip-networks value contents.rows.now.keys.now;
      offsets_are = spells_words contents.rows.now.offsets.now offsets_below;
      values_are = refl;
    }

    count : length (stored_networks numbers (parts_written value bytes contents)) ≡ length contents.rows.now.keys.now
    count = ap length has_rows.networks_are ∙ length_networks value contents.rows.now.keys.now

    pub is_table : IsStoredTable w padding numbers (parts_written value bytes contents) contents.steps
    is_table =
        let h = has_rows in
        record {
          look_ups =
              same_words (λ ks fs ns. IsLookupTable w padding contents.steps ks fs ns) (key_networks value contents.rows.now.keys.now)
              (stored_networks numbers (parts_written value bytes contents)) contents.first.now (words (spelled word_bytes contents.first.now))
              contents.words.now (words (spelled word_bytes contents.words.now)) (sym h.networks_are) (sym (spells_words contents.first.now words_below.0))
              (sym (spells_words contents.words.now words_below.1)) good.table;
          offsets =
              subst (λ (n : ℕ). AreOffsets (words (spelled word_bytes contents.rows.now.offsets.now)) n (length contents.rows.now.values.now)) (sym count)
              (subst (λ (xs : List ℕ). AreOffsets xs (length contents.rows.now.keys.now) (length contents.rows.now.values.now)) (sym h.offsets_are) good.offsets);
        }

    pub has_few_words : HasFewWords numbers (parts_written value bytes contents)
    has_few_words = record {
      rows = omega (arith, count, good.rows);
      entries = omega (arith, ap length (spells_words contents.first.now words_below.0), good.entries);
      nodes = omega (arith, ap length (spells_words contents.words.now words_below.1), good.nodes);
    }

-- ---- both tables
below_more : (bound n : ℕ) (ns : List ℕ) → n < bound → AreBelow bound ns → AreBelow bound (n ∷ ns)
below_more bound n ns first others zero l = first
below_more bound n ns first others (suc k) l = others k (omega arith)

none_below : (bound : ℕ) → AreBelow bound []
none_below bound = λ k l. absurd (omega arith)

-- the words of a header's counts
counts_below : (c : Counts) (rest : List ℕ) → c.rows < 2 ^ 32 → c.entries < 2 ^ 32 → c.words < 2 ^ 32 → c.steps < 2 ^ 32 → c.values < 2 ^ 32 → AreBelow (2 ^ 32) rest
    → AreBelow (2 ^ 32) (c.rows ∷ c.entries ∷ c.words ∷ c.steps ∷ c.values ∷ 0 ∷ rest)
counts_below c rest rows entries nodes steps values others =
    let bound = 2 ^ 32 in
    below_more bound c.rows (c.entries ∷ c.words ∷ c.steps ∷ c.values ∷ 0 ∷ rest) rows
    (below_more bound c.entries (c.words ∷ c.steps ∷ c.values ∷ 0 ∷ rest) entries
    (below_more bound c.words (c.steps ∷ c.values ∷ 0 ∷ rest) nodes
    (below_more bound c.steps (c.values ∷ 0 ∷ rest) steps
    (below_more bound c.values (0 ∷ rest) values
    (below_more bound 0 rest (omega arith) others)))))

module _ {A B : Type 0} (value_a : A → ℕ) (value_b : B → ℕ) (ipv4 : Contents A) (ipv6 : Contents B) (good_a : AreContents 32 4 value_a ipv4)
    (good_b : AreContents 128 2 value_b ipv6) where
  pub head_below : AreBelow (2 ^ 32) (head_of (counts_of ipv4) (counts_of ipv6))
  head_below =
      let a = counts_of ipv4 in
      let b = counts_of ipv6 in
      let bound = 2 ^ 32 in
      let tail_b = counts_below b [] (omega (arith, good_b.rows)) (omega (arith, good_b.entries)) (omega (arith, good_b.nodes)) (omega (arith, good_b.table.some)) good_b.sizes
      (none_below bound) in
      let words_b = b.rows ∷ b.entries ∷ b.words ∷ b.steps ∷ b.values ∷ 0 ∷ [] in
      let tail_a = counts_below a words_b (omega (arith, good_a.rows)) (omega (arith, good_a.entries)) (omega (arith, good_a.nodes)) (omega (arith, good_a.table.some)) good_a.sizes
      tail_b in
      let words_a = a.rows ∷ a.entries ∷ a.words ∷ a.steps ∷ a.values ∷ 0 ∷ words_b in
      below_more bound magic (version ∷ 0 ∷ 0 ∷ words_a) (omega arith)
      (below_more bound version (0 ∷ 0 ∷ words_a) (omega arith)
      (below_more bound 0 (0 ∷ words_a) (omega arith) (below_more bound 0 words_a (omega arith) tail_a)))

  module _ (bytes : List ℕ) (is : bytes ≡ spelled word_bytes (head_of (counts_of ipv4) (counts_of ipv6))
      ++ (joined_parts (parts_written value_a word_bytes ipv4) ++ joined_parts (parts_written value_b wide_bytes ipv6))) where
    pub is_file : IsFile bytes × IsSmall bytes × HasRows words (ipv4_parts bytes) value_a ipv4.rows.now
        × HasRows wide_words (ipv6_parts bytes) value_b ipv6.rows.now × HasZerosBetween bytes
        × ((ipv4_counts bytes).steps ≡ ipv4.steps) × ((ipv6_counts bytes).steps ≡ ipv6.steps)
    is_file =
        let a = counts_of ipv4 in
        let b = counts_of ipv6 in
        let p4 = parts_written value_a word_bytes ipv4 in
        let p6 = parts_written value_b wide_bytes ipv6 in
        let s4 = sizes_are 32 4 value_a ipv4 good_a 4 words word_bytes length-word_bytes spells_words in
        let s6 = sizes_are 128 2 value_b ipv6 good_b 16 wide_words wide_bytes length-wide_bytes spells_wide in
        let t4 = is_table 32 4 value_a ipv4 good_a 4 words word_bytes length-word_bytes spells_words in
        let t6 = is_table 128 2 value_b ipv6 good_b 16 wide_words wide_bytes length-wide_bytes spells_wide in
        let h4 = has_rows 32 4 value_a ipv4 good_a 4 words word_bytes length-word_bytes spells_words in
        let h6 = has_rows 128 2 value_b ipv6 good_b 16 wide_words wide_bytes length-wide_bytes spells_wide in
        let f4 = has_few_words 32 4 value_a ipv4 good_a 4 words word_bytes length-word_bytes spells_words in
        let f6 = has_few_words 128 2 value_b ipv6 good_b 16 wide_words wide_bytes length-wide_bytes spells_wide in
        let e4 = parts_a a b p4 p6 bytes head_below is s4 s6 in
        let e6 = parts_b a b p4 p6 bytes head_below is s4 s6 in
        let steps4 : (ipv4_counts bytes).steps ≡ ipv4.steps = ap (λ (c : Counts). c.steps) (counts_a a b p4 p6 bytes head_below is s4 s6) in
        let steps6 : (ipv6_counts bytes).steps ≡ ipv6.steps = ap (λ (c : Counts). c.steps) (counts_b a b p4 p6 bytes head_below is s4 s6) in
        let has4 : HasRows words (ipv4_parts bytes) value_a ipv4.rows.now = subst (λ (ps : List (List ℕ)). HasRows words ps value_a ipv4.rows.now) (sym e4) h4 in
        let has6 : HasRows wide_words (ipv6_parts bytes) value_b ipv6.rows.now = subst (λ (ps : List (List ℕ)). HasRows wide_words ps value_b ipv6.rows.now) (sym e6) h6 in (
          record {
            laid_out = laid_out a b p4 p6 bytes head_below is s4 s6;
            ipv4 = subst (λ (ps : List (List ℕ)). IsStoredTable 32 4 words ps (ipv4_counts bytes).steps) (sym e4) (subst (λ (n : ℕ). IsStoredTable 32 4 words p4 n) (sym steps4) t4);
            ipv6 = subst (λ (ps : List (List ℕ)). IsStoredTable 128 2 wide_words ps (ipv6_counts bytes).steps) (sym e6) (subst (λ (n : ℕ). IsStoredTable 128 2 wide_words p6 n) (sym steps6) t6);
          },
          record {
            ipv4 = subst (λ (ps : List (List ℕ)). HasFewWords words ps) (sym e4) f4;
            ipv6 = subst (λ (ps : List (List ℕ)). HasFewWords wide_words ps) (sym e6) f6;
          },
          has4,
          has6,
          zeros_between a b p4 p6 bytes head_below is s4 s6,
          steps4,
          steps6,
        )
