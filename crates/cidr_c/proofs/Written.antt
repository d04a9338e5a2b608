-- Rows of both families, and those of a file.
use Rattle.std.proofs.Common.{◌≡◌, ◌≢◌, refl, sym, ◌∙◌, ap, ap₂, subst, arith, inl, inr, lt-ltb, le-ltb, ℕ, zero, suc, ◌+◌, ◌-◌, ◌^◌, ◌<◌, ◌≤◌, ◌⊎◌, Bool, cond, Option, Some, None, List, [], ◌∷◌, drop, get_or, length, map, replicate, take}
use Rattle.std.proofs.lemmas.List.{drop-drop, drop-take, get_or-drop, get_or-map, get_or-replicate, get_or-take, length-drop, length-replicate, take-take}
use Rattle.std.specs.List.{AllWithin, HoldsAt, slice_range}
use Rattle.std.specs.Int.{from_le_bytes, w32}
use Rattle.std.specs.Option.{MatchOption, unwrap_or}
use Rattle.cidr_files.specs.Contents.{HasZerosBetween, IsWriteRefused}
use Rattle.cidr_files.specs.Layout.{ipv4_counts, ipv4_parts, ipv6_counts, ipv6_parts, wide_word, wide_words, words}
use Rattle.cidr_files.specs.Tables.{AreOffsets, IsFile, offsets_in, part_at, stored_networks}
use Rattle.cidr_files.specs.declared.contents.FileRows.{FileRows}
use Rattle.cidr_files.specs.declared.faults.WriteError.{WriteError}
use Rattle.cidr_files.specs.declared.faults.WriteError.TheVariants.{Table}
use Rattle.cidr_lookup.specs.Tables.{HasTooManyWords, ipv4_steps, ipv6_steps}
use Rattle.cidr_lookup.specs.declared.table.TableError.{TableError}
use Rattle.cidr_lookup.specs.declared.table.TableError.TheVariants.{TooLarge}
use Rattle.cidr_lookup.specs.Keys.{key_networks}
use Rattle.cidr_lookup.specs.declared.key.Key.{Key}
use Rattle.cidr_lookup.proofs.Numbers.{length_networks}
use Rattle.cidr_c.specs.model.Tables.{ipv4_pair, ipv6_pair}
use Rattle.cidr_c.specs.calls.Writing.{AreTooMany, AreValueOffsets, IsFileOf, IsFileWritten, IsFirstRefusedAt, bytes_of_row, ipv4_networks, ipv4_rows, ipv6_networks}
use Rattle.cidr_c.specs.declared.values.CValue.{CValue}

-- ---- how many IPv4 values stand first
pub rows_here : (vs : List CValue) (k : ℕ) (d : CValue) → k ≤ length vs → ((i : ℕ) → i < k → (get_or vs i d).tag < 64)
    → (k < length vs → 64 ≤ (get_or vs k d).tag) → k ≡ ipv4_rows vs
rows_here [] k d within before other = omega (arith, within)
rows_here (v ∷ vs) zero d within before other =
    ap (λ (b : Bool). cond b (suc (ipv4_rows vs)) 0) (sym (le-ltb v.tag 64 (other (omega arith))))
rows_here (v ∷ vs) (suc k) d within before other =
    ap suc (rows_here vs k d (omega (arith, within)) (λ i l. before (suc i) (omega (arith, l))) (λ l. other (omega (arith, l))))
    ∙ ap (λ (b : Bool). cond b (suc (ipv4_rows vs)) 0) (sym (lt-ltb v.tag 64 (before 0 (omega arith))))

-- the place of the first other value, or behind the last
pub rows_first : (vs : List CValue) (d : CValue) (place : Option ℕ) (n : ℕ)
    → MatchOption place (AllWithin (λ v. v.tag < 64) vs 0 (length vs)) (λ i. (i < length vs) × HoldsAt (λ v. 64 ≤ v.tag) vs i × AllWithin (λ v. v.tag < 64) vs 0 i)
    → n ≡ unwrap_or place (length vs) → n ≡ ipv4_rows vs
rows_first vs d (Some i) n found is =
    is ∙ rows_here vs i d (omega (arith, found.0)) (λ k l. found.2 k d (omega arith) l) (λ l. found.1 d)
rows_first vs d None n found is =
    is ∙ rows_here vs (length vs) d (omega arith) (λ k l. found k d (omega arith) l) (λ l. absurd (omega (arith, l)))

-- ---- values
-- of the first rows
pub front_value : (values : List ℕ) (end a b : ℕ) → a ≤ b → b ≤ end → slice_range (take end values) a b ≡ slice_range values a b
front_value values end a b ordered within =
    let whole : a + (end - a) ≡ end = omega arith in
    let less : b - a ≤ end - a = omega arith in
    ap (λ k. take (b - a) (drop a (take k values))) (sym whole)
    ∙ (ap (take (b - a)) (drop-take a (end - a) values) ∙ take-take (b - a) (end - a) (drop a values) less)

-- and of those behind them
pub back_value : (values : List ℕ) (from a b : ℕ) → from ≤ a → slice_range (drop from values) (a - from) (b - from) ≡ slice_range values a b
back_value values from a b within =
    let place : from + (a - from) ≡ a = omega arith in
    let size : b - from - (a - from) ≡ b - a = omega arith in
    ap₂ take size (drop-drop (a - from) from values ∙ ap (λ k. drop k values) place)

-- ---- a file
pub file_of : (networks : List CValue) (offsets values bytes : List ℕ) (k from : ℕ) → k ≡ ipv4_rows networks → k ≤ length networks
    → AreOffsets offsets (length networks) (length values) → from ≡ get_or offsets k 0 → IsFile bytes → HasZerosBetween bytes
    → (ipv4_counts bytes).steps ≡ ipv4_steps (length (ipv4_networks networks)) → (ipv6_counts bytes).steps ≡ ipv6_steps (length (ipv6_networks networks))
    → stored_networks words (ipv4_parts bytes) ≡ map ipv4_pair (take k networks)
    → stored_networks wide_words (ipv6_parts bytes) ≡ map ipv6_pair (drop k networks)
    → offsets_in (ipv4_parts bytes) ≡ take (k + 1) offsets → part_at (ipv4_parts bytes) 5 ≡ take from values
    → offsets_in (ipv6_parts bytes) ≡ map (λ offset. offset - from) (drop k offsets) → part_at (ipv6_parts bytes) 5 ≡ drop from values
    → IsFileOf networks offsets values bytes
file_of networks offsets values bytes k from k_is k_within fine from_is good zeros own4 own6 networks4 networks6 offsets4 values4 offsets6 values6 =
    let p4 = ipv4_parts bytes in
    let p6 = ipv6_parts bytes in
    record {
      file = good;
      zeros = zeros;
      ipv4_own = own4;
      ipv6_own = own6;
      ipv4 = networks4 ∙ ap (λ n. map ipv4_pair (take n networks)) k_is;
      ipv6 = networks6 ∙ ap (λ n. map ipv6_pair (drop n networks)) k_is;
      ipv4_values = λ row lt.
          let a = get_or offsets row 0 in
          let b = get_or offsets (row + 1) 0 in
          let x : get_or (offsets_in p4) row 0 ≡ a = ap (λ os. get_or os row 0) offsets4 ∙ get_or-take (k + 1) offsets row 0 (omega (arith, lt, k_is)) in
          let y : get_or (offsets_in p4) (row + 1) 0 ≡ b =
          ap (λ os. get_or os (row + 1) 0) offsets4 ∙ get_or-take (k + 1) offsets (row + 1) 0 (omega (arith, lt, k_is)) in
          let ordered : a ≤ b = fine.ascending row (row + 1) (omega arith) (omega (arith, lt, k_is, k_within)) in
          let within : b ≤ from = omega (arith, from_is, fine.ascending (row + 1) k (omega (arith, lt, k_is)) k_within) in
          ap (λ vs. slice_range vs (get_or (offsets_in p4) row 0) (get_or (offsets_in p4) (row + 1) 0)) values4
          ∙ (ap₂ (λ m n. slice_range (take from values) m n) x y ∙ front_value values from a b ordered within);
      ipv6_values = λ row lt.
          let a = get_or offsets (k + row) 0 in
          let b = get_or offsets (k + row + 1) 0 in
          let size = length-drop k offsets in
          let next : k + (row + 1) ≡ k + row + 1 = omega arith in
          let x : get_or (offsets_in p6) row 0 ≡ a - from =
          ap (λ os. get_or os row 0) offsets6
          ∙ (get_or-map (λ (offset : ℕ). offset - from) (drop k offsets) row 0 0 (omega (arith, size, fine.many, lt, k_is))
          ∙ ap (λ n. n - from) (get_or-drop k offsets row 0)) in
          let y : get_or (offsets_in p6) (row + 1) 0 ≡ b - from =
          ap (λ os. get_or os (row + 1) 0) offsets6
          ∙ (get_or-map (λ (offset : ℕ). offset - from) (drop k offsets) (row + 1) 0 0 (omega (arith, size, fine.many, lt, k_is))
          ∙ ap (λ n. n - from) (get_or-drop k offsets (row + 1) 0 ∙ ap (λ n. get_or offsets n 0) next)) in
          let within : from ≤ a = omega (arith, from_is, fine.ascending k (k + row) (omega arith) (omega (arith, lt, k_is))) in
          ap (λ vs. slice_range vs (get_or (offsets_in p6) row 0) (get_or (offsets_in p6) (row + 1) 0)) values6
          ∙ (ap₂ (λ m n. slice_range (drop from values) m n) x y
          ∙ (back_value values from a b within ∙ ap (λ n. bytes_of_row offsets values (n + row)) k_is));
    }

-- a look-up table with too many words
many_words : {W : Type 0} (w padding : ℕ) (steps : ℕ → ℕ) (value : W → ℕ) (keys : List (Key W)) (networks : List (ℕ × ℕ)) → key_networks value keys ≡ networks
    → HasTooManyWords w padding (steps (length keys)) (key_networks value keys) → HasTooManyWords w padding (steps (length networks)) networks
many_words w padding steps value keys networks is many =
    subst (λ (ns : List (ℕ × ℕ)). HasTooManyWords w padding (steps (length ns)) ns) is
    (subst (λ (k : ℕ). HasTooManyWords w padding (steps k) (key_networks value keys)) (sym (length_networks value keys)) many)

refused_words : (networks : List CValue) (ipv4 : FileRows (List ℕ)) (ipv6 : FileRows (List (List ℕ))) → IsWriteRefused ipv4 ipv6 (Table TooLarge)
    → key_networks (from_le_bytes w32) ipv4.keys.now ≡ ipv4_networks networks → key_networks wide_word ipv6.keys.now ≡ ipv6_networks networks → AreTooMany networks
refused_words networks ipv4 ipv6 (inl (fine, (few, ascend, many))) is4 is6 =
    inr (inl (many_words 32 4 ipv4_steps (from_le_bytes w32) ipv4.keys.now (ipv4_networks networks) is4 many))
refused_words networks ipv4 ipv6 (inr (before, (fine, (few, ascend, many)))) is4 is6 =
    inr (inr (many_words 128 2 ipv6_steps wide_word ipv6.keys.now (ipv6_networks networks) is6 many))

pub too_many_words : (networks : List CValue) (ipv4 : FileRows (List ℕ)) (ipv6 : FileRows (List (List ℕ))) (error : WriteError) (why : TableError)
    → IsWriteRefused ipv4 ipv6 error → error ≡ Table why → why ≡ TooLarge
    → key_networks (from_le_bytes w32) ipv4.keys.now ≡ ipv4_networks networks → key_networks wide_word ipv6.keys.now ≡ ipv6_networks networks → AreTooMany networks
too_many_words networks ipv4 ipv6 error why refused is large is4 is6 =
    refused_words networks ipv4 ipv6
    (subst (λ (e : WriteError). IsWriteRefused ipv4 ipv6 e) (is ∙ ap Table large) refused) is4 is6

-- empty values lie one behind the other
pub empty_fine : (n : ℕ) → AreOffsets (replicate (n + 1) 0) n 0
empty_fine n = record {
  many = length-replicate {A = ℕ} (n + 1) 0;
  first = get_or-replicate {A = ℕ} (n + 1) 0 0 0 (omega arith);
  ascending = λ i k le within. omega (arith, get_or-replicate {A = ℕ} (n + 1) i 0 0 (omega (arith, le, within)), get_or-replicate {A = ℕ} (n + 1) k 0 0 (omega (arith, within)));
  last = get_or-replicate {A = ℕ} (n + 1) n 0 0 (omega arith);
}

-- ---- what a call that writes leaves
module _ (networks : List CValue) (offsets values old : List ℕ) (count : ℕ) where
  -- the values are wrong
  pub values_refused : length networks < 2 ^ 31 → ¬ (AreValueOffsets networks offsets values) → IsFileWritten networks offsets values old old count count 22
  values_refused few wrong = record {
    file = λ z. absurd (omega (arith, z));
    fits = λ z. absurd (omega (arith, z));
    behind = λ _. refl;
    many = λ z. absurd (omega (arith, z));
    values_wrong = λ _. (few, wrong);
    refused = λ z. absurd (omega (arith, z));
    room = λ z. absurd (omega (arith, z));
    codes = inr (inr (inl refl));
    stays = λ _. refl;
    count_stays = λ _. refl;
  }

  -- the look-up table has too many words
  pub words_refused : AreTooMany networks → IsFileWritten networks offsets values old old count count 15
  words_refused many = record {
    file = λ z. absurd (omega (arith, z));
    fits = λ z. absurd (omega (arith, z));
    behind = λ _. refl;
    many = λ _. many;
    values_wrong = λ z. absurd (omega (arith, z));
    refused = λ z. absurd (omega (arith, z));
    room = λ z. absurd (omega (arith, z));
    codes = inr (inl refl);
    stays = λ _. refl;
    count_stays = λ _. refl;
  }

  -- a network is refused
  pub network_refused : (place : ℕ) → length networks < 2 ^ 31 → AreValueOffsets networks offsets values → IsFirstRefusedAt networks place
      → IsFileWritten networks offsets values old old count place 10
  network_refused place few fine refused = record {
    file = λ z. absurd (omega (arith, z));
    fits = λ z. absurd (omega (arith, z));
    behind = λ _. refl;
    many = λ z. absurd (omega (arith, z));
    values_wrong = λ z. absurd (omega (arith, z));
    refused = λ _. (few, fine, refused);
    room = λ z. absurd (omega (arith, z));
    codes = inr (inr (inr (inr (inl refl))));
    stays = λ _. refl;
    count_stays = λ other. absurd (elim other [
      | inl z ↦ omega (arith, z)
      | inr more ↦ elim more [ inl z ↦ omega (arith, z) | inr z ↦ omega (arith, z) ]
    ]);
  }

  not_other : (code other : ℕ) → (code ≡ 0) ⊎ (code ≡ 11) → 0 < other → other ≢ 11 → code ≡ other → ⊥
  not_other code other codes some full z = elim codes [ inl a ↦ omega (arith, a, z) | inr b ↦ omega (arith, b, z) ]

  -- the bytes are written, or there is too little room
  pub bytes_put : (new bytes : List ℕ) (code : ℕ) → (code ≡ 0 → take (length bytes) new ≡ bytes)
      → (code ≡ 0 → drop (length bytes) new ≡ drop (length bytes) old) → (code ≡ 0 → length bytes ≤ length old)
      → (code ≡ 11 → (length old < length bytes) × (new ≡ old)) → (code ≡ 0) ⊎ (code ≡ 11) → length new ≡ length old
      → IsFileOf networks offsets values bytes → IsFileWritten networks offsets values old new count (length bytes) code
  bytes_put new bytes code written behind fits room codes size is = record {
    file = λ z. subst (λ (bs : List ℕ). IsFileOf networks offsets values bs) (sym (written z)) is;
    fits = λ z. omega (arith, fits z, size);
    behind = behind;
    many = λ z. absurd (not_other code 15 codes (omega arith) (omega arith) z);
    values_wrong = λ z. absurd (not_other code 22 codes (omega arith) (omega arith) z);
    refused = λ z. absurd (not_other code 10 codes (omega arith) (omega arith) z);
    room = λ z. (bytes, is, refl, omega (arith, (room z).0, size));
    codes = elim codes [ inl z ↦ inl z | inr z ↦ inr (inr (inr (inr (inr z)))) ];
    stays = λ not. elim codes [ inl z ↦ absurd (not z) | inr z ↦ (room z).1 ];
    count_stays = λ other. absurd (elim other [
      | inl z ↦ not_other code 15 codes (omega arith) (omega arith) z
      | inr more ↦ elim more [
        | inl z ↦ not_other code 22 codes (omega arith) (omega arith) z
        | inr z ↦ not_other code 12 codes (omega arith) (omega arith) z
      ]
    ]);
  }
