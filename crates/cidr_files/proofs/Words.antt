-- The words that bytes spell.
use Rattle.std.proofs.Common.{◌≡◌, sym, ◌∙◌, ap, arith, ℕ, ◌<◌, ◌≤◌, List, length, get_or, map}
use Rattle.std.proofs.lemmas.List.{get_or-map, get_or_past, length-map}
use Rattle.std.specs.Int.{from_le_bytes, w32}
use Rattle.cidr_files.specs.Layout.{chunks, word_at}

-- a word that is read
pub read_word : (bytes : List ℕ) (spelled : List (List ℕ)) (k : ℕ) (d : List ℕ) → spelled ≡ chunks 4 bytes → k < length spelled
    → from_le_bytes w32 (get_or spelled k d) ≡ word_at bytes k
read_word bytes spelled k d e l =
    sym (get_or-map (from_le_bytes w32) spelled k d 0 l) ∙ ap (λ xs. get_or (map (from_le_bytes w32) xs) k 0) e

-- and none behind the last
pub no_word : (bytes : List ℕ) (spelled : List (List ℕ)) (k : ℕ) → spelled ≡ chunks 4 bytes → length spelled ≤ k → 0 ≡ word_at bytes k
no_word bytes spelled k e l =
    sym (get_or_past (map (from_le_bytes w32) spelled) k 0 (omega (arith, length-map spelled (from_le_bytes w32))))
    ∙ ap (λ xs. get_or (map (from_le_bytes w32) xs) k 0) e
