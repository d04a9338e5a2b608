-- The bytes of numbers spell these numbers.
use Rattle.std.proofs.Common.{◌≡◌, refl, sym, ◌∙◌, ap, ap₂, arith, ℕ, suc, ◌+◌, ◌*◌, ◌/◌, ◌%◌, ◌^◌, ◌<◌, List, [], ◌∷◌, ◌++◌, length, map}
use Rattle.std.proofs.Math.Nat.{add_comm, mul-suc, mul-zero}
use Rattle.std.proofs.lemmas.List.{append-nil, append_assoc, length-append}
use Rattle.std.proofs.lemmas.Nat.{div-add-mod', from_le_bytes-to_le_bytes_4, from_le_bytes-to_le_bytes_8, mod_below, pow_pos, shr_below}
use Rattle.std.specs.Int.{from_le_bytes, to_le_bytes, w32, w64}
use Rattle.std.specs.Simd.{first_chunks}
use Rattle.cidr_files.specs.Layout.{chunks, wide_word, wide_words, words}
use Rattle.cidr_files.specs.Written.{AreBelow, spelled}

-- the bytes of an IPv4 address or another word, and of an IPv6 address
unfoldable pub word_bytes : ℕ → List ℕ
word_bytes n = to_le_bytes w32 n

unfoldable pub wide_bytes : ℕ → List ℕ
wide_bytes n = to_le_bytes w64 (n / 2 ^ 64) ++ to_le_bytes w64 (n % 2 ^ 64)

-- all but the first are below, too
others_below : (bound n : ℕ) (ns : List ℕ) → AreBelow bound (n ∷ ns) → AreBelow bound ns
others_below bound n ns below = λ k l. below (suc k) (omega arith)

-- ---- words
word_more : (n : ℕ) (rest : List ℕ) → words (to_le_bytes w32 n ++ rest) ≡ from_le_bytes w32 (to_le_bytes w32 n) ∷ words rest
word_more n rest =
    let e : length (to_le_bytes w32 n ++ rest) / 4 ≡ suc (length rest / 4) = omega arith in
    ap (λ k. map (from_le_bytes w32) (first_chunks 4 k (to_le_bytes w32 n ++ rest))) e

pub words-spelled : (ns : List ℕ) → AreBelow (2 ^ 32) ns → (rest : List ℕ) → words (spelled word_bytes ns ++ rest) ≡ ns ++ words rest
unfolding spelled word_bytes
words-spelled [] below rest = refl
words-spelled (n ∷ ns) below rest =
    word_more n (spelled word_bytes ns ++ rest)
    ∙ ap₂ ◌∷◌ (from_le_bytes-to_le_bytes_4 n (below 0 (omega arith))) (words-spelled ns (others_below (2 ^ 32) n ns below) rest)

pub spells_words : (ns : List ℕ) → AreBelow (2 ^ 32) ns → words (spelled word_bytes ns) ≡ ns
spells_words ns below = ap words (sym (append-nil (spelled word_bytes ns))) ∙ (words-spelled ns below [] ∙ append-nil ns)

-- ---- IPv6 addresses
eights_more : (h l : ℕ) (rest : List ℕ)
    → chunks 8 (to_le_bytes w64 h ++ (to_le_bytes w64 l ++ rest)) ≡ to_le_bytes w64 h ∷ (to_le_bytes w64 l ∷ chunks 8 rest)
eights_more h l rest =
    let bytes = to_le_bytes w64 h ++ (to_le_bytes w64 l ++ rest) in
    let e : length bytes / 8 ≡ suc (suc (length rest / 8)) = omega arith in
    ap (λ k. first_chunks 8 k bytes) e

pairs_more : (a b : List ℕ) (rest : List (List ℕ)) → chunks 2 (a ∷ (b ∷ rest)) ≡ (a ∷ (b ∷ [])) ∷ chunks 2 rest
pairs_more a b rest =
    let e : length (a ∷ (b ∷ rest)) / 2 ≡ suc (length rest / 2) = omega arith in
    ap (λ k. first_chunks 2 k (a ∷ (b ∷ rest))) e

wide_more : (n : ℕ) (rest : List ℕ) → n < 2 ^ 128
    → wide_words (to_le_bytes w64 (n / 2 ^ 64) ++ (to_le_bytes w64 (n % 2 ^ 64) ++ rest)) ≡ n ∷ wide_words rest
wide_more n rest fits =
    let h = n / 2 ^ 64 in
    let l = n % 2 ^ 64 in
    let high = from_le_bytes-to_le_bytes_8 h (shr_below n 64 64 fits) in
    let low = from_le_bytes-to_le_bytes_8 l (mod_below n (2 ^ 64) (pow_pos 64)) in
    ap (λ cs. map wide_word (chunks 2 cs)) (eights_more h l rest)
    ∙ (ap (map wide_word) (pairs_more (to_le_bytes w64 h) (to_le_bytes w64 l) (chunks 8 rest))
    ∙ ap (λ m. m ∷ wide_words rest) (ap₂ (λ a b. a * 2 ^ 64 + b) high low ∙ div-add-mod' n (2 ^ 64)))

pub wide-spelled : (ns : List ℕ) → AreBelow (2 ^ 128) ns → (rest : List ℕ) → wide_words (spelled wide_bytes ns ++ rest) ≡ ns ++ wide_words rest
unfolding spelled wide_bytes
wide-spelled [] below rest = refl
wide-spelled (n ∷ ns) below rest =
    wide_more n (spelled wide_bytes ns ++ rest) (below 0 (omega arith))
    ∙ ap (λ xs. n ∷ xs) (wide-spelled ns (others_below (2 ^ 128) n ns below) rest)

pub spells_wide : (ns : List ℕ) → AreBelow (2 ^ 128) ns → wide_words (spelled wide_bytes ns) ≡ ns
spells_wide ns below = ap wide_words (sym (append-nil (spelled wide_bytes ns))) ∙ (wide-spelled ns below [] ∙ append-nil ns)

-- ---- how long they are
pub length-word_bytes : (n : ℕ) → length (word_bytes n) ≡ 4
unfolding word_bytes
length-word_bytes n = refl

pub length-wide_bytes : (n : ℕ) → length (wide_bytes n) ≡ 16
unfolding wide_bytes
length-wide_bytes n = refl

more : (size n : ℕ) → size + size * n ≡ size * suc n
more size n = sym (mul-suc size n ∙ add_comm (size * n) size)

pub length-spelled : (bytes : ℕ → List ℕ) (size : ℕ) → ((n : ℕ) → length (bytes n) ≡ size) → (ns : List ℕ)
    → length (spelled bytes ns) ≡ size * length ns
unfolding spelled
length-spelled bytes size long [] = sym (mul-zero size)
length-spelled bytes size long (n ∷ ns) =
    length-append (bytes n) (spelled bytes ns) ∙ (ap₂ (λ a b. a + b) (long n) (length-spelled bytes size long ns) ∙ more size (length ns))

-- one number more
pub spelled_more : (bytes : ℕ → List ℕ) (ns : List ℕ) (n : ℕ) → spelled bytes (ns ++ n ∷ []) ≡ spelled bytes ns ++ bytes n
unfolding spelled
spelled_more bytes [] n = append-nil (bytes n)
spelled_more bytes (m ∷ ns) n = ap (λ xs. bytes m ++ xs) (spelled_more bytes ns n) ∙ sym (append_assoc (bytes m) (spelled bytes ns) (bytes n))
