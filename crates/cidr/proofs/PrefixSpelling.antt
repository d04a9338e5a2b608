-- Prefix bytes: what is written, and what an input begins with.
use Rattle.std.proofs.Common.{◌≡◌, ℕ, zero, suc, ◌+◌, ◌-◌, ◌*◌, ◌<◌, ◌≤◌, Bool, false, List, [], ◌∷◌, ◌++◌, length, take, drop, replicate, get_or, Result, Ok, Err, refl, sym, ap, ap₂, ◌∙◌, subst, arith, inl, inr, take_at, take_all, append_assoc, append-nil, length-append, length-take-le, take-append-drop}
use Rattle.std.proofs.lemmas.Bool.{cases_lt}
use Rattle.std.proofs.lemmas.List.{take-take, drop-take, drop-replicate, replicate-append-replicate, take-append-le}
use Rattle.std.proofs.lemmas.Grind.{flat_map-append}
use Rattle.cidr.specs.model.Address.{parts_of, octet_bits}
use Rattle.cidr.specs.model.Bits.{bits, number}
use Rattle.cidr.specs.model.Network.{width_of, zeros, first_of}
use Rattle.cidr.specs.laws.BitLaws.{bits-zero}
use Rattle.cidr.specs.laws.NetworkLaws.{length-first_of}
use Rattle.cidr.specs.bytes.Compact.{octet_count}
use Rattle.cidr.specs.bytes.Prefix.{octets_for, prefix_bytes, SpellsPrefix, HasPrefix, IsPrefixRefused, ReadsPrefix}
use Rattle.cidr.specs.declared.errors.PrefixBytesError.{PrefixBytesError}
use Rattle.cidr.specs.declared.errors.PrefixBytesError.TheVariants.{LengthTooLong, Truncated}
use Rattle.cidr.specs.declared.family.Family.{Family}
use Rattle.cidr.proofs.PartLaws.{flat_map-parts_of, length-parts_of}
use Rattle.cidr.proofs.ShortGrammar.{length-octet_bits}
use Rattle.cidr.proofs.CompactOctets.{octet_width}
use Rattle.cidr.proofs.CompactBytes.{heads}

-- ---- writing
-- the first parts of a list are those of its first bits
first_parts : (k m n : ℕ) (a : List Bool) → take m (parts_of k (m + n) a) ≡ parts_of k m (take (k * m) a)
unfolding parts_of
first_parts k zero n a = refl
first_parts k (suc m) n a =
    let size : k * suc m ≡ k + k * m = omega arith in
    let count : suc m + n ≡ suc (m + n) = omega arith in
    let head : take k a ≡ take k (take (k + k * m) a) = sym (take-take k (k + k * m) a (omega arith)) in
    rw (size, count) (ap₂ (λ x t. number x ∷ t) head (first_parts k m n (drop k a) ∙ ap (parts_of k m) (sym (drop-take k (k * m) a))))

-- the first bits of a network's first address
first_of-less : (w v : ℕ) (p : List Bool) → length p ≤ v → v ≤ w → take v (first_of w p) ≡ first_of v p
first_of-less w v p h k =
    let l = length p in
    let whole : p ++ zeros (w - l) ≡ first_of v p ++ zeros (w - v) =
    let parts : zeros (w - l) ≡ zeros (v - l) ++ zeros (w - v) = ap zeros (omega arith) ∙ sym (replicate-append-replicate (v - l) (w - v) false) in
    ap (λ t. p ++ t) parts ∙ sym (append_assoc p (zeros (v - l)) (zeros (w - v))) in
    ap (take v) whole ∙ take_at (first_of v p) (zeros (w - v)) v (length-first_of v p h)

-- an address's octets, cut after the prefix
pub cut_octets : (m : ℕ) (p : List Bool) → octets_for (length p) ≤ m
    → take (octets_for (length p)) (parts_of 8 m (first_of (8 * m) p)) ≡ parts_of 8 (octets_for (length p)) (first_of (8 * octets_for (length p)) p)
cut_octets m p h =
    let k = octets_for (length p) in
    let split : m ≡ k + (m - k) = omega arith in
    ap (λ n. take k (parts_of 8 n (first_of (8 * m) p))) split ∙ first_parts 8 k (m - k) (first_of (8 * m) p) ∙
    ap (parts_of 8 k) (first_of-less (8 * m) (8 * k) p (omega arith) (omega arith))

-- the length, and then an address's octets cut after the prefix
pub written : (f : Family) (p a : List Bool) (n count : ℕ) (none lent all : List ℕ) → length p ≤ width_of f → n ≡ length p → a ≡ first_of (width_of f) p
    → count ≡ octets_for n → none ≡ [] → lent ≡ none ++ n ∷ [] → all ≡ lent ++ take count (parts_of 8 (octet_count f) a) → all ≡ prefix_bytes p
written f p a n count none lent all within len address many empty one more =
    let m = octet_count f in
    let k = octets_for (length p) in
    let width = octet_width f in
    let cut : take k (parts_of 8 m (first_of (width_of f) p)) ≡ parts_of 8 k (first_of (8 * k) p) =
    ap (λ w. take k (parts_of 8 m (first_of w p))) (sym width) ∙ cut_octets m p (omega arith) in
    let octets : take count (parts_of 8 m a) ≡ parts_of 8 k (first_of (8 * k) p) = ap₂ (λ i b. take i (parts_of 8 m b)) (many ∙ ap octets_for len) address ∙ cut in
    more ∙ ap₂ (λ x y. x ++ y) (one ∙ ap₂ (λ x y. x ++ y ∷ []) empty len) octets

pub spells_written : (w : ℕ) (p : List Bool) → length p ≤ w → SpellsPrefix w (prefix_bytes p) p
spells_written w p h =
    let k = octets_for (length p) in
    let a = first_of (8 * k) p in
    record {
      octets = parts_of 8 k a;
      parts = refl;
      within = h;
      fewest = length-parts_of 8 k a;
      first = ap (take (length p)) (flat_map-parts_of 8 k a (length-first_of (8 * k) p (omega arith))) ∙ take_at p (zeros (8 * k - length p)) (length p) refl;
    }

-- ---- octets and zeros after them
zero_octets : (n : ℕ) → octet_bits (replicate n 0) ≡ zeros (8 * n)
zero_octets zero = refl
zero_octets (suc n) =
    let more : 8 * suc n ≡ 8 + 8 * n = omega arith in
    ap₂ (λ x t. x ++ t) (bits-zero 8) (zero_octets n) ∙ replicate-append-replicate 8 (8 * n) false ∙ ap zeros (sym more)

-- octets that were written over zeros
pub padded : (m w : ℕ) (octets written : List ℕ) → written ≡ octets → length octets ≤ m → w ≡ 8 * m
    → octet_bits (written ++ drop (length octets) (replicate m 0)) ≡ first_of w (octet_bits octets)
padded m w octets written same h e =
    let n = length octets in
    let rest : 8 * (m - n) ≡ w - length (octet_bits octets) = omega (arith, length-octet_bits octets) in
    let after : drop n (replicate m 0) ≡ replicate (m - n) 0 = drop-replicate n m 0 in
    ap₂ (λ x y. octet_bits (x ++ y)) same after ∙ flat_map-append (bits 8) octets (replicate (m - n) 0) ∙
    ap (λ t. octet_bits octets ++ t) (zero_octets (m - n) ∙ ap zeros rest)

-- as many octets as an address has
pub whole_octets : (m w : ℕ) (octets all : List ℕ) → all ≡ take m octets → m ≤ length octets → w ≡ 8 * m
    → octet_bits all ≡ first_of w (octet_bits (take m octets))
whole_octets m w octets all is enough e =
    let full : length (octet_bits (take m octets)) ≡ w = omega (arith, e, length-octet_bits (take m octets), length-take-le m octets enough) in
    let none : w - length (octet_bits (take m octets)) ≡ 0 = omega (arith, full) in
    ap octet_bits is ∙ sym (ap (λ n. octet_bits (take m octets) ++ zeros n) none ∙ append-nil (octet_bits (take m octets)))

-- too few octets, and zeros after them
pub few_octets : (m w : ℕ) (octets written : List ℕ) → written ≡ octets → length octets < m → w ≡ 8 * m
    → octet_bits (written ++ drop (length octets) (replicate m 0)) ≡ first_of w (octet_bits (take m octets))
few_octets m w octets written same few e =
    let all : take m octets ≡ octets = take_all m octets (omega arith) in
    rw all (padded m w octets written same (omega arith) e)

-- ---- reading
-- an input that begins with a prefix: its length, its octets, and what follows
module _ (w k : ℕ) (input : List ℕ) (p : List Bool) (h : HasPrefix w input p k) where
  abbrev pub rest_of : List ℕ
  rest_of = h.2.octets ++ drop k input

  parted : input ≡ length p ∷ rest_of
  parted = sym (take-append-drop k input) ∙ ap (λ t. t ++ drop k input) (h.1.1 ∙ h.2.parts)

  pub split_at : (n : ℕ) (rest : List ℕ) → input ≡ n ∷ rest → (n ≡ length p) × (rest ≡ rest_of)
  split_at n rest e = heads n (length p) rest rest_of (sym e ∙ parted)

  used : k ≡ 1 + octets_for (length p)
  used = omega (arith, h.1.0, ap length h.2.parts, h.2.fewest)

-- the prefix of a length and of octets that are enough for it
module _ (w n : ℕ) (rest : List ℕ) (within : n ≤ w) (enough : octets_for n ≤ length rest) where
  abbrev pub first_octets : List ℕ
  first_octets = take (octets_for n) rest

  abbrev pub read_prefix : List Bool
  read_prefix = take n (first_of w (octet_bits first_octets))

  many : length first_octets ≡ octets_for n
  many = length-take-le (octets_for n) rest enough

  bits_enough : n ≤ length (octet_bits first_octets)
  bits_enough = omega (arith, length-octet_bits first_octets, many)

  taken : read_prefix ≡ take n (octet_bits first_octets)
  taken = take-append-le n (octet_bits first_octets) (zeros (w - length (octet_bits first_octets))) bits_enough

  length-read_prefix : length read_prefix ≡ n
  length-read_prefix = ap length taken ∙ length-take-le n (octet_bits first_octets) bits_enough

  has_read : HasPrefix w (n ∷ rest) read_prefix (1 + octets_for n)
  has_read =
      let one_more : 1 + octets_for n ≡ suc (octets_for n) = omega arith in
      let len = length-read_prefix in (
        n ∷ first_octets,
        (omega (arith, many), ap (λ k. take k (n ∷ rest)) one_more),
        record {
          octets = first_octets;
          parts = ap (λ k. k ∷ first_octets) (sym len);
          within = omega (arith, len, within);
          fewest = many ∙ ap octets_for (sym len);
          first = ap (λ k. take k (octet_bits first_octets)) len ∙ sym taken;
        },
      )

  only_read : (p : List Bool) (k : ℕ) → HasPrefix w (n ∷ rest) p k → (read_prefix ≡ p) × (1 + octets_for n ≡ k)
  only_read p k h =
      let (len, same) = split_at w k (n ∷ rest) p h n rest refl in
      let size : length h.2.octets ≡ octets_for n = h.2.fewest ∙ ap octets_for (sym len) in
      let octets : first_octets ≡ h.2.octets = ap (take (octets_for n)) same ∙ take_at h.2.octets (drop k (n ∷ rest)) (octets_for n) size in
      (taken ∙ ap₂ (λ i o. take i (octet_bits o)) len octets ∙ h.2.first, ap (λ i. 1 + octets_for i) len ∙ sym (used w k (n ∷ rest) p h))

-- an input that is refused begins with no prefix
refused_none : (w : ℕ) (input : List ℕ) (e : PrefixBytesError) → IsPrefixRefused w input e → (p : List Bool) (k : ℕ) → HasPrefix w input p k → ⊥
refused_none w input LengthTooLong (n, rest, s, over) p k h = omega (arith, (split_at w k input p h n rest s).0, h.2.within)
refused_none w input Truncated (inl none) p k h = let both = sym none ∙ parted w k input p h in cc
refused_none w input Truncated (inr (n, rest, s, within, few)) p k h =
    let (len, same) = split_at w k input p h n rest s in
    let size : length h.2.octets ≡ octets_for n = h.2.fewest ∙ ap octets_for (sym len) in
    omega (arith, few, size, ap length same, length-append h.2.octets (drop k input))

-- and has one error
apart : (w : ℕ) (input : List ℕ) → IsPrefixRefused w input LengthTooLong → IsPrefixRefused w input Truncated → ⊥
apart w input (n, rest, s, over) (inl none) = let both = sym none ∙ s in cc
apart w input (n, rest, s, over) (inr (m, more, t, within, few)) = omega (arith, over, within, (heads n m rest more (sym s ∙ t)).0)

pub one_prefix_error : (w : ℕ) (input : List ℕ) (d e : PrefixBytesError) → IsPrefixRefused w input d → IsPrefixRefused w input e → d ≡ e
one_prefix_error w input LengthTooLong LengthTooLong h k = refl
one_prefix_error w input LengthTooLong Truncated h k = absurd (apart w input h k)
one_prefix_error w input Truncated LengthTooLong h k = absurd (apart w input k h)
one_prefix_error w input Truncated Truncated h k = refl

same_ok : (p q : List Bool × ℕ) (r : Result (List Bool × ℕ) PrefixBytesError) → r ≡ Ok p → r ≡ Ok q → p ≡ q
same_ok p q r e h = cc

pub reads_refused : (w : ℕ) (input : List ℕ) (e : PrefixBytesError) → IsPrefixRefused w input e → ReadsPrefix w input (Err e)
reads_refused w input e h = record {
  exactly = λ p k. (λ same. absurd (cc), λ has. absurd (refused_none w input e h p k has));
  refused = h;
}

pub reads_prefix : (w n : ℕ) (rest : List ℕ) (p : List Bool) → n ≤ w → octets_for n ≤ length rest
    → p ≡ take n (first_of w (octet_bits (take (octets_for n) rest))) → ReadsPrefix w (n ∷ rest) (Ok (p, 1 + octets_for n))
reads_prefix w n rest p within enough value = record {
  exactly = λ q k. (
    λ same.
        let pair = same_ok (p, 1 + octets_for n) (q, k) _ refl same in
        let prefix : read_prefix w n rest within enough ≡ q = sym value ∙ ap (λ (x : List Bool × ℕ). x.0) pair in
        let count : 1 + octets_for n ≡ k = ap (λ (x : List Bool × ℕ). x.1) pair in
        subst (λ x. HasPrefix w (n ∷ rest) x k) prefix (subst (HasPrefix w (n ∷ rest) (read_prefix w n rest within enough)) count (has_read w n rest within enough)),
    λ has.
        let (prefix, count) = only_read w n rest within enough q k has in
        ap₂ (λ x i. Ok (x, i)) (value ∙ prefix) count,
  );
  refused = tt;
}

-- the first bits of octets, of which the first k have them, and zeros after those
module _ (w n k : ℕ) (octets : List ℕ) (enough : n ≤ length (octet_bits (take k octets))) where
  pub first_bits : take n (first_of w (octet_bits (take k octets))) ≡ take n (octet_bits octets)
  first_bits =
      let front = octet_bits (take k octets) in
      let back = octet_bits (drop k octets) in
      let split : octet_bits octets ≡ front ++ back = ap octet_bits (sym (take-append-drop k octets)) ∙ flat_map-append (bits 8) (take k octets) (drop k octets) in
      take-append-le n front (zeros (w - length front)) enough ∙ sym (ap (take n) split ∙ take-append-le n front back enough)

-- whatever octets follow those of a prefix
any_octets : (w m n : ℕ) (octets : List ℕ) → w ≡ 8 * m → n ≤ w → octets_for n ≤ length octets
    → take n (first_of w (octet_bits (take m octets))) ≡ take n (first_of w (octet_bits (take (octets_for n) octets)))
any_octets w m n octets e within enough =
    let fewest : n ≤ length (octet_bits (take (octets_for n) octets)) =
    omega (arith, length-octet_bits (take (octets_for n) octets), length-take-le (octets_for n) octets enough) in
    let more : n ≤ length (octet_bits (take m octets)) = elim (cases_lt (length octets) m) [
      | inl few ↦ rw (take_all m octets (omega arith)) (omega (arith, length-octet_bits octets))
      | inr many ↦ omega (arith, e, length-octet_bits (take m octets), length-take-le m octets many)
    ] in
    first_bits w n m octets more ∙ sym (first_bits w n (octets_for n) octets fewest)

-- what a reader finds at the front
pub reads_front : (w m : ℕ) (bytes : List ℕ) (p a : List Bool) (count : ℕ) → w ≡ 8 * m → 1 ≤ length bytes → get_or bytes 0 0 ≤ w
    → count ≡ octets_for (get_or bytes 0 0) → count ≤ length (take (length bytes - 1) (drop 1 bytes))
    → a ≡ first_of w (octet_bits (take m (take (length bytes - 1) (drop 1 bytes)))) → p ≡ take (get_or bytes 0 0) a
    → ReadsPrefix w bytes (Ok (p, 1 + count))
reads_front w m [] p a count e some within many enough address value = absurd (omega arith)
reads_front w m (n ∷ rest) p a count e some within many enough address value =
    let all : take (length (n ∷ rest) - 1) rest ≡ rest = take_all (length (n ∷ rest) - 1) rest (omega arith) in
    let held : octets_for n ≤ length rest = omega (arith, many, ap length all) in
    let prefix : p ≡ take n (first_of w (octet_bits (take (octets_for n) rest))) =
    value ∙ ap (take n) (address ∙ ap (λ o. first_of w (octet_bits (take m o))) all) ∙ any_octets w m n rest e within held in
    subst (λ k. ReadsPrefix w (n ∷ rest) (Ok (p, 1 + k))) (sym many) (reads_prefix w n rest p within held prefix)
