-- The groups of an IPv6 address beside the octets of its last 32 bits.
use Rattle.std.proofs.Common.{◌≡◌, ℕ, zero, suc, ◌+◌, ◌*◌, ◌%◌, ◌^◌, ◌<◌, Bool, List, [], ◌∷◌, ◌++◌, length, get_or, take, drop, flat_map, refl, sym, ap, ap₂, ◌∙◌, arith, take_at, drop_at, length-drop, zero-add}
use Rattle.std.proofs.Math.Nat.{suc-add}
use Rattle.std.proofs.lemmas.List.{drop-drop}
use Rattle.cidr.specs.model.Bits.{bits, number}
use Rattle.cidr.specs.laws.BitLaws.{length-bits, number-bits}
use Rattle.cidr.specs.model.Address.{parts_of, octet_bits, octets_of, group_bits}
use Rattle.cidr.specs.texts.Ipv4Text.{dot, IsOctetText, IsJoined, IsIpv4Text}
use Rattle.cidr.specs.texts.Ipv6Text.{IsDottedPair}
use Rattle.cidr.specs.texts.PrintedAddress.{dotted, ipv4_text}
use Rattle.cidr.proofs.PartLaws.{FitAll, all_fit}
use Rattle.cidr.proofs.GroupNumbers.{groups-octets}
use Rattle.cidr.proofs.NetworkNumbers.{number-parts, same_from_number}
use Rattle.cidr.proofs.OctetReading.{decimal-IsOctetText}

-- the parts of numbers in a row are these numbers
pub parts_of-flat_map : (k : ℕ) (ds : List ℕ) → FitAll k ds → parts_of k (length ds) (flat_map (bits k) ds) ≡ ds
unfolding parts_of
parts_of-flat_map k [] h = refl
parts_of-flat_map k (d ∷ ds) h =
    let l = length-bits k d in
    let front : number (take k (bits k d ++ flat_map (bits k) ds)) ≡ d = ap number (take_at (bits k d) (flat_map (bits k) ds) k l) ∙ number-bits k d h.0 in
    let back : drop k (bits k d ++ flat_map (bits k) ds) ≡ flat_map (bits k) ds = drop_at (bits k d) (flat_map (bits k) ds) k l in
    ap₂ (λ x t. x ∷ t) front (ap (parts_of k (length ds)) back ∙ parts_of-flat_map k ds h.1)

-- and as many of them as there are
pub parts_of_these : (k n : ℕ) (ds : List ℕ) → length ds ≡ n → ((i : ℕ) → get_or ds i 0 < 2 ^ k) → ds ≡ parts_of k n (flat_map (bits k) ds)
parts_of_these k n ds many fit = sym (parts_of-flat_map k ds (all_fit k ds fit)) ∙ ap (λ m. parts_of k m (flat_map (bits k) ds)) many

-- an IPv4 address has one text
one_ipv4 : (text o : List ℕ) → length o ≡ 4 → IsJoined IsOctetText text o → (text ≡ dotted o) × FitAll 8 o
one_ipv4 text [] e h = absurd (omega arith)
one_ipv4 text (a ∷ []) e h = absurd (omega arith)
one_ipv4 text (a ∷ b ∷ []) e h = absurd (omega arith)
one_ipv4 text (a ∷ b ∷ c ∷ []) e h = absurd (omega arith)
one_ipv4 text (a ∷ b ∷ c ∷ d ∷ []) e (first, after, s, ha, (second, rest, s', hb, (third, last, s'', hc, hd))) =
    let ea = decimal-IsOctetText first a ha in
    let eb = decimal-IsOctetText second b hb in
    let ec = decimal-IsOctetText third c hc in
    let ed = decimal-IsOctetText last d hd in
    (s ∙ ap₂ (λ x t. x ++ dot ∷ t) ea (s' ∙ ap₂ (λ x t. x ++ dot ∷ t) eb (s'' ∙ ap₂ (λ x t. x ++ dot ∷ t) ec ed)), (ha.fits, (hb.fits, (hc.fits, (hd.fits, tt)))))
one_ipv4 text (a ∷ b ∷ c ∷ d ∷ f ∷ o) e h = absurd (omega arith)

pub one_ipv4_text : (text : List ℕ) (a : List Bool) → IsIpv4Text text a → text ≡ ipv4_text a
unfolding ipv4_text
one_ipv4_text text a h =
    let (same, fit) = one_ipv4 text h.octets h.four h.joined in
    let octets : octets_of a ≡ h.octets = ap octets_of h.value ∙ ap (λ n. parts_of 8 n (octet_bits h.octets)) (sym h.four) ∙ parts_of-flat_map 8 h.octets fit in
    same ∙ ap dotted (sym octets)

-- the parts from one on are those of the bits from there on
pub drop-parts_of : (k m n : ℕ) (a : List Bool) → drop m (parts_of k (m + n) a) ≡ parts_of k n (drop (k * m) a)
unfolding parts_of
drop-parts_of k zero n a =
    let none : 0 ≡ k * 0 = omega arith in
    ap₂ (parts_of k) (zero-add n) (ap (λ j. drop j a) none)
drop-parts_of k (suc m) n a =
    let more : k + k * m ≡ k * suc m = omega arith in
    let later = drop-parts_of k m n (drop k a) in
    rw suc-add (later ∙ ap (parts_of k n) (drop-drop (k * m) k a ∙ ap (λ j. drop j a) more))

-- the last 32 bits by their number
pub low_bits : (a : List Bool) → length a ≡ 128 → bits 32 (number a % 2 ^ 32) ≡ drop 96 a
low_bits a e = same_from_number 32 _ (drop 96 a) (omega (arith, length-drop 96 a)) (sym (number-parts 128 96 a (omega arith) e).1)

-- the two groups that an IPv4 text stands for
pub record IsPairText (text : List ℕ) (a : List Bool) : Type 0 where
  pub g : ℕ
  pub h : ℕ
  pub pair : IsDottedPair text g h
  pub groups : parts_of 16 2 a ≡ g ∷ h ∷ []

four_octets : (text o : List ℕ) (a : List Bool) → length o ≡ 4 → IsJoined IsOctetText text o → FitAll 8 o → a ≡ octet_bits o → IsPairText text a
four_octets text [] a e joined fit value = absurd (omega arith)
four_octets text (i ∷ []) a e joined fit value = absurd (omega arith)
four_octets text (i ∷ j ∷ []) a e joined fit value = absurd (omega arith)
four_octets text (i ∷ j ∷ k ∷ []) a e joined fit value = absurd (omega arith)
four_octets text (i ∷ j ∷ k ∷ l ∷ []) a e joined (hi, (hj, (hk, (hl, _)))) value =
    let g : ℕ = i * 256 + j in
    let h : ℕ = k * 256 + l in
    let same : octet_bits (i ∷ j ∷ k ∷ l ∷ []) ≡ group_bits (g ∷ h ∷ []) = sym (groups-octets i j k l hj hl) in
    record {
      g = g;
      h = h;
      pair = (i, j, k, l, joined, refl, refl);
      groups = ap (parts_of 16 2) (value ∙ same) ∙ parts_of-flat_map 16 (g ∷ h ∷ []) (omega arith, (omega arith, tt));
    }
four_octets text (i ∷ j ∷ k ∷ l ∷ m ∷ o) a e joined fit value = absurd (omega arith)

pub IsPairText-ipv4 : (text : List ℕ) (a : List Bool) → IsIpv4Text text a → IsPairText text a
IsPairText-ipv4 text a h = four_octets text h.octets a h.four h.joined (one_ipv4 text h.octets h.four h.joined).1 h.value
