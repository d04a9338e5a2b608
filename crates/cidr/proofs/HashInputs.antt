-- Equal hash inputs come from equal values: the bytes of an address tell its bits, and the byte behind them the length.
use Rattle.std.proofs.Common.{◌≡◌, ℕ, ◌*◌, Bool, List, [], ◌∷◌, ◌++◌, length, take, reverse, ◌-◌, refl, sym, ap, ap₂, ◌∙◌, take_at}
use Rattle.std.specs.Hash as fed
use Rattle.std.specs.Hash.{le_bytes}
use Rattle.std.specs.Int.{bytes_high_first}
use Rattle.std.specs.List.{flat_map}
use Rattle.cidr.specs.declared.family.Family.{Family}
use Rattle.cidr.specs.declared.family.Family.TheVariants.{Ipv4, Ipv6}
use Rattle.cidr.specs.model.Bits.{bits, number}
use Rattle.cidr.specs.model.Network.{width_of, zeros, first_of, address_hash, network_hash, IsHashedApart, HasWidth, FitsWidth}
use Rattle.cidr.specs.model.Host.{IsHost, host_of, host_hash}
use Rattle.cidr.specs.model.Pair.{Pair, IsPair, pair_hash}
use Rattle.cidr.specs.laws.NetworkLaws.{length-first_of}
use Rattle.cidr.proofs.PartLaws.{flat_map-parts_of}
use Rattle.cidr.proofs.OctetRows.{octets_of-address}

same_octets : (k : ℕ) (a b : List Bool) → length a ≡ 8 * k → length b ≡ 8 * k → bytes_high_first k (number a) ≡ bytes_high_first k (number b) → a ≡ b
same_octets k a b e f h =
    sym (flat_map-parts_of 8 k a e) ∙ ap (flat_map (bits 8)) (octets_of-address k a e ∙ h ∙ sym (octets_of-address k b f)) ∙ flat_map-parts_of 8 k b f

-- turned, the lowest byte comes last
turned4 : (m n : ℕ) → le_bytes 4 m ≡ le_bytes 4 n → bytes_high_first 4 m ≡ bytes_high_first 4 n
unfolding le_bytes
turned4 m n h = ap reverse h

turned16 : (m n : ℕ) → le_bytes 16 m ≡ le_bytes 16 n → bytes_high_first 16 m ≡ bytes_high_first 16 n
unfolding le_bytes
turned16 m n h = ap reverse h

pub cons_parts : {A : Type 0} (x y : A) (s t : List A) → x ∷ s ≡ y ∷ t → (x ≡ y) × (s ≡ t)
cons_parts x y s t h = (cc, cc)

address_and : (family : Family) (a b : List Bool) (s t : List (List ℕ)) → length a ≡ width_of family → length b ≡ width_of family
    → address_hash family a ++ s ≡ address_hash family b ++ t → (a ≡ b) × (s ≡ t)
address_and Ipv4 a b s t e f h =
    let parts = cons_parts (le_bytes 4 (number a)) (le_bytes 4 (number b)) s t h in
    (same_octets 4 a b e f (turned4 (number a) (number b) parts.0), parts.1)
address_and Ipv6 a b s t e f h =
    let parts = cons_parts (le_bytes 16 (number a)) (le_bytes 16 (number b)) s t h in
    (same_octets 16 a b e f (turned16 (number a) (number b) parts.0), parts.1)

length_byte : (m n : ℕ) → fed.u8 m ≡ fed.u8 n → m ≡ n
length_byte m n h = (cons_parts m n [] [] (cons_parts (m ∷ []) (n ∷ []) [] [] h).0).0

pub address_hashed_apart : (family : Family) → IsHashedApart (HasWidth (width_of family)) (address_hash family)
address_hashed_apart Ipv4 a b e f h = (address_and Ipv4 a b [] [] e f (ap (λ s. s ++ []) h)).0
address_hashed_apart Ipv6 a b e f h = (address_and Ipv6 a b [] [] e f (ap (λ s. s ++ []) h)).0

pub network_hashed_apart : (family : Family) → IsHashedApart (FitsWidth (width_of family)) (network_hash family)
network_hashed_apart family a b e f h =
    let w = width_of family in
    let both = address_and family (first_of w a) (first_of w b) (fed.u8 (length a)) (fed.u8 (length b)) (length-first_of w a e) (length-first_of w b f) h in
    let lengths = length_byte (length a) (length b) both.1 in
    sym (take_at a (zeros (w - length a)) (length a) refl) ∙ ap₂ (λ n l. take n l) lengths both.0 ∙ take_at b (zeros (w - length b)) (length b) refl

pub host_hashed_apart : (family : Family) → IsHashedApart (IsHost (width_of family)) (host_hash family)
host_hashed_apart family a b e f h =
    let both = address_and family a.address b.address (fed.u8 a.len) (fed.u8 b.len) e.0 f.0 h in
    ap₂ host_of both.0 (length_byte a.len b.len both.1)

abbrev pair_made : List Bool → List Bool → ℕ → Pair
pair_made x y n = record { first = x; second = y; len = n }

pub pair_hashed_apart : (family : Family) → IsHashedApart (IsPair (width_of family)) (pair_hash family)
pair_hashed_apart family a b e f h =
    let one = address_and family a.first b.first (address_hash family a.second ++ fed.u8 a.len) (address_hash family b.second ++ fed.u8 b.len) e.first_width f.first_width h in
    let two = address_and family a.second b.second (fed.u8 a.len) (fed.u8 b.len) e.second_width f.second_width one.1 in
    ap₂ (λ x y. pair_made x y a.len) one.0 two.0 ∙ ap (pair_made b.first b.second) (length_byte a.len b.len two.1)

-- of either family: what is fed for the variant comes first
pub in_variant : {A : Type 0} {B : Type 0} (into : A → B) (IsValue : A → Type 0) (hash : A → List (List ℕ)) (tag : List ℕ)
    → IsHashedApart IsValue hash → (a b : A) → IsValue a → IsValue b → tag ∷ hash a ≡ tag ∷ hash b → into a ≡ into b
in_variant into IsValue hash tag is_apart a b e f h = ap into (is_apart a b e f (cons_parts tag tag (hash a) (hash b) h).1)

-- the tags of variants differ
pub other_tag : {B : Type 0} {x y : B} (m n : ℕ) (s t : List (List ℕ)) → (le_bytes 8 m ≡ le_bytes 8 n → x ≡ y) → le_bytes 8 m ∷ s ≡ le_bytes 8 n ∷ t → x ≡ y
other_tag m n s t differ h = differ (cons_parts (le_bytes 8 m) (le_bytes 8 n) s t h).0

pub tags01 : {B : Type 0} {x y : B} → le_bytes 8 0 ≡ le_bytes 8 1 → x ≡ y
unfolding le_bytes
tags01 h = cc

pub tags02 : {B : Type 0} {x y : B} → le_bytes 8 0 ≡ le_bytes 8 2 → x ≡ y
unfolding le_bytes
tags02 h = cc

pub tags12 : {B : Type 0} {x y : B} → le_bytes 8 1 ≡ le_bytes 8 2 → x ≡ y
unfolding le_bytes
tags12 h = cc
