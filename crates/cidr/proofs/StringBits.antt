-- Networks as strings of bits, by their first addresses.
use Rattle.std.proofs.Common.{◌≡◌, ℕ, zero, suc, ◌+◌, ◌-◌, ◌<◌, ◌≤◌, min, Bool, false, not, List, [], ◌∷◌, ◌++◌, length, get_or, set, take, slice_get, Some, refl, sym, ap, ap₂, ◌∙◌, arith, take_at, drop_at, length-append, length-take}
use Rattle.std.proofs.lemmas.List.{append-nil, take_all, length-set, get_or-take, get_or_append_left, set-append_left, set_at}
use Rattle.std.proofs.lemmas.Option.{slice_get-get_or}
use Rattle.cidr.specs.model.BitString.{host_clipped, inverted}
use Rattle.cidr.specs.model.Host.{Host, IsHost, host_of}
use Rattle.cidr.specs.model.Network.{width_of, zeros, first_of, IsFirstAddress}
use Rattle.cidr.specs.declared.family.Family.{Family}
use Rattle.cidr.specs.declared.family.Family.TheVariants.{Ipv4, Ipv6}
use Rattle.cidr.specs.laws.NetworkLaws.{length-first_of}

-- bit i of a network is that of its first address
pub network_bit : (w i : ℕ) (p : List Bool) (b : Bool) → i < length p → b ≡ get_or (first_of w p) i false → slice_get p i ≡ Some b
network_bit w i p b h e =
    slice_get-get_or p i false h ∙ ap Some (sym (e ∙ get_or_append_left p (zeros (w - length p)) false i h))

-- and so is its inverse
pub inverted_first : (w i j : ℕ) (p a : List Bool) → i < length p → j ≡ i → a ≡ first_of w p → inverted j a ≡ inverted i p
inverted_first w i j p a h place first = rw (first, place) (ap not (get_or_append_left p (zeros (w - length p)) false i h))

-- the first address of a network is one, and tells the network
pub is_first : (w n : ℕ) (q a : List Bool) → length q ≤ w → n ≡ length q → a ≡ first_of w q → IsFirstAddress w n a
is_first w n q a fits e same = (
  rw e fits,
  rw same (length-first_of w q fits),
  rw (same, e) (drop_at q (zeros (w - length q)) (length q) refl),
)

pub network_shown : (w n : ℕ) (q a : List Bool) → n ≡ length q → a ≡ first_of w q → take n a ≡ q
network_shown w n q a e same = rw (same, e) (take_at q (zeros (w - length q)) (length q) refl)

-- with a bit anew, and with one more
pub first_of-set : (w i : ℕ) (b : Bool) (p : List Bool) → i < length p → set (first_of w p) i b ≡ first_of w (set p i b)
first_of-set w i b p h =
    set-append_left p (zeros (w - length p)) i b h ∙ ap (λ n. set p i b ++ zeros (w - n)) (sym (length-set p i b))

pub first_of-append : (w : ℕ) (b : Bool) (p : List Bool) → length p < w → set (first_of w p) (length p) b ≡ first_of w (p ++ b ∷ [])
first_of-append w b p h =
    let rest = w - (length p + 1) in
    let room : w - length p ≡ suc rest = omega arith in
    let left : rest ≡ w - length (p ++ b ∷ []) = omega (arith, length-append p (b ∷ [])) in
    ap (λ n. set (p ++ zeros n) (length p) b) room ∙ set_at p false (zeros rest) b (length p) refl
    ∙ ap (λ n. p ++ b ∷ zeros n) left ∙ grouped p b (zeros (w - length (p ++ b ∷ [])))
  where
    grouped : (p : List Bool) (b : Bool) (q : List Bool) → p ++ b ∷ q ≡ (p ++ b ∷ []) ++ q
    grouped [] b q = refl
    grouped (c ∷ p) b q = ap (λ t. c ∷ t) (grouped p b q)

-- a first address x with bit i of a first address a set, and with one more bit
module _ (w n : ℕ) (b : Bool) (p a x : List Bool) (e : n ≡ length p) (first : a ≡ first_of w p) where
  module _ (i j : ℕ) (h : i < length p) (fits : length p ≤ w) (place : j ≡ i) (made : x ≡ set a j b) where
    same : x ≡ first_of w (set p i b)
    same = rw (made, first, place) (first_of-set w i b p h)

    long : n ≡ length (set p i b)
    long = e ∙ sym (length-set p i b)

    pub set_is_first : IsFirstAddress w n x
    set_is_first = is_first w n (set p i b) x (omega (arith, length-set p i b)) long same

    pub set_shown : take n x ≡ set p i b
    set_shown = network_shown w n (set p i b) x long same

  module _ (h : length p < w) (made : x ≡ set a n b) where
    longer : x ≡ first_of w (p ++ b ∷ [])
    longer = rw (made, first, e) (first_of-append w b p h)

    one_more : n + 1 ≡ length (p ++ b ∷ [])
    one_more = omega (arith, length-append p (b ∷ []))

    pub append_is_first : IsFirstAddress w (n + 1) x
    append_is_first = is_first w (n + 1) (p ++ b ∷ []) x (omega (arith, length-append p (b ∷ []))) one_more longer

    pub append_shown : take (n + 1) x ≡ p ++ b ∷ []
    append_shown = network_shown w (n + 1) (p ++ b ∷ []) x one_more longer

-- a host that is clipped past its address stays
pub host_unclipped : (w k : ℕ) (host : Host) → IsHost w host → w ≤ k → host ≡ host_clipped w k host
host_unclipped w k host is h =
    let all : take k host.address ≡ host.address = take_all k host.address (omega (arith, is.0)) in
    let none : w - length host.address ≡ 0 = omega (arith, is.0) in
    let address : first_of w (take k host.address) ≡ host.address = rw (all, none) (append-nil host.address) in
    let len : host.len ≡ min host.len k = omega (arith, is.1) in
    ap₂ host_of (sym address) len

-- a bit of an address set is that bit of its first bits
pub take-set : (n i : ℕ) (b : Bool) (a : List Bool) → i < length (take n a) → take n (set a i b) ≡ set (take n a) i b
take-set zero i b a h = absurd (omega arith)
take-set (suc n) i b [] h = absurd (omega arith)
take-set (suc n) zero b (c ∷ a) h = refl
take-set (suc n) (suc i) b (c ∷ a) h = ap (λ t. c ∷ t) (take-set n i b a (omega arith))

-- and inverted
pub inverted_taken : (n i : ℕ) (a : List Bool) → i < length (take n a) → inverted i a ≡ inverted i (take n a)
inverted_taken n i a h = ap not (sym (get_or-take n a i false (omega (arith, length-take n a))))

-- an address has 32 bits at least and 128 at most
pub width_least : (family : Family) → 32 ≤ width_of family
width_least Ipv4 = omega arith
width_least Ipv6 = omega arith

pub width_most : (family : Family) → width_of family ≤ 128
width_most Ipv4 = omega arith
width_most Ipv6 = omega arith

pub ruleset width_laws = (width_least, width_most)

-- how many bits can be appended where the first k are left, one of them in front of p
pub room_clipped : (w k : ℕ) (p q : List Bool) → length p ≤ w → 0 < k → q ≡ take (k - 1) p → w - length q ≡ w - length p + (length p + 1 - k)
room_clipped w k p q fits some same =
    let size : length q ≡ min (k - 1) (length p) = ap length same ∙ length-take (k - 1) p in
    omega arith
