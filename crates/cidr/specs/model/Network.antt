-- A network is the list of the bits that its addresses begin with (RFC 4632, 3.1), and w is the width of its addresses.
use Rattle.std.specs.Prelude.{◌≡◌, ◌≢◌, ℕ, ◌-◌, ◌≤◌, Bool, true, false, List, ◌++◌, length, take, drop, replicate, Result, Ok, Err, nat_lt, if◌then◌else◌}
use Rattle.std.specs.Hash as fed
use Rattle.std.specs.declared.cmp.Ordering.TheVariants.{Greater}
use Rattle.cidr.specs.model.Bits.{number, bit_cmp, bit_eq}
use Rattle.cidr.specs.declared.family.Family.{Family}
use Rattle.cidr.specs.declared.family.Family.TheVariants.{Ipv4, Ipv6}
use Rattle.cidr.specs.model.Errors.{LengthError}
use Rattle.cidr.specs.declared.errors.NetworkParseError.{NetworkParseError}
use Rattle.cidr.specs.declared.errors.NetworkParseError.TheVariants as parse_error

-- the number of bits of an address: 32 (RFC 791, 3.2) or 128 (RFC 4291, 2)
abbrev pub width_of : Family → ℕ
width_of Ipv4 = 32
width_of Ipv6 = 128

-- n bits that are zero
abbrev pub zeros : ℕ → List Bool
zeros n = replicate n false

-- n bits that are one
abbrev pub ones : ℕ → List Bool
ones n = replicate n true

-- the first address of a network: its bits, and then zeros up to the width
abbrev pub first_of : ℕ → List Bool → List Bool
first_of w network = network ++ zeros (w - length network)

-- the last address of a network: its bits, and then ones up to the width
abbrev pub last_of : ℕ → List Bool → List Bool
last_of w network = network ++ ones (w - length network)

-- the mask of a network: as many ones as it has bits, and then zeros (RFC 4632, 3.1)
abbrev pub mask_of : ℕ → List Bool → List Bool
mask_of w network = ones (length network) ++ zeros (w - length network)

-- the list begins with these bits; an address that begins with the bits of a network is in the network (RFC 4632, 3.1),
-- and a network that begins with them is inside it
abbrev pub BeginsWith : List Bool → List Bool → Type 0
BeginsWith a network = take (length network) a ≡ network

-- of the private form of a network: an address of the width and a length within it, with zeros from the length on
abbrev pub IsFirstAddress : ℕ → ℕ → List Bool → Type 0
IsFirstAddress w n a = (n ≤ w) × (length a ≡ w) × (drop n a ≡ zeros (w - n))

-- a list of exactly w bits: an address
abbrev pub HasWidth : ℕ → List Bool → Type 0
HasWidth w a = length a ≡ w

-- a list of at most w bits: a network
abbrev pub FitsWidth : ℕ → List Bool → Type 0
FitsWidth w network = length network ≤ w

-- every address of the other network is in this one
unfoldable pub HoldsAll : (List Bool → Type 0) → List Bool → List Bool → Type 0
HoldsAll IsAddress network other = (a : List Bool) → IsAddress a → BeginsWith a other → BeginsWith a network

-- no list begins with both; so no address is in both networks
abbrev pub AreApart : List Bool → List Bool → Type 0
AreApart p q = (a : List Bool) → BeginsWith a p → ¬ (BeginsWith a q)

-- q does not come before p in the order of bits, and every list from p to q begins with p; so what a network contains
-- follows it without a gap
abbrev pub IsConsecutive : List Bool → List Bool → Type 0
IsConsecutive p q = (bit_cmp p q ≢ Greater) × ((r : List Bool) → bit_cmp p r ≢ Greater → bit_cmp r q ≢ Greater → BeginsWith r p)

-- the error of a prefix length above the width, with that length and the family
abbrev pub too_long : ℕ → Family → LengthError
too_long n family = (n, family)

-- the network of the first n bits of an address, or an error: first where n is above the width, then where a bit from n
-- on is set (the crate `cidr`, `new`)
abbrev pub network_from : Family → List Bool → ℕ → Result (List Bool) NetworkParseError
network_from family a n =
    if nat_lt (width_of family) n then Err (parse_error.NetworkLengthTooLongError (too_long n family))
    else (if bit_eq (drop n a) (zeros (width_of family - n)) then Ok (take n a) else Err parse_error.InvalidHostPart)

-- what is fed to a hasher for an address: its number, as a `u32` or a `u128`
abbrev pub address_hash : Family → List Bool → List (List ℕ)
address_hash Ipv4 a = fed.u32 (number a)
address_hash Ipv6 a = fed.u128 (number a)

-- equal hash inputs come from equal values
abbrev pub IsHashedApart : {A : Type 0} → (A → Type 0) → (A → List (List ℕ)) → Type 0
IsHashedApart {A} IsValue hash = (a b : A) → IsValue a → IsValue b → hash a ≡ hash b → a ≡ b

-- what is fed to a hasher for a network: its first address and its prefix length
abbrev pub network_hash : Family → List Bool → List (List ℕ)
network_hash family network = address_hash family (first_of (width_of family) network) ++ fed.u8 (length network)
