-- The headline: what the calls on networks return for any string, any bytes, two networks of one type, an address, and any
-- calls at both ends of a walk.
use Rattle.std.specs.Prelude.{◌≡◌, ◌↔◌, ℕ, ◌<◌, ◌≤◌, Bool, List, length, Option, Some, Ok, IfErr, IsTrue, IsFalse}
use Rattle.std.specs.List.{slice_get}
use Rattle.std.specs.declared.cmp.Ordering.TheVariants.{Less}
use Rattle.cidr.specs.model.Bits.{bit_cmp}
use Rattle.cidr.specs.model.Network.{BeginsWith}
use Rattle.cidr.specs.model.Walk.{network_walk, network_hosts, addresses_of, HasExactly, IsAscending, answers_to}
use Rattle.cidr.specs.model.Calls.{GivesOnce, GivesEach}
use Rattle.cidr.specs.bytes.Agreement.{AllAgree, NoneAgrees}
use Rattle.cidr.specs.bytes.Compact.{AreFirst}
use Rattle.cidr.specs.declared.errors.NetworkParseError.{NetworkParseError}
use Rattle.cidr.specs.declared.family.Family.{Family}
use Rattle.cidr.specs.declared.inet_iterator.driving.End.{End}
use Rattle.cidr.specs.declared.inet_iterator.driving.End.TheVariants.{Front, Back}
use Rattle.cidr_uses.specs.declared.headline.Calls.{Calls}

-- of a type: which string represents a network, the first error of the others, which bits are an address, and of a network its
-- bits, its printed string, the same with a full length, and its compact bytes
module _ {N : Type 0} (Represents : List ℕ → N → Type 0) (IsRejected : List ℕ → NetworkParseError → Type 0) (IsAddress : List Bool → Type 0)
    (bits : N → List Bool) (text long_text bytes : N → List ℕ) where
  -- the address is in the network
  abbrev pub Holds : N → List Bool → Type 0
  Holds n address = IsAddress address × BeginsWith address (bits n)

  pub record Headline (string input : List ℕ) (a b : N) (address : List Bool) (calls : Calls N) : Type 0 where
    -- strict parsing accepts exactly the strings of the grammar, and gives the network that the string represents
    pub parses : (n : N) → (calls.parsed ≡ Ok n) ↔ Represents string n
    pub rejects : IfErr calls.parsed (IsRejected string)
    -- equal values, a tie of `cmp`, equal address sets, equal printed strings and equal compact bytes coincide
    pub all : IsTrue calls.agree ↔ AllAgree Holds text bytes (λ m n. bit_cmp (bits m) (bits n)) a b
    pub none : IsFalse calls.agree ↔ NoneAgrees Holds text bytes (λ m n. bit_cmp (bits m) (bits n)) a b
    pub printed : (calls.text.bytes ≡ text a) × (calls.long_text.bytes ≡ long_text a) × (calls.compact.items ≡ bytes a)
    -- both printed strings parse as the network, and its bytes are read as it, with anything after them
    pub texts_back : (string ≡ text a → calls.parsed ≡ Ok a) × (string ≡ long_text a → calls.parsed ≡ Ok a)
    pub bytes_back : (k : ℕ) → (calls.unpacked ≡ Ok (a, k)) ↔ AreFirst k input (bytes a)
    -- a network contains the addresses that begin with its bits, and another network exactly if that's bits begin with its
    -- own; `cmp` is the lexicographic order of the bits
    pub contains : IsTrue calls.contains ↔ Holds a address
    pub holds : IsTrue calls.contains_network ↔ ((x : List Bool) → Holds b x → Holds a x)
    pub begins : IsTrue calls.contains_network ↔ BeginsWith (bits b) (bits a)
    pub order : calls.order ≡ bit_cmp (bits a) (bits b)

-- any calls at both ends of a walk return each address of the network once, the front's ascending, the back's descending
pub record Walks (family : Family) (network : List Bool) (ends : List End) (answers : List (Option (Family × List Bool))) : Type 0 where
  pub walk : HasExactly family network (network_walk family network) × IsAscending (network_walk family network)
  pub given : answers ≡ answers_to (addresses_of (network_hosts family network)) ends
  pub once : GivesOnce answers × (length (network_walk family network) ≤ length ends → GivesEach (addresses_of (network_hosts family network)) answers)
  -- what the front returns is less than all that later calls return, and what the back returns is greater
  pub ordered : (j k : ℕ) (x y : Family × List Bool) → j < k → slice_get answers j ≡ Some (Some x) → slice_get answers k ≡ Some (Some y)
      → (slice_get ends j ≡ Some Front → bit_cmp x.1 y.1 ≡ Less) × (slice_get ends j ≡ Some Back → bit_cmp y.1 x.1 ≡ Less)
