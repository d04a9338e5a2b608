-- A packet is the list of the numbers of its fields, and a region has a range of numbers for each field, in the same order.
use Rattle.std.specs.Prelude.{ℕ, ◌&&◌, Bool, true, false, List, [], ◌∷◌, nat_le}
use Rattle.cidr_rules.specs.declared.fields.Range.{Range}
use Rattle.cidr_rules.specs.declared.regions.Packet.{Packet}
use Rattle.cidr_rules.specs.declared.regions.Region.{Region}

module _ {A : Type 0} (number : A → ℕ) where
  abbrev pub range_of : Range A → Range ℕ
  range_of r = record { first = number r.first; last = number r.last }

  -- the fields of a packet
  abbrev pub fields_of : Packet A → List ℕ
  fields_of p = number p.source ∷ number p.destination ∷ p.protocol ∷ p.source_port ∷ p.destination_port ∷ []

  -- the ranges of a region
  abbrev pub ranges_of : Region A → List (Range ℕ)
  ranges_of r = range_of r.source ∷ range_of r.destination ∷ r.protocol ∷ r.source_port ∷ r.destination_port ∷ []

-- the number is in the range, of which both ends are part
abbrev pub is_between : Range ℕ → ℕ → Bool
is_between r n = nat_le r.first n && nat_le n r.last

-- each field is in its range
unfoldable pub is_in : List (Range ℕ) → List ℕ → Bool
is_in [] [] = true
is_in [] (n ∷ ns) = false
is_in (r ∷ rs) [] = false
is_in (r ∷ rs) (n ∷ ns) = is_between r n && is_in rs ns
