-- The list of all addresses of some networks, as an iterator keeps what is left of it.
use Rattle.std.specs.Prelude.{ℕ, ◌+◌, ◌-◌, ◌^◌, ◌<◌, ◌≤◌, Bool, List, [], ◌∷◌, ◌++◌, length, map, Option, Some, None, IfSome, nat_le, if◌then◌else◌}
use Rattle.std.specs.List.{range_with_len}
use Rattle.cidr.specs.model.Bits.{bits, number}
use Rattle.cidr.specs.model.Network.{first_of, last_of}

-- the addresses from one number to another, inclusive, or none
abbrev pub numbered : ℕ → Option (ℕ × ℕ) → List (List Bool)
numbered w None = []
numbered w (Some (first, last)) = map (bits w) (range_with_len first (last + 1 - first))

-- both are numbers of addresses, and the first is not above the last
abbrev pub AreEndNumbers : ℕ → Option (ℕ × ℕ) → Type 0
AreEndNumbers w ends = IfSome ends (λ e. (e.0 ≤ e.1) × (e.1 < 2 ^ w))

-- the numbers of the first and the last address of a network, or none where it has more bits than an address
abbrev pub ends_of : ℕ → List Bool → Option (ℕ × ℕ)
ends_of w p = if nat_le (length p) w then Some (number (first_of w p), number (last_of w p)) else None

-- those of one network after the other
abbrev pub addresses_in : ℕ → List (List Bool) → List (List Bool)
addresses_in w [] = []
addresses_in w (p ∷ networks) = numbered w (ends_of w p) ++ addresses_in w networks

-- what is left of a network at the front, then of whole networks, and then of a network at the back
abbrev pub left_of : ℕ → Option (ℕ × ℕ) → List (List Bool) → Option (ℕ × ℕ) → List (List Bool)
left_of w front networks back = numbered w front ++ (addresses_in w networks ++ numbered w back)
