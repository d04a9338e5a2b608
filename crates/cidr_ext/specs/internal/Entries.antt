-- How a registry is searched, in the contracts of private functions. w is the width of addresses.
use Rattle.std.specs.Prelude.{◌≡◌, ℕ, ◌+◌, ◌-◌, ◌/◌, ◌^◌, ◌≤◌, ◌==◌, nat_lt, Bool, true, ◌&&◌, not, List, [], ◌∷◌, Option, MatchOption}
use Rattle.std.specs.List.{Contains}
use Rattle.cidr_ext.specs.declared.registry.SpecialEntry.{SpecialEntry}
use denote.Ref.{Bor}

-- the address with the number n is in the block
unfoldable pub has_block : ℕ → ℕ → SpecialEntry → Bool
has_block w n entry = n / 2 ^ (w - entry.len) == entry.first / 2 ^ (w - entry.len)

-- one of the longest entries that pass a test, or nothing where none does
abbrev pub IsOneLongest : (SpecialEntry → Bool) → List SpecialEntry → Option (Bor SpecialEntry) → Type 0
IsOneLongest passes entries found = MatchOption found ((entry : SpecialEntry) → Contains entries entry → ¬ (passes entry ≡ true))
    (λ best. Contains entries best.now × (passes best.now ≡ true) × ((entry : SpecialEntry) → Contains entries entry → passes entry ≡ true → entry.len ≤ best.now.len))

-- two entries have the same block
unfoldable pub same_block : ℕ → SpecialEntry → SpecialEntry → Bool
same_block w p q = (p.len == q.len) && has_block w p.first q

-- an entry has the block of none of these
unfoldable pub none_same : ℕ → SpecialEntry → List SpecialEntry → Bool
none_same w p [] = true
none_same w p (q ∷ entries) = not (same_block w p q) && none_same w p entries

-- entries of addresses of w bits, of which no two have the same block
unfoldable pub are_entries : ℕ → List SpecialEntry → Bool
are_entries w [] = true
are_entries w (p ∷ entries) = (nat_lt p.first (2 ^ w) && nat_lt p.len (w + 1)) && (none_same w p entries && are_entries w entries)
