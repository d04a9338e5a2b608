-- The registries of addresses for special purposes as tables.
use Rattle.std.proofs.Common.{◌≡◌, ◌⊎◌, sym, ◌∙◌, ap, subst, arith, inl, inr, ℕ, ◌<◌, ◌≤◌, Bool, List, [], ◌∷◌, length, map, min, take, Some, None}
use Rattle.std.specs.List.{Contains}
use Rattle.std.proofs.lemmas.List.{length-take, take_min}
use Rattle.cidr.specs.laws.BitLaws.{length-bits}
use Rattle.cidr.specs.model.Bits.{bits}
use Rattle.cidr.specs.model.Network.{BeginsWith, width_of}
use Rattle.cidr.specs.declared.family.Family.{Family}
use Rattle.cidr_ext.specs.model.Special.{HasNoEntry, IsEntryOf, block_of, entries_of}
use Rattle.cidr_ext.specs.declared.registry.SpecialEntry.{SpecialEntry}
use Rattle.cidr_sets.proofs.Joining.{contains_map}
use Rattle.cidr_table.proofs.MapLaws.{contains_cases, contains_first, contains_later, contains_nothing}
use Rattle.cidr_table.specs.model.Prefixes.{IsLookedUp}
use Rattle.cidr_lists.specs.Classes.{entry_row, registry}

-- an element by what a function gives of it
pub from_mapped : {X Y : Type 0} (f : X → Y) (xs : List X) (y : Y) → Contains (map f xs) y → (x : X) × Contains xs x × (f x ≡ y)
from_mapped f [] y c = absurd (contains_nothing y c)
from_mapped f (x ∷ xs) y c = elim (contains_cases (f x) y (map f xs) c) [
  | inl e ↦ (x, contains_first x xs, e)
  | inr d ↦ let (z, there, is) = from_mapped f xs y d in (z, contains_later x z xs there, is)
]

module _ (family : Family) (a : List Bool) where
  size : (entry : SpecialEntry) → length (block_of family entry) ≡ min entry.len (width_of family)
  size entry = length-take entry.len (bits (width_of family) entry.first) ∙ ap (min entry.len) (length-bits (width_of family) entry.first)

  -- the block of an entry, by the first bits of an address in it
  pub block_begins : (entry : SpecialEntry) → length a ≡ width_of family → BeginsWith a (block_of family entry) → take entry.len a ≡ block_of family entry
  block_begins entry wide within =
      sym (take_min entry.len a) ∙ (ap (λ (n : ℕ). take n a) (ap (min entry.len) wide ∙ sym (size entry)) ∙ within)

  not_longer : (entry other : SpecialEntry) → (other ≡ entry) ⊎ (other.len < entry.len) → length (block_of family other) ≤ length (block_of family entry)
  not_longer entry other (inl same) =
      let e : length (block_of family other) ≡ length (block_of family entry) = ap (λ (k : SpecialEntry). length (block_of family k)) same in
      omega (arith, e)
  not_longer entry other (inr less) = omega (arith, less, size entry, size other)

  -- the entry of an address is found in the registry as a table
  pub entry_found : (entry : SpecialEntry) → IsEntryOf family a entry → IsLookedUp (λ (p : List Bool). p) a (registry family) (Some (entry_row family entry))
  entry_found entry is = record {
    here = contains_map (entry_row family) (entries_of family) entry is.listed;
    begins = is.within;
    longest = λ row there begins.
        let (other, listed, same) = from_mapped (entry_row family) (entries_of family) row there in
        let of : block_of family other ≡ row.0 = ap (λ (k : List Bool × List ℕ). k.0) same in
        subst (λ (k : List Bool). length k ≤ length (block_of family entry)) of
        (not_longer entry other (is.longest other listed (subst (BeginsWith a) (sym of) begins)));
  }

  -- where no block has the address, none is found
  pub no_entry_found : HasNoEntry family a → IsLookedUp (λ (p : List Bool). p) a (registry family) None
  no_entry_found none row there begins =
      let (entry, listed, same) = from_mapped (entry_row family) (entries_of family) row there in
      none entry listed (subst (BeginsWith a) (sym (ap (λ (k : List Bool × List ℕ). k.0) same)) begins)
