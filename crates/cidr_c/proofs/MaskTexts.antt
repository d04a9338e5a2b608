-- The texts of masks stand in the tables.
use Rattle.std.proofs.Common.{◌≡◌, ◌≢◌, ℕ, ◌+◌, ◌-◌, ◌*◌, ◌/◌, ◌%◌, ◌<◌, ◌≤◌, List, [], ◌∷◌, ◌++◌, take, drop, map, get_or, refl, sym, ap, ◌∙◌, arith, inl, inr, IsAscii}
use Rattle.std.proofs.lemmas.Bool.{cases_lt}
use Rattle.std.proofs.lemmas.List.FromFn.{get_or-map-range_with_len}
use Rattle.std.specs.List.{range_with_len}
use Rattle.std.specs.Net.Text.{hex, hex_groups_text}
use Rattle.cidr.specs.model.Address.{parts_of}
use Rattle.cidr.specs.model.Bits.{number}
use Rattle.cidr.specs.model.Network.{ones, zeros}
use Rattle.cidr.specs.texts.PrintedAddress.{ipv4_text, ipv6_text}
use Rattle.cidr.proofs.TextTables.{IsAscii-from_test}
use Rattle.cidr_c.specs.declared.mask_texts.TheConstants.{HOST_MASKS, MASKS}

pub IsAscii-masks : IsAscii MASKS.now
IsAscii-masks = IsAscii-from_test MASKS.now refl

pub IsAscii-host_masks : IsAscii HOST_MASKS.now
IsAscii-host_masks = IsAscii-from_test HOST_MASKS.now refl

-- functions that are the same at each number of a range
same_at : (f g : ℕ → List ℕ) (start count n : ℕ) → start ≤ n → n < start + count
    → map f (range_with_len start count) ≡ map g (range_with_len start count) → f n ≡ g n
same_at f g start count n low high e =
    sym (get_or-map-range_with_len f start count (n - start) n [] (omega arith) (omega arith)) ∙ ap (λ t. get_or t (n - start) []) e
    ∙ get_or-map-range_with_len g start count (n - start) n [] (omega arith) (omega arith)

-- ---- network masks
abbrev mask : ℕ → List ℕ
mask n = ipv6_text (ones n ++ zeros (128 - n))

abbrev mask_row : ℕ → List ℕ
mask_row n =
    take ((n - 1) % 16 * 41 + 41 - (n - 1) / 16 / 7 * 2 - ((n - 1) % 16 * 41 + (7 - (n - 1) / 16) * 5))
    (drop ((n - 1) % 16 * 41 + (7 - (n - 1) / 16) * 5) MASKS.now)

pub no_mask : (n at : ℕ) → at ≡ n → at ≡ 0 → 58 ∷ 58 ∷ [] ≡ mask n
unfolding hex hex_groups_text ipv4_text ipv6_text number parts_of
no_mask n at e none = let z : n ≡ 0 = omega arith in rw z refl

pub in_masks : (n at : ℕ) → at ≡ n → n ≤ 128 → at ≢ 0 → (at - 1) / 16 ≢ 6 → mask_row at ≡ mask n
unfolding hex hex_groups_text ipv4_text ipv6_text number parts_of
in_masks n at e within some six =
    rw e (elim (cases_lt n 97) [
      | inl low ↦ same_at mask_row mask 1 96 n (omega arith) (omega arith) refl
      | inr high ↦ same_at mask_row mask 113 16 n (omega arith) (omega arith) refl
    ])

-- ---- host masks
abbrev host_mask : ℕ → List ℕ
host_mask n = ipv6_text (zeros n ++ ones (128 - n))

abbrev host_mask_row : ℕ → List ℕ
host_mask_row n =
    take (n % 16 * 31 + 2 + (4 - n % 16 / 4) + (7 - n / 16) * 5 - n % 16 * 31) (drop (n % 16 * 31) HOST_MASKS.now)

pub no_host_mask : (n at : ℕ) → at ≡ n → at ≡ 128 → 58 ∷ 58 ∷ [] ≡ host_mask n
unfolding hex hex_groups_text ipv4_text ipv6_text number parts_of
no_host_mask n at e all = let z : n ≡ 128 = omega arith in rw z refl

pub in_host_masks : (n at : ℕ) → at ≡ n → n ≤ 128 → at ≢ 128 → at ≢ 80 → 32 ≤ at → host_mask_row at ≡ host_mask n
unfolding hex hex_groups_text ipv4_text ipv6_text number parts_of
in_host_masks n at e within some mapped many =
    rw e (elim (cases_lt n 80) [
      | inl low ↦ same_at host_mask_row host_mask 32 48 n (omega arith) (omega arith) refl
      | inr high ↦ same_at host_mask_row host_mask 81 47 n (omega arith) (omega arith) refl
    ])
