-- The field of a line at a place.
use Rattle.std.proofs.Common.{◌≡◌, ◌≢◌, ◌⊎◌, refl, sym, ◌∙◌, ap, arith, inl, inr, ℕ, zero, suc, ◌+◌, ◌-◌, ◌<◌, ◌≤◌, ◌==◌, Bool, false, not, List, [], ◌∷◌, length, take, get_or, slice_index}
use Rattle.std.specs.Char.{is_ascii_whitespace}
use Rattle.std.specs.Str.{IsTrimAscii}
use Rattle.std.specs.List.{after_first, before_first, position_or_len, slice_split}
use Rattle.std.proofs.Math.Nat.{eq-or-lt_of_le}
use Rattle.std.proofs.Math.Seq.{take-length}
use Rattle.std.proofs.lemmas.List.{drop_all, get_or-take, length-take}
use Rattle.std.proofs.lemmas.List.Splits.{slice_split_first, slice_split_none}
use Rattle.std.proofs.lemmas.List.Sums.{fails_before_first, prefix_len-le-length}
use Rattle.cidr_lists.specs.Fields.{HasFields, IsBadAddress, IsBadField, IsFieldOf, IsNoAddressField, IsNoNetworkField, behind_field, field_at}
use Rattle.cidr_lists.specs.declared.columns.Column.{Column}
use Rattle.cidr_lists.specs.declared.columns.Separator.{Separator}
use Rattle.cidr_lists.specs.declared.columns.Separator.TheVariants.{WhiteSpace, Byte}
use Rattle.cidr_lists.specs.declared.errors.LineError.{LineError}
use Rattle.cidr_lists.specs.declared.errors.LineError.TheVariants as error
use Rattle.cidr_lists.specs.declared.lines.HostBits.TheVariants.{Refused}

-- ---- nothing is left
none_behind : (separator : Separator) → behind_field separator [] ≡ []
none_behind WhiteSpace = refl
none_behind (Byte c) = refl

none_left : (separator : Separator) (n : ℕ) → field_at separator n [] ≡ []
none_left WhiteSpace zero = refl
none_left (Byte c) zero = refl
none_left separator (suc n) = ap (field_at separator n) (none_behind separator) ∙ none_left separator n

-- ---- a field between white space
module _ (bytes field : List ℕ) (is : field ≡ before_first is_ascii_whitespace bytes) where
  none_in : (k : ℕ) → k < length field → is_ascii_whitespace (slice_index field k) ≡ false
  none_in k within =
      let n : ℕ = position_or_len is_ascii_whitespace bytes in
      let size : length field ≡ length (take n bytes) = ap length is in
      let before : k < n = omega (arith, within, size, length-take n bytes) in
      ap (λ (text : List ℕ). is_ascii_whitespace (slice_index text k)) is
      ∙ (ap is_ascii_whitespace (get_or-take n bytes k 0 before) ∙ fails_before_first is_ascii_whitespace bytes k 0 before)

  -- it has none at its ends
  pub untrimmed : IsTrimAscii field field
  untrimmed = (
    0,
    sym (take-length field),
    λ i below. absurd (omega (arith, below)),
    λ some. none_in 0 some,
    λ i from within. absurd (omega (arith, from, within)),
    λ some. none_in (length field - 1) (omega (arith, some)),
  )

-- ---- behind so many fields
module _ (separator : Separator) (field : List ℕ) (place i : ℕ) (rest : List ℕ) (h : (n : ℕ) → n + i ≡ place → field_at separator n rest ≡ field) where
  pub one_behind : (n : ℕ) → n + (i + 1) ≡ place → field_at separator n (behind_field separator rest) ≡ field
  one_behind n e = h (suc n) (omega (arith, e))

  pub all_behind : i ≤ place → place ≤ i → field_at separator 0 rest ≡ field
  all_behind below past = h 0 (omega (arith, below, past))

  pub none_there : i ≤ place → rest ≡ [] → field_at separator 0 rest ≡ field
  none_there below none =
      let n : ℕ = place - i in
      ap (field_at separator 0) none
      ∙ (none_left separator 0 ∙ (sym (none_left separator n) ∙ (ap (field_at separator n) (sym none) ∙ h n (omega (arith, below)))))

-- ---- between bytes
-- no byte of the line passes a test
module _ (p : ℕ → Bool) (line : List ℕ) (none : position_or_len p line ≡ length line) where
  all_before : before_first p line ≡ line
  all_before = ap (λ (k : ℕ). take k line) none ∙ take-length line

  none_after : after_first p line ≡ []
  none_after = drop_all (position_or_len p line + 1) line (omega (arith, none))

  one_part : slice_split p line ≡ line ∷ []
  one_part = slice_split_none p line (λ k d within. fails_before_first p line k d (omega (arith, none, within)))

-- a byte does, or none does
passes : (p : ℕ → Bool) (line : List ℕ) → (position_or_len p line ≡ length line) ⊎ (position_or_len p line < length line)
passes p line = eq-or-lt_of_le (prefix_len-le-length (λ (x : ℕ). not (p x)) line)

part_by : (c place : ℕ) (line : List ℕ)
    → (position_or_len (λ (b : ℕ). b == c) line ≡ length line) ⊎ (position_or_len (λ (b : ℕ). b == c) line < length line)
    → field_at (Byte c) place line ≡ get_or (slice_split (λ (b : ℕ). b == c) line) place []
part_by c zero line (inl none) =
    all_before (λ (b : ℕ). b == c) line none ∙ sym (ap (λ (parts : List (List ℕ)). get_or parts 0 []) (one_part (λ (b : ℕ). b == c) line none))
part_by c (suc place) line (inl none) =
    ap (field_at (Byte c) place) (none_after (λ (b : ℕ). b == c) line none)
    ∙ (none_left (Byte c) place ∙ sym (ap (λ (parts : List (List ℕ)). get_or parts (suc place) []) (one_part (λ (b : ℕ). b == c) line none)))
part_by c zero line (inr some) = sym (ap (λ (parts : List (List ℕ)). get_or parts 0 []) (slice_split_first (λ (b : ℕ). b == c) line 0 some))
part_by c (suc place) line (inr some) =
    part_by c place (after_first (λ (b : ℕ). b == c) line) (passes (λ (b : ℕ). b == c) (after_first (λ (b : ℕ). b == c) line))
    ∙ sym (ap (λ (parts : List (List ℕ)). get_or parts (suc place) []) (slice_split_first (λ (b : ℕ). b == c) line 0 some))

-- the fields of a line between bytes are its parts
pub field_is_part : (c place : ℕ) (line : List ℕ) → field_at (Byte c) place line ≡ get_or (slice_split (λ (b : ℕ). b == c) line) place []
field_is_part c place line = part_by c place line (passes (λ (b : ℕ). b == c) line)

-- ---- what it says
pub bad_field : (column : Column) (line field : List ℕ) (e : LineError) → HasFields column.separator line → IsFieldOf column line field → field ≢ []
    → IsNoNetworkField Refused field e → IsBadField column line e
bad_field column line field error.TooLong says is some bad = absurd bad
bad_field column line field error.NoField says is some bad = absurd bad
bad_field column line field (error.NotUtf8 text) says is some bad = (says, field, is, some, bad)
bad_field column line field (error.NoNetwork text e) says is some bad = (says, field, is, some, bad)
bad_field column line field (error.NoAddress text e) says is some bad = absurd bad
bad_field column line field (error.Quoted text) says is some bad = absurd bad
bad_field column line field (error.NoLength text) says is some bad = absurd bad
bad_field column line field (error.NoCount text) says is some bad = absurd bad
bad_field column line field (error.NoType text) says is some bad = absurd bad
bad_field column line field (error.OtherType text) says is some bad = absurd bad
bad_field column line field (error.RangeRow text) says is some bad = absurd bad
bad_field column line field (error.NoAction text) says is some bad = absurd bad
bad_field column line field (error.TwoFamilies text) says is some bad = absurd bad
bad_field column line field (error.Reversed text) says is some bad = absurd bad

pub bad_address : (column : Column) (line field : List ℕ) (e : LineError) → HasFields column.separator line → IsFieldOf column line field → field ≢ []
    → IsNoAddressField field e → IsBadAddress column line e
bad_address column line field error.TooLong says is some bad = absurd bad
bad_address column line field error.NoField says is some bad = absurd bad
bad_address column line field (error.NotUtf8 text) says is some bad = (says, field, is, some, bad)
bad_address column line field (error.NoNetwork text e) says is some bad = absurd bad
bad_address column line field (error.NoAddress text e) says is some bad = (says, field, is, some, bad)
bad_address column line field (error.Quoted text) says is some bad = absurd bad
bad_address column line field (error.NoLength text) says is some bad = absurd bad
bad_address column line field (error.NoCount text) says is some bad = absurd bad
bad_address column line field (error.NoType text) says is some bad = absurd bad
bad_address column line field (error.OtherType text) says is some bad = absurd bad
bad_address column line field (error.RangeRow text) says is some bad = absurd bad
bad_address column line field (error.NoAction text) says is some bad = absurd bad
bad_address column line field (error.TwoFamilies text) says is some bad = absurd bad
bad_address column line field (error.Reversed text) says is some bad = absurd bad
