-- Labels of IPv6 names, two at a time.
use Rattle.std.proofs.Common.{◌≡◌, ℕ, ◌-◌, ◌*◌, ◌/◌, ◌%◌, ◌<◌, ◌+◌, Bool, List, [], ◌∷◌, ◌++◌, length, take, drop, reverse, refl, sym, ap, ap₂, ◌∙◌, append_assoc, arith, IsAscii}
use Rattle.std.specs.Char.{digit_char}
use Rattle.cidr.specs.model.Address.{parts_of}
use Rattle.cidr.specs.model.Bits.{number}
use Rattle.cidr.specs.texts.Ipv4Text.{dot}
use Rattle.cidr.specs.declared.family.Family.TheVariants.{Ipv6}
use Rattle.cidr.proofs.TextTables.{IsAscii-from_test, row_at}
use Rattle.cidr_ext.specs.texts.Reverse.{labels_text}
use Rattle.cidr_ext.proofs.Labels.{front, length-front, more_labels, no_labels, value-front}
use Rattle.cidr_c.specs.declared.labels.TheConstants.{LABELS}

-- ---- the table
pub pair_in_table : (n at : ℕ) → at ≡ n → n < 256
    → take (at * 4 + 4 - at * 4) (drop (at * 4) LABELS.now) ≡ digit_char (n % 16) ∷ dot ∷ digit_char (n / 16) ∷ dot ∷ []
pair_in_table n at e h =
    let width : at * 4 + 4 - at * 4 ≡ 4 = omega arith in
    rw (width, e) (row_at 4 LABELS.now (λ k. digit_char (k % 16) ∷ dot ∷ digit_char (k / 16) ∷ dot ∷ []) refl n h)

pub IsAscii-labels : IsAscii LABELS.now
IsAscii-labels = IsAscii-from_test LABELS.now refl

-- ---- the labels of a number
module _ (value count : ℕ) (network : List Bool) (size : length network ≡ 4 * count) (is : value ≡ number network) where
  -- two, and then those of the others
  pub two_more : (old pushed new : List ℕ) → 1 < count
      → pushed ≡ old ++ (digit_char (value % 256 % 16) ∷ dot ∷ digit_char (value % 256 / 16) ∷ dot ∷ [])
      → ((rest : List Bool) → length rest ≡ 4 * (count - 2) → value / 256 ≡ number rest
      → new ≡ pushed ++ labels_text Ipv6 (reverse (parts_of 4 (count - 2) rest)))
      → new ≡ old ++ labels_text Ipv6 (reverse (parts_of 4 count network))
  two_more old pushed new many put rest =
      let some : 0 < count = omega arith in
      let next : 0 < count - 1 = omega arith in
      let one = front Ipv6 value count network some size is in
      let one_size : length one ≡ 4 * (count - 1) = length-front Ipv6 value count network some size is in
      let one_is : value / 16 ≡ number one = value-front Ipv6 value count network some size is in
      let two = front Ipv6 (value / 16) (count - 1) one next one_size one_is in
      let two_size : length two ≡ 4 * (count - 1 - 1) = length-front Ipv6 (value / 16) (count - 1) one next one_size one_is in
      let two_is : value / 16 / 16 ≡ number two = value-front Ipv6 (value / 16) (count - 1) one next one_size one_is in
      let left : count - 2 ≡ count - 1 - 1 = omega arith in
      let low : value % 256 % 16 ≡ value % 16 = omega arith in
      let high : value % 256 / 16 ≡ value / 16 % 16 = omega arith in
      let both : value / 256 ≡ value / 16 / 16 = omega arith in
      let first : List ℕ = old ++ (digit_char (value % 16) ∷ dot ∷ []) in
      let second : List ℕ = first ++ (digit_char (value / 16 % 16) ∷ dot ∷ []) in
      let pushed_is : pushed ≡ second =
      put ∙ ap₂ (λ x y. old ++ (digit_char x ∷ dot ∷ digit_char y ∷ dot ∷ [])) low high
      ∙ sym (append_assoc old (digit_char (value % 16) ∷ dot ∷ []) (digit_char (value / 16 % 16) ∷ dot ∷ [])) in
      let new_is : new ≡ second ++ labels_text Ipv6 (reverse (parts_of 4 (count - 1 - 1) two)) =
      rest two (two_size ∙ ap (λ n. 4 * n) (sym left)) (both ∙ two_is)
      ∙ ap₂ (λ t n. t ++ labels_text Ipv6 (reverse (parts_of 4 n two))) pushed_is left in
      more_labels Ipv6 value count network some size is old first new (value % 16) refl refl
      (more_labels Ipv6 (value / 16) (count - 1) one next one_size one_is first second new (value / 16 % 16) refl refl new_is)

  -- one alone
  pub one_more : (old new : List ℕ) → count ≡ 1 → new ≡ (old ++ digit_char (value % 16) ∷ []) ++ dot ∷ []
      → new ≡ old ++ labels_text Ipv6 (reverse (parts_of 4 count network))
  one_more old new alone put =
      let some : 0 < count = omega arith in
      let none : count - 1 ≡ 0 = omega arith in
      let pushed : new ≡ old ++ (digit_char (value % 16) ∷ dot ∷ []) = put ∙ append_assoc old (digit_char (value % 16) ∷ []) (dot ∷ []) in
      more_labels Ipv6 value count network some size is old new new (value % 16) refl pushed
      (no_labels Ipv6 (count - 1) (front Ipv6 value count network some size is) new none)
