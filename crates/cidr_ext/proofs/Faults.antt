-- Strings of digits, and what is wrong with a string.
use Rattle.std.proofs.Common.{◌≡◌, ◌==◌, ◌&&◌, not, nat_lt, ℕ, ◌+◌, ◌^◌, ◌<◌, ◌≤◌, Bool, true, false, List, [], ◌∷◌, length, refl, sym, ap, ◌∙◌, arith, inl, inr, subst, MatchOption, Option, Some, None, Result, Ok, Err}
use Rattle.std.proofs.lemmas.Bool.{cases_lt}
use Rattle.std.proofs.lemmas.Bool.Decides.{nat_tests}
use Rattle.std.proofs.lemmas.Str.Parse.{IsNumeralModel, numerals_by_value, tells_all_ascii_digits, parse_digits}
use Rattle.std.specs.Bool.{Decides}
use Rattle.std.specs.Char.{is_ascii_digit}
use Rattle.std.specs.Option.{is_some}
use Rattle.std.specs.List.{list_all, slice_split, count_by}
use Rattle.std.specs.Result.{OkIff, is_err}
use Rattle.std.specs.Str.{all_ascii_digits}
use Rattle.std.specs.Str.Parse.{ParsesUnsigned, digits_value}
use Rattle.std.proofs.lemmas.List.Splits.{length-slice_split}
use Rattle.cidr.specs.either.IpAddress.{IsIpText, address_family, plain_bits}
use Rattle.cidr.specs.model.Network.{width_of}
use Rattle.cidr.specs.declared.addr.ip.IpAddr.{IpAddr}
use Rattle.cidr.specs.declared.cidr.combined.IpCidr.{IpCidr}
use Rattle.cidr.proofs.EitherAddresses.{one_ip_address}
use Rattle.cidr_ext.specs.texts.MaskText.{IsLengthOfMask}
use Rattle.cidr_ext.specs.declared.text_faults.TextFault.TheVariants.{LeadingZero, NumberAbove255, NotFourOctets, LongGroup, MaskForLength, HostBits}
use Rattle.cidr_ext.specs.texts.TextFaults.{behind_slash, has_large_number, has_leading_zero, has_other_count, HasFault, HasNoFault, is_above_255, is_byte, is_long, is_number, IsMask, some_group}

pub digits_are_all : (text : List ℕ) → list_all is_ascii_digit text ≡ all_ascii_digits text
digits_are_all [] = refl
digits_are_all (c ∷ cs) = ap (λ (b : Bool). is_ascii_digit c && b) (digits_are_all cs)

digits_model : IsNumeralModel (λ ds. all_ascii_digits ds ≡ true) (digits_value 10)
digits_model = numerals_by_value _ tells_all_ascii_digits

-- ---- a number above 255
both : (a b : Bool) → (a && b) ≡ true → (a ≡ true) × (b ≡ true)
both true b e = (refl, e)
both false b e = let no : false ≡ true = e in cc

some_length : (n : ℕ) → not (n == 0) ≡ true → 0 < n
some_length n some = grind (arith, nat_tests)

digits_of : (text : List ℕ) → is_number text ≡ true → (0 < length text) × (all_ascii_digits text ≡ true)
digits_of text number =
    let parts = both (not (length text == 0)) (all_ascii_digits text) number in
    (some_length (length text) parts.0, parts.1)

is_not_large : (n : ℕ) → n < 256 → false ≡ nat_lt 255 n
is_not_large n small = grind (arith, nat_tests)

is_large : (n : ℕ) → 256 ≤ n → true ≡ nat_lt 255 n
is_large n large = grind (arith, nat_tests)

large_by : {E : Type 0} (text : List ℕ) (r : Result ℕ E) → is_number text ≡ true
    → OkIff r ((0 < length text) × (digits_value 10 text < 2 ^ 8)) (digits_value 10 text) → is_err r ≡ is_above_255 text
large_by text (Ok n) number (fits, same) =
    is_not_large (digits_value 10 text) fits.1 ∙ sym (ap (λ (b : Bool). b && nat_lt 255 (digits_value 10 text)) number)
large_by text (Err e) number none =
    elim (cases_lt (digits_value 10 text) 256) [
      | inl less ↦ absurd (none ((digits_of text number).0, less))
      | inr least ↦ is_large (digits_value 10 text) least ∙ sym (ap (λ (b : Bool). b && nat_lt 255 (digits_value 10 text)) number)
    ]

pub large_from_parse : {E : Type 0} (text : List ℕ) (r : Result ℕ E) → is_number text ≡ true → ParsesUnsigned 8 10 text r → is_err r ≡ is_above_255 text
large_from_parse text r number parsed =
    large_by text r number (parse_digits digits_model 8 text r parsed (digits_of text number).1)

-- ---- four octets
four_from_three : (n m : ℕ) → m ≡ n + 1 → (n == 3) ≡ (m == 4)
four_from_three n m more = grind (arith, nat_tests)

pub four_parts : (c : ℕ) (text : List ℕ) (n : ℕ) → n ≡ count_by (is_byte c) text → (n == 3) ≡ (length (slice_split (is_byte c) text) == 4)
four_parts c text n count =
    four_from_three n (length (slice_split (is_byte c) text)) (length-slice_split (is_byte c) text ∙ ap (λ (k : ℕ). k + 1) (sym count))

-- ---- a mask
pub mask_by : (text : List ℕ) (a : IpAddr) (r : Option ℕ) (b : Bool) → IsIpText text a
    → MatchOption r ((n : ℕ) → ¬ (IsLengthOfMask (width_of (address_family a)) n (plain_bits a)))
    (λ n. IsLengthOfMask (width_of (address_family a)) n (plain_bits a)) → b ≡ is_some r → Decides b (IsMask text)
mask_by text a (Some n) b spelled len is = (λ _. (a, n, spelled, len), λ _. is)
mask_by text a None b spelled none is = (
  λ yes. let no : false ≡ true = sym is ∙ yes in cc,
  λ m. absurd (none m.1 (subst (λ (x : IpAddr). IsLengthOfMask (width_of (address_family x)) m.1 (plain_bits x)) (one_ip_address text m.0 a m.2 spelled) m.3)),
)

-- ---- a string in which no fault is found
pub none_found : (text : List ℕ) → some_group has_leading_zero text ≡ false → some_group has_large_number text ≡ false
    → some_group has_other_count text ≡ false → some_group is_long text ≡ false → ¬ (IsMask (behind_slash text))
    → ((network : IpCidr) → ¬ (HasFault text (HostBits network))) → HasNoFault text
none_found text zero large count long mask bits LeadingZero h = let no : false ≡ true = sym zero ∙ h in cc
none_found text zero large count long mask bits NumberAbove255 h = let no : false ≡ true = sym large ∙ h in cc
none_found text zero large count long mask bits NotFourOctets h = let no : false ≡ true = sym count ∙ h in cc
none_found text zero large count long mask bits LongGroup h = let no : false ≡ true = sym long ∙ h in cc
none_found text zero large count long mask bits MaskForLength h = mask h
none_found text zero large count long mask bits (HostBits network) h = bits network h

pub no_mask : (back text : List ℕ) (r : Bool) → back ≡ behind_slash text → Decides r (IsMask back) → r ≡ false → ¬ (IsMask (behind_slash text))
no_mask back text r same decides absent h =
    let holds = decides.1 (subst IsMask (sym same) h) in
    let clash : false ≡ true = sym absent ∙ holds in cc
