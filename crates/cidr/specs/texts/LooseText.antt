-- A loose IPv4 address as a string (POSIX, `inet_addr`): one to four numbers joined by dots. Each but the last is an
-- octet, and the last fills what is left of the 32 bits. The plus before decimal digits is the crate `cidr`'s own.
use Rattle.std.specs.Prelude.{◌≡◌, ◌≢◌, ℕ, ◌-◌, ◌*◌, ◌^◌, ◌<◌, ◌≤◌, ◌⊎◌, Bool, List, [], ◌∷◌, ◌++◌, length, slice_index}
use Rattle.std.specs.List.{All}
use Rattle.cidr.specs.model.Bits.{bits}
use Rattle.cidr.specs.model.Address.{octet_bits}
use Rattle.cidr.specs.texts.Ipv4Text.{digit_zero, IsJoined}
use Rattle.cidr.specs.texts.Ipv6Text.{IsIpv6Text}
use Rattle.cidr.specs.texts.NetworkText.{plus, IsNumberText}
use Rattle.cidr.specs.declared.addr.ip.IpAddr.{IpAddr}
use Rattle.cidr.specs.declared.addr.ip.IpAddr.TheVariants.{V4, V6}

-- one or more digits of the radix, of a value below 2^32
abbrev pub IsU32Text : ℕ → List ℕ → ℕ → Type 0
IsU32Text radix = IsNumberText radix (2 ^ 32)

-- `b'x'` or `b'X'`
abbrev pub IsLetterX : ℕ → Type 0
IsLetterX byte = (byte ≡ 120) ⊎ (byte ≡ 88)

-- `0x` or `0X`, and then hexadecimal digits of either case
abbrev pub IsHexPart : List ℕ → ℕ → Type 0
IsHexPart text n = (x : ℕ) × (digits : List ℕ) × (text ≡ digit_zero ∷ x ∷ digits) × IsLetterX x × IsU32Text 16 digits n

-- any other string that begins with `0`: octal digits, so that `0` alone is octal zero
abbrev pub IsOctalPart : List ℕ → ℕ → Type 0
IsOctalPart text n = (slice_index text 0 ≡ digit_zero) × IsU32Text 8 text n

-- a string that begins with another byte: decimal digits, or a plus and decimal digits, where zeros may follow the plus
abbrev pub IsDecimalPart : List ℕ → ℕ → Type 0
IsDecimalPart text n =
    ((slice_index text 0 ≢ digit_zero) × IsU32Text 10 text n)
    ⊎ ((digits : List ℕ) × (text ≡ plus ∷ digits) × IsU32Text 10 digits n)

-- a number below 2^32 in one of the three forms
abbrev pub IsLoosePart : List ℕ → ℕ → Type 0
IsLoosePart text n = IsHexPart text n ⊎ (IsOctalPart text n ⊎ IsDecimalPart text n)

-- up to three octets, and then a number that has the bits they leave
pub record IsLooseText (text : List ℕ) (address : List Bool) : Type 0 where
  pub octets : List ℕ
  pub last : ℕ
  pub few : length octets ≤ 3
  pub fit : All (λ octet. octet < 256) octets
  pub last_fits : last < 2 ^ (32 - 8 * length octets)
  pub joined : IsJoined IsLoosePart text (octets ++ last ∷ [])
  pub value : address ≡ octet_bits octets ++ bits (32 - 8 * length octets) last

-- of either family: a loose IPv4 address, or an IPv6 address in the strict form; no string is both
abbrev pub IsLooseIpText : List ℕ → IpAddr → Type 0
IsLooseIpText text (V4 a) = IsLooseText text a
IsLooseIpText text (V6 a) = IsIpv6Text text a
