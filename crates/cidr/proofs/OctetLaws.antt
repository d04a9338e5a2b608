-- The octets of an IPv4 address.
use Rattle.std.proofs.Common.{◌≡◌, ℕ, ◌/◌, ◌%◌, ◌^◌, ◌<◌, [], ◌∷◌, ap, ap₂, ◌∙◌, arith}
use Rattle.std.specs.Int.{w32, from_be_bytes, to_be_bytes}
use Rattle.cidr.specs.model.Bits.{bits}
use Rattle.cidr.specs.laws.BitLaws.{length-bits}
use Rattle.cidr.specs.model.Address.{octet_bits, octets_of}
use Rattle.cidr.proofs.PartLaws.{joined_number, bits-parts, parts_of-bits, parts_of-none}

pub bits-octets : (a b c d : ℕ) → a < 256 → b < 256 → c < 256 → d < 256 → bits 32 (from_be_bytes w32 (a ∷ b ∷ c ∷ d ∷ [])) ≡ octet_bits (a ∷ b ∷ c ∷ d ∷ [])
bits-octets a b c d ha hb hc hd =
    let e : from_be_bytes w32 (a ∷ b ∷ c ∷ d ∷ []) ≡ joined_number 8 0 (a ∷ b ∷ c ∷ d ∷ []) = omega arith in
    ap (bits 32) e ∙ bits-parts 8 (a ∷ b ∷ c ∷ d ∷ []) (ha, (hb, (hc, (hd, tt))))

pub octets_of-bits : (n : ℕ) → n < 2 ^ 32 → octets_of (bits 32 n) ≡ to_be_bytes w32 n
octets_of-bits n fits =
    parts_of-bits 8 3 n ∙ ap (λ t. n / 2 ^ 24 % 2 ^ 8 ∷ t) (parts_of-bits 8 2 n ∙ ap (λ t. n / 2 ^ 16 % 2 ^ 8 ∷ t) (parts_of-bits 8 1 n ∙ ap (λ t. n / 2 ^ 8 % 2 ^ 8 ∷ t)
    (parts_of-bits 8 0 n ∙ ap₂ (λ x t. x ∷ t) (omega arith) (parts_of-none 8 _))))

pub ruleset octet_laws = (bits-octets, octets_of-bits, length-bits)
