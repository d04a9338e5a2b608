-- The groups of an IPv6 address.
use Rattle.std.proofs.Common.{◌≡◌, ℕ, ◌+◌, ◌*◌, ◌/◌, ◌%◌, ◌^◌, ◌<◌, [], ◌∷◌, sym, ap, ap₂, ◌∙◌, arith, bit_and}
use Rattle.std.proofs.lemmas.Nat.{and_mask, shr-shr, shr_high}
use Rattle.cidr.specs.model.Bits.{bits}
use Rattle.cidr.specs.laws.BitLaws.{length-bits}
use Rattle.cidr.specs.internal.Halves.{joined}
use Rattle.cidr.specs.model.Address.{group_bits, groups_of}
use Rattle.cidr.proofs.PartLaws.{joined_number, bits-parts, parts_of-bits, parts_of-none}

pub bits-groups : (a b c d e f g h : ℕ) → a < 2 ^ 16 → b < 2 ^ 16 → c < 2 ^ 16 → d < 2 ^ 16 → e < 2 ^ 16 → f < 2 ^ 16 → g < 2 ^ 16
    → h < 2 ^ 16 → bits 128 (((((((a * 65536 + b) * 65536 + c) * 65536 + d) * 65536 + e) * 65536 + f) * 65536 + g) * 65536 + h) ≡ group_bits (a ∷ b ∷ c ∷ d ∷ e ∷ f ∷ g ∷ h ∷ [])
bits-groups a b c d e f g h ha hb hc hd he hf hg hh =
    let same : ((((((a * 65536 + b) * 65536 + c) * 65536 + d) * 65536 + e) * 65536 + f) * 65536 + g) * 65536 + h ≡ joined_number 16 0 (a ∷ b ∷ c ∷ d ∷ e ∷ f ∷ g ∷ h ∷ []) = omega arith in
    ap (bits 128) same ∙ bits-parts 16 (a ∷ b ∷ c ∷ d ∷ e ∷ f ∷ g ∷ h ∷ []) (ha, (hb, (hc, (hd, (he, (hf, (hg, (hh, tt))))))))

pub groups_of-bits : (n : ℕ)
    → groups_of (bits 128 n) ≡ n / 2 ^ 112 % 65536 ∷ n / 2 ^ 96 % 65536 ∷ n / 2 ^ 80 % 65536 ∷ n / 2 ^ 64 % 65536 ∷ n / 2 ^ 48 % 65536 ∷ n / 2 ^ 32 % 65536 ∷ n / 2 ^ 16 % 65536 ∷ n % 65536 ∷ []
groups_of-bits n =
    parts_of-bits 16 7 n ∙ ap (λ t. n / 2 ^ 112 % 65536 ∷ t) (parts_of-bits 16 6 n ∙ ap (λ t. n / 2 ^ 96 % 65536 ∷ t) (parts_of-bits 16 5 n ∙ ap (λ t. n / 2 ^ 80 % 65536 ∷ t)
    (parts_of-bits 16 4 n ∙ ap (λ t. n / 2 ^ 64 % 65536 ∷ t) (parts_of-bits 16 3 n ∙ ap (λ t. n / 2 ^ 48 % 65536 ∷ t) (parts_of-bits 16 2 n ∙ ap (λ t. n / 2 ^ 32 % 65536 ∷ t)
    (parts_of-bits 16 1 n ∙ ap (λ t. n / 2 ^ 16 % 65536 ∷ t) (parts_of-bits 16 0 n ∙ ap₂ (λ x t. x ∷ t) (omega arith) (parts_of-none 16 _))))))))

-- the same by halves
pub bits-group_halves : (a b c d e f g h : ℕ) → a < 2 ^ 16 → b < 2 ^ 16 → c < 2 ^ 16 → d < 2 ^ 16 → e < 2 ^ 16 → f < 2 ^ 16 → g < 2 ^ 16
    → h < 2 ^ 16 → bits 128 (joined (((a * 65536 + b) * 65536 + c) * 65536 + d) (((e * 65536 + f) * 65536 + g) * 65536 + h)) ≡ group_bits (a ∷ b ∷ c ∷ d ∷ e ∷ f ∷ g ∷ h ∷ [])
bits-group_halves a b c d e f g h ha hb hc hd he hf hg hh = ap (bits 128) (omega arith) ∙ bits-groups a b c d e f g h ha hb hc hd he hf hg hh

pub groups_of-halves : (u l : ℕ) → l < 2 ^ 64
    → groups_of (bits 128 (joined u l)) ≡ u / 2 ^ 48 % 65536 ∷ u / 2 ^ 32 % 65536 ∷ u / 2 ^ 16 % 65536 ∷ u / 2 ^ 0 % 65536
    ∷ l / 2 ^ 48 % 65536 ∷ l / 2 ^ 32 % 65536 ∷ l / 2 ^ 16 % 65536 ∷ l / 2 ^ 0 % 65536 ∷ []
groups_of-halves u l low =
    let n = joined u l in
    let upper : n / 2 ^ 64 ≡ u = shr_high u 64 l low in
    let a : n / 2 ^ 112 % 65536 ≡ u / 2 ^ 48 % 65536 = ap (λ x. x % 65536) (sym (shr-shr n 64 48) ∙ ap (λ x. x / 2 ^ 48) upper) in
    let b : n / 2 ^ 96 % 65536 ≡ u / 2 ^ 32 % 65536 = ap (λ x. x % 65536) (sym (shr-shr n 64 32) ∙ ap (λ x. x / 2 ^ 32) upper) in
    let c : n / 2 ^ 80 % 65536 ≡ u / 2 ^ 16 % 65536 = ap (λ x. x % 65536) (sym (shr-shr n 64 16) ∙ ap (λ x. x / 2 ^ 16) upper) in
    let d : n / 2 ^ 64 % 65536 ≡ u / 2 ^ 0 % 65536 = omega arith in
    let e : n / 2 ^ 48 % 65536 ≡ l / 2 ^ 48 % 65536 = omega arith in
    let f : n / 2 ^ 32 % 65536 ≡ l / 2 ^ 32 % 65536 = omega arith in
    let g : n / 2 ^ 16 % 65536 ≡ l / 2 ^ 16 % 65536 = omega arith in
    let h : n % 65536 ≡ l / 2 ^ 0 % 65536 = omega arith in
    rw (a, b, c, d, e, f, g, h) at (groups_of-bits n)

pub group_mask : (n : ℕ) → bit_and n 65535 ≡ n % 65536
group_mask n = and_mask n 16

pub ruleset group_laws = (bits-group_halves, groups_of-halves, length-bits)
