-- The host mask of IPv4, by the mask.
use Rattle.std.proofs.Common.{◌≡◌, ℕ, ◌-◌, ◌≤◌, Bool, true, false, List, ◌++◌, length, sym, ap, ◌∙◌, arith, length-append}
use Rattle.std.proofs.lemmas.List.{length-replicate}
use Rattle.std.proofs.lemmas.Nat.{pow_pos}
use Rattle.cidr.specs.laws.BitLaws.{bits-number}
use Rattle.cidr.specs.model.Bits.{bits, number}
use Rattle.cidr.specs.model.Network.{ones, zeros}
use Rattle.cidr_ext.proofs.Masks.{length-host_mask, number-host_mask, number-mask}

pub host_mask_by_mask : (n : ℕ) (m a : List Bool) (value : ℕ) → m ≡ ones n ++ zeros (32 - n) → length m ≡ 32 → value ≡ number m
    → a ≡ bits 32 (4294967295 - value) → a ≡ zeros n ++ ones (32 - n)
host_mask_by_mask n m a value is width from made =
    let size : length (ones n ++ zeros (32 - n)) ≡ 32 = sym (ap length is) ∙ width in
    let within : n ≤ 32 =
    omega (arith, size, length-append (ones n) (zeros (32 - n)), length-replicate n true, length-replicate (32 - n) false) in
    let masked : value ≡ number (ones n ++ zeros (32 - n)) = from ∙ ap number is in
    let rest : 4294967295 - value ≡ number (zeros n ++ ones (32 - n)) =
    omega (arith, masked, number-mask 32 n within, number-host_mask 32 n within, pow_pos (32 - n)) in
    made ∙ ap (bits 32) rest ∙ ap (λ w. bits w (number (zeros n ++ ones (32 - n)))) (sym (length-host_mask 32 n within))
    ∙ bits-number (zeros n ++ ones (32 - n))
