-- How large the fields of each type may be.
use Rattle.std.proofs.Common.{◌≡◌, ◌≢◌, refl, arith, ℕ, ◌<◌, ◌≤◌, ◌^◌, true, lit≤}
use Rattle.std.proofs.lemmas.Bool.Decides.{nat_tests}
use Rattle.std.proofs.Math.Nat.{pow-le-pow_right}
use Rattle.cidr_mmdb.specs.Fields.{bytes_of, is_sized}
use Rattle.cidr_mmdb.specs.declared.kinds.Kind.{Kind}
use Rattle.cidr_mmdb.specs.declared.kinds.Kind.TheVariants.{Pointer, Utf8String, Double, Bytes, Uint16, Uint32, Map, Int32, Uint64, Uint128, Array, Boolean, Float}

-- all but a boolean have as many bytes as their size says
pub bytes_unless : (kind : Kind) (size : ℕ) → kind ≢ Boolean → bytes_of kind size ≡ size
bytes_unless Boolean size other = absurd (other refl)
bytes_unless kind size other = refl

-- a number has at most 16
pub few_bytes : (kind : Kind) (size : ℕ) → is_sized kind size ≡ true → kind ≢ Utf8String → kind ≢ Bytes → size ≤ 16
few_bytes Pointer size e n m = cc
few_bytes Map size e n m = cc
few_bytes Array size e n m = cc
few_bytes Utf8String size e n m = absurd (n refl)
few_bytes Bytes size e n m = absurd (m refl)
few_bytes Double size e n m = grind (arith, nat_tests)
few_bytes Float size e n m = grind (arith, nat_tests)
few_bytes Boolean size e n m = grind (arith, nat_tests)
few_bytes Uint16 size e n m = grind (arith, nat_tests)
few_bytes Uint32 size e n m = grind (arith, nat_tests)
few_bytes Int32 size e n m = grind (arith, nat_tests)
few_bytes Uint64 size e n m = grind (arith, nat_tests)
few_bytes Uint128 size e n m = grind (arith, nat_tests)

below : (n size most : ℕ) → size ≤ most → n < 256 ^ size → n < 256 ^ most
below n size most few fits =
    let power : 256 ^ size ≤ 256 ^ most = pow-le-pow_right (lit≤ tt) few in
    omega arith

pub double_fits : (n size : ℕ) → is_sized Double size ≡ true → n < 256 ^ size → n < 2 ^ 64
double_fits n size e fits =
    let few : size ≤ 8 = grind (arith, nat_tests) in
    below n size 8 few fits

pub float_fits : (n size : ℕ) → is_sized Float size ≡ true → n < 256 ^ size → n < 2 ^ 32
float_fits n size e fits =
    let few : size ≤ 4 = grind (arith, nat_tests) in
    below n size 4 few fits

pub signed_fits : (n size : ℕ) → is_sized Int32 size ≡ true → n < 256 ^ size → n < 2 ^ 32
signed_fits n size e fits =
    let few : size ≤ 4 = grind (arith, nat_tests) in
    below n size 4 few fits
