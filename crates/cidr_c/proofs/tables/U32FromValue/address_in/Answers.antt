use Rattle.std.proofs.Common.{rules, ◌≡◌, arith, ℕ, ◌/◌, ◌^◌, ◌<◌, bit_or}
use Rattle.std.proofs.lemmas.Nat.{le_or_l, le_or_r}
use Rattle.cidr_c.specs.declared.values.CValue.{CValue}
use Rattle.cidr_c.specs.model.Tables.{ipv4_pair}
use Rattle.cidr_c.proofs.tables.U32FromValue.address_in.Goals as goal

-- numbers that make zero together are zero
zeros : (a b d : ℕ) → bit_or (bit_or a b) d ≡ 0 → (a ≡ 0) × (b ≡ 0) × (d ≡ 0)
zeros a b d e = (
  omega (arith, e, le_or_l (bit_or a b) d, le_or_l a b),
  omega (arith, e, le_or_l (bit_or a b) d, le_or_r a b),
  omega (arith, e, le_or_r (bit_or a b) d),
)

low : (a n d : ℕ) → bit_or (bit_or a (n / 2 ^ 32)) d ≡ 0 → n < 2 ^ 32
low a n d e = omega (arith, (zeros a (n / 2 ^ 32) d e).1)

-- a value with these fields is an address
pair : (v : CValue) → v.high ≡ 0 → v.low < 2 ^ 32 → v.tag ≡ 32 → ((ipv4_pair v).1 ≡ 32) × (v.low ≡ (ipv4_pair v).0)
pair v h l t = search rules

pub overflow_cast-result : goal.overflow_cast-result
overflow_cast-result c = omega (arith, low c.args.value.now.high c.args.value.now.low _ c.if-others-ne0.false)

pub returns : goal.returns
returns c =
    let v = c.args.value.now in
    let all = zeros v.high (v.low / 2 ^ 32) _ c.if-others-ne0.false in
    pair v all.0 (low v.high v.low _ c.if-others-ne0.false) (omega (arith, all.2, c.from.ensures))
