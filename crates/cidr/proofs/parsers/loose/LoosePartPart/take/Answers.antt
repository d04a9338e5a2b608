-- A loose part, by its first bytes.
use Rattle.std.proofs.Common.{◌≡◌, arith, inl, inr}
use Rattle.cidr.proofs.LooseReading.{takes_loose}
use Rattle.cidr.proofs.parsers.loose.LoosePartPart.take.Goals as goal

pub returns-in-16 : goal.returns-in-16
returns-in-16 c = takes_loose _ 16 _ _ (rw c.in-16.is at c.radix_and_digits-radix.ensures) c.take_number.ensures

pub returns-in-10 : goal.returns-in-10
returns-in-10 c = takes_loose _ 10 _ _ (rw c.in-10.is at c.radix_and_digits-radix.ensures) c.take_number-in-10.ensures

pub returns-in_default : goal.returns-in_default
returns-in_default c =
    let leads = c.radix_and_digits-radix.ensures in
    let octal : c.radix_and_digits-radix.result.0 ≡ 8 = elim leads [
      | inl hex ↦ absurd (omega (arith, hex.0))
      | inr other ↦ elim other [ inl digits ↦ digits.0 | inr decimal ↦ absurd (omega (arith, decimal.0)) ]
    ] in
    takes_loose _ 8 _ _ (rw octal at leads) c.take_number-in_default.ensures
