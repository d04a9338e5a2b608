-- The string is one, two or three digits.
use Rattle.std.proofs.Common.{ℕ, MatchOption, arith, subst}
use Rattle.cidr.specs.texts.Ipv4Text.{IsOctetText}
use Rattle.cidr.proofs.OctetReading.{octet_length, no_digit_at, whole_digits}
use Rattle.cidr.proofs.addr.read_v4.read_octet.Goals as goal
use Rattle.cidr.proofs.addr.read_v4.read_octet.Goals.{then-count-eq0-via-then-count-eq0, then-count-eq0-via-else-count-eq0+then-count-gt3}
use Rattle.cidr.proofs.addr.read_v4.read_octet.Goals.{then-first-gt9-via-then-first-gt9, then-first-gt9-via-else-first-gt9+then-second-gt9, then-first-gt9-via-else-first-gt9+else-second-gt9+then-third-gt9}

pub returns-then-count-eq0 : goal.returns-then-count-eq0
returns-then-count-eq0 c n h =
    let (some, few) = octet_length _ n h in
    elim c.then-count-eq0.branch [
      | then-count-eq0-via-then-count-eq0 w ↦ omega (arith, some, w.if-count-eq0.true)
      | then-count-eq0-via-else-count-eq0+then-count-gt3 w ↦ omega (arith, few, w.if-count-gt3.true)
    ]

pub returns-then-first-gt9 : goal.returns-then-first-gt9
returns-then-first-gt9 c n h = elim c.then-first-gt9.branch [
  | then-first-gt9-via-then-first-gt9 w ↦ no_digit_at _ n _ (omega arith) (c.decimal_value-first.ensures.other (omega (arith, w.if-first-gt9.true))) h
  | then-first-gt9-via-else-first-gt9+then-second-gt9 w ↦ no_digit_at _ n _ (omega arith) (c.decimal_value-second.ensures.other (omega (arith, w.if-second-gt9.true))) h
  | then-first-gt9-via-else-first-gt9+else-second-gt9+then-third-gt9 w ↦ no_digit_at _ n _ (omega arith) (c.decimal_value-third.ensures.other (omega (arith, w.if-third-gt9.true))) h
]

pub returns : goal.returns
returns c =
    let first = c.decimal_value-first.ensures.digit (omega arith) in
    let second = c.decimal_value-second.ensures.digit (omega arith) in
    let third = c.decimal_value-third.ensures.digit (omega arith) in
    subst (λ t. MatchOption c.octet_of.result ((n : ℕ) → ¬ (IsOctetText t n)) (IsOctetText t))
    (whole_digits _ _ _ _ (omega arith) (omega arith) first second third)
    c.octet_of.ensures
