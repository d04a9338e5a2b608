-- One bit is set by `|` and cleared by `&`, of 32.
use Rattle.std.proofs.Common.{cond, sym, ap, ◌∙◌, arith, ◌-◌}
use Rattle.std.specs.Int.{w32}
use Rattle.std.proofs.lemmas.Nat.Bits.{bit_at_set_same, bit_at_set_other, bit_at_clear_same, bit_at_clear_other}
use Rattle.cidr.proofs.arithmetic.with_bit.Goals as goal

pub returns-then-b-clause-set : goal.returns-then-b-clause-set
returns-then-b-clause-set c =
    rw c.from.ensures (bit_at_set_same w32 c.args.value (31 - c.args.i) (omega arith) ∙ sym (ap (λ b. cond b 1 0) c.if-b.true))

pub returns-then-b-clause-kept : goal.returns-then-b-clause-kept
returns-then-b-clause-kept c k l other = rw c.from.ensures (bit_at_set_other w32 c.args.value (31 - c.args.i) (omega arith) k other)

pub returns-else-b-clause-set : goal.returns-else-b-clause-set
returns-else-b-clause-set c =
    rw c.from.ensures (bit_at_clear_same w32 c.args.value (31 - c.args.i) (omega arith) ∙ sym (ap (λ b. cond b 1 0) c.if-b.false))

pub returns-else-b-clause-kept : goal.returns-else-b-clause-kept
returns-else-b-clause-kept c k l other = rw c.from.ensures (bit_at_clear_other w32 c.args.value (31 - c.args.i) (omega arith) k l other)
