-- One to four numbers, by where they end.
use Rattle.std.proofs.Common.{arith, rules}
use Rattle.cidr.proofs.JoinedReading.{no_octets, octets_fit, octet_taken, octets_end, octets_stuck, large_part, octet_missing, five_parts}
use Rattle.cidr.proofs.parsers.parts.read_parts.Goals as goal

pub loop-count-init : goal.loop-count-init
loop-count-init g c = no_octets _ _

pub returns-in_err-number : goal.returns-in_err-number
returns-in_err-number g c = rw c.from_residual.ensures (octet_missing _ _ _ _ _ c.loop-count.invariant c.in_err-number.ensures)

pub returns-then-is_empty : goal.returns-then-is_empty
returns-then-is_empty g c = octets_end _ _ _ _ _ _ _ c.loop-count.invariant c.in_ok-number.ensures (search rules) (omega arith)

pub returns-in_err-rest : goal.returns-in_err-rest
returns-in_err-rest g c =
    rw c.from_residual-in_err-rest.ensures (octets_stuck _ _ _ _ _ _ _ c.loop-count.invariant c.in_ok-number.ensures (search rules) c.in_err-rest.ensures)

pub returns-then-number-gt255 : goal.returns-then-number-gt255
returns-then-number-gt255 g c = large_part _ _ _ _ _ _ _ c.loop-count.invariant c.in_ok-number.ensures _ c.in_ok-rest.ensures (omega arith)

pub overflow_mul-front : goal.overflow_mul-front
overflow_mul-front g c = let room = octets_fit _ _ _ _ _ c.loop-count.invariant (omega arith) in omega arith

pub overflow_add-front : goal.overflow_add-front
overflow_add-front g c = let room = octets_fit _ _ _ _ _ c.loop-count.invariant (omega arith) in omega arith

pub loop-count-preserved : goal.loop-count-preserved
loop-count-preserved g c = octet_taken _ _ _ _ _ _ _ c.loop-count.invariant c.in_ok-number.ensures _ c.in_ok-rest.ensures (omega arith)

pub returns : goal.returns
returns g c = five_parts _ _ _ _ _ c.loop-count.invariant (omega arith)
