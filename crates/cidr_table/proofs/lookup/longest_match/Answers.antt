use Rattle.std.proofs.Common.{refl, sym, ◌∙◌, ◌≡◌, ◌+◌, ◌≤◌, arith, ◌-◌, ◌*◌, ap, length, true}
use Rattle.std.proofs.Math.Nat.{mul-le-mul_right}
use Rattle.std.proofs.lemmas.Bool.{true≢false, false≢true}
use Rattle.std.specs.Ordering.{is_eq}
use Rattle.std.specs.declared.cmp.Ordering.{Ordering}
use Rattle.std.specs.declared.cmp.Ordering.TheVariants.{Less, Equal, Greater}
use Rattle.cidr_table.proofs.Narrowing.{narrowed_none, found, not_found, begins_itself, shared_only, none_left, no_rows_left, more_digits, one_search}
use Rattle.cidr_table.proofs.lookup.longest_match.Goals as goal
use Rattle.cidr_table.proofs.lookup.longest_match.Goals.{then-loop-end-test+else-len-gt0, else-loop-end-test, else-end-gt0-2-via-then-end-gt0-2+else-is_eq, else-end-gt0-2-via-else-end-gt0-2}

pub returns-in-Ok-clause-index : goal.returns-in-Ok-clause-index
returns-in-Ok-clause-index g c =
    let t = c.loop-end.invariant in
    found g.C.Ord.cmp g.met.C.Ord.total g.C.BitString.bits g.met.C.NetworkBits.ordered
    (g.P.Probe.keys c.args.rows.now) c.requires c.args.asked.now (g.P.Probe.count c.args.rows.now)
    (g.P.Probe.count c.loop-end.rows) c.loop-end.end c.loop-end.len c.loop-end.spare c.binary_digits-digits.result
    c.in-Ok.index c.clipped.result (rw t.same at t) c.clipped.ensures (rw t.same at c.in-Ok.ensures.index)

-- what a search that found nothing leaves
pub loop-end-preserved : goal.loop-end-preserved
loop-end-preserved g c =
    let t = c.loop-end.invariant in
    rw (c.in-Err.ensures.keys, t.same) (not_found g.C.Ord.cmp g.met.C.Ord.total g.C.BitString.bits g.met.C.NetworkBits.ordered
    (g.P.Probe.keys c.args.rows.now) c.requires c.args.asked.now (g.P.Probe.count c.args.rows.now)
    (g.P.Probe.count c.loop-end.rows) (g.P.Probe.count c.search_back.new.rows) c.loop-end.end c.loop-end.len
    c.loop-end.spare c.binary_digits-digits.result c.min-tries.result c.in-Err.index c.clipped.result (omega arith)
    (rw t.same at t) c.clipped.ensures (rw t.same at c.in-Err.ensures.index)
    (omega (arith, t.some, c.min-tries.ensures, c.saturating_sub.ensures))
    (c.in-Err.ensures.cost c.binary_digits-digits.result (omega (arith, t.within))))

pub loop-end-preserved-then-cost-spare : goal.loop-end-preserved-then-cost-spare
loop-end-preserved-then-cost-spare g c =
    let t = c.loop-end.invariant in
    let next = not_found g.C.Ord.cmp g.met.C.Ord.total g.C.BitString.bits g.met.C.NetworkBits.ordered
    (g.P.Probe.keys c.args.rows.now) c.requires c.args.asked.now (g.P.Probe.count c.args.rows.now)
    (g.P.Probe.count c.loop-end.rows) (g.P.Probe.count c.search_back.new.rows) c.loop-end.end c.loop-end.len
    c.loop-end.spare c.binary_digits-digits.result c.min-tries.result c.in-Err.index c.clipped.result (omega arith)
    (rw t.same at t) c.clipped.ensures (rw t.same at c.in-Err.ensures.index)
    (omega (arith, t.some, c.min-tries.ensures, c.saturating_sub.ensures))
    (c.in-Err.ensures.cost c.binary_digits-digits.result (omega (arith, t.within))) in
    rw (c.in-Err-shared_len.ensures.keys, c.in-Err.ensures.keys, t.same) (shared_only g.C.Ord.cmp g.met.C.Ord.total g.C.BitString.bits g.met.C.NetworkBits.ordered
    (g.P.Probe.keys c.args.rows.now) c.requires c.args.asked.now (g.P.Probe.count c.args.rows.now)
    (g.P.Probe.count c.search_back.new.rows) (g.P.Probe.count c.shared_len.new.rows) c.in-Err.index (c.loop-end.len - 1)
    (c.loop-end.spare - c.min-tries.result) c.binary_digits-digits.result next (omega arith)
    c.binary_digits-cost.result c.in-Err-shared_len.shared
    (rw (c.in-Err.ensures.keys, t.same) at c.in-Err-shared_len.ensures.shared) (omega arith)
    (c.in-Err-shared_len.ensures.cost c.binary_digits-cost.result c.binary_digits-cost.ensures.fits))

pub returns-in-Ok-shared_len-clause-index : goal.returns-in-Ok-shared_len-clause-index
returns-in-Ok-shared_len-clause-index g c =
    let t = c.loop-end.invariant in
    let next = not_found g.C.Ord.cmp g.met.C.Ord.total g.C.BitString.bits g.met.C.NetworkBits.ordered
    (g.P.Probe.keys c.args.rows.now) c.requires c.args.asked.now (g.P.Probe.count c.args.rows.now)
    (g.P.Probe.count c.loop-end.rows) (g.P.Probe.count c.search_back.new.rows) c.loop-end.end c.loop-end.len
    c.loop-end.spare c.binary_digits-digits.result c.min-tries.result c.in-Err.index c.clipped.result (omega arith)
    (rw t.same at t) c.clipped.ensures (rw t.same at c.in-Err.ensures.index)
    (omega (arith, t.some, c.min-tries.ensures, c.saturating_sub.ensures))
    (c.in-Err.ensures.cost c.binary_digits-digits.result (omega (arith, t.within))) in
    begins_itself g.C.Ord.cmp g.met.C.Ord.total g.C.BitString.bits g.met.C.NetworkBits.ordered
    (g.P.Probe.keys c.args.rows.now) c.requires c.args.asked.now (g.P.Probe.count c.args.rows.now)
    (g.P.Probe.count c.search_back.new.rows) 0 c.in-Err.index (c.loop-end.len - 1)
    (c.loop-end.spare - c.min-tries.result) c.binary_digits-digits.result next (omega arith)
    c.in-Ok-shared_len.field-0 (rw (c.in-Err.ensures.keys, t.same) at c.in-Ok-shared_len.ensures.shared)

is_equal : (r : Ordering) → is_eq r ≡ true → r ≡ Equal
is_equal Less e = absurd (false≢true e)
is_equal Equal e = refl
is_equal Greater e = absurd (false≢true e)

pub returns-then-is_eq-clause-index : goal.returns-then-is_eq-clause-index
returns-then-is_eq-clause-index g c =
    let t = c.loop-end.invariant in
    let last : c.loop-end.len ≡ 0 = elim c.loop-end-test.branch [
      | then-loop-end-test+else-len-gt0 w ↦ omega arith
      | else-loop-end-test w ↦ omega arith
    ] in
    let equal = sym c.compare.ensures.answer ∙ is_equal c.compare.result (sym c.is_eq.ensures ∙ c.if-is_eq.true) in
    found g.C.Ord.cmp g.met.C.Ord.total g.C.BitString.bits g.met.C.NetworkBits.ordered
    (g.P.Probe.keys c.args.rows.now) c.requires c.args.asked.now (g.P.Probe.count c.args.rows.now)
    (g.P.Probe.count c.loop-end.rows) c.loop-end.end 0 c.loop-end.spare c.binary_digits-digits.result 0
    c.clipped-then-end-gt0-2.result (rw (t.same, last) at t) c.clipped-then-end-gt0-2.ensures
    (record { within = omega arith; equal = rw t.same at equal })

pub returns-else-end-gt0-2-clause-index : goal.returns-else-end-gt0-2-clause-index
returns-else-end-gt0-2-clause-index g c =
    let t = c.loop-end.invariant in
    elim c.else-end-gt0-2.branch [
      | else-end-gt0-2-via-then-end-gt0-2+else-is_eq w ↦
          let last : c.loop-end.len ≡ 0 = elim c.loop-end-test.branch [
            | then-loop-end-test+else-len-gt0 v ↦ omega arith
            | else-loop-end-test v ↦ omega arith
          ] in
          none_left g.C.Ord.cmp g.met.C.Ord.total g.C.BitString.bits g.met.C.NetworkBits.ordered
          (g.P.Probe.keys c.args.rows.now) c.requires c.args.asked.now (g.P.Probe.count c.args.rows.now)
          (g.P.Probe.count c.loop-end.rows) c.loop-end.end c.loop-end.spare c.binary_digits-digits.result
          w.clipped-then-end-gt0-2.result (rw (t.same, last) at t) w.clipped-then-end-gt0-2.ensures
          (λ e. true≢false (sym (ap is_eq ((rw t.same at w.compare.ensures.answer) ∙ e))
          ∙ (sym w.is_eq.ensures ∙ w.if-is_eq.false)))
      | else-end-gt0-2-via-else-end-gt0-2 w ↦
          let last : c.loop-end.end ≡ 0 = omega arith in
          no_rows_left g.C.Ord.cmp g.met.C.Ord.total g.C.BitString.bits g.met.C.NetworkBits.ordered
          (g.P.Probe.keys c.args.rows.now) c.requires c.args.asked.now (g.P.Probe.count c.args.rows.now)
          (g.P.Probe.count c.loop-end.rows) c.loop-end.len c.loop-end.spare c.binary_digits-digits.result (rw (t.same, last) at t)
    ]

pub overflow_sub-spare : goal.overflow_sub-spare
overflow_sub-spare g c = omega arith

pub overflow_sub-len : goal.overflow_sub-len
overflow_sub-len g c = omega arith

pub overflow_sub-end : goal.overflow_sub-end
overflow_sub-end g c = omega arith

pub overflow_sub-result : goal.overflow_sub-result
overflow_sub-result g c = omega arith

pub shared_len-requires-clause-most : goal.shared_len-requires-clause-most
shared_len-requires-clause-most g c = omega arith

pub overflow_sub-spare-in-Err-shared_len : goal.overflow_sub-spare-in-Err-shared_len
overflow_sub-spare-in-Err-shared_len g c = omega arith

pub loop-end-smaller : goal.loop-end-smaller
loop-end-smaller g c = omega arith

pub returns-in-Ok-clause-keys : goal.returns-in-Ok-clause-keys
returns-in-Ok-clause-keys g c = c.in-Ok.ensures.keys ∙ c.loop-end.invariant.same

pub returns-in-Ok-shared_len-clause-keys : goal.returns-in-Ok-shared_len-clause-keys
returns-in-Ok-shared_len-clause-keys g c = c.in-Ok-shared_len.ensures.keys ∙ (c.in-Err.ensures.keys ∙ c.loop-end.invariant.same)

pub returns-then-is_eq-clause-keys : goal.returns-then-is_eq-clause-keys
returns-then-is_eq-clause-keys g c = c.compare.ensures.keys ∙ c.loop-end.invariant.same

pub search_back-requires-clause-sorted : goal.search_back-requires-clause-sorted
search_back-requires-clause-sorted g c = rw c.loop-end.invariant.same c.requires

-- the comparisons
pub returns-in-Ok-clause-cost : goal.returns-in-Ok-clause-cost
returns-in-Ok-clause-cost g c = λ d small.
    let t = c.loop-end.invariant in
    let all = length (g.C.BitString.bits c.args.asked.now) + 1 in
    let digits = c.binary_digits-digits.result in
    let before = g.P.Probe.count c.args.rows.now in
    let cost = c.in-Ok.ensures.cost digits (omega (arith, t.within)) in
    more_digits all digits d before (g.P.Probe.count c.search_back.new.rows)
    (one_search all c.loop-end.len digits before (g.P.Probe.count c.loop-end.rows) (g.P.Probe.count c.search_back.new.rows)
    c.loop-end.spare c.min-tries.result (omega arith) (omega arith) cost t.cost)
    (c.binary_digits-digits.ensures.least d (rw c.len.ensures small))

pub returns-in-Ok-shared_len-clause-cost : goal.returns-in-Ok-shared_len-clause-cost
returns-in-Ok-shared_len-clause-cost g c = λ d small.
    let t = c.loop-end.invariant in
    let all = length (g.C.BitString.bits c.args.asked.now) + 1 in
    let digits = c.binary_digits-digits.result in
    let before = g.P.Probe.count c.args.rows.now in
    let cost = c.in-Err.ensures.cost digits (omega (arith, t.within)) in
    let shared = c.in-Ok-shared_len.ensures.cost c.binary_digits-cost.result c.binary_digits-cost.ensures.fits in
    more_digits all digits d before (g.P.Probe.count c.shared_len.new.rows)
    (one_search all c.loop-end.len digits before (g.P.Probe.count c.loop-end.rows) (g.P.Probe.count c.shared_len.new.rows)
    c.loop-end.spare (c.min-tries.result + c.binary_digits-cost.result) (omega arith) (omega arith) (omega (arith, cost, shared)) t.cost)
    (c.binary_digits-digits.ensures.least d (rw c.len.ensures small))

pub returns-then-is_eq-clause-cost : goal.returns-then-is_eq-clause-cost
returns-then-is_eq-clause-cost g c = λ d small.
    let t = c.loop-end.invariant in
    let all = length (g.C.BitString.bits c.args.asked.now) + 1 in
    let digits = c.binary_digits-digits.result in
    let before = g.P.Probe.count c.args.rows.now in
    more_digits all digits d before (g.P.Probe.count c.compare.new.self) (omega (arith, t.cost, t.some, c.compare.ensures.count))
    (c.binary_digits-digits.ensures.least d (rw c.len.ensures small))

pub loop-end-init : goal.loop-end-init
loop-end-init g c =
    rw (c.len-end.ensures, c.len-len.ensures.value) (narrowed_none g.C.Ord.cmp g.met.C.Ord.total g.C.BitString.bits g.met.C.NetworkBits.ordered
    (g.P.Probe.keys c.args.rows.now) c.requires c.args.asked.now (g.P.Probe.count c.args.rows.now) c.binary_digits-digits.result
    (rw c.len.ensures at c.binary_digits-digits.ensures.fits))

pub overflow_mul-spare : goal.overflow_mul-spare
overflow_mul-spare g c =
    let digits = c.binary_digits-digits.result in
    let left = c.loop-end.len - 1 - c.in-Err-shared_len.shared in
    let most : left * digits ≤ 255 * digits = mul-le-mul_right digits (omega (arith, c.loop-end.invariant.shorter, c.len-len.ensures.value, c.len-len.ensures.fits)) in
    omega (arith, most, c.binary_digits-digits.ensures.bound)

pub overflow_add-spare : goal.overflow_add-spare
overflow_add-spare g c =
    let digits = c.binary_digits-digits.result in
    let left = c.loop-end.len - 1 - c.in-Err-shared_len.shared in
    let most : left * digits ≤ 255 * digits = mul-le-mul_right digits (omega (arith, c.loop-end.invariant.shorter, c.len-len.ensures.value, c.len-len.ensures.fits)) in
    let all : (length (g.C.BitString.bits c.args.asked.now) + 1) * digits ≤ 256 * digits = mul-le-mul_right digits (omega (arith, c.len-len.ensures.value, c.len-len.ensures.fits)) in
    omega (arith, most, all, c.loop-end.invariant.room, c.binary_digits-digits.ensures.bound)
