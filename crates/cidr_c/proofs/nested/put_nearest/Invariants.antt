use Rattle.std.proofs.Common.{◌≡◌, ℕ, ◌<◌, List, drop, length, slice_get, Some}
use Rattle.cidr.specs.declared.cidr.any.AnyIpCidr.{AnyIpCidr}
use Rattle.cidr_c.specs.Nested.{AreRowsOfList}
use Rattle.cidr_c.specs.calls.Ordering.{IsNearestIndex}
use Rattle.cidr_c.proofs.nested.put_nearest.Given as goal

-- the first rows have theirs
abbrev pub invariant-loop-inner : goal.invariant-loop-inner
invariant-loop-inner l = record {
  size : length l.out ≡ length l.fn.out;
  put : (networks : List AnyIpCidr) → AreRowsOfList networks l.rows → (k : ℕ) (row : AnyIpCidr × ℕ) → k < l.inner → slice_get l.rows k ≡ Some row
      → (answer : ℕ) × (slice_get l.out row.1 ≡ Some answer) × IsNearestIndex networks row.0 answer;
  behind : (many : ℕ) → ((row : AnyIpCidr × ℕ) (k : ℕ) → slice_get l.rows k ≡ Some row → row.1 < many) → drop many l.out ≡ drop many l.fn.out;
}
