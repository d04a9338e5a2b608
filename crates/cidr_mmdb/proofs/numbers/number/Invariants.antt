use Rattle.std.proofs.Common.{◌≡◌, ◌+◌, ◌*◌, ◌^◌, ◌≤◌}
use Rattle.cidr_mmdb.specs.Numbers.{number_at}
use Rattle.cidr_mmdb.proofs.numbers.number.Given as goal

-- the number so far, and the bytes that are left, are the number
abbrev pub invariant-loop-left : goal.invariant-loop-left
invariant-loop-left l = record {
  place : l.place + l.left ≡ l.at + l.count;
  few : l.left ≤ l.count;
  below : (l.value + 1) * 256 ^ l.left ≤ 256 ^ l.count;
  same : l.value * 256 ^ l.left + number_at l.bytes l.place l.left ≡ number_at l.bytes l.at l.count;
}

abbrev pub decreases-loop-left : goal.decreases-loop-left
decreases-loop-left l = l.left
