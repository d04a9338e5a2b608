-- What is cut behind what is shown so far is what is cut of the bytes.
use Rattle.std.proofs.Common.{◌≡◌, ◌≤◌, length}
use Rattle.cidr_io.specs.Shown.{byte_excerpt, shown_byte}
use Rattle.cidr_io.proofs.Cutting.{cut_behind}
use Rattle.cidr_io.proofs.shown.cut_bytes.Given as goal

abbrev pub invariant-loop-byte : goal.invariant-loop-byte
invariant-loop-byte l = record {
  within : length l.short.bytes ≤ 40;
  cut : cut_behind shown_byte l.short.bytes l.byte-index l.bytes ≡ byte_excerpt l.bytes;
}
