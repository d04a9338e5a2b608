-- What is cut behind what is shown so far is what is cut of the string.
use Rattle.std.proofs.Common.{◌≡◌, ◌≤◌, length}
use Rattle.std.specs.Str.{chars}
use Rattle.cidr_io.specs.Shown.{excerpt, shown_char}
use Rattle.cidr_io.proofs.Cutting.{cut_behind}
use Rattle.cidr_io.proofs.shown.cut_text.Given as goal

abbrev pub invariant-loop-c : goal.invariant-loop-c
invariant-loop-c l = record {
  within : length l.short.bytes ≤ 40;
  cut : cut_behind shown_char l.short.bytes (length l.yielded) (chars l.text) ≡ excerpt l.text;
}
