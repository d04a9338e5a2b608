use Rattle.std.proofs.Common.{◌≡◌, drop, length}
use Rattle.cidr_c.specs.model.Files.{IsFoundInFile}
use Rattle.cidr_c.proofs.Answering.{AreFirstAnswered}
use Rattle.cidr_c.proofs.files.pcidr_file_lookup_each.Given as goal

abbrev pub invariant-loop-i : goal.invariant-loop-i
invariant-loop-i l = record {
  fits : length l.out ≡ length l.fn.out;
  first : AreFirstAnswered (IsFoundInFile l.bytes l.file) l.i l.asked l.out;
  behind : drop (length l.asked) l.out ≡ drop (length l.asked) l.fn.out;
}
