use Rattle.std.proofs.Common.{◌≡◌, ◌++◌, take}
use Rattle.cidr_files.specs.Contents.{lengths_of}
use Rattle.cidr_files.proofs.writing.put_lengths.Given as goal

abbrev pub invariant-loop-i : goal.invariant-loop-i
invariant-loop-i g l = l.out.items ≡ l.fn.out.items ++ lengths_of (take l.i l.keys)
