use Rattle.std.proofs.Common.{◌≡◌, ◌++◌, take}
use Rattle.cidr_files.specs.Spelling.{word_bytes}
use Rattle.cidr_files.specs.Written.{spelled}
use Rattle.cidr_files.proofs.writing.put_words.Given as goal

abbrev pub invariant-loop-i : goal.invariant-loop-i
invariant-loop-i l = l.out.items ≡ l.fn.out.items ++ spelled word_bytes (take l.i l.words)
