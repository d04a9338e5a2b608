use Rattle.std.proofs.Common.{◌≡◌, ◌++◌, take}
use Rattle.cidr_files.specs.Contents.{key_addresses}
use Rattle.cidr_files.specs.Written.{spelled}
use Rattle.cidr_files.proofs.writing.put_keys.Given as goal

abbrev pub invariant-loop-i : goal.invariant-loop-i
invariant-loop-i g l = l.out.items ≡ l.fn.out.items ++ spelled g.W.FileAddress.bytes_of (key_addresses g.W.Address.value (take l.i l.keys))
