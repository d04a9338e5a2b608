use Rattle.cidr_lists.specs.Json.{spelling}
use Rattle.cidr_lists.proofs.PrintedTexts.{AreAppended}
use Rattle.cidr_lists.proofs.json.push_string.Given as goal

abbrev pub invariant-loop-byte : goal.invariant-loop-byte
invariant-loop-byte l = AreAppended spelling l.fn.text.items l.value l.byte-index l.text.items
