use Rattle.std.proofs.Common.{inl}
use Rattle.cidr_lists.proofs.FirstWords.{says_by}
use Rattle.cidr_lists.proofs.words.address_said.Goals as goal

pub returns-in-Some : goal.returns-in-Some
returns-in-Some c = inl c.in-Some.ensures

pub returns : goal.returns
returns c = says_by c.args.word.now c.first_ipv4.result c.in_default.ensures c.first_ipv4.ensures
