use Rattle.std.proofs.Common.{Some, None}
use Rattle.cidr_lists.proofs.SetSteps.{plain_free}
use Rattle.cidr_lists.proofs.sets.Sets.first_free.Goals as goal

pub returns-in-Some : goal.returns-in-Some
returns-in-Some c = plain_free 32 c.args.self.now.v4 c.args.len (Some c.in-Some.network) (rw c.from.ensures at c.in-Some.ensures.first)

pub returns-in-Some-first_free : goal.returns-in-Some-first_free
returns-in-Some-first_free c = (
  plain_free 32 c.args.self.now.v4 c.args.len None (rw c.from.ensures at c.in_default.ensures.first),
  plain_free 128 c.args.self.now.v6 c.args.len (Some c.in-Some-first_free.network) (rw c.from-2.ensures at c.in-Some-first_free.ensures.first),
)

pub returns-in-None : goal.returns-in-None
returns-in-None c = (
  plain_free 32 c.args.self.now.v4 c.args.len None (rw c.from.ensures at c.in_default.ensures.first),
  plain_free 128 c.args.self.now.v6 c.args.len None (rw c.from-2.ensures at c.in-None.ensures.first),
)
