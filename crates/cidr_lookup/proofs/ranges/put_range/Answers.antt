use Rattle.std.proofs.Common.{arith, map}
use Rattle.cidr_lookup.proofs.Written.{one_more, same_start}
use Rattle.cidr_lookup.proofs.ranges.put_range.Goals as goal

pub returns-then-end-start-clause-ranges : goal.returns-then-end-start-clause-ranges
returns-then-end-start-clause-ranges g c = λ networks good edge so_far le range.
    same_start g.A.Address.width networks (map g.A.Address.value c.args.starts.now) c.args.answers.now c.args.count c.args.start c.args.end (omega arith) so_far

pub returns-clause-ranges : goal.returns-clause-ranges
returns-clause-ranges g c = λ networks good edge so_far le range.
    one_more g.A.Address.width networks good (map g.A.Address.value c.args.starts.now) c.args.answers.now (map g.A.Address.value c.put.new.starts) c.put.new.answers
    c.args.count c.args.start c.args.end c.args.answer edge so_far c.put.ensures.starts c.put.ensures.answers (omega arith) range
