use Rattle.std.proofs.Common.{sym, ◌∙◌, ap, arith, ◌-◌, ◌<◌}
use Rattle.cidr_mmdb.specs.Trees.{record_at, walk}
use Rattle.cidr_mmdb.proofs.Walking.{walk_steps, walk_ends, walk_read}
use Rattle.cidr_mmdb.proofs.trees.Tree.walk.Goals as goal

pub loop-left-preserved : goal.loop-left-preserved
loop-left-preserved c =
    let step = record_at c.args.self.now.record_size c.args.self.now.bytes.now in
    let some : 0 < c.loop-left.left = omega arith in
    let below : c.loop-left.record < c.args.self.now.node_count = omega arith in
    record {
      few = omega arith;
      same = ap (λ r. walk step c.args.self.now.node_count c.args.address r (c.loop-left.left - 1)) c.record-record.ensures
          ∙ sym (walk_steps step c.args.self.now.node_count c.args.address c.loop-left.record c.loop-left.left some below)
          ∙ c.loop-left.invariant.same;
    }

pub returns-after-loop-left-clause-record : goal.returns-after-loop-left-clause-record
returns-after-loop-left-clause-record c =
    let step = record_at c.args.self.now.record_size c.args.self.now.bytes.now in
    ap (λ p. p.0) (sym (walk_read step c.args.self.now.node_count c.args.address c.loop-left.record c.loop-left.left (omega arith)) ∙ c.loop-left.invariant.same)

pub returns-after-loop-left-clause-left : goal.returns-after-loop-left-clause-left
returns-after-loop-left-clause-left c =
    let step = record_at c.args.self.now.record_size c.args.self.now.bytes.now in
    ap (λ p. p.1) (sym (walk_read step c.args.self.now.node_count c.args.address c.loop-left.record c.loop-left.left (omega arith)) ∙ c.loop-left.invariant.same)

pub returns-then-record-self-clause-record : goal.returns-then-record-self-clause-record
returns-then-record-self-clause-record c =
    let step = record_at c.args.self.now.record_size c.args.self.now.bytes.now in
    ap (λ p. p.0) (sym (walk_ends step c.args.self.now.node_count c.args.address c.loop-left.record c.loop-left.left (omega arith)) ∙ c.loop-left.invariant.same)

pub returns-then-record-self-clause-left : goal.returns-then-record-self-clause-left
returns-then-record-self-clause-left c =
    let step = record_at c.args.self.now.record_size c.args.self.now.bytes.now in
    ap (λ p. p.1) (sym (walk_ends step c.args.self.now.node_count c.args.address c.loop-left.record c.loop-left.left (omega arith)) ∙ c.loop-left.invariant.same)
