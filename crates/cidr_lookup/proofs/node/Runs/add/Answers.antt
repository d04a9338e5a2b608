use Rattle.std.proofs.Common.{refl, ap, arith, ◌+◌, ◌-◌, ℕ}
use Rattle.std.proofs.lemmas.Nat.{one_shl}
use Rattle.cidr_lookup.proofs.Nodes.{last_kept, next_mark, other_runs, same_runs}
use Rattle.cidr_lookup.proofs.node.Runs.add.Goals as goal
use Rattle.cidr_lookup.proofs.node.Runs.add.Goals.{else-from-gt0-via-then-from-gt0+else-self-entry, else-from-gt0-via-else-from-gt0}

pub overflow_sub-self : goal.overflow_sub-self
overflow_sub-self c =
    (last_kept c.requires.runs.0 c.args.from c.args.self.now.marks c.args.self.now.entries c.args.self.now.count c.requires.runs.1 c.if-from-gt0.true).0

pub returns-then-self-entry : goal.returns-then-self-entry
returns-then-self-entry c = λ entries are.
    same_runs entries c.args.from c.args.self.now.marks c.args.self.now.entries c.args.self.now.count are c.args._end c.args.entry c.requires.some c.requires.parts
    c.if-from-gt0.true c.if-self-entry.true

pub overflow_add-self : goal.overflow_add-self
overflow_add-self c =
    omega (
      arith,
      one_shl (63 - c.args.from) 64 (omega arith),
      next_mark c.requires.runs.0 c.args.from c.args.self.now.marks c.args.self.now.entries c.args.self.now.count c.requires.runs.1 (omega (arith, c.requires.some, c.requires.parts)),
    )

pub returns : goal.returns
returns c = λ entries are.
    other_runs entries c.args.from c.args.self.now.marks c.args.self.now.entries c.args.self.now.count are c.args._end c.args.entry c.requires.some c.requires.parts
    (λ some same. elim c.else-from-gt0.branch [
      | else-from-gt0-via-then-from-gt0+else-self-entry w ↦ w.if-self-entry.false same
      | else-from-gt0-via-else-from-gt0 w ↦ absurd (omega (arith, some, w.if-from-gt0.false))
    ])
    _ _ _ (ap (λ (n : ℕ). c.args.self.now.marks + n) (one_shl (63 - c.args.from) 64 (omega arith))) refl refl
