use Rattle.std.proofs.Common.{arith}
use Rattle.cidr_lookup.proofs.Searching.{further, no_further, started}
use Rattle.cidr_lookup.proofs.search.upto.Goals as goal
use Rattle.cidr_lookup.proofs.search.upto.Goals.{then-change-word, else-change-word}

pub loop-i-init : goal.loop-i-init
loop-i-init g c = started (g.T.Words.words c.args.words.now) c.args.starts c.args.count c.args.word

pub loop-i-preserved : goal.loop-i-preserved
loop-i-preserved g c = elim c.if-change-word.branch [
  | then-change-word w ↦ further (g.T.Words.words c.args.words.now) c.args.starts c.args.count c.args.word c.loop-i.found c.loop-i.i c.loop-i.invariant c.loop-i-test.true
      c.if-change-word.found (omega (arith, c.word-change.ensures, w.if-change-word.true)) w.found-is
  | else-change-word w ↦ no_further (g.T.Words.words c.args.words.now) c.args.starts c.args.count c.args.word c.loop-i.found c.loop-i.i c.loop-i.invariant c.loop-i-test.true
      c.if-change-word.found (omega (arith, c.word-change.ensures, w.if-change-word.false)) w.found-is
]
