use Rattle.std.proofs.Common.{◌∙◌, sym, ap, subst, take, List, ℕ, Ok, arith, rules}
use Rattle.std.proofs.lemmas.Result.{err_from_is_err_and}
use Rattle.std.specs.Io.KnownBytes.{prepend_known}
use Rattle.cidr_io.specs.Lines.{HasNoFeed, IsFirstFeed, KeepsLines}
use Rattle.cidr_io.proofs.Feeds.{feed_behind, keeps_on, keeps_same, keeps_untold, keeps_without, no_feed_in, none_behind, part_behind, taken_more, taken_none, too_many}
use Rattle.cidr_io.proofs.lines.fill_line.Goals as goal

pub loop-reads-init : goal.loop-reads-init
loop-reads-init g c = record {
  within = search rules;
  none = λ k h. absurd (omega (arith, h));
  lines = keeps_same (prepend_known c.args.block.now.items (g.S.Source.left c.args.source.now));
  taken = taken_none (g.S.Source.left c.args.source.now);
}

pub returns-in-Some : goal.returns-in-Some
returns-in-Some g c =
    let block = c.loop-reads.block.items in
    record {
      lines = c.loop-reads.invariant.lines;
      found = feed_behind block c.loop-reads.seen c.in-Some.index c.loop-reads.invariant.none (omega (arith, c.loop-reads.invariant.within, c.loop-reads.block.ok.0))
          (subst (λ (k : List ℕ). IsFirstFeed k c.in-Some.index) (part_behind block c.deref.result.now c.loop-reads.seen c.deref.ensures.value) c.in-Some.ensures);
      failed = tt;
      refused = tt;
    }

pub loop-reads-preserved : goal.loop-reads-preserved
loop-reads-preserved g c =
    let block = c.loop-reads.block.items in
    let cut = c.truncate.new.self.items in
    let left = g.S.Source.left c.loop-reads.source in
    let start = prepend_known c.args.block.now.items (g.S.Source.left c.args.source.now) in
    let none : HasNoFeed block = none_behind block c.loop-reads.seen c.loop-reads.invariant.none (omega (arith, c.loop-reads.invariant.within, c.loop-reads.block.ok.0))
    (subst HasNoFeed (part_behind block c.deref.result.now c.loop-reads.seen c.deref.ensures.value) (rw c.in_default.is at c.feed_in.ensures)) in
    let none_kept : HasNoFeed cut = subst HasNoFeed (sym c.truncate.ensures.items) (no_feed_in 1048577 block none) in
    let more = c.in_ok-has_more.ensures.more (ap Ok c.if-not-has_more.false) in
    let lines : KeepsLines start (prepend_known cut left) =
    subst (λ (k : List ℕ). KeepsLines start (prepend_known k left)) (sym c.truncate.ensures.items)
    (keeps_without start block left c.loop-reads.invariant.lines none) in
    record {
      within = omega (arith, more, c.len-seen.ensures);
      none = subst HasNoFeed (sym (ap (λ (n : ℕ). take n c.read_more.new.block.items) c.len-seen.ensures ∙ c.in_ok-has_more.ensures.front)) none_kept;
      lines = keeps_on start (prepend_known cut left) (prepend_known c.read_more.new.block.items (g.S.Source.left c.read_more.new.source)) lines
          c.in_ok-has_more.ensures.told;
      taken = taken_more c.loop-reads._reads (g.S.Source.left c.args.source.now) left (g.S.Source.left c.read_more.new.source) cut
          c.read_more.new.block.items c.loop-reads.invariant.taken c.in_ok-has_more.ensures.told
          (omega (arith, more, c.truncate.new.self.ok.0, c.read_more.new.block.ok.0));
    }

pub returns-in_err-has_more-clause-failed : goal.returns-in_err-has_more-clause-failed
returns-in_err-has_more-clause-failed g c =
    let block = c.loop-reads.block.items in
    let cut = c.truncate.new.self.items in
    let left = g.S.Source.left c.loop-reads.source in
    let start = prepend_known c.args.block.now.items (g.S.Source.left c.args.source.now) in
    let none : HasNoFeed block = none_behind block c.loop-reads.seen c.loop-reads.invariant.none (omega (arith, c.loop-reads.invariant.within, c.loop-reads.block.ok.0))
    (subst HasNoFeed (part_behind block c.deref.result.now c.loop-reads.seen c.deref.ensures.value) (rw c.in_default.is at c.feed_in.ensures)) in
    let lines : KeepsLines start (prepend_known cut left) =
    subst (λ (k : List ℕ). KeepsLines start (prepend_known k left)) (sym c.truncate.ensures.items)
    (keeps_without start block left c.loop-reads.invariant.lines none) in
    let (y, is, same) = err_from_is_err_and c.from_residual.result c.from_residual.ensures.1 in
    rw (is, same) (λ h. keeps_untold start (prepend_known cut left) lines (c.in_err-has_more.ensures.failed h))

pub returns-then-not-has_more : goal.returns-then-not-has_more
returns-then-not-has_more g c =
    let block = c.loop-reads.block.items in
    let cut = c.truncate.new.self.items in
    let left = g.S.Source.left c.loop-reads.source in
    let start = prepend_known c.args.block.now.items (g.S.Source.left c.args.source.now) in
    let none : HasNoFeed block = none_behind block c.loop-reads.seen c.loop-reads.invariant.none (omega (arith, c.loop-reads.invariant.within, c.loop-reads.block.ok.0))
    (subst HasNoFeed (part_behind block c.deref.result.now c.loop-reads.seen c.deref.ensures.value) (rw c.in_default.is at c.feed_in.ensures)) in
    let none_kept : HasNoFeed cut = subst HasNoFeed (sym c.truncate.ensures.items) (no_feed_in 1048577 block none) in
    let lines : KeepsLines start (prepend_known cut left) =
    subst (λ (k : List ℕ). KeepsLines start (prepend_known k left)) (sym c.truncate.ensures.items)
    (keeps_without start block left c.loop-reads.invariant.lines none) in
    record {
      lines = keeps_on start (prepend_known cut left) (prepend_known c.read_more.new.block.items (g.S.Source.left c.read_more.new.source)) lines
          c.in_ok-has_more.ensures.told;
      found = (
        subst HasNoFeed (sym (c.in_ok-has_more.ensures.same (ap Ok c.if-not-has_more.true))) none_kept,
        c.in_ok-has_more.ensures.end (ap Ok c.if-not-has_more.true),
      );
      failed = tt;
      refused = tt;
    }

pub returns-clause-failed : goal.returns-clause-failed
returns-clause-failed g c = λ h. too_many c.loop-reads._reads (g.S.Source.left c.args.source.now) (g.S.Source.left c.loop-reads.source)
    c.args.block.now.items c.loop-reads.invariant.taken c.loop-reads-test.false
