use Rattle.std.proofs.Common.{refl, sym, subst}
use Rattle.std.proofs.lemmas.Bool.{true≢false}
use Rattle.std.proofs.lemmas.Bool.Decides.{not_from_Decides}
use Rattle.cidr_lists.specs.Within.{LineHasOneIn}
use Rattle.cidr_lists.specs.Sets.{IsInSets}
use Rattle.cidr_lists.proofs.Anywhere.{all_of, line_behind, line_by_word, line_last, line_on, next_is, none_held, word_ascii}
use Rattle.cidr_lists.proofs.sets.Sets.have_one_of.Goals as goal

pub returns-then-lack : goal.returns-then-lack
returns-then-lack c = (
  λ e. absurd (true≢false (sym e)),
  λ h. absurd (none_held c.args.self.now c.args.family c.args.line.now (c.lack.ensures.0 c.if-lack.true) h),
)

pub have_word-requires : goal.have_word-requires
have_word-requires c =
    rw c.split_at.ensures.front (word_ascii c.args.family c.loop-behind.rest.now c.word_len.result c.word_len.ensures.first)

pub returns-then-have_word : goal.returns-then-have_word
returns-then-have_word c = (
  λ _. c.loop-behind.invariant.0 (line_by_word (IsInSets c.args.self.now) c.args.family c.loop-behind.rest.now c.word_len.result
      c.word_len.ensures.first c.word_len.ensures.fits (rw c.split_at.ensures.front at (c.have_word.ensures.0 c.if-have_word.true))),
  λ _. refl,
)

pub returns-in_default : goal.returns-in_default
returns-in_default c =
    let rest = c.loop-behind.rest.now in
    let misses = rw c.split_at.ensures.front at (not_from_Decides c.have_word.result c.have_word.ensures c.if-have_word.false) in
    let all = all_of rest c.word_len.result c.word_len.ensures.fits (rw c.split_at.ensures.back at c.in_default.ensures.cases) in (
      λ e. absurd (true≢false (sym e)),
      λ h. absurd (line_last (IsInSets c.args.self.now) c.args.family rest c.word_len.result c.word_len.ensures.first all misses
          (c.loop-behind.invariant.1 h)),
    )

pub loop-behind-preserved : goal.loop-behind-preserved
loop-behind-preserved c =
    let rest = c.loop-behind.rest.now in
    let misses = rw c.split_at.ensures.front at (not_from_Decides c.have_word.result c.have_word.ensures c.if-have_word.false) in
    let split = rw c.split_at.ensures.back at c.in-Some.ensures.cases.0 in
    let next = next_is rest c.in-Some.next.now c.word_len.result c.in-Some.field-0-0.now c.word_len.ensures.fits split in
    let HasOne = LineHasOneIn (IsInSets c.args.self.now) c.args.family in (
      λ h. c.loop-behind.invariant.0 (line_behind (IsInSets c.args.self.now) c.args.family rest c.word_len.result c.word_len.ensures.first next.0
          (subst HasOne (sym next.1) h)),
      λ h. subst HasOne next.1 (line_on (IsInSets c.args.self.now) c.args.family rest c.word_len.result c.word_len.ensures.first next.0 misses
          (c.loop-behind.invariant.1 h)),
    )
