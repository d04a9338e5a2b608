use Rattle.std.proofs.Common.{◌≡◌, sym, ◌∙◌, ap, arith, inl, inr, eq-eqb, IsTrue, nat_eq, ℕ, ◌+◌, ◌-◌, get_or}
use Rattle.std.proofs.lemmas.Bool.{cases_eq, false≢true}
use Rattle.std.proofs.lemmas.Bool.Decides.{nat_tests}
use Rattle.cidr_files.proofs.KeyRows.{ascending_more}
use Rattle.cidr_files.proofs.checking.are_offsets.Goals as goal

tested : (m n : ℕ) → IsTrue (nat_eq m n) → m ≡ n
tested m n t = grind (arith, nat_tests)

pub returns-then-len-rows : goal.returns-then-len-rows
returns-then-len-rows g c = (λ t. absurd (false≢true t), λ a. absurd (omega (arith, a.many, c.len.ensures)))

pub returns-then-word-ne0 : goal.returns-then-word-ne0
returns-then-word-ne0 g c = (λ t. absurd (false≢true t), λ a. absurd (omega (arith, a.first, c.word.ensures)))

pub returns-then-offset-before : goal.returns-then-offset-before
returns-then-offset-before g c =
    let i = c.loop-i.i in
    let h = c.loop-i.invariant in (
      λ t. absurd (false≢true t),
      λ a. elim (cases_eq i 0) [
        | inl z ↦ absurd (omega (arith, h.none z))
        | inr n ↦ absurd (omega (arith, h.before (omega arith), a.ascending (i - 1) i (omega arith) (omega arith), c.word-offset.ensures))
      ],
    )

pub loop-i-preserved : goal.loop-i-preserved
loop-i-preserved g c =
    let all = g.T.Words.words c.args.offsets.now in
    let i = c.loop-i.i in
    let h = c.loop-i.invariant in
    record {
      none = λ z. absurd (omega arith);
      before = λ _. let e : i + 1 - 1 ≡ i = omega arith in c.word-offset.ensures ∙ ap (λ k. get_or all k 0) (sym e);
      ascending = ascending_more all i (λ some. omega (arith, h.before some, c.word-offset.ensures)) h.ascending;
    }

pub returns : goal.returns
returns g c =
    let all = g.T.Words.words c.args.offsets.now in
    let h = c.loop-i.invariant in
    let at_end : c.loop-i.i ≡ c.args.rows + 1 = omega arith in
    let one : c.loop-i.i - 1 ≡ c.args.rows = omega arith in
    let last : c.loop-i.before ≡ get_or all c.args.rows 0 = h.before (omega arith) ∙ ap (λ k. get_or all k 0) one in (
      λ t. record {
        many = omega (arith, c.len.ensures);
        first = sym c.word.ensures ∙ c.if-word-ne0.false;
        ascending = λ i k le l. h.ascending i k le (omega arith);
        last = sym last ∙ tested c.loop-i.before c.args.size t;
      },
      λ a. eq-eqb c.loop-i.before c.args.size (last ∙ a.last),
    )
