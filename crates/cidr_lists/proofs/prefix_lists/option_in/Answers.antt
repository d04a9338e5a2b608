use Rattle.std.proofs.Common.{refl, subst, List, ℕ}
use Rattle.std.proofs.lemmas.Slice.Eq.{slice_eq-Decides}
use Rattle.std.proofs.lemmas.Bool.Decides.{not_from_Decides}
use Rattle.std.specs.Cmp.{unsigned_Decides}
use Rattle.cidr_lists.specs.Fields.{AreFirstAndRest}
use Rattle.cidr_lists.proofs.prefix_lists.option_in.Goals as goal

pub returns-in-Some : goal.returns-in-Some
returns-in-Some c =
    let same = slice_eq-Decides unsigned_Decides c.parts_of.result.0.now c.args.word.now c.eq.result c.eq.ensures in (
      c.parts_of.result.1.now,
      c.parts_of-then-eq.result.0.now,
      subst (λ (w : List ℕ). AreFirstAndRest c.args.text.now w c.parts_of.result.1.now) (same.0 c.if-eq.true) c.parts_of.ensures,
      c.parts_of-then-eq.ensures,
      c.in-Some.ensures.0,
      c.in-Some.ensures.1,
    )

pub returns-in-None : goal.returns-in-None
returns-in-None c =
    let same = slice_eq-Decides unsigned_Decides c.parts_of.result.0.now c.args.word.now c.eq.result c.eq.ensures in (
      c.parts_of.result.1.now,
      c.parts_of-then-eq.result.0.now,
      c.parts_of-then-eq.result.1.now,
      subst (λ (w : List ℕ). AreFirstAndRest c.args.text.now w c.parts_of.result.1.now) (same.0 c.if-eq.true) c.parts_of.ensures,
      c.parts_of-then-eq.ensures,
      c.in-None.ensures,
      c.bad_number.ensures,
    )

pub returns : goal.returns
returns c =
    let same = slice_eq-Decides unsigned_Decides c.parts_of.result.0.now c.args.word.now c.eq.result c.eq.ensures in
    (refl, c.parts_of.result.0.now, c.parts_of.result.1.now, c.parts_of.ensures, not_from_Decides c.eq.result same c.if-eq.false)
