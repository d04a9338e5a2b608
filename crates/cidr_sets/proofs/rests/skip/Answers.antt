use Rattle.std.proofs.Common.{◌≡◌, length, map, sym, ap, subst}
use Rattle.std.proofs.lemmas.Bool.Decides.{not_from_Decides}
use Rattle.cidr_table.specs.model.Cover.{Covers}
use Rattle.cidr_sets.proofs.Cuts.{IsSuffix, first_of_none, first_passed, skip_more, suffix_all, suffix_rest}
use Rattle.cidr_sets.proofs.Joining.{by_none, nothing}
use Rattle.cidr_sets.proofs.rests.skip.Goals as goal

pub loop-first-init : goal.loop-first-init
loop-first-init g c = (suffix_all (map g.C.BitString.bits c.args.others.now), λ a n. (λ c. c, λ c. c))

pub loop-first-preserved : goal.loop-first-preserved
loop-first-preserved g c =
    let f = g.C.BitString.bits in
    let l = c.loop-first in
    let others = map f c.args.others.now in
    let first = c.in-Some.first.now in
    let behind = map f c.in-Some.behind.now in
    let split = c.in-Some.ensures.cases.0 in
    let passed = c.is_passed.ensures.0 c.if-not-is_passed.false in (
      suffix_rest (f first) behind others (subst (λ s. IsSuffix (map f s) others) split l.invariant.0),
      λ a n.
          let old = l.invariant.1 a n in
          let more = skip_more (f c.args.network.now) (f first) behind passed.0 passed.1 a n in (
            λ k. more.0 (subst (λ s. Covers (map f s) a) split (old.0 k)),
            λ k. old.1 (subst (λ s. Covers (map f s) a) (sym split) (more.1 k)),
          ),
    )

pub returns-then-not-is_passed : goal.returns-then-not-is_passed
returns-then-not-is_passed g c =
    let f = g.C.BitString.bits in
    let l = c.loop-first in
    record {
      suffix = l.invariant.0;
      covers = l.invariant.1;
      first = first_passed (f c.args.network.now) (f c.in-Some.first.now) (map f c.in-Some.behind.now) (map f l.left.now)
          (ap (map f) c.in-Some.ensures.cases.0) (not_from_Decides c.is_passed.result c.is_passed.ensures c.if-not-is_passed.true);
    }

pub returns-in_default : goal.returns-in_default
returns-in_default g c =
    let f = g.C.BitString.bits in
    let l = c.loop-first in
    record {
      suffix = l.invariant.0;
      covers = l.invariant.1;
      first = first_of_none (f c.args.network.now) (map f l.left.now) (ap (map f) (nothing l.left.now
          (by_none c.split_first.result (length l.left.now ≡ 0) _ c.in_default.not-Some c.split_first.ensures.cases)));
    }
