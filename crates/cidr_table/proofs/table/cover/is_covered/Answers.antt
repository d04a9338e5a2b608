use Rattle.std.proofs.Common.{◌-◌, take, map, sym, subst}
use Rattle.std.proofs.lemmas.List.Elements.{Contains-push}
use Rattle.std.specs.List.{Contains}
use Rattle.cidr_table.specs.model.Cover.{Covers}
use Rattle.cidr_table.specs.internal.CoverStack.{IsReduced}
use Rattle.cidr_table.proofs.Passing.{top_split}
use Rattle.cidr_table.proofs.Stacks.{top_holds}
use Rattle.cidr_table.proofs.table.cover.is_covered.Goals as goal

pub returns-then-count-gt0 : goal.returns-then-count-gt0
returns-then-count-gt0 g c =
    let f = g.C.BitString.bits in
    let out = c.args.out.now in
    let n = c.args.count in
    let key = f c.args.key.now in
    let t = c.index-out-count.result in
    let rest = map f (take (n - 1) out) in
    let e = top_split f out n t c.if-count-gt0.true c.requires.within c.index-out-count.is in
    let top : Contains (map f (take n out)) (f t) = subst (λ s. Contains s (f t)) (sym e) (Contains-push rest (f t)) in (
      λ h. (f t, top, c.is_inside.ensures.0 h),
      λ h. c.is_inside.ensures.1 (top_holds 129 rest (f t) key (subst (IsReduced 129) e c.requires.reduced)
          (c.requires.before (f t) top) (subst (λ s. Covers s key) e h)),
    )
