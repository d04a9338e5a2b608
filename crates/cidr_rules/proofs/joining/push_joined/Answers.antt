use Rattle.std.proofs.Common.{ℕ, List, Some, None, cond, length, sym, ◌∙◌, ap, subst, arith}
use Rattle.std.proofs.lemmas.List.{length-map, length_push}
use Rattle.std.proofs.lemmas.List.Edits.{length-remove}
use Rattle.std.proofs.lemmas.List.Quantifiers.{position-Some}
use Rattle.cidr_rules.specs.declared.fields.Range.{Range}
use Rattle.cidr_rules.specs.declared.regions.Region.{Region}
use Rattle.cidr_rules.specs.Packets.{is_in, ranges_of}
use Rattle.cidr_rules.specs.Regions.{are_full, join}
use Rattle.cidr_rules.specs.Parts.{AreSeparate, boxes_of, held}
use Rattle.cidr_rules.proofs.Joins.{joined_here, joined_whole, part_full, position_is, pushed_held, pushed_separate, removed_held, removed_separate}
use Rattle.cidr_rules.proofs.joining.push_joined.Goals as goal

pub remove-part-requires : goal.remove-part-requires
remove-part-requires g c =
    let p = λ (r : Region g.row.A.Denot). join (ranges_of g.A.FieldValue.number r) (ranges_of g.A.FieldValue.number c.loop-i.whole) in
    let at = position_is p c.loop-i.regions.items c.deref.result.now c.first_joining-found.result (Some c.in-Some.i) c.deref.ensures.value c.first_joining-found.ensures c.in-Some.is in
    let lt = (position-Some p c.loop-i.regions.items c.in-Some.i c.loop-i.whole at).0 in
    omega (arith, lt, ap length c.deref.ensures.value, c.deref.ensures.len)

pub loop-i-smaller : goal.loop-i-smaller
loop-i-smaller g c = omega (arith, c.remove-part.ensures.len)

pub loop-i-preserved : goal.loop-i-preserved
loop-i-preserved g c =
    let n = g.A.FieldValue.number in
    let regions = c.loop-i.regions.items in
    let whole = c.loop-i.whole in
    let part = c.remove-part.result in
    let p = λ (r : Region g.row.A.Denot). join (ranges_of n r) (ranges_of n whole) in
    let at = position_is p regions c.deref.result.now c.first_joining-found.result (Some c.in-Some.i) c.deref.ensures.value c.first_joining-found.ensures c.in-Some.is in
    let is = c.remove-part.ensures.value in
    let left = c.remove-part.ensures.items in
    let separate = c.loop-i.invariant.separate in
    let full = c.loop-i.invariant.full in
    let lt = (position-Some p regions c.in-Some.i whole at).0 in
    record {
      separate = subst (λ (l : List (Region g.row.A.Denot)). AreSeparate (boxes_of n l)) (sym left) (removed_separate n regions whole c.in-Some.i part at is separate);
      full = ap are_full c.hull-whole.ensures ∙ joined_whole n part whole (part_full n regions whole c.in-Some.i part at is separate) full;
      counts = λ x. omega (
        arith,
        ap (λ (l : List (Region g.row.A.Denot)). held x (boxes_of n l)) left,
        removed_held n regions whole c.in-Some.i part at is x,
        joined_here n regions whole c.in-Some.i part at is separate full x,
        ap (λ (b : List (Range ℕ)). cond {A = ℕ} (is_in b x) 1 0) c.hull-whole.ensures,
        c.loop-i.invariant.counts x,
      );
      few = omega (arith, ap length left, length-remove regions c.in-Some.i lt, c.loop-i.invariant.few);
    }

pub returns-in-None : goal.returns-in-None
returns-in-None g c =
    let n = g.A.FieldValue.number in
    let regions = c.loop-i.regions.items in
    let whole = c.loop-i.whole in
    let p = λ (r : Region g.row.A.Denot). join (ranges_of n r) (ranges_of n whole) in
    let none = position_is p regions c.deref.result.now c.first_joining-found.result None c.deref.ensures.value c.first_joining-found.ensures c.in-None.is in
    let more = c.in_ok-push-in-None.ensures.items in
    record {
      separate = subst (λ (l : List (Region g.row.A.Denot)). AreSeparate (boxes_of n l)) (sym more)
          (pushed_separate n regions whole c.loop-i.invariant.separate c.loop-i.invariant.full none);
      counts = λ x. ap (λ (l : List (Region g.row.A.Denot)). held x (boxes_of n l)) more ∙ pushed_held n regions whole x ∙ c.loop-i.invariant.counts x;
      few = omega (
        arith,
        ap length more,
        length_push regions whole,
        c.loop-i.invariant.few,
        length-map c.push.new.self.items (ranges_of n),
        length-map c.args.regions.now.items (ranges_of n),
      );
    }
