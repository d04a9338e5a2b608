use Rattle.std.proofs.Common.{rules, ◌≡◌, ◌∙◌, ◌<◌, ◌++◌, [], false, true, length, sym, ap, subst}
use Rattle.std.specs.Option.{option_eq}
use Rattle.cidr_forwarding.specs.Choices.{is_free, shared, joined_candidates}
use Rattle.cidr_forwarding.proofs.Stretches.{empty_from}
use Rattle.cidr_forwarding.proofs.Joins.{joined_holes, joined_all, both_filtered, none_are_holes}
use Rattle.cidr_forwarding.proofs.candidates.join.Goals as goal
use Rattle.cidr_forwarding.proofs.candidates.join.Goals.{then-not-holes+in_ok-push_holes+in_ok-push_holes-2+else-not-is_empty-2, else-not-holes}

pub returns-then-not-is_empty-2 : goal.returns-then-not-is_empty-2
returns-then-not-is_empty-2 g c =
    let same = option_eq g.V.PartialEq.eq in
    let xs = c.args.lower.now in
    let ys = c.args.upper.now in
    let first = c.push_shared.new.out.items in
    let now = c.push_holes-then-not-holes.new.out.items in
    let is : first ≡ shared same xs ys = c.in_ok-push_shared.ensures ∙ ap (λ l. l ++ shared same xs ys) c.clear.ensures.items in
    let empty : first ≡ [] = empty_from first (search rules) in
    let all = both_filtered same (is_free false) xs ys empty c.in_ok-push_holes.ensures c.in_ok-push_holes-2.ensures in
    let some : 0 < length now = search rules in
    subst (λ b. now ≡ joined_candidates same (is_free b) xs ys) (sym c.if-not-holes.true) (joined_holes same (is_free false) xs ys (sym is ∙ empty) all some)

pub returns : goal.returns
returns g c =
    let same = option_eq g.V.PartialEq.eq in
    let xs = c.args.lower.now in
    let ys = c.args.upper.now in
    let first = c.push_shared.new.out.items in
    let middle = c.extend_from_slice.new.self.items in
    let now = c.extend_from_slice-2.new.self.items in
    let is : first ≡ shared same xs ys = c.in_ok-push_shared.ensures ∙ ap (λ l. l ++ shared same xs ys) c.clear.ensures.items in
    let empty : first ≡ [] = empty_from first (search rules) in
    let none = sym is ∙ empty in
    elim c.if-not-holes.branch [
      | then-not-holes+in_ok-push_holes+in_ok-push_holes-2+else-not-is_empty-2 w ↦
          let second = w.push_holes-then-not-holes.new.out.items in
          let all = both_filtered same (is_free false) xs ys empty w.in_ok-push_holes.ensures w.in_ok-push_holes-2.ensures in
          let nothing : second ≡ [] = empty_from second (search rules) in
          subst (λ b. now ≡ joined_candidates same (is_free b) xs ys) (sym w.if-not-holes.true)
          (joined_all same (is_free false) xs ys none (sym all ∙ nothing) (ap (λ v. v.items) w.joined-is ∙ nothing) c.in_ok-extend_from_slice.ensures.items c.in_ok-extend_from_slice-2.ensures.items)
      | else-not-holes w ↦
          subst (λ b. now ≡ joined_candidates same (is_free b) xs ys) (sym w.if-not-holes.false)
          (joined_all same (is_free true) xs ys none (none_are_holes (xs ++ ys)) (ap (λ v. v.items) w.joined-is ∙ empty) c.in_ok-extend_from_slice.ensures.items c.in_ok-extend_from_slice-2.ensures.items)
    ]
