use Rattle.std.proofs.Common.{rules, ◌≡◌, ◌∙◌, ◌++◌, ◌∷◌, [], false, true, length, take, sym, ap, ap₂, subst, arith, length-append}
use Rattle.std.specs.Option.{option_eq}
use Rattle.cidr_forwarding.specs.Forwarding.{in_bits}
use Rattle.cidr_forwarding.specs.Trees.{paired, sole_values, differing}
use Rattle.cidr_forwarding.specs.Plans.{AreOf, behind}
use Rattle.cidr_forwarding.proofs.Smallest.{decides_option}
use Rattle.cidr_forwarding.proofs.Listing.{paired_halves, cut_back, both_rows, listed_row, sole_told, rows_apart, rows_sole}
use Rattle.cidr_forwarding.proofs.differing.+differ.Goals as goal

pub returns-then-are_ended-clause-rows : goal.returns-then-are_ended-clause-rows
returns-then-are_ended-clause-rows g t c =
    let f = g.C.BitString.bits in
    let S = option_eq g.V.PartialEq.eq in
    let even = ap₂ paired (c.halve-one.ensures.ended (c.are_ended.ensures.none c.if-are_ended.true)) (c.halve-other.ensures.ended (c.are_ended.ensures.other_none c.if-are_ended.true)) in
    listed_row f S c.args.out.now.items c.list.new.out.items c.args.network (c.halve-one.result.own, c.halve-other.result.own) c.in_ok-list.ensures
    ∙ ap (λ q. in_bits f c.args.out.now.items ++ behind (f c.args.network) (differing S q)) (sym even)

pub returns-then-are_ended-clause-sole : goal.returns-then-are_ended-clause-sole
returns-then-are_ended-clause-sole g t c =
    let even = ap₂ paired (c.halve-one.ensures.ended (c.are_ended.ensures.none c.if-are_ended.true)) (c.halve-other.ensures.ended (c.are_ended.ensures.other_none c.if-are_ended.true)) in
    sym (ap (sole_values (option_eq g.V.PartialEq.eq)) even)

pub half_of-lower-requires-clause-of : goal.half_of-lower-requires-clause-of
half_of-lower-requires-clause-of g t c = c.halve-one.ensures.of (g.C.BitString.bits c.args.network) c.requires.of

pub half_of-lower-requires-clause-other_of : goal.half_of-lower-requires-clause-other_of
half_of-lower-requires-clause-other_of g t c = c.halve-other.ensures.of (g.C.BitString.bits c.args.network) c.requires.other_of

pub half_of-upper-requires-clause-of : goal.half_of-upper-requires-clause-of
half_of-upper-requires-clause-of g t c = c.halve-one.ensures.of (g.C.BitString.bits c.args.network) c.requires.of

pub half_of-upper-requires-clause-other_of : goal.half_of-upper-requires-clause-other_of
half_of-upper-requires-clause-other_of g t c = c.halve-other.ensures.of (g.C.BitString.bits c.args.network) c.requires.other_of

pub differ-requires : goal.differ-requires
differ-requires g t c κs within =
    let f = g.C.BitString.bits in
    let q = f c.args.network in
    let here = c.half_of-lower.ensures in
    (omega (arith, c.decreases, c.are_ended.ensures.room c.if-are_ended.false), (within.0, (within.1, (c.requires.tells, (c.halve-one.ensures.low_node, (c.halve-other.ensures.low_node, (subst (λ p. AreOf f p c.halve-one.result.lower.now) (sym here) (c.halve-one.ensures.low_of q c.requires.depth c.requires.of), (subst (λ p. AreOf f p c.halve-other.result.lower.now) (sym here) (c.halve-other.ensures.low_of q c.requires.depth c.requires.other_of), (omega (arith, ap length here, length-append q (false ∷ []), c.requires.depth))))))))))

pub differ-requires-2 : goal.differ-requires-2
differ-requires-2 g t c κs within =
    let f = g.C.BitString.bits in
    let q = f c.args.network in
    let here = c.half_of-upper.ensures in
    (omega (arith, c.decreases, c.are_ended.ensures.room c.if-are_ended.false), (within.0, (within.1, (c.requires.tells, (c.halve-one.ensures.high_node, (c.halve-other.ensures.high_node, (subst (λ p. AreOf f p c.halve-one.result.upper.now) (sym here) (c.halve-one.ensures.high_of q c.requires.depth c.requires.of), (subst (λ p. AreOf f p c.halve-other.result.upper.now) (sym here) (c.halve-other.ensures.high_of q c.requires.depth c.requires.other_of), (omega (arith, ap length here, length-append q (true ∷ []), c.requires.depth))))))))))

pub returns-in_ok-list-in-Some-clause-rows : goal.returns-in_ok-list-in-Some-clause-rows
returns-in_ok-list-in-Some-clause-rows g t c =
    let f = g.C.BitString.bits in
    let S = option_eq g.V.PartialEq.eq in
    let D = decides_option g.V.PartialEq.eq c.requires.tells in
    let both = paired_halves c.halve-one.ensures.plan c.halve-other.ensures.plan in
    let sole = sole_told S D both c.in_ok-low.ensures.sole c.in_ok-high.ensures.sole (sym c.shared_values.ensures ∙ c.in-Some.is) in
    let all : c.len-before.result ≡ length c.args.out.now.items = search rules in
    let cut = cut_back f c.args.out.now.items c.differ.new.out.items c.differ-2.new.out.items c.truncate.new.self.items _ _
    c.in_ok-low.ensures.rows c.in_ok-high.ensures.rows (c.truncate.ensures.items ∙ ap (λ n. take n c.differ-2.new.out.items) all) in
    listed_row f S c.truncate.new.self.items c.list-in-Some.new.out.items c.args.network c.in-Some.values c.in_ok-list-in-Some.ensures
    ∙ ap₂ (λ a b. a ++ behind (f c.args.network) b) cut (sym (rows_sole S D c.in-Some.values both sole))

pub returns-in_ok-list-in-Some-clause-sole : goal.returns-in_ok-list-in-Some-clause-sole
returns-in_ok-list-in-Some-clause-sole g t c =
    let both = paired_halves c.halve-one.ensures.plan c.halve-other.ensures.plan in
    sym (sole_told (option_eq g.V.PartialEq.eq) (decides_option g.V.PartialEq.eq c.requires.tells) both c.in_ok-low.ensures.sole c.in_ok-high.ensures.sole (sym c.shared_values.ensures ∙ c.in-Some.is))

pub returns-in-None-clause-rows : goal.returns-in-None-clause-rows
returns-in-None-clause-rows g t c =
    let f = g.C.BitString.bits in
    let S = option_eq g.V.PartialEq.eq in
    let D = decides_option g.V.PartialEq.eq c.requires.tells in
    let both = paired_halves c.halve-one.ensures.plan c.halve-other.ensures.plan in
    let sole = sole_told S D both c.in_ok-low.ensures.sole c.in_ok-high.ensures.sole (sym c.shared_values.ensures ∙ c.in-None.is) in
    both_rows f c.args.out.now.items c.differ.new.out.items c.differ-2.new.out.items (f c.args.network) (f c.half_of-lower.result) (f c.half_of-upper.result)
    _ _ c.half_of-lower.ensures c.half_of-upper.ensures c.in_ok-low.ensures.rows c.in_ok-high.ensures.rows
    ∙ ap (λ b. in_bits f c.args.out.now.items ++ behind (f c.args.network) b) (sym (rows_apart S D both sole))

pub returns-in-None-clause-sole : goal.returns-in-None-clause-sole
returns-in-None-clause-sole g t c =
    let both = paired_halves c.halve-one.ensures.plan c.halve-other.ensures.plan in
    sym (sole_told (option_eq g.V.PartialEq.eq) (decides_option g.V.PartialEq.eq c.requires.tells) both c.in_ok-low.ensures.sole c.in_ok-high.ensures.sole (sym c.shared_values.ensures ∙ c.in-None.is))
