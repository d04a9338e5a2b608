use Rattle.std.proofs.Common.{◌+◌, List, Bool, ◌++◌, ◌∷◌, [], ap, arith, get_or, length, map, subst, sym, take, ◌∙◌}
use Rattle.std.proofs.lemmas.List.{append-nil, take_all}
use Rattle.cidr.specs.declared.cidr.combined.IpCidr.{IpCidr}
use Rattle.cidr.specs.declared.cidr.combined.IpCidr.TheVariants.{V4, V6}
use Rattle.cidr_c.specs.calls.Plans.{AddsRows}
use Rattle.cidr_c.proofs.PlanLines.{adds_more, adds_none, one_more}
use Rattle.cidr_c.proofs.plans.push_lists.Goals as goal

pub loop-network-init : goal.loop-network-init
loop-network-init c = adds_none c.args.rows.now.items c.args.place

pub loop-network-preserved : goal.loop-network-preserved
loop-network-preserved c =
    let l = c.loop-network in
    let xs = c.as_slice-network-items.result.now in
    let same = c.as_slice-network-items.ensures.value in
    let old = c.args.rows.now.items in
    let new = c.push_row.new.rows.items in
    let i = l.network-index in
    let d = c.network-item.result in
    let before = subst (λ (v : List (List Bool)). AddsRows old l.rows.items (map (λ p. V4 p) (take i v)) c.args.place) (sym same) l.invariant in
    let one = subst (λ (n : List Bool). AddsRows l.rows.items new (V4 n ∷ []) c.args.place) c.network-item.is c.in_ok-push_row.ensures in
    let more = adds_more old l.rows.items new (map (λ p. V4 p) (take i xs)) (V4 (get_or xs i d) ∷ []) c.args.place before one in
    let all = subst (λ (t : List IpCidr). AddsRows old new t c.args.place) (one_more (λ p. V4 p) [] xs i d c.loop-network-test.true) more in
    subst (λ (v : List (List Bool)). AddsRows old new (map (λ p. V4 p) (take (i + 1) v)) c.args.place) same all

pub loop-other-init : goal.loop-other-init
loop-other-init c =
    let l = c.loop-network in
    let v4 = c.args.lists.now.v4.items in
    subst (λ (t : List IpCidr). AddsRows c.args.rows.now.items l.rows.items t c.args.place)
    (ap (map (λ p. V4 p)) (take_all l.network-index v4 (omega (arith, c.loop-network-test.false, ap length c.as_slice-network-items.ensures.value)))
    ∙ sym (append-nil (map (λ p. V4 p) v4))) l.invariant

pub loop-other-preserved : goal.loop-other-preserved
loop-other-preserved c =
    let l = c.loop-other in
    let front = map (λ p. V4 p) c.args.lists.now.v4.items in
    let xs = c.as_slice-other-items.result.now in
    let same = c.as_slice-other-items.ensures.value in
    let old = c.args.rows.now.items in
    let new = c.push_row-in-loop-other.new.rows.items in
    let i = l.other-index in
    let d = c.other-item.result in
    let before = subst (λ (v : List (List Bool)). AddsRows old l.rows.items (front ++ map (λ p. V6 p) (take i v)) c.args.place) (sym same) l.invariant in
    let one = subst (λ (n : List Bool). AddsRows l.rows.items new (V6 n ∷ []) c.args.place) c.other-item.is c.in_ok-push_row-2.ensures in
    let more = adds_more old l.rows.items new (front ++ map (λ p. V6 p) (take i xs)) (V6 (get_or xs i d) ∷ []) c.args.place before one in
    let all = subst (λ (t : List IpCidr). AddsRows old new t c.args.place) (one_more (λ p. V6 p) front xs i d c.loop-other-test.true) more in
    subst (λ (v : List (List Bool)). AddsRows old new (front ++ map (λ p. V6 p) (take (i + 1) v)) c.args.place) same all

pub returns : goal.returns
returns c =
    let l = c.loop-other in
    subst (λ (t : List IpCidr). AddsRows c.args.rows.now.items l.rows.items t c.args.place)
    (ap (λ (t : List (List Bool)). map (λ p. V4 p) c.args.lists.now.v4.items ++ map (λ p. V6 p) t)
    (take_all l.other-index c.args.lists.now.v6.items (omega (arith, c.loop-other-test.false, ap length c.as_slice-other-items.ensures.value)))) l.invariant
