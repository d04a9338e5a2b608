use Rattle.std.proofs.Common.{◌≡◌, ℕ, ◌-◌, ◌<◌, ◌∙◌, ap, arith, inr, refl, subst, sym, length, get_or, slice_get, Some}
use Rattle.std.proofs.lemmas.Bool.{true≢false}
use Rattle.std.proofs.lemmas.Option.{same_Some, slice_get-get_or}
use Rattle.cidr.specs.either.IpNetwork.{any_bits}
use Rattle.cidr.specs.model.Network.{BeginsWith}
use Rattle.cidr.specs.declared.cidr.any.AnyIpCidr.{AnyIpCidr}
use Rattle.cidr_c.proofs.Outers.{begun_at, longest_index, no_longest, on_to_around}
use Rattle.cidr_c.proofs.nested.longest_of.Goals as goal

pub loop-end-init : goal.loop-end-init
loop-end-init c =
    begun_at any_bits c.args.rows.now (any_bits c.args.asked.now) c.rows_upto-end.result c.rows_upto-end.ensures.within c.rows_upto-end.ensures.upto
    c.rows_upto-end.ensures.behind

pub loop-end-preserved : goal.loop-end-preserved
loop-end-preserved c =
    let rows = c.args.rows.now in
    let asked = any_bits c.args.asked.now in
    let end = c.loop-end.end in
    let row = c.index-rows-end.result in
    let within : end - 1 < length rows = omega (arith, c.loop-end.invariant.within, c.loop-end-test.true) in
    let here : slice_get rows (end - 1) ≡ Some row = slice_get-get_or rows (end - 1) row within ∙ ap Some (sym c.index-rows-end.is) in
    on_to_around any_bits rows asked c.requires.rows end _ row c.loop-end-test.true here
    (λ begins. true≢false (sym (c.is_inside.ensures.1 (subst (λ (r : AnyIpCidr × ℕ). BeginsWith asked (any_bits r.0)) c.index-rows-end.is begins)) ∙ c.if-is_inside.false))
    (c.requires.outers.each (end - 1) within) c.loop-end.invariant

pub returns-then-is_inside : goal.returns-then-is_inside
returns-then-is_inside c = λ networks are.
    let rows = c.args.rows.now in
    let asked = any_bits c.args.asked.now in
    let end = c.loop-end.end in
    let within : end - 1 < length rows = omega (arith, c.loop-end.invariant.within, c.loop-end-test.true) in
    let read = get_or rows (end - 1) c.index-rows-end.result in
    let row = get_or rows (end - 1) c.index-rows-end-then-is_inside.result in
    let here : slice_get rows (end - 1) ≡ Some row = slice_get-get_or rows (end - 1) c.index-rows-end-then-is_inside.result within in
    let same : read ≡ row = same_Some read row (sym (slice_get-get_or rows (end - 1) c.index-rows-end.result within) ∙ here) in
    longest_index networks rows c.requires.rows are c.args.asked.now end c.loop-end.invariant row c.loop-end-test.true here
    (subst (λ (r : AnyIpCidr × ℕ). BeginsWith asked (any_bits r.0)) same (c.is_inside.ensures.0 c.if-is_inside.true))

pub returns : goal.returns
returns c = λ networks are.
    inr (refl, no_longest networks c.args.rows.now c.requires.rows are c.args.asked.now c.loop-end.end c.loop-end.invariant (omega (arith, c.loop-end-test.false)))
