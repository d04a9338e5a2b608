use Rattle.std.proofs.Common.{◌≡◌, ◌+◌, true, false, ◌&&◌, drop, sym, ap, ◌∙◌, arith, Some}
use Rattle.std.specs.List.{slice_get}
use Rattle.cidr_sets.specs.model.Ranges.{all_bits}
use Rattle.cidr_sets.proofs.Runs.{touches_none_first, touches_none_next, touches_shared}
use Rattle.cidr_sets.proofs.ranges.touches.Goals as goal
use Rattle.cidr_sets.proofs.ranges.touches.Goals.{then-shared-len-via-then-shared-len, then-shared-len-via-else-shared-len+then-shared-len-2}

pub returns-then-shared-len : goal.returns-then-shared-len
returns-then-shared-len g c =
    let p = g.C.BitString.bits c.args.network.now in
    let q = g.C.BitString.bits c.args.next.now in
    let n = c.shared_prefix_len-shared.result in
    let shared = c.shared_prefix_len-shared.ensures in
    elim c.then-shared-len.branch [
      | then-shared-len-via-then-shared-len w ↦
          sym (touches_none_first p q n shared (omega (arith, w.if-shared-len.true, c.len.ensures.value)))
      | then-shared-len-via-else-shared-len+then-shared-len-2 w ↦
          sym (touches_none_next p q n shared (omega (arith, w.if-shared-len-2.true, w.len-else-shared-len.ensures.value)))
    ]

pub returns-then-get : goal.returns-then-get
returns-then-get g c =
    let p = g.C.BitString.bits c.args.network.now in
    let q = g.C.BitString.bits c.args.next.now in
    let n = c.shared_prefix_len-shared.result in
    let there : slice_get p n ≡ Some true = c.get.ensures ∙ ap (λ x. Some x) c.if-get.true in
    sym (touches_shared p q n c.shared_prefix_len-shared.ensures true (omega (arith, c.if-shared-len.false, c.len.ensures.value))
    (omega (arith, c.if-shared-len-2.false, c.len-else-shared-len.ensures.value)) there)

pub returns-then-all_from : goal.returns-then-all_from
returns-then-all_from g c =
    let p = g.C.BitString.bits c.args.network.now in
    let q = g.C.BitString.bits c.args.next.now in
    let n = c.shared_prefix_len-shared.result in
    let there : slice_get p n ≡ Some false = c.get.ensures ∙ ap (λ x. Some x) c.if-get.false in
    let told = touches_shared p q n c.shared_prefix_len-shared.ensures false (omega (arith, c.if-shared-len.false, c.len.ensures.value))
    (omega (arith, c.if-shared-len-2.false, c.len-else-shared-len.ensures.value)) there in
    let high : all_bits true (drop (n + 1) p) ≡ true = sym c.all_from.ensures ∙ c.if-all_from.true in
    c.all_from-then-all_from.ensures ∙ ap (λ x. x && all_bits false (drop (n + 1) q)) (sym high) ∙ sym told

pub returns-else-all_from : goal.returns-else-all_from
returns-else-all_from g c =
    let p = g.C.BitString.bits c.args.network.now in
    let q = g.C.BitString.bits c.args.next.now in
    let n = c.shared_prefix_len-shared.result in
    let there : slice_get p n ≡ Some false = c.get.ensures ∙ ap (λ x. Some x) c.if-get.false in
    let told = touches_shared p q n c.shared_prefix_len-shared.ensures false (omega (arith, c.if-shared-len.false, c.len.ensures.value))
    (omega (arith, c.if-shared-len-2.false, c.len-else-shared-len.ensures.value)) there in
    let high : all_bits true (drop (n + 1) p) ≡ false = sym c.all_from.ensures ∙ c.if-all_from.false in
    c.if-all_from.false ∙ ap (λ x. x && all_bits false (drop (n + 1) q)) (sym high) ∙ sym told
