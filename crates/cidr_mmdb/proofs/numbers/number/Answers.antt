use Rattle.std.proofs.Common.{◌≡◌, ◌+◌, ◌*◌, ◌^◌, ◌-◌, ◌≤◌, ◌<◌, ◌∙◌, ap, arith, rules, slice_index}
use Rattle.cidr_mmdb.specs.Numbers.{number_at}
use Rattle.cidr_mmdb.proofs.Figures.{number_below, number_more, number_room}
use Rattle.cidr_mmdb.proofs.numbers.number.Goals as goal

pub overflow_mul-value : goal.overflow_mul-value
overflow_mul-value c =
    let room : (c.loop-left.value + 1) * 256 ≤ 2 ^ 128 = number_room c.loop-left.value c.loop-left.left c.args.count (omega arith) c.requires.few c.loop-left.invariant.below in
    search rules

pub overflow_add-value : goal.overflow_add-value
overflow_add-value c =
    let room : (c.loop-left.value + 1) * 256 ≤ 2 ^ 128 = number_room c.loop-left.value c.loop-left.left c.args.count (omega arith) c.requires.few c.loop-left.invariant.below in
    search rules

pub loop-left-preserved : goal.loop-left-preserved
loop-left-preserved c =
    let some : 0 < c.loop-left.left = omega arith in
    let byte : c.from.result ≡ slice_index c.args.bytes.now c.loop-left.place = search rules in
    record {
      place = omega arith;
      few = omega arith;
      below = number_below c.loop-left.value c.from.result c.loop-left.left c.args.count some (omega arith) c.loop-left.invariant.below;
      same = ap (λ b. (c.loop-left.value * 256 + b) * 256 ^ (c.loop-left.left - 1) + number_at c.args.bytes.now (c.loop-left.place + 1) (c.loop-left.left - 1)) byte
          ∙ number_more c.args.bytes.now c.loop-left.value c.loop-left.place c.loop-left.left some ∙ c.loop-left.invariant.same;
    }
