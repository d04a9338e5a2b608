use Rattle.std.proofs.Common.{◌≡◌, ◌^◌, ◌-◌, ◌/◌, ◌%◌, ◌<◌, ◌++◌, ◌∷◌, [], sym, ◌∙◌, ap, arith, rules}
use Rattle.std.specs.Char.{digit_char}
use Rattle.cidr_mmdb.specs.Numerals.{digits_of}
use Rattle.cidr_mmdb.proofs.Figures.{digits_done, digits_more, unit_above, unit_less}
use Rattle.cidr_mmdb.proofs.numerals.push_digits.Goals as goal

pub nonzero_div-n : goal.nonzero_div-n
nonzero_div-n c =
    let base = c.from-base.result in
    let positive : 0 < base = omega (arith, c.from-base.ensures) in
    let unit : c.loop-left.unit / base ≡ base ^ (c.loop-left.left - 1) = ap (λ u. u / base) c.loop-left.invariant.unit ∙ unit_less base c.loop-left.left positive (omega arith) in
    omega (arith, unit_above base (c.loop-left.left - 1) positive)

pub loop-left-preserved : goal.loop-left-preserved
loop-left-preserved c =
    let base = c.from-base.result in
    let positive : 0 < base = omega (arith, c.from-base.ensures) in
    let some : 0 < c.loop-left.left = omega arith in
    let unit : c.loop-left.unit / base ≡ base ^ (c.loop-left.left - 1) = ap (λ u. u / base) c.loop-left.invariant.unit ∙ unit_less base c.loop-left.left positive some in
    let written : c.push.new.self.items ≡ c.loop-left.out.items ++ digit_char (c.args.n / (c.loop-left.unit / base) % base) ∷ [] = search rules in
    record {
      unit = unit;
      same = ap (λ xs. xs ++ digits_of base (c.loop-left.left - 1) c.args.n) written
          ∙ ap (λ u. (c.loop-left.out.items ++ digit_char (c.args.n / u % base) ∷ []) ++ digits_of base (c.loop-left.left - 1) c.args.n) unit
          ∙ digits_more c.loop-left.out.items base c.args.n c.loop-left.left some ∙ c.loop-left.invariant.same;
    }

pub returns : goal.returns
returns c =
    sym (digits_done c.loop-left.out.items c.from-base.result c.args.n c.loop-left.left (omega arith)) ∙ c.loop-left.invariant.same
    ∙ ap (λ b. c.args.out.now.items ++ digits_of b c.args.count c.args.n) c.from-base.ensures
