use Rattle.std.proofs.Common.{◌≡◌, ◌∙◌, sym, arith, rules, true, false}
use Rattle.cidr_mmdb.proofs.Figures.{places_done, places_found, places_passed}
use Rattle.cidr_mmdb.proofs.numerals.shortest.Goals as goal

pub returns-then-is_near-clause-value : goal.returns-then-is_near-clause-value
returns-then-is_near-clause-value c =
    let yes : c.is_near.result ≡ true = search rules in
    places_found c.args.m c.args.unit c.loop-left.places c.loop-left.left c.nearest-digits.result c.ten-power.result (omega arith) c.ten-power.ensures.value c.nearest-digits.ensures
    (sym c.is_near.ensures ∙ yes)
    ∙ c.loop-left.invariant.same

pub loop-left-preserved : goal.loop-left-preserved
loop-left-preserved c =
    let no : c.is_near.result ≡ false = search rules in
    record {
      sum = omega arith;
      same = places_passed c.args.m c.args.unit c.loop-left.places c.loop-left.left c.ten-power.result (omega arith) c.ten-power.ensures.value (sym c.is_near.ensures ∙ no)
          ∙ c.loop-left.invariant.same;
    }

pub returns-clause-value : goal.returns-clause-value
returns-clause-value c = sym (places_done c.args.m c.args.unit c.loop-left.places c.loop-left.left (omega arith)) ∙ c.loop-left.invariant.same
