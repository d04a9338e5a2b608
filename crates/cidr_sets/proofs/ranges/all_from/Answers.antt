use Rattle.std.proofs.Common.{◌-◌, get_or, false, refl, length, rules, ◌∙◌}
use borrow.Author.Tests.{tests}
use Rattle.std.specs.Bool.{beq}
use Rattle.std.proofs.lemmas.Iterator.{YieldsList-from_range}
use Rattle.std.proofs.lemmas.Iterator.Search.{all_from_yields_List}
use Rattle.std.proofs.lemmas.Option.{get_or_from_slice_get}
use Rattle.cidr_sets.proofs.Runs.{bits_are_all}
use Rattle.cidr_sets.proofs.ranges.all_from.Goals as goal

pub returns : goal.returns
returns g c =
    let p = g.C.BitString.bits c.args.network.now in
    all_from_yields_List (λ i. beq (get_or p i false) c.args.bit) _ _ c.all.result c.all.ensures.ran
    (YieldsList-from_range c.args.from (length p) (length p - c.args.from) (cc) refl) (λ x b q k. search (rules, tests, get_or_from_slice_get))
    ∙ bits_are_all c.args.bit p (length p - c.args.from) c.args.from refl
