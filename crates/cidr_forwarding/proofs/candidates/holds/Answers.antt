use Rattle.std.proofs.Common.{◌≡◌, ◌∙◌, refl, Bool, true, false, cond, ◌||◌, List, [], ◌∷◌}
use Rattle.std.specs.List.{list_any}
use Rattle.std.specs.Option.{option_eq}
use Rattle.cidr_forwarding.specs.Choices.{is_listed}
use Rattle.cidr_forwarding.proofs.candidates.holds.Goals as goal

or_cond : (b c d : Bool) → c ≡ d → (b || c) ≡ cond b true d
or_cond true c d e = refl
or_cond false c d e = e

any_is_listed : {X : Type 0} (same : X → X → Bool) (xs : List X) (x : X) → list_any (λ y. same y x) xs ≡ is_listed same xs x
any_is_listed same [] x = refl
any_is_listed same (y ∷ ys) x = or_cond (same y x) (list_any (λ z. same z x) ys) (is_listed same ys x) (any_is_listed same ys x)

pub returns : goal.returns
returns g c = c.contains.ensures.value ∙ any_is_listed (option_eq g.V.PartialEq.eq) c.args.values.now c.args.wanted
