use Rattle.std.proofs.Common.{◌≡◌, ℕ, cond, All, List, [], ◌∷◌, length, refl, sym, ◌∙◌, ap, arith}
use Rattle.std.specs.List.{count_by}
use Rattle.std.proofs.lemmas.Bool.{eq-eqb}
use Rattle.std.proofs.lemmas.List.Elements.{All-head}
use Rattle.std.proofs.lemmas.List.Sums.{sum_by-cons}
use Rattle.cidr_rules.specs.declared.comparing.Difference.{Difference}
use Rattle.cidr_rules.specs.declared.rules.Rule.{Rule}
use Rattle.cidr_rules.specs.Packets.{is_in, ranges_of}
use Rattle.cidr_rules.specs.Lists.{IsDifference, is_permitted}
use Rattle.cidr_uses.proofs.filter_rules.is_nothing_told_of_pruning.Goals as goal

-- nothing is told of lists that permit the same
none_told : {A : Type 0} (number : A → ℕ) (rules others : List (Rule A)) (out : List (Difference A)) → All (IsDifference number rules others) out
    → ((x : List ℕ) → is_permitted number rules x ≡ is_permitted number others x → count_by (λ d. is_in (ranges_of number d.region) x) out ≡ 0)
    → ((x : List ℕ) → is_permitted number others x ≡ is_permitted number rules x) → length out ≡ 0
none_told number rules others [] each none same = refl
none_told {A} number rules others (d ∷ out) each none same =
    let is = All-head (IsDifference number rules others) d out each in
    let x = is.some.0 in
    let one : cond {A = ℕ} (is_in (ranges_of number d.region) x) 1 0 ≡ 1 = ap (λ b. cond {A = ℕ} b 1 0) is.some.1 in
    absurd (omega (arith, one, none x (sym (same x)), sum_by-cons (λ (q : Difference A). cond {A = ℕ} (is_in (ranges_of number q.region) x) 1 0) d out))

pub returns : goal.returns
returns g c =
    let n = g.A.FieldValue.number in
    let none = none_told n c.args.rules.now c.as_slice.result.now c.in_ok-told.told.items c.in_ok-told.ensures.told c.in_ok-told.ensures.no_other
    (λ x. ap (λ (l : List (Rule g.row.A.Denot)). is_permitted n l x) c.as_slice.ensures.value ∙ c.in_ok-left.ensures.same x) in
    c.is_empty.ensures ∙ eq-eqb (length c.as_slice-2.result.now) 0 (ap length c.as_slice-2.ensures.value ∙ none)
