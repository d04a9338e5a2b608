-- Rules as C has them, and as the library has them.
use Rattle.std.proofs.Common.{◌≡◌, ◌↔◌, ℕ, List, drop, map, take, inl, inr, arith, ap, ◌∙◌, sym, subst}
use Rattle.std.proofs.lemmas.Simd.{map-map}
use Rattle.std.specs.List.{Contains}
use Rattle.std.specs.List.Sorted.{IsStrictlyIncreasing}
use Rattle.cidr.specs.either.IpNetwork.{any_bits}
use Rattle.cidr.specs.declared.cidr.any.AnyIpCidr.{AnyIpCidr}
use Rattle.cidr_sets.specs.declared.access.Rule.{Rule}
use Rattle.cidr_c.specs.calls.Batches.{AreIndexesSought, IsListPut}
use Rattle.cidr_c.specs.model.Rules.{rule_actions, rule_bits, rule_in}
use Rattle.cidr_c.specs.declared.rules.CRule.{CRule}

pub bits_of_rules : (rules : List CRule) (xs : List (Rule AnyIpCidr)) → xs ≡ map rule_in rules
    → map (λ (r : Rule AnyIpCidr). any_bits r.network) xs ≡ rule_bits rules
bits_of_rules rules xs e =
    ap (map (λ (r : Rule AnyIpCidr). any_bits r.network)) e ∙ map-map (λ (r : Rule AnyIpCidr). any_bits r.network) rule_in rules

pub actions_of_rules : (rules : List CRule) (xs : List (Rule AnyIpCidr)) → xs ≡ map rule_in rules
    → map (λ (r : Rule AnyIpCidr). r.action) xs ≡ rule_actions rules
actions_of_rules rules xs e =
    ap (map (λ (r : Rule AnyIpCidr). r.action)) e ∙ map-map (λ (r : Rule AnyIpCidr). r.action) rule_in rules

-- indexes of the library
pub indexes_sought : (IsTaken : Type 0) (Holds : ℕ → Type 0) (indexes old new : List ℕ) (count made code : ℕ) → IsTaken
    → ((i : ℕ) → Contains indexes i ↔ Holds i) → IsStrictlyIncreasing indexes → IsListPut indexes old new made code
    → AreIndexesSought IsTaken Holds old new count made code
indexes_sought IsTaken Holds indexes old new count made code fine exact ascending (is, inl done) =
    let there : take made new ≡ indexes = ap (λ (k : ℕ). take k new) is ∙ done.2 in
    record {
      taken = λ _. fine;
      fits = λ _. omega (arith, is, done.1);
      exact = λ _. subst (λ (l : List ℕ). (i : ℕ) → Contains l i ↔ Holds i) (sym there) exact;
      ascending = λ _. subst IsStrictlyIncreasing (sym there) ascending;
      behind = λ _. subst (λ (k : ℕ). drop k new ≡ drop k old) (sym is) done.3;
      value = λ z. absurd (omega (arith, z, done.0));
      room = λ z. absurd (omega (arith, z, done.0));
      codes = inl done.0;
      stays = λ other. absurd (other done.0);
      count_stays = λ other _. absurd (other done.0);
    }
indexes_sought IsTaken Holds indexes old new count made code fine exact ascending (is, inr short) =
    record {
      taken = λ z. absurd (omega (arith, z, short.0));
      fits = λ z. absurd (omega (arith, z, short.0));
      exact = λ z. absurd (omega (arith, z, short.0));
      ascending = λ z. absurd (omega (arith, z, short.0));
      behind = λ z. absurd (omega (arith, z, short.0));
      value = λ z. absurd (omega (arith, z, short.0));
      room = λ _. (fine, omega (arith, is, short.1), indexes, is, exact, ascending);
      codes = inr (inr (inl short.0));
      stays = λ _. short.2;
      count_stays = λ _ other. absurd (other short.0);
    }
