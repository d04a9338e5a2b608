-- Where two tables differ, by the numbers of their values: what private functions promise.
use Rattle.std.specs.Prelude.{◌≡◌, ◌≢◌, ℕ, Bool, List, [], map, Option, option_map}
use Rattle.cidr.specs.model.Network.{HasWidth}
use Rattle.cidr_forwarding.specs.Differences.{AreDifferences}
use Rattle.cidr_forwarding.specs.Forwarding.{AreNetworksOf, in_bits}
use Rattle.cidr.specs.declared.family.Family.{Family}
use Rattle.cidr.specs.declared.family.Family.TheVariants.{Ipv4, Ipv6}
use Rattle.netset_commands.specs.declared.commands.same.Differing.{Differing}
use Rattle.netset_commands.specs.declared.output.answers.Verdict.{Verdict}
use Rattle.netset_commands.specs.declared.output.answers.Verdict.TheVariants.{Yes, No}
use Rattle.netset_commands.specs.Numbers.{numbered, value_in}

-- the values of the numbers that two tables have for a network
abbrev pub named : List (List ℕ) → Option ℕ × Option ℕ → Option (List ℕ) × Option (List ℕ)
named values answers = (option_map (value_in values) answers.0, option_map (value_in values) answers.1)

abbrev pub named_row : {C : Type 0} → List (List ℕ) → C × (Option ℕ × Option ℕ) → C × (Option (List ℕ) × Option (List ℕ))
named_row values row = (row.0, named values row.1)

-- what was found of a family, with the values of the numbers
abbrev pub found : Differing → Family → List (List Bool × (Option (List ℕ) × Option (List ℕ)))
found differing Ipv4 = map (named_row differing.numbers) differing.v4.items
found differing Ipv6 = map (named_row differing.numbers) differing.v6.items

-- these are the networks for which the tables have different numbers, of w bits at most
abbrev pub AreFound : {C : Type 0} → (C → List Bool) → ℕ → List (List ℕ) → List (C × List ℕ) → List (C × List ℕ) → List (C × (Option ℕ × Option ℕ)) → Type 0
AreFound bits w values these those listed =
    AreDifferences (in_bits bits (numbered values these)) (in_bits bits (numbered values those)) (HasWidth w) (in_bits bits listed)
    × AreNetworksOf bits w listed

-- yes where there is no difference
abbrev pub AreAlike : (Family → List (List Bool × (Option (List ℕ) × Option (List ℕ)))) → Verdict → Type 0
AreAlike listed Yes = (family : Family) → listed family ≡ []
AreAlike listed No = (family : Family) × (listed family ≢ [])
