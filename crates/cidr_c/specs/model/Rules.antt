-- Access lists, whose definitions are in `Rattle.cidr_sets.specs.model.FirstRules`.
use Rattle.std.specs.Prelude.{ℕ, ◌==◌, if◌then◌else◌, Bool, List, All, map}
use Rattle.cidr.specs.either.IpNetwork.{any_bits}
use Rattle.cidr.specs.declared.cidr.any.AnyIpCidr.{AnyIpCidr}
use Rattle.cidr_sets.specs.model.FirstRules.{IsDeciding, IsShadowed}
use Rattle.cidr_sets.specs.declared.access.Action.{Action}
use Rattle.cidr_sets.specs.declared.access.Action.TheVariants.{Deny, Permit}
use Rattle.cidr_sets.specs.declared.access.Rule.{Rule}
use Rattle.cidr_c.specs.calls.Batches.{AreIndexesSought}
use Rattle.cidr_c.specs.model.Values.{IsNetworkValue, network_in}
use Rattle.cidr_c.specs.declared.rules.CRule.{CRule}
use Rattle.cidr_c.specs.declared.values.CValue.{CValue}

-- each rule is for a network
abbrev pub AreRules : List CRule → Type 0
AreRules rules = All (λ r. IsNetworkValue r.network) rules

-- the networks of the rules, by their bits
abbrev pub rule_bits : List CRule → List (List Bool)
rule_bits rules = map (λ r. any_bits (network_in r.network)) rules

-- what a rule does: 1 permits, and any other number denies
abbrev pub action_in : CRule → Action
action_in r = if r.action == 1 then Permit else Deny

abbrev pub rule_actions : List CRule → List Action
rule_actions rules = map action_in rules

-- the rules that no address reaches
abbrev pub AreShadowedPut : List CRule → List ℕ → List ℕ → ℕ → ℕ → ℕ → Type 0
AreShadowedPut rules = AreIndexesSought (AreRules rules) (IsShadowed 129 (rule_bits rules))

-- the rules that decide the addresses of a network
abbrev pub AreDecidingPut : List CRule → CValue → List ℕ → List ℕ → ℕ → ℕ → ℕ → Type 0
AreDecidingPut rules network =
    AreIndexesSought (AreRules rules × IsNetworkValue network) (IsDeciding 129 (rule_bits rules) (any_bits (network_in network)))

-- ---- what private functions promise each other
-- a rule of the library
abbrev pub rule_in : CRule → Rule AnyIpCidr
rule_in r = record { action = action_in r; network = network_in r.network }
