-- Access lists: of the rules that have a packet the first decides, and a packet that no rule has is denied. A packet is the
-- list of the numbers of its fields.
use Rattle.std.specs.Prelude.{◌≡◌, ◌≢◌, ℕ, ◌+◌, ◌*◌, ◌^◌, ◌<◌, ◌||◌, Bool, true, false, List, [], ◌∷◌, Option, Some, length, remove, position, if◌then◌else◌}
use Rattle.std.specs.List.{AllPairs}
use Rattle.cidr_rules.specs.declared.comparing.Difference.{Difference}
use Rattle.cidr_rules.specs.declared.regions.Region.{Region}
use Rattle.cidr_rules.specs.declared.rules.Action.{Action}
use Rattle.cidr_rules.specs.declared.rules.Action.TheVariants.{Permit, Deny}
use Rattle.cidr_rules.specs.declared.rules.Rule.{Rule}
use Rattle.cidr_rules.specs.Packets.{is_in, ranges_of}

-- whether packets of a rule are permitted
abbrev pub is_permit : Action → Bool
is_permit Permit = true
is_permit Deny = false

module _ {A : Type 0} (number : A → ℕ) where
  -- the index of the rule that decides the packet
  abbrev pub decided : List (Rule A) → List ℕ → Option ℕ
  decided rules x = position (λ r. is_in (ranges_of number r.region) x) rules

  unfoldable pub is_permitted : List (Rule A) → List ℕ → Bool
  is_permitted [] x = false
  is_permitted (r ∷ rules) x = if is_in (ranges_of number r.region) x then is_permit r.action else is_permitted rules x

  -- the rule at the index decides no packet
  abbrev pub IsShadowed : List (Rule A) → ℕ → Type 0
  IsShadowed rules i = (i < length rules) × ((x : List ℕ) → decided rules x ≢ Some i)

  -- without the rule at the index the same packets are permitted
  abbrev pub IsRedundant : List (Rule A) → ℕ → Type 0
  IsRedundant rules i = (i < length rules) × ((x : List ℕ) → is_permitted (remove rules i) x ≡ is_permitted rules x)

  -- there is a packet in the region, and the two rules decide all of them
  pub record IsDifference (rules others : List (Rule A)) (d : Difference A) : Type 0 where
    pub some : (x : List ℕ) × (is_in (ranges_of number d.region) x ≡ true)
    pub rule : (x : List ℕ) → is_in (ranges_of number d.region) x ≡ true → decided rules x ≡ d.rule
    pub other : (x : List ℕ) → is_in (ranges_of number d.region) x ≡ true → decided others x ≡ d.other

  -- no region has the packets of two regions of the same rules, and no others
  abbrev pub AreJoined : List (Difference A) → Type 0
  AreJoined out = AllPairs (λ d e. d.rule ≡ e.rule → d.other ≡ e.other → (r : Region A)
      → ¬ ((x : List ℕ) → is_in (ranges_of number r) x ≡ (is_in (ranges_of number d.region) x || is_in (ranges_of number e.region) x))) out

-- how many parts are looked at, at most, where n rules are in the way of a region: they begin or end at 2n places in each of
-- the five fields
unfoldable pub most_parts : ℕ → ℕ
most_parts n = (2 * n + 1) ^ 5
