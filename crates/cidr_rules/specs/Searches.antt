-- What rules of two lists leave of a region: what private functions promise each other.
use Rattle.std.specs.Prelude.{◌≡◌, ◌⊎◌, ℕ, zero, suc, ◌+◌, ◌≤◌, ◌&&◌, ◌||◌, Bool, true, false, not, cond, List, [], ◌∷◌, All, Option, Some, None, count_by, length, take, nat_eq, nat_lt, if◌then◌else◌}
use Rattle.std.specs.List.{list_any, position_or_len}
use Rattle.cidr_rules.specs.declared.comparing.Difference.{Difference}
use Rattle.cidr_rules.specs.declared.fields.Range.{Range}
use Rattle.cidr_rules.specs.declared.regions.Region.{Region}
use Rattle.cidr_rules.specs.declared.rules.Rule.{Rule}
use Rattle.cidr_rules.specs.Packets.{is_in, ranges_of}
use Rattle.cidr_rules.specs.Parts.{AreAllFull, AreSeparate, all_cells, boxes_of, held, is_covered}
use Rattle.cidr_rules.specs.Lists.{AreJoined, IsDifference, is_permit, is_permitted, most_parts}

-- whether one of two lists permits, and the other doesn't
abbrev pub differ : Bool → Bool → Bool
differ true b = not b
differ false b = b

-- whether the rule at the index permits; behind the last, packets are denied
unfoldable pub permits_at : {A : Type 0} → List (Rule A) → ℕ → Bool
permits_at [] i = false
permits_at (r ∷ rules) zero = is_permit r.action
permits_at (r ∷ rules) (suc i) = permits_at rules i

-- the index, or `None` behind the last
abbrev pub index_at : {A : Type 0} → List (Rule A) → ℕ → Option ℕ
index_at rules i = if nat_lt i (length rules) then Some i else None

-- whether one pair of indices comes before another
abbrev pub comes_before : ℕ → ℕ → ℕ → ℕ → Bool
comes_before a b i j = nat_lt a i || (nat_eq a i && nat_lt b j)

module _ {A : Type 0} (number : A → ℕ) where
  -- whether a rule has the packet
  abbrev pub is_held : List (Rule A) → List ℕ → Bool
  is_held rules x = list_any (λ r. is_in (ranges_of number r.region) x) rules

  -- whether the rule at the index has the packet; behind the last, each is had
  unfoldable pub holds_at : List (Rule A) → ℕ → List ℕ → Bool
  holds_at [] i x = true
  holds_at (r ∷ rules) zero x = is_in (ranges_of number r.region) x
  holds_at (r ∷ rules) (suc i) x = holds_at rules i x

  -- whether the rule at the index is the first that has the packet; behind the last, whether none has it
  abbrev pub stops_at : List (Rule A) → ℕ → List ℕ → Bool
  stops_at rules i x = if is_held (take i rules) x then false else holds_at rules i x

  -- how many rules stand before the first that has the packet
  abbrev pub stop : List (Rule A) → List ℕ → ℕ
  stop rules x = position_or_len (λ r. is_in (ranges_of number r.region) x) rules

  -- the packets of two rules
  abbrev pub AreBoth : List (Rule A) → ℕ → List (Rule A) → ℕ → Option (List (Range ℕ)) → Type 0
  AreBoth rules i others j None = (x : List ℕ) → (holds_at rules i x && holds_at others j x) ≡ false
  AreBoth rules i others j (Some rs) = (x : List ℕ) → is_in rs x ≡ (holds_at rules i x && holds_at others j x)

  -- the packets of two rules of different actions
  abbrev pub AreDisputed : List (Rule A) → ℕ → List (Rule A) → ℕ → Option (List (Range ℕ)) → Type 0
  AreDisputed rules i others j None = (x : List ℕ) → holds_at rules i x ≡ true → holds_at others j x ≡ true → differ (permits_at rules i) (permits_at others j) ≡ false
  AreDisputed rules i others j (Some rs) = (differ (permits_at rules i) (permits_at others j) ≡ true)
      × ((x : List ℕ) → is_in rs x ≡ (holds_at rules i x && holds_at others j x))

  -- the packet is in the region, and no rule of two lists has it
  pub record IsFree (rs : List (Range ℕ)) (rules others : List (Rule A)) (x : List ℕ) : Type 0 where
    pub inside : is_in rs x ≡ true
    pub here : is_held rules x ≡ false
    pub there : is_held others x ≡ false

  -- what the holes leave of the parts is what the rules leave of the region
  pub record IsSearch (rs : List (Range ℕ)) (rules others : List (Rule A)) (parts holes : List (Region A)) : Type 0 where
    pub parts_full : AreAllFull (boxes_of number parts)
    pub holes_full : AreAllFull (boxes_of number holes)
    pub found : (x : List ℕ) → is_held rules x ≡ false → is_held others x ≡ false
        → (is_covered (boxes_of number holes) x ≡ false) × (held x (boxes_of number parts) ≡ cond (is_in rs x) 1 0)
    pub left : (x : List ℕ) → is_covered (boxes_of number holes) x ≡ false
        → (held x (boxes_of number parts) ≡ 0) ⊎ ((is_held rules x ≡ false) × (is_held others x ≡ false) × (is_in rs x ≡ true))
    pub few : all_cells (boxes_of number holes) (boxes_of number parts) ≤ most_parts (length rules + length others)

  -- the holes are the old ones and those of the rules that matter in the region
  pub record AreHoles (rs : List (Range ℕ)) (rules : List (Rule A)) (old new : List (Region A)) : Type 0 where
    pub full : AreAllFull (boxes_of number new)
    pub inside : (x : List ℕ) → is_in rs x ≡ true → is_covered (boxes_of number new) x ≡ (is_covered (boxes_of number old) x || is_held rules x)
    pub free : (x : List ℕ) → is_held rules x ≡ false → is_covered (boxes_of number new) x ≡ is_covered (boxes_of number old) x
    pub few : length new ≤ length old + length rules

  -- the boxes have the packets of the region that no rule of two lists has, each once
  pub record AreRests (rs : List (Range ℕ)) (rules others : List (Rule A)) (boxes : List (List (Range ℕ))) : Type 0 where
    pub separate : AreSeparate boxes
    pub all : (x : List ℕ) → IsFree rs rules others x → held x boxes ≡ 1
    pub only : (x : List ℕ) → (held x boxes ≡ 0) ⊎ IsFree rs rules others x

  -- the boxes have the packets that the rules at two indices decide, each once, if one permits and the other doesn't
  pub record AreOfPair (rules : List (Rule A)) (i : ℕ) (others : List (Rule A)) (j : ℕ) (boxes : List (List (Range ℕ))) : Type 0 where
    pub separate : AreSeparate boxes
    pub counts : (x : List ℕ) → held x boxes
        ≡ cond ((stops_at rules i x && stops_at others j x) && differ (permits_at rules i) (permits_at others j)) 1 0

  -- in how many of the differences the packet is
  abbrev pub told : List ℕ → List (Difference A) → ℕ
  told x out = count_by (λ d. is_in (ranges_of number d.region) x) out

  -- the differences of the packets that are decided before two indices
  pub record AreTold (rules others : List (Rule A)) (i j : ℕ) (out : List (Difference A)) : Type 0 where
    pub each : All (IsDifference number rules others) out
    pub once : (x : List ℕ) → told x out
        ≡ cond (comes_before (stop rules x) (stop others x) i j && differ (is_permitted number rules x) (is_permitted number others x)) 1 0
    pub joined : AreJoined number out
