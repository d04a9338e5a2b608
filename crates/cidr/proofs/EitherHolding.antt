-- Networks of either family, with the family bit in front.
use Rattle.std.proofs.Common.{◌≡◌, ◌≢◌, ◌↔◌, ℕ, ◌-◌, ◌≤◌, Bool, true, false, List, [], ◌∷◌, length, get_or, drop, refl, sym, ap, subst}
use Rattle.std.proofs.lemmas.Bool.{true≢false, false≢true}
use Rattle.std.proofs.lemmas.List.{take_at, length-replicate}
use Rattle.cidr.specs.either.IpNetwork.{IsAddressBits}
use Rattle.cidr.specs.model.Network.{zeros, first_of, BeginsWith, HasWidth, HoldsAll}
use Rattle.cidr.specs.laws.NetworkLaws.{length-first_of}

-- in one family the bit in front does not count
begins_front : (b c : Bool) (a p : List Bool) → BeginsWith (c ∷ a) (b ∷ p) → c ≡ b
begins_front b c a p h = ap (λ t. get_or t 0 b) h

pub begins_behind : (b : Bool) (a p : List Bool) → BeginsWith a p ↔ BeginsWith (b ∷ a) (b ∷ p)
begins_behind b a p = (ap (λ t. b ∷ t), ap (drop 1))

-- an address of the family that begins with a network
pub in_family : (b : Bool) (p a : List Bool) → IsAddressBits a → BeginsWith a (b ∷ p) → (rest : List Bool) × (a ≡ b ∷ rest) × BeginsWith rest p
in_family b p [] bits h = absurd bits
in_family b p (c ∷ a) bits h = (a, ap (λ x. x ∷ a) (begins_front b c a p h), ap (drop 1) h)

module _ (b : Bool) (w : ℕ) (into : (a : List Bool) → length a ≡ w → IsAddressBits (b ∷ a)) (back : (a : List Bool) → IsAddressBits (b ∷ a) → length a ≡ w) where
  holds_behind : (p q : List Bool) → HoldsAll (HasWidth w) p q ↔ HoldsAll IsAddressBits (b ∷ p) (b ∷ q)
  unfolding HoldsAll
  holds_behind p q = (
    λ h a bits begins.
        let (rest, same, behind) = in_family b q a bits begins in
        subst (λ t. BeginsWith t (b ∷ p)) (sym same) (ap (λ t. b ∷ t) (h rest (back rest (subst IsAddressBits same bits)) behind)),
    λ h a width begins. ap (drop 1) (h (b ∷ a) (into a width) (ap (λ t. b ∷ t) begins)),
  )

  -- the first address of a network is not in one of the other family
  holds_apart : (c : Bool) (p q : List Bool) → b ≢ c → length q ≤ w → HoldsAll IsAddressBits (c ∷ p) (b ∷ q) ↔ ⊥
  unfolding HoldsAll
  holds_apart c p q other within = (
    λ h. other (begins_front c b (first_of w q) p (h (b ∷ first_of w q) (into (first_of w q) (length-first_of w q within)) (ap (λ t. b ∷ t) (take_at q (zeros (w - length q)) (length q) refl)))),
    λ h. absurd h,
  )

pub holds_ipv4 : (p q : List Bool) → HoldsAll (HasWidth 32) p q ↔ HoldsAll IsAddressBits (false ∷ p) (false ∷ q)
holds_ipv4 = holds_behind false 32 (λ a h. h) (λ a h. h)

pub holds_ipv6 : (p q : List Bool) → HoldsAll (HasWidth 128) p q ↔ HoldsAll IsAddressBits (true ∷ p) (true ∷ q)
holds_ipv6 = holds_behind true 128 (λ a h. h) (λ a h. h)

pub ipv4_apart : (p q : List Bool) → length q ≤ 32 → HoldsAll IsAddressBits (true ∷ p) (false ∷ q) ↔ ⊥
ipv4_apart p q = holds_apart false 32 (λ a h. h) (λ a h. h) true p q false≢true

pub ipv6_apart : (p q : List Bool) → length q ≤ 128 → HoldsAll IsAddressBits (false ∷ p) (true ∷ q) ↔ ⊥
ipv6_apart p q = holds_apart true 128 (λ a h. h) (λ a h. h) false p q true≢false

-- every address is in the network of no bits, and not in one of a family
pub holds_all : (q : List Bool) → HoldsAll IsAddressBits [] q ↔ Unit {0}
unfolding HoldsAll
holds_all q = (λ h. tt, λ h a bits begins. refl)

pub holds_not_all : (b : Bool) (p : List Bool) → HoldsAll IsAddressBits (b ∷ p) [] ↔ ⊥
unfolding HoldsAll
holds_not_all false p = (λ h. true≢false (begins_front false true (zeros 128) p (h (true ∷ zeros 128) (length-replicate 128 false) refl)), λ h. absurd h)
holds_not_all true p = (λ h. false≢true (begins_front true false (zeros 32) p (h (false ∷ zeros 32) (length-replicate 32 false) refl)), λ h. absurd h)

pub ruleset holding_laws = (begins_behind, holds_ipv4, holds_ipv6, ipv4_apart, ipv6_apart, holds_all, holds_not_all)
