-- Sets put together, one step after the other.
use Rattle.std.proofs.Common.{◌≡◌, ◌↔◌, refl, sym, ◌∙◌, ap, subst, inl, inr, ℕ, ◌+◌, ◌<◌, ◌≤◌, List, Bool, [], ◌∷◌, ◌++◌, length, take, get_or, map, Option, ◌^◌, Some, None, MatchOption, IsTrue, Decides, unwrap_or}
use Rattle.std.proofs.lemmas.List.{take_more, take_all, map-id}
use Rattle.std.specs.Option.{option_map}
use Rattle.cidr.specs.model.Network.{BeginsWith, FitsWidth}
use Rattle.cidr.specs.declared.cidr.combined.IpCidr.{IpCidr}
use Rattle.cidr.specs.declared.family.Family.{Family}
use Rattle.cidr.specs.declared.family.Family.TheVariants.{Ipv4, Ipv6}
use Rattle.cidr_table.specs.model.Cover.{Covers, IsReduced, IsFull}
use Rattle.cidr_sets.specs.model.Counts.{HaveCount}
use Rattle.cidr_sets.specs.model.Sets.{IsComplement, IsSetOf}
use Rattle.cidr_lists.specs.Sets.{Combined, Steps, IsInSets, networks_of}
use Rattle.cidr_lists.specs.Lists.{line_networks}
use Rattle.cidr_lists.specs.Reading.{Grows, listed}
use Rattle.cidr_lists.specs.declared.lists.Lists.{Lists as Networks}
use Rattle.cidr_lists.specs.declared.sets.Step.{Step}
use Rattle.cidr_lists.specs.declared.sets.Step.TheVariants.{Union, Difference, Intersection}
use Rattle.cidr_lists.specs.declared.sets.Sets.{Sets}
use Rattle.cidr_sets.specs.model.Pools.{IsFirstFree}

-- ---- either way
pub same : (P : Type 0) → P ↔ P
same P = (λ p. p, λ p. p)

pub chained : (P Q R : Type 0) → (P ↔ Q) → (Q ↔ R) → P ↔ R
chained P Q R f g = (λ p. g.0 (f.0 p), λ r. f.1 (g.1 r))

pub steps_same : (step : Step) (P Q A B : Type 0) → (P ↔ Q) → (A ↔ B) → Steps step P A ↔ Steps step Q B
steps_same Union P Q A B f g = (elim [ inl p ↦ inl (f.0 p) | inr a ↦ inr (g.0 a) ], elim [ inl q ↦ inl (f.1 q) | inr b ↦ inr (g.1 b) ])
steps_same Difference P Q A B f g = (λ h. (f.0 h.0, λ b. h.1 (g.1 b)), λ h. (f.1 h.0, λ a. h.1 (g.0 a)))
steps_same Intersection P Q A B f g = (λ h. (f.0 h.0, g.0 h.1), λ h. (f.1 h.0, g.1 h.1))

-- a set by another word
pub set_same : (P Q : List Bool → Type 0) (networks : List (List Bool)) → IsSetOf 129 P networks → ((a : List Bool) → length a ≡ 129 → P a ↔ Q a)
    → IsSetOf 129 Q networks
set_same P Q networks set f = record {
  reduced = set.reduced;
  exact = λ a wide. chained _ (P a) (Q a) (set.exact a wide) (f a wide);
}

-- the list of one network as a set
pub network_set : (old new : Networks) (network : IpCidr) (sets : Sets) → old.v4.items ≡ [] → old.v6.items ≡ []
    → Grows old new (λ family. line_networks family (network ∷ [])) → ((family : Family) → IsSetOf 129 (Covers (listed new family)) (networks_of sets family))
    → (family : Family) → IsSetOf 129 (Covers (line_networks family (network ∷ []))) (networks_of sets family)
network_set old new network sets four six grows set family =
    let none : (family : Family) → listed old family ≡ [] = elim [ Ipv4 ↦ four | Ipv6 ↦ six ] in
    subst (λ (k : List (List Bool)). IsSetOf 129 (Covers k) (networks_of sets family))
    (grows family ∙ ap (λ (k : List (List Bool)). k ++ line_networks family (network ∷ [])) (none family)) (set family)

-- how many addresses a set has: all of IPv6 has more than a `u128` has room for
pub have_count : (width : ℕ) (networks : List (List Bool)) (count : Option ℕ)
    → MatchOption count (HaveCount width (map (λ (x : List Bool). x) networks) (2 ^ 128)) (HaveCount width (map (λ (x : List Bool). x) networks))
    → HaveCount width networks (unwrap_or count (2 ^ 128))
have_count width networks None h = rw (map-id networks) at h
have_count width networks (Some count) h = rw (map-id networks) at h

-- ---- one set after the other
combined_more : (step : Step) (P : Type 0) (xs : List Sets) (x : Sets) (family : Family) (a : List Bool)
    → Steps step (Combined IsInSets step P xs family a) (IsInSets x family a) ↔ Combined IsInSets step P (xs ++ x ∷ []) family a
combined_more step P [] x family a = same _
combined_more step P (y ∷ xs) x family a = combined_more step (Steps step P (IsInSets y family a)) xs x family a

-- so far
abbrev pub IsCombined : Step → Sets → List Sets → Sets → Type 0
IsCombined step first others all = (family : Family) → IsSetOf 129 (λ a. Combined IsInSets step (IsInSets first family a) others family a) (networks_of all family)

pub first_only : (step : Step) (first : Sets) → ((family : Family) → IsReduced 129 (networks_of first family)) → IsCombined step first [] first
first_only step first reduced family = record { reduced = reduced family; exact = λ a wide. same (IsInSets first family a) }

pub one_more : (step : Step) (first : Sets) (others : List Sets) (i : ℕ) (other all new : Sets) → i < length others → other ≡ get_or others i other
    → IsCombined step first (take i others) all
    → ((family : Family) → IsSetOf 129 (λ a. Steps step (IsInSets all family a) (IsInSets other family a)) (networks_of new family))
    → IsCombined step first (take (i + 1) others) new
one_more step first others i other all new within is before stepped =
    let behind : IsCombined step first (take i others ++ other ∷ []) new = λ family.
    set_same _ _ (networks_of new family) (stepped family) (λ a wide.
    chained _ _ _ (steps_same step _ _ (IsInSets other family a) _ ((before family).exact a wide) (same (IsInSets other family a)))
    (combined_more step (IsInSets first family a) (take i others) other family a)) in
    let P : List Sets → Type 0 = λ k. IsCombined step first k new in
    subst P (sym (take_more others i other within ∙ ap (λ (k : Sets). take i others ++ k ∷ []) (sym is))) behind

pub all_steps : (step : Step) (first : Sets) (others : List Sets) (i : ℕ) (all : Sets) → length others ≤ i → IsCombined step first (take i others) all
    → IsCombined step first others all
all_steps step first others i all past h = let P : List Sets → Type 0 = λ k. IsCombined step first k all in subst P (take_all i others past) h

-- ---- networks whose bits are themselves
pub step_plain : (step : Step) (these those set : List (List Bool))
    → IsSetOf 129 (λ a. Steps step (Covers (map (λ (x : List Bool). x) these) a) (Covers (map (λ (x : List Bool). x) those) a)) (map (λ (x : List Bool). x) set)
    → IsSetOf 129 (λ a. Steps step (Covers these a) (Covers those a)) set
step_plain step these those set h = rw (map-id these, map-id those, map-id set) at h

pub complement_plain : (p : List Bool) (networks set : List (List Bool)) → p ≡ []
    → IsComplement 129 p (map (λ (x : List Bool). x) networks) (map (λ (x : List Bool). x) set) → IsSetOf 129 (λ a. ¬ (Covers networks a)) set
complement_plain p networks set e h =
    let plain : IsSetOf 129 (λ a. BeginsWith a [] × ¬ (Covers networks a)) set = rw (e, map-id networks, map-id set) at h in
    let begins : (a : List Bool) → BeginsWith a [] = λ a. refl in
    set_same _ _ set plain (λ a wide. (λ k. k.1, λ k. (begins a, k)))

-- networks whose bits are themselves
pub plain_free : (width : ℕ) (networks : List (List Bool)) (n : ℕ) (p : Option (List Bool))
    → IsFirstFree (FitsWidth width) (map (λ (x : List Bool). x) networks) n (option_map (λ (x : List Bool). x) p) → IsFirstFree (FitsWidth width) networks n p
plain_free width networks n None h = rw (map-id networks) at h
plain_free width networks n (Some p) h = rw (map-id networks) at h

-- ---- which lines are picked
pub within_is : (networks : List (List Bool)) (p : List Bool) (b : Bool) → (IsTrue b ↔ IsFull 129 (map (λ (x : List Bool). x) networks) p)
    → Decides b ((a : List Bool) → length a ≡ 129 → BeginsWith a p → Covers networks a)
within_is networks p b h = rw (map-id networks) at h
