-- The walk over a network is a pool, and what is left of a pool is one.
use Rattle.std.proofs.Common.{◌≡◌, ℕ, ◌≤◌, Bool, List, [], ◌∷◌, length, Option, Some, None, MatchOption, IfSome, refl, ap, arith, suc, map, subst, sym, ◌∙◌, get_or, length-append}
use Rattle.std.proofs.lemmas.List.{length-replicate, get_or_default}
use Rattle.std.proofs.lemmas.Option.{slice_get-get_or}
use Rattle.std.specs.List.{All}
use Rattle.std.specs.declared.cmp.Ordering.TheVariants.{Less}
use Rattle.cidr.specs.model.Bits.{bit_cmp}
use Rattle.cidr.specs.model.Network.{BeginsWith, first_of, last_of}
use Rattle.cidr.specs.model.Walk.{walk_between, network_walk, network_hosts, hosts_of, addresses_of, HasExactly, IsAscending}
use Rattle.cidr.specs.declared.family.Family.{Family}
use Rattle.cidr.specs.declared.family.Family.TheVariants.{Ipv4}
use Rattle.cidr_uses.specs.AddressPool.{pool_of, IsPool, IsBelowAll}

ascending_rest : (a : List Bool) (rest : List (List Bool)) → IsAscending (a ∷ rest) → IsAscending rest
ascending_rest a rest ascends i j x y less at_i at_j = ascends (suc i) (suc j) x y (omega arith) at_i at_j

below_rest : (a : List Bool) (rest : List (List Bool)) → IsAscending (a ∷ rest) → IsBelowAll a rest
below_rest a rest ascends k d within = ascends 0 (suc k) a (get_or rest k d) (omega arith) refl (slice_get-get_or rest k d within)

all_rest : (P : List Bool → Type 0) (a : List Bool) (rest : List (List Bool)) → All P (a ∷ rest) → All P rest
all_rest P a rest all k d within = all (suc k) d (omega arith)

all_in_network : (p : List Bool) (walk : List (List Bool)) → HasExactly Ipv4 p walk → All (λ a. BeginsWith a p) walk
all_in_network p walk exactly k d within =
    let a = get_or walk k d in
    ((exactly a).0 (k, within, get_or_default walk k a d within)).1

-- the addresses of a walk, without their family and length
pub addresses_left : (family : Family) (len : ℕ) (walk : List (List Bool)) → map (λ (a : Family × List Bool). a.1) (addresses_of (hosts_of family len walk)) ≡ walk
addresses_left family len [] = refl
addresses_left family len (a ∷ walk) = ap (λ w. a ∷ w) (addresses_left family len walk)

pub is_pool : (p : List Bool) → length p ≤ 32 → HasExactly Ipv4 p (network_walk Ipv4 p)
    → ((w : ℕ) (first second : List Bool) → length first ≡ w → length second ≡ w → IsAscending (walk_between w first second))
    → IsPool (pool_of p (addresses_of (network_hosts Ipv4 p)))
is_pool p fits exactly ascends =
    let first : length (first_of 32 p) ≡ 32 = omega (arith, length-append {A = Bool}, length-replicate {A = Bool}) in
    let last : length (last_of 32 p) ≡ 32 = omega (arith, length-append {A = Bool}, length-replicate {A = Bool}) in
    rw (addresses_left Ipv4 (length p) (network_walk Ipv4 p)) (record {
      within = all_in_network p (network_walk Ipv4 p) exactly;
      ascending = ascends 32 (first_of 32 p) (last_of 32 p) first last;
    })

-- a call of `next` on the walk gave the first of what was left, or found nothing
abbrev pub Gives : List (Family × List Bool) → Option (List Bool) → List (Family × List Bool) → Type 0
Gives old r new = MatchOption r ((old ≡ []) × (new ≡ [])) (λ a. old ≡ (Ipv4, a) ∷ new)

pub pool_after : (p : List Bool) (old new : List (Family × List Bool)) (r : Option (List Bool)) → Gives old r new → IsPool (pool_of p old) → IsPool (pool_of p new)
pool_after p old new None gives pool = subst (λ left. IsPool (pool_of p left)) (gives.0 ∙ sym gives.1) pool
pool_after p old new (Some a) gives pool =
    let whole = rw gives at pool in
    record {
      within = all_rest (λ b. BeginsWith b p) a (pool_of p new).free whole.within;
      ascending = ascending_rest a (pool_of p new).free whole.ascending;
    }

pub given_once : (p : List Bool) (old new : List (Family × List Bool)) (r : Option (List Bool)) → Gives old r new → IsPool (pool_of p old) → IfSome r (λ a. IsBelowAll a (pool_of p new).free)
given_once p old new None gives pool = _
given_once p old new (Some a) gives pool =
    let whole = rw gives at pool in below_rest a (pool_of p new).free whole.ascending

pub above_given : (a b : List Bool) (free rest : List (List Bool)) → IsBelowAll a free → free ≡ b ∷ rest → bit_cmp a b ≡ Less
above_given a b free rest below first = (rw first at below) 0 b (omega arith)
