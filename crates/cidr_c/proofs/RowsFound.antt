-- What the searches find in an array, by the bits of its networks, and what C is told of it.
use Rattle.std.proofs.Common.{◌≡◌, sym, ◌∙◌, ap, subst, arith, inl, inr, refl, ℕ, ◌<◌, ◌≤◌, List, length, get_or, map, take, drop, ◌++◌, ◌+◌, Option, Some, None}
use Rattle.std.specs.Prelude.{IfSome, MatchOption}
use Rattle.std.proofs.lemmas.List.{get_or-map, length-map, take_all, take_at}
use Rattle.cidr.specs.either.IpNetwork.{any_bits}
use Rattle.cidr.specs.laws.StringLaws.{any_determined}
use Rattle.cidr.specs.model.Bits.{bit_cmp}
use Rattle.cidr.specs.declared.cidr.any.AnyIpCidr.{AnyIpCidr}
use Rattle.cidr_table.specs.internal.Places.{IsAt}
use Rattle.cidr_table.specs.model.Prefixes.{IsLongestAt, IsLongestMatch}
use Rattle.cidr_table.proofs.Beginnings.{bits_exact}
use Rattle.cidr_rows.specs.Around.{AreCovering, AreCoveringPut, put_in}
use Rattle.cidr_c.specs.calls.Batches.{IsListPut}
use Rattle.cidr_c.specs.calls.Rows.{AreCoveringFound, Ascend}
use Rattle.cidr_c.specs.model.Values.{IsNetworkValue, network_in}
use Rattle.cidr_c.specs.declared.values.CValue.{CValue}

-- equal bits are those of the same network
pub found_here : (networks : List CValue) (n m : AnyIpCidr) (i : ℕ) → n ≡ m
    → IsAt bit_cmp (map any_bits (map network_in networks)) (any_bits n) (length (map network_in networks)) i
    → get_or (map network_in networks) i m ≡ m
found_here networks n m i e h =
    let keys = map network_in networks in
    let exact : get_or (map any_bits keys) i (any_bits n) ≡ any_bits n = bits_exact (get_or (map any_bits keys) i (any_bits n)) (any_bits n) h.equal in
    let there : get_or (map any_bits keys) i (any_bits n) ≡ any_bits (get_or keys i n) = get_or-map any_bits keys i n (any_bits n) h.within in
    subst (λ (x : AnyIpCidr). get_or keys i x ≡ x) e (any_determined (get_or keys i n) n (sym there ∙ exact))

pub longest_told : (networks : List CValue) (IsReady : Type 0) (n : AnyIpCidr) (r : Option ℕ)
    → IfSome r (λ i. i < length (map network_in networks))
    → (IsReady → IsLongestMatch any_bits (any_bits n) (map network_in networks) r)
    → MatchOption r (IsReady → IsLongestMatch any_bits (any_bits n) (map network_in networks) None)
    (λ i. (i < length networks) × (IsReady → IsLongestAt any_bits (any_bits n) (map network_in networks) i))
longest_told networks IsReady n (Some i) within told = (omega (arith, within, length-map networks network_in), told)
longest_told networks IsReady n None within told = told

-- what a room with enough places has at its front
front : (indexes room : List ℕ) → length indexes ≤ length room → take (length indexes) (put_in indexes room) ≡ indexes
front indexes room fits =
    ap (λ (l : List ℕ). take (length indexes) (l ++ drop (length indexes) room)) (take_all (length room) indexes fits)
    ∙ take_at indexes (drop (length indexes) room) (length indexes) refl

pub covering_told : (networks : List CValue) (asked : CValue) (n : AnyIpCidr) → IsNetworkValue asked → n ≡ network_in asked
    → (room filled : List ℕ) (size : ℕ) → length (any_bits n) + 1 ≤ length room
    → AreCoveringPut any_bits (any_bits n) (map network_in networks) room filled size
    → (old new : List ℕ) (count count_new code : ℕ) → IsListPut (take size filled) old new count_new code
    → AreCoveringFound networks asked old new count count_new code
covering_told networks asked n is same room filled size enough h old new count count_new code put =
    let listed : take size filled ≡ h.indexes =
    ap (λ (l : List ℕ). take size l) h.put ∙ (ap (λ k. take k (put_in h.indexes room)) h.counted ∙ front h.indexes room (omega (arith, h.most))) in
    let told : IsListPut h.indexes old new count_new code = subst (λ (l : List ℕ). IsListPut l old new count_new code) listed put in
    let exact : Ascend networks → AreCovering any_bits (any_bits (network_in asked)) (map network_in networks) h.indexes =
    λ s. subst (λ (m : AnyIpCidr). AreCovering any_bits (any_bits m) (map network_in networks) h.indexes) same (h.covering s) in
    elim told.1 [
      | inl ok ↦
          let there : take count_new new ≡ h.indexes = ap (λ k. take k new) told.0 ∙ ok.2 in
          record {
            taken = λ _. (is, omega (arith, told.0, ok.1));
            within = λ _. rw (there, sym (length-map networks network_in)) h.within;
            exact = λ _ s. rw there (exact s);
            behind = λ _. ap (λ k. drop k new) told.0 ∙ (ok.3 ∙ ap (λ k. drop k old) (sym told.0));
            room = λ e. absurd (omega (arith, e, ok.0));
            refused = λ e. absurd (omega (arith, e, ok.0));
            codes = inl ok.0;
            stays = λ e. absurd (e ok.0);
          }
      | inr few ↦ record {
        taken = λ e. absurd (omega (arith, e, few.0));
        within = λ e. absurd (omega (arith, e, few.0));
        exact = λ e. absurd (omega (arith, e, few.0));
        behind = λ e. absurd (omega (arith, e, few.0));
        room = λ _. (is, omega (arith, told.0, few.1), λ s. (h.indexes, told.0, exact s));
        refused = λ e. absurd (omega (arith, e, few.0));
        codes = inr (inl few.0);
        stays = λ _. few.2;
      }
    ]
