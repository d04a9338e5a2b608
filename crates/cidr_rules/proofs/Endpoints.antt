-- The addresses of a network by their numbers, and the packets of an entry by theirs.
use Rattle.std.proofs.Common.{◌≡◌, ◌↔◌, ℕ, ◌<◌, ◌≤◌, ◌^◌, Bool, true, List, [], ◌∷◌, length, refl, sym, ◌∙◌, ap, arith}
use Rattle.std.proofs.lemmas.Bool.{and_from, and_parts, leb-true, le-leb}
use Rattle.cidr.specs.model.Bits.{number}
use Rattle.cidr.specs.model.Network.{BeginsWith, first_of, last_of}
use Rattle.cidr.specs.laws.BitLaws.{number-bits, number-lt}
use Rattle.cidr.proofs.NetworkWalks.{IsPair-network, between, network_walk-exact, stands_between}
use Rattle.cidr_rules.specs.declared.fields.Range.{Range}
use Rattle.cidr_rules.specs.declared.entries.Entry.{Entry}
use Rattle.cidr_rules.specs.declared.entries.Traffic.{Traffic}
use Rattle.cidr_rules.specs.declared.entries.Traffic.TheVariants.{Any, Protocol, Ports}
use Rattle.cidr_rules.specs.declared.rules.Rule.{Rule}
use Rattle.cidr_rules.specs.Entries.{IsOfTraffic, IsPortless, IsRuleOf, only, protocol_number, protocols_of, sources_of, targets_of}
use Rattle.cidr_rules.specs.Packets.{is_between, is_in, range_of, ranges_of}
use Rattle.cidr_rules.proofs.Boxes.{same_tests}

module _ (w : ℕ) (p a : List Bool) (short : length p ≤ w) (size : length a ≡ w) where
  fits : number (last_of w p) < 2 ^ w
  fits = rw (IsPair-network w p short).second_width at (number-lt (last_of w p))

  begins_from : number (first_of w p) ≤ number a → number a ≤ number (last_of w p) → BeginsWith a p
  begins_from low high = ((network_walk-exact w p a short).0 (stands_between w (first_of w p) (last_of w p) a size low high)).1

  ends_around : BeginsWith a p → (number (first_of w p) ≤ number a) × (number a ≤ number (last_of w p))
  ends_around begins =
      let (n, same, low, high) = between w (first_of w p) (last_of w p) a ((network_walk-exact w p a short).1 (size, begins)) in
      let value : number a ≡ n = ap number same ∙ number-bits w n (omega (arith, high, fits)) in
      (omega (arith, value, low), omega (arith, value, high))

  -- an address is between the ends of a network exactly if it begins with its bits
  pub in_network : (r : Range ℕ) → r.first ≡ number (first_of w p) → r.last ≡ number (last_of w p) → (is_between r (number a) ≡ true) ↔ BeginsWith a p
  in_network r ef el = (
    λ e.
        let lo : r.first ≤ number a = leb-true _ _ (and_parts _ _ e).0 in
        let hi : number a ≤ r.last = leb-true _ _ (and_parts _ _ e).1 in
        begins_from (omega (arith, lo, ef)) (omega (arith, hi, el)),
    λ b.
        let two = ends_around b in
        and_from _ _ (le-leb r.first (number a) (omega (arith, two.0, ef))) (le-leb (number a) r.last (omega (arith, two.1, el))),
  )

-- the five fields
pub five : (a b c d e : Range ℕ) (x y z u v : ℕ) → (is_in (a ∷ b ∷ c ∷ d ∷ e ∷ []) (x ∷ y ∷ z ∷ u ∷ v ∷ []) ≡ true)
    ↔ ((is_between a x ≡ true) × (is_between b y ≡ true) × (is_between c z ≡ true) × (is_between d u ≡ true) × (is_between e v ≡ true))
unfolding is_in
five a b c d e x y z u v = (
  λ i.
      let one = and_parts _ _ i in
      let two = and_parts _ _ one.1 in
      let three = and_parts _ _ two.1 in
      let four = and_parts _ _ three.1 in
      (one.0, two.0, three.0, four.0, (and_parts _ _ four.1).0),
  λ k. and_from _ _ k.0 (and_from _ _ k.1 (and_from _ _ k.2 (and_from _ _ k.3 (and_from _ _ k.4 refl)))),
)

whole : (n last : ℕ) → n ≤ last → is_between (record { first = 0; last = last }) n ≡ true
whole n last le = and_from _ _ (le-leb 0 n (omega arith)) (le-leb n last le)

one : (n p : ℕ) → (is_between (only n) p ≡ true) ↔ (p ≡ n)
one n p = (
  λ e. let lo : n ≤ p = leb-true _ _ (and_parts _ _ e).0 in let hi : p ≤ n = leb-true _ _ (and_parts _ _ e).1 in omega arith,
  λ e. and_from _ _ (le-leb n p (omega (arith, e))) (le-leb p n (omega (arith, e))),
)

-- protocol and ports are in the ranges of an entry exactly if it is about them
pub traffic_in : (t : Traffic) (p from to : ℕ) → p < 2 ^ 8 → from < 2 ^ 16 → to < 2 ^ 16
    → ((is_between (protocols_of t) p ≡ true) × (is_between (sources_of t) from ≡ true) × (is_between (targets_of t) to ≡ true)) ↔ IsOfTraffic t p from to
traffic_in Any p from to lp lf lt = (λ _. tt, λ _. (whole p 255 (omega arith), whole from 65535 (omega arith), whole to 65535 (omega arith)))
traffic_in (Protocol n) p from to lp lf lt = (λ k. (one n p).0 k.0, λ e. ((one n p).1 e, whole from 65535 (omega arith), whole to 65535 (omega arith)))
traffic_in (Ports t s d) p from to lp lf lt = (λ k. ((one (protocol_number t) p).0 k.0, k.1, k.2), λ k. ((one (protocol_number t) p).1 k.0, k.1, k.2))

-- the numbers in the place of ports
portless : (t : Traffic) (p from to from' to' : ℕ) → IsPortless p → IsOfTraffic t p from to → IsOfTraffic t p from' to'
portless Any p from to from' to' none k = tt
portless (Protocol n) p from to from' to' none k = k
portless (Ports t sources targets) p from to from' to' none k = absurd (none t k.0)

module _ {C V : Type 0} (w : ℕ) (network_bits : C → List Bool) (value : V → ℕ) (entry : Entry C) (rule : Rule V) (action : rule.action ≡ entry.action)
    (source : (a : List Bool) → length a ≡ w → (is_between (range_of value rule.region.source) (number a) ≡ true) ↔ BeginsWith a (network_bits entry.source))
    (target : (a : List Bool) → length a ≡ w → (is_between (range_of value rule.region.destination) (number a) ≡ true) ↔ BeginsWith a (network_bits entry.destination))
    (ep : rule.region.protocol ≡ protocols_of entry.traffic) (es : rule.region.source_port ≡ sources_of entry.traffic) (et : rule.region.destination_port ≡ targets_of entry.traffic) where
  packets : (s d : List Bool) (p from to : ℕ) → length s ≡ w → length d ≡ w → p < 2 ^ 8 → from < 2 ^ 16 → to < 2 ^ 16
      → (is_in (ranges_of value rule.region) (number s ∷ number d ∷ p ∷ from ∷ to ∷ []) ≡ true)
      ↔ (BeginsWith s (network_bits entry.source) × BeginsWith d (network_bits entry.destination) × IsOfTraffic entry.traffic p from to)
  packets s d p from to ls ld lp lf lt =
      let f = five (range_of value rule.region.source) (range_of value rule.region.destination) rule.region.protocol rule.region.source_port rule.region.destination_port
      (number s) (number d) p from to in
      let t = traffic_in entry.traffic p from to lp lf lt in (
        λ i.
            let k = f.0 i in (
              (source s ls).0 k.0,
              (target d ld).0 k.1,
              t.0 (ap (λ r. is_between r p) (sym ep) ∙ k.2, ap (λ r. is_between r from) (sym es) ∙ k.3, ap (λ r. is_between r to) (sym et) ∙ k.4),
            ),
        λ k.
            let m = t.1 k.2 in
            f.1 (
              (source s ls).1 k.0,
              (target d ld).1 k.1,
              ap (λ r. is_between r p) ep ∙ m.0,
              ap (λ r. is_between r from) es ∙ m.1,
              ap (λ r. is_between r to) et ∙ m.2,
            ),
      )

  pub is_rule : IsRuleOf w network_bits value entry rule
  is_rule = record {
    action = action;
    packets = packets;
    ports = λ s d p from to from' to' ls ld lp lf lt lf' lt' none. same_tests _ _
        (λ i. let k = (packets s d p from to ls ld lp lf lt).0 i in
        (packets s d p from' to' ls ld lp lf' lt').1 (k.0, k.1, portless entry.traffic p from to from' to' none k.2))
        (λ i. let k = (packets s d p from' to' ls ld lp lf' lt').0 i in
        (packets s d p from to ls ld lp lf lt).1 (k.0, k.1, portless entry.traffic p from' to' from to none k.2));
  }
