-- Entries of access lists: networks by their bits, protocols by the numbers that IANA assigns, and ports.
use Rattle.std.specs.Prelude.{◌≡◌, ◌≢◌, ◌↔◌, ℕ, ◌^◌, ◌<◌, Bool, true, List, [], ◌∷◌, length}
use Rattle.cidr.specs.model.Bits.{number}
use Rattle.cidr.specs.model.Network.{BeginsWith}
use Rattle.cidr_rules.specs.declared.entries.Entry.{Entry}
use Rattle.cidr_rules.specs.declared.entries.Traffic.{Traffic}
use Rattle.cidr_rules.specs.declared.entries.Traffic.TheVariants.{Any, Protocol, Ports}
use Rattle.cidr_rules.specs.declared.entries.Transport.{Transport}
use Rattle.cidr_rules.specs.declared.entries.Transport.TheVariants.{Tcp, Udp, Dccp, Sctp, UdpLite}
use Rattle.cidr_rules.specs.declared.fields.Range.{Range}
use Rattle.cidr_rules.specs.declared.rules.Rule.{Rule}
use Rattle.cidr_rules.specs.Packets.{is_between, is_in, ranges_of}

abbrev pub protocol_number : Transport → ℕ
protocol_number Tcp = 6
protocol_number Udp = 17
protocol_number Dccp = 33
protocol_number Sctp = 132
protocol_number UdpLite = 136

-- packets of the protocol p have no ports
abbrev pub IsPortless : ℕ → Type 0
IsPortless p = (t : Transport) → p ≢ protocol_number t

-- a packet of the protocol p, from a port and to a port
abbrev pub IsOfTraffic : Traffic → ℕ → ℕ → ℕ → Type 0
IsOfTraffic Any p from to = Unit {0}
IsOfTraffic (Protocol n) p from to = p ≡ n
IsOfTraffic (Ports t sources targets) p from to = (p ≡ protocol_number t) × (is_between sources from ≡ true) × (is_between targets to ≡ true)

module _ {C V : Type 0} (w : ℕ) (bits : C → List Bool) (value : V → ℕ) where
  -- the rule has the packets of the entry, and no others; addresses have w bits
  pub record IsRuleOf (entry : Entry C) (rule : Rule V) : Type 0 where
    pub action : rule.action ≡ entry.action
    pub packets : (s d : List Bool) (p from to : ℕ) → length s ≡ w → length d ≡ w → p < 2 ^ 8 → from < 2 ^ 16 → to < 2 ^ 16
        → (is_in (ranges_of value rule.region) (number s ∷ number d ∷ p ∷ from ∷ to ∷ []) ≡ true)
        ↔ (BeginsWith s (bits entry.source) × BeginsWith d (bits entry.destination) × IsOfTraffic entry.traffic p from to)
    -- where the protocol has no ports, the numbers in their place play no part
    pub ports : (s d : List Bool) (p from to from' to' : ℕ) → length s ≡ w → length d ≡ w → p < 2 ^ 8 → from < 2 ^ 16 → to < 2 ^ 16 → from' < 2 ^ 16 → to' < 2 ^ 16
        → IsPortless p → is_in (ranges_of value rule.region) (number s ∷ number d ∷ p ∷ from ∷ to ∷ [])
        ≡ is_in (ranges_of value rule.region) (number s ∷ number d ∷ p ∷ from' ∷ to' ∷ [])

-- ---- what private functions promise
abbrev pub only : ℕ → Range ℕ
only n = record { first = n; last = n }

abbrev pub protocols_of : Traffic → Range ℕ
protocols_of Any = record { first = 0; last = 255 }
protocols_of (Protocol n) = only n
protocols_of (Ports t sources targets) = only (protocol_number t)

abbrev pub sources_of : Traffic → Range ℕ
sources_of Any = record { first = 0; last = 65535 }
sources_of (Protocol n) = record { first = 0; last = 65535 }
sources_of (Ports t sources targets) = sources

abbrev pub targets_of : Traffic → Range ℕ
targets_of Any = record { first = 0; last = 65535 }
targets_of (Protocol n) = record { first = 0; last = 65535 }
targets_of (Ports t sources targets) = targets
