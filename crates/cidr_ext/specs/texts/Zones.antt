-- The zones in reverse DNS of a network whose prefix length need not end at a label: those of the networks inside it at
-- the next label border. RFC 2317, which makes zones of parts of an octet by other names, is left out.
use Rattle.std.specs.Prelude.{◌≡◌, ℕ, ◌+◌, ◌%◌, ◌<◌, ◌≤◌, Bool, List, map}
use Rattle.std.specs.List.{Contains}
use Rattle.cidr.specs.declared.family.Family.{Family}
use Rattle.cidr_ext.specs.texts.Reverse.{label_width, reverse_text, EndsAtLabel}
use Rattle.cidr_ext.specs.model.Subnets.{subnets_of}

-- the least length from n on that ends at a label
abbrev pub IsZoneLength : Family → ℕ → ℕ → Type 0
IsZoneLength family n zone = (zone % label_width family ≡ 0) × (n ≤ zone) × (zone < n + label_width family)

-- the names of networks, in their order
abbrev pub names_of : List (Family × List Bool) → List (List ℕ)
names_of networks = map (λ q. reverse_text q.0 q.1) networks

-- the names of the zones of n bits inside a network, ascending
abbrev pub zones_of : Family → List Bool → ℕ → List (List ℕ)
zones_of family network n = names_of (subnets_of family network n)

-- each of the networks has a name
abbrev pub EndAtLabel : List (Family × List Bool) → Type 0
EndAtLabel networks = (q : Family × List Bool) → Contains networks q → EndsAtLabel q.0 q.1
