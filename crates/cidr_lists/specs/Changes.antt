-- What a second list adds to a first one, and what it lacks: a network a line, with its sign.
use Rattle.std.specs.Prelude.{◌≡◌, ℕ, Bool, true, false, if◌then◌else◌, List, [], ◌∷◌, ◌++◌, map, codes}
use Rattle.std.specs.List.{flat_map}
use Rattle.std.specs.List.Sorted.{IsStrictlySortedBy}
use Rattle.std.specs.Ordering.{is_lt}
use Rattle.cidr.specs.model.Bits.{bit_cmp}
use Rattle.cidr.specs.declared.family.Family.{Family}
use Rattle.cidr.specs.declared.family.Family.TheVariants.{Ipv4, Ipv6}
use Rattle.cidr_sets.specs.model.Sets.{IsDifference}
use Rattle.cidr_lists.specs.Formats.{family_by, json}
use Rattle.cidr_lists.specs.Printing.{line}
use Rattle.cidr_lists.specs.declared.changes.ChangeLayout.{ChangeLayout as GivenLayout}
use Rattle.cidr_lists.specs.declared.changes.Sign.{Sign}
use Rattle.cidr_lists.specs.declared.changes.Sign.TheVariants.{Plus, Minus}
use Rattle.cidr_lists.specs.declared.formats.LineFormat.{LineFormat}
use Rattle.cidr_lists.specs.declared.formats.LineFormat.TheVariants as by_line
use Rattle.cidr_lists.specs.declared.formats.Notation.{Notation}
use Rattle.cidr_lists.specs.declared.formats.Notation.TheVariants.{Plain, Members}

-- the network of a change, if it has this sign
abbrev pub network_with : Sign → Sign × List Bool → List (List Bool)
network_with Plus (Plus, network) = network ∷ []
network_with Plus (Minus, network) = []
network_with Minus (Plus, network) = []
network_with Minus (Minus, network) = network ∷ []

-- the networks of both lists, each once and with its sign, ascending
pub record AreMerged (added lacking : List (List Bool)) (changes : List (Sign × List Bool)) : Type 0 where
  pub plus : flat_map (network_with Plus) changes ≡ added
  pub minus : flat_map (network_with Minus) changes ≡ lacking
  pub ascending : IsStrictlySortedBy bit_cmp (map (λ change. change.1) changes)

-- from the addresses of the old networks to those of the new ones: what is added, and what is lacking
abbrev pub AreChanges : List (List Bool) → List (List Bool) → List (Sign × List Bool) → Type 0
AreChanges old new changes = (added : List (List Bool)) × (lacking : List (List Bool))
    × IsDifference 129 new old added × IsDifference 129 old new lacking × AreMerged added lacking changes

-- the sign in front of a network
abbrev pub sign_text : Sign → List ℕ
sign_text Plus = codes "+"
sign_text Minus = codes "-"

-- a change as a line: what stands in front of its sign, between that and the network, how the network is written, and what
-- stands behind it
pub record ChangeLayout : Type 0 where
  pub before : List ℕ
  pub between : List ℕ
  pub notation : Notation
  pub behind : List ℕ

-- the sign and the network; or an object of JSON (RFC 8259), whose first member is the sign, before those of a network
abbrev pub change_layout : LineFormat → Family → ChangeLayout
change_layout by_line.Plain family = record { before = []; between = []; notation = Plain; behind = [] }
change_layout by_line.Json family =
    record { before = codes "{\"change\":\""; between = codes "\",\"network\":\""; notation = Members; behind = (json family).behind }

-- a change as a line; `text` tells what a network is in a notation
abbrev pub change_line : {X : Type 0} → (Notation → X → List ℕ) → ChangeLayout → Sign × X → List ℕ
change_line text layout (sign, network) =
    layout.before ++ (sign_text sign ++ (layout.between ++ (text layout.notation network ++ line layout.behind)))

-- the changes of a family
abbrev pub family_changes : LineFormat → Family → List (Sign × List Bool) → List ℕ
family_changes format family changes = flat_map (change_line (family_by family (λ p. p)) (change_layout format family)) changes

-- IPv4 before IPv6
abbrev pub printed_changes : LineFormat → (Family → List (Sign × List Bool)) → List ℕ
printed_changes format changes = family_changes format Ipv4 (changes Ipv4) ++ family_changes format Ipv6 (changes Ipv6)

-- the texts of a layout
abbrev pub change_layout_in : GivenLayout → ChangeLayout
change_layout_in layout = record { before = layout.before.now; between = layout.between.now; notation = layout.notation; behind = layout.behind.now }

-- ---- what private functions promise
-- networks with a sign
abbrev pub signed : {X : Type 0} → Sign → List X → List (Sign × X)
signed sign networks = map (λ network. (sign, network)) networks

-- the first of both lists is of those that are added
abbrev pub adds_first : {X : Type 0} → (X → List Bool) → List X → List X → Bool
adds_first bits [] lacking = false
adds_first bits (p ∷ added) [] = true
adds_first bits (p ∷ added) (q ∷ lacking) = is_lt (bit_cmp (bits p) (bits q))

-- both lists as one
unfoldable pub merged : {X : Type 0} → (X → List Bool) → List X → List X → List (Sign × X)
merged bits [] lacking = signed Minus lacking
merged bits (p ∷ added) [] = signed Plus (p ∷ added)
merged bits (p ∷ added) (q ∷ lacking) =
    if is_lt (bit_cmp (bits p) (bits q)) then (Plus, p) ∷ merged bits added (q ∷ lacking)
    else (Minus, q) ∷ merged bits (p ∷ added) lacking
