-- What the readers of the parts of a name in reverse DNS promise each other.
use Rattle.std.specs.Prelude.{◌≡◌, ◌≢◌, ℕ, ◌*◌, ◌^◌, ◌<◌, ◌≤◌, ◌⊎◌, Bool, List, [], ◌∷◌, ◌++◌, length, map, reverse, Option, MatchOption}
use Rattle.std.specs.Borrow.{Bor}
use Rattle.std.specs.Char.{to_ascii_lowercase}
use Rattle.cidr.specs.model.Address.{parts_of}
use Rattle.cidr.specs.model.Bits.{bits}
use Rattle.cidr.specs.model.Network.{width_of}
use Rattle.cidr.specs.texts.Ipv4Text.{dot}
use Rattle.cidr.specs.declared.family.Family.{Family}
use Rattle.cidr_ext.specs.texts.Reverse.{label_width, label_text, labels_of, labels_text, EndsAtLabel}

-- this label and a dot stand first, in upper or lower case, and then the rest
abbrev pub IsFirstLabel : Family → List ℕ → ℕ → List ℕ → Type 0
IsFirstLabel family text n rest = (n < 2 ^ label_width family) × (map to_ascii_lowercase text ≡ label_text family n ++ dot ∷ map to_ascii_lowercase rest)

-- no label with a dot behind it stands first
abbrev pub NoFirstLabel : Family → List ℕ → Type 0
NoFirstLabel family text = (n : ℕ) (rest : List ℕ) → n < 2 ^ label_width family → map to_ascii_lowercase text ≢ label_text family n ++ dot ∷ rest

abbrev pub TakesLabel : Family → List ℕ → Option (ℕ × Bor (List ℕ)) → Type 0
TakesLabel family text r = MatchOption r (NoFirstLabel family text) (λ p. IsFirstLabel family text p.0 p.1.now)

-- the string has these labels, of so many bits, and nothing else
abbrev pub HasLabels : Family → ℕ → List ℕ → List Bool → Type 0
HasLabels family count text network =
    (length network ≡ label_width family * count)
    × (map to_ascii_lowercase text ≡ labels_text family (reverse (parts_of (label_width family) count network)))

-- the same, where the labels are as many as the network has, no more than an address has
abbrev pub HasName : Family → List ℕ → List Bool → Type 0
HasName family labels network =
    (length network ≤ width_of family) × EndsAtLabel family network
    × (map to_ascii_lowercase labels ≡ labels_text family (reverse (labels_of family network)))

-- the labels are those of the network of these bits
abbrev pub IsNamedBy : List ℕ → Family → ℕ → ℕ → Type 0
IsNamedBy labels family n len = (n < 2 ^ len) × HasName family labels (bits len n)

-- what is left of a string without the dot at its end
abbrev pub IsWithoutDot : List ℕ → List ℕ → Type 0
IsWithoutDot text front = (text ≡ front ++ dot ∷ []) ⊎ ((text ≡ front) × ((more : List ℕ) → text ≢ more ++ dot ∷ []))
