-- Parts that lie one behind the other.
use Rattle.std.proofs.Common.{◌≡◌, ◌∙◌, ap, ap₂, ℕ, List, ◌∷◌, drop, take}
use Rattle.cidr_files.specs.Layout.{bytes_behind, padded, parts_by_size}

-- the first, and those of what lies behind it
pub first_part : (size : ℕ) (sizes bytes part rest : List ℕ) (parts : List (List ℕ)) → part ≡ take size bytes → rest ≡ drop (padded size) bytes
    → parts ≡ parts_by_size sizes rest → part ∷ parts ≡ parts_by_size (size ∷ sizes) bytes
first_part size sizes bytes part rest parts here next others = ap₂ ◌∷◌ here (others ∙ ap (parts_by_size sizes) next)

pub behind_first : (size : ℕ) (sizes bytes rest last : List ℕ) → rest ≡ drop (padded size) bytes → last ≡ bytes_behind sizes rest
    → last ≡ bytes_behind (size ∷ sizes) bytes
behind_first size sizes bytes rest last next others = others ∙ ap (bytes_behind sizes) next
