-- The parts of a row, by its layout.
use Rattle.std.proofs.Common.{◌≡◌, ◌⊎◌, inl, inr, sym, subst, ℕ, List, Option, None, Some, MatchOption}
use Rattle.std.specs.Str.{IsTrimAscii}
use Rattle.cidr.specs.declared.family.Family.{Family}
use Rattle.cidr_lists.specs.Fields.{HasFields, HasNoFields, behind_field, field_at}
use Rattle.cidr_lists.specs.Forms.{IsRowSplit, separator_of}
use Rattle.cidr_lists.specs.declared.columns.Separator.{Separator}
use Rattle.cidr_lists.specs.declared.columns.Separator.TheVariants.{WhiteSpace}
use Rattle.cidr_lists.specs.declared.forms.RowLayout.{RowLayout}
use Rattle.cidr_lists.specs.declared.forms.RowLayout.TheVariants.{Fields, Pfx2as, Routes}
use denote.Ref.{Bor}

abbrev Splits : RowLayout → List ℕ → Option (Bor (List ℕ) × Bor (List ℕ)) → Type 0
Splits layout line r =
    MatchOption r (HasNoFields (separator_of layout) line) (λ parts. HasFields (separator_of layout) line × IsRowSplit layout line parts.0.now parts.1.now)

-- at the first separator
abbrev SplitsAt : Separator → List ℕ → Option (Bor (List ℕ) × Bor (List ℕ)) → Type 0
SplitsAt separator line r =
    MatchOption r (HasNoFields separator line) (λ parts. HasFields separator line × IsTrimAscii (field_at separator 0 line) parts.0.now × IsTrimAscii (behind_field separator line) parts.1.now)

pub by_fields : (separator : Separator) (layout : RowLayout) (line : List ℕ) (r : Option (Bor (List ℕ) × Bor (List ℕ))) → layout ≡ Fields separator
    → SplitsAt separator line r → Splits layout line r
by_fields separator layout line None is none = subst (λ (k : RowLayout). Splits k line None) (sym is) none
by_fields separator layout line (Some parts) is (has, here, behind) = subst (λ (k : RowLayout). Splits k line (Some parts)) (sym is) (has, (here, behind))

pub by_words : (layout : RowLayout) (line : List ℕ) (r : Option (Bor (List ℕ) × Bor (List ℕ))) → (layout ≡ Pfx2as) ⊎ ((family : Family) × (layout ≡ Routes family))
    → SplitsAt WhiteSpace line r → Splits layout line r
by_words layout line None (inl is) none = subst (λ (k : RowLayout). Splits k line None) (sym is) none
by_words layout line (Some parts) (inl is) (has, here, behind) = subst (λ (k : RowLayout). Splits k line (Some parts)) (sym is) (has, (here, behind))
by_words layout line None (inr (family, is)) none = subst (λ (k : RowLayout). Splits k line None) (sym is) none
by_words layout line (Some parts) (inr (family, is)) (has, here, behind) = subst (λ (k : RowLayout). Splits k line (Some parts)) (sym is) (has, (here, behind))
