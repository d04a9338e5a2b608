-- What stands around a byte of a string.
use Rattle.std.proofs.Common.{◌≡◌, ℕ, Bool, false, List, ◌∷◌, ◌++◌, refl, sym, ◌∙◌, subst, drop}
use Rattle.std.proofs.lemmas.Bool.{false≢true}
use Rattle.std.proofs.lemmas.Str.Ascii.{trim_ascii_is}
use Rattle.std.specs.Bool.{Decides}
use Rattle.std.specs.Str.{IsTrimAscii}
use Rattle.std.specs.Char.{is_ascii_whitespace}
use Rattle.std.specs.List.{prefix_len}
use Rattle.cidr.specs.texts.Refusal.{Lacks}
use Rattle.cidr.proofs.Cuts.{not_lacking, one_first_cut}
use Rattle.cidr_lists.specs.Wrong.{IsAddress, IsAnything, IsSpacedAddress, StandAround}

module _ (c : ℕ) (Front Back : List ℕ → Type 0) (text : List ℕ) where
  pub around_none : Lacks c text → Decides false (StandAround c Front Back text)
  around_none lacks = (
    λ e. absurd (false≢true e),
    λ h. let (g, d, also, rest, f, b) = h in absurd (not_lacking c g d (subst (Lacks c) also lacks)),
  )

  module _ (front back : List ℕ) (spelled : text ≡ front ++ c ∷ back) (lacks : Lacks c front) (b : Bool) where
    pub around_both : Decides b (Front front × Back back) → Decides b (StandAround c Front Back text)
    around_both told = (
      λ e. let both = told.0 e in (front, back, spelled, lacks, both.0, both.1),
      λ h.
          let (g, d, also, none, f, k) = h in
          let same = one_first_cut c g d front back (sym also ∙ spelled) none lacks in
          told.1 (subst Front same.0 f, subst Back same.1 k),
    )

-- one of two is told, and the other is anything
pub first_told : (Front : List ℕ → Type 0) (front back : List ℕ) (b : Bool) → Decides b (Front front) → Decides b (Front front × IsAnything back)
first_told Front front back b told = (λ e. (told.0 e, tt), λ h. told.1 h.0)

pub second_told : (Back : List ℕ → Type 0) (front back : List ℕ) (b : Bool) → Decides b (Back back) → Decides b (IsAnything front × Back back)
second_told Back front back b told = (λ e. (tt, told.0 e), λ h. told.1 h.1)

-- white space at both ends is taken off in one way
pub one_trimmed : (s r t : List ℕ) → IsTrimAscii s r → IsTrimAscii s t → r ≡ t
one_trimmed s r t h k =
    trim_ascii_is s r (drop (prefix_len is_ascii_whitespace s) s) refl h ∙ sym (trim_ascii_is s t (drop (prefix_len is_ascii_whitespace s) s) refl k)

pub spaced_told : (text end : List ℕ) (b : Bool) → IsTrimAscii text end → Decides b (IsAddress end) → Decides b (IsSpacedAddress text)
spaced_told text end b trimmed told = (
  λ e. (end, trimmed, told.0 e),
  λ h. let (other, also, is) = h in told.1 (subst IsAddress (one_trimmed text other end also trimmed) is),
)
