-- What is read of lists without their lines in error.
use Rattle.std.proofs.Common.{◌≡◌, refl, sym, ◌∙◌, ap, ℕ, List, Option, Some, None}
use Rattle.cidr_lists.specs.Lists.{Text, text_in}
use Rattle.cidr_lists.specs.declared.records.ListForm.{ListForm}
use Rattle.netset_commands.specs.Keeping.{good_bytes, good_file}
use Rattle.netset_commands.specs.declared.input.keeping.Kept.{Kept}
use Rattle.netset_commands.proofs.ReadBy.{some_same}

module _ (bits : ListForm) (text : Text) where
  -- of a list that is kept
  pub held_told : (found : Option Kept) (other : Option Text) (list : Kept) (bytes : List ℕ) → Some list ≡ found → bytes ≡ good_bytes list
      → good_file bits found other ≡ Some text → Some bytes ≡ Some text.bytes
  held_told None other list bytes is read at = cc
  held_told (Some first) other list bytes is read at =
      let same : list ≡ first = some_same list first is in
      ap (λ (k : List ℕ). Some k)
      (read ∙ (ap good_bytes same ∙ ap (λ (k : Text). k.bytes) (some_same (text_in bits (good_bytes first)) text at)))

  -- of another file
  pub beside_told : (found : Option Kept) (other : Option Text) (left : Option (List ℕ)) → None ≡ found
      → ((known : Text) → other ≡ Some known → left ≡ Some known.bytes) → good_file bits found other ≡ Some text → left ≡ Some text.bytes
  beside_told (Some first) other left is opens at = cc
  beside_told None None left is opens at = cc
  beside_told None (Some known) left is opens at =
      opens known refl ∙ ap (λ (k : Text). Some k.bytes) (some_same (text_in bits known.bytes) text at)

  pub bits_kept : (found : Option Kept) (other : Option Text) → good_file bits found other ≡ Some text → text.form ≡ bits
  bits_kept (Some list) other at = sym (ap (λ (k : Text). k.form) (some_same (text_in bits (good_bytes list)) text at))
  bits_kept None None at = cc
  bits_kept None (Some known) at = sym (ap (λ (k : Text). k.form) (some_same (text_in bits known.bytes) text at))

-- a file that is not told
pub none_beside : (bits : ListForm) (found : Option Kept) (other : Option Text) → None ≡ found → other ≡ None → good_file bits found other ≡ None
none_beside bits (Some list) other is none = cc
none_beside bits None other is none = ap (good_file bits None) none
