-- An input that is refused has one error.
use Rattle.std.proofs.Common.{◌≡◌, ◌≢◌, ℕ, List, refl, sym, ap, ◌∙◌, subst, inl, inr}
use Rattle.cidr.specs.bytes.CompactRefusal.{IsNetworkBytesRefused}
use Rattle.cidr.specs.declared.errors.CompactError.{CompactError}
use Rattle.cidr.specs.declared.errors.CompactError.TheVariants.{Truncated, InvalidTag, InvalidAny, InvalidFamily, InvalidHostPart}
use Rattle.cidr.specs.declared.family.Family.{Family}
use Rattle.cidr.proofs.CompactBytes.{heads, one_host_first, refused_no_host, refused_no_any}

module _ (Takes : Family → Type 0) (input : List ℕ) where
  short_and_tag : IsNetworkBytesRefused Takes input Truncated → IsNetworkBytesRefused Takes input InvalidTag → ⊥
  short_and_tag (inl none) (tag, rest, s, names) = let both = sym none ∙ s in cc
  short_and_tag (inr (f, (n, more, within, t, few))) (tag, rest, s, (other, none)) = none f n within (heads tag _ rest more (sym s ∙ t)).0

  family_and_part : (f : Family) → IsNetworkBytesRefused Takes input (InvalidFamily f) → IsNetworkBytesRefused Takes input InvalidHostPart → ⊥
  family_and_part f (a, h, not) (g, b, k, taken, ones) = not (subst Takes (sym (one_host_first f g input a b h k).0) taken)

  two_families : (f g : Family) → IsNetworkBytesRefused Takes input (InvalidFamily f) → IsNetworkBytesRefused Takes input (InvalidFamily g) → f ≡ g
  two_families f g (a, h, not) (b, k, neither) = (one_host_first f g input a b h k).0

  -- an error that comes before the family is read, beside one that comes after
  before_family : (e : CompactError) (f : Family) → IsNetworkBytesRefused (λ _. Unit {0}) input e → e ≢ InvalidHostPart → IsNetworkBytesRefused Takes input (InvalidFamily f) → ⊥
  before_family e f h other (a, k, not) = refused_no_host (λ _. Unit {0}) input e f a h k tt (λ x. absurd (other x))

  before_part : (e : CompactError) → IsNetworkBytesRefused (λ _. Unit {0}) input e → e ≢ InvalidHostPart → IsNetworkBytesRefused Takes input InvalidHostPart → ⊥
  before_part e h other (g, a, k, taken, ones) = refused_no_host (λ _. Unit {0}) input e g a h k tt (λ x. absurd (other x))

  short_and_any : IsNetworkBytesRefused Takes input Truncated → IsNetworkBytesRefused Takes input InvalidAny → ⊥
  short_and_any h any = refused_no_any Takes input Truncated h (λ x. cc) any

  tag_and_any : IsNetworkBytesRefused Takes input InvalidTag → IsNetworkBytesRefused Takes input InvalidAny → ⊥
  tag_and_any h any = refused_no_any Takes input InvalidTag h (λ x. cc) any

  pub one_error : (d e : CompactError) → IsNetworkBytesRefused Takes input d → IsNetworkBytesRefused Takes input e → d ≡ e
  one_error Truncated Truncated h k = refl
  one_error Truncated InvalidTag h k = absurd (short_and_tag h k)
  one_error Truncated InvalidAny h k = absurd (short_and_any h k)
  one_error Truncated (InvalidFamily g) h k = absurd (before_family Truncated g h (λ x. cc) k)
  one_error Truncated InvalidHostPart h k = absurd (before_part Truncated h (λ x. cc) k)
  one_error InvalidTag Truncated h k = absurd (short_and_tag k h)
  one_error InvalidTag InvalidTag h k = refl
  one_error InvalidTag InvalidAny h k = absurd (tag_and_any h k)
  one_error InvalidTag (InvalidFamily g) h k = absurd (before_family InvalidTag g h (λ x. cc) k)
  one_error InvalidTag InvalidHostPart h k = absurd (before_part InvalidTag h (λ x. cc) k)
  one_error InvalidAny Truncated h k = absurd (short_and_any k h)
  one_error InvalidAny InvalidTag h k = absurd (tag_and_any k h)
  one_error InvalidAny InvalidAny h k = refl
  one_error InvalidAny (InvalidFamily g) h k = absurd (before_family InvalidAny g h (λ x. cc) k)
  one_error InvalidAny InvalidHostPart h k = absurd (before_part InvalidAny h (λ x. cc) k)
  one_error (InvalidFamily f) Truncated h k = absurd (before_family Truncated f k (λ x. cc) h)
  one_error (InvalidFamily f) InvalidTag h k = absurd (before_family InvalidTag f k (λ x. cc) h)
  one_error (InvalidFamily f) InvalidAny h k = absurd (before_family InvalidAny f k (λ x. cc) h)
  one_error (InvalidFamily f) (InvalidFamily g) h k = ap InvalidFamily (two_families f g h k)
  one_error (InvalidFamily f) InvalidHostPart h k = absurd (family_and_part f h k)
  one_error InvalidHostPart Truncated h k = absurd (before_part Truncated k (λ x. cc) h)
  one_error InvalidHostPart InvalidTag h k = absurd (before_part InvalidTag k (λ x. cc) h)
  one_error InvalidHostPart InvalidAny h k = absurd (before_part InvalidAny k (λ x. cc) h)
  one_error InvalidHostPart (InvalidFamily g) h k = absurd (family_and_part g k h)
  one_error InvalidHostPart InvalidHostPart h k = refl
