-- The order of lists of bits beside their beginnings.
use Rattle.std.proofs.Common.{◌≡◌, Bool, true, false, List, [], ◌∷◌, ◌++◌, refl, sym, ap, ◌∙◌}
use Rattle.std.specs.declared.cmp.Ordering.TheVariants.{Less, Greater}
use Rattle.cidr.specs.model.Bits.{bit_cmp}
use Rattle.cidr.specs.model.Network.{BeginsWith}
use Rattle.cidr_table.proofs.Halves.{begins_itself}
use Rattle.cidr_table.proofs.Beginnings.{begins_between}

pub less_not_itself : (p : List Bool) → ¬ (bit_cmp p p ≡ Less)
less_not_itself [] h = cc
less_not_itself (false ∷ p) h = less_not_itself p h
less_not_itself (true ∷ p) h = less_not_itself p h

pub not_both : (p q : List Bool) → bit_cmp p q ≡ Less → ¬ (bit_cmp q p ≡ Less)
not_both [] [] h k = cc
not_both [] (y ∷ q) h k = cc
not_both (x ∷ p) [] h k = cc
not_both (false ∷ p) (false ∷ q) h k = not_both p q h k
not_both (true ∷ p) (true ∷ q) h k = not_both p q h k
not_both (false ∷ p) (true ∷ q) h k = cc
not_both (true ∷ p) (false ∷ q) h k = cc

-- what stands between a list and one that begins with it begins with it too
pub between : (p r q : List Bool) → BeginsWith q p → bit_cmp p r ≡ Less → bit_cmp r q ≡ Less → BeginsWith r p
between p r q h low high = begins_between p q r h (not_both p r low) (λ e. less_greater (sym high ∙ e))
  where
    less_greater : ¬ (Less ≡ Greater)
    less_greater e = cc

-- what begins with the lower half comes before what begins with the upper one
pub halves_less : (q p r : List Bool) → BeginsWith p (q ++ false ∷ []) → BeginsWith r (q ++ true ∷ [])
    → bit_cmp p r ≡ Less
halves_less [] [] r h k = absurd (cc)
halves_less [] (x ∷ p) [] h k = absurd (cc)
halves_less [] (false ∷ p) (true ∷ r) h k = refl
halves_less [] (true ∷ p) (y ∷ r) h k = absurd (cc)
halves_less [] (false ∷ p) (false ∷ r) h k = absurd (cc)
halves_less (x ∷ q) [] r h k = absurd (cc)
halves_less (x ∷ q) (y ∷ p) [] h k = absurd (cc)
halves_less (false ∷ q) (false ∷ p) (false ∷ r) h k = halves_less q p r (cc) (cc)
halves_less (true ∷ q) (true ∷ p) (true ∷ r) h k = halves_less q p r (cc) (cc)
halves_less (false ∷ q) (true ∷ p) (z ∷ r) h k = absurd (cc)
halves_less (false ∷ q) (false ∷ p) (true ∷ r) h k = absurd (cc)
halves_less (true ∷ q) (false ∷ p) (z ∷ r) h k = absurd (cc)
halves_less (true ∷ q) (true ∷ p) (false ∷ r) h k = absurd (cc)

pub lower_less : (q : List Bool) → bit_cmp (q ++ false ∷ []) (q ++ true ∷ []) ≡ Less
lower_less q = halves_less q (q ++ false ∷ []) (q ++ true ∷ []) (begins_itself (q ++ false ∷ []))
    (begins_itself (q ++ true ∷ []))

-- two lists that differ in their last bits alone are in order as these
pub last_bits : (s : List Bool) (b c : Bool) → bit_cmp (s ++ b ∷ []) (s ++ c ∷ []) ≡ Less → (b ≡ false) × (c ≡ true)
last_bits [] false false h = absurd (cc)
last_bits [] false true h = (refl, refl)
last_bits [] true false h = absurd (cc)
last_bits [] true true h = absurd (cc)
last_bits (false ∷ s) b c h = last_bits s b c h
last_bits (true ∷ s) b c h = last_bits s b c h

-- what stands between two halves begins with the lower one
pub between_halves : (q r : List Bool) → bit_cmp (q ++ false ∷ []) r ≡ Less → bit_cmp r (q ++ true ∷ []) ≡ Less
    → BeginsWith r (q ++ false ∷ [])
between_halves [] [] low high = absurd (cc)
between_halves [] (false ∷ r) low high = refl
between_halves [] (true ∷ []) low high = absurd (cc)
between_halves [] (true ∷ x ∷ r) low high = absurd (cc)
between_halves (x ∷ q) [] low high = absurd (cc)
between_halves (false ∷ q) (false ∷ r) low high = ap (λ t. false ∷ t) (between_halves q r low high)
between_halves (true ∷ q) (true ∷ r) low high = ap (λ t. true ∷ t) (between_halves q r low high)
between_halves (false ∷ q) (true ∷ r) low high = absurd (cc)
between_halves (true ∷ q) (false ∷ r) low high = absurd (cc)

-- what comes before the lower half, and doesn't begin it, comes before the whole
pub before_whole : (p q : List Bool) → bit_cmp p (q ++ false ∷ []) ≡ Less → ¬ (BeginsWith (q ++ false ∷ []) p)
    → bit_cmp p q ≡ Less
before_whole [] q h n = absurd (n refl)
before_whole (false ∷ []) [] h n = absurd (cc)
before_whole (false ∷ x ∷ p) [] h n = absurd (cc)
before_whole (true ∷ p) [] h n = absurd (cc)
before_whole (false ∷ p) (true ∷ q) h n = refl
before_whole (true ∷ p) (false ∷ q) h n = absurd (cc)
before_whole (false ∷ p) (false ∷ q) h n = before_whole p q h (λ b. n (ap (λ t. false ∷ t) b))
before_whole (true ∷ p) (true ∷ q) h n = before_whole p q h (λ b. n (ap (λ t. true ∷ t) b))

-- the whole comes before what a half comes before
pub whole_less : (q k : List Bool) (b : Bool) → bit_cmp (q ++ b ∷ []) k ≡ Less → bit_cmp q k ≡ Less
whole_less [] [] b h = absurd (cc)
whole_less [] (y ∷ k) b h = refl
whole_less (x ∷ q) [] b h = absurd (cc)
whole_less (false ∷ q) (true ∷ k) b h = refl
whole_less (true ∷ q) (false ∷ k) b h = absurd (cc)
whole_less (false ∷ q) (false ∷ k) b h = whole_less q k b h
whole_less (true ∷ q) (true ∷ k) b h = whole_less q k b h
