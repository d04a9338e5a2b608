-- Networks inside others and their halves, by their bits.
use Rattle.std.proofs.Common.{◌≡◌, ◌≢◌, refl, sym, ◌∙◌, ap, ap₂, arith, inl, inr, ◌+◌, ◌≤◌, Bool, true, false, not, List, [], ◌∷◌, ◌++◌, length, take}
use Rattle.std.specs.Ordering.{ordering_reverse}
use Rattle.std.specs.declared.cmp.Ordering.{Ordering}
use Rattle.std.specs.declared.cmp.Ordering.TheVariants.{Less, Equal, Greater}
use Rattle.std.proofs.lemmas.Bool.{cases_lt, true≢false, false≢true}
use Rattle.std.proofs.lemmas.List.{length_push, same_from_push, take-append-le, take-take, take_all}
use Rattle.cidr.specs.laws.BitLaws.{bit_cmp_total}
use Rattle.cidr.specs.model.Bits.{bit_cmp}
use Rattle.cidr.specs.model.Network.{BeginsWith}
use Rattle.cidr_ext.specs.model.Tree.{AreSiblings}
use Rattle.cidr_table.proofs.Beginnings.{begins_length, bits_exact, not_before}
use Rattle.cidr_lists.specs.Findings.{AreBitsInside}

-- ---- beginnings
pub begins_same : (a p : List Bool) → a ≡ p → BeginsWith a p
begins_same a p e = ap (take (length p)) e ∙ take_all (length p) p (omega arith)

pub whole_begins : (a p : List Bool) → BeginsWith a p → length a ≤ length p → a ≡ p
whole_begins a p h fits = sym (take_all (length p) a fits) ∙ h

pub begins_trans : (a p q : List Bool) → BeginsWith a p → BeginsWith p q → BeginsWith a q
begins_trans a p q h k =
    let fits : length q ≤ length p = begins_length p q k in
    sym (take-take (length q) (length p) a fits) ∙ (ap (take (length q)) h ∙ k)

-- what begins with others bits than its own is inside them
pub strictly_inside : (a p : List Bool) → BeginsWith a p → a ≢ p → AreBitsInside a p
strictly_inside a p h other = elim (cases_lt (length p) (length a)) [
  | inl lt ↦ (h, lt)
  | inr le ↦ absurd (other (whole_begins a p h le))
]

-- ---- the order
flipped : (p q : List Bool) (r : Ordering) → bit_cmp p q ≡ r → bit_cmp q p ≡ ordering_reverse r
flipped p q r h = bit_cmp_total.antisymm q p ∙ ap ordering_reverse h

pub not_less_back : (p q : List Bool) → bit_cmp p q ≢ Greater → bit_cmp q p ≢ Less
not_less_back p q up less = up (flipped q p Less less)

pub not_greater_back : (p q : List Bool) → bit_cmp p q ≢ Less → bit_cmp q p ≢ Greater
not_greater_back p q up greater = up (flipped q p Greater greater)

less_of : (o : Ordering) → o ≢ Greater → o ≢ Equal → o ≡ Less
less_of Less up other = refl
less_of Equal up other = absurd (other refl)
less_of Greater up other = absurd (up refl)

pub less_unless_same : (p q : List Bool) → bit_cmp p q ≢ Greater → p ≢ q → bit_cmp p q ≡ Less
less_unless_same p q up other = less_of (bit_cmp p q) up (λ e. other (bits_exact p q e))

equal_of : (o : Ordering) → o ≢ Greater → o ≢ Less → o ≡ Equal
equal_of Less up down = absurd (down refl)
equal_of Equal up down = refl
equal_of Greater up down = absurd (up refl)

-- a network is not inside one behind it
pub not_inside_behind : (p q : List Bool) → bit_cmp p q ≢ Greater → ¬ (AreBitsInside p q)
not_inside_behind p q up (h, short) =
    let same : p ≡ q = bits_exact p q (equal_of (bit_cmp p q) up (not_before p q h)) in
    omega (arith, short, ap length same)

-- ---- halves
-- what is between the halves of a network begins with the first one
between_halves : (q r : List Bool) → bit_cmp r (q ++ false ∷ []) ≢ Less → bit_cmp r (q ++ true ∷ []) ≡ Less → BeginsWith r (q ++ false ∷ [])
between_halves [] [] low high = absurd (low refl)
between_halves [] (false ∷ r) low high = refl
between_halves [] (true ∷ []) low high = cc
between_halves [] (true ∷ y ∷ r) low high = cc
between_halves (b ∷ q) [] low high = absurd (low refl)
between_halves (true ∷ q) (true ∷ r) low high = ap (λ t. true ∷ t) (between_halves q r low high)
between_halves (true ∷ q) (false ∷ r) low high = absurd (low refl)
between_halves (false ∷ q) (false ∷ r) low high = ap (λ t. false ∷ t) (between_halves q r low high)
between_halves (false ∷ q) (true ∷ r) low high = cc

-- the second half is not before the first one
second_not_before : (q : List Bool) → bit_cmp (q ++ true ∷ []) (q ++ false ∷ []) ≢ Less
second_not_before [] less = cc
second_not_before (true ∷ q) less = second_not_before q less
second_not_before (false ∷ q) less = second_not_before q less

-- what is behind a network and before its other half, which comes later, begins with the network
pub before_half : (next p r : List Bool) → AreSiblings next p → bit_cmp p next ≡ Less → bit_cmp r p ≢ Less → bit_cmp r next ≡ Less → BeginsWith r p
before_half next p r (q, true, is, same) less low high =
    rw same (between_halves q r (rw same at low) (rw is at high))
before_half next p r (q, false, is, same) less low high =
    absurd (second_not_before q (ap₂ bit_cmp (sym same) (sym is) ∙ less))

pub siblings_back : (p q : List Bool) → AreSiblings p q → AreSiblings q p
siblings_back p q (parent, true, one, other) = (parent, false, other, one)
siblings_back p q (parent, false, one, other) = (parent, true, other, one)

flips : (b : Bool) → b ≢ not b
flips true e = true≢false e
flips false e = false≢true e

-- no half begins with the other one
pub siblings_apart : (p q : List Bool) → AreSiblings p q → ¬ (BeginsWith p q)
siblings_apart p q (parent, b, one, other) h =
    let same : p ≡ q = whole_begins p q h (omega (arith, ap length one, ap length other, length_push parent b, length_push parent (not b))) in
    flips b (same_from_push parent parent b (not b) (sym one ∙ (same ∙ other))).1

-- a network has one other half
pub sibling_same : (p q r : List Bool) → AreSiblings p q → AreSiblings p r → q ≡ r
sibling_same p q r (s, b, one, other) (t, c, first, second) =
    let same = same_from_push s t b c (sym one ∙ first) in
    other ∙ (ap₂ (λ (k : List Bool) (z : Bool). k ++ not z ∷ []) same.0 same.1 ∙ sym second)

-- what has one half inside it contains the other one
pub around_halves : (p q outer : List Bool) → AreSiblings p q → AreBitsInside q outer → BeginsWith p outer
around_halves p q outer (parent, b, one, other) (h, short) =
    let size : length q ≡ length parent + 1 = ap length other ∙ length_push parent (not b) in
    let fits : length outer ≤ length parent = omega (arith, size, short) in
    ap (take (length outer)) one
    ∙ (take-append-le (length outer) parent (b ∷ []) fits
    ∙ (sym (take-append-le (length outer) parent (not b ∷ []) fits) ∙ (sym (ap (take (length outer)) other) ∙ h)))
