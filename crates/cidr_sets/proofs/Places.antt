-- The place of a network among others that ascend, and what stands beside it.
use Rattle.std.proofs.Common.{◌≡◌, ◌≢◌, ℕ, ◌-◌, ◌<◌, ◌≤◌, Bool, List, length, get_or, refl, sym, ap, ◌∙◌, subst, arith, inl, inr}
use Rattle.std.proofs.lemmas.Bool.{cases_lt, cases_eq}
use Rattle.std.proofs.lemmas.List.{get_or_default}
use Rattle.std.proofs.lemmas.Map.Keys.{Less-from_sorted}
use Rattle.std.specs.List.{Contains}
use Rattle.std.specs.List.Sorted.{IsStrictlySortedBy}
use Rattle.std.specs.Ordering.{ordering_index, ordering_reverse}
use Rattle.std.specs.declared.cmp.Ordering.{Ordering}
use Rattle.std.specs.declared.cmp.Ordering.TheVariants.{Less, Equal, Greater}
use Rattle.cidr.specs.model.Bits.{bit_cmp}
use Rattle.cidr.specs.model.Network.{BeginsWith}
use Rattle.cidr.specs.laws.BitLaws.{bit_cmp_total}
use Rattle.cidr_table.specs.model.Cover.{Covers}
use Rattle.cidr_table.specs.model.Cover.{IsReduced}
use Rattle.cidr_table.proofs.Beginnings.{bits_exact, not_before, begins_between}
use Rattle.cidr_table.proofs.Halves.{begins_itself}
use Rattle.cidr_table.proofs.Stacks.{spread_from_reduced}
use Rattle.cidr_sets.specs.model.Searches.{IsUpto}

at_most_two : (r : Ordering) → ordering_index r ≤ 2
at_most_two Less = omega arith
at_most_two Equal = omega arith
at_most_two Greater = omega arith

rises : (p q k : List Bool) (r : Ordering) → bit_cmp q k ≡ r → bit_cmp p q ≡ Less
    → ordering_index (bit_cmp p k) ≤ ordering_index r
rises p q k Less e h = rw (bit_cmp_total.trans p q k h e) (omega arith)
rises p q k Equal e h = rw (subst (λ x. bit_cmp p x ≡ Less) (bits_exact q k e) h) (omega arith)
rises p q k Greater e h = at_most_two (bit_cmp p k)

-- beside an asked network the order rises
pub rising : (s : List (List Bool)) (k : List Bool) → IsStrictlySortedBy bit_cmp s → (i j : ℕ) (d : List Bool) → i ≤ j
    → j < length s → ordering_index (bit_cmp (get_or s i d) k) ≤ ordering_index (bit_cmp (get_or s j d) k)
rising s k sorted i j d le lt = elim (cases_eq i j) [
  | inl e ↦ rw e (omega arith)
  | inr n ↦ rises (get_or s i d) (get_or s j d) k (bit_cmp (get_or s j d) k) refl
      (Less-from_sorted bit_cmp s i j d sorted (omega arith) lt)
]

not_above : (r : Ordering) → ordering_index r ≤ 1 → r ≢ Greater
not_above Less h e = cc
not_above Equal h e = cc
not_above Greater h e = omega arith

from_two : (r : Ordering) → 2 ≤ ordering_index r → r ≡ Greater
from_two Less h = absurd (omega (arith, h))
from_two Equal h = absurd (omega (arith, h))
from_two Greater h = refl

upto_one : (r : Ordering) → r ≢ Greater → ordering_index r ≤ 1
upto_one Less h = omega arith
upto_one Equal h = omega arith
upto_one Greater h = absurd (h refl)

-- up to one that isn't behind the asked network none is, and from one behind it on all are
pub upto_before : (s : List (List Bool)) (k : List Bool) (i : ℕ) → IsStrictlySortedBy bit_cmp s → i < length s
    → bit_cmp (get_or s i k) k ≢ Greater → (j : ℕ) → j ≤ i → bit_cmp (get_or s j k) k ≢ Greater
upto_before s k i sorted within h j le =
    not_above (bit_cmp (get_or s j k) k) (omega (arith, rising s k sorted j i k le within, upto_one (bit_cmp (get_or s i k) k) h))

pub from_behind : (s : List (List Bool)) (k : List Bool) (i : ℕ) → IsStrictlySortedBy bit_cmp s
    → bit_cmp (get_or s i k) k ≡ Greater → (j : ℕ) → i ≤ j → j < length s → bit_cmp (get_or s j k) k ≡ Greater
from_behind s k i sorted h j le lt =
    from_two (bit_cmp (get_or s j k) k) (omega (arith, rising s k sorted i j k le lt, ap ordering_index h))

only_equal : (r : Ordering) → r ≢ Less → r ≢ Greater → r ≡ Equal
only_equal Less n m = absurd (n refl)
only_equal Equal n m = refl
only_equal Greater n m = absurd (m refl)

-- ---- what stands beside the place
module _ (s : List (List Bool)) (k : List Bool) (index : ℕ) (h : IsReduced 129 s) (u : IsUpto s k index) where
  -- a network that contains the asked one is the one before the place
  pub holder_before : Covers s k → (0 < index) × BeginsWith k (get_or s (index - 1) k)
  holder_before c =
      let i = c.1.0 in
      let here : get_or s i k ≡ c.0 = get_or_default s i k c.0 c.1.1 ∙ c.1.2 in
      let holds : BeginsWith k (get_or s i k) = subst (BeginsWith k) (sym here) c.2 in
      let low : i < index = elim (cases_lt i index) [
        | inl lt ↦ lt
        | inr le ↦ absurd (not_before k (get_or s i k) holds
            (bit_cmp_total.antisymm k (get_or s i k) ∙ ap ordering_reverse (u.behind i le c.1.1)))
      ] in
      let top = index - 1 in
      let some : top < index = omega arith in (
        omega arith,
        elim (cases_eq i top) [
          | inl e ↦ subst (λ j. BeginsWith k (get_or s j k)) e holds
          | inr n ↦
              let within : top < length s = omega (arith, u.within) in
              let later : bit_cmp (get_or s i k) (get_or s top k) ≡ Less = Less-from_sorted bit_cmp s i top k h.ascending (omega arith) within in
              let inner : BeginsWith (get_or s top k) (get_or s i k) = begins_between (get_or s i k) k (get_or s top k) holds
              (λ l. (let e = sym (bit_cmp_total.antisymm (get_or s top k) (get_or s i k) ∙ ap ordering_reverse later) ∙ l in (cc)))
              (u.before top some) in
              let same = (spread_from_reduced 129 s h).apart (get_or s i k) (get_or s top k) (i, c.1.1, get_or_default s i (get_or s i k) k c.1.1)
              (top, within, get_or_default s top (get_or s top k) k within) inner in
              subst (BeginsWith k) same holds
        ],
      )

  -- a network that lies in the asked one, which none contains, is right behind the place, if any is
  pub inner_behind : (q : List Bool) → Contains s q → BeginsWith q k → ¬ (Covers s k)
      → (index < length s) × BeginsWith (get_or s index k) k
  inner_behind q c b free =
      let i = c.0 in
      let here : get_or s i k ≡ q = get_or_default s i k q c.1 ∙ c.2 in
      let inner : BeginsWith (get_or s i k) k = subst (λ x. BeginsWith x k) (sym here) b in
      let high : index ≤ i = elim (cases_lt i index) [
        | inl lt ↦ absurd (free (subst (Covers s)
            (bits_exact (get_or s i k) k (only_equal (bit_cmp (get_or s i k) k) (not_before (get_or s i k) k inner) (u.before i lt)))
            (q, c, subst (λ x. BeginsWith x q) (sym here) (begins_itself q))))
        | inr le ↦ le
      ] in (
        omega (arith, c.1),
        elim (cases_eq i index) [
          | inl e ↦ subst (λ j. BeginsWith (get_or s j k) k) e inner
          | inr n ↦
              let within : index < length s = omega (arith, c.1) in
              let later : bit_cmp (get_or s index k) (get_or s i k) ≡ Less = Less-from_sorted bit_cmp s index i k h.ascending (omega arith) c.1 in
              begins_between k (get_or s i k) (get_or s index k) inner
              (λ l. (let e = sym (u.behind index (omega arith) within) ∙ l in (cc)))
              (λ g. (let e = sym later ∙ g in (cc)))
        ],
      )
