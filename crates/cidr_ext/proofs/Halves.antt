-- Halves of networks, and networks that contain both of two.
use Rattle.std.proofs.Common.{◌≡◌, ◌↔◌, ◌⊎◌, ℕ, ◌+◌, ◌-◌, ◌<◌, ◌≤◌, not, Bool, false, List, [], ◌∷◌, ◌++◌, length, get_or, take, refl, sym, ap, ◌∙◌, arith, inl, inr, Option, Some, None, MatchOption, IsTrue, nat_eq, length-append, length-take, eq-eqb}
use Rattle.std.proofs.lemmas.Bool.{cases_lt, eqb-true}
use Rattle.std.proofs.lemmas.List.{take-take, take_at, take_all, take_more, same_from_push, length-replicate}
use Rattle.std.specs.declared.cmp.Ordering.{Ordering}
use Rattle.std.specs.Ordering.{eq_by_cmp, is_eq}
use Rattle.cidr.specs.model.Bits.{bit_cmp, bit_eq}
use Rattle.cidr.specs.model.BitString.{IsSharedLength}
use Rattle.cidr.specs.model.Network.{zeros, first_of, BeginsWith}
use Rattle.cidr.specs.laws.BitLaws.{bit_eq_Decides, bit_eq_ties}
use Rattle.cidr_ext.specs.model.Tree.{IsHalfOf, AreSiblings, IsSupernet, HaveCommon}

pub not_longer : (p q : List Bool) → BeginsWith q p → length p ≤ length q
not_longer p q h = omega (arith, ap length h, length-take (length p) q)

pub begins_itself : (p : List Bool) → BeginsWith p p
begins_itself p = take_all (length p) p (omega arith)

-- what begins with a list begins with the beginnings of that
pub begins_begins : (a q p : List Bool) → BeginsWith a q → BeginsWith q p → BeginsWith a p
begins_begins a q p h k =
    sym (take-take (length p) (length q) a (not_longer p q k)) ∙ ap (take (length p)) h ∙ k

-- of two beginnings of one list, the longer begins with the shorter
pub begins_both : (a q p : List Bool) → BeginsWith a q → BeginsWith a p → length p ≤ length q → BeginsWith q p
begins_both a q p h k within =
    sym (ap (take (length p)) h) ∙ take-take (length p) (length q) a within ∙ k

-- the last bit apart
half_of_taken : (p q : List Bool) (k : ℕ) → k + 1 ≡ length p → length q ≡ k → BeginsWith p q → IsHalfOf p q
half_of_taken p q k e l h =
    let longer : length q < length p = omega arith in
    let last = get_or p (length q) false in
    let whole : p ≡ take (length q + 1) p = sym (take_all (length q + 1) p (omega arith)) in
    (last, whole ∙ take_more p (length q) false longer ∙ ap (λ t. t ++ last ∷ []) h)

pub parent_of : {X : Type 0} (bits : X → List Bool) (p : List Bool) (k : ℕ) (r : Option X) → k + 1 ≡ length p
    → MatchOption r (length p < k) (λ w. IsSupernet k p (bits w)) → MatchOption r (p ≡ []) (λ w. IsHalfOf p (bits w))
parent_of bits p k None e h = absurd (omega (arith, h))
parent_of bits p k (Some w) e h = half_of_taken p (bits w) k e h.0 h.1

-- ---- siblings
one_sibling : (p q r : List Bool) → AreSiblings p q → AreSiblings p r → q ≡ r
one_sibling p q r (s, b, one, two) (t, c, three, four) =
    let same = same_from_push s t b c (sym one ∙ three) in
    two ∙ ap (λ x. x ++ not b ∷ []) same.0 ∙ ap (λ x. t ++ not x ∷ []) same.1 ∙ sym four

module _ {C : Type 0} (bits : C → List Bool) (eq : C → C → Bool) (cmp : C → C → Ordering)
    (ties : (a b : C) → eq a b ≡ eq_by_cmp cmp a b) (ordered : (a b : C) → cmp a b ≡ bit_cmp (bits a) (bits b)) where
  -- equality of networks is that of their bits
  pub eq_bits : (a b : C) → eq a b ≡ bit_eq (bits a) (bits b)
  eq_bits a b = ties a b ∙ ap is_eq (ordered a b) ∙ sym (bit_eq_ties (bits a) (bits b))

  pub tells_sibling : (p : List Bool) (a b : C) (r : Bool) → r ≡ eq a b → AreSiblings p (bits a)
      → IsTrue r ↔ AreSiblings p (bits b)
  tells_sibling p a b r e sibling =
      let same = bit_eq_Decides (bits a) (bits b) in
      let is : r ≡ bit_eq (bits a) (bits b) = e ∙ eq_bits a b in (
        λ t. let h : bits a ≡ bits b = same.0 (sym is ∙ t) in rw h at sibling,
        λ k. is ∙ same.1 (one_sibling p (bits a) (bits b) sibling k),
      )

pub no_sibling : (q : List Bool) → IsTrue false ↔ AreSiblings [] q
no_sibling q = (λ h. absurd (cc), λ (s, b, one, two). absurd (omega (arith, ap length one, length-append s (b ∷ []))))

-- ---- networks with addresses in common
nested_common : (w : ℕ) (p q : List Bool) → length q ≤ w → BeginsWith q p → HaveCommon w p q
nested_common w p q fits h =
    let a = first_of w q in
    let in_q : BeginsWith a q = take_at q (zeros (w - length q)) (length q) refl in
    (a, omega (arith, length-append q (zeros (w - length q)), length-replicate (w - length q) false), begins_begins a q p in_q h, in_q)

common_turned : (w : ℕ) (p q : List Bool) → HaveCommon w p q → HaveCommon w q p
common_turned w p q (a, l, one, two) = (a, l, two, one)

pub common_nested : (w : ℕ) (p q : List Bool) → HaveCommon w p q → BeginsWith p q ⊎ BeginsWith q p
common_nested w p q (a, l, one, two) = elim (cases_lt (length p) (length q)) [
  | inl shorter ↦ inr (begins_both a q p two one (omega arith))
  | inr within ↦ inl (begins_both a p q one two within)
]

pub nested_has_common : (w : ℕ) (p q : List Bool) → length p ≤ w → length q ≤ w → BeginsWith p q ⊎ BeginsWith q p → HaveCommon w p q
nested_has_common w p q first second (inl h) = common_turned w q p (nested_common w q p first h)
nested_has_common w p q first second (inr h) = nested_common w p q second h

-- what both begin with is as long as the first where that contains the second, and the other way round
shared_whole : (p q : List Bool) (n : ℕ) → IsSharedLength p q n → n ≡ length p → BeginsWith q p
shared_whole p q n is e =
    let (s, l, one, two) = is.shared in
    let same : s ≡ p = sym one ∙ take_all (length s) p (omega arith) in
    rw same at two

shared_turned : (p q : List Bool) (n : ℕ) → IsSharedLength p q n → IsSharedLength q p n
shared_turned p q n is =
    let (s, l, one, two) = is.shared in
    record { shared = (s, l, two, one); longest = λ t first second. is.longest t second first }

whole_shared : (p q : List Bool) (n : ℕ) → IsSharedLength p q n → BeginsWith q p → n ≡ length p
whole_shared p q n is h =
    let (s, l, one, two) = is.shared in
    omega (arith, is.longest p (begins_itself p) h, not_longer s p one)

pub overlap_first : (p q : List Bool) (n k : ℕ) → IsSharedLength p q n → k ≡ length p → n ≡ k
    → (w : ℕ) → length p ≤ w → length q ≤ w → IsTrue (nat_eq n k) ↔ HaveCommon w p q
overlap_first p q n k is e h w first second =
    (λ t. nested_common w p q second (shared_whole p q n is (h ∙ e)), λ c. eq-eqb n k h)

pub overlap_second : (p q : List Bool) (n k m : ℕ) → IsSharedLength p q n → k ≡ length p → ¬ (n ≡ k) → m ≡ length q
    → (w : ℕ) → length p ≤ w → length q ≤ w → IsTrue (nat_eq n m) ↔ HaveCommon w p q
overlap_second p q n k m is e other f w first second = (
  λ t. nested_has_common w p q first second (inl (shared_whole q p n (shared_turned p q n is) (eqb-true n m t ∙ f))),
  λ c. elim (common_nested w p q c) [
    | inl h ↦ eq-eqb n m (whole_shared q p n (shared_turned p q n is) h ∙ sym f)
    | inr h ↦ absurd (other (whole_shared p q n is h ∙ sym e))
  ],
)
