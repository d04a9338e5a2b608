-- Any calls at both ends give only items, each once, from the ends inwards, and all after enough calls.
use Rattle.std.proofs.Common.{◌≡◌, ℕ, zero, suc, ◌+◌, ◌-◌, ◌<◌, ◌≤◌, List, [], ◌∷◌, length, Some, None, slice_get, refl, sym, ap, ◌∙◌, arith, inl, inr}
use Rattle.std.proofs.lemmas.Bool.{cases_lt, cases_eq}
use Rattle.std.proofs.lemmas.Bool.Decides.{nat_tests}
use Rattle.cidr.specs.declared.inet_iterator.driving.End.{End}
use Rattle.cidr.specs.declared.inet_iterator.driving.End.TheVariants.{Front, Back}
use Rattle.std.specs.List.{Contains}
use Rattle.std.proofs.lemmas.Option.{slice_get-get_or}
use Rattle.cidr.specs.model.Walk.{answer_at, answers_after, answers_to}
use Rattle.cidr.specs.model.Calls.{HasOnce, GivesOnly, GivesOnce, GivesInward, GivesEach}

pub none_is_some : {X : Type 0} (x : X) → None ≡ Some x → ⊥
none_is_some x h = cc

module _ {X : Type 0} (items : List X) where
  abbrev place_at : ℕ → ℕ → End → ℕ
  place_at f b Front = f
  place_at f b Back = length items - 1 - b

  -- where a call has an answer
  answered : (f b : ℕ) (e : End) → f + b < length items → answer_at items f b e ≡ slice_get items (place_at f b e)
  answered f b Front m = grind (arith, nat_tests)
  answered f b Back m = grind (arith, nat_tests)

  silent : (f b : ℕ) (e : End) → length items ≤ f + b → answer_at items f b e ≡ None
  silent f b Front m = grind (arith, nat_tests)
  silent f b Back m = grind (arith, nat_tests)

  some_answer : (f b : ℕ) (e : End) (x : X) → answer_at items f b e ≡ Some x → (f + b < length items) × (slice_get items (place_at f b e) ≡ Some x)
  some_answer f b e x h = elim (cases_lt (f + b) (length items)) [
    | inl m ↦ (m, sym (answered f b e m) ∙ h)
    | inr m ↦ absurd (none_is_some x (sym (silent f b e m) ∙ h))
  ]

  some_is : {Y : Type 0} (y z : Y) → Some y ≡ Some z → y ≡ z
  some_is y z h = cc

  -- each answer is an item that no call before gave
  pub given : (f b : ℕ) (ends : List End) (k : ℕ) (x : X) → slice_get (answers_after items f b ends) k ≡ Some (Some x)
      → (place : ℕ) × (f ≤ place) × (place + b < length items) × (slice_get items place ≡ Some x)
  given f b [] k x h = absurd (none_is_some (Some x) h)
  given f b (Front ∷ ends) zero x h = let s = some_answer f b Front x (some_is (answer_at items f b Front) (Some x) h) in (f, omega arith, omega (arith, s.0), s.1)
  given f b (Front ∷ ends) (suc k) x h = let r = given (f + 1) b ends k x h in (r.0, omega (arith, r.1), r.2, r.3)
  given f b (Back ∷ ends) zero x h = let s = some_answer f b Back x (some_is (answer_at items f b Back) (Some x) h) in (length items - 1 - b, omega (arith, s.0), omega (arith, s.0), s.1)
  given f b (Back ∷ ends) (suc k) x h = let r = given f (b + 1) ends k x h in (r.0, r.1, omega (arith, r.2), r.3)

  other_end : Some Front ≡ Some Back → ⊥
  other_end h = cc

  pub given_inward : (f b : ℕ) (ends : List End) → GivesInward items ends (answers_after items f b ends)
  given_inward f b [] j k x y l h g = absurd (none_is_some (Some x) h)
  given_inward f b (e ∷ ends) j zero x y l h g = absurd (omega (arith, l))
  given_inward f b (Front ∷ ends) zero (suc k) x y l h g =
      let s = some_answer f b Front x (some_is (answer_at items f b Front) (Some x) h) in
      let r = given (f + 1) b ends k y g in
      (f, r.0, s.1, r.3, λ _. omega (arith, r.1), λ e. absurd (other_end e))
  given_inward f b (Back ∷ ends) zero (suc k) x y l h g =
      let s = some_answer f b Back x (some_is (answer_at items f b Back) (Some x) h) in
      let r = given f (b + 1) ends k y g in
      (length items - 1 - b, r.0, s.1, r.3, λ e. absurd (other_end (sym e)), λ _. omega (arith, s.0, r.2))
  given_inward f b (Front ∷ ends) (suc j) (suc k) x y l h g = given_inward (f + 1) b ends j k x y (omega (arith, l)) h g
  given_inward f b (Back ∷ ends) (suc j) (suc k) x y l h g = given_inward f (b + 1) ends j k x y (omega (arith, l)) h g

  module _ (apart : HasOnce items) where
    first_again : (f b : ℕ) (e : End) (ends : List End) (k : ℕ) (x : X) → slice_get (answers_after items f b (e ∷ ends)) 0 ≡ Some (Some x)
        → slice_get (answers_after items f b (e ∷ ends)) (suc k) ≡ Some (Some x) → ⊥
    first_again f b Front ends k x h g =
        let s = some_answer f b Front x (some_is (answer_at items f b Front) (Some x) h) in
        let r = given (f + 1) b ends k x g in
        omega (arith, r.1, apart f r.0 x s.1 r.3)
    first_again f b Back ends k x h g =
        let s = some_answer f b Back x (some_is (answer_at items f b Back) (Some x) h) in
        let r = given f (b + 1) ends k x g in
        omega (arith, s.0, r.2, apart (length items - 1 - b) r.0 x s.1 r.3)

    pub given_once : (f b : ℕ) (ends : List End) (j k : ℕ) (x : X) → slice_get (answers_after items f b ends) j ≡ Some (Some x)
        → slice_get (answers_after items f b ends) k ≡ Some (Some x) → j ≡ k
    given_once f b [] j k x h g = absurd (none_is_some (Some x) h)
    given_once f b (e ∷ ends) zero zero x h g = refl
    given_once f b (e ∷ ends) zero (suc k) x h g = absurd (first_again f b e ends k x h g)
    given_once f b (e ∷ ends) (suc j) zero x h g = absurd (first_again f b e ends j x g h)
    given_once f b (Front ∷ ends) (suc j) (suc k) x h g = ap suc (given_once (f + 1) b ends j k x h g)
    given_once f b (Back ∷ ends) (suc j) (suc k) x h g = ap suc (given_once f (b + 1) ends j k x h g)

  -- after as many calls as there are items all have come
  pub given_all : (f b : ℕ) (ends : List End) → length items ≤ f + b + length ends → (p : ℕ) (x : X) → f ≤ p → p + b < length items
      → slice_get items p ≡ Some x → (k : ℕ) × (slice_get (answers_after items f b ends) k ≡ Some (Some x))
  given_all f b [] long p x low high at = absurd (omega (arith, long, low, high))
  given_all f b (Front ∷ ends) long p x low high at = elim (cases_eq p f) [
    | inl e ↦ (0, ap Some (answered f b Front (omega (arith, low, high)) ∙ (ap (slice_get items) (sym e) ∙ at)))
    | inr n ↦
        let more : f + 1 ≤ p = elim (cases_lt f p) [ inl l ↦ omega (arith, l) | inr g ↦ absurd (n (omega (arith, g, low))) ] in
        let r = given_all (f + 1) b ends (omega (arith, long)) p x more high at in (suc r.0, r.1)
  ]
  given_all f b (Back ∷ ends) long p x low high at = elim (cases_eq p (length items - 1 - b)) [
    | inl e ↦ (0, ap Some (answered f b Back (omega (arith, low, high)) ∙ (ap (slice_get items) (sym e) ∙ at)))
    | inr n ↦
        let less : p + (b + 1) < length items = elim (cases_lt (p + (b + 1)) (length items)) [ inl l ↦ l | inr g ↦ absurd (n (omega (arith, g, high))) ] in
        let r = given_all f (b + 1) ends (omega (arith, long)) p x low less at in (suc r.0, r.1)
  ]

pub contains_got : {X : Type 0} (xs : List X) (i : ℕ) (x : X) → slice_get xs i ≡ Some x → Contains xs x
contains_got [] i x h = absurd (none_is_some x h)
contains_got (y ∷ xs) zero x h = (0, omega arith, some_is xs y x h)
contains_got (y ∷ xs) (suc i) x h = let c = contains_got xs i x h in (suc c.0, omega (arith, c.1), c.2)

pub gives_only : {X : Type 0} (items : List X) (ends : List End) → GivesOnly items (answers_to items ends)
gives_only items ends k x h = let r = given items 0 0 ends k x h in contains_got items r.0 x r.3

pub gives_once : {X : Type 0} (items : List X) (ends : List End) → HasOnce items → GivesOnce (answers_to items ends)
gives_once items ends apart = given_once items apart 0 0 ends

pub gives_inward : {X : Type 0} (items : List X) (ends : List End) → GivesInward items ends (answers_to items ends)
gives_inward items ends = given_inward items 0 0 ends

pub gives_each : {X : Type 0} (items : List X) (ends : List End) → length items ≤ length ends → GivesEach items (answers_to items ends)
gives_each items ends long x c = given_all items 0 0 ends (omega (arith, long)) c.0 x (omega arith) (omega (arith, c.1)) (slice_get-get_or items c.0 x c.1 ∙ ap Some c.2)
