-- Which rule decides a packet, by its index.
use Rattle.std.proofs.Common.{◌≡◌, ℕ, zero, suc, ◌+◌, ◌<◌, ◌≤◌, Bool, true, false, ◌||◌, not, nat_lt, nat_eq, if◌then◌else◌, Some, None, List, [], ◌∷◌, ◌++◌, length, get_or, take, drop, refl, sym, ◌∙◌, ap, inl, inr, arith}
use Rattle.std.proofs.lemmas.Bool.{false≢true, lt-ltb, eq-eqb, eqb-true, cases_Bool}
use Rattle.std.proofs.lemmas.List.{drop_more, drop_all}
use Rattle.std.proofs.lemmas.List.Sums.{prefix_len-le-length}
use Rattle.std.proofs.lemmas.List.Folds.{list_any-append, list_any_more}
use Rattle.cidr_rules.specs.declared.rules.Rule.{Rule}
use Rattle.cidr_rules.specs.Packets.{is_in, ranges_of}
use Rattle.cidr_rules.specs.Lists.{decided, is_permitted, is_permit}
use Rattle.cidr_rules.specs.Searches.{is_held, index_at, permits_at, holds_at, stop, stops_at}
use Rattle.cidr_rules.proofs.Boxes.{same_tests}

pub or_no : (b : Bool) → (b || false) ≡ b
or_no true = refl
or_no false = refl

permits_get : {A : Type 0} (rules : List (Rule A)) (i : ℕ) (d : Rule A) → i < length rules → permits_at rules i ≡ is_permit (get_or rules i d).action
unfolding permits_at
permits_get [] i d lt = absurd (omega (arith, lt))
permits_get (r ∷ rs) zero d lt = refl
permits_get (r ∷ rs) (suc i) d lt = permits_get rs i d (omega (arith, lt))

pub permits_here : {A : Type 0} (rules : List (Rule A)) (i : ℕ) (r : Rule A) → i < length rules → r ≡ get_or rules i r → permits_at rules i ≡ is_permit r.action
permits_here {A} rules i r lt is = permits_get rules i r lt ∙ ap (λ (q : Rule A). is_permit q.action) (sym is)

pub permits_behind : {A : Type 0} (rules : List (Rule A)) (i : ℕ) → length rules ≤ i → permits_at rules i ≡ false
unfolding permits_at
permits_behind [] i le = refl
permits_behind (r ∷ rs) zero le = absurd (omega (arith, le))
permits_behind (r ∷ rs) (suc i) le = permits_behind rs i (omega (arith, le))

pub index_here : {A : Type 0} (rules : List (Rule A)) (i : ℕ) → i < length rules → index_at rules i ≡ Some i
index_here rules i lt = rw (lt-ltb i (length rules) lt) refl

module _ {A : Type 0} (number : A → ℕ) where
  pub stop-le : (rules : List (Rule A)) (x : List ℕ) → stop number rules x ≤ length rules
  stop-le rules x = prefix_len-le-length (λ r. not (is_in (ranges_of number r.region) x)) rules

  pub stop_is : (rules : List (Rule A)) (i : ℕ) (x : List ℕ) → i ≤ length rules → stops_at number rules i x ≡ true → stop number rules x ≡ i
  unfolding holds_at
  stop_is [] i x le e = omega (arith, le)
  stop_is (r ∷ rs) zero x le e = rw e refl
  stop_is (r ∷ rs) (suc i) x le e = elim (cases_Bool (is_in (ranges_of number r.region) x)) [
    | inl t ↦ absurd (false≢true (rw t at e))
    | inr f ↦ let k : stop number rs x ≡ i = stop_is rs i x (omega (arith, le)) (rw f at e) in rw f (omega (arith, k))
  ]

  pub at_stop : (rules : List (Rule A)) (i : ℕ) (x : List ℕ) → stop number rules x ≡ i → stops_at number rules i x ≡ true
  unfolding holds_at
  at_stop [] zero x e = refl
  at_stop [] (suc i) x e = refl
  at_stop (r ∷ rs) zero x e = elim (cases_Bool (is_in (ranges_of number r.region) x)) [
    | inl t ↦ t
    | inr f ↦ let k : 1 + stop number rs x ≡ 0 = rw f at e in absurd (omega (arith, k))
  ]
  at_stop (r ∷ rs) (suc i) x e = elim (cases_Bool (is_in (ranges_of number r.region) x)) [
    | inl t ↦ let k : 0 ≡ suc i = rw t at e in absurd (omega (arith, k))
    | inr f ↦ let k : 1 + stop number rs x ≡ suc i = rw f at e in rw f (at_stop rs i x (omega (arith, k)))
  ]

  pub stops_where : (rules : List (Rule A)) (i : ℕ) (x : List ℕ) → i ≤ length rules → stops_at number rules i x ≡ nat_eq (stop number rules x) i
  stops_where rules i x le = same_tests _ _
      (λ e. eq-eqb _ _ (stop_is rules i x le e))
      (λ e. at_stop rules i x (eqb-true _ _ e))

  pub decided_at : (rules : List (Rule A)) (i : ℕ) (x : List ℕ) → i ≤ length rules → stops_at number rules i x ≡ true → decided number rules x ≡ index_at rules i
  decided_at rules i x le e = ap (λ k. index_at rules k) (stop_is rules i x le e)

  pub permitted_at : (rules : List (Rule A)) (i : ℕ) (x : List ℕ) → stops_at number rules i x ≡ true → is_permitted number rules x ≡ permits_at rules i
  unfolding is_permitted permits_at holds_at
  permitted_at [] i x e = refl
  permitted_at (r ∷ rs) zero x e = rw e refl
  permitted_at (r ∷ rs) (suc i) x e = elim (cases_Bool (is_in (ranges_of number r.region) x)) [
    | inl t ↦ absurd (false≢true (rw t at e))
    | inr f ↦ rw f (permitted_at rs i x (rw f at e))
  ]

  pub stops_parts : (rules : List (Rule A)) (i : ℕ) (x : List ℕ) → stops_at number rules i x ≡ true → (is_held number (take i rules) x ≡ false) × (holds_at number rules i x ≡ true)
  stops_parts rules i x e = elim (cases_Bool (is_held number (take i rules) x)) [
    | inl t ↦ absurd (false≢true (rw t at e))
    | inr f ↦ (f, rw f at e)
  ]

  pub stops_from : (rules : List (Rule A)) (i : ℕ) (x : List ℕ) → is_held number (take i rules) x ≡ false → holds_at number rules i x ≡ true → stops_at number rules i x ≡ true
  stops_from rules i x f e = rw f e

  holds_get : (rules : List (Rule A)) (i : ℕ) (d : Rule A) (x : List ℕ) → i < length rules → holds_at number rules i x ≡ is_in (ranges_of number (get_or rules i d).region) x
  unfolding holds_at
  holds_get [] i d x lt = absurd (omega (arith, lt))
  holds_get (r ∷ rs) zero d x lt = refl
  holds_get (r ∷ rs) (suc i) d x lt = holds_get rs i d x (omega (arith, lt))

  pub holds_here : (rules : List (Rule A)) (i : ℕ) (r : Rule A) (x : List ℕ) → i < length rules → r ≡ get_or rules i r → holds_at number rules i x ≡ is_in (ranges_of number r.region) x
  holds_here rules i r x lt is = holds_get rules i r x lt ∙ ap (λ (q : Rule A). is_in (ranges_of number q.region) x) (sym is)

  pub holds_behind : (rules : List (Rule A)) (i : ℕ) (x : List ℕ) → length rules ≤ i → holds_at number rules i x ≡ true
  unfolding holds_at
  holds_behind [] i x le = refl
  holds_behind (r ∷ rs) zero x le = absurd (omega (arith, le))
  holds_behind (r ∷ rs) (suc i) x le = holds_behind rs i x (omega (arith, le))

  -- a packet that is decided by the rule at an index stops there
  pub stops_of : (rules : List (Rule A)) (i : ℕ) (x : List ℕ) → decided number rules x ≡ Some i → stops_at number rules i x ≡ true
  stops_of rules i x e = elim (cases_Bool (nat_lt (stop number rules x) (length rules))) [
    | inl t ↦ let k : Some (stop number rules x) ≡ Some i = rw t at e in let same : stop number rules x ≡ i = cc k in at_stop rules i x same
    | inr f ↦ let k : None ≡ Some i = rw f at e in absurd (cc k)
  ]

  -- ---- one rule more
  pub held_more : (rules : List (Rule A)) (i : ℕ) (r : Rule A) (x : List ℕ) → i < length rules → r ≡ get_or rules i r
      → is_held number (take (i + 1) rules) x ≡ (is_held number (take i rules) x || is_in (ranges_of number r.region) x)
  held_more rules i r x lt is = list_any_more (λ q. is_in (ranges_of number q.region) x) rules i r lt
      ∙ ap (λ (q : Rule A). is_held number (take i rules) x || is_in (ranges_of number q.region) x) (sym is)

  pub held_push : (rules : List (Rule A)) (r : Rule A) (x : List ℕ) → is_held number (rules ++ r ∷ []) x ≡ (is_held number rules x || is_in (ranges_of number r.region) x)
  held_push rules r x = list_any-append (λ q. is_in (ranges_of number q.region) x) rules (r ∷ []) ∙ ap (λ b. is_held number rules x || b) (or_no (is_in (ranges_of number r.region) x))

  pub permitted_push : (rules : List (Rule A)) (r : Rule A) (x : List ℕ) → is_permitted number (rules ++ r ∷ []) x
      ≡ (if is_held number rules x then is_permitted number rules x else (if is_in (ranges_of number r.region) x then is_permit r.action else false))
  unfolding is_permitted
  permitted_push [] r x = refl
  permitted_push (q ∷ rules) r x = elim (cases_Bool (is_in (ranges_of number q.region) x)) [
    | inl t ↦ rw t refl
    | inr f ↦ rw f (permitted_push rules r x)
  ]

  -- ---- what is left of a list
  module _ (rules : List (Rule A)) (i : ℕ) (r : Rule A) (x : List ℕ) (lt : i < length rules) (is : r ≡ get_or rules i r) where
    front : drop i rules ≡ r ∷ drop (i + 1) rules
    front = drop_more rules i r lt ∙ ap (λ q. q ∷ drop (i + 1) rules) (sym is)

    pub permitted_held : is_in (ranges_of number r.region) x ≡ true → is_permitted number (drop i rules) x ≡ is_permit r.action
    unfolding is_permitted
    permitted_held e = rw front (rw e refl)

    pub permitted_other : is_in (ranges_of number r.region) x ≡ false → is_permitted number (drop i rules) x ≡ is_permitted number (drop (i + 1) rules) x
    unfolding is_permitted
    permitted_other e = rw front (rw e refl)

  pub permitted_end : (rules : List (Rule A)) (i : ℕ) (x : List ℕ) → length rules ≤ i → is_permitted number (drop i rules) x ≡ false
  unfolding is_permitted
  permitted_end rules i x le = rw (drop_all i rules le) refl
