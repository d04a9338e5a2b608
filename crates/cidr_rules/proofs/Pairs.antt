-- What a rule of each of two lists has in common, and the packets that both decide.
use Rattle.std.proofs.Common.{◌≡◌, ◌≢◌, ℕ, ◌+◌, ◌*◌, ◌<◌, ◌≤◌, ◌⊎◌, Bool, true, false, ◌&&◌, Option, Some, None, MatchOption, List, length, get_or, take, refl, sym, ◌∙◌, ap, inl, inr, arith}
use Rattle.std.proofs.Math.Nat.{add-mul}
use Rattle.std.proofs.lemmas.Bool.{true≢false, false≢true, cases_Bool, cases_lt, and_parts, and_from, and_left, and_right}
use Rattle.std.proofs.lemmas.Nat.{mul-le}
use Rattle.cidr_rules.specs.declared.fields.Range.{Range}
use Rattle.cidr_rules.specs.declared.rules.Rule.{Rule}
use Rattle.cidr_rules.specs.declared.regions.Packet.{Packet}
use Rattle.cidr_rules.specs.Packets.{fields_of, is_in, ranges_of}
use Rattle.cidr_rules.specs.Regions.{meet, shared_of}
use Rattle.cidr_rules.specs.Lists.{is_permitted}
use Rattle.cidr_rules.specs.Searches.{AreBoth, AreDisputed, IsFree, holds_at, permits_at, stop, stops_at, differ}
use Rattle.cidr_rules.proofs.Boxes.{meet_apart, shared_both}
use Rattle.cidr_rules.proofs.Cuts.{and_yes}
use Rattle.cidr_rules.proofs.Deciding.{at_stop, holds_behind, holds_here, permits_behind, permitted_at, stop-le, stops_from, stops_parts}

pub differ_same : (b : Bool) → differ b b ≡ false
differ_same true = refl
differ_same false = refl

pub same_from : (a b : Bool) → differ a b ≡ false → a ≡ b
same_from true true e = refl
same_from true false e = absurd (true≢false e)
same_from false true e = absurd (true≢false e)
same_from false false e = refl

pub apart_from : (a b : Bool) → differ a b ≡ true → a ≢ b
apart_from a b e same = true≢false (sym e ∙ ap (λ t. differ t b) same ∙ differ_same b)

pub differ_from : (a b : Bool) → a ≢ b → differ a b ≡ true
differ_from true true apart = absurd (apart refl)
differ_from true false apart = refl
differ_from false true apart = refl
differ_from false false apart = absurd (apart refl)

-- what the test told, of the two rules
pub tested : (p q a b : Bool) (r : Bool) → p ≡ a → q ≡ b → r ≡ differ p q → differ a b ≡ r
tested p q a b r ep eq er = ap (λ t. differ t b) (sym ep) ∙ ap (λ t. differ p t) (sym eq) ∙ sym er

module _ {A : Type 0} (number : A → ℕ) where
  -- ---- what both have
  module _ (rules : List (Rule A)) (i : ℕ) (r : Rule A) (others : List (Rule A)) (j : ℕ) (q : Rule A)
      (li : i < length rules) (ri : r ≡ get_or rules i r) (lj : j < length others) (rj : q ≡ get_or others j q) where
    pub both_meet : (rs : List (Range ℕ)) → rs ≡ shared_of (ranges_of number r.region) (ranges_of number q.region)
        → (x : List ℕ) → is_in rs x ≡ (holds_at number rules i x && holds_at number others j x)
    both_meet rs e x = ap (λ (l : List (Range ℕ)). is_in l x) e ∙ shared_both (ranges_of number r.region) (ranges_of number q.region) x refl
        ∙ ap (λ b. b && is_in (ranges_of number q.region) x) (sym (holds_here number rules i r x li ri))
        ∙ ap (λ b. holds_at number rules i x && b) (sym (holds_here number others j q x lj rj))

    pub both_apart : meet (ranges_of number r.region) (ranges_of number q.region) ≡ false → (x : List ℕ) → (holds_at number rules i x && holds_at number others j x) ≡ false
    both_apart e x = elim (cases_Bool (holds_at number rules i x)) [
      | inl t ↦ and_right _ _ (holds_here number others j q x lj rj
          ∙ meet_apart (ranges_of number r.region) (ranges_of number q.region) e x (sym (holds_here number rules i r x li ri) ∙ t))
      | inr f ↦ and_left _ _ f
    ]

  pub both_first : (rules : List (Rule A)) (i : ℕ) (r : Rule A) (others : List (Rule A)) (j : ℕ) → i < length rules → r ≡ get_or rules i r → length others ≤ j
      → (x : List ℕ) → is_in (ranges_of number r.region) x ≡ (holds_at number rules i x && holds_at number others j x)
  both_first rules i r others j li ri le x = sym (ap (λ b. holds_at number rules i x && b) (holds_behind number others j x le)
      ∙ and_yes (holds_at number rules i x) ∙ holds_here number rules i r x li ri)

  pub both_second : (rules : List (Rule A)) (i : ℕ) (others : List (Rule A)) (j : ℕ) (q : Rule A) → length rules ≤ i → j < length others → q ≡ get_or others j q
      → (x : List ℕ) → is_in (ranges_of number q.region) x ≡ (holds_at number rules i x && holds_at number others j x)
  both_second rules i others j q le lj rj x = sym (ap (λ b. b && holds_at number others j x) (holds_behind number rules i x le) ∙ holds_here number others j q x lj rj)

  -- ---- two rules that do the same, and two that don't
  module _ (rules : List (Rule A)) (i : ℕ) (others : List (Rule A)) (j : ℕ) where
    pub same_action : differ (permits_at rules i) (permits_at others j) ≡ false
        → (x : List ℕ) → stops_at number rules i x ≡ true → stops_at number others j x ≡ true → is_permitted number rules x ≡ is_permitted number others x
    same_action e x si sj = permitted_at number rules i x si ∙ same_from _ _ e ∙ sym (permitted_at number others j x sj)

    -- rules that do not do the same are not both behind the last
    pub pair_within : differ (permits_at rules i) (permits_at others j) ≡ true → (i < length rules) ⊎ (j < length others)
    pair_within e = elim (cases_lt i (length rules)) [
      | inl lt ↦ inl lt
      | inr le ↦ elim (cases_lt j (length others)) [
        | inl lt ↦ inr lt
        | inr far ↦ absurd (false≢true (sym (ap (λ b. differ b (permits_at others j)) (permits_behind rules i le) ∙ ap (λ b. differ false b) (permits_behind others j far)) ∙ e))
      ]
    ]

    -- the packets of both, where the one action isn't the other
    pub disputed_both : differ (permits_at rules i) (permits_at others j) ≡ true → (found : Option (List (Range ℕ))) → AreBoth number rules i others j found
        → AreDisputed number rules i others j found
    disputed_both e None none = λ x hi hj. absurd (true≢false (sym (and_from _ _ hi hj) ∙ none x))
    disputed_both e (Some rs) both = (e, both)

    pub pair_none : AreDisputed number rules i others j None
        → (x : List ℕ) → stops_at number rules i x ≡ true → stops_at number others j x ≡ true → is_permitted number rules x ≡ is_permitted number others x
    pair_none none x si sj = same_action (none x (stops_parts number rules i x si).1 (stops_parts number others j x sj).1) x si sj

    module _ (rs : List (Range ℕ)) (both : (x : List ℕ) → is_in rs x ≡ (holds_at number rules i x && holds_at number others j x)) where
      pub pair_empty : ((x : List ℕ) → ¬ (IsFree number rs (take i rules) (take j others) x))
          → (x : List ℕ) → stops_at number rules i x ≡ true → stops_at number others j x ≡ true → is_permitted number rules x ≡ is_permitted number others x
      pair_empty none x si sj =
          let a = stops_parts number rules i x si in
          let b = stops_parts number others j x sj in
          absurd (none x (record { inside = both x ∙ and_from _ _ a.1 b.1; here = a.0; there = b.0 }))

      pub pair_some : differ (permits_at rules i) (permits_at others j) ≡ true → (x : List ℕ) → IsFree number rs (take i rules) (take j others) x
          → is_permitted number rules x ≢ is_permitted number others x
      pair_some e x free =
          let two = and_parts _ _ (sym (both x) ∙ free.inside) in
          let si : stops_at number rules i x ≡ true = stops_from number rules i x free.here two.0 in
          let sj : stops_at number others j x ≡ true = stops_from number others j x free.there two.1 in
          λ same. apart_from (permits_at rules i) (permits_at others j) e (sym (permitted_at number rules i x si) ∙ same ∙ permitted_at number others j x sj)

      pub pair_found : differ (permits_at rules i) (permits_at others j) ≡ true → (found : Option (Packet A))
          → MatchOption found ((x : List ℕ) → ¬ (IsFree number rs (take i rules) (take j others) x)) (λ p. IsFree number rs (take i rules) (take j others) (fields_of number p))
          → MatchOption found
          ((x : List ℕ) → stops_at number rules i x ≡ true → stops_at number others j x ≡ true → is_permitted number rules x ≡ is_permitted number others x)
          (λ p. is_permitted number rules (fields_of number p) ≢ is_permitted number others (fields_of number p))
      pair_found e None none = pair_empty none
      pair_found e (Some p) free = pair_some e (fields_of number p) free

  -- ---- rule by rule
  -- of the packets that a test passes, those that stop before an index are permitted by both
  abbrev pub AreSame : (List ℕ → Bool) → List (Rule A) → List (Rule A) → List (Rule A) → ℕ → Type 0
  AreSame test rules others walked n = (x : List ℕ) → test x ≡ true → stop number walked x < n → is_permitted number rules x ≡ is_permitted number others x

  pub same_none : (test : List ℕ → Bool) (rules others walked : List (Rule A)) → AreSame test rules others walked 0
  same_none test rules others walked x t lt = absurd (omega (arith, lt))

  pub same_more : (test : List ℕ → Bool) (rules others walked : List (Rule A)) (n : ℕ) → AreSame test rules others walked n
      → ((x : List ℕ) → test x ≡ true → stops_at number walked n x ≡ true → is_permitted number rules x ≡ is_permitted number others x)
      → AreSame test rules others walked (n + 1)
  same_more test rules others walked n h here x t lt = elim (cases_lt (stop number walked x) n) [
    | inl less ↦ h x t less
    | inr far ↦ here x t (at_stop number walked n x (omega (arith, far, lt)))
  ]

  -- what the last search finds, behind the last rule
  pub found_last : {X : Type 0} (Q : X → Type 0) (test : List ℕ → Bool) (rules others walked : List (Rule A)) (n : ℕ) → n ≡ length walked → AreSame test rules others walked n
      → (found : Option X)
      → MatchOption found ((x : List ℕ) → test x ≡ true → stops_at number walked (length walked) x ≡ true → is_permitted number rules x ≡ is_permitted number others x) Q
      → MatchOption found ((x : List ℕ) → test x ≡ true → is_permitted number rules x ≡ is_permitted number others x) Q
  found_last Q test rules others walked n e h None last = λ x t. elim (cases_lt (stop number walked x) n) [
    | inl less ↦ h x t less
    | inr far ↦ last x t (at_stop number walked (length walked) x (omega (arith, far, e, stop-le number walked x)))
  ]
  found_last Q test rules others walked n e h (Some p) last = last

  -- the same of all packets
  pub found_all : {X : Type 0} (Q : X → Type 0) (rules others : List (Rule A)) (n : ℕ) → n ≡ length rules → AreSame (λ _. true) rules others rules n → (found : Option X)
      → MatchOption found ((x : List ℕ) → stops_at number rules (length rules) x ≡ true → is_permitted number rules x ≡ is_permitted number others x) Q
      → MatchOption found ((x : List ℕ) → is_permitted number rules x ≡ is_permitted number others x) Q
  found_all Q rules others n e h None last = λ x. elim (cases_lt (stop number rules x) n) [
    | inl less ↦ h x refl less
    | inr far ↦ last x (at_stop number rules (length rules) x (omega (arith, far, e, stop-le number rules x)))
  ]
  found_all Q rules others n e h (Some p) last = last

-- ---- what is left of the limit
pub row_more : (j m : ℕ) → (j + 1) * m ≡ j * m + m
row_more j m = omega (arith, add-mul j 1 m)

pub row_le : (j n m : ℕ) → j ≤ n → j * m ≤ n * m
row_le j n m le = mul-le j m n m le (omega arith)

pub step_le : (j n m : ℕ) → j < n → j * m + m ≤ n * m
step_le j n m lt = omega (arith, row_more j m, row_le (j + 1) n m (omega (arith, lt)))
