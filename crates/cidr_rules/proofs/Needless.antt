-- Rules that decide no packet, lists without them, and rules that may go.
use Rattle.std.proofs.Common.{◌≡◌, ◌≢◌, ◌↔◌, ℕ, zero, suc, ◌+◌, ◌*◌, ◌<◌, ◌≤◌, true, false, ◌||◌, if◌then◌else◌, Some, List, [], ◌∷◌, ◌++◌, length, get_or, take, drop, set, refl, sym, ◌∙◌, ap, subst, inl, inr, arith}
use Rattle.std.specs.List.{Contains, remove}
use Rattle.std.specs.List.Sorted.{IsStrictlyIncreasing}
use Rattle.std.proofs.lemmas.Bool.{cases_Bool, cases_lt, or_parts, false_from_ne_true}
use Rattle.std.proofs.lemmas.Nat.{mul-le}
use Rattle.std.proofs.lemmas.List.{get_or_append_left, get_or_default, get_or_push, length_push, take-append-le, take_at, take_more}
use Rattle.std.proofs.lemmas.List.Elements.{Contains-push, Contains-push_cases, Contains-append_left}
use Rattle.cidr_rules.specs.declared.rules.Rule.{Rule}
use Rattle.cidr_rules.specs.Packets.{is_in, ranges_of}
use Rattle.cidr_rules.specs.Lists.{decided, is_permitted, is_permit, most_parts, IsRedundant, IsShadowed}
use Rattle.cidr_rules.specs.Searches.{IsFree, is_held, holds_at, stops_at}
use Rattle.cidr_rules.proofs.Deciding.{decided_at, holds_here, index_here, stops_from, stops_of, stops_parts, held_push, permitted_push}
use Rattle.cidr_rules.proofs.Holes.{most_more}
use Rattle.cidr_rules.proofs.Steps.{nth}

-- ---- indices told so far
increasing_push : (ns : List ℕ) (n : ℕ) → IsStrictlyIncreasing ns → ((m : ℕ) → Contains ns m → m < n) → IsStrictlyIncreasing (ns ++ n ∷ [])
increasing_push ns n h below k l = elim (cases_lt (k + 1) (length ns)) [
  | inl lt ↦ rw (get_or_append_left ns (n ∷ []) 0 k (omega arith), get_or_append_left ns (n ∷ []) 0 (k + 1) lt) (h k lt)
  | inr le ↦
      let last : length ns ≡ k + 1 = omega (arith, length_push ns n, l) in
      rw (get_or_append_left ns (n ∷ []) 0 k (omega arith), get_or_push ns n 0 (k + 1) last)
      (below (get_or ns k 0) (k, omega arith, get_or_default ns k (get_or ns k 0) 0 (omega arith)))
]

-- the indices below i of which a fact is true
pub record AreIndices (S : ℕ → Type 0) (i : ℕ) (out : List ℕ) : Type 0 where
  pub indices : (j : ℕ) → Contains out j ↔ ((j < i) × S j)
  pub ascending : IsStrictlyIncreasing out

module _ (S : ℕ → Type 0) (i : ℕ) (out : List ℕ) (h : AreIndices S i out) where
  pub index_pushed : S i → AreIndices S (i + 1) (out ++ i ∷ [])
  index_pushed s = record {
    indices = λ j. (
      λ c. elim (Contains-push_cases out i j c) [
        | inl d ↦ let k = (h.indices j).0 d in (omega (arith, k.0), k.1)
        | inr e ↦ (omega (arith, e), subst S e s)
      ],
      λ k. elim (cases_lt j i) [
        | inl lt ↦ Contains-append_left out (i ∷ []) j ((h.indices j).1 (lt, k.1))
        | inr le ↦ let e : i ≡ j = omega (arith, k.0, le) in subst (Contains (out ++ i ∷ [])) e (Contains-push out i)
      ],
    );
    ascending = increasing_push out i h.ascending (λ m d. ((h.indices m).0 d).0);
  }

  pub index_skipped : ¬ (S i) → AreIndices S (i + 1) out
  index_skipped n = record {
    indices = λ j. (
      λ c. let k = (h.indices j).0 c in (omega (arith, k.0), k.1),
      λ k. elim (cases_lt j i) [
        | inl lt ↦ (h.indices j).1 (lt, k.1)
        | inr le ↦ let e : j ≡ i = omega (arith, k.0, le) in absurd (n (subst S e k.1))
      ],
    );
    ascending = h.ascending;
  }

module _ {A : Type 0} (number : A → ℕ) where
  -- ---- a rule and the packets that no earlier rule has
  module _ (rules : List (Rule A)) (i : ℕ) (r : Rule A) (lt : i < length rules) (is : r ≡ get_or rules i r) where
    pub used_at : (x : List ℕ) → IsFree number (ranges_of number r.region) (take i rules) [] x → decided number rules x ≡ Some i
    used_at x free = decided_at number rules i x (omega (arith, lt)) (stops_from number rules i x free.here (holds_here number rules i r x lt is ∙ free.inside)) ∙ index_here rules i lt

    pub shadowed_at : ((x : List ℕ) → ¬ (IsFree number (ranges_of number r.region) (take i rules) [] x)) → IsShadowed number rules i
    shadowed_at none = (
      lt,
      λ x e.
          let two = stops_parts number rules i x (stops_of number rules i x e) in
          none x (record { inside = sym (holds_here number rules i r x lt is) ∙ two.1; here = two.0; there = refl }),
    )

  -- ---- lists without shadowed rules
  pub not_permitted : (rules : List (Rule A)) (x : List ℕ) → is_held number rules x ≡ false → is_permitted number rules x ≡ false
  unfolding is_permitted
  not_permitted [] x e = refl
  not_permitted (r ∷ rules) x e =
      let two = or_parts (is_in (ranges_of number r.region) x) (is_held number rules x) e in
      rw two.0 (not_permitted rules x two.1)

  -- each rule decides a packet
  abbrev pub AreUsed : List (Rule A) → Type 0
  AreUsed rules = (i : ℕ) → i < length rules → (x : List ℕ) × (decided number rules x ≡ Some i)

  module _ (rules : List (Rule A)) (r : Rule A) where
    -- what the rules decide stays so where one more stands behind them
    decided_still : (i : ℕ) (x : List ℕ) → i < length rules → decided number rules x ≡ Some i → decided number (rules ++ r ∷ []) x ≡ Some i
    decided_still i x lt e =
        let more = rules ++ r ∷ [] in
        let long : i < length more = omega (arith, length_push rules r, lt) in
        let q = get_or rules i r in
        let own : q ≡ get_or rules i q = get_or_default rules i r q lt in
        let still : q ≡ get_or more i q = own ∙ sym (get_or_append_left rules (r ∷ []) q i lt) in
        let two = stops_parts number rules i x (stops_of number rules i x e) in
        let free : is_held number (take i more) x ≡ false = ap (λ (l : List (Rule A)). is_held number l x) (take-append-le i rules (r ∷ []) (omega (arith, lt))) ∙ two.0 in
        let here : holds_at number more i x ≡ true = holds_here number more i q x long still ∙ sym (holds_here number rules i q x lt own) ∙ two.1 in
        decided_at number more i x (omega (arith, long)) (stops_from number more i x free here) ∙ index_here more i long

    decided_last : (x : List ℕ) → is_held number rules x ≡ false → is_in (ranges_of number r.region) x ≡ true → decided number (rules ++ r ∷ []) x ≡ Some (length rules)
    decided_last x out in' =
        let more = rules ++ r ∷ [] in
        let n = length rules in
        let long : n < length more = omega (arith, length_push rules r) in
        let free : is_held number (take n more) x ≡ false = ap (λ (l : List (Rule A)). is_held number l x) (take_at rules (r ∷ []) n refl) ∙ out in
        let here : holds_at number more n x ≡ true = holds_here number more n r x long (sym (get_or_push rules r r n refl)) ∙ in' in
        decided_at number more n x (omega (arith, long)) (stops_from number more n x free here) ∙ index_here more n long

    used_push : AreUsed rules → (x : List ℕ) → is_held number rules x ≡ false → is_in (ranges_of number r.region) x ≡ true → AreUsed (rules ++ r ∷ [])
    used_push used x out in' i lt = elim (cases_lt i (length rules)) [
      | inl short ↦ let k = used i short in (k.0, decided_still i k.0 short k.1)
      | inr far ↦
          let e : length rules ≡ i = omega (arith, far, lt, length_push rules r) in
          subst (λ j. (y : List ℕ) × (decided number (rules ++ r ∷ []) y ≡ Some j)) e (x, decided_last x out in')
    ]

  -- a list decides as the first rules of another, and each of its rules decides a packet
  pub record IsAlike (out rules : List (Rule A)) : Type 0 where
    pub held : (x : List ℕ) → is_held number out x ≡ is_held number rules x
    pub permitted : (x : List ℕ) → is_permitted number out x ≡ is_permitted number rules x
    pub used : AreUsed out

  module _ (rules : List (Rule A)) (i : ℕ) (r : Rule A) (lt : i < length rules) (is : r ≡ get_or rules i r) (out : List (Rule A)) (h : IsAlike out (take i rules)) where
    split : take (i + 1) rules ≡ take i rules ++ r ∷ []
    split = take_more rules i r lt ∙ ap (λ q. take i rules ++ q ∷ []) (sym is)

    pub alike_pushed : (x : List ℕ) → decided number rules x ≡ Some i → IsAlike (out ++ r ∷ []) (take (i + 1) rules)
    alike_pushed y e =
        let two = stops_parts number rules i y (stops_of number rules i y e) in
        record {
          held = λ x. held_push number out r x ∙ ap (λ b. b || is_in (ranges_of number r.region) x) (h.held x) ∙ sym (held_push number (take i rules) r x)
              ∙ ap (λ (l : List (Rule A)). is_held number l x) (sym split);
          permitted = λ x. permitted_push number out r x
              ∙ ap (λ b. if b then is_permitted number out x else (if is_in (ranges_of number r.region) x then is_permit r.action else false)) (h.held x)
              ∙ ap (λ b. if is_held number (take i rules) x then b else (if is_in (ranges_of number r.region) x then is_permit r.action else false)) (h.permitted x)
              ∙ sym (permitted_push number (take i rules) r x) ∙ ap (λ (l : List (Rule A)). is_permitted number l x) (sym split);
          used = used_push out r h.used y (h.held y ∙ two.0) (sym (holds_here number rules i r y lt is) ∙ two.1);
        }

    pub alike_skipped : IsShadowed number rules i → IsAlike out (take (i + 1) rules)
    alike_skipped dead = record {
      held = λ x. h.held x ∙ sym (same x).0;
      permitted = λ x. h.permitted x ∙ sym (same x).1;
      used = h.used;
    }
      where
        same : (x : List ℕ) → (is_held number (take (i + 1) rules) x ≡ is_held number (take i rules) x) × (is_permitted number (take (i + 1) rules) x ≡ is_permitted number (take i rules) x)
        same x = elim (cases_Bool (is_held number (take i rules) x)) [
          | inl t ↦ (
            ap (λ (l : List (Rule A)). is_held number l x) split ∙ held_push number (take i rules) r x ∙ ap (λ b. b || is_in (ranges_of number r.region) x) t ∙ sym t,
            ap (λ (l : List (Rule A)). is_permitted number l x) split ∙ permitted_push number (take i rules) r x
                ∙ ap (λ b. if b then is_permitted number (take i rules) x else (if is_in (ranges_of number r.region) x then is_permit r.action else false)) t,
          )
          | inr f ↦
              let out' : is_in (ranges_of number r.region) x ≡ false = false_from_ne_true _ (λ in'.
              dead.1 x (used_at rules i r lt is x (record { inside = in'; here = f; there = refl }))) in (
                ap (λ (l : List (Rule A)). is_held number l x) split ∙ held_push number (take i rules) r x ∙ ap (λ b. b || is_in (ranges_of number r.region) x) f ∙ out' ∙ sym f,
                ap (λ (l : List (Rule A)). is_permitted number l x) split ∙ permitted_push number (take i rules) r x
                    ∙ ap (λ b. if b then is_permitted number (take i rules) x else (if is_in (ranges_of number r.region) x then is_permit r.action else false)) f
                    ∙ ap (λ b. if b then is_permit r.action else false) out' ∙ sym (not_permitted (take i rules) x f),
              )
        ]

  pub alike_without : (rules : List (Rule A)) (i : ℕ) (lt : i < length rules) (out : List (Rule A)) → IsAlike out (take i rules) → IsShadowed number rules i
      → IsAlike out (take (i + 1) rules)
  alike_without rules i lt out h dead =
      let r = get_or rules i (nth rules i lt) in
      alike_skipped rules i r lt (get_or_default rules i (nth rules i lt) r lt) out h dead

  -- ---- rules that may go
  -- a packet that another rule decides is permitted as before
  removed_same : (rules : List (Rule A)) (i : ℕ) (x : List ℕ) → stops_at number rules i x ≡ false → is_permitted number (remove rules i) x ≡ is_permitted number rules x
  unfolding is_permitted holds_at
  removed_same [] zero x e = refl
  removed_same [] (suc i) x e = refl
  removed_same (r ∷ rules) zero x e = rw e refl
  removed_same (r ∷ rules) (suc i) x e = elim (cases_Bool (is_in (ranges_of number r.region) x)) [
    | inl t ↦ rw t refl
    | inr f ↦ rw f (removed_same rules i x (rw f at e))
  ]

  module _ (rules others : List (Rule A)) (i : ℕ) (lt : i < length rules) (is : others ≡ remove rules i) where
    pub redundant_at : ((x : List ℕ) → stops_at number rules i x ≡ true → is_permitted number rules x ≡ is_permitted number others x) → IsRedundant number rules i
    redundant_at same = (
      lt,
      λ x. elim (cases_Bool (stops_at number rules i x)) [
        | inl t ↦ ap (λ (l : List (Rule A)). is_permitted number l x) (sym is) ∙ sym (same x t)
        | inr f ↦ removed_same rules i x f
      ],
    )

    pub needed_at : (x : List ℕ) → is_permitted number rules x ≢ is_permitted number others x → ¬ (IsRedundant number rules i)
    needed_at x apart (_, same) = apart (sym (same x) ∙ ap (λ (l : List (Rule A)). is_permitted number l x) (sym is))

-- ---- the list without one rule, rule by rule
pub removed_next : {X : Type 0} (xs : List X) (i : ℕ) (x : X) → suc i < length xs → x ≡ get_or xs i x → set (remove xs i) i x ≡ remove xs (suc i)
removed_next [] i x lt is = absurd (omega (arith, lt))
removed_next (y ∷ []) i x lt is = absurd (omega (arith, lt))
removed_next (y ∷ z ∷ xs) zero x lt is = ap (λ q. q ∷ xs) is
removed_next (y ∷ z ∷ xs) (suc i) x lt is = ap (λ l. y ∷ l) (removed_next (z ∷ xs) i x (omega (arith, lt)) is)

pub removed_length : {X : Type 0} (xs : List X) (i : ℕ) → i < length xs → length (remove xs i) + 1 ≡ length xs
removed_length [] i lt = absurd (omega (arith, lt))
removed_length (y ∷ xs) zero lt = omega arith
removed_length (y ∷ xs) (suc i) lt = let e = removed_length xs i (omega (arith, lt)) in omega (arith, e)

pub behind_more : {X : Type 0} (xs : List X) (i : ℕ) (x : X) → 1 ≤ i → i < length xs → x ≡ get_or xs i x → drop 1 (take (i + 1) xs) ≡ drop 1 (take i xs) ++ x ∷ []
behind_more [] i x some lt is = absurd (omega (arith, lt))
behind_more (y ∷ xs) zero x some lt is = absurd (omega (arith, some))
behind_more (y ∷ xs) (suc i) x some lt is =
    let e : suc i + 1 ≡ suc (i + 1) = omega arith in
    ap (λ n. drop 1 (take n (y ∷ xs))) e ∙ take_more xs i x (omega (arith, lt)) ∙ ap (λ q. take i xs ++ q ∷ []) (sym is)

-- how many parts are looked at for one rule and the list without it
pub without_bound : {X : Type 0} (xs rest : List X) (i : ℕ) → i < length xs → rest ≡ remove xs i
    → (length rest + 1) * most_parts (length xs + length rest) ≤ length xs * most_parts (2 * length xs)
without_bound xs rest i lt is =
    let one : length rest + 1 ≡ length xs = ap (λ l. length l + 1) is ∙ removed_length xs i lt in
    mul-le (length rest + 1) (most_parts (length xs + length rest)) (length xs) (most_parts (2 * length xs)) (omega (arith, one))
    (most_more (length xs + length rest) (2 * length xs) (omega (arith, one)))
