-- The chain of open networks: what a network closes, and what is left open.
use Rattle.std.proofs.Common.{◌≡◌, ◌≢◌, refl, sym, ◌∙◌, ap, ap₂, subst, arith, inl, inr, ℕ, ◌-◌, ◌<◌, ◌≤◌, Bool, List, [], ◌∷◌, ◌++◌, length, take, Option, Some, None, length-take}
use Rattle.std.specs.List.{Contains}
use Rattle.std.specs.Prelude.{option_to_list}
use Rattle.std.specs.declared.cmp.Ordering.TheVariants.{Greater}
use Rattle.std.proofs.lemmas.List.{append-nil, length_push, take_at}
use Rattle.std.proofs.lemmas.List.Elements.{Contains-append_cases, Contains-append_left, Contains-append_right, Contains-push, Contains-push_cases}
use Rattle.cidr.specs.model.Bits.{bit_cmp}
use Rattle.cidr.specs.model.Network.{BeginsWith}
use Rattle.cidr_ext.specs.model.Tree.{AreSiblings}
use Rattle.cidr_table.proofs.Beginnings.{begins_between, begins_length}
use Rattle.cidr_table.proofs.MapLaws.{contains_cases, contains_first, contains_later, contains_nothing}
use Rattle.cidr_lists.specs.Findings.{AreBitsInside}
use Rattle.cidr_lists.specs.Nearness.{AreOpen, ClosesAll, HasRow, IsChain, IsClosed, IsClosing, IsLast, IsLeast}
use Rattle.cidr_lists.proofs.Nested.{around_halves, before_half, begins_same, begins_trans, less_unless_same, not_less_back, siblings_apart, strictly_inside}

module _ {C : Type 0} where
  abbrev pub same_network : (a b : C × ℕ) → a ≡ b → a.0 ≡ b.0
  same_network a b e = ap (λ (row : C × ℕ). row.0) e

  abbrev pub same_index : (a b : C × ℕ) → a ≡ b → a.1 ≡ b.1
  same_index a b e = ap (λ (row : C × ℕ). row.1) e

  pub has_first : (rows more : List (C × ℕ)) (network : C) → HasRow rows network → HasRow (rows ++ more) network
  has_first rows more network (i, c) = (i, Contains-append_left rows more (network, i) c)

  -- ---- the least index among one row more
  pub least_more : (rows : List (C × ℕ)) (row : C × ℕ) (network : C) (i : ℕ) → (network ≡ row.0 → i ≤ row.1) → IsLeast rows network i
      → IsLeast (rows ++ row ∷ []) network i
  least_more rows row network i up (here, least) = (
    Contains-append_left rows (row ∷ []) (network, i) here,
    λ j c. elim (Contains-push_cases rows row (network, j) c) [
      | inl before ↦ least j before
      | inr is ↦ omega (arith, up (sym (same_network row (network, j) is)), same_index row (network, j) is)
    ],
  )

  pub least_new : (rows : List (C × ℕ)) (row : C × ℕ) → ¬ (HasRow rows row.0) → IsLeast (rows ++ row ∷ []) row.0 row.1
  least_new rows row new = (
    Contains-push rows row,
    λ j c. elim (Contains-push_cases rows row (row.0, j) c) [
      | inl before ↦ absurd (new (j, before))
      | inr is ↦ omega (arith, same_index row (row.0, j) is)
    ],
  )

  pub least_same : (rows : List (C × ℕ)) (network : C) (i j : ℕ) → IsLeast rows network i → IsLeast rows network j → i ≡ j
  least_same rows network i j (here, least) (there, most) = omega (arith, least j there, most i here)

-- the rows passed are not behind this one, and those of its network have no greater index
abbrev pub AreBefore : {C : Type 0} → (C → List Bool) → List (C × ℕ) → C × ℕ → Type 0
AreBefore {C} bits passed row = (other : C × ℕ) → Contains passed other
    → (bit_cmp (bits other.0) (bits row.0) ≢ Greater) × (other.0 ≡ row.0 → other.1 ≤ row.1)

module _ {C : Type 0} (bits : C → List Bool) where
  pub none_open : AreOpen bits [] []
  none_open = record {
    chain = tt;
    least = λ row c. absurd (contains_nothing row c);
    around = λ row next c up b. absurd (contains_nothing row c);
    half = λ row next c up s. absurd (contains_nothing row c);
  }

  -- ---- chains
  pub chain_front : (rows more : List (C × ℕ)) → IsChain bits (rows ++ more) → IsChain bits rows
  chain_front [] more h = tt
  chain_front (outer ∷ rows) more h = (λ row c. h.0 row (Contains-append_left rows more row c), chain_front rows more h.1)

  pub chain_last : (rows : List (C × ℕ)) (last row : C × ℕ) → IsChain bits (rows ++ last ∷ []) → Contains rows row → AreBitsInside (bits last.0) (bits row.0)
  chain_last [] last row h c = absurd (contains_nothing row c)
  chain_last (outer ∷ rows) last row h c = elim (contains_cases outer row rows c) [
    | inl is ↦ subst (λ (k : C × ℕ). AreBitsInside (bits last.0) (bits k.0)) is (h.0 last (Contains-push rows last))
    | inr later ↦ chain_last rows last row h.1 later
  ]

  pub chain_push : (rows : List (C × ℕ)) (last : C × ℕ) → IsChain bits rows → ((row : C × ℕ) → Contains rows row → AreBitsInside (bits last.0) (bits row.0))
      → IsChain bits (rows ++ last ∷ [])
  chain_push [] last h inside = (λ row c. absurd (contains_nothing row c), tt)
  chain_push (outer ∷ rows) last h inside = (
    λ row c. elim (Contains-push_cases rows last row c) [
      | inl before ↦ h.0 row before
      | inr is ↦ subst (λ (k : C × ℕ). AreBitsInside (bits k.0) (bits outer.0)) is (inside outer (contains_first outer rows))
    ],
    chain_push rows last h.1 (λ row c. inside row (contains_later outer row rows c)),
  )

module _ {C : Type 0} (bits : C → List Bool) (determined : (a b : C) → bits a ≡ bits b → a ≡ b) (passed : List (C × ℕ)) where
  -- ---- closing
  module _ (row : C × ℕ) where
    pub closing_started : (nest : List (C × ℕ)) → AreBefore bits passed row → AreOpen bits passed nest → IsClosing bits passed row.0 nest None
    closing_started nest before h =
        let all : nest ≡ nest ++ [] = sym (append-nil nest) in
        record {
          chain = subst (IsChain bits) all h.chain;
          least = λ other c. h.least other (subst (λ (k : List (C × ℕ)). Contains k other) (append-nil nest) c);
          around = λ other c b. h.around other row.0 c (λ one there. (before one there).0) b;
          half = λ new other c siblings. has_first nest [] other.0 (h.half other row.0 c
              (λ one there. less_unless_same (bits one.0) (bits row.0) (before one there).0
              (λ same. new (one.1, subst (λ (k : C). Contains passed (k, one.1)) (determined one.0 row.0 same) there)))
              siblings);
        }

    -- the last open one is closed
    pub closed_more : (nest : List (C × ℕ)) (last : C × ℕ) (closed : Option (C × ℕ)) → ¬ (BeginsWith (bits row.0) (bits last.0))
        → IsClosing bits passed row.0 (nest ++ last ∷ []) closed → IsClosing bits passed row.0 nest (Some last)
    closed_more nest last closed out h = record {
      chain = chain_front bits (nest ++ last ∷ []) (option_to_list closed) h.chain;
      least = λ other c. h.least other (Contains-append_left (nest ++ last ∷ []) (option_to_list closed) other c);
      around = λ other c b.
          let (i, there) = h.around other c b in
          elim (Contains-push_cases nest last (other.0, i) there) [
            | inl left ↦ (i, left)
            | inr is ↦ absurd (out (subst (λ (k : C). BeginsWith (bits row.0) (bits k)) (sym (same_network last (other.0, i) is)) b))
          ];
      half = λ new other c siblings.
          let (i, there) = h.half new other c siblings in
          elim (Contains-append_cases (nest ++ last ∷ []) (option_to_list closed) (other.0, i) there) [
            | inl left ↦ (i, left)
            | inr gone ↦ absurd (earlier closed (other.0, i) h.chain gone siblings)
          ];
    }
      where
        earlier : (closed : Option (C × ℕ)) (one : C × ℕ) → IsChain bits ((nest ++ last ∷ []) ++ option_to_list closed) → Contains (option_to_list closed) one
            → ¬ (AreSiblings (bits row.0) (bits one.0))
        earlier None one chain c siblings = contains_nothing one c
        earlier (Some first) one chain c siblings = elim (contains_cases first one [] c) [
          | inr none ↦ contains_nothing one none
          | inl is ↦
              let inside : AreBitsInside (bits first.0) (bits last.0) = chain_last bits (nest ++ last ∷ []) first last chain (Contains-push nest last) in
              out (around_halves (bits row.0) (bits one.0) (bits last.0) siblings
              (subst (λ (k : C × ℕ). AreBitsInside (bits k.0) (bits last.0)) is inside))
        ]

    -- the last open one contains the network, and so do those before it
    pub closed_here : (nest front : List (C × ℕ)) (last : C × ℕ) (closed : Option (C × ℕ)) → nest ≡ front ++ last ∷ [] → BeginsWith (bits row.0) (bits last.0)
        → IsClosing bits passed row.0 nest closed → IsClosed bits passed row.0 nest closed
    closed_here nest front last closed is begins h = record {
      closing = h;
      contain = λ other c. elim (Contains-push_cases front last other (subst (λ (k : List (C × ℕ)). Contains k other) is c)) [
        | inr same ↦ subst (λ (k : C × ℕ). BeginsWith (bits row.0) (bits k.0)) same begins
        | inl before ↦
            let chain = subst (IsChain bits) is (chain_front bits nest (option_to_list closed) h.chain) in
            begins_trans (bits row.0) (bits last.0) (bits other.0) begins (chain_last bits front last other chain before).0
      ];
    }

    pub closed_whole : (nest : List (C × ℕ)) (closed : Option (C × ℕ)) → nest ≡ [] → IsClosing bits passed row.0 nest closed → IsClosed bits passed row.0 nest closed
    closed_whole nest closed none h = record {
      closing = h;
      contain = λ other c. absurd (contains_nothing other (subst (λ (k : List (C × ℕ)). Contains k other) none c));
    }

    -- ---- when all are closed that do not contain the network
    module _ (nest : List (C × ℕ)) (closed : Option (C × ℕ)) (h : IsClosed bits passed row.0 nest closed) where
      pub open_least : (other : C × ℕ) → Contains nest other → IsLeast passed other.0 other.1
      open_least other c = h.closing.least other (Contains-append_left nest (option_to_list closed) other c)

      pub open_chain : IsChain bits nest
      open_chain = chain_front bits nest (option_to_list closed) h.closing.chain

      -- the network is new if the last open one is another
      pub new_network : (outer : Option (C × ℕ)) → IsLast nest outer → ((last : C × ℕ) → outer ≡ Some last → last.0 ≢ row.0) → ¬ (HasRow passed row.0)
      new_network None none other (i, c) =
          let (j, there) = h.closing.around (row.0, i) c (begins_same (bits row.0) (bits row.0) refl) in
          contains_nothing (row.0, j) (subst (λ (k : List (C × ℕ)). Contains k (row.0, j)) none there)
      new_network (Some last) (front, is) other (i, c) =
          let (j, there) = h.closing.around (row.0, i) c (begins_same (bits row.0) (bits row.0) refl) in
          let chain = subst (IsChain bits) is open_chain in
          let begins = begins_length (bits row.0) (bits last.0) (h.contain last (subst (λ (k : List (C × ℕ)). Contains k last) (sym is) (Contains-push front last))) in
          elim (Contains-push_cases front last (row.0, j) (subst (λ (k : List (C × ℕ)). Contains k (row.0, j)) is there)) [
            | inr same ↦ other last refl (same_network last (row.0, j) same)
            | inl before ↦ omega (arith, (chain_last bits front last (row.0, j) chain before).1, begins)
          ]

      pub closed_least : (one : C × ℕ) → closed ≡ Some one → IsLeast passed one.0 one.1
      closed_least one is =
          h.closing.least one (Contains-append_right nest (option_to_list closed) one
          (subst (λ (k : Option (C × ℕ)). Contains (option_to_list k) one) (sym is) (contains_first one [])))

      module _ (new : ¬ (HasRow passed row.0)) where
        pub row_inside : (other : C × ℕ) → Contains nest other → AreBitsInside (bits row.0) (bits other.0)
        row_inside other c =
            strictly_inside (bits row.0) (bits other.0) (h.contain other c)
            (λ same. new (other.1, subst (λ (k : C). Contains passed (k, other.1)) (sym (determined row.0 other.0 same)) (open_least other c).0))

        -- the other half was closed last
        pub half_closed : (other : C × ℕ) → Contains passed other → AreSiblings (bits row.0) (bits other.0) → (one : C × ℕ) × (closed ≡ Some one) × (one.0 ≡ other.0)
        half_closed other c siblings =
            let (i, there) = h.closing.half new other c siblings in
            elim (Contains-append_cases nest (option_to_list closed) (other.0, i) there) [
              | inl left ↦ absurd (siblings_apart (bits row.0) (bits other.0) siblings (h.contain (other.0, i) left))
              | inr gone ↦ last_closed closed (other.0, i) gone
            ]
          where
            last_closed : (closed : Option (C × ℕ)) (one : C × ℕ) → Contains (option_to_list closed) one → (first : C × ℕ) × (closed ≡ Some first) × (first.0 ≡ one.0)
            last_closed None one c = absurd (contains_nothing one c)
            last_closed (Some first) one c = elim (contains_cases first one [] c) [
              | inl is ↦ (first, refl, same_network first one is)
              | inr none ↦ absurd (contains_nothing one none)
            ]

      -- ---- and the network is open
      open_more : (next : List (C × ℕ)) → AreBefore bits passed row → IsChain bits next → ((other : C × ℕ) → Contains next other → IsLeast (passed ++ row ∷ []) other.0 other.1)
          → ((network : C) → HasRow nest network → HasRow next network) → HasRow next row.0 → AreOpen bits (passed ++ row ∷ []) next
      open_more next before chain least keeps here = record {
        chain = chain;
        least = least;
        around = λ other after c up begins. elim (Contains-push_cases passed row other c) [
          | inr same ↦ subst (HasRow next) (same_network row other same) here
          | inl there ↦ keeps other.0 (h.closing.around other there
              (begins_between (bits other.0) (bits after) (bits row.0) begins (not_less_back (bits other.0) (bits row.0) (before other there).0)
              (up row (Contains-push passed row))))
        ];
        half = λ other after c up siblings. elim (Contains-push_cases passed row other c) [
          | inr same ↦ subst (HasRow next) (same_network row other same) here
          | inl there ↦ keeps other.0 (h.closing.around other there
              (before_half (bits after) (bits other.0) (bits row.0) siblings (up other (Contains-append_left passed (row ∷ []) other there))
              (not_less_back (bits other.0) (bits row.0) (before other there).0) (up row (Contains-push passed row))))
        ];
      }

      still_least : AreBefore bits passed row → (other : C × ℕ) → Contains nest other → IsLeast (passed ++ row ∷ []) other.0 other.1
      still_least before other c =
          let least = open_least other c in
          least_more passed row other.0 other.1 (λ same. (before other least.0).1 same) least

      pub opened : AreBefore bits passed row → ¬ (HasRow passed row.0) → AreOpen bits (passed ++ row ∷ []) (nest ++ row ∷ [])
      opened before new =
          open_more (nest ++ row ∷ []) before (chain_push bits nest row open_chain (row_inside new))
          (λ other c. elim (Contains-push_cases nest row other c) [
            | inl there ↦ still_least before other there
            | inr same ↦ subst (λ (k : C × ℕ). IsLeast (passed ++ row ∷ []) k.0 k.1) same (least_new passed row new)
          ])
          (λ network has. has_first nest (row ∷ []) network has) (row.1, Contains-push nest row)

      pub left_open : AreBefore bits passed row → HasRow nest row.0 → AreOpen bits (passed ++ row ∷ []) nest
      left_open before here = open_more nest before open_chain (still_least before) (λ network has. has) here

-- the chain that a network has begun to close
abbrev pub StillCloses : {C : Type 0} → (C → List Bool) → C → List (C × ℕ) → List (C × ℕ) → Option (C × ℕ) → Type 0
StillCloses {C} bits next old new closed =
    (passed : List (C × ℕ)) → IsClosing bits passed next old None → IsClosing bits passed next new closed

module _ {C : Type 0} (bits : C → List Bool) (determined : (a b : C) → bits a ≡ bits b → a ≡ b) (next : C) (start : List (C × ℕ)) where
  pub closes_more : (old new : List (C × ℕ)) (closed : Option (C × ℕ)) (row : C × ℕ) (n : ℕ) → IsLast old (Some row) → ¬ (BeginsWith (bits next) (bits row.0))
      → n ≡ length old → new ≡ take (n - 1) old → StillCloses bits next start old closed → StillCloses bits next start new (Some row)
  closes_more old new closed row n (front, is) out size popped h passed begun =
      let at : n - 1 ≡ length front = omega (arith, size, ap length is, length_push front row) in
      let left : new ≡ front = popped ∙ (ap₂ (λ (k : ℕ) (rows : List (C × ℕ)). take k rows) at is ∙ take_at front (row ∷ []) (length front) refl) in
      subst (λ (k : List (C × ℕ)). IsClosing bits passed next k (Some row)) (sym left)
      (closed_more bits determined passed (next, 0) front row closed out (subst (λ (k : List (C × ℕ)). IsClosing bits passed next k closed) is (h passed begun)))

  pub closes_shorter : (old new : List (C × ℕ)) (row : C × ℕ) (n : ℕ) → IsLast old (Some row) → n ≡ length old → new ≡ take (n - 1) old → length new < length old
  closes_shorter old new row n (front, is) size popped =
      omega (arith, ap length popped, length-take (n - 1) old, size, ap length is, length_push front row)

  pub closes_here : (nest : List (C × ℕ)) (closed : Option (C × ℕ)) (row : C × ℕ) → IsLast nest (Some row) → BeginsWith (bits next) (bits row.0)
      → StillCloses bits next start nest closed → ClosesAll bits next start nest closed
  closes_here nest closed row (front, is) begins h passed begun =
      closed_here bits determined passed (next, 0) nest front row closed is begins (h passed begun)

  pub closes_whole : (nest : List (C × ℕ)) (closed : Option (C × ℕ)) → nest ≡ [] → StillCloses bits next start nest closed → ClosesAll bits next start nest closed
  closes_whole nest closed none h passed begun = closed_whole bits determined passed (next, 0) nest closed none (h passed begun)
