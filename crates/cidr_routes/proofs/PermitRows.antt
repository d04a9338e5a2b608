-- What a prefix list permits as rows, one length after the other.
use Rattle.std.proofs.Common.{◌≡◌, ◌↔◌, ◌⊎◌, ℕ, ◌+◌, ◌-◌, ◌<◌, ◌≤◌, Bool, true, false, cond, List, [], ◌∷◌, ◌++◌, length, take, map, refl, sym, ap, ◌∙◌, subst, arith, inl, inr}
use Rattle.std.proofs.lemmas.Bool.{cases_lt}
use Rattle.std.proofs.lemmas.List.{length-take}
use Rattle.std.proofs.lemmas.List.Elements.{Contains-append_left, Contains-push, Contains-push_cases}
use Rattle.std.specs.List.{Contains}
use Rattle.cidr.specs.model.Network.{BeginsWith}
use Rattle.cidr_table.specs.model.Cover.{Covers, IsFull, parent}
use Rattle.cidr_table.proofs.Beginnings.{begins_first}
use Rattle.cidr_table.proofs.Halves.{begins_begins, begins_itself}
use Rattle.cidr_table.proofs.MapLaws.{contains_first, contains_later, contains_cases, contains_nothing}
use Rattle.cidr_sets.specs.model.Sets.{IsSetOf}
use Rattle.cidr_sets.proofs.Addresses.{covers_by, covers_to, map_contains, map_contained, set_alike}
use Rattle.cidr_sets.specs.declared.access.Action.TheVariants.{Permit}
use Rattle.cidr_routes.specs.declared.lists.Row.{Row}
use Rattle.cidr_routes.specs.Lengths.{AreBegun, AreContinued, AreSoFar, IsContinued, IsInOpen, IsSoFar, has_length, rules_of}
use Rattle.cidr_routes.specs.PrefixLists.{IsPermitRow, IsPermitted, Matches, PermitSame}
use Rattle.cidr_routes.proofs.Lengths.{begins_or, begins_short, first_bits, length_tells, longer, longer_first, longer_length, one_length, rule_of, unchanged}

module _ {C : Type 0} (bits : C → List Bool) where
  -- ---- rows that all permit
  abbrev pub SomeMatches : List (Row C) → List Bool → Type 0
  SomeMatches rows p = (row : Row C) × Contains rows row × Matches bits row p

  matches_or : (row : Row C) (p : List Bool) → Matches bits row p ⊎ ¬ (Matches bits row p)
  matches_or row p = elim (begins_or p (bits row.network)) [
    | inl b ↦ elim (cases_lt (length p) row.low) [
      | inl lt ↦ inr (λ m. omega (arith, m.1, lt))
      | inr low ↦ elim (cases_lt row.high (length p)) [
        | inl lt ↦ inr (λ m. omega (arith, m.2, lt))
        | inr high ↦ inl (b, low, high)
      ]
    ]
    | inr n ↦ inr (λ m. n m.0)
  ]

  pub some_permits : (rows : List (Row C)) (p : List Bool) → ((row : Row C) → Contains rows row → row.action ≡ Permit)
      → IsPermitted bits rows p ↔ SomeMatches rows p
  some_permits [] p all = (λ h. absurd h, λ s. absurd (contains_nothing s.0 s.1))
  some_permits (row ∷ rows) p all =
      let rest = some_permits rows p (λ r c. all r (contains_later row r rows c)) in (
        λ h. elim h [
          | inl k ↦ (row, contains_first row rows, k.0)
          | inr k ↦ let s = rest.0 k.1 in (s.0, contains_later row s.0 rows s.1, s.2)
        ],
        λ s. elim (matches_or row p) [
          | inl m ↦ inl (m, all row (contains_first row rows))
          | inr n ↦ elim (contains_cases row s.0 rows s.1) [
            | inl e ↦ absurd (n (subst (λ r. Matches bits r p) (sym e) s.2))
            | inr d ↦ inr (n, rest.1 (s.0, d, s.2))
          ]
        ],
      )

  -- ---- the set of a length
  module _ (rows : List (Row C)) (len : ℕ) (fits : len ≤ 129) (set : List C)
      (h : IsSetOf 129 (λ a. IsPermitted bits rows (take len a)) (map bits set)) where
    first_is : (p : List Bool) → length p ≡ len → take len (longer p) ≡ p
    first_is p e = subst (λ n. take n (longer p) ≡ p) e (longer_first p)

    long : (p : List Bool) → length p ≡ len → length (longer p) ≡ 129
    long p e = longer_length p (omega (arith, e, fits))

    -- a network of the length is permitted exactly if its addresses are in the set
    set_permits : (p : List Bool) → length p ≡ len → Covers (map bits set) (longer p) ↔ IsPermitted bits rows p
    set_permits p e = (
      λ c. subst (IsPermitted bits rows) (first_is p e) ((h.exact (longer p) (long p e)).0 c),
      λ i. (h.exact (longer p) (long p e)).1 (subst (IsPermitted bits rows) (sym (first_is p e)) i),
    )

    full_parent : (q : List Bool) → len < length q → length q ≤ 129 → IsFull 129 (map bits set) q → IsFull 129 (map bits set) (parent q)
    full_parent q lt within full a la b =
        let z = longer q in
        let lz : length (longer q) ≡ 129 = longer_length q within in
        let in_set = (h.exact z lz).0 (full z lz (longer_first q)) in
        let l : length (parent q) ≡ length q - 1 = let e = length-take (length q - 1) q in omega (arith, e) in
        let le : len ≤ length (parent q) = omega (arith, l, lt) in
        let bz : BeginsWith z (parent q) = begins_begins z q (parent q) (longer_first q) (begins_first (length q - 1) q) in
        let same : take len a ≡ take len z = first_bits a (parent q) len b le ∙ sym (first_bits z (parent q) len bz le) in
        (h.exact a la).1 (subst (IsPermitted bits rows) (sym same) in_set)

    -- its networks are no longer than the length
    pub set_short : (n : C) → Contains set n → length (bits n) ≤ len
    set_short n here =
        let m = (h.reduced.members (bits n)).0 (map_contains bits set n here) in
        elim (cases_lt len (length (bits n))) [
          | inl lt ↦ elim m.widest [
            | inl e ↦ let z = ap (λ (x : List Bool). length x) e in omega (arith, z, lt)
            | inr parted ↦ absurd (parted (full_parent (bits n) lt m.within m.full))
          ]
          | inr within ↦ within
        ]

    -- ---- the rows of one length more
    module _ (w : ℕ) (wide : len ≤ w) (before mid out : List (Row C)) (sofar : AreSoFar bits w rows len before) (cover : List (List Bool))
        (continued : AreContinued bits w (map bits set) len before mid) (covers : IsSetOf 129 (IsInOpen bits w mid) cover)
        (begun : AreBegun bits w len set cover mid out) where
      kept : (row : Row C) → Contains before row → (after : Row C) × Contains out after × IsContinued bits w (map bits set) len row after
      kept row c = let k = continued.kept row c in (k.0, begun.grown k.0 k.1, k.2)

      from : (after : Row C) → Contains out after → ((row : Row C) × Contains before row × IsContinued bits w (map bits set) len row after)
          ⊎ ((after.action ≡ Permit) × (after.low ≡ len) × (after.high ≡ w) × Contains set after.network)
      from after c = elim (begun.from after c) [ inl k ↦ inl (continued.from after k) | inr k ↦ inr k ]

      each_after : (after : Row C) → Contains out after → IsSoFar bits w (len + 1) after
      each_after after c = elim (from after c) [
        | inl k ↦
            let so = sofar.each k.0 k.1 in
            let i = k.2 in
            let inside : length (bits after.network) ≤ after.low = omega (arith, ap (λ n. length (bits n)) i.network, i.low, so.inside) in
            elim i.high [
              | inl closed ↦ record {
                permit = i.action ∙ so.permit;
                inside = inside;
                low = omega (arith, i.low, so.low);
                some = omega (arith, i.low, so.low, closed.2);
                high = inl (omega (arith, closed.2, so.low));
              }
              | inr same ↦ record {
                permit = i.action ∙ so.permit;
                inside = inside;
                low = omega (arith, i.low, so.low);
                some = omega (arith, i.low, so.some, same.0);
                high = elim so.high [ inl less ↦ inl (omega (arith, less, same.0)) | inr e ↦ inr (same.0 ∙ e) ];
              }
            ]
        | inr k ↦
            let s = set_short after.network k.3 in record {
              permit = k.0;
              inside = omega (arith, s, k.1);
              low = omega (arith, k.1);
              some = omega (arith, k.1, k.2, wide);
              high = inr k.2;
            }
      ]

      permits_out : (p : List Bool) → IsPermitted bits out p ↔ SomeMatches out p
      permits_out p = some_permits out p (λ row c. (each_after row c).permit)

      permits_before : (p : List Bool) → IsPermitted bits before p ↔ SomeMatches before p
      permits_before p = some_permits before p (λ row c. (sofar.each row c).permit)

      module _ (p : List Bool) where
        -- of the shorter networks nothing changes
        shorter_to : length p < len → SomeMatches out p → SomeMatches before p
        shorter_to lt s = elim (from s.0 s.1) [
          | inl k ↦
              let i = k.2 in
              let so = sofar.each k.0 k.1 in
              let high : s.0.high ≤ k.0.high ⊎ (k.0.high ≡ w) = elim i.high [ inl closed ↦ inr closed.0 | inr same ↦ inl (omega (arith, same.0)) ] in (
                k.0,
                k.1,
                (
                  subst (λ n. BeginsWith p (bits n)) i.network s.2.0,
                  omega (arith, i.low, s.2.1),
                  elim high [ inl le ↦ omega (arith, le, s.2.2) | inr e ↦ omega (arith, e, lt, wide) ],
                ),
              )
          | inr k ↦ absurd (omega (arith, k.1, s.2.1, lt))
        ]

        shorter_from : length p < len → SomeMatches before p → SomeMatches out p
        shorter_from lt s =
            let k = kept s.0 s.1 in
            let i = k.2 in (
              k.0,
              k.1,
              (
                subst (λ n. BeginsWith p (bits n)) (sym i.network) s.2.0,
                omega (arith, i.low, s.2.1),
                elim i.high [ inl closed ↦ omega (arith, closed.2, lt) | inr same ↦ omega (arith, same.0, s.2.2) ],
              ),
            )

        -- of this length the set tells
        module _ (e : length p ≡ len) where
          in_set : (n : C) → Covers (map bits set) (bits n) → BeginsWith p (bits n) → IsPermitted bits rows p
          in_set n c b =
              let inside : BeginsWith (longer p) (bits n) = begins_begins (longer p) p (bits n) (longer_first p) b in
              (set_permits p e).0 (c.0, c.1, begins_begins (longer p) (bits n) c.0 inside c.2)

          these_to : SomeMatches out p → IsPermitted bits rows p
          these_to s = elim (from s.0 s.1) [
            | inl k ↦
                let i = k.2 in
                let so = sofar.each k.0 k.1 in
                elim i.high [
                  | inl closed ↦ absurd (omega (arith, closed.2, s.2.2, e, so.low))
                  | inr same ↦ elim same.1 [
                    | inl n ↦ elim so.high [
                      | inl less ↦ absurd (omega (arith, less, same.0, s.2.2, e))
                      | inr is ↦ absurd (n is)
                    ]
                    | inr c ↦ in_set k.0.network c (subst (λ n. BeginsWith p (bits n)) i.network s.2.0)
                  ]
                ]
            | inr k ↦ in_set s.0.network (bits s.0.network, map_contains bits set s.0.network k.3, begins_itself (bits s.0.network)) s.2.0
          ]

          these_from : IsPermitted bits rows p → SomeMatches out p
          these_from i =
              let c = (set_permits p e).1 i in
              let n = map_contained bits set c.0 c.1 in
              let begins : BeginsWith p (bits n.0) = down (bits n.0) (set_short n.0 n.1) (subst (BeginsWith (longer p)) (sym n.2) c.2) in
              elim (begun.added n.0 n.1) [
                | inl d ↦
                    let inside : BeginsWith (longer p) (bits n.0) = begins_begins (longer p) p (bits n.0) (longer_first p) begins in
                    let whole = (covers.exact (longer p) (long p e)).0 (d.0, d.1, begins_begins (longer p) (bits n.0) d.0 inside d.2) in
                    let there = begun.grown whole.0 whole.1 in
                    let so = each_after whole.0 there in
                    let b : BeginsWith p (bits whole.0.network) = down (bits whole.0.network) (omega (arith, so.inside, so.low)) whole.3 in
                    (whole.0, there, (b, omega (arith, so.low, e), omega (arith, whole.2, e, wide)))
                | inr k ↦ (
                  k.0,
                  k.1,
                  (
                    subst (λ m. BeginsWith p (bits m)) (sym k.2) begins,
                    omega (arith, k.4, e),
                    omega (arith, k.3, e, wide),
                  ),
                )
              ]
            where
              down : (q : List Bool) → length q ≤ len → BeginsWith (longer p) q → BeginsWith p q
              down q le b = subst (λ x. BeginsWith x q) (first_is p e) ((begins_short bits (longer p) q len le).1 b)

      pub one_more : AreSoFar bits w rows (len + 1) out
      one_more = record {
        each = each_after;
        same = λ p lt. elim (cases_lt (length p) len) [
          | inl less ↦ (
            λ i. (sofar.same p less).0 ((permits_before p).1 (shorter_to p less ((permits_out p).0 i))),
            λ i. (permits_out p).1 (shorter_from p less ((permits_before p).0 ((sofar.same p less).1 i))),
          )
          | inr le ↦
              let e : length p ≡ len = omega (arith, le, lt) in (
                λ i. these_to p e ((permits_out p).0 i),
                λ i. (permits_out p).1 (these_from p e i),
              )
        ];
      }

  -- ---- lengths at which no row begins or ends
  rules_each : (len other : ℕ) (rows : List (Row C)) → ((row : Row C) → Contains rows row → has_length bits len row ≡ has_length bits other row)
      → rules_of bits len rows ≡ rules_of bits other rows
  rules_each len other [] each = refl
  rules_each len other (row ∷ rows) each =
      ap (λ b. cond b (rule_of bits row ∷ rules_of bits len rows) (rules_of bits len rows)) (each row (contains_first row rows))
      ∙ ap (λ rs. cond (has_length bits other row) (rule_of bits row ∷ rs) rs)
      (rules_each len other rows (λ r c. each r (contains_later row r rows c)))

  not_true : (b : Bool) → ¬ (b ≡ true) → b ≡ false
  not_true true n = absurd (n refl)
  not_true false n = refl

  module _ (w len : ℕ) (pos : 0 < len) (wide : len ≤ w) where
    -- rows so far go on, or ended before
    so_alike : (row : Row C) → IsSoFar bits w len row → has_length bits len row ≡ has_length bits (len - 1) row
    so_alike row so =
        let here = length_tells bits len row in
        let back = length_tells bits (len - 1) row in
        elim so.high [
          | inl less ↦
              not_true (has_length bits len row) (λ t. let k = here.0 t in omega (arith, k.2, less))
              ∙ sym (not_true (has_length bits (len - 1) row) (λ t. let k = back.0 t in omega (arith, k.2, less)))
          | inr e ↦
              here.1 (omega (arith, so.inside, so.low), omega (arith, so.low), omega (arith, e, wide))
              ∙ sym (back.1 (omega (arith, so.inside, so.low), omega (arith, so.low), omega (arith, e, wide)))
        ]

    pub none_more : (rows out : List (Row C)) → len ≤ 129 → rules_of bits len rows ≡ rules_of bits (len - 1) rows
        → AreSoFar bits w rows len out → AreSoFar bits w rows (len + 1) out
    none_more rows out fits same h =
        let at = unchanged bits out rows len pos fits (rules_each len (len - 1) out (λ row c. so_alike row (h.each row c))) same h.same in
        record {
          each = λ row c. let so = h.each row c in record {
            permit = so.permit;
            inside = so.inside;
            low = omega (arith, so.low);
            some = so.some;
            high = elim so.high [ inl less ↦ inl (omega (arith, less)) | inr e ↦ inr e ];
          };
          same = one_length bits out rows len h.same (λ p e. (at p e).0) (λ p e. (at p e).1);
        }

  pub so_far_none : (w : ℕ) (rows : List (Row C)) → AreSoFar bits w rows 0 []
  so_far_none w rows = record {
    each = λ row c. absurd (contains_nothing row c);
    same = λ p lt. absurd (omega (arith, lt));
  }

  module _ (w len : ℕ) (over : w < len) (under : len ≤ w + 1) (rows out : List (Row C)) (h : AreSoFar bits w rows len out) where
    pub all_same : PermitSame bits w out rows
    all_same p le = h.same p (omega (arith, le, over))

    pub all_permit : (row : Row C) → Contains out row → IsPermitRow bits w row
    all_permit row c = let so = h.each row c in record {
      permit = so.permit;
      inside = so.inside;
      some = so.some;
      within = elim so.high [ inl less ↦ omega (arith, less, under) | inr e ↦ omega (arith, e) ];
    }

  -- ---- steps of the loops
  abbrev pub IsOpen : ℕ → List (Row C) → C → Type 0
  IsOpen w rows n = (row : Row C) × Contains rows row × (row.high ≡ w) × (row.network ≡ n)

  module _ (w : ℕ) (rows : List (Row C)) (row : Row C) (networks : List C) (h : (n : C) → Contains networks n ↔ IsOpen w rows n) where
    pub open_pushed : row.high ≡ w → (n : C) → Contains (networks ++ row.network ∷ []) n ↔ IsOpen w (rows ++ row ∷ []) n
    open_pushed e n = (
      λ c. elim (Contains-push_cases networks row.network n c) [
        | inl d ↦ let o = (h n).0 d in (o.0, Contains-append_left rows (row ∷ []) o.0 o.1, o.2, o.3)
        | inr is ↦ (row, Contains-push rows row, e, is)
      ],
      λ o. elim (Contains-push_cases rows row o.0 o.1) [
        | inl d ↦ Contains-append_left networks (row.network ∷ []) n ((h n).1 (o.0, d, o.2, o.3))
        | inr is ↦ subst (λ m. Contains (networks ++ row.network ∷ []) m) (ap (λ r. r.network) is ∙ o.3) (Contains-push networks row.network)
      ],
    )

    pub open_skipped : ¬ (row.high ≡ w) → (n : C) → Contains networks n ↔ IsOpen w (rows ++ row ∷ []) n
    open_skipped ended n = (
      λ c. let o = (h n).0 c in (o.0, Contains-append_left rows (row ∷ []) o.0 o.1, o.2, o.3),
      λ o. elim (Contains-push_cases rows row o.0 o.1) [
        | inl d ↦ (h n).1 (o.0, d, o.2, o.3)
        | inr is ↦ absurd (ended (ap (λ r. r.high) is ∙ o.2))
      ],
    )

  pub open_set : (w : ℕ) (rows : List (Row C)) (networks : List C) (cover : List (List Bool)) → ((n : C) → Contains networks n ↔ IsOpen w rows n)
      → IsSetOf 129 (Covers (map bits networks)) cover → IsSetOf 129 (IsInOpen bits w rows) cover
  open_set w rows networks cover h = set_alike 129 (Covers (map bits networks)) (IsInOpen bits w rows) cover (λ a la. (
    λ c. let k = covers_by bits networks a c in let o = (h k.0).0 k.1 in (o.0, o.1, o.2, subst (λ n. BeginsWith a (bits n)) (sym o.3) k.2),
    λ o. covers_to bits networks o.0.network a ((h o.0.network).1 (o.0, o.1, o.2, refl)) o.3,
  ))

  pub continued_none : (w : ℕ) (set : List (List Bool)) (len : ℕ) → AreContinued bits w set len [] []
  continued_none w set len = record { kept = λ row c. absurd (contains_nothing row c); from = λ row c. absurd (contains_nothing row c) }

  pub continued_more : (w : ℕ) (set : List (List Bool)) (len : ℕ) (before out : List (Row C)) (row after : Row C)
      → AreContinued bits w set len before out → IsContinued bits w set len row after → AreContinued bits w set len (before ++ row ∷ []) (out ++ after ∷ [])
  continued_more w set len before out row after h one = record {
    kept = λ r c. elim (Contains-push_cases before row r c) [
      | inl d ↦ let k = h.kept r d in (k.0, Contains-append_left out (after ∷ []) k.0 k.1, k.2)
      | inr e ↦ (after, Contains-push out after, subst (λ x. IsContinued bits w set len x after) e one)
    ];
    from = λ r c. elim (Contains-push_cases out after r c) [
      | inl d ↦ let k = h.from r d in (k.0, Contains-append_left before (row ∷ []) k.0 k.1, k.2)
      | inr e ↦ (row, Contains-push before row, subst (λ x. IsContinued bits w set len row x) e one)
    ];
  }

  pub begun_none : (w len : ℕ) (cover : List (List Bool)) (before : List (Row C)) → AreBegun bits w len [] cover before before
  begun_none w len cover before = record { grown = λ row c. c; from = λ row c. inl c; added = λ n c. absurd (contains_nothing n c) }

  module _ (w len : ℕ) (networks : List C) (cover : List (List Bool)) (before out : List (Row C)) (n : C) (h : AreBegun bits w len networks cover before out) where
    pub begun_skipped : Covers cover (bits n) → AreBegun bits w len (networks ++ n ∷ []) cover before out
    begun_skipped c = record {
      grown = h.grown;
      from = λ row d. elim (h.from row d) [ inl k ↦ inl k | inr k ↦ inr (k.0, k.1, k.2, Contains-append_left networks (n ∷ []) row.network k.3) ];
      added = λ m d. elim (Contains-push_cases networks n m d) [
        | inl k ↦ h.added m k
        | inr e ↦ inl (subst (λ x. Covers cover (bits x)) e c)
      ];
    }

    pub begun_pushed : (row : Row C) → row.action ≡ Permit → row.network ≡ n → row.low ≡ len → row.high ≡ w
        → AreBegun bits w len (networks ++ n ∷ []) cover before (out ++ row ∷ [])
    begun_pushed row permit is low high = record {
      grown = λ r c. Contains-append_left out (row ∷ []) r (h.grown r c);
      from = λ r c. elim (Contains-push_cases out row r c) [
        | inl d ↦ elim (h.from r d) [ inl k ↦ inl k | inr k ↦ inr (k.0, k.1, k.2, Contains-append_left networks (n ∷ []) r.network k.3) ]
        | inr e ↦ inr (
          sym (ap (λ x. x.action) e) ∙ permit,
          sym (ap (λ x. x.low) e) ∙ low,
          sym (ap (λ x. x.high) e) ∙ high,
          subst (Contains (networks ++ n ∷ [])) (sym is ∙ ap (λ x. x.network) e) (Contains-push networks n),
        )
      ];
      added = λ m d. elim (Contains-push_cases networks n m d) [
        | inl k ↦ elim (h.added m k) [ inl c ↦ inl c | inr b ↦ inr (b.0, Contains-append_left out (row ∷ []) b.0 b.1, b.2, b.3, b.4) ]
        | inr e ↦ inr (row, Contains-push out row, is ∙ e, high, low)
      ];
    }
