-- What prefix lists permit of one length, as sets of addresses.
use Rattle.std.proofs.Common.{◌≡◌, ◌↔◌, ◌⊎◌, ℕ, ◌+◌, ◌-◌, ◌<◌, ◌≤◌, ◌&&◌, Bool, true, false, cond, leb, List, [], ◌∷◌, ◌++◌, length, take, drop, get_or, map, refl, sym, ap, ◌∙◌, subst, arith, inl, inr, length-append, length-take}
use Rattle.std.proofs.lemmas.Bool.{cases_lt, false≢true, leb-true, le-leb}
use Rattle.std.proofs.lemmas.List.{take-take, take_all, take_more, take-append-le, length-replicate, drop_more}
use Rattle.std.specs.Bool.{Decides}
use Rattle.std.specs.List.{Contains}
use Rattle.cidr.specs.model.Network.{BeginsWith, zeros}
use Rattle.cidr_table.specs.model.Cover.{Covers, IsFull, parent}
use Rattle.cidr_table.specs.internal.Places.{begins_with}
use Rattle.cidr_table.proofs.Beginnings.{begins_decides, begins_length, begins_first}
use Rattle.cidr_table.proofs.Halves.{begins_begins}
use Rattle.cidr_table.proofs.MapLaws.{contains_first, contains_later, contains_cases, contains_nothing}
use Rattle.cidr_sets.specs.model.FirstRules as access
use Rattle.cidr_sets.specs.model.Sets.{IsSetOf, IsDifference}
use Rattle.cidr_sets.specs.declared.access.Rule.{Rule}
use Rattle.cidr_sets.specs.declared.access.Action.TheVariants.{Permit}
use Rattle.cidr_sets.proofs.Addresses.{none_reduced, set_alike}
use Rattle.cidr_sets.proofs.FirstRules.{all_left, first_permits, none_permits, one_passes}
use Rattle.cidr_routes.specs.declared.lists.Row.{Row}
use Rattle.cidr_routes.specs.Lengths.{IsOfLength, has_length, rules_of}
use Rattle.cidr_routes.specs.PrefixLists.{Matches, IsPermitted, IsMore}

pub true_or : (b : Bool) → (b ≡ true) ⊎ (b ≡ false)
true_or true = inl refl
true_or false = inr refl

pub begins_or : (a p : List Bool) → BeginsWith a p ⊎ ¬ (BeginsWith a p)
begins_or a p = elim (true_or (begins_with a p)) [
  | inl t ↦ inl ((begins_decides a p).0 t)
  | inr f ↦ inr (λ b. false≢true (sym f ∙ (begins_decides a p).1 b))
]

covers_or : (s : List (List Bool)) (a : List Bool) → Covers s a ⊎ ¬ (Covers s a)
covers_or [] a = inr (λ c. contains_nothing c.0 c.1)
covers_or (p ∷ ps) a = elim (begins_or a p) [
  | inl b ↦ inl (p, contains_first p ps, b)
  | inr n ↦ elim (covers_or ps a) [
    | inl c ↦ inl (c.0, contains_later p c.0 ps c.1, c.2)
    | inr m ↦ inr (λ c. elim (contains_cases p c.0 ps c.1) [
      | inl e ↦ n (subst (BeginsWith a) (sym e) c.2)
      | inr d ↦ m (c.0, d, c.2)
    ])
  ]
]

-- the first bits of an address, and an address with these first bits
pub length_first : (a : List Bool) (len : ℕ) → length a ≡ 129 → len ≤ 129 → length (take len a) ≡ len
length_first a len la le = let e = length-take len a in omega (arith, e, la, le)

abbrev pub longer : List Bool → List Bool
longer p = p ++ zeros (129 - length p)

pub longer_length : (p : List Bool) → length p ≤ 129 → length (longer p) ≡ 129
longer_length p le = let e = length-append p (zeros (129 - length p)) in let z = length-replicate (129 - length p) false in omega (arith, e, z, le)

pub longer_first : (p : List Bool) → take (length p) (longer p) ≡ p
longer_first p = take-append-le (length p) p (zeros (129 - length p)) (omega arith) ∙ take_all (length p) p (omega arith)

pub first_bits : (a q : List Bool) (len : ℕ) → BeginsWith a q → len ≤ length q → take len a ≡ take len q
first_bits a q len b le = sym (take-take len (length q) a le) ∙ ap (take len) b

module _ {C : Type 0} (bits : C → List Bool) where
  pub begins_short : (a p : List Bool) (len : ℕ) → length p ≤ len → BeginsWith (take len a) p ↔ BeginsWith a p
  begins_short a p len le = let e = take-take (length p) len a le in (λ b. sym e ∙ b, λ b. e ∙ b)

  -- ---- the rows about networks of one length, as rules
  three : (a b c : Bool) → (a && (b && c)) ≡ true → (a ≡ true) × (b ≡ true) × (c ≡ true)
  three true true true e = (refl, refl, refl)
  three true true false e = absurd (false≢true e)
  three true false c e = absurd (false≢true e)
  three false b c e = absurd (false≢true e)

  all_three : (a b c : Bool) → a ≡ true → b ≡ true → c ≡ true → (a && (b && c)) ≡ true
  all_three true true true e f g = refl
  all_three true true false e f g = absurd (false≢true g)
  all_three true false c e f g = absurd (false≢true f)
  all_three false b c e f g = absurd (false≢true e)

  pub length_tells : (len : ℕ) (row : Row C) → Decides (has_length bits len row) (IsOfLength bits len row)
  length_tells len row = (
    λ t.
        let h = three (leb (length (bits row.network)) len) (leb row.low len) (leb len row.high) t in
        (leb-true (length (bits row.network)) len h.0, leb-true row.low len h.1, leb-true len row.high h.2),
    λ h. all_three (leb (length (bits row.network)) len) (leb row.low len) (leb len row.high)
        (le-leb (length (bits row.network)) len h.0) (le-leb row.low len h.1) (le-leb len row.high h.2),
  )

  decides_same : (r s : Bool) (P : Type 0) → Decides r P → Decides s P → r ≡ s
  decides_same true true P h k = refl
  decides_same false false P h k = refl
  decides_same true false P h k = sym (k.1 (h.0 refl))
  decides_same false true P h k = h.1 (k.0 refl)

  pub told : (r : Bool) (len : ℕ) (row : Row C) → Decides r (IsOfLength bits len row) → has_length bits len row ≡ r
  told r len row h = decides_same (has_length bits len row) r (IsOfLength bits len row) (length_tells len row) h

  abbrev pub rule_of : Row C → Rule C
  rule_of row = record { action = row.action; network = row.network }

  pub rules_append : (len : ℕ) (xs ys : List (Row C)) → rules_of bits len (xs ++ ys) ≡ rules_of bits len xs ++ rules_of bits len ys
  rules_append len [] ys = refl
  rules_append len (x ∷ xs) ys = elim (has_length bits len x) as
      (λ b. cond b (rule_of x ∷ rules_of bits len (xs ++ ys)) (rules_of bits len (xs ++ ys))
      ≡ cond b (rule_of x ∷ rules_of bits len xs) (rules_of bits len xs) ++ rules_of bits len ys) [
        | true ↦ ap (λ t. rule_of x ∷ t) (rules_append len xs ys)
        | false ↦ rules_append len xs ys
      ]

  nothing_behind : {X : Type 0} (xs : List X) → xs ++ [] ≡ xs
  nothing_behind [] = refl
  nothing_behind (x ∷ xs) = ap (λ t. x ∷ t) (nothing_behind xs)

  module _ (len : ℕ) (rows : List (Row C)) (i : ℕ) (row : Row C) (here : i < length rows) (is : row ≡ get_or rows i row) where
    pub rules_more : rules_of bits len (take (i + 1) rows) ≡ rules_of bits len (take i rows) ++ rules_of bits len (row ∷ [])
    rules_more = ap (rules_of bits len) (take_more rows i row here ∙ ap (λ r. take i rows ++ r ∷ []) (sym is)) ∙ rules_append len (take i rows) (row ∷ [])

    pub rules_with : (rules : List (Rule C)) → rules ≡ rules_of bits len (take i rows) → has_length bits len row ≡ true
        → rules ++ rule_of row ∷ [] ≡ rules_of bits len (take (i + 1) rows)
    rules_with rules h t =
        ap (λ rs. rs ++ rule_of row ∷ []) h
        ∙ (ap (λ b. rules_of bits len (take i rows) ++ cond b (rule_of row ∷ []) []) (sym t) ∙ sym rules_more)

    pub rules_without : (rules : List (Rule C)) → rules ≡ rules_of bits len (take i rows) → has_length bits len row ≡ false
        → rules ≡ rules_of bits len (take (i + 1) rows)
    rules_without rules h f =
        h ∙ (sym (nothing_behind (rules_of bits len (take i rows)))
        ∙ (ap (λ b. rules_of bits len (take i rows) ++ cond b (rule_of row ∷ []) []) (sym f) ∙ sym rules_more))

    pub rules_alike : (other : ℕ) → has_length bits len row ≡ has_length bits other row
        → rules_of bits len (take i rows) ≡ rules_of bits other (take i rows)
        → rules_of bits len (take (i + 1) rows) ≡ rules_of bits other (take (i + 1) rows)
    rules_alike other e h =
        rules_more ∙ (ap (λ rs. rs ++ rules_of bits len (row ∷ [])) h
        ∙ (ap (λ b. rules_of bits other (take i rows) ++ cond b (rule_of row ∷ []) []) e
        ∙ sym (ap (rules_of bits other) (take_more rows i row here ∙ ap (λ r. take i rows ++ r ∷ []) (sym is))
        ∙ rules_append other (take i rows) (row ∷ []))))

  -- what the rules permit is what the rows do
  abbrev pub AreAllowed : List (Rule C) → List Bool → Type 0
  AreAllowed rules a = access.IsPermitted (map (λ r. bits r.network) rules) (map (λ r. r.action) rules) a

  module _ (len : ℕ) (fits : len ≤ 129) (a : List Bool) (la : length a ≡ 129) where
    pub matches_where : (row : Row C) → IsOfLength bits len row → Matches bits row (take len a) ↔ BeginsWith a (bits row.network)
    matches_where row about =
        let l = length_first a len la fits in
        let b = begins_short a (bits row.network) len about.0 in
        (λ m. b.0 m.0, λ begins. (b.1 begins, omega (arith, about.1, l), omega (arith, about.2, l)))

    pub passes : (row : Row C) → ¬ (IsOfLength bits len row) → ¬ (Matches bits row (take len a))
    passes row n m =
        let l = length_first a len la fits in
        let b = begins_length (take len a) (bits row.network) m.0 in
        n (omega (arith, b, l), omega (arith, m.1, l), omega (arith, m.2, l))

    rule_passes : (r : Rule C) (rules : List (Rule C)) → ¬ (BeginsWith a (bits r.network)) → AreAllowed (r ∷ rules) a ↔ AreAllowed rules a
    rule_passes r rules n =
        one_passes (λ x. bits x.network) (λ x. x.action) (r ∷ rules) a 0 (all_left (λ x. bits x.network) (λ x. x.action) (r ∷ rules) a)
        r (omega arith) refl n

    rule_decides : (r : Rule C) (rules : List (Rule C)) → BeginsWith a (bits r.network) → AreAllowed (r ∷ rules) a ↔ (r.action ≡ Permit)
    rule_decides r rules b =
        first_permits (λ x. bits x.network) (λ x. x.action) a (r ∷ rules) r 0 (omega arith) (λ d. refl)
        (λ k d low below. absurd (omega (arith, below))) b

    pub same_permitted : (rows : List (Row C)) → AreAllowed (rules_of bits len rows) a ↔ IsPermitted bits rows (take len a)
    same_permitted [] = (λ h. absurd (none_permits {R = Rule C} (λ x. bits x.network) (λ x. x.action) a [] (λ k d low below. absurd (omega (arith, below))) h), λ p. absurd p)
    same_permitted (row ∷ rows) =
        let rest = same_permitted rows in
        elim (has_length bits len row) as (λ t. has_length bits len row ≡ t
        → AreAllowed (cond t (rule_of row ∷ rules_of bits len rows) (rules_of bits len rows)) a ↔ IsPermitted bits (row ∷ rows) (take len a)) [
          | true ↦ λ q.
              let m = matches_where row ((length_tells len row).0 q) in
              elim (begins_or a (bits row.network)) [
                | inl b ↦
                    let first = rule_decides (rule_of row) (rules_of bits len rows) b in (
                      λ h. inl (m.1 b, first.0 h),
                      λ p. elim p [ inl k ↦ first.1 k.1 | inr k ↦ absurd (k.0 (m.1 b)) ],
                    )
                | inr n ↦
                    let next = rule_passes (rule_of row) (rules_of bits len rows) n in (
                      λ h. inr (λ k. n (m.0 k), rest.0 (next.0 h)),
                      λ p. elim p [ inl k ↦ absurd (n (m.0 k.0)) | inr k ↦ next.1 (rest.1 k.1) ],
                    )
              ]
          | false ↦ λ q.
              let n = passes row (λ h. false≢true (sym q ∙ (length_tells len row).1 h)) in (
                λ h. inr (n, rest.0 h),
                λ p. elim p [ inl k ↦ absurd (n k.0) | inr k ↦ rest.1 k.1 ],
              )
        ] refl

  pub permitted_set : (len : ℕ) → len ≤ 129 → (rows : List (Row C)) (rules : List (Rule C)) → rules ≡ rules_of bits len rows
      → (set : List (List Bool)) → IsSetOf 129 (access.IsPermitted (map (λ r. bits r.network) rules) (map (λ r. r.action) rules)) set
      → IsSetOf 129 (λ a. IsPermitted bits rows (take len a)) set
  permitted_set len fits rows rules is set h =
      set_alike 129 (AreAllowed (rules_of bits len rows)) (λ a. IsPermitted bits rows (take len a)) set
      (λ a la. same_permitted len fits a la rows)
      (subst (λ rs. IsSetOf 129 (AreAllowed rs) set) is h)

  pub none_permitted : (len : ℕ) → IsSetOf 129 (λ a. IsPermitted bits [] (take len a)) []
  none_permitted len = record {
    reduced = none_reduced 129;
    exact = λ a la. (λ c. absurd (contains_nothing c.0 c.1), λ p. absurd p);
  }

  -- ---- a list and a row that decides
  pub row_left : (rows : List (Row C)) (p : List Bool) (i : ℕ) (row : Row C) → i < length rows → row ≡ get_or rows i row
      → ¬ (Matches bits row p) → IsPermitted bits (drop i rows) p ↔ IsPermitted bits (drop (i + 1) rows) p
  row_left rows p i row l is n =
      let split : drop i rows ≡ row ∷ drop (i + 1) rows = drop_more rows i row l ∙ ap (λ x. x ∷ drop (i + 1) rows) (sym is) in (
        λ k. elim (subst (λ xs. IsPermitted bits xs p) split k) [ inl m ↦ absurd (n m.0) | inr m ↦ m.1 ],
        λ k. subst (λ xs. IsPermitted bits xs p) (sym split) (inr (n, k)),
      )

  pub row_decides : (rows : List (Row C)) (p : List Bool) (i : ℕ) (row : Row C) → i < length rows → row ≡ get_or rows i row
      → Matches bits row p → IsPermitted bits (drop i rows) p ↔ (row.action ≡ Permit)
  row_decides rows p i row l is m =
      let split : drop i rows ≡ row ∷ drop (i + 1) rows = drop_more rows i row l ∙ ap (λ x. x ∷ drop (i + 1) rows) (sym is) in (
        λ k. elim (subst (λ xs. IsPermitted bits xs p) split k) [ inl q ↦ q.1 | inr q ↦ absurd (q.0 m) ],
        λ e. subst (λ xs. IsPermitted bits xs p) (sym split) (inl (m, e)),
      )

  -- ---- two lists and one length
  module _ (these those : List (Row C)) (len : ℕ) (fits : len ≤ 129) (s t d : List (List Bool))
      (h : IsSetOf 129 (λ a. IsPermitted bits these (take len a)) s) (k : IsSetOf 129 (λ a. IsPermitted bits those (take len a)) t)
      (diff : IsDifference 129 s t d) where
    first_is : (p : List Bool) → length p ≡ len → take len (longer p) ≡ p
    first_is p e = subst (λ n. take n (longer p) ≡ p) e (longer_first p)

    pub none_alone : d ≡ [] → (p : List Bool) → length p ≡ len → IsPermitted bits these p → IsPermitted bits those p
    none_alone none p e i =
        let a = longer p in
        let la : length (longer p) ≡ 129 = longer_length p (omega (arith, e, fits)) in
        let f = first_is p e in
        elim (covers_or t a) [
          | inl c ↦ subst (IsPermitted bits those) f ((k.exact a la).0 c)
          | inr n ↦
              let c = (diff.exact a la).1 ((h.exact a la).1 (subst (IsPermitted bits these) (sym f) i), n) in
              absurd (contains_nothing c.0 (subst (λ l. Contains l c.0) none c.1))
        ]

    module _ (q : List Bool) (here : Contains d q) where
      full_parent : len < length q → length q ≤ 129 → IsFull 129 d q → IsFull 129 d (parent q)
      full_parent lt within full a la b =
          let z = longer q in
          let lz : length (longer q) ≡ 129 = longer_length q within in
          let in_d = (diff.exact z lz).0 (full z lz (longer_first q)) in
          let l : length (parent q) ≡ length q - 1 = let e = length-take (length q - 1) q in omega (arith, e) in
          let le : len ≤ length (parent q) = omega (arith, l, lt) in
          let bz : BeginsWith z (parent q) = begins_begins z q (parent q) (longer_first q) (begins_first (length q - 1) q) in
          let same : take len a ≡ take len z = first_bits a (parent q) len b le ∙ sym (first_bits z (parent q) len bz le) in
          (diff.exact a la).1 (
            (h.exact a la).1 (subst (IsPermitted bits these) (sym same) ((h.exact z lz).0 in_d.0)),
            λ c. in_d.1 ((k.exact z lz).1 (subst (IsPermitted bits those) same ((k.exact a la).0 c))),
          )

      pub some_alone : (most : ℕ) → len ≤ most → IsMore bits most these those q len
      some_alone most le =
          let m = (diff.reduced.members q).0 here in
          let short : length q ≤ len = elim (cases_lt len (length q)) [
            | inl lt ↦ elim m.widest [
              | inl e ↦ let z = ap (λ (x : List Bool). length x) e in omega (arith, z, lt)
              | inr n ↦ absurd (n (full_parent lt m.within m.full))
            ]
            | inr within ↦ within
          ] in
          let in_d = λ (p : List Bool) (e : length p ≡ len) (b : BeginsWith p q).
          (diff.exact (longer p) (longer_length p (omega (arith, e, fits)))).0
          (m.full (longer p) (longer_length p (omega (arith, e, fits))) (begins_begins (longer p) p q (longer_first p) b)) in
          record {
            some = short;
            within = le;
            permitted = λ p e b. subst (IsPermitted bits these) (first_is p e)
                ((h.exact (longer p) (longer_length p (omega (arith, e, fits)))).0 (in_d p e b).0);
            denied = λ p e b i. (in_d p e b).1
                ((k.exact (longer p) (longer_length p (omega (arith, e, fits)))).1 (subst (IsPermitted bits those) (sym (first_is p e)) i));
          }

  pub one_length : (these those : List (Row C)) (len : ℕ) → ((p : List Bool) → length p < len → IsPermitted bits these p ↔ IsPermitted bits those p)
      → ((p : List Bool) → length p ≡ len → IsPermitted bits these p → IsPermitted bits those p)
      → ((p : List Bool) → length p ≡ len → IsPermitted bits those p → IsPermitted bits these p)
      → (p : List Bool) → length p < len + 1 → IsPermitted bits these p ↔ IsPermitted bits those p
  one_length these those len below to from p lt = elim (cases_lt (length p) len) [
    | inl less ↦ below p less
    | inr le ↦ let e : length p ≡ len = omega (arith, le, lt) in (to p e, from p e)
  ]

  -- where the rows about a length are those about one bit less, and the shorter networks are the same
  pub unchanged : (these those : List (Row C)) (len : ℕ) → 0 < len → len ≤ 129 → rules_of bits len these ≡ rules_of bits (len - 1) these
      → rules_of bits len those ≡ rules_of bits (len - 1) those
      → ((p : List Bool) → length p < len → IsPermitted bits these p ↔ IsPermitted bits those p)
      → (p : List Bool) → length p ≡ len → IsPermitted bits these p ↔ IsPermitted bits those p
  unchanged these those len pos fits e f below p is =
      let a = longer p in
      let la : length (longer p) ≡ 129 = longer_length p (omega (arith, is, fits)) in
      let at : take len (longer p) ≡ p = subst (λ n. take n (longer p) ≡ p) is (longer_first p) in
      let less : len - 1 ≤ 129 = omega (arith, fits) in
      let short : length (take (len - 1) (longer p)) < len = omega (arith, length_first (longer p) (len - 1) la less, pos) in
      let down = λ (rows : List (Row C)) (g : rules_of bits len rows ≡ rules_of bits (len - 1) rows) (i : IsPermitted bits rows p).
      (same_permitted (len - 1) less a la rows).0 (subst (λ rs. AreAllowed rs a) g
      ((same_permitted len fits a la rows).1 (subst (IsPermitted bits rows) (sym at) i))) in
      let up = λ (rows : List (Row C)) (g : rules_of bits len rows ≡ rules_of bits (len - 1) rows) (i : IsPermitted bits rows (take (len - 1) a)).
      subst (IsPermitted bits rows) at ((same_permitted len fits a la rows).0 (subst (λ rs. AreAllowed rs a) (sym g)
      ((same_permitted (len - 1) less a la rows).1 i))) in
      let same = below (take (len - 1) a) short in
      (λ i. up those f (same.0 (down these e i)), λ i. up these e (same.1 (down those f i)))
