-- What the rules leave of a region, as separate boxes, and how the differences of two lists add up, pair by pair.
use Rattle.std.proofs.Common.{◌≡◌, ◌≢◌, ℕ, ◌+◌, ◌-◌, ◌<◌, ◌≤◌, Bool, true, false, ◌&&◌, ◌||◌, cond, nat_eq, nat_lt, Option, Some, None, All, List, [], ◌++◌, get_or, take, length, map, refl, sym, ◌∙◌, ap, inl, inr, arith, length-append, length-take}
use Rattle.std.specs.List.{AllPairs}
use Rattle.std.proofs.lemmas.Bool.{true≢false, lt-ltb, le-ltb, ltb-true, eq-eqb, eqb-true, ne_eqb, cases_Bool, cases_lt, cases_order, and_parts, and_from, and_left, and_right, or_cases, or_from, or_left, or_right, false_from_ne_true}
use Rattle.std.proofs.lemmas.List.{get_or-append_right, get_or-take, get_or_append_left, length-map}
use Rattle.std.proofs.lemmas.List.Elements.{All-append, All-map, All-nil}
use Rattle.std.proofs.lemmas.List.Folds.{fold-map}
use Rattle.std.proofs.lemmas.List.Sums.{get_or-le-sum_by, sum_by-append, sum_by-drop_more, sum_by-take-drop}
use Rattle.cidr_rules.specs.declared.fields.Range.{Range}
use Rattle.cidr_rules.specs.declared.regions.Region.{Region}
use Rattle.cidr_rules.specs.declared.rules.Rule.{Rule}
use Rattle.cidr_rules.specs.declared.comparing.Difference.{Difference}
use Rattle.cidr_rules.specs.Packets.{is_in, ranges_of}
use Rattle.cidr_rules.specs.Regions.{are_full, join}
use Rattle.cidr_rules.specs.Parts.{AreAllFull, AreSeparate, IsJoined, IsRest, boxes_of, held, is_covered}
use Rattle.cidr_rules.specs.Lists.{AreJoined, IsDifference, is_permitted}
use Rattle.cidr_rules.specs.Searches.{AreDisputed, AreOfPair, AreRests, AreTold, IsSearch, comes_before, holds_at, index_at, permits_at, stop, stops_at, differ, told}
use Rattle.cidr_rules.proofs.Boxes.{full_corner, same_tests}
use Rattle.cidr_rules.proofs.Cuts.{none_of, one_of}
use Rattle.cidr_rules.proofs.Deciding.{decided_at, index_here, permitted_at, stop-le, stops_from, stops_parts, stops_where}
use Rattle.cidr_rules.proofs.Joins.{parted_join}
use Rattle.cidr_rules.proofs.Pairs.{differ_from, differ_same}
use Rattle.cidr_rules.proofs.Steps.{get_map}

-- ---- what is left of a region
-- of what the holes leave of the first parts, some is told already and the rest is in the parts
pub record IsWalk (holes first parts out : List (List (Range ℕ))) : Type 0 where
  pub full : AreAllFull parts
  pub separate : AreSeparate out
  pub counts : (x : List ℕ) → is_covered holes x ≡ false → held x out + held x parts ≡ held x first
  pub clear : (x : List ℕ) → is_covered holes x ≡ true → held x out ≡ 0

pub walk_start : (holes parts : List (List (Range ℕ))) → AreAllFull parts → IsWalk holes parts parts []
walk_start holes parts full = record {
  full = full;
  separate = record { full = All-nil (λ (b : List (Range ℕ)). are_full b ≡ true); apart = λ i j d lt le. absurd (omega (arith, le)) };
  counts = λ x e. omega arith;
  clear = λ x e. refl;
}

pub walk_more : (holes first parts out less more : List (List (Range ℕ))) (rest : List (Range ℕ)) → IsWalk holes first parts out → AreAllFull less
    → IsRest holes parts less rest → IsJoined rest out more → IsWalk holes first less more
walk_more holes first parts out less more rest h full is j = record {
  full = full;
  separate = j.separate;
  counts = λ x e. omega (arith, h.counts x e, is.counts x e, j.counts x);
  clear = λ x e.
      let off : is_in rest x ≡ false = false_from_ne_true _ (λ t. true≢false (sym e ∙ is.clear x t)) in
      omega (arith, h.clear x e, j.counts x, none_of (is_in rest x) off);
}

module _ {A : Type 0} (number : A → ℕ) where
  pub walk_end : (rs : List (Range ℕ)) (rules others : List (Rule A)) (first holes : List (Region A)) (parts out : List (List (Range ℕ)))
      → IsSearch number rs rules others first holes → IsWalk (boxes_of number holes) (boxes_of number first) parts out
      → ((x : List ℕ) → is_covered (boxes_of number holes) x ≡ false → held x parts ≡ 0) → AreRests number rs rules others out
  walk_end rs rules others first holes parts out s h none = record {
    separate = h.separate;
    all = λ x free.
        let k = s.found x free.here free.there in
        omega (arith, k.1, one_of (is_in rs x) free.inside, none x k.0, h.counts x k.0);
    only = λ x. elim (cases_Bool (is_covered (boxes_of number holes) x)) [
      | inl t ↦ inl (h.clear x t)
      | inr f ↦ elim (s.left x f) [
        | inl z ↦ inl (omega (arith, z, none x f, h.counts x f))
        | inr k ↦ inr (record { inside = k.2; here = k.0; there = k.1 })
      ]
    ];
  }

  -- ---- the packets of two rules
  module _ (rules : List (Rule A)) (i : ℕ) (others : List (Rule A)) (j : ℕ) where
    pub pair_rests : (rs : List (Range ℕ)) → AreDisputed number rules i others j (Some rs) → (boxes : List (List (Range ℕ)))
        → AreRests number rs (take i rules) (take j others) boxes → AreOfPair number rules i others j boxes
    pair_rests rs d boxes h = record {
      separate = h.separate;
      counts = λ x.
          let S = stops_at number rules i x && stops_at number others j x in
          let D = differ (permits_at rules i) (permits_at others j) in
          elim (cases_Bool S) [
            | inl t ↦
                let both = and_parts (stops_at number rules i x) (stops_at number others j x) t in
                let a = stops_parts number rules i x both.0 in
                let b = stops_parts number others j x both.1 in
                h.all x (record { inside = d.1 x ∙ and_from _ _ a.1 b.1; here = a.0; there = b.0 }) ∙ sym (one_of (S && D) (and_from S D t d.0))
            | inr f ↦ elim (h.only x) [
              | inl z ↦ z ∙ sym (none_of (S && D) (and_left S D f))
              | inr free ↦
                  let two = and_parts (holds_at number rules i x) (holds_at number others j x) (sym (d.1 x) ∙ free.inside) in
                  let si : stops_at number rules i x ≡ true = stops_from number rules i x free.here two.0 in
                  let sj : stops_at number others j x ≡ true = stops_from number others j x free.there two.1 in
                  absurd (true≢false (sym (and_from _ _ si sj) ∙ f))
            ]
          ];
    }

    pub pair_nothing : AreDisputed number rules i others j None → AreOfPair number rules i others j []
    pair_nothing d = record {
      separate = record { full = All-nil (λ (b : List (Range ℕ)). are_full b ≡ true); apart = λ a b e lt le. absurd (omega (arith, le)) };
      counts = λ x.
          let S = stops_at number rules i x && stops_at number others j x in
          let D = differ (permits_at rules i) (permits_at others j) in
          sym (none_of (S && D) (false_from_ne_true (S && D) (λ t.
          let two = and_parts S D t in
          let both = and_parts (stops_at number rules i x) (stops_at number others j x) two.0 in
          true≢false (sym two.1 ∙ d x (stops_parts number rules i x both.0).1 (stops_parts number others j x both.1).1))));
    }

-- ---- sums over lists
pairs_append : {X : Type 0} (R : X → X → Type 0) (xs ys : List X) → AllPairs R xs → AllPairs R ys
    → ((i j : ℕ) (d : X) → i < length xs → j < length ys → R (get_or xs i d) (get_or ys j d)) → AllPairs R (xs ++ ys)
pairs_append R xs ys a b c i j d lt le = elim (cases_lt j (length xs)) [
  | inl near ↦ rw (get_or_append_left xs ys d i (omega (arith, lt, near)), get_or_append_left xs ys d j near) (a i j d lt near)
  | inr far ↦
      let in' : j - length xs < length ys = omega (arith, far, le, length-append xs ys) in
      elim (cases_lt i (length xs)) [
        | inl early ↦ rw (get_or_append_left xs ys d i early, get_or-append_right xs ys (length xs) j d refl far) (c i (j - length xs) d early in')
        | inr late ↦ rw (get_or-append_right xs ys (length xs) i d refl late, get_or-append_right xs ys (length xs) j d refl far)
            (b (i - length xs) (j - length xs) d (omega (arith, lt, late)) in')
      ]
]

held_two : (x : List ℕ) (boxes : List (List (Range ℕ))) (a b : ℕ) (d : List (Range ℕ)) → a < b → b < length boxes
    → is_in (get_or boxes a d) x ≡ true → is_in (get_or boxes b d) x ≡ true → 2 ≤ held x boxes
held_two x boxes a b d lt le ia ib =
    let f : List (Range ℕ) → ℕ = λ r. cond {A = ℕ} (is_in r x) 1 0 in
    let e : f (get_or (take b boxes) a d) ≡ 1 = ap f (get_or-take b boxes a d lt) ∙ one_of _ ia in
    let g : f (get_or boxes b d) ≡ 1 = one_of _ ib in
    let first = get_or-le-sum_by f (take b boxes) a d (omega (arith, lt, le, length-take b boxes)) in
    let second = sum_by-drop_more f boxes b d le in
    omega (arith, e, g, first, second, sum_by-take-drop f boxes b)

-- ---- pairs of indices
plus_zero : (D : Bool) → cond {A = ℕ} D 1 0 + 0 ≡ cond D 1 0
plus_zero true = refl
plus_zero false = refl

zero_plus : (D : Bool) → 0 + cond {A = ℕ} D 1 0 ≡ cond D 1 0
zero_plus true = refl
zero_plus false = refl

before_more : (a b i j : ℕ) (D : Bool)
    → cond {A = ℕ} (comes_before a b i j && D) 1 0 + cond ((nat_eq a i && nat_eq b j) && D) 1 0 ≡ cond (comes_before a b i (j + 1) && D) 1 0
before_more a b i j D = elim (cases_order a i) [
  | inr o ↦ elim o [
    | inl lt ↦
        let u : nat_lt a i ≡ true = lt-ltb a i lt in
        let v : nat_eq a i ≡ false = ne_eqb a i (λ e. omega (arith, e, lt)) in
        rw (u, v) (plus_zero D)
    | inr gt ↦
        let u : nat_lt a i ≡ false = le-ltb a i (omega (arith, gt)) in
        let v : nat_eq a i ≡ false = ne_eqb a i (λ e. omega (arith, e, gt)) in
        rw (u, v) refl
  ]
  | inl e ↦
      let u : nat_lt a i ≡ false = le-ltb a i (omega (arith, e)) in
      let v : nat_eq a i ≡ true = eq-eqb a i e in
      elim (cases_order b j) [
        | inl q ↦
            let w : nat_lt b j ≡ false = le-ltb b j (omega (arith, q)) in
            let y : nat_eq b j ≡ true = eq-eqb b j q in
            let z : nat_lt b (j + 1) ≡ true = lt-ltb b (j + 1) (omega (arith, q)) in
            rw (u, v, w, y, z) (zero_plus D)
        | inr o ↦ elim o [
          | inl lt ↦
              let w : nat_lt b j ≡ true = lt-ltb b j lt in
              let y : nat_eq b j ≡ false = ne_eqb b j (λ q. omega (arith, q, lt)) in
              let z : nat_lt b (j + 1) ≡ true = lt-ltb b (j + 1) (omega (arith, lt)) in
              rw (u, v, w, y, z) (plus_zero D)
          | inr gt ↦
              let w : nat_lt b j ≡ false = le-ltb b j (omega (arith, gt)) in
              let y : nat_eq b j ≡ false = ne_eqb b j (λ q. omega (arith, q, gt)) in
              let z : nat_lt b (j + 1) ≡ false = le-ltb b (j + 1) (omega (arith, gt)) in
              rw (u, v, w, y, z) refl
        ]
      ]
]

before_row : (a b i m : ℕ) → b < m → comes_before a b i m ≡ comes_before a b (i + 1) 0
before_row a b i m lt = same_tests (comes_before a b i m) (comes_before a b (i + 1) 0)
    (λ e.
    let k : nat_lt a (i + 1) ≡ true = elim (or_cases (nat_lt a i) (nat_eq a i && nat_lt b m) e) [
      | inl u ↦ lt-ltb a (i + 1) (omega (arith, ltb-true a i u))
      | inr u ↦ lt-ltb a (i + 1) (omega (arith, eqb-true a i (and_parts (nat_eq a i) (nat_lt b m) u).0))
    ] in
    or_left (nat_lt a (i + 1)) (nat_eq a (i + 1) && nat_lt b 0) k)
    (λ e. elim (or_cases (nat_lt a (i + 1)) (nat_eq a (i + 1) && nat_lt b 0) e) [
      | inr u ↦ absurd (omega (arith, ltb-true b 0 (and_parts (nat_eq a (i + 1)) (nat_lt b 0) u).1))
      | inl u ↦ elim (cases_lt a i) [
        | inl less ↦ or_left (nat_lt a i) (nat_eq a i && nat_lt b m) (lt-ltb a i less)
        | inr ge ↦ or_right (nat_lt a i) (nat_eq a i && nat_lt b m)
            (and_from (nat_eq a i) (nat_lt b m) (eq-eqb a i (omega (arith, ge, ltb-true a (i + 1) u))) (lt-ltb b m lt))
      ]
    ])

before_none : (a b : ℕ) → comes_before a b 0 0 ≡ false
before_none a b = or_from (nat_lt a 0) (nat_eq a 0 && nat_lt b 0) (le-ltb a 0 (omega arith)) (and_right (nat_eq a 0) (nat_lt b 0) (le-ltb b 0 (omega arith)))

before_all : (a b n : ℕ) → a ≤ n → comes_before a b (n + 1) 0 ≡ true
before_all a b n le = or_left (nat_lt a (n + 1)) (nat_eq a (n + 1) && nat_lt b 0) (lt-ltb a (n + 1) (omega (arith, le)))

never_before : (i j : ℕ) → comes_before i j i j ≡ true → ⊥
never_before i j e = elim (or_cases (nat_lt i i) (nat_eq i i && nat_lt j j) e) [
  | inl u ↦ omega (arith, ltb-true i i u)
  | inr u ↦ omega (arith, ltb-true j j (and_parts (nat_eq i i) (nat_lt j j) u).1)
]

index_same : {A : Type 0} (rules : List (Rule A)) (a b : ℕ) → a ≤ length rules → b ≤ length rules → index_at rules a ≡ index_at rules b → a ≡ b
index_same rules a b la lb e = elim (cases_lt a (length rules)) [
  | inl x ↦ elim (cases_lt b (length rules)) [
    | inl y ↦ let k : Some a ≡ Some b = sym (index_here rules a x) ∙ e ∙ index_here rules b y in cc k
    | inr y ↦ let k : Some a ≡ None = sym (index_here rules a x) ∙ e ∙ index_behind b y in absurd (cc k)
  ]
  | inr x ↦ elim (cases_lt b (length rules)) [
    | inl y ↦ let k : None ≡ Some b = sym (index_behind a x) ∙ e ∙ index_here rules b y in absurd (cc k)
    | inr y ↦ omega (arith, x, y, la, lb)
  ]
]
  where
    index_behind : (i : ℕ) → length rules ≤ i → index_at rules i ≡ None
    index_behind i le = rw (le-ltb i (length rules) le) refl

-- ---- one pair of rules more
abbrev pub difference_of : {A : Type 0} → Option ℕ → Option ℕ → Region A → Difference A
difference_of rule other r = record { region = r; rule = rule; other = other }

module _ {A : Type 0} (number : A → ℕ) where
  -- two differences of the same rules are together no region
  abbrev AreUnjoined : Difference A → Difference A → Type 0
  AreUnjoined d e = d.rule ≡ e.rule → d.other ≡ e.other → (r : Region A)
      → ¬ ((x : List ℕ) → is_in (ranges_of number r) x ≡ (is_in (ranges_of number d.region) x || is_in (ranges_of number e.region) x))

  told_map : (rule other : Option ℕ) (regions : List (Region A)) (x : List ℕ) → told number x (map (difference_of rule other) regions) ≡ held x (boxes_of number regions)
  told_map rule other regions x =
      fold-map (λ (n : ℕ) (d : Difference A). n + cond (is_in (ranges_of number d.region) x) 1 0) (difference_of rule other) 0 regions
      ∙ sym (fold-map (λ (n : ℕ) (b : List (Range ℕ)). n + cond (is_in b x) 1 0) (ranges_of number) 0 regions)

  pub told_start : (rules others : List (Rule A)) → AreTold number rules others 0 0 []
  told_start rules others = record {
    each = All-nil (IsDifference number rules others);
    once = λ x.
        let D = differ (is_permitted number rules x) (is_permitted number others x) in
        let B = comes_before (stop number rules x) (stop number others x) 0 0 in
        sym (none_of (B && D) (and_left B D (before_none (stop number rules x) (stop number others x))));
    joined = λ a b d lt le. absurd (omega (arith, le));
  }

  pub told_row : (rules others : List (Rule A)) (i : ℕ) (out : List (Difference A)) → AreTold number rules others i (length others + 1) out → AreTold number rules others (i + 1) 0 out
  told_row rules others i out h = record {
    each = h.each;
    once = λ x. h.once x ∙ ap (λ b. cond {A = ℕ} (b && differ (is_permitted number rules x) (is_permitted number others x)) 1 0)
        (before_row (stop number rules x) (stop number others x) i (length others + 1) (omega (arith, stop-le number others x)));
    joined = h.joined;
  }

  module _ (rules others : List (Rule A)) (out : List (Difference A)) (h : AreTold number rules others (length rules + 1) 0 out) (x : List ℕ) where
    told_all : told number x out ≡ cond (differ (is_permitted number rules x) (is_permitted number others x)) 1 0
    told_all = h.once x ∙ ap (λ b. cond {A = ℕ} (b && differ (is_permitted number rules x) (is_permitted number others x)) 1 0)
        (before_all (stop number rules x) (stop number others x) (length rules) (stop-le number rules x))

    pub told_once : is_permitted number rules x ≢ is_permitted number others x → told number x out ≡ 1
    told_once apart = told_all ∙ one_of (differ (is_permitted number rules x) (is_permitted number others x)) (differ_from (is_permitted number rules x) (is_permitted number others x) apart)

    pub told_never : is_permitted number rules x ≡ is_permitted number others x → told number x out ≡ 0
    told_never same = told_all ∙ none_of (differ (is_permitted number rules x) (is_permitted number others x))
        (ap (λ b. differ b (is_permitted number others x)) same ∙ differ_same (is_permitted number others x))

  module _ (rules : List (Rule A)) (i : ℕ) (others : List (Rule A)) (j : ℕ) (li : i ≤ length rules) (lj : j ≤ length others)
      (regions : List (Region A)) (h : AreOfPair number rules i others j (boxes_of number regions)) where
    abbrev news : List (Difference A)
    news = map (difference_of (index_at rules i) (index_at others j)) regions

    -- the packets of a region stop at both rules
    both_stop : (k : ℕ) (e : Region A) (x : List ℕ) → k < length regions → is_in (ranges_of number (get_or regions k e)) x ≡ true
        → (stops_at number rules i x ≡ true) × (stops_at number others j x ≡ true)
    both_stop k e x lt i' =
        let f : List (Range ℕ) → ℕ = λ r. cond {A = ℕ} (is_in r x) 1 0 in
        let here : f (get_or (boxes_of number regions) k []) ≡ 1 = ap f (get_map (ranges_of number) regions k [] e lt) ∙ one_of _ i' in
        let some = get_or-le-sum_by f (boxes_of number regions) k [] (omega (arith, lt, length-map regions (ranges_of number))) in
        elim (cases_Bool (stops_at number rules i x && stops_at number others j x)) [
          | inl t ↦ and_parts _ _ t
          | inr u ↦
              let S = stops_at number rules i x && stops_at number others j x in
              let D = differ (permits_at rules i) (permits_at others j) in
              absurd (omega (arith, here, some, h.counts x, none_of (S && D) (and_left S D u)))
        ]

    region_full : (k : ℕ) (e : Region A) → k < length regions → are_full (ranges_of number (get_or regions k e)) ≡ true
    region_full k e lt = ap are_full (sym (get_map (ranges_of number) regions k [] e lt)) ∙ h.separate.full k [] (omega (arith, lt, length-map regions (ranges_of number)))

    news_told : All (IsDifference number rules others) news
    news_told = All-map (IsDifference number rules others) (difference_of (index_at rules i) (index_at others j)) regions (λ k e lt. record {
      some = (map (λ r. r.first) (ranges_of number (get_or regions k e)), full_corner (ranges_of number (get_or regions k e)) (region_full k e lt));
      rule = λ x i'. decided_at number rules i x li (both_stop k e x lt i').0;
      other = λ x i'. decided_at number others j x lj (both_stop k e x lt i').1;
    })

    news_joined : AreJoined number news
    news_joined a b d lt le same also r union =
        let e = d.region in
        let lb : b < length regions = omega (arith, le, length-map regions (difference_of (index_at rules i) (index_at others j))) in
        let la : a < length regions = omega (arith, lt, lb) in
        let lbox : b < length (boxes_of number regions) = omega (arith, lb, length-map regions (ranges_of number)) in
        let ea = get_map (difference_of (index_at rules i) (index_at others j)) regions a d e la in
        let eb = get_map (difference_of (index_at rules i) (index_at others j)) regions b d e lb in
        let ra = ranges_of number (get_or regions a e) in
        let rb = ranges_of number (get_or regions b e) in
        let u : (x : List ℕ) → is_in (ranges_of number r) x ≡ (is_in ra x || is_in rb x)
        = λ x. union x ∙ ap (λ (q : Difference A). is_in (ranges_of number q.region) x || is_in (ranges_of number (get_or news b d).region) x) ea
        ∙ ap (λ (q : Difference A). is_in ra x || is_in (ranges_of number q.region) x) eb in
        let ba = get_map (ranges_of number) regions a [] e la in
        let bb = get_map (ranges_of number) regions b [] e lb in
        let apart : (x : List ℕ) → is_in ra x ≡ true → is_in rb x ≡ true → ⊥
        = λ x ia ib.
        let two = held_two x (boxes_of number regions) a b [] lt lbox (ap (λ (q : List (Range ℕ)). is_in q x) ba ∙ ia) (ap (λ (q : List (Range ℕ)). is_in q x) bb ∙ ib) in
        omega (arith, two, h.counts x, at_most_one ((stops_at number rules i x && stops_at number others j x) && differ (permits_at rules i) (permits_at others j))) in
        let yes : join ra rb ≡ true = parted_join (ranges_of number r) ra rb refl refl (region_full a e la) (region_full b e lb) (record { union = u; apart = apart }) in
        let no : join ra rb ≡ false = ap (λ (q : List (Range ℕ)). join q rb) (sym ba) ∙ ap (λ (q : List (Range ℕ)). join (get_or (boxes_of number regions) a []) q) (sym bb)
        ∙ h.separate.apart a b [] lt lbox in
        true≢false (sym yes ∙ no)
      where
        at_most_one : (b : Bool) → cond {A = ℕ} b 1 0 ≤ 1
        at_most_one true = omega arith
        at_most_one false = omega arith

    module _ (out : List (Difference A)) (t : AreTold number rules others i j out) where
      -- what was told before is of other rules
      earlier : (k : ℕ) (d : Difference A) → k < length out → (get_or out k d).rule ≡ index_at rules i → (get_or out k d).other ≡ index_at others j → ⊥
      earlier k d lt er eo =
          let is = t.each k d lt in
          let x = is.some.0 in
          let some = get_or-le-sum_by (λ (q : Difference A). cond {A = ℕ} (is_in (ranges_of number q.region) x) 1 0) out k d lt in
          let before : comes_before (stop number rules x) (stop number others x) i j ≡ true
          = elim (cases_Bool (comes_before (stop number rules x) (stop number others x) i j)) [
            | inl y ↦ y
            | inr n ↦
                let B = comes_before (stop number rules x) (stop number others x) i j in
                let D = differ (is_permitted number rules x) (is_permitted number others x) in
                absurd (omega (arith, some, one_of _ is.some.1, t.once x, none_of (B && D) (and_left B D n)))
          ] in
          let a : stop number rules x ≡ i = index_same rules (stop number rules x) i (stop-le number rules x) li (is.rule x is.some.1 ∙ er) in
          let b : stop number others x ≡ j = index_same others (stop number others x) j (stop-le number others x) lj (is.other x is.some.1 ∙ eo) in
          never_before i j (sym (ap (λ n. comes_before n (stop number others x) i j) a ∙ ap (λ n. comes_before i n i j) b) ∙ before)

      pub told_more : AreTold number rules others i (j + 1) (out ++ news)
      told_more = record {
        each = All-append (IsDifference number rules others) out news t.each news_told;
        once = λ x.
            let D = differ (is_permitted number rules x) (is_permitted number others x) in
            let S = stops_at number rules i x && stops_at number others j x in
            let here : cond {A = ℕ} (S && differ (permits_at rules i) (permits_at others j)) 1 0 ≡ cond (S && D) 1 0 = same_where x in
            let at : cond {A = ℕ} (S && D) 1 0 ≡ cond ((nat_eq (stop number rules x) i && nat_eq (stop number others x) j) && D) 1 0
            = ap (λ b. cond {A = ℕ} ((b && stops_at number others j x) && D) 1 0) (stops_where number rules i x li)
            ∙ ap (λ b. cond {A = ℕ} ((nat_eq (stop number rules x) i && b) && D) 1 0) (stops_where number others j x lj) in
            omega (
              arith,
              sum_by-append (λ (q : Difference A). cond {A = ℕ} (is_in (ranges_of number q.region) x) 1 0) out news,
              t.once x,
              news_held x,
              h.counts x,
              here,
              at,
              before_more (stop number rules x) (stop number others x) i j D,
            );
        joined = pairs_append AreUnjoined out news t.joined news_joined (λ k l d lk ll same also r union. apart_new k l d lk ll same also);
      }
        where
          news_held : (x : List ℕ) → told number x news ≡ held x (boxes_of number regions)
          news_held x = told_map (index_at rules i) (index_at others j) regions x

          apart_new : (k l : ℕ) (d : Difference A) → k < length out → l < length news → (get_or out k d).rule ≡ (get_or news l d).rule → (get_or out k d).other ≡ (get_or news l d).other → ⊥
          apart_new k l d lk ll same also =
              let short : l < length regions = omega (arith, ll, length-map regions (difference_of (index_at rules i) (index_at others j))) in
              let e = get_map (difference_of (index_at rules i) (index_at others j)) regions l d d.region short in
              earlier k d lk (same ∙ ap (λ (q : Difference A). q.rule) e) (also ∙ ap (λ (q : Difference A). q.other) e)

          same_where : (x : List ℕ) → cond {A = ℕ} ((stops_at number rules i x && stops_at number others j x) && differ (permits_at rules i) (permits_at others j)) 1 0
              ≡ cond ((stops_at number rules i x && stops_at number others j x) && differ (is_permitted number rules x) (is_permitted number others x)) 1 0
          same_where x =
              let S = stops_at number rules i x && stops_at number others j x in
              elim (cases_Bool S) [
                | inl y ↦
                    let two = and_parts (stops_at number rules i x) (stops_at number others j x) y in
                    ap (λ b. cond {A = ℕ} (S && differ b (permits_at others j)) 1 0) (sym (permitted_at number rules i x two.0))
                    ∙ ap (λ b. cond {A = ℕ} (S && differ (is_permitted number rules x) b) 1 0) (sym (permitted_at number others j x two.1))
                | inr n ↦
                    let a = differ (permits_at rules i) (permits_at others j) in
                    let b = differ (is_permitted number rules x) (is_permitted number others x) in
                    none_of (S && a) (and_left S a n) ∙ sym (none_of (S && b) (and_left S b n))
              ]
