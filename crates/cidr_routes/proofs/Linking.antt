-- Payloads in the order of their networks, and those whose network contains a list of bits.
use Rattle.std.proofs.Common.{◌≡◌, ◌≢◌, ◌↔◌, ◌⊎◌, refl, sym, ap, ◌∙◌, subst, arith, inl, inr, ℕ, zero, suc, ◌-◌, ◌<◌, ◌≤◌, Bool, true, false, List, [], ◌∷◌, ◌++◌, length, get_or, cond, Option, Some, None}
use Rattle.std.proofs.lemmas.Bool.{cases_lt, cases_eq, false≢true}
use Rattle.std.proofs.lemmas.Map.Keys.{Less-from_sorted}
use Rattle.std.proofs.lemmas.Option.{none-some, same_Some, slice_get-get_or, slice_get_within, get_or_from_slice_get}
use Rattle.std.specs.Iterator.{MakesProgress, item_count}
use Rattle.std.specs.List.{AllByRecursion, Contains, slice_get}
use Rattle.std.specs.List.Sorted.{IsStrictlySortedBy}
use Rattle.std.specs.Ordering.{ordering_reverse}
use Rattle.std.specs.declared.cmp.Ordering.{Ordering}
use Rattle.std.specs.declared.cmp.Ordering.TheVariants.{Less, Equal, Greater}
use Rattle.cidr.specs.laws.BitLaws.{bit_cmp_total}
use Rattle.cidr.specs.model.Bits.{bit_cmp}
use Rattle.cidr.specs.model.Network.{BeginsWith}
use Rattle.cidr_table.specs.internal.Places.{begins_with}
use Rattle.cidr_table.proofs.Beginnings.{bits_exact, begins_between, begins_decides, not_before}
use Rattle.cidr_table.proofs.Halves.{begins_begins, begins_both}
use Rattle.cidr_table.proofs.MapLaws.{contains_first, contains_later, contains_cases, contains_nothing}
use Rattle.cidr_routes.specs.declared.origins.Payload.{Payload}
use Rattle.cidr_table.specs.model.Prefixes.{IsLongestRow}
use Rattle.cidr_routes.specs.Links.{AreEnds, AreOrdered, AreNested, CoversLast, NoneCovers, IsUpto, covered_step, covered}

-- ---- lists
pub at_index : {X : Type 0} (xs : List X) (x : X) → Contains xs x → (j : ℕ) × (slice_get xs j ≡ Some x)
at_index xs x c = (c.0, slice_get-get_or xs c.0 x c.1 ∙ ap Some c.2)

pub in_list : {X : Type 0} (xs : List X) (j : ℕ) (x : X) → slice_get xs j ≡ Some x → Contains xs x
in_list xs j x s = (j, slice_get_within xs j x s, get_or_from_slice_get xs j x x s)

-- what the code reads
pub read : {X : Type 0} (xs : List X) (j : ℕ) (x : X) → j < length xs → x ≡ get_or xs j x → slice_get xs j ≡ Some x
read xs j x lt e = slice_get-get_or xs j x lt ∙ ap Some (sym e)

-- an element before the last of a longer list, or the last
pub pushed_cases : {X : Type 0} (xs : List X) (y x : X) (j : ℕ) → slice_get (xs ++ y ∷ []) j ≡ Some x
    → (slice_get xs j ≡ Some x) ⊎ ((j ≡ length xs) × (y ≡ x))
pushed_cases [] y x zero s = inr (refl, same_Some y x s)
pushed_cases [] y x (suc j) s = absurd (none-some x s)
pushed_cases (e ∷ xs) y x zero s = inl s
pushed_cases (e ∷ xs) y x (suc j) s = elim (pushed_cases xs y x j s) [
  | inl k ↦ inl k
  | inr k ↦ inr (ap suc k.0, k.1)
]

all_from : {X : Type 0} (P : X → Type 0) (xs : List X) → ((x : X) → Contains xs x → P x) → AllByRecursion P xs
all_from P [] h = tt
all_from P (x ∷ xs) h = (h x (contains_first x xs), all_from P xs (λ y c. h y (contains_later x y xs c)))

pub progress : {A X : Type 0} (view : A → X) {can : List X → Type 0} → ((s : List X) → can s) → (s t : List X) (x : A)
    → s ≡ view x ∷ t → MakesProgress can (item_count (λ xs. xs)) s (Some x) t
progress view can s t x h = record { on = λ _. (can t, tt, omega (arith, ap length h)); keeps = can t; rests = λ _. tt }

-- ---- the order of networks
not_less : (p q : List Bool) → bit_cmp p q ≢ Greater → bit_cmp q p ≢ Less
not_less p q n l = n (bit_cmp_total.antisymm p q ∙ ap ordering_reverse l)

same_bits : (p q : List Bool) → bit_cmp p q ≢ Greater → bit_cmp p q ≢ Less → p ≡ q
same_bits p q g l = elim (bit_cmp p q) as (λ r. bit_cmp p q ≡ r → p ≡ q) [
  | Less ↦ λ e. absurd (l e)
  | Equal ↦ λ e. bits_exact p q e
  | Greater ↦ λ e. absurd (g e)
] refl

-- of two networks that contain a list, the earlier contains the later
pub earlier_contains : (a p q : List Bool) → BeginsWith a p → BeginsWith a q → bit_cmp p q ≢ Greater → BeginsWith q p
earlier_contains a p q bp bq n = elim (cases_lt (length q) (length p)) [
  | inl lt ↦
      let in_q = begins_both a p q bp bq (omega arith) in
      let same = same_bits p q n (not_before p q in_q) in
      absurd (omega (arith, lt, ap length same))
  | inr le ↦ begins_both a q p bq bp le
]

module _ {C : Type 0} (bits : C → List Bool) (vrps : List (Payload C)) where
  -- from a network before an index to the last one that contains it, none contains what that doesn't
  pub skipped : (asked : List Bool) (end left count : ℕ) (p : Payload C) → AreNested bits vrps asked end → 0 < left → left ≤ end
      → slice_get vrps (left - 1) ≡ Some p → IsUpto bits vrps (bits p.network) (left - 1) count → ¬ (BeginsWith asked (bits p.network))
      → NoneCovers bits vrps asked left end → NoneCovers bits vrps asked count end
  skipped asked end left count p nested pos le at upto other none j v cj je sv b = elim (cases_lt j left) [
    | inr behind ↦ none j v behind je sv b
    | inl before ↦ elim (cases_eq j (left - 1)) [
      | inl e ↦ other (subst (λ (x : Payload C). BeginsWith asked (bits x.network)) (same_Some v p (sym sv ∙ (ap (slice_get vrps) e ∙ at))) b)
      | inr ne ↦ upto.none j v cj (omega (arith, before, ne))
          sv (nested j (left - 1) v p (omega (arith, before)) (omega (arith, pos, le)) sv at b)
    ]
  ]

module _ {C : Type 0} (bits : C → List Bool) (vrps : List (Payload C)) (ordered : AreOrdered bits vrps) where
  -- the networks behind one that contains the network at an index, up to that index, lie in it
  pub nested_before : (i : ℕ) (v : Payload C) → slice_get vrps i ≡ Some v → AreNested bits vrps (bits v.network) i
  nested_before i v at j k u w jk ki su sw b =
      begins_between (bits u.network) (bits v.network) (bits w.network) b
      (not_less (bits u.network) (bits w.network) (ordered j k u w jk su sw))
      (ordered k i w v (omega (arith, ki)) sw at)

  -- the same for a list that the network before an index contains
  pub nested_within : (end : ℕ) (a asked : List Bool) → end ≤ length vrps → CoversLast bits vrps a end → BeginsWith a asked
      → AreNested bits vrps asked end
  nested_within end a asked le last inside j k u w jk ke su sw b =
      let e = get_or vrps (end - 1) u in
      let at : slice_get vrps (end - 1) ≡ Some e = slice_get-get_or vrps (end - 1) u (omega (arith, le, ke)) in
      let in_u = begins_begins a asked (bits u.network) inside b in
      let in_e = last e (omega (arith, ke)) at in
      let e_in_u = earlier_contains a (bits u.network) (bits e.network) in_u in_e (ordered j (end - 1) u e (omega (arith, jk, ke)) su at) in
      begins_between (bits u.network) (bits e.network) (bits w.network) e_in_u
      (not_less (bits u.network) (bits w.network) (ordered j k u w jk su sw))
      (ordered k (end - 1) w e (omega (arith, ke)) sw at)

  -- where the network before an index contains a list, those before it that contain the list are those that contain the network
  pub none_between : (asked : List Bool) (place count : ℕ) (p : Payload C) → slice_get vrps place ≡ Some p → BeginsWith asked (bits p.network)
      → IsUpto bits vrps (bits p.network) place count → NoneCovers bits vrps asked count place
  none_between asked place count p at b upto j v cj jp sv in_v =
      upto.none j v cj jp sv (earlier_contains asked (bits v.network) (bits p.network) in_v b (ordered j place v p (omega (arith, jp)) sv at))

  pub covers_next : (asked : List Bool) (place count : ℕ) (p : Payload C) → BeginsWith asked (bits p.network)
      → IsUpto bits vrps (bits p.network) place count → CoversLast bits vrps asked count
  covers_next asked place count p b upto v pos sv = begins_begins asked (bits p.network) (bits v.network) b (upto.last v pos sv)

-- ---- the list of those that contain a list of bits
module _ {C : Type 0} (bits : C → List Bool) (vrps : List (Payload C)) (asked : List Bool) where
  step_covers : (v : Payload C) (rest : List (Payload C)) → BeginsWith asked (bits v.network) → covered_step bits asked (Some v) rest ≡ v ∷ rest
  step_covers v rest b = ap (λ t. cond t (v ∷ rest) rest) ((begins_decides asked (bits v.network)).1 b)

  not_true : (b : Bool) → ¬ (b ≡ true) → b ≡ false
  not_true true n = absurd (n refl)
  not_true false n = refl

  step_other : (v : Payload C) (rest : List (Payload C)) → ¬ (BeginsWith asked (bits v.network)) → covered_step bits asked (Some v) rest ≡ rest
  step_other v rest n = ap (λ t. cond t (v ∷ rest) rest)
      (not_true (begins_with asked (bits v.network)) (λ t. n ((begins_decides asked (bits v.network)).0 t)))

  pub covered_first : (n : ℕ) (v : Payload C) → slice_get vrps n ≡ Some v → BeginsWith asked (bits v.network)
      → covered bits vrps asked (suc n) ≡ v ∷ covered bits vrps asked n
  covered_first n v at b = ap (λ o. covered_step bits asked o (covered bits vrps asked n)) at ∙ step_covers v (covered bits vrps asked n) b

  none_here : (o : Option (Payload C)) (rest : List (Payload C)) → ((v : Payload C) → o ≡ Some v → ¬ (BeginsWith asked (bits v.network)))
      → covered_step bits asked o rest ≡ rest
  none_here None rest h = refl
  none_here (Some v) rest h = step_other v rest (h v refl)

  pub covered_passed : (count n : ℕ) → count ≤ n → NoneCovers bits vrps asked count n → covered bits vrps asked n ≡ covered bits vrps asked count
  covered_passed count zero le none = let e : zero ≡ count = omega (arith, le) in ap (covered bits vrps asked) e
  covered_passed count (suc n) le none = elim (cases_eq count (suc n)) [
    | inl e ↦ ap (covered bits vrps asked) (sym e)
    | inr ne ↦
        none_here (slice_get vrps n) (covered bits vrps asked n) (λ v s. none n v (omega (arith, le, ne)) (omega arith) s)
        ∙ covered_passed count n (omega (arith, le, ne)) (λ j v cj jn s. none j v cj (omega (arith, jn)) s)
  ]

  step_cases : (o : Option (Payload C)) (rest : List (Payload C)) (v : Payload C) → Contains (covered_step bits asked o rest) v
      → ((o ≡ Some v) × BeginsWith asked (bits v.network)) ⊎ Contains rest v
  step_cases None rest v c = inr c
  step_cases (Some u) rest v c = elim (begins_with asked (bits u.network)) as
      (λ t. begins_with asked (bits u.network) ≡ t → ((Some u ≡ Some v) × BeginsWith asked (bits v.network)) ⊎ Contains rest v) [
        | true ↦ λ q.
            let b = (begins_decides asked (bits u.network)).0 q in
            elim (contains_cases u v rest (subst (λ xs. Contains xs v) (step_covers u rest b) c)) [
              | inl e ↦ inl (ap Some e, subst (λ (x : Payload C). BeginsWith asked (bits x.network)) e b)
              | inr d ↦ inr d
            ]
        | false ↦ λ q.
            inr (subst (λ xs. Contains xs v) (step_other u rest (λ b. false≢true (sym q ∙ (begins_decides asked (bits u.network)).1 b))) c)
      ] refl

  step_keeps : (o : Option (Payload C)) (rest : List (Payload C)) (v : Payload C) → Contains rest v → Contains (covered_step bits asked o rest) v
  step_keeps None rest v c = c
  step_keeps (Some u) rest v c = elim (begins_with asked (bits u.network)) as
      (λ t. begins_with asked (bits u.network) ≡ t → Contains (covered_step bits asked (Some u) rest) v) [
        | true ↦ λ q. subst (λ xs. Contains xs v) (sym (step_covers u rest ((begins_decides asked (bits u.network)).0 q))) (contains_later u v rest c)
        | false ↦ λ q. subst (λ xs. Contains xs v)
            (sym (step_other u rest (λ b. false≢true (sym q ∙ (begins_decides asked (bits u.network)).1 b)))) c
      ] refl

  -- each stands at an index below n, and contains the list
  pub covered_at : (n : ℕ) (v : Payload C) → Contains (covered bits vrps asked n) v
      → (j : ℕ) × (j < n) × (slice_get vrps j ≡ Some v) × BeginsWith asked (bits v.network)
  covered_at zero v c = absurd (contains_nothing v c)
  covered_at (suc n) v c = elim (step_cases (slice_get vrps n) (covered bits vrps asked n) v c) [
    | inl h ↦ (n, omega arith, h.0, h.1)
    | inr d ↦ let k = covered_at n v d in (k.0, omega (arith, k.1), k.2, k.3)
  ]

  pub at_covered : (n j : ℕ) (v : Payload C) → j < n → slice_get vrps j ≡ Some v → BeginsWith asked (bits v.network)
      → Contains (covered bits vrps asked n) v
  at_covered zero j v lt s b = absurd (omega (arith, lt))
  at_covered (suc n) j v lt s b = elim (cases_eq j n) [
    | inl e ↦
        subst (λ xs. Contains xs v) (sym (covered_first n v (ap (slice_get vrps) (sym e) ∙ s) b)) (contains_first v (covered bits vrps asked n))
    | inr ne ↦ step_keeps (slice_get vrps n) (covered bits vrps asked n) v (at_covered n j v (omega (arith, lt, ne)) s b)
  ]

  module _ (cmp : Payload C → Payload C → Ordering) (sorted : IsStrictlySortedBy cmp vrps) where
    less_at : (j k : ℕ) (u v : Payload C) → j < k → slice_get vrps j ≡ Some u → slice_get vrps k ≡ Some v → cmp u v ≡ Less
    less_at j k u v lt su sv =
        subst (λ x. cmp x v ≡ Less) (get_or_from_slice_get vrps j u u su)
        (subst (λ y. cmp (get_or vrps j u) y ≡ Less) (get_or_from_slice_get vrps k v u sv)
        (Less-from_sorted cmp vrps j k u sorted lt (slice_get_within vrps k v sv)))

    descend_step : (n : ℕ) (o : Option (Payload C)) → slice_get vrps n ≡ o → IsStrictlySortedBy (λ v u. cmp u v) (covered bits vrps asked n)
        → IsStrictlySortedBy (λ v u. cmp u v) (covered_step bits asked o (covered bits vrps asked n))
    unfolding IsStrictlySortedBy
    descend_step n None at h = h
    descend_step n (Some v) at h = elim (begins_with asked (bits v.network)) as
        (λ t. IsStrictlySortedBy (λ v u. cmp u v) (cond t (v ∷ covered bits vrps asked n) (covered bits vrps asked n))) [
          | true ↦ (all_from (λ u. cmp u v ≡ Less) (covered bits vrps asked n) (λ u c. let k = covered_at n u c in less_at k.0 n u v k.1 k.2 at), h)
          | false ↦ h
        ]

    pub covered_descend : (n : ℕ) → IsStrictlySortedBy (λ v u. cmp u v) (covered bits vrps asked n)
    unfolding IsStrictlySortedBy
    covered_descend zero = tt
    covered_descend (suc n) = descend_step n (slice_get vrps n) refl (covered_descend n)

-- ---- the payloads that cover a route, by those that contain its first address
pub begins_append : (p z : List Bool) → BeginsWith (p ++ z) p
begins_append [] z = refl
begins_append (x ∷ p) z = ap (λ t. x ∷ t) (begins_append p z)

module _ {C : Type 0} (bits : C → List Bool) (vrps : List (Payload C)) (a route : List Bool) (upto end : ℕ)
    (first : IsUpto bits vrps a (length vrps) upto) (inside : BeginsWith a route) (u : IsUpto bits vrps route upto end) where
  pub all_covering : (v : Payload C) → Contains (covered bits vrps route end) v ↔ (Contains vrps v × BeginsWith route (bits v.network))
  all_covering v = (
    λ c. let k = covered_at bits vrps route end v c in (in_list vrps k.0 v k.2, k.3),
    λ h.
        let (j, s) = at_index vrps v h.0 in
        elim (cases_lt j end) [
          | inl lt ↦ at_covered bits vrps route end j v lt s h.1
          | inr behind ↦ elim (cases_lt j upto) [
            | inl lt ↦ absurd (u.none j v behind lt s h.1)
            | inr far ↦ absurd (first.none j v far (slice_get_within vrps j v s) s (begins_begins a route (bits v.network) inside h.1))
          ]
        ],
  )

-- ---- the last payload of each network
module _ {C : Type 0} (bits : C → List Bool) (determined : (x y : C) → bits x ≡ bits y → x ≡ y) (vrps : List (Payload C)) (rows : List (C × ℕ))
    (ends : AreEnds vrps rows) (a : List Bool) where
  pub upto_none : ((row : C × ℕ) → Contains rows row → ¬ (BeginsWith a (bits row.0))) → IsUpto bits vrps a (length vrps) 0
  upto_none none = record {
    within = omega arith;
    last = λ v pos s. absurd (omega (arith, pos));
    none = λ j v le lt s b. let e = ends.each j v s in none (v.network, e.0) e.1 b;
  }

  pub upto_some : AreOrdered bits vrps → (n : C) (l : ℕ) → IsLongestRow bits a rows (n, l) → IsUpto bits vrps a (length vrps) l
  upto_some ordered n l long =
      let (e, pos, at, is) = ends.row n l long.here in
      let in_n : BeginsWith a (bits n) = long.begins in record {
        within = omega (arith, pos, slice_get_within vrps (l - 1) e at);
        last = λ v p s. subst (λ (x : Payload C). BeginsWith a (bits x.network)) (same_Some e v (sym at ∙ s)) (subst (λ k. BeginsWith a (bits k)) (sym is) in_n);
        none = λ j v le lt s b.
            let r = ends.each j v s in
            let short = long.longest (v.network, r.0) r.1 b in
            let before : bit_cmp (bits n) (bits v.network) ≢ Greater = subst (λ k. bit_cmp (bits k) (bits v.network) ≢ Greater) is
            (ordered (l - 1) j e v (omega (arith, le)) at s) in
            let in_v : BeginsWith (bits n) (bits v.network) = begins_both a (bits n) (bits v.network) in_n b short in
            let same : bits n ≡ bits v.network = same_bits (bits n) (bits v.network) before (not_before (bits n) (bits v.network) in_v) in
            let below = ends.last n j l v long.here s (determined v.network n (sym same)) in
            omega (arith, le, below);
      }
