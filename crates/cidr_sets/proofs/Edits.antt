-- A set with the addresses of one network more, or without them.
use Rattle.std.proofs.Common.{◌≡◌, ◌↔◌, ◌⊎◌, ℕ, ◌<◌, ◌≤◌, Bool, true, false, List, [], ◌∷◌, ◌++◌, length, take, drop, map, length-append, length-drop, get_or, refl, sym, ap, ◌∙◌, subst, arith, inl, inr}
use Rattle.std.proofs.lemmas.List.{length-map, length-take-le}
use Rattle.std.proofs.lemmas.Bool.{cases_lt}
use Rattle.std.proofs.lemmas.List.Elements.{Contains-append_cases, Contains-append_left, Contains-append_right, Contains-push, Contains-push_cases}
use Rattle.std.specs.List.{Contains}
use Rattle.std.specs.declared.cmp.Ordering.TheVariants.{Less}
use Rattle.cidr.specs.model.Bits.{bit_cmp}
use Rattle.cidr.specs.model.Network.{BeginsWith}
use Rattle.cidr.specs.laws.BitLaws.{bit_cmp_total}
use Rattle.cidr_table.specs.model.Cover.{AreNetworks, Covers, IsReduced, parent}
use Rattle.cidr_table.proofs.Ascending.{first_less, sorted_append, sorted_front}
use Rattle.cidr_table.proofs.Beginnings.{begins_length, not_before}
use Rattle.cidr_table.proofs.Halves.{begins_begins, begins_both, begins_itself, begins_parent, either_half, half_begins, length_half, length_parent, next_bit, parent_half, same_length}
use Rattle.cidr_table.proofs.MapLaws.{contains_cases, contains_first, contains_later, contains_nothing}
use Rattle.cidr_table.proofs.Order.{before_whole, between_halves, halves_less, last_bits, lower_less, not_both, whole_less}
use Rattle.cidr_table.proofs.Reduced.{HaveNoHalves, HoldNoOther, reduced_is_least}
use Rattle.cidr_table.proofs.Stacks.{IsSpread, last_behind, reduced_from_spread, spread_from_reduced, spread_push}
use Rattle.cidr_sets.specs.internal.Edits.{IsAlone, IsBeside, IsHalf, IsParted}
use Rattle.cidr_sets.specs.model.Sets.{IsDifference, IsSetOf, IsUnion}
use Rattle.cidr_sets.specs.internal.Steps.{Ascend, IsBehind, IsDifferenceStep}
use Rattle.cidr_sets.proofs.Addresses.{same_sets}
use Rattle.cidr_sets.proofs.Algebra.{covers_within}
use Rattle.cidr_sets.proofs.Cuts.{member_of_rest}
use Rattle.cidr_sets.proofs.Members.{IsMemberOf, set_of_members}
use Rattle.cidr_sets.proofs.Parts.{later_apart}
use Rattle.cidr_sets.proofs.Steps.{less_longer, rest_ascends}

one_covers : (p a : List Bool) → Covers (p ∷ []) a ↔ BeginsWith a p
one_covers p a = (
  λ c. elim (contains_cases p c.0 [] c.1) [
    | inl e ↦ subst (BeginsWith a) (sym e) c.2
    | inr d ↦ absurd (contains_nothing c.0 d)
  ],
  λ b. (p, contains_first p [], b),
)

-- some of the networks of a set
spread_among : (s t : List (List Bool)) → IsSpread 129 s → Ascend t → ((x : List Bool) → Contains t x → Contains s x) → IsSpread 129 t
spread_among s t h ascend kept = record {
  ascending = ascend;
  networks = λ p c. h.networks p (kept p c);
  none = λ q c d. h.none q (kept (q ++ false ∷ []) c) (kept (q ++ true ∷ []) d);
  apart = λ p q c d b. h.apart p q (kept p c) (kept q d) b;
}

-- ---- halves
half_is : (x r : List Bool) → IsHalf x r → (b : Bool) × (x ≡ r ++ b ∷ [])
half_is x r h =
    let b = get_or x (length r) false in
    (b, same_length x (r ++ b ∷ []) (next_bit x r h.0 (omega (arith, h.1))) (omega (arith, h.1, length_half r b)))

halves_in_order : (x p r : List Bool) → IsHalf x r → IsHalf p r → bit_cmp x p ≡ Less → (x ≡ r ++ false ∷ []) × (p ≡ r ++ true ∷ [])
halves_in_order x p r hx hp less =
    let u = half_is x r hx in
    let v = half_is p r hp in
    let last = last_bits r u.0 v.0 (subst (λ z. bit_cmp z (r ++ v.0 ∷ []) ≡ Less) u.1 (subst (λ z. bit_cmp x z ≡ Less) v.1 less)) in
    (u.1 ∙ ap (λ z. r ++ z ∷ []) last.0, v.1 ∙ ap (λ z. r ++ z ∷ []) last.1)

parent_is_half : (q : List Bool) → 0 < length q → IsHalf q (parent q)
parent_is_half q some = (begins_parent q, omega (arith, some, length_parent q))

-- what is behind the upper half is behind the whole
behind_whole : (r y : List Bool) → IsBehind (r ++ true ∷ []) y → IsBehind r y
behind_whole r y h = (
  whole_less r y true h.0,
  λ b. elim (cases_lt (length r) (length y)) [
    | inl lt ↦ elim (either_half y r b lt) [
      | inl low ↦ not_both (r ++ true ∷ []) y h.0 (halves_less r y (r ++ true ∷ []) low (begins_itself (r ++ true ∷ [])))
      | inr up ↦ h.1 up
    ]
    | inr le ↦ not_before (r ++ true ∷ []) r (half_begins r true)
        (subst (λ z. bit_cmp (r ++ true ∷ []) z ≡ Less) (same_length y r b le) h.0)
  ],
)

-- a network without a half beside it
pub alone_beside : (q : List Bool) (these those : List (List Bool))
    → ((front : List (List Bool)) (x : List Bool) → these ≡ front ++ x ∷ [] → ¬ (IsHalf x (parent q)))
    → ((x : List Bool) (rest : List (List Bool)) → those ≡ x ∷ rest → ¬ (IsHalf x (parent q))) → IsAlone q these those
alone_beside q these those last first = (
  λ front x e h. last front x e (half_of x q h.0 false true h.1 h.2),
  λ x rest e h. first x rest e (half_of x q h.0 true false h.2 h.1),
)
  where
    half_of : (x q r : List Bool) (b c : Bool) → x ≡ r ++ b ∷ [] → q ≡ r ++ c ∷ [] → IsHalf x (parent q)
    half_of x q r b c e f =
        let is : parent q ≡ r = ap parent f ∙ parent_half r c in
        subst (IsHalf x) (sym is) (subst (λ z. BeginsWith z r) (sym e) (half_begins r b), ap length e ∙ length_half r b)

pub alone_whole : (q : List Bool) (these those : List (List Bool)) → length q ≡ 0 → IsAlone q these those
alone_whole q these those none = (
  λ front x e h. omega (arith, none, ap length h.2, length_half h.0 true),
  λ x rest e h. omega (arith, none, ap length h.1, length_half h.0 false),
)

-- q has the addresses of p and of networks of s that lie in it, and no others
pub record IsJoined (s : List (List Bool)) (p q : List Bool) (these those : List (List Bool)) : Type 0 where
  pub parted : IsParted s q these those
  pub apart : ¬ (Covers s q)
  pub begins : BeginsWith p q
  pub full : (a : List Bool) → length a ≡ 129 → BeginsWith a q → Covers s a ⊎ BeginsWith a p

pub joined_none : (s : List (List Bool)) (p : List Bool) (these those : List (List Bool)) → IsParted s p these those → ¬ (Covers s p)
    → IsJoined s p p these those
joined_none s p these those parted apart = record {
  parted = parted;
  apart = apart;
  begins = begins_itself p;
  full = λ a la b. inr b;
}

module _ (s : List (List Bool)) (h : IsReduced 129 s) (p : List Bool) (short : length p ≤ 129) where
  -- ---- with the other half
  module _ (q r x : List Bool) (hq : IsHalf q r) (hx : IsHalf x r) where
    longer : (these those : List (List Bool)) → IsJoined s p q these those → (a : List Bool) → length a ≡ 129 → length r < length a
    longer these those j a la = omega (arith, la, hq.1, begins_length p q j.begins, short)

    joined_lower : (these those : List (List Bool)) → IsJoined s p q (these ++ x ∷ []) those → IsJoined s p r these those
    joined_lower these those j =
        let k = j.parted in
        let here = Contains-push these x in
        let is = halves_in_order x q r hx hq (k.before x here) in
        record {
          parted = record {
            each = λ y c. elim (k.each y c) [
              | inl d ↦ elim (Contains-push_cases these x y d) [
                | inl e ↦ inl e
                | inr e ↦ inr (inl (subst (λ z. BeginsWith z r) e hx.0))
              ]
              | inr d ↦ elim d [ inl b ↦ inr (inl (begins_begins y q r b hq.0)) | inr e ↦ inr (inr e) ]
            ];
            kept_these = λ y c. k.kept_these y (Contains-append_left these (x ∷ []) y c);
            kept_those = k.kept_those;
            before = λ y c.
                let less = last_behind these x k.ascend_these y c in
                before_whole y r (subst (λ z. bit_cmp y z ≡ Less) is.0 less)
                (λ b. later_apart s h y x (k.kept_these y (Contains-append_left these (x ∷ []) y c)) (k.kept_these x here) less
                (subst (λ z. BeginsWith z y) (sym is.0) b));
            behind = λ y c. behind_whole r y (subst (λ z. IsBehind z y) is.1 (k.behind y c));
            ascend_these = sorted_front these (x ∷ []) k.ascend_these;
            ascend_those = k.ascend_those;
          };
          apart = λ c. j.apart (c.0, c.1, begins_begins q r c.0 hq.0 c.2);
          begins = begins_begins p q r j.begins hq.0;
          full = λ a la b. elim (either_half a r b (longer (these ++ x ∷ []) those j a la)) [
            | inl low ↦ inl (x, k.kept_these x here, subst (BeginsWith a) (sym is.0) low)
            | inr up ↦ j.full a la (subst (BeginsWith a) (sym is.1) up)
          ];
        }

    joined_upper : (these those : List (List Bool)) → IsJoined s p q these (x ∷ those) → IsJoined s p r these those
    joined_upper these those j =
        let k = j.parted in
        let here = contains_first x those in
        let is = halves_in_order q x r hq hx (k.behind x here).0 in
        record {
          parted = record {
            each = λ y c. elim (k.each y c) [
              | inl d ↦ inl d
              | inr d ↦ elim d [
                | inl b ↦ inr (inl (begins_begins y q r b hq.0))
                | inr e ↦ elim (contains_cases x y those e) [
                  | inl same ↦ inr (inl (subst (λ z. BeginsWith z r) same hx.0))
                  | inr later ↦ inr (inr later)
                ]
              ]
            ];
            kept_these = k.kept_these;
            kept_those = λ y c. k.kept_those y (contains_later x y those c);
            before = λ y c. before_whole y r (subst (λ z. bit_cmp y z ≡ Less) is.0 (k.before y c))
                (λ b. j.apart (y, k.kept_these y c, subst (λ z. BeginsWith z y) (sym is.0) b));
            behind = λ y c.
                let less = first_less x those k.ascend_those y c in
                behind_whole r y (subst (λ z. IsBehind z y) is.1
                (less, later_apart s h x y (k.kept_those x here) (k.kept_those y (contains_later x y those c)) less));
            ascend_these = k.ascend_these;
            ascend_those = rest_ascends x those k.ascend_those;
          };
          apart = λ c. j.apart (c.0, c.1, begins_begins q r c.0 hq.0 c.2);
          begins = begins_begins p q r j.begins hq.0;
          full = λ a la b. elim (either_half a r b (longer these (x ∷ those) j a la)) [
            | inl low ↦ j.full a la (subst (BeginsWith a) (sym is.0) low)
            | inr up ↦ inl (x, k.kept_those x here, subst (BeginsWith a) (sym is.1) up)
          ];
        }

  pub joined_more : (q : List Bool) (these those fewer rest : List (List Bool)) → 0 < length q → IsJoined s p q these those
      → IsBeside (parent q) these those fewer rest → IsJoined s p (parent q) fewer rest
  joined_more q these those fewer rest some j (inl (x, e, hx, same)) =
      subst (IsJoined s p (parent q) fewer) (sym same)
      (joined_lower q (parent q) x (parent_is_half q some) hx fewer those (subst (λ l. IsJoined s p q l those) e j))
  joined_more q these those fewer rest some j (inr (x, e, hx, same)) =
      subst (λ l. IsJoined s p (parent q) l rest) (sym same)
      (joined_upper q (parent q) x (parent_is_half q some) hx these rest (subst (IsJoined s p q these) e j))

  -- ---- in its place
  module _ (q : List Bool) (these those : List (List Bool)) (j : IsJoined s p q these those) (alone : IsAlone q these those) where
    k : IsParted s q these those
    k = j.parted

    spread : IsSpread 129 s
    spread = spread_from_reduced 129 s h

    within : length q ≤ 129
    within = omega (arith, begins_length p q j.begins, short)

    front : IsSpread 129 (these ++ q ∷ [])
    front = spread_push 129 these q (spread_among s these spread k.ascend_these k.kept_these) k.before
        (λ c. j.apart (c.0, k.kept_these c.0 c.1, c.2)) within alone.0

    -- the upper half is the first of those
    first_half : (r : List Bool) → q ≡ r ++ false ∷ [] → (ys : List (List Bool)) → those ≡ ys → ¬ (Contains ys (r ++ true ∷ []))
    first_half r e [] is c = contains_nothing (r ++ true ∷ []) c
    first_half r e (y ∷ ys) is c = elim (contains_cases y (r ++ true ∷ []) ys c) [
      | inl same ↦ alone.1 y ys is (r, e, same)
      | inr later ↦
          let high : bit_cmp y (r ++ true ∷ []) ≡ Less = first_less y ys (subst Ascend is k.ascend_those) (r ++ true ∷ []) later in
          let at = k.behind y (subst (λ l. Contains l y) (sym is) (contains_first y ys)) in
          at.1 (subst (BeginsWith y) (sym e) (between_halves r y (subst (λ z. bit_cmp z y ≡ Less) e at.0) high))
    ]

    no_halves : HaveNoHalves (these ++ q ∷ [] ++ those)
    no_halves r c d =
        let lower = r ++ false ∷ [] in
        let upper = r ++ true ∷ [] in
        elim (Contains-append_cases (these ++ q ∷ []) those lower c) [
          | inl a ↦ elim (Contains-append_cases (these ++ q ∷ []) those upper d) [
            | inl b ↦ front.none r a b
            | inr b ↦ elim (Contains-push_cases these q lower a) [
              | inl e ↦ spread.none r (k.kept_these lower e) (k.kept_those upper b)
              | inr is ↦ first_half r is those refl b
            ]
          ]
          | inr a ↦ elim (Contains-append_cases (these ++ q ∷ []) those upper d) [
            | inl b ↦ elim (Contains-push_cases these q upper b) [
              | inl e ↦ spread.none r (k.kept_those lower a) (k.kept_these upper e)
              | inr is ↦ not_both lower upper (lower_less r) (subst (λ z. bit_cmp z lower ≡ Less) is (k.behind lower a).0)
            ]
            | inr b ↦ spread.none r (k.kept_those lower a) (k.kept_those upper b)
          ]
        ]

    no_other : HoldNoOther (these ++ q ∷ [] ++ those)
    no_other x y c d b = elim (Contains-append_cases (these ++ q ∷ []) those x c) [
      | inl e ↦ elim (Contains-append_cases (these ++ q ∷ []) those y d) [
        | inl f ↦ front.apart x y e f b
        | inr f ↦ elim (Contains-push_cases these q x e) [
          | inl g ↦ spread.apart x y (k.kept_these x g) (k.kept_those y f) b
          | inr is ↦ absurd ((k.behind y f).1 (subst (BeginsWith y) (sym is) b))
        ]
      ]
      | inr e ↦ elim (Contains-append_cases (these ++ q ∷ []) those y d) [
        | inl f ↦ elim (Contains-push_cases these q y f) [
          | inl g ↦ spread.apart x y (k.kept_those x e) (k.kept_these y g) b
          | inr is ↦ absurd (j.apart (x, k.kept_those x e, subst (λ z. BeginsWith z x) (sym is) b))
        ]
        | inr f ↦ spread.apart x y (k.kept_those x e) (k.kept_those y f) b
      ]
    ]

    ascend : Ascend (these ++ q ∷ [] ++ those)
    ascend = sorted_append (these ++ q ∷ []) those front.ascending k.ascend_those (λ m n c d. elim (Contains-push_cases these q m c) [
      | inl e ↦ bit_cmp_total.trans m q n (k.before m e) (k.behind n d).0
      | inr is ↦ subst (λ z. bit_cmp z n ≡ Less) is (k.behind n d).0
    ])

    networks : AreNetworks 129 (these ++ q ∷ [] ++ those)
    networks x c = elim (Contains-append_cases (these ++ q ∷ []) those x c) [
      | inl d ↦ front.networks x d
      | inr d ↦ spread.networks x (k.kept_those x d)
    ]

    held : (a x : List Bool) → BeginsWith a x → Contains these x ⊎ (BeginsWith x q ⊎ Contains those x)
        → Covers (these ++ q ∷ [] ++ those) a
    held a x b c = elim c [
      | inl d ↦ (x, Contains-append_left (these ++ q ∷ []) those x (Contains-append_left these (q ∷ []) x d), b)
      | inr d ↦ elim d [
        | inl e ↦ (q, Contains-append_left (these ++ q ∷ []) those q (Contains-push these q), begins_begins a x q b e)
        | inr e ↦ (x, Contains-append_right (these ++ q ∷ []) those x e, b)
      ]
    ]

    pub joined_set : IsUnion 129 s (p ∷ []) (these ++ q ∷ [] ++ those)
    joined_set = record {
      reduced = reduced_is_least 129 (these ++ q ∷ [] ++ those) ascend networks no_halves no_other;
      exact = λ a la. (
        λ c. elim (Contains-append_cases (these ++ q ∷ []) those c.0 c.1) [
          | inl d ↦ elim (Contains-push_cases these q c.0 d) [
            | inl e ↦ inl (c.0, k.kept_these c.0 e, c.2)
            | inr is ↦ elim (j.full a la (subst (BeginsWith a) (sym is) c.2)) [ inl f ↦ inl f | inr f ↦ inr ((one_covers p a).1 f) ]
          ]
          | inr d ↦ inl (c.0, k.kept_those c.0 d, c.2)
        ],
        λ c. elim c [
          | inl d ↦ held a d.0 d.2 (k.each d.0 d.1)
          | inr d ↦ held a p ((one_covers p a).0 d) (inr (inl j.begins))
        ],
      );
    }

  -- ---- the addresses of networks before another and behind it
  outside_before : (q x a : List Bool) → bit_cmp x q ≡ Less → ¬ (BeginsWith q x) → BeginsWith a x → ¬ (BeginsWith a q)
  outside_before q x a less free b d = elim (cases_lt (length q) (length x)) [
    | inl lt ↦ not_before x q (begins_both a x q b d (omega arith)) less
    | inr le ↦ free (begins_both a q x d b le)
  ]

  outside_behind : (q x a : List Bool) → IsBehind q x → BeginsWith a x → ¬ (BeginsWith a q)
  outside_behind q x a behind b d = elim (cases_lt (length q) (length x)) [
    | inl lt ↦ behind.1 (begins_both a x q b d (omega arith))
    | inr le ↦ not_before q x (begins_both a q x d b le) behind.0
  ]

  -- ---- without the networks that lie in p
  module _ (these those : List (List Bool)) (k : IsParted s p these those) (free : ¬ (Covers s p)) where
    kept : (x : List Bool) → Contains (these ++ those) x → Contains s x
    kept x c = elim (Contains-append_cases these those x c) [ inl d ↦ k.kept_these x d | inr d ↦ k.kept_those x d ]

    outside : (x a : List Bool) → Contains (these ++ those) x → BeginsWith a x → ¬ (BeginsWith a p)
    outside x a c b = elim (Contains-append_cases these those x c) [
      | inl d ↦ outside_before p x a (k.before x d) (λ e. free (x, k.kept_these x d, e)) b
      | inr d ↦ outside_behind p x a (k.behind x d) b
    ]

    pub without_inside : IsDifference 129 s (p ∷ []) (these ++ those)
    without_inside =
        let spread = spread_among s (these ++ those) (spread_from_reduced 129 s h)
        (sorted_append these those k.ascend_these k.ascend_those
        (λ m n c d. bit_cmp_total.trans m p n (k.before m c) (k.behind n d).0)) kept in
        record {
          reduced = reduced_from_spread 129 (these ++ those) spread;
          exact = λ a la. (
            λ c. ((c.0, kept c.0 c.1, c.2), λ d. outside c.0 a c.1 c.2 ((one_covers p a).0 d)),
            λ c. elim (k.each c.0.0 c.0.1) [
              | inl d ↦ (c.0.0, Contains-append_left these those c.0.0 d, c.0.2)
              | inr d ↦ elim d [
                | inl b ↦ absurd (c.1 ((one_covers p a).1 (begins_begins a c.0.0 p c.0.2 b)))
                | inr e ↦ (c.0.0, Contains-append_right these those c.0.0 e, c.0.2)
              ]
            ],
          );
        }

  -- ---- without a part of q, the network that p lies in
  module _ (q : List Bool) (these those new rest : List (List Bool)) (k : IsParted s q these those) (here : Contains s q)
      (inside : BeginsWith p q) (cut : IsDifferenceStep q [] new (p ∷ []) rest) where
    abbrev IsLeft : List Bool → Type 0
    IsLeft a = Covers s a × ¬ (Covers (p ∷ []) a)

    places : (x : List Bool) → Contains (these ++ new ++ those) x → Contains these x ⊎ (Contains new x ⊎ Contains those x)
    places x c = elim (Contains-append_cases (these ++ new) those x c) [
      | inl d ↦ elim (Contains-append_cases these new x d) [ inl e ↦ inl e | inr e ↦ inr (inl e) ]
      | inr d ↦ inr (inr d)
    ]

    in_these : (x : List Bool) → Contains these x → Contains (these ++ new ++ those) x
    in_these x c = Contains-append_left (these ++ new) those x (Contains-append_left these new x c)

    in_new : (x : List Bool) → Contains new x → Contains (these ++ new ++ those) x
    in_new x c = Contains-append_left (these ++ new) those x (Contains-append_right these new x c)

    part : (x : List Bool) → Contains new x → BeginsWith x q
    part x c = elim (cut.each x c) [ inl d ↦ absurd (contains_nothing x d) | inr r ↦ r.inside ]

    off_these : (x a : List Bool) → Contains these x → BeginsWith a x → ¬ (BeginsWith a p)
    off_these x a c b d =
        outside_before q x a (k.before x c) (later_apart s h x q (k.kept_these x c) here (k.before x c)) b
        (begins_begins a p q d inside)

    off_those : (x a : List Bool) → Contains those x → BeginsWith a x → ¬ (BeginsWith a p)
    off_those x a c b d = outside_behind q x a (k.behind x c) b (begins_begins a p q d inside)

    all_left : (a : List Bool) → length a ≡ 129 → Covers (these ++ new ++ those) a ↔ IsLeft a
    all_left a la = (
      λ c. elim (places c.0 c.1) [
        | inl d ↦ ((c.0, k.kept_these c.0 d, c.2), λ e. off_these c.0 a d c.2 ((one_covers p a).0 e))
        | inr d ↦ elim d [
          | inl e ↦ elim ((cut.covers a la).0 (c.0, e, c.2)) [
            | inl none ↦ absurd (contains_nothing none.0 none.1)
            | inr f ↦ ((q, here, f.0), f.1)
          ]
          | inr e ↦ ((c.0, k.kept_those c.0 e, c.2), λ f. off_those c.0 a e c.2 ((one_covers p a).0 f))
        ]
      ],
      λ c. elim (k.each c.0.0 c.0.1) [
        | inl d ↦ (c.0.0, in_these c.0.0 d, c.0.2)
        | inr d ↦ elim d [
          | inl b ↦
              let n = (cut.covers a la).1 (inr (begins_begins a c.0.0 q c.0.2 b, c.1)) in
              (n.0, in_new n.0 n.1, n.2)
          | inr e ↦ (c.0.0, Contains-append_right (these ++ new) those c.0.0 e, c.0.2)
        ]
      ],
    )

    -- one of the other networks of the set
    other : (x : List Bool) → Contains s x → ((a : List Bool) → BeginsWith a x → ¬ (BeginsWith a p)) → IsMemberOf IsLeft x
    other x c off =
        let m = (h.members x).0 c in
        record {
          within = m.within;
          full = λ a la b. ((x, c, b), λ d. off a b ((one_covers p a).0 d));
          widest = elim m.widest [ inl e ↦ inl e | inr bare ↦ inr (λ f. bare (λ a la b. (f a la b).0)) ];
        }

    left_ascend : Ascend (these ++ new ++ those)
    left_ascend = sorted_append (these ++ new) those
        (sorted_append these new k.ascend_these cut.ascend (λ m n c d. less_longer m q n (k.before m c) (part n d)))
        k.ascend_those
        (λ m n c d. elim (Contains-append_cases these new m c) [
          | inl e ↦ bit_cmp_total.trans m q n (k.before m e) (k.behind n d).0
          | inr e ↦ cut.before n (k.behind n d) m e
        ])

    pub without_part : IsDifference 129 s (p ∷ []) (these ++ new ++ those)
    without_part = set_of_members IsLeft (these ++ new ++ those) all_left left_ascend (λ x c. elim (places x c) [
      | inl d ↦ other x (k.kept_these x d) (λ a b. off_these x a d b)
      | inr d ↦ elim d [
        | inl e ↦ elim (cut.each x e) [
          | inl none ↦ absurd (contains_nothing x none)
          | inr r ↦ member_of_rest s (p ∷ []) q (p ∷ []) ((h.members q).0 here)
              (λ y c. (c, subst (λ z. length z ≤ 129) (elim (contains_cases p y [] c) [ inl same ↦ same | inr n ↦ absurd (contains_nothing y n) ]) short))
              (λ a la b n. ((q, here, b), n)) x r
        ]
        | inr e ↦ other x (k.kept_those x e) (λ a b. off_those x a e b)
      ]
    ])

  -- what is in the set already
  pub union_held : Covers s p → IsUnion 129 s (p ∷ []) s
  union_held c = record {
    reduced = h;
    exact = λ a la. (λ d. inl d, λ d. elim d [ inl e ↦ e | inr e ↦ covers_within s a p ((one_covers p a).0 e) c ]);
  }

-- a set in which one network takes the place of none has one network more
pub one_more : {C : Type 0} (f : C → List Bool) (xs : List C) (at : ℕ) (q : List Bool) (P : List Bool → Type 0) (set : List (List Bool)) → at ≤ length xs
    → IsSetOf 129 P (map f (take at xs) ++ q ∷ [] ++ map f (drop at xs)) → IsSetOf 129 P set → length xs < length set
one_more f xs at q P set fits h told =
    let front = map f (take at xs) in
    let back = map f (drop at xs) in
    let same : front ++ q ∷ [] ++ back ≡ set = same_sets 129 P (front ++ q ∷ [] ++ back) set h told in
    let whole : length (front ++ q ∷ [] ++ back) ≡ length set = ap length same in
    omega (
      arith,
      whole,
      length-append (front ++ q ∷ []) back,
      length-append front (q ∷ []),
      length-map (take at xs) f,
      length-map (drop at xs) f,
      length-take-le at xs fits,
      length-drop at xs,
    )
