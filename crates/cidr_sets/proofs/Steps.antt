-- Steps through two lists of networks that ascend.
use Rattle.std.proofs.Common.{◌≡◌, ◌≢◌, ◌↔◌, ◌⊎◌, ℕ, ◌+◌, ◌<◌, ◌≤◌, Bool, List, [], ◌∷◌, ◌++◌, length, map, set, take, refl, sym, ap, ap₂, ◌∙◌, subst, arith, inl, inr, Option, Some, None}
use Rattle.std.proofs.lemmas.Bool.{cases_lt}
use Rattle.std.proofs.lemmas.Grind.{take-set_at}
use Rattle.std.proofs.lemmas.List.{length-map, length-take-le, map_push, take_all}
use Rattle.std.proofs.lemmas.List.Elements.{Contains-push_cases}
use Rattle.std.proofs.lemmas.Option.{none-some, same_Some}
use Rattle.std.specs.List.{AllByRecursion, Contains}
use Rattle.std.specs.List.Sorted.{IsStrictlySortedBy}
use Rattle.std.specs.Ordering.{ordering_reverse}
use Rattle.std.specs.declared.cmp.Ordering.{Ordering}
use Rattle.std.specs.declared.cmp.Ordering.TheVariants.{Less, Equal, Greater}
use Rattle.cidr.specs.model.Bits.{bit_cmp}
use Rattle.cidr.specs.model.Network.{BeginsWith}
use Rattle.cidr.specs.laws.BitLaws.{bit_cmp_total}
use Rattle.cidr_table.specs.model.Cover.{Covers, IsMember, IsReduced}
use Rattle.cidr_table.proofs.Ascending.{first_less, sorted_push}
use Rattle.cidr_table.proofs.Beginnings.{before_longer, begins_between, begins_length, bits_exact, not_before}
use Rattle.cidr_table.proofs.Halves.{begins_both, begins_itself}
use Rattle.cidr_table.proofs.MapLaws.{contains_cases, contains_first, contains_later, contains_nothing}
use Rattle.cidr_table.proofs.Members.{key_full}
use Rattle.cidr_table.proofs.Order.{not_both}
use Rattle.cidr_table.proofs.Reduced.{covers_more}
use Rattle.cidr_sets.specs.model.Sets.{IsIntersection}
use Rattle.cidr_sets.specs.internal.Steps.{Ascend, BeginsWithSome, IsUnionStep, IsIntersectionStep}
use Rattle.cidr_sets.proofs.Algebra.{covers_within}
use Rattle.cidr_sets.proofs.Members.{all_members}

-- ---- lists that ascend
pub rest_ascends : (p : List Bool) (ps : List (List Bool)) → Ascend (p ∷ ps) → Ascend ps
unfolding IsStrictlySortedBy
rest_ascends p ps h = h.1

pub none_ascend : Ascend []
unfolding IsStrictlySortedBy
none_ascend = tt

pub first_or_rest : (p : List Bool) (ps : List (List Bool)) (a : List Bool)
    → Covers (p ∷ ps) a ↔ (BeginsWith a p ⊎ Covers ps a)
first_or_rest p ps a = (
  λ c. elim (contains_cases p c.0 ps c.1) [
    | inl e ↦ inl (subst (BeginsWith a) (sym e) c.2)
    | inr d ↦ inr (c.0, d, c.2)
  ],
  λ c. elim c [ inl b ↦ (p, contains_first p ps, b) | inr d ↦ (d.0, contains_later p d.0 ps d.1, d.2) ],
)

-- a network that comes before another comes before what begins with that
pub less_longer : (p q a : List Bool) → bit_cmp p q ≡ Less → BeginsWith a q → bit_cmp p a ≡ Less
less_longer p q a less b =
    subst (λ x. bit_cmp p x ≡ Less) (take_all (length a) a (omega arith))
    (before_longer p a (length q) (length a) (subst (λ x. bit_cmp p x ≡ Less) (sym b) less) (begins_length a q b))

pub turned : (p q : List Bool) → bit_cmp p q ≡ Greater → bit_cmp q p ≡ Less
turned p q h = bit_cmp_total.antisymm q p ∙ ap ordering_reverse h

not_greater : (p q : List Bool) → bit_cmp p q ≡ Less → bit_cmp p q ≢ Greater
not_greater p q h g = (let e = sym h ∙ g in (cc))

pub one_ascends : (p : List Bool) → Ascend (p ∷ [])
unfolding IsStrictlySortedBy
one_ascends p = (tt, tt)

-- ---- the first network of two lists
module _ (p : List Bool) (ps : List (List Bool)) (hp : Ascend (p ∷ ps)) where
  pub next_alone : IsUnionStep (p ∷ ps) [] p ps []
  next_alone = record {
    covers = λ a. (
      λ c. elim c [
        | inl d ↦ elim ((first_or_rest p ps a).0 d) [ inl b ↦ inl b | inr e ↦ inr (inl e) ]
        | inr d ↦ absurd (contains_nothing d.0 d.1)
      ],
      λ c. elim c [
        | inl b ↦ inl ((first_or_rest p ps a).1 (inl b))
        | inr d ↦ elim d [ inl e ↦ inl ((first_or_rest p ps a).1 (inr e)) | inr e ↦ inr e ]
      ],
    );
    here = inl (contains_first p ps);
    kept_left = λ y c. contains_later p y ps c;
    kept_right = λ y c. c;
    before_left = λ y c. first_less p ps hp y c;
    before_right = λ y c. absurd (contains_nothing y c);
    ascend_left = rest_ascends p ps hp;
    ascend_right = none_ascend;
    fewer = omega arith;
  }

  module _ (q : List Bool) (qs : List (List Bool)) (hq : Ascend (q ∷ qs)) where
    pub next_first : bit_cmp p q ≡ Less → IsUnionStep (p ∷ ps) (q ∷ qs) p ps (q ∷ qs)
    next_first less = record {
      covers = λ a. (
        λ c. elim c [
          | inl d ↦ elim ((first_or_rest p ps a).0 d) [ inl b ↦ inl b | inr e ↦ inr (inl e) ]
          | inr d ↦ inr (inr d)
        ],
        λ c. elim c [
          | inl b ↦ inl ((first_or_rest p ps a).1 (inl b))
          | inr d ↦ elim d [ inl e ↦ inl ((first_or_rest p ps a).1 (inr e)) | inr e ↦ inr e ]
        ],
      );
      here = inl (contains_first p ps);
      kept_left = λ y c. contains_later p y ps c;
      kept_right = λ y c. c;
      before_left = λ y c. first_less p ps hp y c;
      before_right = λ y c. elim (contains_cases q y qs c) [
        | inl e ↦ subst (λ z. bit_cmp p z ≡ Less) e less
        | inr d ↦ bit_cmp_total.trans p q y less (first_less q qs hq y d)
      ];
      ascend_left = rest_ascends p ps hp;
      ascend_right = hq;
      fewer = omega arith;
    }

    pub next_both : p ≡ q → IsUnionStep (p ∷ ps) (q ∷ qs) p ps qs
    next_both same = record {
      covers = λ a. (
        λ c. elim c [
          | inl d ↦ elim ((first_or_rest p ps a).0 d) [ inl b ↦ inl b | inr e ↦ inr (inl e) ]
          | inr d ↦ elim ((first_or_rest q qs a).0 d) [ inl b ↦ inl (subst (BeginsWith a) (sym same) b) | inr e ↦ inr (inr e) ]
        ],
        λ c. elim c [
          | inl b ↦ inl ((first_or_rest p ps a).1 (inl b))
          | inr d ↦ elim d [
            | inl e ↦ inl ((first_or_rest p ps a).1 (inr e))
            | inr e ↦ inr ((first_or_rest q qs a).1 (inr e))
          ]
        ],
      );
      here = inl (contains_first p ps);
      kept_left = λ y c. contains_later p y ps c;
      kept_right = λ y c. contains_later q y qs c;
      before_left = λ y c. first_less p ps hp y c;
      before_right = λ y c. subst (λ z. bit_cmp z y ≡ Less) (sym same) (first_less q qs hq y c);
      ascend_left = rest_ascends p ps hp;
      ascend_right = rest_ascends q qs hq;
      fewer = omega arith;
    }

    -- ---- the network that lies in the other
    pub shared_first : BeginsWith p q → IsIntersectionStep (p ∷ ps) (q ∷ qs) (Some p) ps (q ∷ qs)
    shared_first inside = record {
      covers = λ a. (
        λ c. elim ((first_or_rest p ps a).0 c.0) [ inl b ↦ inl b | inr d ↦ inr (d, c.1) ],
        λ c. elim c [
          | inl b ↦ (
            (first_or_rest p ps a).1 (inl b),
            covers_within (q ∷ qs) a p b (q, contains_first q qs, inside),
          )
          | inr d ↦ ((first_or_rest p ps a).1 (inr d.0), d.1)
        ],
      );
      here = λ x e. inl (subst (Contains (p ∷ ps)) (same_Some p x e) (contains_first p ps));
      kept_left = λ y c. contains_later p y ps c;
      kept_right = λ y c. c;
      before = λ x a e c d. subst (λ z. bit_cmp z a ≡ Less) (same_Some p x e)
          (less_longer p c.0 a (first_less p ps hp c.0 c.1) c.2);
      ascend_left = rest_ascends p ps hp;
      ascend_right = hq;
      fewer = omega arith;
      some = omega arith;
    }

    -- of networks that are apart, the first has no address in the other list
    pub apart_from : ¬ (BeginsWith p q) → ¬ (BeginsWith q p) → bit_cmp p q ≡ Less → (a : List Bool) → BeginsWith a p
        → ¬ (Covers (q ∷ qs) a)
    apart_from n m less a b c = elim ((first_or_rest q qs a).0 c) [
      | inl d ↦ elim (cases_lt (length p) (length q)) [
        | inl lt ↦ m (begins_both a q p d b (omega arith))
        | inr le ↦ n (begins_both a p q b d le)
      ]
      | inr d ↦
          let later : bit_cmp q d.0 ≡ Less = first_less q qs hq d.0 d.1 in
          let after : bit_cmp p d.0 ≡ Less = bit_cmp_total.trans p q d.0 less later in
          elim (cases_lt (length p) (length d.0)) [
            | inl lt ↦ m (begins_between p d.0 q (begins_both a d.0 p d.2 b (omega arith))
                (not_both p q less) (not_greater q d.0 later))
            | inr le ↦ not_before p d.0 (begins_both a p d.0 b d.2 le) after
          ]
    ]

    pub shared_none : ¬ (BeginsWith p q) → ¬ (BeginsWith q p) → bit_cmp p q ≡ Less
        → IsIntersectionStep (p ∷ ps) (q ∷ qs) None ps (q ∷ qs)
    shared_none n m less =
        let apart = apart_from n m less in
        record {
          covers = λ a. (
            λ c. elim ((first_or_rest p ps a).0 c.0) [ inl b ↦ absurd (apart a b c.1) | inr d ↦ inr (d, c.1) ],
            λ c. elim c [ inl none ↦ absurd none | inr d ↦ ((first_or_rest p ps a).1 (inr d.0), d.1) ],
          );
          here = λ x e. absurd (none-some x e);
          kept_left = λ y c. contains_later p y ps c;
          kept_right = λ y c. c;
          before = λ x a e c d. absurd (none-some x e);
          ascend_left = rest_ascends p ps hp;
          ascend_right = hq;
          fewer = omega arith;
          some = omega arith;
        }

    pub not_less : ¬ (BeginsWith q p) → ¬ (bit_cmp p q ≡ Less) → bit_cmp q p ≡ Less
    not_less m n = by_order (bit_cmp p q) refl
      where
        by_order : (r : Ordering) → bit_cmp p q ≡ r → bit_cmp q p ≡ Less
        by_order Less e = absurd (n e)
        by_order Equal e = absurd (m (subst (BeginsWith q) (sym (bits_exact p q e)) (begins_itself q)))
        by_order Greater e = turned p q e

pub next_swap : (ls rs : List (List Bool)) (x : List Bool) (bs us : List (List Bool)) → IsUnionStep ls rs x bs us → IsUnionStep rs ls x us bs
next_swap ls rs x bs us h = record {
  covers = λ a. (
    λ c. elim ((h.covers a).0 (swap c)) [ inl b ↦ inl b | inr d ↦ inr (swap d) ],
    λ c. swap ((h.covers a).1 (elim c [ inl b ↦ inl b | inr d ↦ inr (swap d) ])),
  );
  here = swap h.here;
  kept_left = h.kept_right;
  kept_right = h.kept_left;
  before_left = h.before_right;
  before_right = h.before_left;
  ascend_left = h.ascend_right;
  ascend_right = h.ascend_left;
  fewer = omega (arith, h.fewer);
}
  where
    swap : {P Q : Type 0} → P ⊎ Q → Q ⊎ P
    swap (inl p) = inr p
    swap (inr q) = inl q

pub shared_swap : (ls rs : List (List Bool)) (x : Option (List Bool)) (bs us : List (List Bool)) → IsIntersectionStep ls rs x bs us → IsIntersectionStep rs ls x us bs
shared_swap ls rs x bs us h = record {
  covers = λ a. (
    λ c. elim ((h.covers a).0 (c.1, c.0)) [ inl b ↦ inl b | inr d ↦ inr (d.1, d.0) ],
    λ c. let d = (h.covers a).1 (elim c [ inl b ↦ inl b | inr d ↦ inr (d.1, d.0) ]) in (d.1, d.0),
  );
  here = λ p e. elim (h.here p e) [ inl c ↦ inr c | inr c ↦ inl c ];
  kept_left = h.kept_right;
  kept_right = h.kept_left;
  before = λ p a e c d. h.before p a e d c;
  ascend_left = h.ascend_right;
  ascend_right = h.ascend_left;
  fewer = omega (arith, h.fewer);
  some = omega (arith, h.some);
}

module _ (these those : List (List Bool)) where
  -- ---- both lists, merged so far
  pub record IsMerged (n : ℕ) (done left right : List (List Bool)) : Type 0 where
    pub covers : (a : List Bool)
        → (Covers these a ⊎ Covers those a) ↔ (Covers done a ⊎ (Covers left a ⊎ Covers right a))
    pub ascend : Ascend done
    pub before_left : (x y : List Bool) → Contains done x → Contains left y → bit_cmp x y ≡ Less
    pub before_right : (x y : List Bool) → Contains done x → Contains right y → bit_cmp x y ≡ Less
    pub ascend_left : Ascend left
    pub ascend_right : Ascend right
    pub fits : n + (length left + length right) ≤ length these + length those

  pub merged_none : Ascend these → Ascend those → IsMerged 0 [] these those
  merged_none h k = record {
    covers = λ a. (λ c. inr c, λ c. elim c [ inl d ↦ absurd (contains_nothing d.0 d.1) | inr d ↦ d ]);
    ascend = none_ascend;
    before_left = λ x y c d. absurd (contains_nothing x c);
    before_right = λ x y c d. absurd (contains_nothing x c);
    ascend_left = h;
    ascend_right = k;
    fits = omega arith;
  }

  pub merged_more : (n : ℕ) (done left right bs us : List (List Bool)) (x : List Bool) → IsMerged n done left right
      → IsUnionStep left right x bs us → IsMerged (n + 1) (done ++ x ∷ []) bs us
  merged_more n done left right bs us x h k = record {
    covers = λ a. (
      λ c. elim ((h.covers a).0 c) [
        | inl d ↦ inl ((covers_more done x a).1 (inl d))
        | inr d ↦ elim ((k.covers a).0 d) [ inl b ↦ inl ((covers_more done x a).1 (inr b)) | inr e ↦ inr e ]
      ],
      λ c. (h.covers a).1 (elim c [
        | inl d ↦ elim ((covers_more done x a).0 d) [ inl e ↦ inl e | inr b ↦ inr ((k.covers a).1 (inl b)) ]
        | inr d ↦ inr ((k.covers a).1 (inr d))
      ]),
    );
    ascend = sorted_push done x h.ascend
        (λ m c. elim k.here [ inl d ↦ h.before_left m x c d | inr d ↦ h.before_right m x c d ]);
    before_left = λ m y c d. elim (Contains-push_cases done x m c) [
      | inl e ↦ h.before_left m y e (k.kept_left y d)
      | inr e ↦ subst (λ z. bit_cmp z y ≡ Less) e (k.before_left y d)
    ];
    before_right = λ m y c d. elim (Contains-push_cases done x m c) [
      | inl e ↦ h.before_right m y e (k.kept_right y d)
      | inr e ↦ subst (λ z. bit_cmp z y ≡ Less) e (k.before_right y d)
    ];
    ascend_left = k.ascend_left;
    ascend_right = k.ascend_right;
    fits = omega (arith, h.fits, k.fewer);
  }

  pub merged_all : (n : ℕ) (done left right : List (List Bool)) → IsMerged n done left right
      → length left + length right ≡ 0 → (a : List Bool) → (Covers these a ⊎ Covers those a) ↔ Covers done a
  merged_all n done left right h none a = (
    λ c. elim ((h.covers a).0 c) [
      | inl d ↦ d
      | inr d ↦ absurd (elim d [ inl e ↦ omega (arith, e.1.1, none) | inr e ↦ omega (arith, e.1.1, none) ])
    ],
    λ c. (h.covers a).1 (inl c),
  )

  -- ---- what both lists have so far
  pub record IsSharing (n : ℕ) (done left right : List (List Bool)) : Type 0 where
    pub covers : (a : List Bool) → (Covers these a × Covers those a) ↔ (Covers done a ⊎ (Covers left a × Covers right a))
    pub ascend : Ascend done
    pub before : (x a : List Bool) → Contains done x → Covers left a → Covers right a → bit_cmp x a ≡ Less
    pub from : (x : List Bool) → Contains done x → Contains these x ⊎ Contains those x
    pub kept_left : (y : List Bool) → Contains left y → Contains these y
    pub kept_right : (y : List Bool) → Contains right y → Contains those y
    pub ascend_left : Ascend left
    pub ascend_right : Ascend right
    pub fits : n + (length left + length right) ≤ length these + length those
    pub some : 0 < n → 0 < length left + length right

  pub sharing_none : Ascend these → Ascend those → IsSharing 0 [] these those
  sharing_none h k = record {
    covers = λ a. (λ c. inr c, λ c. elim c [ inl d ↦ absurd (contains_nothing d.0 d.1) | inr d ↦ d ]);
    ascend = none_ascend;
    before = λ x a c d e. absurd (contains_nothing x c);
    from = λ x c. absurd (contains_nothing x c);
    kept_left = λ y c. c;
    kept_right = λ y c. c;
    ascend_left = h;
    ascend_right = k;
    fits = omega arith;
    some = λ lt. absurd (omega (arith, lt));
  }

  module _ (n : ℕ) (done left right bs us : List (List Bool)) (h : IsSharing n done left right) where
    within_left : (k : (y : List Bool) → Contains bs y → Contains left y) (a : List Bool) → Covers bs a → Covers left a
    within_left k a c = (c.0, k c.0 c.1, c.2)

    within_right : (k : (y : List Bool) → Contains us y → Contains right y) (a : List Bool) → Covers us a → Covers right a
    within_right k a c = (c.0, k c.0 c.1, c.2)

    pub sharing_more : (x : List Bool) → IsIntersectionStep left right (Some x) bs us → IsSharing (n + 1) (done ++ x ∷ []) bs us
    sharing_more x k =
        let own = (k.covers x).1 (inl (begins_itself x)) in
        record {
          covers = λ a. (
            λ c. elim ((h.covers a).0 c) [
              | inl d ↦ inl ((covers_more done x a).1 (inl d))
              | inr d ↦ elim ((k.covers a).0 d) [ inl b ↦ inl ((covers_more done x a).1 (inr b)) | inr e ↦ inr e ]
            ],
            λ c. (h.covers a).1 (elim c [
              | inl d ↦ elim ((covers_more done x a).0 d) [ inl e ↦ inl e | inr b ↦ inr ((k.covers a).1 (inl b)) ]
              | inr d ↦ inr ((k.covers a).1 (inr d))
            ]),
          );
          ascend = sorted_push done x h.ascend (λ m c. h.before m x c own.0 own.1);
          before = λ m a c d e. elim (Contains-push_cases done x m c) [
            | inl f ↦ h.before m a f (within_left k.kept_left a d) (within_right k.kept_right a e)
            | inr f ↦ subst (λ z. bit_cmp z a ≡ Less) f (k.before x a refl d e)
          ];
          from = λ m c. elim (Contains-push_cases done x m c) [
            | inl f ↦ h.from m f
            | inr f ↦ subst (λ z. Contains these z ⊎ Contains those z) f (elim (k.here x refl) [
              | inl d ↦ inl (h.kept_left x d)
              | inr d ↦ inr (h.kept_right x d)
            ])
          ];
          kept_left = λ y c. h.kept_left y (k.kept_left y c);
          kept_right = λ y c. h.kept_right y (k.kept_right y c);
          ascend_left = k.ascend_left;
          ascend_right = k.ascend_right;
          fits = omega (arith, h.fits, k.fewer);
          some = λ lt. k.some;
        }

    pub sharing_same : (x : Option (List Bool)) → x ≡ None → IsIntersectionStep left right x bs us → IsSharing n done bs us
    sharing_same x none k = record {
      covers = λ a. (
        λ c. elim ((h.covers a).0 c) [
          | inl d ↦ inl d
          | inr d ↦ elim ((k.covers a).0 d) [ inl b ↦ absurd (subst (λ o. BeginsWithSome o a) none b) | inr e ↦ inr e ]
        ],
        λ c. (h.covers a).1 (elim c [ inl d ↦ inl d | inr d ↦ inr ((k.covers a).1 (inr d)) ]),
      );
      ascend = h.ascend;
      before = λ m a c d e. h.before m a c (within_left k.kept_left a d) (within_right k.kept_right a e);
      from = h.from;
      kept_left = λ y c. h.kept_left y (k.kept_left y c);
      kept_right = λ y c. h.kept_right y (k.kept_right y c);
      ascend_left = k.ascend_left;
      ascend_right = k.ascend_right;
      fits = omega (arith, h.fits, k.fewer);
      some = λ lt. k.some;
    }

  -- what both normal forms have is in normal form
  pub sharing_all : (n : ℕ) (done left right : List (List Bool)) → IsReduced 129 these → IsReduced 129 those
      → IsSharing n done left right → (length left ≡ 0) ⊎ (length right ≡ 0) → IsIntersection 129 these those done
  sharing_all n done left right hs ht h none =
      let same : (a : List Bool) → Covers done a ↔ (Covers these a × Covers those a) = λ a. (
        λ c. (h.covers a).1 (inl c),
        λ c. elim ((h.covers a).0 c) [
          | inl d ↦ d
          | inr d ↦ absurd (elim none [ inl e ↦ omega (arith, d.0.1.1, e) | inr e ↦ omega (arith, d.1.1.1, e) ])
        ],
      ) in
      record {
        reduced = all_members done h.ascend (λ x c. elim (h.from x c) [
          | inl d ↦ narrower these done x (λ a e. ((same a).0 e).0) c ((hs.members x).0 d)
          | inr d ↦ narrower those done x (λ a e. ((same a).0 e).1) c ((ht.members x).0 d)
        ]);
        exact = λ a la. same a;
      }
    where
      -- a network of a larger set that is listed in a smaller one
      narrower : (wide s : List (List Bool)) (x : List Bool) → ((a : List Bool) → Covers s a → Covers wide a) → Contains s x
          → IsMember 129 wide x → IsMember 129 s x
      narrower wide s x within c m = record {
        within = m.within;
        full = key_full 129 s x c;
        widest = elim m.widest [
          | inl e ↦ inl e
          | inr bare ↦ inr (λ f. bare (λ a la b. within a (f a la b)))
        ];
      }

-- one more is written
pub written : {C : Type 0} (f : C → List Bool) (out : List C) (n : ℕ) (x : C) → n < length out
    → map f (take (n + 1) (set out n x)) ≡ map f (take n out) ++ f x ∷ []
written f out n x lt = ap (map f) (take-set_at out n (n + 1) x refl lt) ∙ map_push f (take n out) x

pub written_by : {C : Type 0} (f : C → List Bool) (out new : List C) (n count : ℕ) (x : C)
    → (count ≡ n + 1) × (n < length out) × (new ≡ set out n x) → map f (take count new) ≡ map f (take n out) ++ f x ∷ []
written_by f out new n count x h = ap₂ (λ k l. map f (take k l)) h.0 h.2 ∙ written f out n x h.1

pub written_length : {C : Type 0} (f : C → List Bool) (out : List C) (n : ℕ) → n ≤ length out → length (map f (take n out)) ≡ n
written_length f out n le = length-map (take n out) f ∙ length-take-le n out le

-- networks ascend as their bits do
module _ {C : Type 0} (f : C → List Bool) (cmp : C → C → Ordering) (ordered : (x y : C) → cmp x y ≡ bit_cmp (f x) (f y)) where
  all_behind : (x : C) (ys : List C) → AllByRecursion (λ q. bit_cmp (f x) q ≡ Less) (map f ys) → AllByRecursion (λ y. cmp x y ≡ Less) ys
  all_behind x [] h = tt
  all_behind x (y ∷ ys) h = (ordered x y ∙ h.0, all_behind x ys h.1)

  pub sorted_by : (xs : List C) → Ascend (map f xs) → IsStrictlySortedBy cmp xs
  unfolding IsStrictlySortedBy
  sorted_by [] h = tt
  sorted_by (x ∷ xs) h = (all_behind x xs h.0, sorted_by xs h.1)

  each_behind : (x : C) (ys : List C) → AllByRecursion (λ y. cmp x y ≡ Less) ys → AllByRecursion (λ q. bit_cmp (f x) q ≡ Less) (map f ys)
  each_behind x [] h = tt
  each_behind x (y ∷ ys) h = (sym (ordered x y) ∙ h.0, each_behind x ys h.1)

  pub ascend_by : (xs : List C) → IsStrictlySortedBy cmp xs → Ascend (map f xs)
  unfolding IsStrictlySortedBy
  ascend_by [] h = tt
  ascend_by (x ∷ xs) h = (each_behind x xs h.0, ascend_by xs h.1)

pub none_of : {X : Type 0} (o : Option X) → ((x : X) → o ≢ Some x) → o ≡ None
none_of None n = refl
none_of (Some x) n = absurd (n x refl)
