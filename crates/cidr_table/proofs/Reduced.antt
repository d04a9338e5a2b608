-- Networks of which none holds another and no two are halves of one network are their own least cover.
use Rattle.std.proofs.Common.{◌≡◌, ◌⊎◌, ◌↔◌, ℕ, suc, zero, ◌+◌, ◌-◌, ◌<◌, Bool, true, false, List, [], ◌∷◌, ◌++◌, length, refl, sym, ap, subst, arith, inl, inr}
use Rattle.std.proofs.lemmas.Bool.{cases_lt}
use Rattle.std.proofs.lemmas.List.Elements.{Contains-append_cases, Contains-append_left, Contains-append_right}
use Rattle.std.specs.List.{Contains}
use Rattle.std.specs.List.Sorted.{IsStrictlySortedBy}
use Rattle.cidr.specs.model.Bits.{bit_cmp}
use Rattle.cidr.specs.model.Network.{BeginsWith}
use Rattle.cidr_table.specs.model.Cover.{Covers, IsFull, parent, IsMember, IsLeastCover, CoverSame, AreNetworks}
use Rattle.cidr_table.proofs.Halves.{begins_itself, begins_begins, begins_both, same_length, length_parent, begins_parent, length_half, half_begins, either_half}
use Rattle.cidr_table.proofs.Beginnings.{begins_length}
use Rattle.cidr_table.proofs.MapLaws.{contains_first, contains_cases, contains_nothing}
use Rattle.cidr_table.proofs.Members.{key_full, full_within, no_wider}

-- no two are the halves of one network
abbrev pub HaveNoHalves : List (List Bool) → Type 0
HaveNoHalves s = (q : List Bool) → Contains s (q ++ false ∷ []) → ¬ (Contains s (q ++ true ∷ []))

-- none holds another
abbrev pub HoldNoOther : List (List Bool) → Type 0
HoldNoOther s = (p q : List Bool) → Contains s p → Contains s q → BeginsWith q p → p ≡ q

module _ (w : ℕ) (s : List (List Bool)) where
  -- a full list begins with one of the networks
  pub full_covered : HaveNoHalves s → (n : ℕ) (p : List Bool) → length p + n ≡ w → IsFull w s p → Covers s p
  full_covered none zero p lp f = f p (omega arith) (begins_itself p)
  full_covered none (suc n) p lp f =
      let c = full_covered none n (p ++ false ∷ []) (omega (arith, length_half p false))
      (full_within w s (p ++ false ∷ []) p (half_begins p false) f) in
      let d = full_covered none n (p ++ true ∷ []) (omega (arith, length_half p true))
      (full_within w s (p ++ true ∷ []) p (half_begins p true) f) in
      elim (cases_lt (length p) (length c.0)) [
        | inr le ↦ (c.0, c.1, begins_both (p ++ false ∷ []) p c.0 (half_begins p false) c.2 le)
        | inl lt ↦ elim (cases_lt (length p) (length d.0)) [
          | inr le ↦ (d.0, d.1, begins_both (p ++ true ∷ []) p d.0 (half_begins p true) d.2 le)
          | inl lu ↦
              let e = same_length (p ++ false ∷ []) c.0 c.2 (omega (arith, length_half p false)) in
              let g = same_length (p ++ true ∷ []) d.0 d.2 (omega (arith, length_half p true)) in
              absurd (none p (subst (Contains s) (sym e) c.1) (subst (Contains s) (sym g) d.1))
        ]
      ]

  module _ (short : AreNetworks w s) (none : HaveNoHalves s) (apart : HoldNoOther s) where
    pub member_listed : (p : List Bool) → IsMember w s p → Contains s p
    member_listed p h =
        let c = full_covered none (w - length p) p (omega (arith, h.within)) h.full in
        let e = same_length p c.0 c.2 (no_wider w s p c.0 h (key_full w s c.0 c.1) c.2) in
        subst (Contains s) (sym e) c.1

    below_not_full : (q : List Bool) → 0 < length q → Contains s q → ¬ (IsFull w s (parent q))
    below_not_full q some c f =
        let within = short q c in
        let d = full_covered none (w - length (parent q)) (parent q) (omega (arith, length_parent q)) f in
        let e = apart d.0 q d.1 c (begins_begins q (parent q) d.0 (begins_parent q) d.2) in
        omega (arith, begins_length (parent q) d.0 d.2, length_parent q, ap length e)

    widest_listed : (p : List Bool) → Contains s p → (p ≡ []) ⊎ ¬ (IsFull w s (parent p))
    widest_listed [] c = inl refl
    widest_listed (b ∷ p) c = inr (below_not_full (b ∷ p) (omega arith) c)

    pub listed_member : (p : List Bool) → Contains s p → IsMember w s p
    listed_member p c = record { within = short p c; full = key_full w s p c; widest = widest_listed p c }

-- lists that cover the same have the same members
full_alike : (w : ℕ) (s t : List (List Bool)) → CoverSame w s t → (p : List Bool) → IsFull w s p → IsFull w t p
full_alike w s t same p f a la h = (same a la).0 (f a la h)

pub same_itself : (w : ℕ) (s : List (List Bool)) → CoverSame w s s
same_itself w s a la = ((λ c. c), (λ c. c))

pub same_trans : (w : ℕ) (s t u : List (List Bool)) → CoverSame w s t → CoverSame w t u → CoverSame w s u
same_trans w s t u h k a la = ((λ c. (k a la).0 ((h a la).0 c)), (λ c. (h a la).1 ((k a la).1 c)))

pub back : (w : ℕ) (s t : List (List Bool)) → CoverSame w s t → CoverSame w t s
back w s t same a la = ((same a la).1, (same a la).0)

widest_alike : (w : ℕ) (s t : List (List Bool)) → CoverSame w s t → (p : List Bool)
    → (p ≡ []) ⊎ ¬ (IsFull w s (parent p)) → (p ≡ []) ⊎ ¬ (IsFull w t (parent p))
widest_alike w s t same p (inl e) = inl e
widest_alike w s t same p (inr n) = inr (λ f. n (full_alike w t s (back w s t same) (parent p) f))

pub member_alike : (w : ℕ) (s t : List (List Bool)) → CoverSame w s t → (p : List Bool) → IsMember w s p
    → IsMember w t p
member_alike w s t same p h = record {
  within = h.within;
  full = full_alike w s t same p h.full;
  widest = widest_alike w s t same p h.widest;
}

pub least_alike : (w : ℕ) (these those cover : List (List Bool)) → CoverSame w these those → IsLeastCover w these cover
    → IsLeastCover w those cover
least_alike w these those cover same h = record {
  ascending = h.ascending;
  members = λ p. (
    λ c. member_alike w these those same p ((h.members p).0 c),
    λ k. (h.members p).1 (member_alike w those these (back w these those same) p k),
  );
}

pub reduced_is_least : (w : ℕ) (s : List (List Bool)) → IsStrictlySortedBy bit_cmp s → AreNetworks w s → HaveNoHalves s
    → HoldNoOther s → IsLeastCover w s s
reduced_is_least w s sorted short none apart = record {
  ascending = sorted;
  members = λ p. (listed_member w s short none apart p, member_listed w s short none apart p);
}

-- what is put behind networks covers what it held
pub covers_more : (s : List (List Bool)) (k a : List Bool) → Covers (s ++ k ∷ []) a ↔ Covers s a ⊎ BeginsWith a k
covers_more s k a = (
  λ c. elim (Contains-append_cases s (k ∷ []) c.0 c.1) [
    | inl d ↦ inl (c.0, d, c.2)
    | inr d ↦ elim (contains_cases k c.0 [] d) [
      | inl e ↦ inr (subst (BeginsWith a) (sym e) c.2)
      | inr e ↦ absurd (contains_nothing c.0 e)
    ]
  ],
  λ c. elim c [
    | inl d ↦ (d.0, Contains-append_left s (k ∷ []) d.0 d.1, d.2)
    | inr b ↦ (k, Contains-append_right s (k ∷ []) k (contains_first k []), b)
  ],
)

-- a key that a network holds may be skipped
pub skip_covers : (w : ℕ) (keys s : List (List Bool)) (k p : List Bool) → CoverSame w s keys → Contains s p
    → BeginsWith k p → CoverSame w s (keys ++ k ∷ [])
skip_covers w keys s k p same c b a la = (
  λ d. (covers_more keys k a).1 (inl ((same a la).0 d)),
  λ d. elim ((covers_more keys k a).0 d) [
    | inl e ↦ (same a la).1 e
    | inr h ↦ (p, c, begins_begins a k p h b)
  ],
)

-- any other is put behind
pub push_covers : (w : ℕ) (keys s : List (List Bool)) (k : List Bool) → CoverSame w s keys
    → CoverSame w (s ++ k ∷ []) (keys ++ k ∷ [])
push_covers w keys s k same a la = (
  λ d. (covers_more keys k a).1 (elim ((covers_more s k a).0 d) [ inl e ↦ inl ((same a la).0 e) | inr h ↦ inr h ]),
  λ d. (covers_more s k a).1 (elim ((covers_more keys k a).0 d) [ inl e ↦ inl ((same a la).1 e) | inr h ↦ inr h ]),
)

-- two halves become their network
pub merge_covers : (w : ℕ) (s : List (List Bool)) (q : List Bool) → length q < w
    → CoverSame w (s ++ q ∷ []) ((s ++ (q ++ false ∷ []) ∷ []) ++ (q ++ true ∷ []) ∷ [])
merge_covers w s q short a la =
    let u = q ++ false ∷ [] in
    let v = q ++ true ∷ [] in (
      λ d. (covers_more (s ++ u ∷ []) v a).1 (elim ((covers_more s q a).0 d) [
        | inl e ↦ inl ((covers_more s u a).1 (inl e))
        | inr h ↦ elim (either_half a q h (omega arith)) [ inl k ↦ inl ((covers_more s u a).1 (inr k)) | inr k ↦ inr k ]
      ]),
      λ d. (covers_more s q a).1 (elim ((covers_more (s ++ u ∷ []) v a).0 d) [
        | inl e ↦ elim ((covers_more s u a).0 e) [
          | inl g ↦ inl g
          | inr k ↦ inr
              (begins_begins a u q k (half_begins q false))
        ]
        | inr k ↦ inr (begins_begins a v q k (half_begins q true))
      ]),
    )
