-- The networks of the addresses from a first to a last one, by how a network lies to both.
use Rattle.std.proofs.Common.{◌≡◌, ◌≢◌, ◌↔◌, ◌⊎◌, ℕ, zero, suc, ◌+◌, ◌<◌, ◌≤◌, Bool, true, false, not, if◌then◌else◌, List, [], ◌∷◌, ◌++◌, length, length-append, get_or, drop, replicate, refl, sym, ap, ◌∙◌, subst, arith, inl, inr}
use Rattle.std.proofs.lemmas.Bool.{false≢true, true≢false}
use Rattle.std.proofs.lemmas.List.{length-replicate}
use Rattle.std.proofs.lemmas.List.Elements.{Contains-push_cases}
use Rattle.std.specs.List.{Contains}
use Rattle.std.specs.declared.cmp.Ordering.TheVariants.{Less}
use Rattle.cidr.specs.model.Bits.{bit_cmp}
use Rattle.cidr.specs.model.Network.{BeginsWith}
use Rattle.cidr.specs.laws.BitLaws.{bit_cmp_total}
use Rattle.cidr_table.specs.model.Cover.{parent}
use Rattle.cidr_table.proofs.Ascending.{sorted_push}
use Rattle.cidr_table.proofs.Halves.{begins_begins, begins_itself, either_half, half_begins, parent_half}
use Rattle.cidr_table.proofs.MapLaws.{contains_nothing}
use Rattle.cidr_table.proofs.Reduced.{covers_more}
use Rattle.cidr_sets.specs.model.Ranges.{IsBetween, IsCutBy, IsFilled, IsOverfull, IsPart, IsBetweenEdges, Reaches, all_bits, most, side}
use Rattle.cidr_sets.specs.model.Sets.{IsSetOf}
use Rattle.cidr_sets.specs.internal.Steps.{Ascend, IsBehind}
use Rattle.cidr_sets.proofs.Addresses.{set_alike}
use Rattle.cidr_sets.proofs.Cuts.{inner_behind, upper_behind}
use Rattle.cidr_sets.proofs.Joining.{unfilled}
use Rattle.cidr_sets.proofs.Members.{IsMemberOf, members_fit, set_of_members}
use Rattle.cidr_sets.proofs.Sides.{between_reaches}

-- ---- how a network lies to an edge
pub behind_first : (p f : List Bool) → IsBehind p f → side false f p ≡ 0
unfolding side
behind_first [] f h = absurd (h.1 refl)
behind_first (x ∷ p) [] h = absurd (let e = h.0 in (cc))
behind_first (true ∷ p) (true ∷ f) h = behind_first p f (h.0, λ b. h.1 (ap (λ t. true ∷ t) b))
behind_first (false ∷ p) (false ∷ f) h = behind_first p f (h.0, λ b. h.1 (ap (λ t. false ∷ t) b))
behind_first (true ∷ p) (false ∷ f) h = absurd (let e = h.0 in (cc))
behind_first (false ∷ p) (true ∷ f) h = refl

pub behind_last : (p l : List Bool) → IsBehind l p → side true l p ≡ 0
unfolding side
behind_last p [] h = absurd (h.1 refl)
behind_last [] (y ∷ l) h = absurd (let e = h.0 in (cc))
behind_last (true ∷ p) (true ∷ l) h = behind_last p l (h.0, λ b. h.1 (ap (λ t. true ∷ t) b))
behind_last (false ∷ p) (false ∷ l) h = behind_last p l (h.0, λ b. h.1 (ap (λ t. false ∷ t) b))
behind_last (true ∷ p) (false ∷ l) h = refl
behind_last (false ∷ p) (true ∷ l) h = absurd (let e = h.0 in (cc))

at_end : (bit : Bool) (e : List Bool) → side bit e [] ≢ 0
unfolding side
at_end bit e h = by (all_bits bit e) h
  where
    by : (b : Bool) → (if b then 1 else suc (length e)) ≡ 0 → ⊥
    by true k = omega (arith, k)
    by false k = omega (arith, k)

pub first_behind : (p f : List Bool) → side false f p ≡ 0 → IsBehind p f
unfolding side
first_behind [] f h = absurd (at_end false f h)
first_behind (x ∷ p) [] h = absurd (omega (arith, h))
first_behind (true ∷ p) (true ∷ f) h = let k = first_behind p f h in (k.0, λ b. k.1 (ap (drop 1) b))
first_behind (false ∷ p) (false ∷ f) h = let k = first_behind p f h in (k.0, λ b. k.1 (ap (drop 1) b))
first_behind (true ∷ p) (false ∷ f) h = absurd (omega (arith, h))
first_behind (false ∷ p) (true ∷ f) h = (refl, λ b. true≢false (ap (λ t. get_or t 0 true) b))

pub last_behind : (p l : List Bool) → side true l p ≡ 0 → IsBehind l p
unfolding side
last_behind [] l h = absurd (at_end true l h)
last_behind (x ∷ p) [] h = absurd (omega (arith, h))
last_behind (true ∷ p) (true ∷ l) h = let k = last_behind p l h in (k.0, λ b. k.1 (ap (drop 1) b))
last_behind (false ∷ p) (false ∷ l) h = let k = last_behind p l h in (k.0, λ b. k.1 (ap (drop 1) b))
last_behind (true ∷ p) (false ∷ l) h = (refl, λ b. true≢false (ap (λ t. get_or t 0 true) b))
last_behind (false ∷ p) (true ∷ l) h = absurd (omega (arith, h))

pub many_cut : (bit : Bool) (e p : List Bool) → 1 < side bit e p → IsCutBy bit e p
unfolding side
many_cut bit e [] h = (refl, by (all_bits bit e) refl h)
  where
    by : (b : Bool) → all_bits bit e ≡ b → 1 < (if b then 1 else suc (length e)) → all_bits bit e ≡ false
    by true k lt = absurd (omega (arith, lt))
    by false k lt = k
many_cut bit [] (x ∷ p) h = absurd (omega (arith, h))
many_cut bit (true ∷ e) (true ∷ p) h = let k = many_cut bit e p h in (ap (λ t. true ∷ t) k.0, k.1)
many_cut bit (false ∷ e) (false ∷ p) h = let k = many_cut bit e p h in (ap (λ t. false ∷ t) k.0, k.1)
many_cut true (true ∷ e) (false ∷ p) h = absurd (omega (arith, h))
many_cut false (true ∷ e) (false ∷ p) h = absurd (omega (arith, h))
many_cut true (false ∷ e) (true ∷ p) h = absurd (omega (arith, h))
many_cut false (false ∷ e) (true ∷ p) h = absurd (omega (arith, h))

pub cut_many : (bit : Bool) (e p : List Bool) → IsCutBy bit e p → 1 < side bit e p
unfolding side all_bits
cut_many bit [] [] h = absurd (true≢false h.1)
cut_many bit (y ∷ e) [] h = subst (λ b. 1 < (if b then 1 else suc (length (y ∷ e)))) (sym h.1) (omega arith)
cut_many bit [] (x ∷ p) h = absurd (let e = h.0 in (cc))
cut_many bit (true ∷ e) (true ∷ p) h = cut_many bit e p (ap (drop 1) h.0, h.1)
cut_many bit (false ∷ e) (false ∷ p) h = cut_many bit e p (ap (drop 1) h.0, h.1)
cut_many bit (true ∷ e) (false ∷ p) h = absurd (true≢false (ap (λ t. get_or t 0 true) h.0))
cut_many bit (false ∷ e) (true ∷ p) h = absurd (false≢true (ap (λ t. get_or t 0 true) h.0))

pub cut_longer : (bit : Bool) (e p : List Bool) → IsCutBy bit e p → length p < length e
unfolding all_bits
cut_longer bit [] [] h = absurd (true≢false h.1)
cut_longer bit (y ∷ e) [] h = omega arith
cut_longer bit [] (x ∷ p) h = absurd (let e = h.0 in (cc))
cut_longer bit (y ∷ e) (x ∷ p) h = (let k = cut_longer bit e p (ap (drop 1) h.0, h.1) in omega (arith, k))

-- ---- what that says of its addresses
all_end : (bit : Bool) (e a : List Bool) → all_bits bit e ≡ true → length e ≤ length a → Reaches (not bit) e a
unfolding Reaches all_bits
all_end bit [] a h l = tt
all_end bit (y ∷ e) [] h l = absurd (omega (arith, l))
all_end true (true ∷ e) (true ∷ a) h l = all_end true e a h (omega (arith, l))
all_end true (true ∷ e) (false ∷ a) h l = refl
all_end true (false ∷ e) (z ∷ a) h l = absurd (false≢true h)
all_end false (false ∷ e) (false ∷ a) h l = all_end false e a h (omega (arith, l))
all_end false (false ∷ e) (true ∷ a) h l = refl
all_end false (true ∷ e) (z ∷ a) h l = absurd (false≢true h)

one_end : (bit : Bool) (e : List Bool) → side bit e [] ≡ 1 → all_bits bit e ≡ true
unfolding side all_bits
one_end bit [] h = refl
one_end bit (y ∷ e) h = by (all_bits bit (y ∷ e)) refl h
  where
    by : (b : Bool) → all_bits bit (y ∷ e) ≡ b → (if b then 1 else suc (length (y ∷ e))) ≡ 1 → all_bits bit (y ∷ e) ≡ true
    by true k l = k
    by false k l = absurd (omega (arith, l))

pub all_reach : (bit : Bool) (e p a : List Bool) → side bit e p ≡ 1 → BeginsWith a p → length e ≤ length a → Reaches (not bit) e a
unfolding side Reaches
all_reach bit e [] a h b l = all_end bit e a (one_end bit e h) l
all_reach bit [] (x ∷ p) a h b l = tt
all_reach bit (y ∷ e) (x ∷ p) [] h b l = absurd (omega (arith, l))
all_reach bit (true ∷ e) (true ∷ p) (true ∷ a) h b l = all_reach bit e p a h (ap (drop 1) b) (omega (arith, l))
all_reach bit (false ∷ e) (false ∷ p) (false ∷ a) h b l = all_reach bit e p a h (ap (drop 1) b) (omega (arith, l))
all_reach bit (y ∷ e) (true ∷ p) (false ∷ a) h b l = absurd (false≢true (ap (λ t. get_or t 0 true) b))
all_reach bit (y ∷ e) (false ∷ p) (true ∷ a) h b l = absurd (true≢false (ap (λ t. get_or t 0 true) b))
all_reach true (true ∷ e) (false ∷ p) (false ∷ a) h b l = refl
all_reach false (true ∷ e) (false ∷ p) (false ∷ a) h b l = absurd (omega (arith, h))
all_reach true (false ∷ e) (true ∷ p) (true ∷ a) h b l = absurd (omega (arith, h))
all_reach false (false ∷ e) (true ∷ p) (true ∷ a) h b l = refl

pub none_reach : (bit : Bool) (e p a : List Bool) → side bit e p ≡ 0 → BeginsWith a p → ¬ (Reaches (not bit) e a)
unfolding side Reaches
none_reach bit e [] a h b r = at_end bit e h
none_reach bit [] (x ∷ p) a h b r = omega (arith, h)
none_reach bit (y ∷ e) (x ∷ p) [] h b r = r
none_reach bit (true ∷ e) (true ∷ p) (true ∷ a) h b r = none_reach bit e p a h (ap (drop 1) b) r
none_reach bit (false ∷ e) (false ∷ p) (false ∷ a) h b r = none_reach bit e p a h (ap (drop 1) b) r
none_reach bit (y ∷ e) (true ∷ p) (false ∷ a) h b r = false≢true (ap (λ t. get_or t 0 true) b)
none_reach bit (y ∷ e) (false ∷ p) (true ∷ a) h b r = true≢false (ap (λ t. get_or t 0 true) b)
none_reach true (true ∷ e) (false ∷ p) (false ∷ a) h b r = omega (arith, h)
none_reach false (true ∷ e) (false ∷ p) (false ∷ a) h b r = true≢false r
none_reach true (false ∷ e) (true ∷ p) (true ∷ a) h b r = false≢true r
none_reach false (false ∷ e) (true ∷ p) (true ∷ a) h b r = omega (arith, h)

-- an address of the network on the other side
pub one_misses : (bit : Bool) (e p : List Bool) (n : ℕ) → IsCutBy bit e p → length e ≤ n
    → (a : List Bool) × (length a ≡ n) × BeginsWith a p × (¬ (Reaches (not bit) e a))
unfolding Reaches
one_misses bit e [] n h l = (replicate n bit, length-replicate n bit, refl, unfilled bit e n h.1 l)
one_misses bit [] (x ∷ p) n h l = absurd (let e = h.0 in (cc))
one_misses bit (y ∷ e) (x ∷ p) zero h l = absurd (omega (arith, l))
one_misses bit (true ∷ e) (true ∷ p) (suc n) h l =
    let (a, la, b, m) = one_misses bit e p n (ap (drop 1) h.0, h.1) (omega (arith, l)) in
    (true ∷ a, omega (arith, la), ap (λ t. true ∷ t) b, m)
one_misses bit (false ∷ e) (false ∷ p) (suc n) h l =
    let (a, la, b, m) = one_misses bit e p n (ap (drop 1) h.0, h.1) (omega (arith, l)) in
    (false ∷ a, omega (arith, la), ap (λ t. false ∷ t) b, m)
one_misses bit (true ∷ e) (false ∷ p) (suc n) h l = absurd (true≢false (ap (λ t. get_or t 0 true) h.0))
one_misses bit (false ∷ e) (true ∷ p) (suc n) h l = absurd (false≢true (ap (λ t. get_or t 0 true) h.0))

-- ---- its halves
-- m is the number of a network, u that of the half with the bit, v that of the other half
abbrev pub IsHalved : ℕ → ℕ → ℕ → Type 0
IsHalved m u v = ((d : ℕ) × (m ≡ suc (suc (suc d))) × (u ≡ suc (suc d)) × (v ≡ 1))
    ⊎ ((d : ℕ) × (m ≡ suc (suc d)) × (u ≡ 0) × ((v ≡ 1) ⊎ ((c : ℕ) × (d ≡ suc c) × (v ≡ suc (suc c)))))

end_halved : (bit : Bool) (e : List Bool) → 1 < side bit e [] → IsHalved (side bit e []) (side bit e (bit ∷ [])) (side bit e (not bit ∷ []))
unfolding side all_bits
end_halved bit [] h = absurd (omega (arith, h))
end_halved true (true ∷ []) h = absurd (omega (arith, h))
end_halved false (false ∷ []) h = absurd (omega (arith, h))
end_halved true (true ∷ z ∷ e) h = by (all_bits true (z ∷ e)) h
  where
    by : (b : Bool) → 1 < (if b then 1 else suc (length (true ∷ z ∷ e)))
        → IsHalved (if b then 1 else suc (length (true ∷ z ∷ e))) (if b then 1 else suc (length (z ∷ e))) 1
    by true k = absurd (omega (arith, k))
    by false k = inl (length e, refl, refl, refl)
end_halved false (false ∷ z ∷ e) h = by (all_bits false (z ∷ e)) h
  where
    by : (b : Bool) → 1 < (if b then 1 else suc (length (false ∷ z ∷ e)))
        → IsHalved (if b then 1 else suc (length (false ∷ z ∷ e))) (if b then 1 else suc (length (z ∷ e))) 1
    by true k = absurd (omega (arith, k))
    by false k = inl (length e, refl, refl, refl)
end_halved true (false ∷ []) h = inr (0, refl, refl, inl refl)
end_halved false (true ∷ []) h = inr (0, refl, refl, inl refl)
end_halved true (false ∷ z ∷ e) h = by (all_bits true (z ∷ e))
  where
    by : (b : Bool) → IsHalved (suc (length (false ∷ z ∷ e))) 0 (if b then 1 else suc (length (z ∷ e)))
    by true = inr (length (z ∷ e), refl, refl, inl refl)
    by false = inr (length (z ∷ e), refl, refl, inr (length e, refl, refl))
end_halved false (true ∷ z ∷ e) h = by (all_bits false (z ∷ e))
  where
    by : (b : Bool) → IsHalved (suc (length (true ∷ z ∷ e))) 0 (if b then 1 else suc (length (z ∷ e)))
    by true = inr (length (z ∷ e), refl, refl, inl refl)
    by false = inr (length (z ∷ e), refl, refl, inr (length e, refl, refl))

pub side_halved : (bit : Bool) (e p : List Bool) → 1 < side bit e p
    → IsHalved (side bit e p) (side bit e (p ++ bit ∷ [])) (side bit e (p ++ not bit ∷ []))
unfolding side
side_halved bit e [] h = end_halved bit e h
side_halved bit [] (x ∷ p) h = absurd (omega (arith, h))
side_halved bit (true ∷ e) (true ∷ p) h = side_halved bit e p h
side_halved bit (false ∷ e) (false ∷ p) h = side_halved bit e p h
side_halved true (true ∷ e) (false ∷ p) h = absurd (omega (arith, h))
side_halved false (true ∷ e) (false ∷ p) h = absurd (omega (arith, h))
side_halved true (false ∷ e) (true ∷ p) h = absurd (omega (arith, h))
side_halved false (false ∷ e) (true ∷ p) h = absurd (omega (arith, h))

end_one : (bit x : Bool) (e : List Bool) → all_bits bit e ≡ true → side bit e (x ∷ []) ≡ 1
unfolding side all_bits
end_one bit x [] h = refl
end_one true true (true ∷ e) h = ap (λ b. if b then 1 else suc (length e)) h
end_one true false (true ∷ e) h = refl
end_one true x (false ∷ e) h = absurd (false≢true h)
end_one false false (false ∷ e) h = ap (λ b. if b then 1 else suc (length e)) h
end_one false true (false ∷ e) h = refl
end_one false x (true ∷ e) h = absurd (false≢true h)

pub side_one : (bit x : Bool) (e p : List Bool) → side bit e p ≡ 1 → side bit e (p ++ x ∷ []) ≡ 1
unfolding side
side_one bit x e [] h = end_one bit x e (one_end bit e h)
side_one bit x [] (y ∷ p) h = refl
side_one bit x (true ∷ e) (true ∷ p) h = side_one bit x e p h
side_one bit x (false ∷ e) (false ∷ p) h = side_one bit x e p h
side_one bit x (true ∷ e) (false ∷ p) h = h
side_one bit x (false ∷ e) (true ∷ p) h = h

-- ---- how many networks
first_sum : (m u v : ℕ) → IsHalved m u v → most u 1 + most v 1 ≤ most m 1
unfolding most
first_sum m u v h = elim h [
  | inl k ↦ rw (k.1, k.2, k.3) (omega arith)
  | inr k ↦ elim k.3 [ inl e ↦ rw (k.1, k.2, e) (omega arith) | inr e ↦ rw (k.1, k.2, e.2, e.1) (omega arith) ]
]

last_sum : (m u v : ℕ) → IsHalved m u v → most 1 v + most 1 u ≤ most 1 m
unfolding most
last_sum m u v h = elim h [
  | inl k ↦ rw (k.1, k.2, k.3) (omega arith)
  | inr k ↦ elim k.3 [ inl e ↦ rw (k.1, k.2, e) (omega arith) | inr e ↦ rw (k.1, k.2, e.2, e.1) (omega arith) ]
]

both_sum : (m u v k w z : ℕ) → IsHalved m u v → IsHalved k w z → most u z + most v w ≤ most m k
unfolding most
both_sum m u v k w z h j = elim h [
  | inl a ↦ elim j [
    | inl b ↦ rw (a.1, a.2, a.3, b.1, b.2, b.3) (omega arith)
    | inr b ↦ elim b.3 [
      | inl e ↦ rw (a.1, a.2, a.3, b.1, b.2, e) (omega arith)
      | inr e ↦ rw (a.1, a.2, a.3, b.1, b.2, e.2, e.1) (omega arith)
    ]
  ]
  | inr a ↦ elim a.3 [
    | inl d ↦ elim j [
      | inl b ↦ rw (a.1, a.2, d, b.1, b.2) (omega arith)
      | inr b ↦ rw (a.1, a.2, d, b.1, b.2) (omega arith)
    ]
    | inr d ↦ elim j [
      | inl b ↦ rw (a.1, a.2, d.2, d.1, b.1, b.2) (omega arith)
      | inr b ↦ rw (a.1, a.2, d.2, d.1, b.1, b.2) (omega arith)
    ]
  ]
]

pub one_most : (m k : ℕ) → m ≡ 1 → k ≡ 1 → 1 ≤ most m k
unfolding most
one_most m k e h = rw (e, h) (omega arith)

module _ (f l p : List Bool) where
  not_none : (n : ℕ) → n ≢ 0 → ¬ (1 < n) → n ≡ 1
  not_none zero h k = absurd (h refl)
  not_none (suc zero) h k = refl
  not_none (suc (suc n)) h k = absurd (k (omega arith))

  module _ (some_first : ¬ (IsBehind p f)) (some_last : ¬ (IsBehind l p)) where
    pub first_one : ¬ (IsCutBy false f p) → side false f p ≡ 1
    first_one n = not_none (side false f p) (λ e. some_first (first_behind p f e)) (λ lt. n (many_cut false f p lt))

    pub last_one : ¬ (IsCutBy true l p) → side true l p ≡ 1
    last_one n = not_none (side true l p) (λ e. some_last (last_behind p l e)) (λ lt. n (many_cut true l p lt))

    more_first : (side false f p ≡ 1) ⊎ (1 < side false f p)
    more_first = by (side false f p) refl
      where
        by : (n : ℕ) → side false f p ≡ n → (side false f p ≡ 1) ⊎ (1 < side false f p)
        by zero e = absurd (some_first (first_behind p f e))
        by (suc zero) e = inl e
        by (suc (suc n)) e = inr (omega (arith, e))

    more_last : (side true l p ≡ 1) ⊎ (1 < side true l p)
    more_last = by (side true l p) refl
      where
        by : (n : ℕ) → side true l p ≡ n → (side true l p ≡ 1) ⊎ (1 < side true l p)
        by zero e = absurd (some_last (last_behind p l e))
        by (suc zero) e = inl e
        by (suc (suc n)) e = inr (omega (arith, e))

    -- a network that is cut has no more than its halves may have
    pub halves_most : IsCutBy false f p ⊎ IsCutBy true l p
        → most (side false f (p ++ false ∷ [])) (side true l (p ++ false ∷ []))
        + most (side false f (p ++ true ∷ [])) (side true l (p ++ true ∷ [])) ≤ most (side false f p) (side true l p)
    halves_most cut = elim more_first [
      | inl a ↦ elim more_last [
        | inl b ↦ absurd (elim cut [
          | inl c ↦ omega (arith, a, cut_many false f p c)
          | inr c ↦ omega (arith, b, cut_many true l p c)
        ])
        | inr b ↦ rw (a, side_one false false f p a, side_one false true f p a)
            (last_sum (side true l p) (side true l (p ++ true ∷ [])) (side true l (p ++ false ∷ [])) (side_halved true l p b))
      ]
      | inr a ↦ elim more_last [
        | inl b ↦ rw (b, side_one true false l p b, side_one true true l p b)
            (first_sum (side false f p) (side false f (p ++ false ∷ [])) (side false f (p ++ true ∷ [])) (side_halved false f p a))
        | inr b ↦ both_sum (side false f p) (side false f (p ++ false ∷ [])) (side false f (p ++ true ∷ []))
            (side true l p) (side true l (p ++ true ∷ [])) (side true l (p ++ false ∷ [])) (side_halved false f p a) (side_halved true l p b)
      ]
    ]

end_is : (bit : Bool) (e : List Bool) → (side bit e [] ≡ 1) ⊎ (side bit e [] ≡ suc (length e))
unfolding side
end_is bit e = by (all_bits bit e)
  where
    by : (b : Bool) → ((if b then 1 else suc (length e)) ≡ 1) ⊎ ((if b then 1 else suc (length e)) ≡ suc (length e))
    by true = inl refl
    by false = inr refl

one_more : (m n : ℕ) → 2 ≤ m → 2 ≤ n → most 1 (suc n) + 2 ≤ m + n
unfolding most
one_more m zero k h = absurd (omega (arith, h))
one_more m (suc n) k h = omega (arith, k)

more_one : (m n : ℕ) → 2 ≤ m → 2 ≤ n → most (suc m) 1 + 2 ≤ m + n
unfolding most
more_one zero n h k = absurd (omega (arith, h))
more_one (suc m) n h k = omega (arith, k)

more_more : (m n : ℕ) → 2 ≤ m → 2 ≤ n → most (suc m) (suc n) + 2 ≤ m + n
unfolding most
more_more zero n h k = absurd (omega (arith, h))
more_more (suc m) zero h k = absurd (omega (arith, k))
more_more (suc m) (suc n) h k = omega arith

one_one : (m n : ℕ) → 2 ≤ m → 2 ≤ n → most 1 1 + 2 ≤ m + n
unfolding most
one_one m n h k = omega (arith, h, k)

pub root_most : (f l : List Bool) → 2 ≤ length f → 2 ≤ length l → most (side false f []) (side true l []) + 2 ≤ length f + length l
root_most f l hf hl = elim (end_is false f) [
  | inl a ↦ elim (end_is true l) [
    | inl b ↦ rw (a, b) (one_one (length f) (length l) hf hl)
    | inr b ↦ rw (a, b) (one_more (length f) (length l) hf hl)
  ]
  | inr a ↦ elim (end_is true l) [
    | inl b ↦ rw (a, b) (more_one (length f) (length l) hf hl)
    | inr b ↦ rw (a, b) (more_more (length f) (length l) hf hl)
  ]
]

-- ---- which networks
module _ (IsIn : List Bool → Type 0) (p : List Bool) (old : List (List Bool)) where
  module _ (ascend : Ascend old) (before : (x : List Bool) → Contains old x → bit_cmp x p ≡ Less) where
    old_before : (k : List Bool) → IsBehind p k → (x : List Bool) → Contains old x → bit_cmp x k ≡ Less
    old_before k h x c = bit_cmp_total.trans x p k (before x c) h.0

    pub filled_none : ((a : List Bool) → BeginsWith a p → ¬ (IsIn a)) → IsFilled IsIn p old old
    filled_none none = record {
      ascend = ascend;
      before = old_before;
      covers = λ a la. (λ c. inl c, λ c. elim c [ inl d ↦ d | inr d ↦ absurd (none a d.0 d.1) ]);
      each = λ x c. inl c;
    }

    pub filled_whole : length p ≤ 129 → ((a : List Bool) → length a ≡ 129 → BeginsWith a p → IsIn a) → IsFilled IsIn p old (old ++ p ∷ [])
    filled_whole short all = record {
      ascend = sorted_push old p ascend before;
      before = λ k h x c. elim (Contains-push_cases old p x c) [
        | inl d ↦ old_before k h x d
        | inr e ↦ subst (λ z. bit_cmp z k ≡ Less) e h.0
      ];
      covers = λ a la. (
        λ c. elim ((covers_more old p a).0 c) [ inl d ↦ inl d | inr b ↦ inr (b, all a la b) ],
        λ c. (covers_more old p a).1 (elim c [ inl d ↦ inl d | inr d ↦ inr d.0 ]),
      );
      each = λ x c. elim (Contains-push_cases old p x c) [
        | inl d ↦ inl d
        | inr e ↦ inr (subst (IsPart IsIn p) e (record { within = short; full = all; widest = inl refl }))
      ];
    }

  pub overfull_whole : (room : ℕ) → IsFilled IsIn p old (old ++ p ∷ []) → room ≤ length old → IsOverfull IsIn p old room
  overfull_whole room k full = record {
    networks = old ++ p ∷ [];
    over = omega (arith, full, length-append old (p ∷ []));
    ascend = k.ascend;
    each = k.each;
  }

  pub overfull_less : (room more : ℕ) → room ≤ more → IsOverfull IsIn p old more → IsOverfull IsIn p old room
  overfull_less room more le k = record {
    networks = k.networks;
    over = omega (arith, le, k.over);
    ascend = k.ascend;
    each = k.each;
  }

  -- by halves
  module _ (bare : ¬ ((a : List Bool) → length a ≡ 129 → BeginsWith a p → IsIn a)) where
    part_half : (b : Bool) (x : List Bool) → IsPart IsIn (p ++ b ∷ []) x → IsPart IsIn p x
    part_half b x r = record {
      within = r.within;
      full = r.full;
      widest = inr (elim r.widest [
        | inl e ↦ λ h. bare (λ a la c. h a la (subst (BeginsWith a) (sym (ap parent e ∙ parent_half p b)) c))
        | inr k ↦ k
      ]);
    }

    pub overfull_lower : (room : ℕ) → IsOverfull IsIn (p ++ false ∷ []) old room → IsOverfull IsIn p old room
    overfull_lower room k = record {
      networks = k.networks;
      over = k.over;
      ascend = k.ascend;
      each = λ x c. elim (k.each x c) [ inl d ↦ inl d | inr d ↦ inr (part_half false x d) ];
    }

    module _ (mid : List (List Bool)) (lo : IsFilled IsIn (p ++ false ∷ []) old mid) where
      halves_part : (x : List Bool) → Contains mid x ⊎ IsPart IsIn (p ++ true ∷ []) x → Contains old x ⊎ IsPart IsIn p x
      halves_part x (inl c) = elim (lo.each x c) [ inl d ↦ inl d | inr d ↦ inr (part_half false x d) ]
      halves_part x (inr r) = inr (part_half true x r)

      pub upper_after : (x : List Bool) → Contains mid x → bit_cmp x (p ++ true ∷ []) ≡ Less
      upper_after = lo.before (p ++ true ∷ []) (upper_behind p (p ++ true ∷ []) (begins_itself (p ++ true ∷ [])))

      pub overfull_upper : (room : ℕ) → IsOverfull IsIn (p ++ true ∷ []) mid room → IsOverfull IsIn p old room
      overfull_upper room k = record {
        networks = k.networks;
        over = k.over;
        ascend = k.ascend;
        each = λ x c. halves_part x (k.each x c);
      }

      pub filled_halves : (new : List (List Bool)) → IsFilled IsIn (p ++ true ∷ []) mid new → length p < 129 → IsFilled IsIn p old new
      filled_halves new up within = record {
        ascend = up.ascend;
        before = λ k h. up.before k (inner_behind p (p ++ true ∷ []) k (half_begins p true) h);
        covers = λ a la. (
          λ c. elim ((up.covers a la).0 c) [
            | inl d ↦ elim ((lo.covers a la).0 d) [
              | inl e ↦ inl e
              | inr e ↦ inr (begins_begins a (p ++ false ∷ []) p e.0 (half_begins p false), e.1)
            ]
            | inr d ↦ inr (begins_begins a (p ++ true ∷ []) p d.0 (half_begins p true), d.1)
          ],
          λ c. elim c [
            | inl d ↦ (up.covers a la).1 (inl ((lo.covers a la).1 (inl d)))
            | inr d ↦ elim (either_half a p d.0 (omega (arith, la, within))) [
              | inl b ↦ (up.covers a la).1 (inl ((lo.covers a la).1 (inr (b, d.1))))
              | inr b ↦ (up.covers a la).1 (inr (b, d.1))
            ]
          ],
        );
        each = λ x c. halves_part x (up.each x c);
      }

-- ---- of a range
module _ (f l : List Bool) (sf : length f ≤ 129) (sl : length l ≤ 129) where
  pub none_within : (p : List Bool) → IsBehind p f ⊎ IsBehind l p → (a : List Bool) → BeginsWith a p → ¬ (IsBetweenEdges f l a)
  none_within p h a b r = elim h [
    | inl k ↦ none_reach false f p a (behind_first p f k) b r.0
    | inr k ↦ none_reach true l p a (behind_last p l k) b r.1
  ]

  pub all_within : (p : List Bool) → side false f p ≡ 1 → side true l p ≡ 1
      → (a : List Bool) → length a ≡ 129 → BeginsWith a p → IsBetweenEdges f l a
  all_within p h k a la b = (all_reach false f p a h b (omega (arith, la, sf)), all_reach true l p a k b (omega (arith, la, sl)))

  pub not_all_within : (p : List Bool) → IsCutBy false f p ⊎ IsCutBy true l p
      → ¬ ((a : List Bool) → length a ≡ 129 → BeginsWith a p → IsBetweenEdges f l a)
  not_all_within p h all = elim h [
    | inl k ↦ let (a, la, b, m) = one_misses false f p 129 k sf in m (all a la b).0
    | inr k ↦ let (a, la, b, m) = one_misses true l p 129 k sl in m (all a la b).1
  ]

  within_between : (a : List Bool) → length a ≡ 129 → IsBetweenEdges f l a ↔ IsBetween f l a
  within_between a la = let told = between_reaches f l a (omega (arith, la, sf)) (omega (arith, la, sl)) in (told.1, told.0)

  part_member : (x : List Bool) → IsPart (IsBetweenEdges f l) [] x → IsMemberOf (IsBetweenEdges f l) x
  part_member x r = record { within = r.within; full = r.full; widest = r.widest }

  pub range_filled : (s : List (List Bool)) → IsFilled (IsBetweenEdges f l) [] [] s → IsSetOf 129 (IsBetween f l) s
  range_filled s h = set_alike 129 (IsBetweenEdges f l) (IsBetween f l) s within_between
      (set_of_members (IsBetweenEdges f l) s
      (λ a la. (
        λ c. elim ((h.covers a la).0 c) [ inl d ↦ absurd (contains_nothing d.0 d.1) | inr d ↦ d.1 ],
        λ c. (h.covers a la).1 (inr (refl, c)),
      ))
      h.ascend
      (λ x c. elim (h.each x c) [ inl d ↦ absurd (contains_nothing x d) | inr d ↦ part_member x d ]))

  pub range_overfull : (room : ℕ) → IsOverfull (IsBetweenEdges f l) [] [] room → (s : List (List Bool)) → IsSetOf 129 (IsBetween f l) s
      → room < length s
  range_overfull room k s h =
      let fit = members_fit (IsBetweenEdges f l) s k.networks
      (set_alike 129 (IsBetween f l) (IsBetweenEdges f l) s (λ a la. ((within_between a la).1, (within_between a la).0)) h) k.ascend
      (λ x c. elim (k.each x c) [ inl d ↦ absurd (contains_nothing x d) | inr d ↦ part_member x d ]) in
      omega (arith, fit, k.over)
