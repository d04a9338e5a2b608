-- The set of the addresses from a first to a last one has that range alone.
use Rattle.std.proofs.Common.{◌≡◌, ◌≢◌, ◌↔◌, ℕ, suc, ◌+◌, ◌-◌, ◌<◌, ◌≤◌, ◌^◌, Bool, true, false, List, [], ◌∷◌, ◌++◌, length, get_or, take, drop, map, replicate, length-append, refl, sym, ap, ap₂, ◌∙◌, subst, arith, inl, inr, Some}
use Rattle.std.proofs.lemmas.Bool.{cases_lt, false≢true, true≢false}
use Rattle.std.proofs.lemmas.Cmp.{by_ranked, ranked}
use Rattle.std.proofs.lemmas.List.{length-replicate, length-take-le, take_all, take_at}
use Rattle.std.proofs.lemmas.Option.{get_or_from_slice_get, slice_get_within}
use Rattle.std.specs.List.{Contains, slice_get}
use Rattle.std.specs.declared.cmp.Ordering.TheVariants.{Greater}
use Rattle.cidr.specs.laws.BitLaws.{bit_cmp-numbers, bits-number, length-bits, number-bits, number-lt}
use Rattle.cidr.specs.model.Bits.{bit_cmp, bits, number}
use Rattle.cidr.specs.model.Network.{BeginsWith, first_of, last_of}
use Rattle.cidr_table.specs.model.Cover.{Covers, parent}
use Rattle.cidr_table.proofs.Beginnings.{begins_first, begins_length}
use Rattle.cidr_table.proofs.Halves.{begins_begins, begins_both, begins_itself, parent_begins}
use Rattle.cidr_table.proofs.MapLaws.{contains_cases, contains_first, contains_later, contains_nothing}
use Rattle.cidr_sets.specs.model.Ranges.{AreBeginless, AreComplete, AreRanges, HaveEnds, IsBetween, IsGap, IsPadded, Reaches, join, joined_ranges, touches}
use Rattle.cidr_sets.specs.model.Sets.{IsSetOf}
use Rattle.cidr_sets.proofs.Algebra.{some_address}
use Rattle.cidr_sets.proofs.Joining.{contained_map, pad}
use Rattle.cidr_sets.proofs.Runs.{join_apart, join_touching, joined_more, true_or}
use Rattle.cidr_sets.proofs.Sides.{between_reaches, edge_reaches, reaches_down, reaches_up}

-- ---- ranges as numbers from a first to a last one
upto_number : (a b : List Bool) → length a ≡ length b → (bit_cmp a b ≢ Greater) ↔ (number a ≤ number b)
upto_number a b e = (
  λ h. by_ranked (number a < number b) (number a ≡ number b) (number b < number a) (bit_cmp a b) (ranked (number a) (number b) (bit_cmp a b) (bit_cmp-numbers a b e))
      (λ o lt. omega (arith, lt)) (λ o same. omega (arith, same)) (λ o lt. absurd (h o)),
  λ l g. by_ranked (number a < number b) (number a ≡ number b) (number b < number a) (bit_cmp a b) (ranked (number a) (number b) (bit_cmp a b) (bit_cmp-numbers a b e))
      (λ o lt. let k = sym o ∙ g in cc) (λ o same. let k = sym o ∙ g in cc) (λ o lt. omega (arith, lt, l)),
)

filled : (w : ℕ) (up : Bool) (e : List Bool) → length e ≤ w → length (e ++ replicate (w - length e) up) ≡ w
filled w up e short = omega (arith, length-append e (replicate (w - length e) up), length-replicate (w - length e) up, short)

module _ (w : ℕ) where
  abbrev low : List Bool × List Bool → ℕ
  low r = number (first_of w r.0)

  abbrev high : List Bool × List Bool → ℕ
  high r = number (last_of w r.1)

  abbrev IsShort : List Bool × List Bool → Type 0
  IsShort r = (length r.0 ≤ w) × (length r.1 ≤ w)

  from_low : (e a : List Bool) → length e ≤ w → length a ≡ w → Reaches true e a ↔ (number (first_of w e) ≤ number a)
  from_low e a short la =
      let lf = filled w false e short in
      let p = pad true e a (w - length e) (omega (arith, short, la)) in
      let r = reaches_up (first_of w e) a (omega (arith, lf, la)) in
      let n = upto_number (first_of w e) a (lf ∙ sym la) in
      (λ u. n.0 (r.0 (p.1 u)), λ l. p.0 (r.1 (n.1 l)))

  upto_high : (e a : List Bool) → length e ≤ w → length a ≡ w → Reaches false e a ↔ (number a ≤ number (last_of w e))
  upto_high e a short la =
      let ll = filled w true e short in
      let all : take (length (last_of w e)) a ≡ a = take_all (length (last_of w e)) a (omega (arith, ll, la)) in
      let p = pad false e a (w - length e) (omega (arith, short, la)) in
      let r = reaches_down (last_of w e) a (omega (arith, ll, la)) in
      let n = upto_number a (last_of w e) (la ∙ sym ll) in (
        λ u. n.0 (subst (λ z. bit_cmp z (last_of w e) ≢ Greater) all (r.0 (p.1 u))),
        λ l. p.0 (r.1 (subst (λ z. bit_cmp z (last_of w e) ≢ Greater) (sym all) (n.1 l))),
      )

  abbrev IsWithin : List Bool × List Bool → ℕ → Type 0
  IsWithin r n = (low r ≤ n) × (n ≤ high r)

  between_number : (r : List Bool × List Bool) (a : List Bool) → IsShort r → length a ≡ w → IsBetween r.0 r.1 a ↔ IsWithin r (number a)
  between_number r a short la =
      let b = between_reaches r.0 r.1 a (omega (arith, short.0, la)) (omega (arith, short.1, la)) in
      let l = from_low r.0 a short.0 la in
      let h = upto_high r.1 a short.1 la in (
        λ k. let u = b.0 k in (l.0 u.0, h.0 u.1),
        λ k. b.1 (l.1 k.0, h.1 k.1),
      )

  high_fits : (r : List Bool × List Bool) → IsShort r → high r < 2 ^ w
  high_fits r short = subst (λ n. high r < 2 ^ n) (filled w true r.1 short.1) (number-lt (last_of w r.1))

  listed : (n : ℕ) → n < 2 ^ w → (a : List Bool) × (length a ≡ w) × (number a ≡ n)
  listed n lt = (bits w n, length-bits w n, number-bits w n lt)

  gap_number : (r s : List Bool × List Bool) → IsShort r → IsShort s → IsGap w r.1 s.0 → high r + 1 < low s
  gap_number r s sr ss (a, la, after, before) =
      let above : high r < number a = elim (cases_lt (high r) (number a)) [
        | inl lt ↦ lt
        | inr le ↦ absurd ((reaches_down r.1 a (omega (arith, sr.1, la))).0 ((upto_high r.1 a sr.1 la).1 le) after)
      ] in
      let below : number a < low s = elim (cases_lt (number a) (low s)) [
        | inl lt ↦ lt
        | inr le ↦ absurd ((reaches_up s.0 a (omega (arith, ss.0, la))).0 ((from_low s.0 a ss.0 la).1 le) before)
      ] in
      omega (arith, above, below)

-- ---- numbers from a first to a last one, in ranges
module _ {R : Type 0} (lo hi : R → ℕ) where
  abbrev IsBehind : List R → Type 0
  IsBehind rs = (i : ℕ) (r s : R) → slice_get rs i ≡ Some r → slice_get rs (suc i) ≡ Some s → hi r + 1 < lo s

  ascend : (s : R) (xs : List R) → ((r : R) → Contains (s ∷ xs) r → lo r ≤ hi r) → IsBehind (s ∷ xs)
      → (t : R) → Contains (s ∷ xs) t → lo s ≤ lo t
  ascend s [] some behind t c = elim (contains_cases s t [] c) [
    | inl e ↦ subst (λ z. lo s ≤ lo z) e (omega arith)
    | inr d ↦ absurd (contains_nothing t d)
  ]
  ascend s (q ∷ xs) some behind t c = elim (contains_cases s t (q ∷ xs) c) [
    | inl e ↦ subst (λ z. lo s ≤ lo z) e (omega arith)
    | inr d ↦ omega (
      arith,
      some s (contains_first s (q ∷ xs)),
      behind 0 s q refl refl,
      ascend q xs (λ r k. some r (contains_later s r (q ∷ xs) k)) (λ i. behind (suc i)) t d,
    )
  ]

  one_alone : (m l h : ℕ) (rs : List R) → l ≤ h → h < m → ((r : R) → Contains rs r → lo r ≤ hi r) → ((r : R) → Contains rs r → hi r < m)
      → IsBehind rs → ((r : R) → Contains rs r → (n : ℕ) → n < m → lo r ≤ n → n ≤ hi r → (l ≤ n) × (n ≤ h))
      → ((n : ℕ) → n < m → l ≤ n → n ≤ h → (r : R) × Contains rs r × (lo r ≤ n) × (n ≤ hi r))
      → (r : R) × (rs ≡ r ∷ []) × (lo r ≡ l) × (hi r ≡ h)
  one_alone m l h [] ordered small some fits behind inside found =
      let (r, c, u, v) = found l (omega (arith, ordered, small)) (omega arith) ordered in
      absurd (contains_nothing r c)
  one_alone m l h (r ∷ []) ordered small some fits behind inside found =
      let c = contains_first r [] in
      let only : (n : ℕ) → n < m → l ≤ n → n ≤ h → (lo r ≤ n) × (n ≤ hi r) = λ n lt u v.
      let (t, d, k, m) = found n lt u v in
      elim (contains_cases r t [] d) [
        | inl e ↦ subst (λ z. (lo z ≤ n) × (n ≤ hi z)) (sym e) (k, m)
        | inr none ↦ absurd (contains_nothing t none)
      ] in
      let at_first = only l (omega (arith, ordered, small)) (omega arith) ordered in
      let at_last = only h small ordered (omega arith) in
      let bottom = inside r c (lo r) (omega (arith, some r c, fits r c)) (omega arith) (some r c) in
      let top = inside r c (hi r) (fits r c) (some r c) (omega arith) in
      (r, refl, omega (arith, at_first.0, bottom.0), omega (arith, at_last.1, top.1))
  one_alone m l h (r ∷ s ∷ xs) ordered small some fits behind inside found =
      let c = contains_first r (s ∷ xs) in
      let d = contains_later r s (s ∷ xs) (contains_first s xs) in
      let next : hi r + 1 < lo s = behind 0 r s refl refl in
      let top = inside r c (hi r) (fits r c) (some r c) (omega arith) in
      let bottom = inside s d (lo s) (omega (arith, some s d, fits s d)) (omega arith) (some s d) in
      let (t, k, u, v) = found (hi r + 1) (omega (arith, next, some s d, fits s d)) (omega (arith, top.0)) (omega (arith, next, bottom.1)) in
      elim (contains_cases r t (s ∷ xs) k) [
        | inl e ↦ absurd (omega (arith, subst (λ z. hi r + 1 ≤ hi z) (sym e) v))
        | inr e ↦ absurd (omega (
          arith,
          next,
          u,
          ascend s xs (λ q z. some q (contains_later r q (s ∷ xs) z)) (λ i. behind (suc i)) t e,
        ))
      ]

-- ---- from a first to a last address
upto_longer : (f l a : List Bool) → bit_cmp f l ≢ Greater → BeginsWith a l → Reaches true f a
unfolding Reaches
upto_longer [] l a h b = tt
upto_longer (x ∷ f) [] a h b = absurd (h refl)
upto_longer (x ∷ f) (y ∷ l) [] h b = cc
upto_longer (true ∷ f) (true ∷ l) (true ∷ a) h b = upto_longer f l a h (ap (drop 1) b)
upto_longer (false ∷ f) (false ∷ l) (false ∷ a) h b = upto_longer f l a h (ap (drop 1) b)
upto_longer (false ∷ f) (true ∷ l) (true ∷ a) h b = refl
upto_longer (true ∷ f) (false ∷ l) (z ∷ a) h b = absurd (h refl)
upto_longer (x ∷ f) (true ∷ l) (false ∷ a) h b = absurd (false≢true (ap (λ t. get_or t 0 true) b))
upto_longer (false ∷ f) (false ∷ l) (true ∷ a) h b = absurd (true≢false (ap (λ t. get_or t 0 true) b))

module _ (IsAddress : List Bool → Type 0) (beginless : AreBeginless IsAddress) where
  same_end : (w : ℕ) (up : Bool) (e f : List Bool) → length e ≤ w → length f ≤ w → IsAddress e → IsAddress f
      → number (e ++ replicate (w - length e) up) ≡ number (f ++ replicate (w - length f) up) → e ≡ f
  same_end w up e f se sf ae af same =
      let fe = e ++ replicate (w - length e) up in
      let ff = f ++ replicate (w - length f) up in
      let filled_same : fe ≡ ff = sym (bits-number fe) ∙ ap₂ bits (filled w up e se ∙ sym (filled w up f sf)) same ∙ bits-number ff in
      let be : BeginsWith fe e = take_at e (replicate (w - length e) up) (length e) refl in
      let bf : BeginsWith fe f = subst (λ z. BeginsWith z f) (sym filled_same) (take_at f (replicate (w - length f) up) (length f) refl) in
      elim (cases_lt (length e) (length f)) [
        | inl lt ↦ sym (beginless f e af ae (begins_both fe f e bf be (omega (arith, lt))))
        | inr le ↦ beginless e f ae af (begins_both fe e f be bf le)
      ]

  -- ranges whose ends are addresses
  module _ (w : ℕ) (first last : List Bool) (sf : length first ≤ w) (sl : length last ≤ w) (af : IsAddress first) (al : IsAddress last)
      (ordered : bit_cmp first last ≢ Greater) (rs : List (List Bool × List Bool)) (h : AreRanges w (IsBetween first last) rs)
      (short : (r : List Bool × List Bool) → Contains rs r → IsShort w r) where
    abbrev whole : List Bool × List Bool
    whole = (first, last)

    some_number : (r : List Bool × List Bool) → Contains rs r → low w r ≤ high w r
    some_number r c =
        let (a, la, b) = h.some r c in
        let u = (between_number w r a (short r c) la).0 b in
        omega (arith, u.0, u.1)

    behind : IsBehind (low w) (high w) rs
    behind i r s e k =
        gap_number w r s (short r (i, slice_get_within rs i r e, get_or_from_slice_get rs i r r e))
        (short s (suc i, slice_get_within rs (suc i) s k, get_or_from_slice_get rs (suc i) s s k)) (h.apart i r s e k)

    inside : (r : List Bool × List Bool) → Contains rs r → (n : ℕ) → n < 2 ^ w → low w r ≤ n → n ≤ high w r
        → (low w whole ≤ n) × (n ≤ high w whole)
    inside r c n lt u v =
        let (a, la, e) = listed w n lt in
        let b = (between_number w r a (short r c) la).1 (omega (arith, e, u), omega (arith, e, v)) in
        let k = (between_number w whole a (sf, sl) la).0 ((h.exact a la).1 (r, c, b)) in
        (omega (arith, e, k.0), omega (arith, e, k.1))

    found : (n : ℕ) → n < 2 ^ w → low w whole ≤ n → n ≤ high w whole
        → (r : List Bool × List Bool) × Contains rs r × (low w r ≤ n) × (n ≤ high w r)
    found n lt u v =
        let (a, la, e) = listed w n lt in
        let b = (between_number w whole a (sf, sl) la).1 (omega (arith, e, u), omega (arith, e, v)) in
        let (r, c, k) = (h.exact a la).0 b in
        let m = (between_number w r a (short r c) la).0 k in
        (r, c, omega (arith, e, m.0), omega (arith, e, m.1))

    whole_ordered : low w whole ≤ high w whole
    whole_ordered =
        let a = last_of w last in
        let la = filled w true last sl in
        let b : BeginsWith a last = take_at last (replicate (w - length last) true) (length last) refl in
        let k = (from_low w first a sf la).0 (upto_longer first last a ordered b) in
        let m = (upto_high w last a sl la).0 (edge_reaches last a b).1 in
        omega (arith, k, m)

    pub one_range : ((r : List Bool × List Bool) → Contains rs r → IsAddress r.0 × IsAddress r.1) → rs ≡ (first, last) ∷ []
    one_range ends =
        let (r, is, bottom, top) = one_alone (low w) (high w) (2 ^ w) (low w whole) (high w whole) rs whole_ordered
        (high_fits w whole (sf, sl)) some_number (λ r c. high_fits w r (short r c)) behind inside found in
        let c : Contains rs r = subst (λ xs. Contains xs r) (sym is) (contains_first r []) in
        let a = ends r c in
        let s = short r c in
        let f : r.0 ≡ first = same_end w false r.0 first s.0 sf a.0 af bottom in
        let l : r.1 ≡ last = same_end w true r.1 last s.1 sl a.1 al top in
        is ∙ ap (λ z. z ∷ []) (ap₂ (λ x y. (x, y)) f l)

-- ---- the networks of a set of one range
-- the ends of a range are networks of the set
abbrev AreOf : List (List Bool) → List Bool × List Bool → Type 0
AreOf ps r = Contains ps r.0 × Contains ps r.1

join_of : (p : List Bool) (ps : List (List Bool)) (rs : List (List Bool × List Bool))
    → ((r : List Bool × List Bool) → Contains rs r → AreOf ps r) → (r : List Bool × List Bool) → Contains (join p rs) r → AreOf (p ∷ ps) r
join_of p ps [] h r c =
    let is : join p [] ≡ (p, p) ∷ [] = unfold join in refl in
    elim (contains_cases (p, p) r [] (subst (λ xs. Contains xs r) is c)) [
      | inl e ↦ subst (AreOf (p ∷ ps)) e (contains_first p ps, contains_first p ps)
      | inr none ↦ absurd (contains_nothing r none)
    ]
join_of p ps (x ∷ rs) h r c = elim (true_or (touches p x.0)) [
  | inl touch ↦ elim (contains_cases (p, x.1) r rs (subst (λ xs. Contains xs r) (join_touching p x rs touch) c)) [
    | inl e ↦ subst (AreOf (p ∷ ps)) e (contains_first p ps, contains_later p x.1 ps (h x (contains_first x rs)).1)
    | inr d ↦ let k = h r (contains_later x r rs d) in (contains_later p r.0 ps k.0, contains_later p r.1 ps k.1)
  ]
  | inr apart ↦ elim (contains_cases (p, p) r (x ∷ rs) (subst (λ xs. Contains xs r) (join_apart p x rs apart) c)) [
    | inl e ↦ subst (AreOf (p ∷ ps)) e (contains_first p ps, contains_first p ps)
    | inr d ↦ let k = h r d in (contains_later p r.0 ps k.0, contains_later p r.1 ps k.1)
  ]
]

joined_of : (ps : List (List Bool)) (r : List Bool × List Bool) → Contains (joined_ranges ps) r → AreOf ps r
joined_of [] r c =
    let is : joined_ranges [] ≡ [] = unfold joined_ranges in refl in
    absurd (contains_nothing r (subst (λ xs. Contains xs r) is c))
joined_of (p ∷ ps) r c = join_of p ps (joined_ranges ps) (joined_of ps) r (subst (λ xs. Contains xs r) (joined_more p ps) c)

-- what begins with an address is on one side of another one
one_side : (up : Bool) (e x a b : List Bool) → (BeginsWith e x → BeginsWith x e) → BeginsWith a x → BeginsWith b x → Reaches up e a → Reaches up e b
unfolding Reaches
one_side up [] x a b apart ba bb r = tt
one_side up (y ∷ e) [] a b apart ba bb r = let k = apart refl in cc
one_side up (y ∷ e) (z ∷ x) [] b apart ba bb r = cc
one_side up (y ∷ e) (z ∷ x) (c ∷ a) [] apart ba bb r = cc
one_side up (y ∷ e) (true ∷ x) (false ∷ a) (d ∷ b) apart ba bb r = absurd (false≢true (ap (λ t. get_or t 0 true) ba))
one_side up (y ∷ e) (false ∷ x) (true ∷ a) (d ∷ b) apart ba bb r = absurd (true≢false (ap (λ t. get_or t 0 true) ba))
one_side up (y ∷ e) (true ∷ x) (true ∷ a) (false ∷ b) apart ba bb r = absurd (false≢true (ap (λ t. get_or t 0 true) bb))
one_side up (y ∷ e) (false ∷ x) (false ∷ a) (true ∷ b) apart ba bb r = absurd (true≢false (ap (λ t. get_or t 0 true) bb))
one_side up (true ∷ e) (true ∷ x) (true ∷ a) (true ∷ b) apart ba bb r =
    one_side up e x a b (λ k. ap (drop 1) (apart (ap (λ t. true ∷ t) k))) (ap (drop 1) ba) (ap (drop 1) bb) r
one_side up (false ∷ e) (false ∷ x) (false ∷ a) (false ∷ b) apart ba bb r =
    one_side up e x a b (λ k. ap (drop 1) (apart (ap (λ t. false ∷ t) k))) (ap (drop 1) ba) (ap (drop 1) bb) r
one_side up (true ∷ e) (false ∷ x) (false ∷ a) (false ∷ b) apart ba bb r = r
one_side up (false ∷ e) (true ∷ x) (true ∷ a) (true ∷ b) apart ba bb r = r

module _ (IsAddress : List Bool → Type 0) (beginless : AreBeginless IsAddress) (complete : AreComplete IsAddress) where
  address_fits : (f : List Bool) → IsAddress f → length f ≤ 129
  address_fits f af = elim (cases_lt 129 (length f)) [
    | inl longer ↦
        let a = take 129 f in
        let la : length a ≡ 129 = length-take-le 129 f (omega (arith, longer)) in
        let (x, ax, b) = complete a la in
        let e = beginless f x af ax (begins_begins f a x (begins_first 129 f) b) in
        omega (arith, ap length e, begins_length a x b, la)
    | inr le ↦ le
  ]

  module _ (first last : List Bool) (af : IsAddress first) (al : IsAddress last) (s : List (List Bool)) (h : IsSetOf 129 (IsBetween first last) s) where
    between_beside : (x a b : List Bool) → IsAddress x → length a ≡ 129 → length b ≡ 129 → BeginsWith a x → BeginsWith b x
        → IsBetween first last a → IsBetween first last b
    between_beside x a b ax la lb ba bb k =
        let sf = address_fits first af in
        let sl = address_fits last al in
        let u = (between_reaches first last a (omega (arith, sf, la)) (omega (arith, sl, la))).0 k in
        (between_reaches first last b (omega (arith, sf, lb)) (omega (arith, sl, lb))).1 (
          one_side true first x a b (λ d. subst (BeginsWith x) (sym (beginless first x af ax d)) (begins_itself x)) ba bb u.0,
          one_side false last x a b (λ d. subst (BeginsWith x) (sym (beginless last x al ax d)) (begins_itself x)) ba bb u.1,
        )

    -- each has an address
    has_address : (p : List Bool) → Contains s p → (x : List Bool) × IsAddress x × BeginsWith x p
    has_address p c =
        let m = (h.reduced.members p).0 c in
        elim m.widest [
          | inl none ↦ (first, af, subst (BeginsWith first) (sym none) refl)
          | inr narrow ↦
              let (a, la, b) = some_address p m.within in
              let (x, ax, k) = complete a la in
              elim (cases_lt (length x) (length p)) [
                | inl shorter ↦
                    let inner = parent_begins p x (begins_both a p x b k (omega (arith, shorter))) shorter in
                    absurd (narrow (λ d ld bd. (h.exact d ld).1
                    (between_beside x a d ax la ld k (begins_begins d (parent p) x bd inner) ((h.exact a la).0 (p, c, b)))))
                | inr le ↦ (x, ax, begins_both a x p k b le)
              ]
        ]

    pub range_alone : (F L : List Bool → List Bool) → HaveEnds IsAddress F L
        → ((p : List Bool) → length p ≤ 129 → IsPadded false p (F p) × IsPadded true p (L p)) → bit_cmp first last ≢ Greater
        → AreRanges 129 (Covers s) (map {B = List Bool × List Bool} (λ (r : List Bool × List Bool). (F r.0, L r.1)) (joined_ranges s))
        → map {B = List Bool × List Bool} (λ (r : List Bool × List Bool). (F r.0, L r.1)) (joined_ranges s) ≡ (first, last) ∷ []
    range_alone F L inner law ordered ranges =
        let ends : List Bool × List Bool → List Bool × List Bool = λ r. (F r.0, L r.1) in
        let rs = map ends (joined_ranges s) in
        let addresses : (r : List Bool × List Bool) → Contains rs r → IsAddress r.0 × IsAddress r.1 = λ r c.
        let (x, d, e) = contained_map ends (joined_ranges s) r c in
        let k = joined_of s x d in
        let (a, aa, ba) = has_address x.0 k.0 in
        let (b, ab, bb) = has_address x.1 k.1 in
        subst (λ z. IsAddress z.0 × IsAddress z.1) e ((inner x.0 a aa ba).0, (inner x.1 b ab bb).1) in
        one_range IsAddress beginless 129 first last (address_fits first af) (address_fits last al) af al ordered rs
        (record {
          some = ranges.some;
          exact = λ a la. (
            λ b. (ranges.exact a la).0 ((h.exact a la).1 b),
            λ k. (h.exact a la).0 ((ranges.exact a la).1 k),
          );
          apart = ranges.apart;
        })
        (λ r c. let k = addresses r c in (address_fits r.0 k.0, address_fits r.1 k.1)) addresses
