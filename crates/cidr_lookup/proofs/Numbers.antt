-- Networks by the numbers of their addresses: they are apart or one in the other.
use Rattle.std.proofs.Common.{◌≡◌, sym, subst, ◌∙◌, ap, arith, inl, inr, add-one, Option, Some, None, ℕ, zero, suc, List, length, get_or, ◌+◌, ◌-◌, ◌*◌, ◌/◌, ◌%◌, ◌^◌, ◌<◌, ◌≤◌}
use Rattle.std.proofs.lemmas.Bool.{cases_eq, cases_lt}
use Rattle.std.proofs.lemmas.List.{get_or-map, length-map}
use Rattle.std.proofs.lemmas.Nat.{pow_pos, pow-add, mod-pow-add, div-add-mod', mul-le, mod-mul-add, shr_high}
use Rattle.cidr_lookup.specs.Keys.{AreNetworksUpTo, IsFirstRefused, IsNetwork, Precedes, key_networks}
use Rattle.cidr_lookup.specs.Passing.{IsNext, last_number_in}
use Rattle.cidr_lookup.specs.declared.key.Key.{Key}
use Rattle.std.specs.Option.{MatchOption}

-- one multiple more is no further than the next
pub multiples : (s x y : ℕ) → x % s ≡ 0 → y % s ≡ 0 → x < y → x + s ≤ y
multiples s x y mx my lt =
    let a = x / s in
    let b = y / s in
    let ex : a * s ≡ x = omega (arith, div-add-mod' x s, mx) in
    let ey : b * s ≡ y = omega (arith, div-add-mod' y s, my) in
    elim (cases_lt a b) [
      | inl less ↦
          let more : (a + 1) * s ≤ b * s = mul-le (a + 1) s b s (omega arith) (omega arith) in
          omega (arith, more)
      | inr le ↦ absurd (omega (arith, mul-le b s a s le (omega arith)))
    ]

-- a multiple of more is one of less
pub divides : (j k x : ℕ) → k ≤ j → x % 2 ^ j ≡ 0 → x % 2 ^ k ≡ 0
divides j k x le m =
    let e : j - k + k ≡ j = omega arith in
    let split : x % 2 ^ j ≡ (x / 2 ^ k % 2 ^ (j - k)) * 2 ^ k + x % 2 ^ k = ap (λ i. x % 2 ^ i) (sym e) ∙ mod-pow-add x (j - k) k in
    omega (arith, split, m)

-- and so is one with a power more
pub next_multiple : (j k x : ℕ) → k ≤ j → x % 2 ^ j ≡ 0 → (x + 2 ^ j) % 2 ^ k ≡ 0
next_multiple j k x le m =
    let s = 2 ^ k in
    let q = x / s in
    let r = 2 ^ (j - k) in
    let ex : q * s ≡ x = omega (arith, div-add-mod' x s, divides j k x le m) in
    let parts : j ≡ j - k + k = omega arith in
    let ej : 2 ^ j ≡ r * s = ap (λ i. 2 ^ i) parts ∙ pow-add 2 (j - k) k in
    let sum : x + 2 ^ j ≡ (q + r) * s + 0 = omega (arith, ex, ej) in
    ap (λ n. n % s) sum ∙ mod-mul-add (q + r) s 0 (pow_pos k)

-- a network ends within the addresses
pub ends_within : (w : ℕ) (a : ℕ × ℕ) → IsNetwork w a → a.0 + 2 ^ (w - a.1) ≤ 2 ^ w
ends_within w a n =
    let s = 2 ^ (w - a.1) in
    let sum : 2 ^ w ≡ 0 + 2 ^ w = omega arith in
    let all : 2 ^ w % s ≡ 0 = ap (λ x. x % s) sum ∙ next_multiple w (w - a.1) 0 (omega arith) (omega (arith, pow_pos w)) in
    multiples s a.0 (2 ^ w) n.host all n.within

-- of two that ascend, the later lies in the earlier, and is longer, or is behind it
pub nests : (w : ℕ) (a b : ℕ × ℕ) → IsNetwork w a → IsNetwork w b → Precedes a b → b.0 ≤ last_number_in w a
    → (a.1 < b.1) × (last_number_in w b ≤ last_number_in w a)
nests w a b na nb order touch =
    let some_a : 0 < 2 ^ (w - a.1) = pow_pos (w - a.1) in
    let some_b : 0 < 2 ^ (w - b.1) = pow_pos (w - b.1) in
    elim (cases_lt a.1 b.1) [
      | inl longer ↦
          let top = next_multiple (w - a.1) (w - b.1) a.0 (omega arith) na.host in
          let ends = multiples (2 ^ (w - b.1)) b.0 (a.0 + 2 ^ (w - a.1)) nb.host top (omega arith) in
          (longer, omega (arith, ends))
      | inr shorter ↦
          let m : b.0 % 2 ^ (w - a.1) ≡ 0 = divides (w - b.1) (w - a.1) b.0 (omega (arith, nb.fits, na.fits)) nb.host in
          elim order [
            | inl lt ↦ absurd (omega (arith, multiples (2 ^ (w - a.1)) a.0 b.0 na.host m lt))
            | inr same ↦ absurd (omega (arith, same.1))
          ]
    ]

-- the order is transitive
pub precedes_all : (a b c : ℕ × ℕ) → Precedes a b → Precedes b c → Precedes a c
precedes_all a b c (inl x) (inl y) = inl (omega arith)
precedes_all a b c (inl x) (inr y) = inl (omega (arith, y.0))
precedes_all a b c (inr x) (inl y) = inl (omega (arith, x.0))
precedes_all a b c (inr x) (inr y) = inr (x.0 ∙ y.0, omega (arith, x.1, y.1))

-- the later begins no earlier
pub no_earlier : (a b : ℕ × ℕ) → Precedes a b → a.0 ≤ b.0
no_earlier a b (inl lt) = omega arith
no_earlier a b (inr same) = omega (arith, same.0)

-- the number of the bits that are set behind the first k
pub all_set : (w k : ℕ) → k ≤ w → (2 ^ w - 1) / 2 ^ k ≡ 2 ^ (w - k) - 1
all_set w k le =
    let d = w - k in
    let split : 2 ^ w ≡ 2 ^ d * 2 ^ k = ap (λ n. 2 ^ n) (back w k le) ∙ pow-add 2 d k in
    let pos : 0 < 2 ^ k = pow_pos k in
    let some : 0 < 2 ^ d = pow_pos d in
    let rest : (2 ^ d - 1) * 2 ^ k + 2 ^ k ≡ 2 ^ d * 2 ^ k = one_row (2 ^ d) (2 ^ k) some in
    let e : 2 ^ w - 1 ≡ (2 ^ d - 1) * 2 ^ k + (2 ^ k - 1) = omega (arith, split, rest) in
    ap (λ n. n / 2 ^ k) e ∙ shr_high (2 ^ d - 1) k (2 ^ k - 1) (omega arith)
  where
    back : (w k : ℕ) → k ≤ w → w ≡ w - k + k
    back w k le = omega arith

    one_row : (a b : ℕ) → 0 < a → (a - 1) * b + b ≡ a * b
    one_row a b h =
        let c = a - 1 in
        let e : a ≡ c + 1 = omega arith in
        let m : a * b ≡ c * b + b = ap (λ t. t * b) e ∙ omega arith in
        sym m

-- one network more
pub networks_more : (w : ℕ) (networks : List (ℕ × ℕ)) (bound : ℕ) → AreNetworksUpTo w networks bound → IsNetwork w (get_or networks bound (0, 0))
    → (0 < bound → Precedes (get_or networks (bound - 1) (0, 0)) (get_or networks bound (0, 0))) → AreNetworksUpTo w networks (bound + 1)
networks_more w networks bound known new order = record {
  each = λ i l. elim (cases_eq i bound) [
    | inl e ↦ subst (λ j. IsNetwork w (get_or networks j (0, 0))) (sym e) new
    | inr n ↦ known.each i (omega arith)
  ];
  ascending = λ i k lt l. elim (cases_eq k bound) [
    | inl e ↦
        let last = order (omega arith) in
        let after : Precedes (get_or networks i (0, 0)) (get_or networks bound (0, 0)) = elim (cases_eq i (bound - 1)) [
          | inl same ↦ subst (λ j. Precedes (get_or networks j (0, 0)) (get_or networks bound (0, 0))) (sym same) last
          | inr n ↦ precedes_all (get_or networks i (0, 0)) (get_or networks (bound - 1) (0, 0)) (get_or networks bound (0, 0)) (known.ascending i (bound - 1) (omega arith) (omega arith)) last
        ] in
        subst (λ j. Precedes (get_or networks i (0, 0)) (get_or networks j (0, 0))) (sym e) after
    | inr n ↦ known.ascending i k lt (omega arith)
  ];
}

-- the network of a key
pub length_networks : {W : Type 0} (value : W → ℕ) (keys : List (Key W)) → length (key_networks value keys) ≡ length keys
length_networks {W} value keys = length-map keys (λ (k : Key W). (value k.address, k.len))

pub network_at : {W : Type 0} (value : W → ℕ) (keys : List (Key W)) (j : ℕ) (key : Key W) → key ≡ get_or keys j key → j < length keys
    → get_or (key_networks value keys) j (0, 0) ≡ (value key.address, key.len)
network_at {W} value keys j key is l =
    let f : Key W → ℕ × ℕ = λ k. (value k.address, k.len) in
    get_or-map f keys j key (0, 0) l ∙ ap f (sym is)

-- the first that isn't next
module _ (w : ℕ) (networks : List (ℕ × ℕ)) where
  all_next : (n : ℕ) → ((i : ℕ) → 0 ≤ i → i < n → IsNext w networks i) → AreNetworksUpTo w networks n
  all_next zero each = record { each = λ i l. absurd (omega arith); ascending = λ i k lt l. absurd (omega arith) }
  all_next (suc n) each =
      let last = each n (omega arith) (omega arith) in
      subst (AreNetworksUpTo w networks) (add-one n)
      (networks_more w networks n (all_next n (λ i low less. each i low (omega arith))) last.network last.behind)

  pub first_refused_is : (count : ℕ) → count ≡ length networks → (index : Option ℕ)
      → MatchOption index ((i : ℕ) → 0 ≤ i → i < count → IsNext w networks i)
      (λ n. (0 ≤ n) × (n < count) × (¬ (IsNext w networks n)) × ((i : ℕ) → 0 ≤ i → i < n → IsNext w networks i))
      → IsFirstRefused w networks index
  first_refused_is count same None all = subst (AreNetworksUpTo w networks) same (all_next count all)
  first_refused_is count same (Some n) (low, within, other, before) = (
    omega arith,
    all_next n before,
    λ more. other (record {
      network = more.each n (omega arith);
      behind = λ some. more.ascending (n - 1) n (omega arith) (omega arith);
    }),
  )
