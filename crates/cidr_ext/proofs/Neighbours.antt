-- The networks of the same length before and behind a network, by steps among all addresses.
use Rattle.std.proofs.Common.{◌≡◌, ℕ, ◌+◌, ◌-◌, ◌*◌, ◌%◌, ◌^◌, ◌<◌, ◌≤◌, Bool, true, false, List, ◌++◌, length, sym, ap, ◌∙◌, subst, arith, inl, inr, IsTrue, ◌↔◌, Option, MatchOption, Result, IfOk}
use Rattle.std.proofs.Math.Nat.{mod-eq_of_lt, add-mod_right, mul-lt-mul_of_pos_right, le_of_mul-le-mul_right, lt_of_mul-lt-mul_right, mul-le-mul_right}
use Rattle.std.proofs.lemmas.Nat.{pow_pos, pow-add}
use Rattle.std.proofs.lemmas.Bool.{cases_lt}
use Rattle.std.proofs.lemmas.List.{length-replicate}
use Rattle.cidr.specs.model.Bits.{bits, number}
use Rattle.std.specs.Result.{result_ok}
use Rattle.cidr.specs.model.Views.{seen}
use Rattle.cidr.specs.declared.errors.NetworkParseError.{NetworkParseError}
use Rattle.cidr.specs.declared.family.Family.{Family}
use Rattle.cidr.specs.model.Host.{Host, host_of, stepped_up, stepped_down, host_part, WrapsUp, WrapsDown}
use Rattle.cidr.specs.model.Network.{width_of, zeros, ones, first_of, network_from}
use Rattle.cidr.specs.laws.BitLaws.{length-bits, number-bits, number-lt, number-append, bits-number, bits-zero, bits-ones, bits-cat}
use Rattle.cidr_ext.specs.model.Subnets.{IsNextNetwork}
use Rattle.cidr_ext.proofs.Indexes.{number-zeros, network_made}

number-first_of : (w : ℕ) (p : List Bool) → number (first_of w p) ≡ number p * 2 ^ (w - length p)
number-first_of w p =
    let k = w - length p in
    let whole : number (p ++ zeros k) ≡ number p * 2 ^ k + number (zeros k) = number-append p (zeros k) ∙ ap (λ n. number p * 2 ^ n + number (zeros k)) (length-replicate k false) in
    omega (arith, number-zeros k)

-- the bits of x networks of n bits, counted from the first of all
counted_bits : (w n x : ℕ) → n ≤ w → x < 2 ^ n → bits (w - 0) (x * 2 ^ (w - n) % 2 ^ (w - 0)) ≡ bits n x ++ zeros (w - n)
counted_bits w n x within h =
    let k = w - n in
    let sum : w - 0 ≡ n + k = omega arith in
    let scaled : x * 2 ^ k < 2 ^ (n + k) = rw (pow-add 2 n k) (mul-lt-mul_of_pos_right h (pow_pos k)) in
    let low : x * 2 ^ k % 2 ^ (n + k) ≡ x * 2 ^ k + 0 = mod-eq_of_lt scaled ∙ (let e : x * 2 ^ k ≡ x * 2 ^ k + 0 = omega arith in e) in
    rw sum (ap (bits (n + k)) low ∙ bits-cat n k x 0 (pow_pos k) ∙ ap (λ t. bits n x ++ t) (bits-zero k))

module _ (w : ℕ) (p : List Bool) (within : length p ≤ w) where
  whole_part : host_part (host_of (first_of w p) 0) ≡ number p * 2 ^ (w - length p)
  whole_part = number-first_of w p

  powers : 2 ^ (w - 0) ≡ 2 ^ length p * 2 ^ (w - length p)
  powers = let sum : w - 0 ≡ length p + (w - length p) = omega arith in ap (λ n. 2 ^ n) sum ∙ pow-add 2 (length p) (w - length p)

  one_more : number p * 2 ^ (w - length p) + 2 ^ (w - length p) ≡ (number p + 1) * 2 ^ (w - length p)
  one_more = omega arith

  pub last_wraps : WrapsUp w (host_of (first_of w p) 0) (2 ^ (w - length p)) → p ≡ ones (length p)
  last_wraps h =
      let reached : 2 ^ length p * 2 ^ (w - length p) ≤ (number p + 1) * 2 ^ (w - length p) = omega (arith, h, whole_part, powers, one_more) in
      let top : 2 ^ length p ≤ number p + 1 = le_of_mul-le-mul_right reached (pow_pos (w - length p)) in
      let below = number-lt p in
      let last : number p ≡ 2 ^ length p - 1 = omega arith in
      sym (bits-number p) ∙ ap (bits (length p)) last ∙ bits-ones (length p)

  next_fits : ¬ (WrapsUp w (host_of (first_of w p) 0) (2 ^ (w - length p))) → number p + 1 < 2 ^ length p
  next_fits h = elim (cases_lt (number p + 1) (2 ^ length p)) [
    | inl below ↦ below
    | inr top ↦
        let scaled : 2 ^ length p * 2 ^ (w - length p) ≤ (number p + 1) * 2 ^ (w - length p) = mul-le-mul_right (2 ^ (w - length p)) top in
        absurd (h (omega (arith, whole_part, powers, one_more)))
  ]

  pub next_address : ¬ (WrapsUp w (host_of (first_of w p) 0) (2 ^ (w - length p)))
      → (stepped_up w (host_of (first_of w p) 0) (2 ^ (w - length p))).address ≡ bits (length p) (number p + 1) ++ zeros (w - length p)
  next_address h =
      let sum : host_part (host_of (first_of w p) 0) + 2 ^ (w - length p) ≡ (number p + 1) * 2 ^ (w - length p) = omega (arith, whole_part, one_more) in
      ap (λ x. bits (w - 0) (x % 2 ^ (w - 0))) sum ∙ counted_bits w (length p) (number p + 1) within (next_fits h)

  pub is_next : ¬ (WrapsUp w (host_of (first_of w p) 0) (2 ^ (w - length p))) → IsNextNetwork p (bits (length p) (number p + 1))
  is_next h = (length-bits (length p) (number p + 1), number-bits (length p) (number p + 1) (next_fits h))

  pub first_wraps : WrapsDown (host_of (first_of w p) 0) (2 ^ (w - length p)) → p ≡ zeros (length p)
  first_wraps h =
      let short : number p * 2 ^ (w - length p) < 1 * 2 ^ (w - length p) = omega (arith, h, whole_part) in
      let below : number p < 1 = lt_of_mul-lt-mul_right (2 ^ (w - length p)) short in
      let none : number p ≡ 0 = omega arith in
      sym (bits-number p) ∙ ap (bits (length p)) none ∙ bits-zero (length p)

  not_first : ¬ (WrapsDown (host_of (first_of w p) 0) (2 ^ (w - length p))) → 0 < number p
  not_first h = elim (cases_lt 0 (number p)) [
    | inl more ↦ more
    | inr none ↦
        let zero : number p ≡ 0 = omega arith in
        let part : number p * 2 ^ (w - length p) ≡ 0 * 2 ^ (w - length p) = ap (λ x. x * 2 ^ (w - length p)) zero in
        absurd (h (omega (arith, whole_part, pow_pos (w - length p))))
  ]

  one_less : 0 < number p → number p * 2 ^ (w - length p) ≡ (number p - 1) * 2 ^ (w - length p) + 2 ^ (w - length p)
  one_less more = let e : number p ≡ (number p - 1) + 1 = omega arith in
      ap (λ x. x * 2 ^ (w - length p)) e ∙ (let s : ((number p - 1) + 1) * 2 ^ (w - length p) ≡ (number p - 1) * 2 ^ (w - length p) + 2 ^ (w - length p) = omega arith in s)

  -- the step back is less than all addresses
  step_within : 0 < number p → 2 ^ (w - length p) < 2 ^ (w - 0)
  step_within more =
      let below = number-lt p in
      let two : 2 ≤ 2 ^ length p = omega arith in
      let scaled : 2 * 2 ^ (w - length p) ≤ 2 ^ length p * 2 ^ (w - length p) = mul-le-mul_right (2 ^ (w - length p)) two in
      omega (arith, powers, pow_pos (w - length p))

  back_sum : 0 < number p → (host_part (host_of (first_of w p) 0) + (2 ^ (w - 0) - 2 ^ (w - length p) % 2 ^ (w - 0))) % 2 ^ (w - 0)
      ≡ (number p - 1) * 2 ^ (w - length p) % 2 ^ (w - 0)
  back_sum more =
      let low : 2 ^ (w - length p) % 2 ^ (w - 0) ≡ 2 ^ (w - length p) = mod-eq_of_lt (step_within more) in
      let smaller = step_within more in
      let sum : host_part (host_of (first_of w p) 0) + (2 ^ (w - 0) - 2 ^ (w - length p)) ≡ (number p - 1) * 2 ^ (w - length p) + 2 ^ (w - 0) =
      omega (arith, whole_part, one_less more) in
      ap (λ x. (host_part (host_of (first_of w p) 0) + (2 ^ (w - 0) - x)) % 2 ^ (w - 0)) low ∙ ap (λ x. x % 2 ^ (w - 0)) sum
      ∙ add-mod_right ((number p - 1) * 2 ^ (w - length p)) (2 ^ (w - 0))

  pub previous_address : ¬ (WrapsDown (host_of (first_of w p) 0) (2 ^ (w - length p)))
      → (stepped_down w (host_of (first_of w p) 0) (2 ^ (w - length p))).address ≡ bits (length p) (number p - 1) ++ zeros (w - length p)
  previous_address h =
      let more = not_first h in
      let below = number-lt p in
      ap (bits (w - 0)) (back_sum more) ∙ counted_bits w (length p) (number p - 1) within (omega arith)

  pub is_previous : ¬ (WrapsDown (host_of (first_of w p) 0) (2 ^ (w - length p))) → IsNextNetwork (bits (length p) (number p - 1)) p
  is_previous h =
      let more = not_first h in
      let below = number-lt p in
      let value : number (bits (length p) (number p - 1)) ≡ number p - 1 = number-bits (length p) (number p - 1) (omega arith) in
      (sym (length-bits (length p) (number p - 1)), omega arith)

-- ---- as a program takes the steps
module _ {C : Type 0} (family_of : C → Family) (prefix : C → List Bool) (f : Family) (p : List Bool) (within : length p ≤ width_of f)
    (step : ℕ) (host stepped : Host) (f1 f2 f3 : Family) (wraps : Bool) (s : step ≡ 2 ^ (width_of f - length p))
    (one : f1 ≡ f) (at : host ≡ host_of (first_of (width_of f) p) 0) (two : f2 ≡ f1) where
  moved : (go : ℕ → Host → ℕ → Host) → go (width_of f1) host step ≡ go (width_of f) (host_of (first_of (width_of f) p) 0) (2 ^ (width_of f - length p))
  moved go = ap (λ g. go (width_of g) host step) one ∙ ap (λ x. go (width_of f) x step) at
      ∙ ap (λ x. go (width_of f) (host_of (first_of (width_of f) p) 0) x) s

  told : (W : ℕ → Host → ℕ → Type 0) → (IsTrue wraps ↔ W (width_of f1) host step)
      → IsTrue wraps ↔ W (width_of f) (host_of (first_of (width_of f) p) 0) (2 ^ (width_of f - length p))
  told W tells =
      subst (λ x. IsTrue wraps ↔ W (width_of f) (host_of (first_of (width_of f) p) 0) x) s
      (subst (λ x. IsTrue wraps ↔ W (width_of f) x step) at (subst (λ g. IsTrue wraps ↔ W (width_of g) host step) one tells))

  goes_on : (W : ℕ → Host → ℕ → Type 0) → (IsTrue wraps ↔ W (width_of f1) host step) → wraps ≡ false
      → ¬ (W (width_of f) (host_of (first_of (width_of f) p) 0) (2 ^ (width_of f - length p)))
  goes_on W tells not h = let t : wraps ≡ true = (told W tells).1 h in cc

  pub is_last : (IsTrue wraps ↔ WrapsUp (width_of f1) host step) → wraps ≡ true → p ≡ ones (length p)
  is_last tells h = last_wraps (width_of f) p within ((told WrapsUp tells).0 h)

  pub is_first : (IsTrue wraps ↔ WrapsDown host step) → wraps ≡ true → p ≡ zeros (length p)
  is_first tells h = first_wraps (width_of f) p within ((told (λ w. WrapsDown) tells).0 h)

  pub next_made : (n : ℕ) (a : List Bool) (r : Result C NetworkParseError) (o : Option C)
      → n ≡ length p → stepped ≡ stepped_up (width_of f1) host step → (IsTrue wraps ↔ WrapsUp (width_of f1) host step) → wraps ≡ false → f3 ≡ f2
      → a ≡ stepped.address → seen prefix r ≡ network_from f3 a n → IfOk r (λ c. family_of c ≡ f3) → o ≡ result_ok r
      → MatchOption o (p ≡ ones (length p)) (λ c. (family_of c ≡ f) × IsNextNetwork p (prefix c))
  next_made n a r o len going tells not three by made same ok =
      let some = goes_on WrapsUp tells not in
      let q = bits (length p) (number p + 1) in
      let address : a ≡ q ++ zeros (width_of f - length p) =
      by ∙ ap (λ x. x.address) (going ∙ moved stepped_up) ∙ next_address (width_of f) p within some in
      network_made family_of prefix f (length p) q f3 a r o (length-bits (length p) (number p + 1)) within address (three ∙ two ∙ one)
      (made ∙ ap (network_from f3 a) len) same ok (p ≡ ones (length p)) (λ c. (family_of c ≡ f) × IsNextNetwork p (prefix c))
      (λ c is bits_are. (is, rw bits_are (is_next (width_of f) p within some)))

  pub previous_made : (n : ℕ) (a : List Bool) (r : Result C NetworkParseError) (o : Option C)
      → n ≡ length p → stepped ≡ stepped_down (width_of f1) host step → (IsTrue wraps ↔ WrapsDown host step) → wraps ≡ false → f3 ≡ f2
      → a ≡ stepped.address → seen prefix r ≡ network_from f3 a n → IfOk r (λ c. family_of c ≡ f3) → o ≡ result_ok r
      → MatchOption o (p ≡ zeros (length p)) (λ c. (family_of c ≡ f) × IsNextNetwork (prefix c) p)
  previous_made n a r o len going tells not three by made same ok =
      let some = goes_on (λ w. WrapsDown) tells not in
      let q = bits (length p) (number p - 1) in
      let address : a ≡ q ++ zeros (width_of f - length p) =
      by ∙ ap (λ x. x.address) (going ∙ moved stepped_down) ∙ previous_address (width_of f) p within some in
      network_made family_of prefix f (length p) q f3 a r o (length-bits (length p) (number p - 1)) within address (three ∙ two ∙ one)
      (made ∙ ap (network_from f3 a) len) same ok (p ≡ zeros (length p)) (λ c. (family_of c ≡ f) × IsNextNetwork (prefix c) p)
      (λ c is bits_are. (is, rw bits_are (is_previous (width_of f) p within some)))
