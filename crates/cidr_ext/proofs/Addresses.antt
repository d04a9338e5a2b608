-- Addresses of a network by their index, and its host mask.
use Rattle.std.proofs.Common.{◌≡◌, ◌↔◌, ℕ, ◌+◌, ◌-◌, ◌*◌, ◌%◌, ◌^◌, ◌<◌, ◌≤◌, Bool, true, false, List, ◌++◌, length, take, drop, refl, sym, ap, ap₂, ◌∙◌, arith, subst, IsTrue, Result, Ok, Err, IfOk, take_at, zero-add, take-append-drop, length-drop}
use Rattle.std.proofs.Math.Nat.{mod-eq_of_lt}
use Rattle.std.proofs.lemmas.List.{length-replicate, replicate-append-replicate}
use Rattle.std.specs.Result.{IsOk}
use Rattle.cidr.specs.model.Bits.{bits, number}
use Rattle.cidr.specs.model.Views.{seen}
use Rattle.cidr.specs.model.Host.{Host, first_host, stepped_up, host_part, host_of, network_of, WrapsUp}
use Rattle.cidr.specs.model.Network.{width_of, zeros, ones, first_of, last_of, network_from, BeginsWith}
use Rattle.cidr.specs.laws.BitLaws.{number-lt, number-append, bits-number}
use Rattle.cidr.specs.declared.errors.NetworkParseError.{NetworkParseError}
use Rattle.cidr.specs.declared.family.Family.{Family}
use Rattle.cidr_ext.specs.model.Inside.{IsAddressAt, host_mask_of}
use Rattle.cidr_ext.proofs.Indexes.{number-zeros, from_first, made_of}

module _ (w i : ℕ) (p : List Bool) where
  part_zero : host_part (first_host w p) ≡ 0
  part_zero = from_first w p

  past : WrapsUp w (first_host w p) i → 2 ^ (w - length p) ≤ i
  past h = omega (arith, h, part_zero)

  before : ¬ (WrapsUp w (first_host w p) i) → i < 2 ^ (w - length p)
  before h = omega (arith, h, part_zero)

  stepped_here : i < 2 ^ (w - length p) → (stepped_up w (first_host w p) i).address ≡ p ++ bits (w - length p) i
  stepped_here h =
      let left : (host_part (first_host w p) + i) % 2 ^ (w - length p) ≡ i =
      ap (λ x. (x + i) % 2 ^ (w - length p)) part_zero ∙ ap (λ x. x % 2 ^ (w - length p)) (zero-add i) ∙ mod-eq_of_lt h in
      ap (λ x. take (length p) (first_of w p) ++ bits (w - length p) x) left
      ∙ ap (λ t. t ++ bits (w - length p) i) (take_at p (zeros (w - length p)) (length p) refl)

-- ---- as a program takes the step
module _ (f f1 : Family) (p : List Bool) (i : ℕ) (host : Host) (wraps : Bool) (one : f1 ≡ f) (at : host ≡ first_host (width_of f) p)
    (tells : IsTrue wraps ↔ WrapsUp (width_of f1) host i) where
  told : IsTrue wraps ↔ WrapsUp (width_of f) (first_host (width_of f) p) i
  told = subst (λ x. IsTrue wraps ↔ WrapsUp (width_of f) x i) at (subst (λ g. IsTrue wraps ↔ WrapsUp (width_of g) host i) one tells)

  pub address_past : wraps ≡ true → 2 ^ (width_of f - length p) ≤ i
  address_past h = past (width_of f) i p (told.0 h)

  pub address_at : wraps ≡ false → (stepped : Host) (f2 f3 : Family) (a : List Bool) → f2 ≡ f1 → stepped ≡ stepped_up (width_of f1) host i
      → f3 ≡ f2 → a ≡ stepped.address → (f3 ≡ f) × (IsAddressAt (width_of f) p i a)
  address_at h stepped f2 f3 a two up three by =
      let some : ¬ (WrapsUp (width_of f) (first_host (width_of f) p) i) = λ k. let t : wraps ≡ true = told.1 k in cc in
      let below = before (width_of f) i p some in (
        three ∙ two ∙ one,
        (
          below,
          by ∙ ap (λ x. x.address) (up ∙ ap (λ g. stepped_up (width_of g) host i) one ∙ ap (λ x. stepped_up (width_of f) x i) at)
              ∙ stepped_here (width_of f) i p below,
        ),
      )

-- ---- the index of an address
module _ (w : ℕ) (p a : List Bool) (within : length p ≤ w) (size : length a ≡ w) (begins : BeginsWith a p) where
  rest : List Bool
  rest = drop (length p) a

  length-rest : length rest ≡ w - length p
  unfolding rest
  length-rest = omega (arith, length-drop (length p) a)

  whole : a ≡ p ++ rest
  unfolding rest
  whole = sym (take-append-drop (length p) a) ∙ ap (λ t. t ++ drop (length p) a) begins

  number-whole : number a ≡ number p * 2 ^ (w - length p) + number rest
  number-whole = ap number whole ∙ number-append p rest ∙ ap (λ n. number p * 2 ^ n + number rest) length-rest

  number-first : number (first_of w p) ≡ number p * 2 ^ (w - length p)
  number-first =
      let k = w - length p in
      let sum : number (p ++ zeros k) ≡ number p * 2 ^ k + number (zeros k) = number-append p (zeros k) ∙ ap (λ n. number p * 2 ^ n + number (zeros k)) (length-replicate k false) in
      omega (arith, number-zeros k)

  pub not_below : number (first_of w p) ≤ number a
  not_below = omega (arith, number-first, number-whole)

  pub is_at : IsAddressAt w p (number a - number (first_of w p)) a
  is_at =
      let index : number a - number (first_of w p) ≡ number rest = omega (arith, number-first, number-whole) in
      let below : number rest < 2 ^ (w - length p) = rw (sym length-rest) (number-lt rest) in
      let tail : bits (w - length p) (number rest) ≡ rest = ap (λ k. bits k (number rest)) (sym length-rest) ∙ bits-number rest in
      rw index (below, whole ∙ ap (λ t. p ++ t) (sym tail))

-- as a program asks for it
module _ (f g h : Family) (p a first : List Bool) (n m : ℕ) (inside : Bool) (tells : IsTrue inside ↔ ((g ≡ f) × BeginsWith a p)) (is : inside ≡ true)
    (value : n ≡ number a) (size : length a ≡ width_of g) (start : first ≡ first_of (width_of f) p) (low : m ≡ number first) (within : length p ≤ width_of f) where
  sized : length a ≡ width_of f
  sized = size ∙ ap width_of (tells.0 is).0

  from_start : m ≡ number (first_of (width_of f) p)
  from_start = low ∙ ap number start

  pub position_fits : m ≤ n
  position_fits = omega (arith, not_below (width_of f) p a within sized (tells.0 is).1, from_start)

  pub position_at : (g ≡ f) × (IsAddressAt (width_of f) p (n - m) a)
  position_at =
      let same : n - m ≡ number a - number (first_of (width_of f) p) = ap₂ (λ x y. x - y) value from_start in
      ((tells.0 is).0, rw same (is_at (width_of f) p a within sized (tells.0 is).1))

-- ---- the host mask
-- the network of as many zeros as a network has bits, made of the first of all addresses
module _ {C : Type 0} (family_of : C → Family) (prefix : C → List Bool) (f f0 g : Family) (p : List Bool) (host : Host) (z : List Bool) (n : ℕ)
    (r : Result C NetworkParseError) (same : f0 ≡ f) (at : host ≡ host_of (first_of (width_of f) p) 0)
    (first : z ≡ first_of (width_of f0) (network_of host)) (family : g ≡ f0) (len : n ≡ length p) (within : n ≤ width_of f)
    (made : seen prefix r ≡ network_from g z n) where
  all_zero : z ≡ zeros (length p) ++ zeros (width_of f - length p)
  all_zero =
      let sum : width_of f - 0 ≡ length p + (width_of f - length p) = omega arith in
      first ∙ ap (λ g. first_of (width_of g) (network_of host)) same ∙ ap (λ h. first_of (width_of f) (network_of h)) at
      ∙ ap zeros sum ∙ sym (replicate-append-replicate (length p) (width_of f - length p) false)

  zero_network : seen prefix r ≡ Ok (zeros (length p))
  zero_network =
      made ∙ ap (λ g. network_from g z n) (family ∙ same) ∙ ap (network_from f z) len ∙ ap (λ x. network_from f x (length p)) all_zero
      ∙ made_of f (zeros (length p)) (length p) (length-replicate (length p) false) (omega arith)

  pub is_made : IsOk r
  is_made = ok_seen r zero_network
    where
      ok_seen : (r : Result C NetworkParseError) → seen prefix r ≡ Ok (zeros (length p)) → IsOk r
      ok_seen (Ok c) e = refl
      ok_seen (Err x) e = cc

  pub mask_made : (c : C) → r ≡ Ok c → IfOk r (λ c. family_of c ≡ g) → (a : List Bool) → a ≡ last_of (width_of (family_of c)) (prefix c)
      → a ≡ host_mask_of (width_of f) p
  mask_made c e kept a last =
      let bits_are : prefix c ≡ zeros (length p) = (let s : Ok (prefix c) ≡ Ok (zeros (length p)) = sym (ap (seen prefix) e) ∙ zero_network in cc) in
      let of_c : family_of c ≡ g = rw e at kept in
      let width : width_of (family_of c) ≡ width_of f = ap width_of (of_c ∙ family ∙ same) in
      last ∙ ap₂ last_of width bits_are ∙ ap (λ k. zeros (length p) ++ ones (width_of f - k)) (length-replicate (length p) false)
