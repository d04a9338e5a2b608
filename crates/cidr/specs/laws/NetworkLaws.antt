-- The bits of a network and its first address tell each other.
use Rattle.std.proofs.Common.{◌≡◌, ℕ, ◌-◌, ◌≤◌, Bool, false, List, length, take, drop, arith, ap, ◌∙◌, take_at, drop_at, take-append-drop, length-take-le, length-append}
use Rattle.std.proofs.lemmas.List.{length-replicate}
use Rattle.cidr.specs.model.Network.{zeros, first_of}

pub length-take-within : (w k : ℕ) (a : List Bool) → k ≤ w → length a ≡ w → length (take k a) ≡ k
length-take-within w k a h e = length-take-le k a (omega arith)

-- the address of a network is its first one
pub first_of-take : (w k : ℕ) (a : List Bool) → k ≤ w → length a ≡ w → drop k a ≡ zeros (w - k) → first_of w (take k a) ≡ a
first_of-take w k a h e z =
    let l = length-take-within w k a h e in
    rw (l, ← z) (take-append-drop k a)

pub length-first_of : (w : ℕ) (p : List Bool) → length p ≤ w → length (first_of w p) ≡ w
length-first_of w p h = omega (arith, length-append p (zeros (w - length p)), length-replicate (w - length p) false)

-- the first address of the network of an address's first k bits
module _ (w k : ℕ) (a : List Bool) (h : k ≤ w) (e : length a ≡ w) where
  pub length-first_in : length (first_of w (take k a)) ≡ w
  length-first_in = length-first_of w (take k a) (omega (arith, length-take-within w k a h e))

  pub take-first_in : take k (first_of w (take k a)) ≡ take k a
  take-first_in = take_at (take k a) (zeros (w - length (take k a))) k (length-take-within w k a h e)

  pub drop-first_in : drop k (first_of w (take k a)) ≡ zeros (w - k)
  drop-first_in =
      let l = length-take-within w k a h e in
      drop_at (take k a) (zeros (w - length (take k a))) k l ∙ ap (λ n. zeros (w - n)) l

pub ruleset first_in_laws = (length-first_in, take-first_in, drop-first_in)

pub ruleset taken_laws = (length-take-within)
