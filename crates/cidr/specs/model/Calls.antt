-- What any calls at the two ends of a walk give, as a whole: only its items, none twice, from the ends inwards, and each
-- after enough calls.
use Rattle.std.specs.Prelude.{◌≡◌, ℕ, ◌<◌, List, Option, Some}
use Rattle.std.specs.List.{Contains, slice_get}
use Rattle.cidr.specs.declared.inet_iterator.driving.End.{End}
use Rattle.cidr.specs.declared.inet_iterator.driving.End.TheVariants.{Front, Back}

-- no item stands at two indexes
abbrev pub HasOnce : {X : Type 0} → List X → Type 0
HasOnce {X} items = (i j : ℕ) (x : X) → slice_get items i ≡ Some x → slice_get items j ≡ Some x → i ≡ j

-- each item that a call gives is one of these
abbrev pub GivesOnly : {X : Type 0} → List X → List (Option X) → Type 0
GivesOnly {X} items answers = (k : ℕ) (x : X) → slice_get answers k ≡ Some (Some x) → Contains items x

-- no two calls give the same item
abbrev pub GivesOnce : {X : Type 0} → List (Option X) → Type 0
GivesOnce {X} answers = (j k : ℕ) (x : X) → slice_get answers j ≡ Some (Some x) → slice_get answers k ≡ Some (Some x) → j ≡ k

-- what a call at the front gives stands before all that later calls give, and what one at the back stands after it
abbrev pub GivesInward : {X : Type 0} → List X → List End → List (Option X) → Type 0
GivesInward {X} items ends answers = (j k : ℕ) (x y : X) → j < k → slice_get answers j ≡ Some (Some x) → slice_get answers k ≡ Some (Some y)
    → (m : ℕ) × (n : ℕ) × (slice_get items m ≡ Some x) × (slice_get items n ≡ Some y)
    × (slice_get ends j ≡ Some Front → m < n) × (slice_get ends j ≡ Some Back → n < m)

-- a call gives each of these items
abbrev pub GivesEach : {X : Type 0} → List X → List (Option X) → Type 0
GivesEach {X} items answers = (x : X) → Contains items x → (k : ℕ) × (slice_get answers k ≡ Some (Some x))
