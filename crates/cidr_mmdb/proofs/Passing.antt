-- Past the network that an address of the tree is in.
use Rattle.std.proofs.Common.{◌≡◌, sym, ◌∙◌, ap, arith, ℕ, ◌+◌, ◌-◌, ◌*◌, ◌/◌, ◌^◌, ◌<◌, ◌≤◌, Bool, true, false, refl, List, inl, inr}
use Rattle.std.specs.Prelude.{cond, nat_lt}
use Rattle.std.proofs.lemmas.Bool.{cases_lt}
use Rattle.std.proofs.lemmas.Nat.{pow_pos}
use Rattle.std.proofs.Math.Nat.{div-eq_of_lt-le, div-mul-le_self}
use Rattle.cidr_mmdb.specs.Databases.{said_by}
use Rattle.cidr_mmdb.specs.LookUps.{looked_in}
use Rattle.cidr_mmdb.specs.Rows.{IsPassed, number_behind}
use Rattle.cidr_mmdb.specs.Trees.{record_at, walk}
use Rattle.cidr_mmdb.specs.declared.found.Found.{Found}
use Rattle.cidr_mmdb.specs.declared.found.Found.TheVariants.{Nothing}
use Rattle.cidr_mmdb.specs.declared.records.RecordSize.{RecordSize}
use Rattle.cidr_mmdb.proofs.Sameness.{same_walk}

one_more : (q p : ℕ) → (q + 1) * p ≡ q * p + p
one_more q p = omega arith

pub behind_above : (n left : ℕ) → n < number_behind n left
behind_above n left =
    let p = 2 ^ left in
    let q = n / p in
    let some : 0 < p = pow_pos left in
    rw (one_more q p) (grind (arith, some))

-- all its addresses from one on have one walk
pub same_below : (step : ℕ → Bool → ℕ) (nodes width n m : ℕ) → n ≤ m → m < number_behind n (walk step nodes n 0 width).1
    → walk step nodes m 0 width ≡ walk step nodes n 0 width
same_below step nodes width n m above below =
    let p = 2 ^ (walk step nodes n 0 width).1 in
    let low : n / p * p ≤ m = omega (arith, div-mul-le_self n p) in
    let e : m / p ≡ n / p = div-eq_of_lt-le p low below in
    same_walk step nodes n m 0 width (sym e)

nothing_in : (outside : Bool) (found : Found) (read : ℕ) → found ≡ Nothing → (cond {A = Found × ℕ} outside (Nothing, 0) (found, read)).0 ≡ Nothing
nothing_in true found read e = refl
nothing_in false found read e = e

-- where nothing is found for one of them, nothing is found for those behind it
pub passed_more : (record_size : RecordSize) (tree : List ℕ) (nodes width size from n to : ℕ)
    → IsPassed (looked_in record_size tree nodes width size) width from n
    → said_by nodes size (walk (record_at record_size tree) nodes n 0 width).0 ≡ Nothing
    → to ≤ number_behind n (walk (record_at record_size tree) nodes n 0 width).1
    → IsPassed (looked_in record_size tree nodes width size) width from to
passed_more record_size tree nodes width size from n to passed nothing most = λ m above below.
    let step = record_at record_size tree in
    elim (cases_lt m n) [
      | inl before ↦ passed m above before
      | inr behind ↦
          let same = same_below step nodes width n m behind (omega arith) in
          nothing_in (nat_lt width width) (said_by nodes size (walk step nodes m 0 width).0) (width - (walk step nodes m 0 width).1)
          (ap (λ (w : ℕ × ℕ). said_by nodes size w.0) same ∙ nothing)
    ]
