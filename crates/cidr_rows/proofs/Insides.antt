-- The keys in a network stand next to each other.
use Rattle.std.proofs.Common.{◌≡◌, sym, ◌∙◌, arith, inl, inr, ℕ, ◌<◌, ◌≤◌, ◌↔◌, Bool, List, length, get_or}
use Rattle.std.proofs.lemmas.Bool.{cases_eq, cases_lt}
use Rattle.std.proofs.lemmas.Map.Keys.{Less-from_sorted}
use Rattle.std.specs.List.Sorted.{IsStrictlySortedBy}
use Rattle.std.specs.declared.cmp.Ordering.{Ordering}
use Rattle.std.specs.declared.cmp.Ordering.TheVariants.{Less}
use Rattle.cidr.specs.model.Bits.{bit_cmp}
use Rattle.cidr.specs.model.Network.{BeginsWith}
use Rattle.cidr_table.specs.internal.Places.{IsLowerBound}
use Rattle.cidr_table.proofs.Beginnings.{bits_same, begins_between, not_before}

module _ {C : Type 0} (cmp : C → C → Ordering) (bits : C → List Bool) (ordered : (x y : C) → cmp x y ≡ bit_cmp (bits x) (bits y))
    (keys : List C) (sorted : IsStrictlySortedBy cmp keys) (outer : C) (from : ℕ)
    (bound : IsLowerBound cmp keys outer (length keys) from) where
  -- what is before a key in the network and not before the network is in it, too
  pub between : (j k : ℕ) → from ≤ j → j ≤ k → k < length keys → BeginsWith (bits (get_or keys k outer)) (bits outer)
      → BeginsWith (bits (get_or keys j outer)) (bits outer)
  between j k after le lt inner =
      begins_between (bits outer) (bits (get_or keys k outer)) (bits (get_or keys j outer)) inner
      (λ less. bound.behind j after (omega arith) (ordered (get_or keys j outer) outer ∙ less))
      (λ more. elim (cases_eq j k) [
        | inl e ↦ let f = sym (bits_same (bits (get_or keys k outer))) ∙ (rw e at more) in (cc)
        | inr n ↦
            let up : cmp (get_or keys j outer) (get_or keys k outer) ≡ Less = Less-from_sorted cmp keys j k outer sorted (omega arith) lt in
            let f = sym up ∙ (ordered (get_or keys j outer) (get_or keys k outer) ∙ more) in (cc)
      ])

  -- and none is in it that is before the network
  pub from_bound : (j : ℕ) → BeginsWith (bits (get_or keys j outer)) (bits outer) → from ≤ j
  from_bound j inner = elim (cases_lt j from) [
    | inr le ↦ le
    | inl lt ↦ absurd (not_before (bits (get_or keys j outer)) (bits outer) inner (sym (ordered (get_or keys j outer) outer) ∙ bound.before j lt))
  ]

  -- all between the bound and the end, and none behind that
  pub told : (to : ℕ) → ((j : ℕ) → from ≤ j → j < to → BeginsWith (bits (get_or keys j outer)) (bits outer))
      → ((j : ℕ) → to ≤ j → j < length keys → ¬ (BeginsWith (bits (get_or keys j outer)) (bits outer)))
      → (i : ℕ) → i < length keys → BeginsWith (bits (get_or keys i outer)) (bits outer) ↔ ((from ≤ i) × (i < to))
  told to all none i l = (
    λ inner. (
      from_bound i inner,
      elim (cases_lt i to) [ inl lt ↦ lt | inr le ↦ absurd (none i le l inner) ],
    ),
    λ h. all i h.0 h.1,
  )
