-- The search of a list: changes up to a number are found, and none behind them is missed.
use Rattle.std.proofs.Common.{◌≡◌, ap, arith, inl, inr, ℕ, ◌+◌, ◌<◌, ◌≤◌, List, get_or}
use Rattle.std.proofs.lemmas.Bool.{cases_eq}
use Rattle.cidr_lookup.specs.Searching.{AscendAt}

-- so many are found of those before a place
pub record IsFound (words : List ℕ) (starts count number found at : ℕ) : Type 0 where
  pub within : found ≤ at
  pub before : AscendAt words starts count → (i : ℕ) → i < found → get_or words (starts + i) 0 ≤ number
  pub behind : AscendAt words starts count → (i : ℕ) → found ≤ i → i < at → number < get_or words (starts + i) 0

module _ (words : List ℕ) (starts count number : ℕ) where
  not_less : AscendAt words starts count → (i k : ℕ) → i ≤ k → k < count → get_or words (starts + i) 0 ≤ get_or words (starts + k) 0
  not_less order i k le l = elim (cases_eq i k) [
    | inl e ↦ omega (arith, ap (λ j. get_or words (starts + j) 0) e)
    | inr other ↦ omega (arith, order i k (omega arith) l)
  ]

  pub started : IsFound words starts count number 0 0
  started = record { within = omega arith; before = λ order i l. absurd (omega arith); behind = λ order i le l. absurd (omega arith) }

  -- the next change is asked for
  module _ (found at : ℕ) (so_far : IsFound words starts count number found at) (some : at < count) (found' : ℕ) where
    pub further : get_or words (starts + at) 0 ≤ number → found' ≡ found + 1 → IsFound words starts count number found' (at + 1)
    further upto is = record {
      within = omega (arith, so_far.within, is);
      before = λ order i l. omega (arith, upto, not_less order i at (omega (arith, is, so_far.within)) some);
      behind = λ order i le l. absurd (omega (
        arith,
        upto,
        so_far.behind order found (omega arith) (omega (arith, is, le, l)),
        not_less order found at so_far.within some,
      ));
    }

    pub no_further : number < get_or words (starts + at) 0 → found' ≡ found → IsFound words starts count number found' (at + 1)
    no_further past is = record {
      within = omega (arith, so_far.within, is);
      before = λ order i l. so_far.before order i (omega (arith, is));
      behind = λ order i le l. elim (cases_eq i at) [
        | inl e ↦ omega (arith, past, ap (λ j. get_or words (starts + j) 0) e)
        | inr other ↦ so_far.behind order i (omega (arith, is)) (omega arith)
      ];
    }
