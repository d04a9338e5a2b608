-- The words of a table have no fault, if the networks and the words are few enough: what is refused then is memory.
use Rattle.std.proofs.Common.{◌≡◌, refl, arith, inl, inr, ℕ, ◌^◌, ◌<◌, List, length}
use Rattle.cidr_lookup.specs.Faults.{IsFault}
use Rattle.cidr_lookup.specs.Tables.{IsLookupTable}
use Rattle.cidr_lookup.specs.declared.checking.WordsFault.{WordsFault}
use Rattle.cidr_lookup.specs.declared.checking.WordsFault.TheVariants.{Steps, TooLong, Keys, First, Word}
use Rattle.cidr_lookup.specs.declared.table.TableError.TheVariants.{TooMany, Refused, TooLarge, NoMemory}

pub no_fault : (w padding steps : ℕ) (networks : List (ℕ × ℕ)) (first words : List ℕ) (fault : WordsFault) → IsLookupTable w padding steps networks first words
    → length networks < 2 ^ 31 → length first < 2 ^ 30 → length words < 2 ^ 30 → IsFault w padding steps networks first words fault → fault ≡ Keys NoMemory
no_fault w padding steps networks first words Steps good few less less' wrong = absurd (wrong (good.some, good.few))
no_fault w padding steps networks first words TooLong good few less less' (at, inl long) = absurd (omega (arith, long))
no_fault w padding steps networks first words TooLong good few less less' (at, inr long) = absurd (omega (arith, long))
no_fault w padding steps networks first words (Keys TooMany) good few less less' wrong = absurd (omega (arith, wrong.1))
no_fault w padding steps networks first words (Keys (Refused index)) good few less less' wrong = absurd (wrong.1.1.2 (record {
  each = λ i l. good.keys.each i (omega (arith, wrong.1.1.0));
  ascending = λ i k lt l. good.keys.ascending i k lt (omega (arith, wrong.1.1.0));
}))
no_fault w padding steps networks first words (Keys TooLarge) good few less less' wrong = absurd (wrong.2 refl)
no_fault w padding steps networks first words (Keys NoMemory) good few less less' wrong = refl
no_fault w padding steps networks first words (First index) good few less less' wrong = absurd ((wrong.2 first words good).1 refl)
no_fault w padding steps networks first words (Word index) good few less less' wrong = absurd ((wrong.2 first words good).1 refl)
