-- A file of tables has no fault, if its rows and words are few enough: what is refused then is memory.
use Rattle.std.proofs.Common.{◌≡◌, refl, ap, arith, inl, inr, ℕ, ◌⊎◌, List}
use Rattle.cidr_lookup.specs.FaultLaws as lookup
use Rattle.cidr_lookup.specs.declared.checking.WordsFault.{WordsFault}
use Rattle.cidr_lookup.specs.declared.checking.WordsFault.TheVariants.{Steps, TooLong, Keys, First, Word}
use Rattle.cidr_lookup.specs.declared.table.TableError.TheVariants.{TooMany, Refused, TooLarge, NoMemory}
use Rattle.cidr_lookup.specs.Faults.{IsFault}
use Rattle.cidr_files.specs.Faults.{IsFaultOfBytes, IsTableFault}
use Rattle.cidr_files.specs.Layout.{ipv4_counts, ipv4_parts, ipv6_counts, ipv6_parts, wide_words, words}
use Rattle.cidr_files.specs.Tables.{HasFewWords, IsFile, IsSmall, IsStoredTable, part_at, stored_networks}
use Rattle.cidr_files.specs.declared.faults.FileFault.{FileFault}
use Rattle.cidr_files.specs.declared.faults.FileFault.TheVariants.{Magic, Old, Version, Short, Long, Ipv4, Ipv6}
use Rattle.cidr_files.specs.declared.faults.TableFault.{TableFault}
use Rattle.cidr_files.specs.declared.faults.TableFault.TheVariants.{Words, Offsets}

-- what is wrong with words is wrong with the table that has them
pub wrong_words : (w padding : ℕ) (numbers : List ℕ → List ℕ) (parts : List (List ℕ)) (steps : ℕ) (fault : WordsFault)
    → IsFault w padding steps (stored_networks numbers parts) (words (part_at parts 0)) (words (part_at parts 1)) fault
    → IsTableFault w padding numbers parts steps (Words fault)
wrong_words w padding numbers parts steps Steps wrong = wrong
wrong_words w padding numbers parts steps TooLong wrong = wrong
wrong_words w padding numbers parts steps (Keys TooMany) wrong = wrong
wrong_words w padding numbers parts steps (Keys (Refused place)) wrong = wrong
wrong_words w padding numbers parts steps (Keys TooLarge) wrong = wrong
wrong_words w padding numbers parts steps (Keys NoMemory) wrong = tt
wrong_words w padding numbers parts steps (First place) wrong = wrong
wrong_words w padding numbers parts steps (Word place) wrong = wrong

-- or there was no memory
known_words : (w padding : ℕ) (numbers : List ℕ → List ℕ) (parts : List (List ℕ)) (steps : ℕ) (fault : WordsFault)
    → IsTableFault w padding numbers parts steps (Words fault)
    → (fault ≡ Keys NoMemory) ⊎ IsFault w padding steps (stored_networks numbers parts) (words (part_at parts 0)) (words (part_at parts 1)) fault
known_words w padding numbers parts steps Steps wrong = inr wrong
known_words w padding numbers parts steps TooLong wrong = inr wrong
known_words w padding numbers parts steps (Keys TooMany) wrong = inr wrong
known_words w padding numbers parts steps (Keys (Refused place)) wrong = inr wrong
known_words w padding numbers parts steps (Keys TooLarge) wrong = inr wrong
known_words w padding numbers parts steps (Keys NoMemory) wrong = inl refl
known_words w padding numbers parts steps (First place) wrong = inr wrong
known_words w padding numbers parts steps (Word place) wrong = inr wrong

pub no_table_fault : (w padding : ℕ) (numbers : List ℕ → List ℕ) (parts : List (List ℕ)) (steps : ℕ) (fault : TableFault)
    → IsStoredTable w padding numbers parts steps → HasFewWords numbers parts → IsTableFault w padding numbers parts steps fault → fault ≡ Words (Keys NoMemory)
no_table_fault w padding numbers parts steps (Words fault) good few wrong = elim (known_words w padding numbers parts steps fault wrong) [
  | inl memory ↦ ap Words memory
  | inr other ↦
      ap Words (lookup.no_fault w padding steps (stored_networks numbers parts) (words (part_at parts 0)) (words (part_at parts 1)) fault
      good.look_ups few.rows few.entries few.nodes other)
]
no_table_fault w padding numbers parts steps Offsets good few wrong = absurd (wrong.1 good.offsets)

pub no_fault_of_bytes : (bytes : List ℕ) (fault : FileFault) → IsFile bytes → IsSmall bytes → IsFaultOfBytes bytes fault
    → (fault ≡ Ipv4 (Words (Keys NoMemory))) ⊎ (fault ≡ Ipv6 (Words (Keys NoMemory)))
no_fault_of_bytes bytes Magic good small wrong = absurd (wrong good.laid_out.magic_is)
no_fault_of_bytes bytes Old good small wrong = absurd (omega (arith, wrong.1.1, good.laid_out.version_is))
no_fault_of_bytes bytes (Version other) good small wrong = absurd (wrong.3 (omega (arith, wrong.1, good.laid_out.version_is)))
no_fault_of_bytes bytes Short good small wrong = absurd (omega (arith, wrong.2, good.laid_out.long))
no_fault_of_bytes bytes Long good small wrong = absurd (omega (arith, wrong.2, good.laid_out.long))
no_fault_of_bytes bytes (Ipv4 fault) good small wrong =
    inl (ap Ipv4 (no_table_fault 32 4 words (ipv4_parts bytes) (ipv4_counts bytes).steps fault good.ipv4 small.ipv4 wrong.1))
no_fault_of_bytes bytes (Ipv6 fault) good small wrong =
    inr (ap Ipv6 (no_table_fault 128 2 wide_words (ipv6_parts bytes) (ipv6_counts bytes).steps fault good.ipv6 small.ipv6 wrong.2))
