-- What is wrong with words: the first thing.
use Rattle.std.specs.Prelude.{◌≡◌, ◌≢◌, ℕ, ◌+◌, ◌*◌, ◌^◌, ◌<◌, ◌≤◌, ◌⊎◌, List, length, slice_get, take}
use Rattle.cidr_lookup.specs.Keys.{AreAscendingNetworks}
use Rattle.cidr_lookup.specs.Tables.{IsLookupTable, IsTableRefused}
use Rattle.cidr_lookup.specs.declared.checking.WordsFault.{WordsFault}
use Rattle.cidr_lookup.specs.declared.checking.WordsFault.TheVariants.{Steps, TooLong, Keys, First, Word}
use Rattle.cidr_lookup.specs.declared.table.TableError.TheVariants.{TooLarge}

-- the first word that is another, or that one of the two has alone
abbrev pub IsFirstOther : (words all : List ℕ) → ℕ → Type 0
IsFirstOther words all index = (take index words ≡ take index all) × (slice_get words index ≢ slice_get all index)

-- so many steps leave first bits, and at most 32
abbrev pub AreSteps : (w padding steps : ℕ) → Type 0
AreSteps w padding steps = (6 * steps < w + padding) × (w + padding ≤ 6 * steps + 32)

-- and there are no more words than a table may have
abbrev pub AreSizes : (w padding steps : ℕ) → (first words : List ℕ) → Type 0
AreSizes w padding steps first words = AreSteps w padding steps × (length first < 2 ^ 30) × (length words < 2 ^ 30)

-- why words are refused, each where those before it don't hold, but that an entry and a word are told as they are built
abbrev pub IsFault : (w padding steps : ℕ) → List (ℕ × ℕ) → (first words : List ℕ) → WordsFault → Type 0
IsFault w padding steps networks first words Steps = ¬ (AreSteps w padding steps)
IsFault w padding steps networks first words TooLong = AreSteps w padding steps × ((2 ^ 30 ≤ length first) ⊎ (2 ^ 30 ≤ length words))
IsFault w padding steps networks first words (Keys error) = AreSizes w padding steps first words × IsTableRefused w padding steps networks error × (error ≢ TooLarge)
IsFault w padding steps networks first words (First index) = AreSizes w padding steps first words × AreAscendingNetworks w networks
    × ((all_first all_words : List ℕ) → IsLookupTable w padding steps networks all_first all_words → IsFirstOther first all_first index)
IsFault w padding steps networks first words (Word index) = AreSizes w padding steps first words × AreAscendingNetworks w networks
    × ((all_first all_words : List ℕ) → IsLookupTable w padding steps networks all_first all_words → IsFirstOther words all_words index)
