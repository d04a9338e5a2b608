-- Reading a text gives one result, and parsing around a strict reader of addresses gives that of strict reading.
use Rattle.std.specs.Prelude.{◌≡◌, ℕ, List, Result}
use Rattle.cidr.specs.texts.Parsing.{MadeBy, MadeAlone, ReadsAround, ReadsWhole}
use Rattle.cidr.specs.model.Errors.{AddressError}
use Rattle.cidr.specs.declared.errors.NetworkParseError.{NetworkParseError}

-- there is one result of a text at most
abbrev pub HasOneResult : {R : Type 0} → (List ℕ → R → Type 0) → Type 0
HasOneResult {R} Reads = (text : List ℕ) (r q : R) → Reads text r → Reads text q → r ≡ q

-- what `parse_cidr` and `parse_inet` give around a reader of addresses
abbrev pub ParsesAround : {A V R W : Type 0} → (List ℕ → Result A AddressError → Type 0) → (A → V) → (R → W) → (V → ℕ → Result W NetworkParseError) → (V → W)
    → List ℕ → Result R NetworkParseError → Type 0
ParsesAround Asked address made make lone = ReadsAround Asked (MadeBy address made make) (ReadsWhole Asked (MadeAlone address made lone))

-- whatever the first gives of a text, the second gives
abbrev pub ReadsAlso : {R : Type 0} → (List ℕ → R → Type 0) → (List ℕ → R → Type 0) → Type 0
ReadsAlso {R} One Other = (text : List ℕ) (r : R) → One text r → Other text r
