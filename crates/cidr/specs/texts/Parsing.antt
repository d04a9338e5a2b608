-- Parsing a string around closures, as the crate `cidr` does in its module `parsers`: the address is what stands before
-- the last slash, and after it stands the prefix length. A string without a slash is parsed as a whole.
use Rattle.std.specs.Prelude.{◌≡◌, ℕ, ◌⊎◌, Bool, List, Result, Ok, Err, IsOk, nat_lt, if◌then◌else◌}
use Rattle.cidr.specs.model.Host.{Host, host_of, lone_host, network_of}
use Rattle.cidr.specs.model.Network.{width_of, network_from, too_long}
use Rattle.cidr.specs.model.Views.{seen}
use Rattle.cidr.specs.texts.NetworkText.{slash, IsLengthText}
use Rattle.cidr.specs.texts.Refusal.{Lacks, CutsAtLastSlash}
use Rattle.cidr.specs.model.Errors.{AddressError}
use Rattle.cidr.specs.declared.errors.NetworkParseError.{NetworkParseError}
use Rattle.cidr.specs.declared.errors.NetworkParseError.TheVariants as parse_error
use Rattle.cidr.specs.declared.family.Family.{Family}

-- ---- what an address of a family and a prefix length make
-- the network of the first n bits, with the errors of `new`: a length above the width, then a set bit after the prefix
abbrev pub strict_network : Family × List Bool → ℕ → Result (Family × List Bool) NetworkParseError
strict_network a n = seen (λ p. (a.0, p)) (network_from a.0 a.1 n)

-- the host, or an error where the length is above the width
abbrev pub made_host : Family × List Bool → ℕ → Result (Family × Host) NetworkParseError
made_host a n = if nat_lt (width_of a.0) n then Err (parse_error.NetworkLengthTooLongError (too_long n a.0)) else Ok (a.0, host_of a.1 n)

-- the network that has the address in it, or an error where the length is above the width
abbrev pub holding_network : Family × List Bool → ℕ → Result (Family × List Bool) NetworkParseError
holding_network a n = seen (λ h. (h.0, network_of h.1)) (made_host a n)

-- the host of an address and the full prefix length
abbrev pub lone_made : Family × List Bool → Family × Host
lone_made a = (a.0, lone_host (width_of a.0) a.1)

-- ---- what a string gives
-- the result is what `make` gives for the address and the length, where all three are compared by their views
abbrev pub MadeBy : {A V R W : Type 0} → (A → V) → (R → W) → (V → ℕ → Result W NetworkParseError) → A → ℕ → Result R NetworkParseError → Type 0
MadeBy address made make a n r = seen made r ≡ make (address a) n

-- the result where the string has a slash: the error that the closure returned; or where the part after the slash is no
-- prefix length, the error of that; or what the address and the length make (`Makes`)
abbrev pub ReadsSlashed : {A R : Type 0} → (A → ℕ → Result R NetworkParseError → Type 0) → Result A AddressError → List ℕ → Result R NetworkParseError → Type 0
ReadsSlashed Makes (Err e) back r = r ≡ Err (parse_error.AddrParseError e)
ReadsSlashed Makes (Ok a) back r =
    ((n : ℕ) × IsLengthText back n × Makes a n r)
    ⊎ (((n : ℕ) → ¬ (IsLengthText back n)) × (r ≡ Err (parse_error.NetworkLengthParseError (record {}))))

-- the result where a whole string is parsed as an address: its error, or what the address alone makes
abbrev pub lone_from : {V W : Type 0} → (V → W) → Result V AddressError → Result W NetworkParseError
lone_from lone (Err e) = Err (parse_error.AddrParseError e)
lone_from lone (Ok a) = Ok (lone a)

-- the result is what `lone_from` gives for what the closure returned, compared by their views
abbrev pub MadeAlone : {A V R W : Type 0} → (A → V) → (R → W) → (V → W) → Result A AddressError → Result R NetworkParseError → Type 0
MadeAlone address made lone returned r = seen made r ≡ lone_from lone (seen address returned)

-- the string has a slash, the closure returned `returned` for the part before the last one, and the result follows from
-- that
pub record ReadsCut {A R : Type 0} (Asked : List ℕ → Result A AddressError → Type 0) (Makes : A → ℕ → Result R NetworkParseError → Type 0)
    (text : List ℕ) (r : Result R NetworkParseError) : Type 0 where
  pub front : List ℕ
  pub back : List ℕ
  pub returned : Result A AddressError
  pub cut : CutsAtLastSlash text front back
  pub asked : Asked front returned
  pub follows : ReadsSlashed Makes returned back r

-- what a parser around a closure returns: of a string without a slash as `Whole` says, of any other as `ReadsCut` says;
-- `Asked` holds of a string and what the closure may return for it
abbrev pub ReadsAround : {A R : Type 0} → (List ℕ → Result A AddressError → Type 0) → (A → ℕ → Result R NetworkParseError → Type 0)
    → (List ℕ → Result R NetworkParseError → Type 0) → List ℕ → Result R NetworkParseError → Type 0
ReadsAround Asked Makes Whole text r = (Lacks slash text × Whole text r) ⊎ ReadsCut Asked Makes text r

-- the closure was called for the whole string, and the result is made of what it returned
abbrev pub ReadsWhole : {A R : Type 0} → (List ℕ → Result A AddressError → Type 0) → (Result A AddressError → R → Type 0) → List ℕ → R → Type 0
ReadsWhole {A} Asked Makes text r = (returned : Result A AddressError) × Asked text returned × Makes returned r

-- of two results for one string: the second is the value of the first; a value where the first is `InvalidHostPart`;
-- and any other error is that of the first
abbrev pub MendsHostPart : {W : Type 0} → Result W NetworkParseError → Result W NetworkParseError → Type 0
MendsHostPart (Ok value) mended = mended ≡ Ok value
MendsHostPart (Err parse_error.InvalidHostPart) mended = IsOk mended
MendsHostPart (Err (parse_error.AddrParseError e)) mended = mended ≡ Err (parse_error.AddrParseError e)
MendsHostPart (Err (parse_error.NetworkLengthParseError e)) mended = mended ≡ Err (parse_error.NetworkLengthParseError e)
MendsHostPart (Err (parse_error.NetworkLengthTooLongError e)) mended = mended ≡ Err (parse_error.NetworkLengthTooLongError e)
