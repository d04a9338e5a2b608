-- The arguments of a run, without the program's name, each as its bytes.
use Rattle.std.specs.Prelude.{◌≡◌, ◌<◌, ℕ, Bool, true, List, ◌∷◌, ◌++◌, length, take, Option, Some, None, Result, Ok, Err, IfSome, IsUtf8}
use Rattle.std.specs.List.{All, slice_get}
use Rattle.cidr_io.specs.Shown.{byte_excerpt}
use Rattle.cidr_io.specs.declared.arguments.ArgumentReadError.{ArgumentReadError}
use Rattle.cidr_io.specs.declared.arguments.ArgumentReadError.TheVariants.{NotText, NoMemory}
use Rattle.std.specs.declared.env.FillError.{FillError}
use Rattle.std.specs.declared.env.FillError.TheVariants.{NotPresent, TooLong}

-- the argument at this index, or `None` past the last one, where the arguments are told
abbrev pub IsArgument : Option (List (List ℕ)) → ℕ → Option (List ℕ) → Type 0
IsArgument told index argument = IfSome told (λ given. slice_get given index ≡ argument)

-- a buffer begins with the argument at this index, or there is none, or it is longer than the buffer
abbrev pub BeginsWithArgument : List (List ℕ) → ℕ → Result ℕ FillError → List ℕ → Type 0
BeginsWithArgument given index (Ok n) buf = slice_get given index ≡ Some (take n buf)
BeginsWithArgument given index (Err NotPresent) buf = slice_get given index ≡ None
BeginsWithArgument given index (Err TooLong) buf = (argument : List ℕ) × (slice_get given index ≡ Some argument) × (length buf < length argument)

-- the same, where the arguments are told
abbrev pub Fills : Option (List (List ℕ)) → ℕ → Result ℕ FillError → List ℕ → Type 0
Fills told index r buf = IfSome told (λ given. BeginsWithArgument given index r buf)

-- these are all the arguments
abbrev pub AreArguments : Option (List (List ℕ)) → List (List ℕ) → Type 0
AreArguments told arguments = IfSome told (λ given. arguments ≡ given)

-- the first of them that is not UTF-8 is shown so
abbrev pub IsNotText : Option (List (List ℕ)) → List ℕ → Type 0
IsNotText told shown = IfSome told (λ given. (before after : List (List ℕ)) × (argument : List ℕ) × (given ≡ before ++ argument ∷ after)
    × All IsUtf8 before × ¬ (IsUtf8 argument) × (shown ≡ byte_excerpt argument))

-- why they are not read; `refused` tells whether an allocation was refused
abbrev pub AreUnread : Option (List (List ℕ)) → Bool → ArgumentReadError → Type 0
AreUnread told refused (NotText shown) = IsNotText told shown.bytes
AreUnread told refused NoMemory = refused ≡ true
