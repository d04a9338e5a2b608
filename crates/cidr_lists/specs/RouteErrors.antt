-- Lines about routes that are in error, and the first one of a text.
use Rattle.std.specs.Prelude.{◌≡◌, ◌⊎◌, ℕ, ◌+◌, List, ◌∷◌, ◌++◌, codes, length}
use Rattle.cidr_lists.specs.ListLines.{IsTooLong}
use Rattle.cidr_lists.specs.Messages.{line_message}
use Rattle.cidr_lists.specs.declared.errors.LineError.TheVariants.{TooLong}
use Rattle.cidr_lists.specs.declared.route_errors.RouteError.{RouteError}
use Rattle.cidr_lists.specs.declared.route_errors.RouteError.TheVariants.{Line, NoHeader, NoAs, NoMaxLength, NoWord, NoNumber, NoLengths, OtherFamily}

-- the message of a line in error
abbrev pub route_message : RouteError → List ℕ
route_message (Line e) = line_message e
route_message (NoHeader text) = text.bytes ++ codes ": " ++ codes "not the header of a file of payloads"
route_message (NoAs text) = text.bytes ++ codes ": " ++ codes "no number of an AS"
route_message (NoMaxLength text) = text.bytes ++ codes ": " ++ codes "no length from that of the network to the full one"
route_message (NoWord text) = text.bytes ++ codes ": " ++ codes "not expected here"
route_message (NoNumber text) = text.bytes ++ codes ": " ++ codes "no number below 2^32"
route_message (NoLengths text) = text.bytes ++ codes ": " ++ codes "not in order from the length of the network to the full one"
route_message (OtherFamily text) = text.bytes ++ codes ": " ++ codes "not of the family of the row"

-- the line is in error: it is too long, or it is not, and the error is that of its bytes
abbrev pub IsBadRouteBy : (List ℕ → RouteError → Type 0) → List ℕ → RouteError → Type 0
IsBadRouteBy IsBad line e = ((e ≡ Line TooLong) × IsTooLong line) ⊎ (¬ (IsTooLong line) × IsBad line e)

-- of all these lines, of which the first has this number, this is the first in error, by its own: those before it say something
pub record IsFirstBadFrom {S : Type 0} (first : ℕ) (Say : List (List ℕ) → S → Type 0) (IsBad : List ℕ → RouteError → Type 0) (all : List (List ℕ)) (number : ℕ) (e : RouteError) : Type 0 where
  pub before : List (List ℕ)
  pub line : List ℕ
  pub after : List (List ℕ)
  pub lines : all ≡ before ++ line ∷ after
  pub place : number ≡ first + length before
  pub said : S
  pub fine : Say before said
  pub fault : IsBad line e
