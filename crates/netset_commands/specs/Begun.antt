-- A file whose first byte was read: what private functions promise.
use Rattle.std.specs.Prelude.{◌≡◌, ℕ, List, Option, Some, option_to_list}
use Rattle.std.specs.Io.KnownBytes.{prepend_known}
use Rattle.netset_commands.specs.Compiled.{begins_file}
use Rattle.netset_commands.specs.declared.input.begun.Begun.{Begun}

-- the bytes that are left, with the first one
abbrev pub begun_left : {S : Type 0} → (S → Option (List ℕ)) → Begun S → Option (List ℕ)
begun_left left begun = prepend_known (option_to_list begun.first) (left begun.source)

-- these are left, and they tell whether it is a file of look-ups
pub record IsBegunAt {S : Type 0} (left : S → Option (List ℕ)) (text : List ℕ) (begun : Begun S) : Type 0 where
  pub all_left : begun_left left begun ≡ Some text
  pub first : begins_file (option_to_list begun.first) ≡ begins_file text
