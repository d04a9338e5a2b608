-- Sets of addresses of both families, and how they are written.
use Rattle.std.specs.Prelude.{ℕ, Bool, List, Result}
use Rattle.cidr.specs.declared.family.Family.{Family}
use Rattle.cidr_io.specs.Writing.{State, Answered}
use Rattle.cidr_io.specs.declared.sink.OutputFailed.{OutputFailed}
use Rattle.cidr_lists.specs.declared.sets.Form.{Form}
use Rattle.cidr_lists.specs.Sets.{IsPrinted}

-- what is printed of sets is written
abbrev pub Prints : Form → State → State → (Family → List (List Bool)) → Result (Unit {0}) OutputFailed → Type 0
Prints form old new sets r = (text : List ℕ) × IsPrinted form sets text × Answered old new text r
