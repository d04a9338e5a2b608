-- Several lists put together. `In` tells which addresses a list has.
use Rattle.std.specs.Prelude.{Bool, true, false, List}
use Rattle.cidr.specs.declared.family.Family.{Family}
use Rattle.netset_commands.specs.declared.commands.operations.Operation.{Operation}
use Rattle.netset_commands.specs.declared.commands.operations.Operation.TheVariants.{Merge, Minus, And, Not, Ranges, Count}
use Rattle.cidr_lists.specs.declared.sets.Form.{Form}
use Rattle.cidr_lists.specs.declared.sets.Form.TheVariants as form
use Rattle.cidr_lists.specs.declared.sets.Step.{Step}
use Rattle.cidr_lists.specs.declared.sets.Step.TheVariants.{Union, Difference, Intersection}
use Rattle.cidr_lists.specs.Combining.{SomeHas, AllHave, FirstAlone}

-- the address belongs to what is made of the lists
abbrev pub IsMade : {X : Type 0} → (X → Family → List Bool → Type 0) → Operation → List X → Family → List Bool → Type 0
IsMade In Minus xs family a = FirstAlone In xs family a
IsMade In And xs family a = AllHave In xs family a
IsMade In Not xs family a = ¬ (SomeHas In xs family a)
IsMade In operation xs family a = SomeHas In xs family a

-- how it writes the addresses
abbrev pub form_of : Operation → Form
form_of Ranges = form.Ranges
form_of Count = form.Counts
form_of operation = form.Networks

-- there, or not
abbrev pub Turned : Bool → Type 0 → Type 0
Turned false Here = Here
Turned true Here = ¬ Here

-- ---- what private functions promise
-- what each further list does
abbrev pub step_of : Operation → Step
step_of Merge = Union
step_of Minus = Difference
step_of And = Intersection
step_of Not = Union
step_of Ranges = Union
step_of Count = Union

-- whether it has the addresses of each family that are then not there
abbrev pub turns : Operation → Bool
turns Merge = false
turns Minus = false
turns And = false
turns Not = true
turns Ranges = false
turns Count = false
