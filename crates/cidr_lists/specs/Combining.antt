-- Several lists put together. `In` tells which addresses a list has.
use Rattle.std.specs.Prelude.{Bool, List, [], ◌∷◌, ◌⊎◌}
use Rattle.cidr.specs.declared.family.Family.{Family}

-- some of the lists has the address
abbrev pub SomeHas : {X : Type 0} → (X → Family → List Bool → Type 0) → List X → Family → List Bool → Type 0
SomeHas In [] family a = ⊥
SomeHas In (x ∷ xs) family a = In x family a ⊎ SomeHas In xs family a

-- each of them has it
abbrev pub AllHave : {X : Type 0} → (X → Family → List Bool → Type 0) → List X → Family → List Bool → Type 0
AllHave In [] family a = Unit {0}
AllHave In (x ∷ xs) family a = In x family a × AllHave In xs family a

-- the first has it, and no other
abbrev pub FirstAlone : {X : Type 0} → (X → Family → List Bool → Type 0) → List X → Family → List Bool → Type 0
FirstAlone In [] family a = ⊥
FirstAlone In (x ∷ xs) family a = In x family a × ¬ (SomeHas In xs family a)
