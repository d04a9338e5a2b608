-- Lines that are printed.
use Rattle.std.specs.Prelude.{ℕ, List, ◌++◌, codes}

-- a string as a line
abbrev pub line : List ℕ → List ℕ
line text = text ++ codes "\n"
