-- Rows at the beginning of an array that has room for more.
use Rattle.std.specs.Prelude.{ℕ, ◌+◌, ◌-◌, List, ◌∷◌, ◌++◌, take, drop}

-- one more of `count` rows, before that at an index
abbrev pub with_row : {T : Type 0} → List T → ℕ → ℕ → T → List T
with_row rows count index row = take index rows ++ (row ∷ (take (count - index) (drop index rows) ++ drop (count + 1) rows))

-- one less, that at an index: what is behind all but one stays
abbrev pub without_row : {T : Type 0} → List T → ℕ → ℕ → List T
without_row rows count index = take index rows ++ (take (count - 1 - index) (drop (index + 1) rows) ++ drop (count - 1) rows)
