-- What a closure writes that is called with each key and its value in turn.
use Rattle.std.specs.Prelude.{◌≡◌, List, [], ◌∷◌}
use Rattle.std.specs.Borrow.{Bor, MutBor}

-- a call at a `&` to the key and a `&mut` to its value may leave the value as `after`, and the closure as f'
pub record CallLeaves {F C V : Type 0} (steps : F → Bor C × (MutBor V × Unit {0}) → Unit {0} × (MutBor V × Unit {0}) → F → Type 0) (f : F) (key : C) (before after : V) (f' : F) : Type 0 where
  pub shown : Bor C
  pub lent : MutBor V
  pub shows : (shown.now ≡ key) × (lent.now ≡ before)
  pub left : MutBor V
  pub called : steps f (shown, (lent, tt)) (tt, (left, tt)) f'
  pub leaves : left.now ≡ after

-- the same keys in the same order, each with the value that a call at its row left, from the closure f on
abbrev pub AreWrittenInTurn : {F C V : Type 0} → (F → C → V → V → F → Type 0) → F → List (C × V) → List (C × V) → Type 0
AreWrittenInTurn call f [] new = new ≡ []
AreWrittenInTurn {F} {C} {V} call f (row ∷ rows) new =
    (value : V) × (f' : F) × (rest : List (C × V)) × call f row.0 row.1 value f' × AreWrittenInTurn call f' rows rest × (new ≡ (row.0, value) ∷ rest)
