-- A key that belongs between two keys is none of them.
use Rattle.std.proofs.Common.{◌≡◌, ℕ, List, length}
use Rattle.std.specs.List.{Contains}
use Rattle.std.specs.Map.{keys_of}
use Rattle.std.specs.Cmp.{IsTotalOrder}
use Rattle.std.specs.declared.cmp.Ordering.{Ordering}
use Rattle.std.specs.declared.cmp.Ordering.TheVariants.{Equal}
use Rattle.cidr_table.specs.internal.Places.{BelongsAt}
use Rattle.cidr_table.proofs.MapLaws.{looked_up}
use Rattle.cidr_table.proofs.RowPlaces.{lookup_gap}

pub not_held : {C V : Type 0} (cmp : C → C → Ordering) → IsTotalOrder cmp → ((x y : C) → cmp x y ≡ Equal → x ≡ y) → (k : C)
    → (es : List (C × V)) (i : ℕ) → BelongsAt cmp (keys_of es) k (length es) i → ¬ (Contains (keys_of es) k)
not_held cmp o exact k es i h = rw (lookup_gap cmp o k es i h) at (looked_up cmp o exact k es)
