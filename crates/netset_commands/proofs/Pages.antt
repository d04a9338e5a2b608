-- The pages of help.
use Rattle.std.proofs.Common.{◌≡◌, sym, subst, ℕ, List, ◌++◌, Result, Err, append_assoc}
use Rattle.cidr_io.specs.Writing.{State, Part}
use Rattle.cidr_io.specs.declared.sink.OutputFailed.{OutputFailed}
use Rattle.cidr_io.proofs.Chains.{part_more}
use Rattle.cidr_io.specs.Collecting.{Collects}

-- the front of a page was not written whole
pub page_lost : (s t : State) (block rest x y : List ℕ) (r : Result (Unit {0}) OutputFailed) (e : OutputFailed) → r ≡ Err e → Part s t (block ++ x)
    → Collects s t block rest (x ++ y) r
page_lost s t block rest x y r e is part =
    subst (Collects s t block rest (x ++ y)) (sym is) (subst (Part s t) (append_assoc block x y) (part_more s t (block ++ x) y part))
