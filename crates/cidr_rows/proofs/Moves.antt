-- One more row, and the others moved.
use Rattle.std.proofs.Common.{◌≡◌, sym, ◌∙◌, ap, arith, ℕ, ◌+◌, ◌-◌, ◌<◌, ◌≤◌, List, [], ◌∷◌, ◌++◌, length, get_or, take, drop}
use Rattle.std.proofs.Math.ListN.{set}
use Rattle.std.proofs.Math.Seq.{paste, set-append_seam}
use Rattle.std.proofs.lemmas.List.{append_assoc, length-take-le, take_more}
use Rattle.cidr_rows.specs.Moved.{with_row}

seam : {X : Type 0} (front longer rest rest' : List X) (x row : X) (index : ℕ) → length front ≡ index → longer ≡ front ++ x ∷ [] → rest ≡ rest'
    → set (longer ++ rest) index row ≡ front ++ row ∷ rest'
seam front longer rest rest' x row index size more same =
    ap (λ l. set (l ++ rest) index row) more
    ∙ (ap (λ l. set ((front ++ x ∷ []) ++ l) index row) same
    ∙ (ap (λ l. set l index row) (append_assoc front (x ∷ []) rest')
    ∙ (ap (λ k. set (front ++ x ∷ rest') k row) (sym size)
    ∙ set-append_seam front x rest' row)))

pub inserted : {X : Type 0} (rows : List X) (count index : ℕ) (row : X) → index ≤ count → count < length rows
    → set (paste rows (index + 1) (drop index rows) (count - index)) index row ≡ with_row rows count index row
inserted rows count index row le room =
    let size : length (take index rows) ≡ index = length-take-le index rows (omega arith) in
    let on : index + 1 + (count - index) ≡ count + 1 = omega arith in
    ap (λ l. set l index row) (append_assoc (take (index + 1) rows) (take (count - index) (drop index rows)) (drop (index + 1 + (count - index)) rows))
    ∙ seam (take index rows) (take (index + 1) rows) (take (count - index) (drop index rows) ++ drop (index + 1 + (count - index)) rows)
    (take (count - index) (drop index rows) ++ drop (count + 1) rows) (get_or rows index row) row index size (take_more rows index row (omega arith))
    (ap (λ k. take (count - index) (drop index rows) ++ drop k rows) on)
