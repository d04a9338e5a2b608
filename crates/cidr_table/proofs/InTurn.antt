-- Rows whose values a closure writes in turn.
use Rattle.std.proofs.Common.{◌≡◌, ◌+◌, ◌<◌, ◌≤◌, refl, sym, ap, ◌∙◌, arith, ℕ, suc, List, [], ◌∷◌, ◌++◌, map, length, get_or, set, take, drop, append_assoc}
use Rattle.std.proofs.Math.Seq.{drop-cons, take-suc-set}
use Rattle.std.proofs.lemmas.List.{drop-set-lt, drop_all, take-append-drop, length-map}
use Rattle.std.specs.Map.{keys_of}
use Rattle.std.specs.Borrow.{Bor, MutBor}
use Rattle.cidr_table.specs.model.Writing.{CallLeaves, AreWrittenInTurn}
use Rattle.cidr_table.proofs.InPlace.{same_later}

pub call_leaves : {F C V : Type 0} (steps : F → Bor C × (MutBor V × Unit {0}) → Unit {0} × (MutBor V × Unit {0}) → F → Type 0) {f f' : F} {key : Bor C} {value after : MutBor V}
    → steps f (key, (value, tt)) (tt, (after, tt)) f' → CallLeaves steps f key.now value.now after.now f'
call_leaves steps {f} {f'} {key} {value} {after} e = record { shown = key; lent = value; shows = (refl, refl); left = after; called = e; leaves = refl }

module _ {F C V : Type 0} (call : F → C → V → V → F → Type 0) where
  -- no key changes
  pub keys_same : (f : F) (old new : List (C × V)) → AreWrittenInTurn call f old new → keys_of new ≡ keys_of old
  keys_same f [] new h = ap keys_of h
  keys_same f (row ∷ rows) new (value, f', rest, called, h, is) = ap keys_of is ∙ ap (λ keys. row.0 ∷ keys) (keys_same f' rows rest h)

  pub length_same : (f : F) (old new : List (C × V)) → AreWrittenInTurn call f old new → length new ≡ length old
  length_same f old new h = sym (length-map new (λ row. row.0)) ∙ ap length (keys_same f old new h) ∙ length-map old (λ row. row.0)

  -- where each call writes by a function of the row
  pub written_by : (write : C → V → V) → ((f : F) (key : C) (before after : V) (f' : F) → call f key before after f' → after ≡ write key before)
      → (f : F) (old new : List (C × V)) → AreWrittenInTurn call f old new → new ≡ map (λ row. (row.0, write row.0 row.1)) old
  written_by write by f [] new h = h
  written_by write by f (row ∷ rows) new (value, f', rest, called, h, is) =
      is ∙ ap (λ v. (row.0, v) ∷ rest) (by f row.0 row.1 value f' called) ∙ ap (λ rs. (row.0, write row.0 row.1) ∷ rs) (written_by write by f' rows rest h)

  module _ (first : F) (xs : List (C × V)) where
    -- the rows from i on are as they were, and the calls go on at f
    pub record IsAt (f : F) (ys : List (C × V)) (i : ℕ) : Type 0 where
      pub left : drop i ys ≡ drop i xs
      pub goes_on : (zs : List (C × V)) → AreWrittenInTurn call f (drop i xs) zs → AreWrittenInTurn call first xs (take i ys ++ zs)

    pub starts : IsAt first xs 0
    starts = record { left = refl; goes_on = λ zs h. h }

    pub one_more : (f f' : F) (ys : List (C × V)) (i : ℕ) (row : C × V) (value : V) → i < length ys → row ≡ get_or ys i row → call f row.0 row.1 value f' → IsAt f ys i
        → IsAt f' (set ys i (row.0, value)) (i + 1)
    one_more f f' ys i row value lt is called at =
        let new : C × V = (row.0, value) in
        let on : suc i ≡ i + 1 = omega arith in
        let behind : drop (i + 1) ys ≡ drop (i + 1) xs = same_later ys xs i (i + 1) (omega arith) at.left in
        let here : drop i xs ≡ row ∷ drop (i + 1) xs = sym at.left ∙ drop-cons ys i row lt ∙ ap (λ x. x ∷ drop (suc i) ys) (sym is) ∙ ap (λ k. row ∷ drop k ys) on ∙ ap (λ rest. row ∷ rest) behind in
        let written : take (i + 1) (set ys i new) ≡ take i ys ++ new ∷ [] = ap (λ k. take k (set ys i new)) (sym on) ∙ take-suc-set ys i new lt in
        record {
          left = drop-set-lt (i + 1) ys i new (omega arith) ∙ behind;
          goes_on = λ zs h. rw (written, append_assoc (take i ys) (new ∷ []) zs) (at.goes_on (new ∷ zs) (rw here (value, f', zs, called, h, refl)));
        }

    pub ends : (f : F) (ys : List (C × V)) (i : ℕ) → length xs ≤ i → length ys ≤ i → IsAt f ys i → AreWrittenInTurn call first xs ys
    ends f ys i over done at = rw (sym (take-append-drop i ys)) (at.goes_on (drop i ys) (rw (drop_all i xs over, drop_all i ys done) refl))
