-- Which lengths keys may have.
use Rattle.std.proofs.Common.{◌≡◌, ◌⊎◌, sym, ◌∙◌, arith, inl, inr, refl, ℕ, ◌+◌, ◌<◌, Bool, List, [], length, get_or}
use Rattle.std.proofs.Math.ListN.{set}
use Rattle.std.proofs.lemmas.Bool.{cases_eq, cases_lt}
use Rattle.std.proofs.lemmas.List.{get_or_past, get_or-set_same, get_or-set_other, length-set}
use Rattle.cidr_rows.specs.Lengths.{AreLengths, AreLengthsAdded}

-- an empty array tells of no length
pub none_told : {C : Type 0} (bits : C → List Bool) (keys : List C) → AreLengths bits keys []
none_told bits keys key c e = absurd (omega (arith, get_or_past {X = ℕ} [] (length (bits key)) 1 (omega arith), e))

-- one that is added stays so
added_at : (lengths : List ℕ) (n m : ℕ) → (n ≡ m) ⊎ (get_or lengths n 1 ≡ 1) → get_or (set lengths m 1) n 1 ≡ 1
added_at lengths n m h = elim (cases_eq n m) [
  | inl e ↦ elim (cases_lt m (length lengths)) [
    | inl lt ↦ rw e (get_or-set_same lengths m 1 1 lt)
    | inr le ↦ get_or_past (set lengths m 1) n 1 (omega (arith, length-set lengths m 1))
  ]
  | inr ne ↦ elim h [
    | inl e ↦ absurd (ne e)
    | inr one ↦ get_or-set_other lengths m n 1 1 ne ∙ one
  ]
]

module _ {C : Type 0} (bits : C → List Bool) (keys : List C) where
  -- those of the keys up to an index are added
  pub record AreAddedUpto (i : ℕ) (old new : List ℕ) : Type 0 where
    pub added : (key : C) (j : ℕ) → j < i → get_or keys j key ≡ key → get_or new (length (bits key)) 1 ≡ 1
    pub others : (n : ℕ) → ((key : C) (j : ℕ) → j < i → get_or keys j key ≡ key → ¬ (length (bits key) ≡ n)) → get_or new n 1 ≡ get_or old n 1

  pub added_first : (old : List ℕ) → AreAddedUpto 0 old old
  added_first old = record {
    added = λ key j l e. absurd (omega (arith, l));
    others = λ n no. refl;
  }

  pub added_next : (i : ℕ) (old new : List ℕ) (k : C) → ((other : C) → get_or keys i other ≡ k) → AreAddedUpto i old new
      → AreAddedUpto (i + 1) old (set new (length (bits k)) 1)
  added_next i old new k here h = record {
    added = λ key j l e. added_at new (length (bits key)) (length (bits k)) (elim (cases_lt j i) [
      | inl lt ↦ inr (h.added key j lt e)
      | inr le ↦
          let same : j ≡ i = omega arith in
          let is_key : key ≡ k = sym (rw same at e) ∙ here key in
          inl (rw is_key refl)
    ]);
    others = λ n no.
        get_or-set_other new (length (bits k)) n 1 1 (λ e. no k i (omega arith) (here k) (sym e))
        ∙ h.others n (λ key j l. no key j (omega (arith, l)));
  }

  pub added_all : (old new : List ℕ) → length new ≡ length old → AreAddedUpto (length keys) old new → AreLengthsAdded bits keys old new
  added_all old new size h = record {
    size = size;
    added = λ key c. h.added key c.0 c.1 c.2;
    others = λ n no. h.others n (λ key j l e. no key (j, l, e));
  }
