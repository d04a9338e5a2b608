-- The longest of the entries that pass a test.
use Rattle.std.proofs.Common.{◌≡◌, ℕ, ◌+◌, ◌<◌, ◌≤◌, ◌⊎◌, inl, inr, Bool, true, false, IsTrue, ◌↔◌, List, [], ◌∷◌, ◌++◌, length, take, get_or, sym, ap, ◌∙◌, subst, arith, Option, Some, None, MatchOption, Bor}
use Rattle.std.proofs.lemmas.List.{take_more}
use Rattle.std.proofs.lemmas.List.Elements.{Contains-push, Contains-push_cases, Contains-append_left}
use Rattle.std.specs.List.{Contains}
use Rattle.cidr_ext.specs.declared.registry.SpecialEntry.{SpecialEntry}
use Rattle.cidr_ext.specs.internal.Entries.{IsOneLongest}

module _ (p : SpecialEntry → Bool) (xs : List SpecialEntry) (i : ℕ) (d : SpecialEntry) (within : i < length xs) where
  more : take (i + 1) xs ≡ take i xs ++ get_or xs i d ∷ []
  more = take_more xs i d within

  cases_more : (entry : SpecialEntry) → Contains (take (i + 1) xs) entry → Contains (take i xs) entry ⊎ (get_or xs i d ≡ entry)
  cases_more entry h = Contains-push_cases (take i xs) (get_or xs i d) entry (subst (λ l. Contains l entry) more h)

  old : (entry : SpecialEntry) → Contains (take i xs) entry → Contains (take (i + 1) xs) entry
  old entry h = subst (λ l. Contains l entry) (sym more) (Contains-append_left (take i xs) (get_or xs i d ∷ []) entry h)

  pub takes : (r r' : Option (Bor SpecialEntry)) (y : Bor SpecialEntry) → r' ≡ Some y → y.now ≡ get_or xs i d → IsOneLongest p (take i xs) r
      → p (get_or xs i d) ≡ true → (longer : Bool) → longer ≡ true → MatchOption r (IsTrue longer) (λ b. IsTrue longer ↔ b.now.len < (get_or xs i d).len)
      → IsOneLongest p (take (i + 1) xs) r'
  takes r r' y is at inv passes longer is_so tells =
      let listed : Contains (take (i + 1) xs) y.now = subst (λ l. Contains l y.now) (sym more) (subst (Contains (take i xs ++ get_or xs i d ∷ [])) (sym at) (Contains-push (take i xs) (get_or xs i d))) in
      let best : (entry : SpecialEntry) → Contains (take (i + 1) xs) entry → p entry ≡ true → entry.len ≤ y.now.len = λ entry h t. elim (cases_more entry h) [
        | inl before ↦ below r inv tells entry before t
        | inr same ↦ let e : entry.len ≡ y.now.len = ap (λ (q : SpecialEntry). q.len) (sym same ∙ sym at) in omega arith
      ] in
      rw is (listed, ap p at ∙ passes, best)
    where
      below : (r : Option (Bor SpecialEntry)) → IsOneLongest p (take i xs) r → MatchOption r (IsTrue longer) (λ b. IsTrue longer ↔ b.now.len < (get_or xs i d).len)
          → (entry : SpecialEntry) → Contains (take i xs) entry → p entry ≡ true → entry.len ≤ y.now.len
      below None inv tells entry h t = absurd (inv entry h t)
      below (Some b) inv tells entry h t =
          let e : (get_or xs i d).len ≡ y.now.len = ap (λ (q : SpecialEntry). q.len) (sym at) in
          let l : b.now.len < (get_or xs i d).len = tells.0 is_so in
          omega (arith, inv.2 entry h t)

  pub keeps : (r r' : Option (Bor SpecialEntry)) → r' ≡ r → IsOneLongest p (take i xs) r
      → ((p (get_or xs i d) ≡ false) ⊎ ((longer : Bool) × (longer ≡ false) × MatchOption r (IsTrue longer) (λ b. IsTrue longer ↔ b.now.len < (get_or xs i d).len)))
      → IsOneLongest p (take (i + 1) xs) r'
  keeps r r' is inv why = rw is (go r inv why)
    where
      go : (r : Option (Bor SpecialEntry)) → IsOneLongest p (take i xs) r
          → ((p (get_or xs i d) ≡ false) ⊎ ((longer : Bool) × (longer ≡ false) × MatchOption r (IsTrue longer) (λ b. IsTrue longer ↔ b.now.len < (get_or xs i d).len)))
          → IsOneLongest p (take (i + 1) xs) r
      go None inv why = λ entry h t. elim (cases_more entry h) [
        | inl before ↦ inv entry before t
        | inr same ↦ elim why [
          | inl fails ↦ let e : p entry ≡ false = ap p (sym same) ∙ fails in cc
          | inr k ↦ cc
        ]
      ]
      go (Some b) inv why = (
        old b.now inv.0,
        inv.1,
        λ entry h t. elim (cases_more entry h) [
          | inl before ↦ inv.2 entry before t
          | inr same ↦ elim why [
            | inl fails ↦ let e : p entry ≡ false = ap p (sym same) ∙ fails in cc
            | inr k ↦ let e : entry.len ≡ (get_or xs i d).len = ap (λ (q : SpecialEntry). q.len) (sym same) in
                let shorter : b.now.len < (get_or xs i d).len → ⊥ = λ l. (let t : k.0 ≡ true = k.2.1 l in let f : k.0 ≡ false = k.1 in cc) in omega (arith, shorter)
          ]
        ],
      )
