-- Entries of which a computation finds no two with the same block.
use Rattle.std.proofs.Common.{◌≡◌, ℕ, ◌+◌, ◌-◌, ◌/◌, ◌^◌, ◌<◌, ◌≤◌, ◌⊎◌, inl, inr, Bool, true, false, List, [], ◌∷◌, ◌&&◌, not, nat_lt, sym, ap, ap₂, ◌∙◌, subst, arith, refl, eq-eqb, ltb-true}
use Rattle.std.proofs.lemmas.List.Elements.{Contains-push_cases, Contains-append_cases}
use Rattle.std.specs.List.{Contains}
use Rattle.cidr_ext.specs.declared.registry.SpecialEntry.{SpecialEntry}
use Rattle.cidr_ext.specs.internal.Entries.{has_block, same_block, none_same, are_entries}

both : (a b : Bool) → (a && b) ≡ true → (a ≡ true) × (b ≡ true)
both true b h = (refl, h)
both false b h = cc

none : (x : SpecialEntry) → Contains [] x → ⊥
none x h = omega (arith, h.1)

uncons : (p : SpecialEntry) (entries : List SpecialEntry) (x : SpecialEntry) → Contains (p ∷ entries) x → (p ≡ x) ⊎ Contains entries x
uncons p entries x h = elim (Contains-append_cases (p ∷ []) entries x h) [
  | inl this ↦ (elim (Contains-push_cases [] p x this) [ inl never ↦ absurd (none x never) | inr same ↦ inl same ])
  | inr later ↦ inr later
]

module _ (w : ℕ) where
  with_same : (p q : SpecialEntry) → p.len ≡ q.len → p.first / 2 ^ (w - p.len) ≡ q.first / 2 ^ (w - q.len) → same_block w p q ≡ true
  unfolding same_block has_block
  with_same p q len first =
      let e : p.first / 2 ^ (w - q.len) ≡ q.first / 2 ^ (w - q.len) = ap (λ k. p.first / 2 ^ (w - k)) (sym len) ∙ first in
      ap₂ (λ a b. a && b) (eq-eqb p.len q.len len) (eq-eqb (p.first / 2 ^ (w - q.len)) (q.first / 2 ^ (w - q.len)) e)

  apart : (p : SpecialEntry) (entries : List SpecialEntry) → none_same w p entries ≡ true → (q : SpecialEntry) → Contains entries q → same_block w p q ≡ true → ⊥
  unfolding none_same
  apart p [] h q listed c = none q listed
  apart p (r ∷ entries) h q listed c =
      let parts = both (not (same_block w p r)) (none_same w p entries) h in
      elim (uncons r entries q listed) [
        | inl same ↦ let e : same_block w p r ≡ true = ap (same_block w p) same ∙ c in let k : not (same_block w p r) ≡ true = parts.0 in let f : not (same_block w p r) ≡ false = ap not e in cc
        | inr later ↦ apart p entries parts.1 q later c
      ]

  pub fits : (entries : List SpecialEntry) → are_entries w entries ≡ true → (p : SpecialEntry) → Contains entries p → (p.first < 2 ^ w) × (p.len ≤ w)
  unfolding are_entries
  fits [] h p listed = absurd (none p listed)
  fits (r ∷ entries) h p listed =
      let parts = both (nat_lt r.first (2 ^ w) && nat_lt r.len (w + 1)) (none_same w r entries && are_entries w entries) h in
      let rest = both (none_same w r entries) (are_entries w entries) parts.1 in
      let here = both (nat_lt r.first (2 ^ w)) (nat_lt r.len (w + 1)) parts.0 in
      elim (uncons r entries p listed) [
        | inl same ↦ (let below : r.first < 2 ^ w = ltb-true _ _ here.0 in let short : r.len < w + 1 = ltb-true _ _ here.1 in
            subst (λ (x : SpecialEntry). (x.first < 2 ^ w) × (x.len ≤ w)) same (below, omega arith))
        | inr later ↦ fits entries rest.1 p later
      ]

  pub alike : (entries : List SpecialEntry) → are_entries w entries ≡ true → (p q : SpecialEntry) → Contains entries p → Contains entries q → p.len ≡ q.len
      → p.first / 2 ^ (w - p.len) ≡ q.first / 2 ^ (w - q.len) → p ≡ q
  unfolding are_entries
  alike [] h p q in_p in_q len first = absurd (none p in_p)
  alike (r ∷ entries) h p q in_p in_q len first =
      let parts = both (nat_lt r.first (2 ^ w) && nat_lt r.len (w + 1)) (none_same w r entries && are_entries w entries) h in
      let rest = both (none_same w r entries) (are_entries w entries) parts.1 in
      elim (uncons r entries p in_p) [
        | inl is_p ↦ (elim (uncons r entries q in_q) [
          | inl is_q ↦ sym is_p ∙ is_q
          | inr later ↦ absurd (apart r entries rest.0 q later (ap (λ x. same_block w x q) is_p ∙ with_same p q len first))
        ])
        | inr later_p ↦ (elim (uncons r entries q in_q) [
          | inl is_q ↦ absurd (apart r entries rest.0 p later_p (ap (λ x. same_block w x p) is_q ∙ with_same q p (sym len) (sym first)))
          | inr later_q ↦ alike entries rest.1 p q later_p later_q len first
        ])
      ]
