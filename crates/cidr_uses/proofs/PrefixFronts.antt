-- Bytes that begin with a network's own are read as it.
use Rattle.std.proofs.Common.{◌≡◌, ℕ, Bool, List, ◌++◌, length, take, Result, Ok, Err, refl, ap, ap₂, ◌∙◌, subst, take_at}
use Rattle.cidr.specs.bytes.Prefix.{prefix_bytes, SpellsPrefix, ReadsPrefix}
use Rattle.cidr.specs.model.Views.{seen}
use Rattle.cidr.specs.declared.errors.PrefixBytesError.{PrefixBytesError}

module _ {C : Type 0} (bits : C → List Bool) (determined : (a b : C) → bits a ≡ bits b → a ≡ b) where
  -- what is read is told by its bits
  same_read : (c : C) (k : ℕ) (r : Result (C × ℕ) PrefixBytesError) → seen {V = List Bool × ℕ} (λ p. (bits p.0, p.1)) r ≡ Ok (bits c, k) → r ≡ Ok (c, k)
  same_read c k (Ok p) h =
      let pair : (bits p.0, p.1) ≡ (bits c, k) = cc in
      ap₂ (λ x n. Ok (x, n)) (determined p.0 c (ap (λ (q : List Bool × ℕ). q.0) pair)) (ap (λ (q : List Bool × ℕ). q.1) pair)
  same_read c k (Err e) h = absurd (cc)

  pub reads_prefix_front : (w : ℕ) (input written : List ℕ) (c : C) (r : Result (C × ℕ) PrefixBytesError) → ReadsPrefix w input (seen {V = List Bool × ℕ} (λ p. (bits p.0, p.1)) r)
      → written ≡ prefix_bytes (bits c) → SpellsPrefix w written (bits c) → (rest : List ℕ) → input ≡ prefix_bytes (bits c) ++ rest
      → r ≡ Ok (c, length (prefix_bytes (bits c)))
  reads_prefix_front w input written c r reads is spells rest e =
      let bytes = prefix_bytes (bits c) in
      let first : take (length bytes) input ≡ bytes = ap (take (length bytes)) e ∙ take_at bytes rest (length bytes) refl in
      same_read c (length bytes) r ((reads.exactly (bits c) (length bytes)).1 (bytes, (refl, first), subst (λ t. SpellsPrefix w t (bits c)) is spells))
