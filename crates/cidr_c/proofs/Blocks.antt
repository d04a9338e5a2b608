-- Whether a block has an address, by the bits that two numbers share.
use Rattle.std.proofs.Common.{◌≡◌, ◌↔◌, ℕ, ◌+◌, ◌-◌, ◌/◌, ◌%◌, ◌^◌, ◌*◌, ◌<◌, ◌≤◌, ◌≢◌, Bool, true, false, refl, sym, ap, subst, ◌∙◌, arith, eq-eqb}
use Rattle.std.proofs.Math.Nat.{mod-eq_of_lt}
use Rattle.std.proofs.lemmas.Bool.{eqb-true}
use Rattle.std.proofs.lemmas.Nat.{mod_below, pow_pos, shr_split}
use Rattle.cidr.proofs.HalfNumbers.{shared-lower, shared-upper}
use Rattle.cidr_ext.specs.declared.registry.SpecialEntry.{SpecialEntry}
use Rattle.cidr_ext.specs.internal.Entries.{has_block}

same_bool : (a b : Bool) → (a ≡ true → b ≡ true) → (b ≡ true → a ≡ true) → a ≡ b
same_bool true b there back = sym (there refl)
same_bool false true there back = back refl
same_bool false false there back = refl

pub told : (w n : ℕ) (entry : SpecialEntry) (r : Bool) → (r ≡ true → n / 2 ^ (w - entry.len) ≡ entry.first / 2 ^ (w - entry.len))
    → (n / 2 ^ (w - entry.len) ≡ entry.first / 2 ^ (w - entry.len) → r ≡ true) → r ≡ has_block w n entry
unfolding has_block
told w n entry r there back = same_bool r _ (λ t. eq-eqb _ _ (there t)) (λ t. back (eqb-true _ _ t))

-- the bits of IPv4 are the last 32 of 64, and m is the lower half of the first address
pub told_ipv4 : (n m s : ℕ) (entry : SpecialEntry) (r : Bool) → entry.first < 2 ^ 32 → entry.len ≤ 32 → m ≡ entry.first % 2 ^ 64
    → ((k : ℕ) → k ≤ 64 → (k ≤ s) ↔ (n / 2 ^ (64 - k) ≡ m / 2 ^ (64 - k)))
    → (r ≡ true → 32 + entry.len ≤ s) → (32 + entry.len ≤ s → r ≡ true) → r ≡ has_block 32 n entry
told_ipv4 n m s entry r first len half shared there back =
    let same : m ≡ entry.first = half ∙ mod-eq_of_lt (omega (arith, first)) in
    let place : 64 - (32 + entry.len) ≡ 32 - entry.len = omega arith in
    let part = shared (32 + entry.len) (omega arith) in
    told 32 n entry r (λ t. rw (place, same) at (part.0 (there t))) (λ e. back (part.1 (rw (place, same) e)))

-- the first s bits of two halves are the same, and no more
abbrev Shares : ℕ → ℕ → ℕ → ℕ → Type 0
Shares w n o s = (k : ℕ) → k ≤ w → (k ≤ s) ↔ (n / 2 ^ (w - k) ≡ o / 2 ^ (w - k))

module _ (n o : ℕ) where
  of_whole : (p q s : ℕ) → p ≡ n → q ≡ o → Shares 128 p q s → Shares 128 n o s
  of_whole p q s is also h = subst (λ x. Shares 128 x o s) is (subst (λ y. Shares 128 p y s) also h)

  -- of numbers whose upper halves are the same
  pub shared_low : (l m s : ℕ) → n / 2 ^ 64 ≡ o / 2 ^ 64 → l ≡ n % 2 ^ 64 → m ≡ o % 2 ^ 64 → Shares 64 l m s → Shares 128 n o (64 + s)
  shared_low l m s e is also shared =
      let low : l < 2 ^ 64 = omega (arith, is, mod_below n (2 ^ 64) (pow_pos 64)) in
      let lower : m < 2 ^ 64 = omega (arith, also, mod_below o (2 ^ 64) (pow_pos 64)) in
      of_whole (n / 2 ^ 64 * 2 ^ 64 + l) (o / 2 ^ 64 * 2 ^ 64 + m) (64 + s)
      (ap (λ x. n / 2 ^ 64 * 2 ^ 64 + x) is ∙ shr_split n 64) (ap (λ x. o / 2 ^ 64 * 2 ^ 64 + x) also ∙ shr_split o 64)
      (shared-lower (n / 2 ^ 64) (o / 2 ^ 64) l m s e low lower shared)

  -- and of those whose upper halves are not
  pub shared_high : (u v s : ℕ) → u ≡ n / 2 ^ 64 → v ≡ o / 2 ^ 64 → u ≢ v → s ≤ 64 → Shares 64 u v s → Shares 128 n o s
  shared_high u v s is also other most shared =
      of_whole (u * 2 ^ 64 + n % 2 ^ 64) (v * 2 ^ 64 + o % 2 ^ 64) s
      (ap (λ x. x * 2 ^ 64 + n % 2 ^ 64) is ∙ shr_split n 64) (ap (λ x. x * 2 ^ 64 + o % 2 ^ 64) also ∙ shr_split o 64)
      (shared-upper u v (n % 2 ^ 64) (o % 2 ^ 64) s other (mod_below n (2 ^ 64) (pow_pos 64)) (mod_below o (2 ^ 64) (pow_pos 64)) most shared)
