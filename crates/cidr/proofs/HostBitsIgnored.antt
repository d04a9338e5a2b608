-- What ignoring host bits gives beside strict reading, of one address and one length text.
use Rattle.std.proofs.Common.{ℕ, ◌-◌, Bool, List, take, drop, Result, Ok, Err, refl, sym, ◌∙◌, subst, inl, inr}
use Rattle.std.proofs.lemmas.Bool.{cases_lt, lt-ltb, le-ltb, cond_both}
use Rattle.cidr.specs.model.Bits.{bit_eq}
use Rattle.cidr.specs.model.Network.{width_of, zeros}
use Rattle.cidr.specs.model.Views.{seen}
use Rattle.cidr.specs.texts.Parsing.{ReadsSlashed, MadeBy, MendsHostPart, strict_network, holding_network}
use Rattle.cidr.proofs.Cuts.{one_length}
use Rattle.cidr.proofs.Views.{seen-itself}
use Rattle.cidr.specs.model.Errors.{AddressError}
use Rattle.cidr.specs.declared.errors.NetworkParseError.{NetworkParseError}
use Rattle.cidr.specs.declared.errors.NetworkParseError.TheVariants as parse_error
use Rattle.cidr.specs.declared.family.Family.{Family}

mends_new : (a : Family × List Bool) (n : ℕ) → MendsHostPart (strict_network a n) (holding_network a n)
mends_new a n =
    let w = width_of a.0 in
    elim (cases_lt w n) [
      | inl over ↦ rw (lt-ltb w n over) refl
      | inr within ↦
          rw (le-ltb w n within) (cond_both (bit_eq (drop n a.1) (zeros (w - n))) (Ok (take n a.1)) (Err parse_error.InvalidHostPart)
          (λ r. MendsHostPart {W = Family × List Bool} (seen (λ p. (a.0, p)) r) (Ok (a.0, take n a.1))) (λ same. refl) (λ other. refl))
    ]

module _ (back : List ℕ) (strict mended : Result (Family × List Bool) NetworkParseError) where
  pub mends : (returned : Result (Family × List Bool) AddressError) → ReadsSlashed (MadeBy (λ a. a) (λ n. n) strict_network) returned back strict
      → ReadsSlashed (MadeBy (λ a. a) (λ n. n) holding_network) returned back mended → MendsHostPart strict mended
  mends (Err x) h k = rw (h, k) refl
  mends (Ok a) (inl (n, l, h)) (inl (m, s, k)) =
      let made = sym (seen-itself strict) ∙ h in
      let other = sym (seen-itself mended) ∙ k in
      rw (made, other) (subst (λ x. MendsHostPart (strict_network a n) (holding_network a x)) (one_length back n m l s) (mends_new a n))
  mends (Ok a) (inl (n, l, h)) (inr (none, k)) = absurd (none n l)
  mends (Ok a) (inr (none, h)) (inl (m, s, k)) = absurd (none m s)
  mends (Ok a) (inr (none, h)) (inr (also, k)) = rw (h, k) refl
