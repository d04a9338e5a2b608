-- What two parsers of one string, a strict one and one that ignores set bits after the prefix, have to do with each other.
use Rattle.std.proofs.Common.{◌≡◌, ◌↔◌, ℕ, Bool, List, take, Result, Ok, Err, IsTrue, is_ok, nat_lt, refl, sym, ap, ◌∙◌, subst, inl, inr}
use Rattle.std.proofs.lemmas.Bool.{cond_both}
use Rattle.cidr.specs.either.IpAddress.{SpellsOne}
use Rattle.cidr.specs.model.Errors.{AddressError}
use Rattle.cidr.specs.model.Host.{host_of, network_of}
use Rattle.cidr.specs.model.Network.{too_long}
use Rattle.cidr.specs.model.Views.{seen, in_family}
use Rattle.cidr.specs.texts.AddressText.{IsAddressText, Reads}
use Rattle.cidr.specs.texts.Ipv4Text.{IsIpv4Text}
use Rattle.cidr.specs.texts.Messages.{ipv4_error}
use Rattle.cidr.specs.texts.NetworkText.{slash, IsNetworkText}
use Rattle.cidr.specs.texts.Parsing.{ReadsSlashed, ReadsCut, MadeBy, MendsHostPart, strict_network, holding_network}
use Rattle.cidr.specs.texts.Refusal.{Lacks, CutsAtLastSlash, ReadsNetwork}
use Rattle.cidr.specs.texts.Results.{ParsesAround}
use Rattle.cidr.specs.declared.errors.NetworkParseError.{NetworkParseError}
use Rattle.cidr.specs.declared.errors.NetworkParseError.TheVariants as parse_error
use Rattle.cidr.specs.declared.family.Family.{Family}
use Rattle.cidr.specs.declared.family.Family.TheVariants.{Ipv4}
use Rattle.cidr_uses.specs.Reading.{IsMasked}

pub is_it : (text : List ℕ) (r : Result (List Bool) NetworkParseError) → ReadsNetwork Ipv4 text r → IsTrue (is_ok r) ↔ ((n : List Bool) × IsNetworkText Ipv4 text n)
is_it text (Ok n) h = (λ t. (n, h), λ p. refl)
is_it text (Err e) h = (λ t. absurd (cc), λ p. absurd (h.1 p.0 p.1))

abbrev shown : List Bool → Family × List Bool
shown = in_family (λ _. Ipv4) (λ a. a)

seen_itself : (r : Result (Family × List Bool) NetworkParseError) → seen (λ n. n) r ≡ r
seen_itself (Ok x) = refl
seen_itself (Err e) = refl

seen_slashed : (make : Family × List Bool → ℕ → Result (Family × List Bool) NetworkParseError) (returned : Result (List Bool) AddressError) (back : List ℕ)
    (r : Result (List Bool) NetworkParseError) → ReadsSlashed (MadeBy shown shown make) returned back r
    → ReadsSlashed (MadeBy (λ a. a) (λ n. n) make) (seen shown returned) back (seen shown r)
seen_slashed make (Err x) back r h = ap (seen shown) h
seen_slashed make (Ok a) back r (inl (n, l, h)) = inl (n, l, seen_itself (seen shown r) ∙ h)
seen_slashed make (Ok a) back r (inr (none, h)) = inr (none, ap (seen shown) h)

inner : {X E : Type 0} {x y : X} → ◌≡◌ {A = Result X E} (Ok x) (Ok y) → x ≡ y
inner h = cc

no_value : {X E : Type 0} {x : X} {e : E} → ¬ (◌≡◌ {A = Result X E} (Ok x) (Err e))
no_value h = absurd (cc)

held : (a : List Bool) (n : ℕ) (k : List Bool) → seen shown (Ok k) ≡ holding_network (Ipv4, a) n → k ≡ take n a
held a n k =
    cond_both (nat_lt 32 n) (Err (parse_error.NetworkLengthTooLongError (too_long n Ipv4))) (Ok (Ipv4, host_of a n))
    (λ r. seen shown (Ok k) ≡ seen (λ h. (h.0, network_of h.1)) r → k ≡ take n a)
    (λ over h. absurd (no_value h)) (λ within h. ap (λ x. x.1) (inner h))

same_read : SpellsOne IsIpv4Text → (text : List ℕ) (r q : Result (List Bool) AddressError) → Reads (IsAddressText Ipv4) ipv4_error text r
    → Reads (IsAddressText Ipv4) ipv4_error text q → r ≡ q
same_read one text (Ok a) (Ok b) h k = ap Ok (one text a b h k)
same_read one text (Ok a) (Err x) h k = absurd (k.1 a h)
same_read one text (Err x) (Ok b) h k = absurd (h.1 b k)
same_read one text (Err x) (Err y) h k = ap Err (h.0 ∙ sym k.0)

module _ (Asked : List ℕ → Result (List Bool) AddressError → Type 0)
    (known : (text : List ℕ) (r : Result (List Bool) AddressError) → Asked text r → Reads (IsAddressText Ipv4) ipv4_error text r)
    (text : List ℕ) where
  -- a bit after the prefix was found set, so the string has a slash
  slashed : ParsesAround Asked shown shown strict_network (λ a. a) text (Err parse_error.InvalidHostPart)
      → ReadsCut Asked (MadeBy shown shown strict_network) text (Err parse_error.InvalidHostPart)
  slashed (inl (lacks, (Ok a, asked, h))) = absurd (cc)
  slashed (inl (lacks, (Err x, asked, h))) = absurd (cc)
  slashed (inr h) = h

  -- the network that a length within the width leaves of the address
  masked_at : (n : List Bool) (front back : List ℕ) (returned : Result (List Bool) AddressError) → CutsAtLastSlash text front back
      → Reads (IsAddressText Ipv4) ipv4_error front returned → ReadsSlashed (MadeBy shown shown holding_network) returned back (Ok n) → IsMasked text n
  masked_at n front back (Err x) cuts reads h = absurd (cc)
  masked_at n front back (Ok a) cuts reads (inl (len, l, h)) = (back, a, len, record { front = front; cut = cuts; front_text = reads }, l, held a len n h)
  masked_at n front back (Ok a) cuts reads (inr (none, h)) = absurd (cc)

  module _ (one : SpellsOne IsIpv4Text)
      (cut : (text front back other rest : List ℕ) → CutsAtLastSlash text front back → CutsAtLastSlash text other rest → (front ≡ other) × (back ≡ rest))
      (has : (text front back : List ℕ) → CutsAtLastSlash text front back → ¬ (Lacks slash text))
      (mends : (returned : Result (Family × List Bool) AddressError) (back : List ℕ) (strict mended : Result (Family × List Bool) NetworkParseError)
      → ReadsSlashed (MadeBy (λ a. a) (λ n. n) strict_network) returned back strict
      → ReadsSlashed (MadeBy (λ a. a) (λ n. n) holding_network) returned back mended → MendsHostPart strict mended)
      (strict : ParsesAround Asked shown shown strict_network (λ a. a) text (Err parse_error.InvalidHostPart)) where
    pub never_refused : (e : NetworkParseError) → ¬ (ParsesAround Asked shown shown holding_network (λ a. a) text (Err e))
    never_refused e (inl (lacks, _)) = let h = slashed strict in has text h.front h.back h.cut lacks
    never_refused e (inr k) =
        let h = slashed strict in
        let (fronts, backs) = cut text h.front h.back k.front k.back h.cut k.cut in
        let same : h.returned ≡ k.returned =
        same_read one k.front h.returned k.returned (subst (λ t. Reads (IsAddressText Ipv4) ipv4_error t h.returned) fronts (known h.front h.returned h.asked))
        (known k.front k.returned k.asked) in
        let first = seen_slashed strict_network h.returned h.back (Err parse_error.InvalidHostPart) h.follows in
        let second = seen_slashed holding_network k.returned k.back (Err e) k.follows in
        let both = mends (seen shown h.returned) h.back (seen shown (Err parse_error.InvalidHostPart)) (seen shown (Err e)) first
        (subst (λ b. ReadsSlashed (MadeBy (λ a. a) (λ n. n) holding_network) (seen shown h.returned) b (seen shown (Err e))) (sym backs)
        (subst (λ r. ReadsSlashed (MadeBy (λ a. a) (λ n. n) holding_network) (seen shown r) k.back (seen shown (Err e))) (sym same) second)) in
        absurd (cc)

    pub masked : (n : List Bool) → ParsesAround Asked shown shown holding_network (λ a. a) text (Ok n) → IsMasked text n
    masked n (inl (lacks, _)) = let h = slashed strict in absurd (has text h.front h.back h.cut lacks)
    masked n (inr k) = masked_at n k.front k.back k.returned k.cut (known k.front k.returned k.asked) k.follows
