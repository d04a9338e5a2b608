-- The parts of the headline on strings, bytes and networks, from what the calls promise.
use Rattle.std.proofs.Common.{◌≡◌, ◌↔◌, ℕ, Bool, List, Result, Ok, Err, IfErr, MatchResult, IsTrue, refl, sym, ap, ◌∙◌, subst, rules}
use Rattle.cidr.specs.either.IpAddress.{SpellsOne, ip_address_bits}
use Rattle.cidr.specs.either.IpNetwork.{IsAddressBits, IsLone, lone_network}
use Rattle.cidr.specs.model.Network.{BeginsWith, HoldsAll}
use Rattle.cidr.specs.bytes.Compact.{AreFirst}
use Rattle.cidr.specs.declared.addr.ip.IpAddr.{IpAddr}
use Rattle.cidr.specs.declared.addr.ip.IpAddr.TheVariants.{V4, V6}

one_value : {N E : Type 0} (r : Result N E) (m n : N) → r ≡ Ok m → r ≡ Ok n → m ≡ n
one_value r m n h k = cc

no_value : {N E : Type 0} (r : Result N E) (e : E) (n : N) → r ≡ Err e → r ≡ Ok n → ⊥
no_value r e n h k = cc

module _ {N E : Type 0} (Represents : List ℕ → N → Type 0) (IsRejected : List ℕ → E → Type 0) (text : List ℕ) where
  abbrev pub IsParsed : Result N E → Type 0
  IsParsed r = MatchResult r (Represents text) (λ e. IsRejected text e × ((n : N) → ¬ (Represents text n)))

  -- a network is parsed exactly of the strings that represent it
  pub parses_exactly : (r : Result N E) → IsParsed r → SpellsOne Represents → (n : N) → (r ≡ Ok n) ↔ Represents text n
  parses_exactly (Ok m) h one n = (λ e. subst (Represents text) (one_value _ m n refl e) h, λ other. ap Ok (one text m n h other))
  parses_exactly (Err e) h one n = (λ bad. absurd (no_value _ e n refl bad), λ other. absurd (h.1 n other))

  pub rejects : (r : Result N E) → IsParsed r → IfErr r (IsRejected text)
  rejects (Ok m) h = search rules
  rejects (Err e) h = h.0

-- what is printed of a network parses as it
pub parses_back : {N E : Type 0} (Represents : List ℕ → N → Type 0) (text printed shown : List ℕ) (r : Result N E) (a : N)
    → ((n : N) → (r ≡ Ok n) ↔ Represents text n) → printed ≡ shown → Represents printed a → text ≡ shown → r ≡ Ok a
parses_back Represents text printed shown r a exactly is represents e = (exactly a).1 (subst (λ t. Represents t a) (is ∙ sym e) represents)

-- a network is read exactly where its bytes come first
pub unpacks : {N E : Type 0} (IsNetwork : N → Type 0) (bytes : N → List ℕ) (input : List ℕ) (r : Result (N × ℕ) E)
    → ((n : N) (k : ℕ) → (r ≡ Ok (n, k)) ↔ (IsNetwork n × AreFirst k input (bytes n)))
    → (a : N) → IsNetwork a → (k : ℕ) → (r ≡ Ok (a, k)) ↔ AreFirst k input (bytes a)
unpacks IsNetwork bytes input r exactly a known k = (λ e. ((exactly a k).0 e).1, λ first. (exactly a k).1 (known, first))

-- one contains another where it has each of its addresses
pub holds_each : (IsAddress : List Bool → Type 0) (p q : List Bool) (r : Bool) → IsTrue r ↔ HoldsAll IsAddress p q
    → IsTrue r ↔ ((x : List Bool) → IsAddress x × BeginsWith x q → IsAddress x × BeginsWith x p)
unfolding HoldsAll
holds_each IsAddress p q r h = (λ t x (w, i). (w, h.0 t x w i), λ f. h.1 (λ x w i. (f x (w, i)).1))

-- the network of an address alone has its bits
lone_address : (a : IpAddr) → IsLone (lone_network a) → IsAddressBits (ip_address_bits a)
lone_address (V4 a) h = h
lone_address (V6 a) h = h

pub contains_address : (a : IpAddr) (p : List Bool) (test : Bool) → IsLone (lone_network a) → IsTrue test ↔ BeginsWith (ip_address_bits a) p
    → IsTrue test ↔ (IsAddressBits (ip_address_bits a) × BeginsWith (ip_address_bits a) p)
contains_address a p test lone h = (λ t. (lone_address a lone, h.0 t), λ both. h.1 both.1)
