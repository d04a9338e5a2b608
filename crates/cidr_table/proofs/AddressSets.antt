-- What is covered, by addresses in place of long lists, and networks by their family.
use Rattle.std.proofs.Common.{◌≡◌, ◌↔◌, ℕ, ◌-◌, ◌≤◌, Bool, true, false, List, [], ◌∷◌, ◌++◌, length, take, replicate, refl, ap, arith, length-append}
use Rattle.std.proofs.lemmas.List.{take_at, length-replicate, length-take-le}
use Rattle.std.specs.List.{Contains}
use Rattle.cidr.specs.model.Network.{BeginsWith}
use Rattle.cidr_table.specs.model.Cover.{Covers, CoverSame, AreNetworks}
use Rattle.cidr_table.specs.model.CoverAddresses.{IsIpAddressBits, IsIpNetworkBits, AreIpNetworks, HoldSameIp}
use Rattle.cidr_table.proofs.Halves.{begins_itself, begins_begins, begins_both}
use Rattle.cidr_table.proofs.Beginnings.{begins_length}

-- addresses fit the networks: each long list begins with one, and a network that begins a long list begins its address
record FitAddresses (w : ℕ) (IsAddress : List Bool → Type 0) (networks : List (List Bool)) : Type 0 where
  pub within : (x : List Bool) → IsAddress x → length x ≤ w
  pub some : (a : List Bool) → length a ≡ w → (x : List Bool) × IsAddress x × BeginsWith a x
  pub tell : (a x p : List Bool) → length a ≡ w → IsAddress x → BeginsWith a x → Contains networks p → BeginsWith a p
      → BeginsWith x p

-- the same addresses are held
abbrev HoldSame : (List Bool → Type 0) → List (List Bool) → List (List Bool) → Type 0
HoldSame IsAddress these those = (x : List Bool) → IsAddress x → Covers these x ↔ Covers those x

held_from_covered : (w : ℕ) (IsAddress : List Bool → Type 0) (these those : List (List Bool))
    → FitAddresses w IsAddress those → ((a : List Bool) → length a ≡ w → Covers these a → Covers those a)
    → (x : List Bool) → IsAddress x → Covers these x → Covers those x
held_from_covered w IsAddress these those fit same x h c =
    let rest = replicate (w - length x) false in
    let la : length (x ++ rest) ≡ w = omega
    (arith, fit.within x h, length-append x rest, length-replicate (w - length x) false) in
    let b : BeginsWith (x ++ rest) x = take_at x rest (length x) refl in
    let d = same (x ++ rest) la (c.0, c.1, begins_begins (x ++ rest) x c.0 b c.2) in
    (d.0, d.1, fit.tell (x ++ rest) x d.0 la h b d.1 d.2)

covered_from_held : (w : ℕ) (IsAddress : List Bool → Type 0) (these those : List (List Bool))
    → FitAddresses w IsAddress these → ((x : List Bool) → IsAddress x → Covers these x → Covers those x)
    → (a : List Bool) → length a ≡ w → Covers these a → Covers those a
covered_from_held w IsAddress these those fit same a la c =
    let x = fit.some a la in
    let d = same x.0 x.1 (c.0, c.1, fit.tell a x.0 c.0 la x.1 x.2 c.1 c.2) in
    (d.0, d.1, begins_begins a x.0 d.0 x.2 d.2)

by_addresses : (w : ℕ) (IsAddress : List Bool → Type 0) (these those : List (List Bool))
    → FitAddresses w IsAddress these → FitAddresses w IsAddress those
    → CoverSame w these those ↔ HoldSame IsAddress these those
by_addresses w IsAddress these those f g = (
  λ h x k. (
    held_from_covered w IsAddress these those g
        (λ a la. (h a la).0) x k,
    held_from_covered w IsAddress those these f (λ a la. (h a la).1) x k,
  ),
  λ h a la. (
    covered_from_held w IsAddress these those f
        (λ x k. (h x k).0) a la,
    covered_from_held w IsAddress those these g (λ x k. (h x k).1) a la,
  ),
)

fit_width : (w v : ℕ) (networks : List (List Bool)) → v ≤ w → AreNetworks v networks
    → FitAddresses w (λ x. length x ≡ v) networks
fit_width w v networks within short = record {
  within = λ x h. omega (arith, h);
  some = λ a la.
      let e : length (take v a) ≡ v = length-take-le v a (omega (arith, la)) in
      (take v a, e, ap (λ n. take n a) e);
  tell = λ a x p la h b c k. begins_both a x p b k (omega (arith, h, short p c));
}

pub covers_by_width : (w v : ℕ) (these those : List (List Bool)) → v ≤ w → AreNetworks v these → AreNetworks v those
    → CoverSame w these those ↔ CoverSame v these those
covers_by_width w v these those within h k = by_addresses w (λ x. length x ≡ v) these those
    (fit_width w v these within h) (fit_width w v those within k)

ip_within : (x : List Bool) → IsIpAddressBits x → length x ≤ 129
ip_within [] h = absurd h
ip_within (false ∷ x) h = omega (arith, h)
ip_within (true ∷ x) h = omega (arith, h)

ip_some : (a : List Bool) → length a ≡ 129 → (x : List Bool) × IsIpAddressBits x × BeginsWith a x
ip_some [] la = absurd (omega (arith, la))
ip_some (false ∷ a) la =
    let e : length (take 32 a) ≡ 32 = length-take-le 32 a (omega (arith, la)) in
    (false ∷ take 32 a, e, ap (λ n. false ∷ take n a) e)
ip_some (true ∷ a) la = (true ∷ a, omega (arith, la), begins_itself (true ∷ a))

ip_shorter : (a x p : List Bool) → IsIpAddressBits x → BeginsWith a x → IsIpNetworkBits p → BeginsWith a p → length p ≤ length x
ip_shorter a [] p h b n k = absurd h
ip_shorter a (b' ∷ x) [] h b n k = omega arith
ip_shorter [] (b' ∷ x) (c ∷ p) h b n k = absurd (cc)
ip_shorter (y ∷ a) (false ∷ x) (false ∷ p) h b n k = omega (arith, h, n)
ip_shorter (y ∷ a) (true ∷ x) (true ∷ p) h b n k = omega (arith, h, n)
ip_shorter (y ∷ a) (false ∷ x) (true ∷ p) h b n k = absurd (cc)
ip_shorter (y ∷ a) (true ∷ x) (false ∷ p) h b n k = absurd (cc)

fit_ip : (networks : List (List Bool)) → AreIpNetworks networks → FitAddresses 129 IsIpAddressBits networks
fit_ip networks short = record {
  within = ip_within;
  some = ip_some;
  tell = λ a x p la h b c k. begins_both a x p b k (ip_shorter a x p h b (short p c) k);
}

pub covers_by_ip : (these those : List (List Bool)) → AreIpNetworks these → AreIpNetworks those
    → CoverSame 129 these those ↔ HoldSameIp these those
covers_by_ip these those h k = by_addresses 129 IsIpAddressBits these those (fit_ip these h) (fit_ip those k)

-- what begins a network of either family is one
pub ip_beginning : (p q : List Bool) → IsIpNetworkBits p → BeginsWith p q → IsIpNetworkBits q
ip_beginning p [] n b = tt
ip_beginning [] (c ∷ q) n b = absurd (cc)
ip_beginning (false ∷ p) (false ∷ q) n b = omega (arith, n, begins_length (false ∷ p) (false ∷ q) b)
ip_beginning (true ∷ p) (true ∷ q) n b = omega (arith, n, begins_length (true ∷ p) (true ∷ q) b)
ip_beginning (false ∷ p) (true ∷ q) n b = absurd (cc)
ip_beginning (true ∷ p) (false ∷ q) n b = absurd (cc)
