-- Addresses: none begins with another one, and the first and the last one of a network.
use Rattle.std.proofs.Common.{◌≡◌, ℕ, ◌-◌, ◌≤◌, Bool, true, false, List, [], ◌∷◌, length, get_or, take, drop, replicate, length-append, refl, sym, ap, ◌∙◌, arith}
use Rattle.std.proofs.lemmas.Bool.{false≢true, true≢false}
use Rattle.std.proofs.lemmas.List.{length-replicate, length-take, length-take-le, take_all}
use Rattle.cidr.specs.model.Network.{HasWidth, first_of, last_of}
use Rattle.cidr_table.specs.model.CoverAddresses.{IsIpAddressBits}
use Rattle.cidr_sets.specs.model.Ranges.{AreBeginless, AreComplete, HaveEnds, IsPadded, any_first, any_last}

pub plain_beginless : (w : ℕ) → AreBeginless (HasWidth w)
plain_beginless w a b ha hb h = sym (take_all (length b) a (omega (arith, ha, hb))) ∙ h

pub ip_beginless : AreBeginless IsIpAddressBits
ip_beginless [] b ha hb h = absurd ha
ip_beginless (x ∷ a) [] ha hb h = absurd hb
ip_beginless (false ∷ a) (false ∷ b) ha hb h = ap (λ t. false ∷ t) (plain_beginless 32 a b ha hb (ap (drop 1) h))
ip_beginless (true ∷ a) (true ∷ b) ha hb h = ap (λ t. true ∷ t) (plain_beginless 128 a b ha hb (ap (drop 1) h))
ip_beginless (true ∷ a) (false ∷ b) ha hb h = absurd (true≢false (ap (λ t. get_or t 0 true) h))
ip_beginless (false ∷ a) (true ∷ b) ha hb h = absurd (false≢true (ap (λ t. get_or t 0 true) h))

pub plain_complete : (w : ℕ) → w ≤ 129 → AreComplete (HasWidth w)
plain_complete w fits a la =
    let len : length (take w a) ≡ w = length-take-le w a (omega (arith, la, fits)) in
    (take w a, len, ap (λ k. take k a) len)

pub ip_complete : AreComplete IsIpAddressBits
ip_complete [] la = absurd (omega (arith, la))
ip_complete (false ∷ a) la =
    let len : length (take 32 a) ≡ 32 = length-take-le 32 a (omega (arith, la)) in
    (false ∷ take 32 a, len, ap (λ k. false ∷ take k a) len)
ip_complete (true ∷ a) la = (true ∷ a, omega (arith, la), ap (λ t. true ∷ t) (take_all (length a) a (omega arith)))

pub plain_ends : (w : ℕ) → w ≤ 129 → (p : List Bool) → length p ≤ 129 → IsPadded false p (first_of w p) × IsPadded true p (last_of w p)
plain_ends w fits p short = ((w - length p, refl, omega (arith, fits, short)), (w - length p, refl, omega (arith, fits, short)))

pub any_ends : (p : List Bool) → length p ≤ 129 → IsPadded false p (any_first p) × IsPadded true p (any_last p)
any_ends [] short = ((33, refl, omega arith), (129, refl, omega arith))
any_ends (false ∷ p) short = ((32 - length p, refl, omega (arith, short)), (32 - length p, refl, omega (arith, short)))
any_ends (true ∷ p) short = ((128 - length p, refl, omega (arith, short)), (128 - length p, refl, omega (arith, short)))

pub plain_inside : (w : ℕ) → HaveEnds (HasWidth w) (first_of w) (last_of w)
plain_inside w p a la b =
    let short : length p ≤ w = omega (arith, ap length b, length-take (length p) a, la) in (
      omega (arith, length-append p (replicate (w - length p) false), length-replicate (w - length p) false, short),
      omega (arith, length-append p (replicate (w - length p) true), length-replicate (w - length p) true, short),
    )

pub any_inside : HaveEnds IsIpAddressBits any_first any_last
any_inside [] a h b = (refl, refl)
any_inside (x ∷ p) [] h b = absurd h
any_inside (false ∷ p) (false ∷ a) h b = plain_inside 32 p a h (ap (drop 1) b)
any_inside (true ∷ p) (true ∷ a) h b = plain_inside 128 p a h (ap (drop 1) b)
any_inside (true ∷ p) (false ∷ a) h b = absurd (false≢true (ap (λ t. get_or t 0 true) b))
any_inside (false ∷ p) (true ∷ a) h b = absurd (true≢false (ap (λ t. get_or t 0 true) b))

pub v4_fits : 32 ≤ 129
v4_fits = omega arith

pub v6_fits : 128 ≤ 129
v6_fits = omega arith
