-- Steps of hosts: where they stay in the network, and how they undo each other.
use Rattle.std.proofs.Common.{◌≡◌, ℕ, ◌+◌, ◌-◌, ◌%◌, ◌<◌, ◌≤◌, Bool, true, false, List, ◌++◌, length, take, drop, Some, None, refl, sym, ap, ◌∙◌, arith, length-append, length-drop, take-append-drop, take_at, drop_at}
use Rattle.std.proofs.Math.Nat.{mod-eq_of_lt, add-mod_right, add-mod-mod, mod-add-mod}
use Rattle.std.proofs.lemmas.Bool.{false_from_ne_true}
use Rattle.std.proofs.lemmas.List.{length-replicate}
use Rattle.std.proofs.lemmas.Nat.{mod_below, pow_pos}
use Rattle.cidr.specs.model.Bits.{bits, number, bit_eq}
use Rattle.cidr.specs.laws.BitLaws.{bits-number, length-bits, number-lt, number-bits, bit_eq_Decides}
use Rattle.cidr.specs.model.Network.{zeros, ones, first_of, last_of}
use Rattle.cidr.specs.laws.NetworkLaws.{length-take-within}
use Rattle.cidr.specs.model.Host.{Host, IsHost, network_of, host_part, host_count, with_host_part, stepped_up, stepped_down, WrapsUp, WrapsDown, next_of, previous_of}
use Rattle.cidr.proofs.NetworkNumbers.{same_from_numbers, number-zeros, number-ones}

-- ---- the host part of a host, and the host with a host part
pub part_within : (w : ℕ) (h : Host) → IsHost w h → host_part h < host_count w h
part_within w h is =
    let l : length (drop h.len h.address) ≡ w - h.len = omega (arith, length-drop h.len h.address, is.0, is.1) in
    rw l at (number-lt (drop h.len h.address))

pub IsHost-with_part : (w n : ℕ) (h : Host) → IsHost w h → IsHost w (with_host_part w h n)
IsHost-with_part w n h is =
    (omega (arith, length-append (network_of h) (bits (w - h.len) n), length-bits (w - h.len) n, length-take-within w h.len h.address is.1 is.0, is.1), is.1)

pub network_of-with_part : (w n : ℕ) (h : Host) → IsHost w h → network_of (with_host_part w h n) ≡ network_of h
network_of-with_part w n h is = take_at (network_of h) (bits (w - h.len) n) h.len (length-take-within w h.len h.address is.1 is.0)

pub host_part-with_part : (w n : ℕ) (h : Host) → IsHost w h → n < host_count w h → host_part (with_host_part w h n) ≡ n
host_part-with_part w n h is l =
    ap number (drop_at (network_of h) (bits (w - h.len) n) h.len (length-take-within w h.len h.address is.1 is.0)) ∙ number-bits (w - h.len) n l

pub with_own_part : (w : ℕ) (h : Host) → IsHost w h → with_host_part w h (host_part h) ≡ h
with_own_part w h is =
    let l : length (drop h.len h.address) ≡ w - h.len = omega (arith, length-drop h.len h.address, is.0, is.1) in
    let rest : bits (w - h.len) (host_part h) ≡ drop h.len h.address = ap (λ n. bits n (host_part h)) (sym l) ∙ bits-number (drop h.len h.address) in
    ap (λ t. record { address = t; len = h.len }) (ap (λ t. network_of h ++ t) rest ∙ take-append-drop h.len h.address)

pub with_part_twice : (w m n : ℕ) (h : Host) → IsHost w h → with_host_part w (with_host_part w h m) n ≡ with_host_part w h n
with_part_twice w m n h is = ap (λ t. record { address = t ++ bits (w - h.len) n; len = h.len }) (network_of-with_part w m h is)

-- ---- steps that stay in the network
small_mod : (n m : ℕ) → n < m → n % m ≡ n
small_mod n m h = mod-eq_of_lt h

pub stays_up : (w s : ℕ) (h : Host) → host_part h + s < host_count w h → stepped_up w h s ≡ with_host_part w h (host_part h + s)
stays_up w s h l = ap (with_host_part w h) (small_mod (host_part h + s) (host_count w h) l)

pub less_mod : (p s m : ℕ) → s ≤ p → p < m → (p + (m - s % m)) % m ≡ p - s
less_mod p s m h l =
    let same = small_mod s m (omega arith) in
    let split : p + (m - s % m) ≡ (p - s) + m = omega arith in
    ap (λ x. x % m) split ∙ add-mod_right (p - s) m ∙ small_mod (p - s) m (omega arith)

pub stays_down : (w s : ℕ) (h : Host) → IsHost w h → s ≤ host_part h → stepped_down w h s ≡ with_host_part w h (host_part h - s)
stays_down w s h is l = ap (with_host_part w h) (less_mod (host_part h) s (host_count w h) l (part_within w h is))

pub ruleset stay_laws = (stays_up, stays_down)

-- ---- steps undo each other
up_and_down : (p s m : ℕ) → p < m → ((p + s) % m + (m - s % m)) % m ≡ p
up_and_down p s m h =
    let low = mod_below s m (omega arith) in
    let e : p + s % m + (m - s % m) ≡ p + m = omega arith in
    let inner : (p + s) % m ≡ (p + s % m) % m = sym (add-mod-mod p s m) in
    ap (λ x. (x + (m - s % m)) % m) inner ∙ mod-add-mod (p + s % m) m (m - s % m) ∙ ap (λ x. x % m) e ∙ add-mod_right p m ∙ small_mod p m h

down_and_up : (p s m : ℕ) → p < m → ((p + (m - s % m)) % m + s) % m ≡ p
down_and_up p s m h =
    let low = mod_below s m (omega arith) in
    let e : p + (m - s % m) + s % m ≡ p + m = omega arith in
    mod-add-mod (p + (m - s % m)) m s ∙ sym (add-mod-mod (p + (m - s % m)) s m) ∙ ap (λ x. x % m) e ∙ add-mod_right p m ∙ small_mod p m h

pub up_undone : (w s : ℕ) (h : Host) → IsHost w h → stepped_down w (stepped_up w h s) s ≡ h
up_undone w s h is =
    let m = host_count w h in
    let n = (host_part h + s) % m in
    let part = host_part-with_part w n h is (mod_below (host_part h + s) m (pow_pos (w - h.len))) in
    with_part_twice w n _ h is ∙ ap (with_host_part w h) (ap (λ x. (x + (m - s % m)) % m) part ∙ up_and_down (host_part h) s m (part_within w h is)) ∙ with_own_part w h is

pub down_undone : (w s : ℕ) (h : Host) → IsHost w h → stepped_up w (stepped_down w h s) s ≡ h
down_undone w s h is =
    let m = host_count w h in
    let n = (host_part h + (m - s % m)) % m in
    let part = host_part-with_part w n h is (mod_below (host_part h + (m - s % m)) m (pow_pos (w - h.len))) in
    with_part_twice w n _ h is ∙ ap (with_host_part w h) (ap (λ x. (x + s) % m) part ∙ down_and_up (host_part h) s m (part_within w h is)) ∙ with_own_part w h is

-- ---- the last and the first address, and the neighbours there
-- an address ends as this
ends_as : (w k : ℕ) (a e : List Bool) → k ≤ w → length a ≡ w → drop k a ≡ e → a ≡ take k a ++ e
ends_as w k a e h l same = sym (take-append-drop k a) ∙ ap (λ t. take k a ++ t) same

end_of : (w k : ℕ) (a e : List Bool) → k ≤ w → length a ≡ w → a ≡ take k a ++ e → drop k a ≡ e
end_of w k a e h l same = ap (drop k) same ∙ drop_at (take k a) e k (length-take-within w k a h l)

rest_length : (w : ℕ) (h : Host) → IsHost w h → w - length (network_of h) ≡ w - h.len
rest_length w h is = ap (λ n. w - n) (length-take-within w h.len h.address is.1 is.0)

dropped_length : (w : ℕ) (h : Host) → IsHost w h → length (drop h.len h.address) ≡ w - h.len
dropped_length w h is = omega (arith, length-drop h.len h.address, is.0, is.1)

at_last : (w : ℕ) (h : Host) → IsHost w h → WrapsUp w h 1 → h.address ≡ last_of w (network_of h)
at_last w h is wraps =
    let low = part_within w h is in
    let part : host_part h ≡ number (ones (w - h.len)) = omega (arith, number-ones (w - h.len)) in
    let same = same_from_numbers (drop h.len h.address) (ones (w - h.len)) (dropped_length w h is ∙ sym (length-replicate (w - h.len) true)) part in
    ends_as w h.len h.address (ones (w - length (network_of h))) is.1 is.0 (same ∙ ap ones (sym (rest_length w h is)))

last_wraps : (w : ℕ) (h : Host) → IsHost w h → h.address ≡ last_of w (network_of h) → WrapsUp w h 1
last_wraps w h is same =
    let pos = pow_pos (w - h.len) in
    let e : drop h.len h.address ≡ ones (w - h.len) = end_of w h.len h.address (ones (w - length (network_of h))) is.1 is.0 same ∙ ap ones (rest_length w h is) in
    omega (arith, ap number e, number-ones (w - h.len))

at_first : (w : ℕ) (h : Host) → IsHost w h → WrapsDown h 1 → h.address ≡ first_of w (network_of h)
at_first w h is wraps =
    let part : host_part h ≡ number (zeros (w - h.len)) = omega (arith, number-zeros (w - h.len)) in
    let same = same_from_numbers (drop h.len h.address) (zeros (w - h.len)) (dropped_length w h is ∙ sym (length-replicate (w - h.len) false)) part in
    ends_as w h.len h.address (zeros (w - length (network_of h))) is.1 is.0 (same ∙ ap zeros (sym (rest_length w h is)))

first_wraps : (w : ℕ) (h : Host) → IsHost w h → h.address ≡ first_of w (network_of h) → WrapsDown h 1
first_wraps w h is same =
    let e : drop h.len h.address ≡ zeros (w - h.len) = end_of w h.len h.address (zeros (w - length (network_of h))) is.1 is.0 same ∙ ap zeros (rest_length w h is) in
    omega (arith, ap number e, number-zeros (w - h.len))

pub next_none : (w : ℕ) (h : Host) → IsHost w h → WrapsUp w h 1 → next_of w h ≡ None
next_none w h is wraps = rw ((bit_eq_Decides h.address (last_of w (network_of h))).1 (at_last w h is wraps)) refl

pub next_some : (w : ℕ) (h : Host) → IsHost w h → ¬ (WrapsUp w h 1) → next_of w h ≡ Some (stepped_up w h 1)
next_some w h is stays =
    rw (false_from_ne_true (bit_eq h.address (last_of w (network_of h))) (λ t. stays (last_wraps w h is ((bit_eq_Decides h.address (last_of w (network_of h))).0 t)))) refl

pub previous_none : (w : ℕ) (h : Host) → IsHost w h → WrapsDown h 1 → previous_of w h ≡ None
previous_none w h is wraps = rw ((bit_eq_Decides h.address (first_of w (network_of h))).1 (at_first w h is wraps)) refl

pub previous_some : (w : ℕ) (h : Host) → IsHost w h → ¬ (WrapsDown h 1) → previous_of w h ≡ Some (stepped_down w h 1)
previous_some w h is stays =
    rw (false_from_ne_true (bit_eq h.address (first_of w (network_of h))) (λ t. stays (first_wraps w h is ((bit_eq_Decides h.address (first_of w (network_of h))).0 t)))) refl

-- the next host's previous one, and the other way round
pub back_from_next : (w : ℕ) (h : Host) → IsHost w h → ¬ (WrapsUp w h 1) → previous_of w (stepped_up w h 1) ≡ Some h
back_from_next w h is stays =
    let is_next = IsHost-with_part w ((host_part h + 1) % host_count w h) h is in
    let low : host_part h + 1 < host_count w h = omega arith in
    let part : host_part (stepped_up w h 1) ≡ host_part h + 1 = ap host_part (stays_up w 1 h low) ∙ host_part-with_part w (host_part h + 1) h is low in
    previous_some w (stepped_up w h 1) is_next (λ wraps. omega arith) ∙ ap Some (up_undone w 1 h is)

pub back_from_previous : (w : ℕ) (h : Host) → IsHost w h → ¬ (WrapsDown h 1) → next_of w (stepped_down w h 1) ≡ Some h
back_from_previous w h is stays =
    let is_previous = IsHost-with_part w ((host_part h + (host_count w h - 1 % host_count w h)) % host_count w h) h is in
    let below = part_within w h is in
    let one : 1 ≤ host_part h = omega arith in
    let part : host_part (stepped_down w h 1) ≡ host_part h - 1 = ap host_part (stays_down w 1 h is one) ∙ host_part-with_part w (host_part h - 1) h is (omega arith) in
    next_some w (stepped_down w h 1) is_previous (λ wraps. omega arith) ∙ ap Some (down_undone w 1 h is)

pub ruleset neighbour_laws = (next_none, next_some, previous_none, previous_some, back_from_next, back_from_previous)

pub ruleset undone_laws = (up_undone, down_undone)
