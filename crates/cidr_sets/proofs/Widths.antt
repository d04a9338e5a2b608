-- Sets of permitted addresses, by addresses in place of long lists: where no rule's network is longer than an address that
-- it begins with, the address tells of all long lists that begin with it.
use Rattle.std.proofs.Common.{◌≡◌, ◌↔◌, ℕ, ◌-◌, ◌≤◌, Bool, true, false, List, [], ◌∷◌, ◌++◌, length, get_or, take, replicate, length-append, refl, sym, ap, ◌∙◌, arith, inl, inr}
use Rattle.std.proofs.lemmas.Bool.{cases_lt, false≢true, true≢false}
use Rattle.std.proofs.lemmas.List.{get_or-take, length-replicate, length-take, length-take-le, take_at}
use Rattle.std.proofs.lemmas.Option.{slice_get_within, get_or_from_slice_get}
use Rattle.std.specs.List.{Contains}
use Rattle.cidr.specs.model.Network.{BeginsWith}
use Rattle.cidr_table.specs.model.Cover.{AreNetworks, Covers, IsReduced}
use Rattle.cidr_table.specs.model.CoverAddresses.{AreIpNetworks, IsIpAddressBits, IsIpNetworkBits}
use Rattle.cidr_table.proofs.Beginnings.{begins_first, begins_length}
use Rattle.cidr_table.proofs.Halves.{begins_begins, begins_both, begins_itself}
use Rattle.cidr_table.proofs.Members.{one_member}
use Rattle.cidr_table.proofs.Stacks.{reduced_from_spread, spread_from_reduced}
use Rattle.cidr_sets.specs.model.FirstRules.{IsFirstRule, IsPermitted}
use Rattle.cidr_sets.specs.model.Sets.{IsSetOf}
use Rattle.cidr_sets.specs.declared.access.Action.{Action}
use Rattle.cidr_sets.proofs.Addresses.{covers_from_full}

-- none of the networks has a part of the address alone
abbrev pub SplitNone : List (List Bool) → List Bool → Type 0
SplitNone networks a = (p : List Bool) → Contains networks p → BeginsWith p a → length p ≤ length a

taken_contained : (n : ℕ) (networks : List (List Bool)) (p : List Bool) → Contains (take n networks) p → Contains networks p
taken_contained n networks p c =
    let size = length-take n networks in
    (c.0, omega (arith, c.1, size), sym (get_or-take n networks c.0 p (omega (arith, c.1, size))) ∙ c.2)

-- a list of w bits that begins with the network
extended : (w : ℕ) (p : List Bool) → length p ≤ w → (a : List Bool) × (length a ≡ w) × BeginsWith a p
extended w p within =
    let rest = replicate (w - length p) false in (
      p ++ rest,
      omega (arith, within, length-append p rest, length-replicate (w - length p) false),
      take_at p rest (length p) refl,
    )

module _ (networks : List (List Bool)) (a : List Bool) (none : SplitNone networks a) where
  -- a network that contains a longer list contains the address
  address_in : (b p : List Bool) → BeginsWith b a → Contains networks p → BeginsWith b p → BeginsWith a p
  address_in b p h c k = elim (cases_lt (length a) (length p)) [
    | inr le ↦ begins_both b a p h k le
    | inl lt ↦ begins_both b a p h k (none p c (begins_both b p a k h (omega (arith, lt))))
  ]

  first_alike : (b : List Bool) → BeginsWith b a → (i : ℕ) → IsFirstRule networks b i ↔ IsFirstRule networks a i
  first_alike b h i = (
    λ f.
        let there : Contains networks f.0.0 = (i, slice_get_within networks i f.0.0 f.0.1, get_or_from_slice_get networks i f.0.0 f.0.0 f.0.1) in (
          (f.0.0, f.0.1, address_in b f.0.0 h there f.0.2),
          λ c. f.1 (c.0, c.1, begins_begins b a c.0 h c.2),
        ),
    λ f. (
      (f.0.0, f.0.1, begins_begins b a f.0.0 h f.0.2),
      λ c. f.1 (c.0, c.1, address_in b c.0 h (taken_contained i networks c.0 c.1) c.2),
    ),
  )

  permitted_alike : (actions : List Action) (b : List Bool) → BeginsWith b a
      → IsPermitted networks actions b ↔ IsPermitted networks actions a
  permitted_alike actions b h = (
    λ k. (k.0, (first_alike b h k.0).0 k.1, k.2),
    λ k. (k.0, (first_alike b h k.0).1 k.1, k.2),
  )

  pub permitted_exactly : (w : ℕ) (actions : List Action) (set : List (List Bool))
      → IsSetOf w (IsPermitted networks actions) set → length a ≤ w → Covers set a ↔ IsPermitted networks actions a
  permitted_exactly w actions set s within = (
    λ c.
        let (b, lb, h) = extended w a within in
        (permitted_alike actions b h).0 ((s.exact b lb).0 (c.0, c.1, begins_begins b a c.0 h c.2)),
    λ k. covers_from_full w set a s.reduced within (λ b lb h. (s.exact b lb).1 ((permitted_alike actions b h).1 k)),
  )

-- networks in normal form are so at each width that they have
reduced_at : (w v : ℕ) (set : List (List Bool)) → IsReduced w set → AreNetworks v set → IsReduced v set
reduced_at w v set r short =
    let h = spread_from_reduced w set r in
    reduced_from_spread v set (record { ascending = h.ascending; networks = short; none = h.none; apart = h.apart })

-- ---- addresses of v bits
module _ (w v : ℕ) (networks set : List (List Bool)) (actions : List Action) (within : v ≤ w) (short : AreNetworks v networks)
    (s : IsSetOf w (IsPermitted networks actions) set) where
  none_split : (a : List Bool) → length a ≡ v → SplitNone networks a
  none_split a la p c b = omega (arith, la, short p c)

  exact_at : (a : List Bool) → length a ≡ v → Covers set a ↔ IsPermitted networks actions a
  exact_at a la = permitted_exactly networks a (none_split a la) w actions set s (omega (arith, within, la))

  -- no network of the set is longer: else its first v bits were permitted, and in another one
  set_short : AreNetworks v set
  set_short p c = elim (cases_lt v (length p)) [
    | inr le ↦ le
    | inl lt ↦
        let m = (s.reduced.members p).0 c in
        let a = take v p in
        let la : length a ≡ v = length-take-le v p (omega (arith, lt)) in
        let b = begins_first v p in
        let (x, lx, h) = extended w p m.within in
        let k = (permitted_alike networks a (none_split a la) actions x (begins_begins x p a h b)).0 ((s.exact x lx).0 (p, c, h)) in
        let q = (exact_at a la).1 k in
        let e = one_member w set p p q.0 m ((s.reduced.members q.0).0 q.1) (begins_itself p) (begins_begins p a q.0 b q.2) in
        omega (arith, lt, la, begins_length a q.0 q.2, ap length e)
  ]

  pub permitted_at : IsSetOf v (IsPermitted networks actions) set
  permitted_at = record { reduced = reduced_at w v set s.reduced set_short; exact = exact_at }

-- ---- addresses of both families
ip_short : (a : List Bool) → IsIpAddressBits a → length a ≤ 129
ip_short [] h = absurd h
ip_short (false ∷ a) h = omega (arith, h)
ip_short (true ∷ a) h = omega (arith, h)

ip_whole : (a p : List Bool) → IsIpAddressBits a → IsIpNetworkBits p → BeginsWith p a → length p ≤ length a
ip_whole [] p h n b = absurd h
ip_whole (x ∷ a) [] h n b = omega arith
ip_whole (false ∷ a) (false ∷ p) h n b = omega (arith, h, n)
ip_whole (true ∷ a) (true ∷ p) h n b = omega (arith, h, n)
ip_whole (false ∷ a) (true ∷ p) h n b = absurd (true≢false (ap (λ t. get_or t 0 true) b))
ip_whole (true ∷ a) (false ∷ p) h n b = absurd (false≢true (ap (λ t. get_or t 0 true) b))

pub permitted_ip : (networks set : List (List Bool)) (actions : List Action) → AreIpNetworks networks
    → IsSetOf 129 (IsPermitted networks actions) set → (a : List Bool) → IsIpAddressBits a
    → Covers set a ↔ IsPermitted networks actions a
permitted_ip networks set actions short s a h =
    permitted_exactly networks a (λ p c b. ip_whole a p h (short p c) b) 129 actions set s (ip_short a h)
