-- Compact bytes tell their value, and an input that is refused begins with no value's bytes.
use Rattle.std.proofs.Common.{◌≡◌, ◌≢◌, ℕ, ◌+◌, ◌-◌, ◌*◌, ◌<◌, ◌≤◌, Bool, true, false, List, [], ◌∷◌, ◌++◌, length, take, drop, flat_map, Result, Ok, Err, refl, sym, ap, ◌∙◌, subst, arith, inl, inr, take_at, drop_at, take-append-drop, append-nil, length-append}
use Rattle.std.specs.Bool.{if◌then◌else◌}
use Rattle.std.proofs.lemmas.Bool.{le-ltb, false≢true}
use Rattle.cidr.specs.model.Address.{parts_of}
use Rattle.cidr.specs.model.Bits.{bits, bit_eq}
use Rattle.cidr.specs.model.Host.{Host, IsHost, host_of, network_of, first_host}
use Rattle.cidr.specs.model.Network.{width_of, zeros, first_of, network_from, FitsWidth}
use Rattle.cidr.specs.bytes.Compact.{tag_of, any_tag, octet_count, host_bytes, network_bytes, StandsAlone, ReadsCompact}
use Rattle.cidr.specs.bytes.CompactRefusal.{HasHost, HasAny, Only, IsNetworkBytesRefused, IsHostBytesRefused}
use Rattle.cidr.specs.internal.Fronts.{IsUnreadable}
use Rattle.cidr.specs.laws.BitLaws.{bit_eq_Decides}
use Rattle.cidr.specs.laws.NetworkLaws.{length-first_of, first_of-take, length-take-within}
use Rattle.cidr.specs.declared.errors.CompactError.{CompactError}
use Rattle.cidr.specs.declared.errors.CompactError.TheVariants as compact_error
use Rattle.cidr.specs.declared.errors.NetworkParseError.{NetworkParseError}
use Rattle.cidr.specs.declared.errors.NetworkParseError.TheVariants as parse_error
use Rattle.cidr.specs.declared.family.Family.{Family}
use Rattle.cidr.specs.declared.family.Family.TheVariants.{Ipv4, Ipv6}
use Rattle.cidr.proofs.PartLaws.{flat_map-parts_of, length-parts_of}
use Rattle.cidr.proofs.CompactOctets.{octet_width}

-- ---- what comes first tells the host
tag_tells : (f g : Family) (m n : ℕ) → m ≤ width_of f → n ≤ width_of g → tag_of f m ≡ tag_of g n → (f ≡ g) × (m ≡ n)
tag_tells Ipv4 Ipv4 m n h k e = (refl, e)
tag_tells Ipv4 Ipv6 m n h k e = absurd (omega arith)
tag_tells Ipv6 Ipv4 m n h k e = absurd (omega arith)
tag_tells Ipv6 Ipv6 m n h k e = (refl, omega arith)

tag_not_any : (f : Family) (n : ℕ) → n ≤ width_of f → tag_of f n ≢ any_tag
tag_not_any Ipv4 n h e = omega arith
tag_not_any Ipv6 n h e = omega arith

pub heads : (x y : ℕ) (s t : List ℕ) → x ∷ s ≡ y ∷ t → (x ≡ y) × (s ≡ t)
heads x y s t h = (cc, cc)

octets_tell : (k : ℕ) (a b : List Bool) (r s : List ℕ) → length a ≡ 8 * k → length b ≡ 8 * k → parts_of 8 k a ++ r ≡ parts_of 8 k b ++ s → a ≡ b
octets_tell k a b r s la lb h =
    let front : parts_of 8 k a ≡ parts_of 8 k b = sym (take_at (parts_of 8 k a) r k (length-parts_of 8 k a)) ∙ ap (take k) h ∙ take_at (parts_of 8 k b) s k (length-parts_of 8 k b) in
    sym (flat_map-parts_of 8 k a la) ∙ ap (flat_map (bits 8)) front ∙ flat_map-parts_of 8 k b lb

host_tag : (f : Family) (input : List ℕ) (a : Host) (tag : ℕ) (rest : List ℕ) → HasHost f input a → input ≡ tag ∷ rest
    → (tag ≡ tag_of f a.len) × (length rest ≡ octet_count f + length (drop (octet_count f) rest))
host_tag f input a tag rest (is, more, e) s =
    let parts = heads tag (tag_of f a.len) rest (parts_of 8 (octet_count f) a.address ++ more) (sym s ∙ e) in
    let size = length-parts_of 8 (octet_count f) a.address in
    let behind : drop (octet_count f) rest ≡ more = ap (drop (octet_count f)) parts.1 ∙ drop_at (parts_of 8 (octet_count f) a.address) more (octet_count f) size in
    (parts.0, rw behind (ap length parts.1 ∙ length-append (parts_of 8 (octet_count f) a.address) more ∙ ap (λ n. n + length more) size))

same_family : (f : Family) (input : List ℕ) (a b : Host) → HasHost f input a → HasHost f input b → a ≡ b
same_family f input a b (is, r, e) (is', s, e') =
    let parts = heads (tag_of f a.len) (tag_of f b.len) (parts_of 8 (octet_count f) a.address ++ r) (parts_of 8 (octet_count f) b.address ++ s) (sym e ∙ e') in
    let len = (tag_tells f f a.len b.len is.1 is'.1 parts.0).1 in
    let address = octets_tell (octet_count f) a.address b.address r s (is.0 ∙ sym (octet_width f)) (is'.0 ∙ sym (octet_width f)) parts.1 in
    ap (λ x. host_of x a.len) address ∙ ap (host_of b.address) len

pub one_host_first : (f g : Family) (input : List ℕ) (a b : Host) → HasHost f input a → HasHost g input b → (f ≡ g) × (a ≡ b)
one_host_first Ipv4 Ipv4 input a b h k = (refl, same_family Ipv4 input a b h k)
one_host_first Ipv6 Ipv6 input a b h k = (refl, same_family Ipv6 input a b h k)
one_host_first Ipv4 Ipv6 input a b h k = absurd (let t = host_tag Ipv4 input a _ _ h k.2 in omega (arith, t.0, h.0.1))
one_host_first Ipv6 Ipv4 input a b h k = absurd (let t = host_tag Ipv6 input a _ _ h k.2 in omega (arith, t.0, k.0.1))

pub no_host_and_any : (f : Family) (input : List ℕ) (a : Host) → HasHost f input a → ¬ (HasAny input)
no_host_and_any f input a h (rest, e) = tag_not_any f a.len h.0.1 (sym (host_tag f input a any_tag rest h e).0)

-- ---- an input that is refused
pub refused_no_host : (Takes : Family → Type 0) (input : List ℕ) (e : CompactError) (f : Family) (host : Host) → IsNetworkBytesRefused Takes input e
    → HasHost f input host → Takes f → (e ≡ compact_error.InvalidHostPart → drop host.len host.address ≡ zeros (width_of f - host.len)) → ⊥
refused_no_host Takes input compact_error.Truncated f host (inl none) h takes zero = let both = sym none ∙ h.2 in cc
refused_no_host Takes input compact_error.Truncated f host (inr (g, (n, rest, within, s, few))) h takes zero =
    let t = host_tag f input host (tag_of g n) rest h s in
    let same = (tag_tells g f n host.len within h.0.1 t.0).0 in
    let less : length rest < octet_count f = subst (λ k. length rest < octet_count k) same few in
    omega (arith, t.1)
refused_no_host Takes input compact_error.InvalidTag f host (tag, rest, s, (other, none)) h takes zero =
    none f host.len h.0.1 (host_tag f input host tag rest h s).0
refused_no_host Takes input compact_error.InvalidAny f host any h takes zero = no_host_and_any f input host h any
refused_no_host Takes input (compact_error.InvalidFamily g) f host (a, k, not) h takes zero =
    not (subst Takes (sym (one_host_first g f input a host k h).0) takes)
refused_no_host Takes input compact_error.InvalidHostPart f host (g, a, k, taken, ones) h takes zero =
    let (family, same) = one_host_first g f input a host k h in
    ones (subst (λ x. drop a.len a.address ≡ zeros (width_of x - a.len)) (sym family) (subst (λ (x : Host). drop x.len x.address ≡ zeros (width_of f - x.len)) (sym same) (zero refl)))

pub refused_no_any : (Takes : Family → Type 0) (input : List ℕ) (e : CompactError) → IsNetworkBytesRefused Takes input e → e ≢ compact_error.InvalidAny → ¬ (HasAny input)
refused_no_any Takes input compact_error.Truncated (inl none) other (rest, s) = let both = sym none ∙ s in cc
refused_no_any Takes input compact_error.Truncated (inr (g, (n, more, within, t, few))) other (rest, s) =
    tag_not_any g n within (heads (tag_of g n) any_tag more rest (sym t ∙ s)).0
refused_no_any Takes input compact_error.InvalidTag (tag, more, t, (not, none)) other (rest, s) = not (heads tag any_tag more rest (sym t ∙ s)).0
refused_no_any Takes input compact_error.InvalidAny h other any = other refl
refused_no_any Takes input (compact_error.InvalidFamily g) (a, k, not) other any = no_host_and_any g input a k any
refused_no_any Takes input compact_error.InvalidHostPart (g, a, k, taken, ones) other any = no_host_and_any g input a k any

-- an error whatever is taken is a refusal of each type
pub unreadable : (Takes : Family → Type 0) (input : List ℕ) (e : CompactError) → IsUnreadable input e
    → IsNetworkBytesRefused Takes input e × (e ≢ compact_error.InvalidHostPart) × (e ≢ compact_error.InvalidAny)
unreadable Takes input compact_error.Truncated h = (h, λ x. cc, λ x. cc)
unreadable Takes input compact_error.InvalidTag h = (h, λ x. cc, λ x. cc)
unreadable Takes input compact_error.InvalidAny h = absurd h
unreadable Takes input (compact_error.InvalidFamily f) h = absurd h
unreadable Takes input compact_error.InvalidHostPart h = absurd h

-- ---- the bytes of a type, and what is refused
pub record IsCode {V : Type 0} (IsValue : V → Type 0) (bytes_of : V → List ℕ) (IsRefused : List ℕ → CompactError → Type 0) : Type 0 where
  pub one : (input : List ℕ) (u v : V) (r s : List ℕ) → IsValue u → IsValue v → input ≡ bytes_of u ++ r → input ≡ bytes_of v ++ s → u ≡ v
  pub none : (input : List ℕ) (e : CompactError) → IsRefused input e → (v : V) (r : List ℕ) → IsValue v → input ≢ bytes_of v ++ r

same_ok : (V : Type 0) (p q : V × ℕ) (r : Result (V × ℕ) CompactError) → r ≡ Ok p → r ≡ Ok q → p ≡ q
same_ok V p q r e h = cc

module _ {V : Type 0} (IsValue : V → Type 0) (bytes_of : V → List ℕ) (IsRefused : List ℕ → CompactError → Type 0) (code : IsCode IsValue bytes_of IsRefused) where
  pub stands_alone : (v : V) → IsValue v → StandsAlone IsValue bytes_of v
  stands_alone v is = record {
    is_value = is;
    begins_none = λ other rest is_other e. code.one (bytes_of other) other v [] rest is_other is (sym (append-nil (bytes_of other))) e;
    begun_by_none = λ other rest is_other e. code.one (bytes_of v) other v rest [] is_other is e (sym (append-nil (bytes_of v)));
  }

  pub reads_value : (input : List ℕ) (v : V) (k : ℕ) (r : List ℕ) → IsValue v → input ≡ bytes_of v ++ r → length (bytes_of v) ≡ k → ReadsCompact IsValue bytes_of IsRefused input (Ok (v, k))
  reads_value input v k r is e size = record {
    exactly = λ u j. (
      λ same.
          let pair : (v, k) ≡ (u, j) = same_ok V (v, k) (u, j) (Ok (v, k)) refl same in
          let value : v ≡ u = ap (λ (p : V × ℕ). p.0) pair in
          let count : k ≡ j = ap (λ (p : V × ℕ). p.1) pair in
          (subst IsValue value is, (ap (λ x. length (bytes_of x)) (sym value) ∙ size ∙ count, ap (λ n. take n input) (sym count) ∙ ap (take k) e ∙ take_at (bytes_of v) r k size ∙ ap bytes_of value)),
      λ (is_u, (many, first)).
          let value : v ≡ u = code.one input v u r (drop j input) is is_u e (sym (take-append-drop j input) ∙ ap (λ t. t ++ drop j input) first) in
          ap (λ x. Ok (x, k)) value ∙ ap (λ n. Ok (u, n)) (sym size ∙ ap (λ x. length (bytes_of x)) value ∙ many),
    );
    refused = tt;
  }

  pub reads_refused : (input : List ℕ) (e : CompactError) → IsRefused input e → ReadsCompact IsValue bytes_of IsRefused input (Err e)
  reads_refused input e h = record {
    exactly = λ u j. (
      λ same. absurd (cc),
      λ (is_u, (many, first)). absurd (code.none input e h u (drop j input) is_u (sym (take-append-drop j input) ∙ ap (λ t. t ++ drop j input) first)),
    );
    refused = h;
  }

-- ---- one family
pub host_size : (f : Family) (host : Host) → length (host_bytes f host) ≡ octet_count f + 1
host_size f host = omega (arith, length-parts_of 8 (octet_count f) host.address)

pub host_code : (f : Family) → IsCode (IsHost (width_of f)) (host_bytes f) (IsHostBytesRefused (Only f))
host_code f = record {
  one = λ input u v r s iu iv e h. same_family f input u v (iu, r, e) (iv, s, h);
  none = λ input e h v r is s. refused_no_host (Only f) input e f v h.0 (is, r, s) refl (λ x. absurd (h.1 x));
}

-- a network as the host at its first address
pub network_first : (f : Family) (input : List ℕ) (p : List Bool) (r : List ℕ) → FitsWidth (width_of f) p → input ≡ network_bytes f p ++ r → HasHost f input (first_host (width_of f) p)
network_first f input p r fits e = ((length-first_of (width_of f) p fits, fits), r, e)

pub network_back : (f : Family) (p : List Bool) → network_of (first_host (width_of f) p) ≡ p
network_back f p = take_at p (zeros (width_of f - length p)) (length p) refl

pub network_zeros : (f : Family) (p : List Bool) → drop (length p) (first_of (width_of f) p) ≡ zeros (width_of f - length p)
network_zeros f p = drop_at p (zeros (width_of f - length p)) (length p) refl

pub network_code : (f : Family) → IsCode (FitsWidth (width_of f)) (network_bytes f) (IsNetworkBytesRefused (Only f))
network_code f = record {
  one = λ input u v r s iu iv e h.
      sym (network_back f u) ∙ ap network_of (same_family f input _ _ (network_first f input u r iu e) (network_first f input v s iv h)) ∙ network_back f v;
  none = λ input e h v r is s. refused_no_host (Only f) input e f _ h (network_first f input v r is s) refl (λ x. network_zeros f v);
}

-- the network that is made of an address and a length
made_by : (b : Bool) (p q : List Bool) (e : NetworkParseError) → (if b then Ok q else Err e) ≡ Ok p → (b ≡ true) × (p ≡ q)
made_by true p q e h = (refl, cc)
made_by false p q e h = absurd (cc)

refused_by : (b : Bool) (q : List Bool) (e x : NetworkParseError) → (if b then Ok q else Err e) ≡ Err x → b ≡ false
refused_by true q e x h = absurd (cc)
refused_by false q e x h = refl

module _ (f : Family) (input : List ℕ) (a : List Bool) (n : ℕ) (h : HasHost f input (host_of a n)) where
  pub made_network : (p : List Bool) → Ok p ≡ network_from f a n → (FitsWidth (width_of f) p) × (input ≡ network_bytes f p ++ h.1)
  made_network p made =
      let w = width_of f in
      let same = rw (le-ltb w n h.0.1) at (sym made) in
      let (test, value) = made_by (bit_eq (drop n a) (zeros (w - n))) p (take n a) parse_error.InvalidHostPart same in
      let zero = (bit_eq_Decides (drop n a) (zeros (w - n))).0 test in
      let len : length p ≡ n = ap length value ∙ length-take-within w n a h.0.1 h.0.0 in
      let first : first_of w p ≡ a = ap (first_of w) value ∙ first_of-take w n a h.0.1 h.0.0 zero in
      (omega (arith, h.0.1), h.2 ∙ ap (λ (x : Host). host_bytes f x ++ h.1) (ap (λ t. host_of t n) (sym first) ∙ ap (host_of (first_of w p)) (sym len)))

  pub made_none : (x : NetworkParseError) → Err x ≡ network_from f a n → drop n a ≢ zeros (width_of f - n)
  made_none x made zero =
      let w = width_of f in
      let same = rw (le-ltb w n h.0.1) at (sym made) in
      false≢true (sym (refused_by (bit_eq (drop n a) (zeros (w - n))) (take n a) parse_error.InvalidHostPart x same) ∙ (bit_eq_Decides (drop n a) (zeros (w - n))).1 zero)

  pub network_reads : (p : List Bool) (k : ℕ) → Ok p ≡ network_from f a n → k ≡ octet_count f + 1
      → ReadsCompact (FitsWidth (width_of f)) (network_bytes f) (IsNetworkBytesRefused (Only f)) input (Ok (p, k))
  network_reads p k made used =
      let (fits, first) = made_network p made in
      reads_value (FitsWidth (width_of f)) (network_bytes f) (IsNetworkBytesRefused (Only f)) (network_code f) input p k h.1 fits first (host_size f (first_host (width_of f) p) ∙ sym used)

  pub network_refuses : (x : NetworkParseError) → Err x ≡ network_from f a n
      → ReadsCompact (FitsWidth (width_of f)) (network_bytes f) (IsNetworkBytesRefused (Only f)) input (Err compact_error.InvalidHostPart)
  network_refuses x made =
      reads_refused (FitsWidth (width_of f)) (network_bytes f) (IsNetworkBytesRefused (Only f)) (network_code f) input compact_error.InvalidHostPart (f, host_of a n, h, refl, made_none x made)

  pub host_reads : (k : ℕ) → k ≡ octet_count f + 1 → ReadsCompact (IsHost (width_of f)) (host_bytes f) (IsHostBytesRefused (Only f)) input (Ok (host_of a n, k))
  host_reads k used =
      reads_value (IsHost (width_of f)) (host_bytes f) (IsHostBytesRefused (Only f)) (host_code f) input (host_of a n) k h.1 h.0 h.2 (host_size f (host_of a n) ∙ sym used)
