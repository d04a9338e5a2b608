-- A string is one host by an address and a mask at most, and none where it is a network or a host without a mask.
use Rattle.std.proofs.Common.{◌≡◌, ◌≢◌, refl, sym, ◌∙◌, ap, ap₂, subst, inl, inr, ℕ, zero, suc, ◌-◌, ◌<◌, ◌≤◌, Bool, true, false, List, [], ◌∷◌, ◌++◌, drop, length, slice_index_or, arith, Option, Some, None, MatchOption, Ok, Err}
use Rattle.std.specs.Char.{is_ascii_whitespace}
use Rattle.std.specs.List.{before_first, prefix_len}
use Rattle.std.specs.Str.{IsTrimAsciiStart}
use Rattle.std.proofs.lemmas.Bool.{le-ltb}
use Rattle.std.proofs.lemmas.List.{drop_all, take_at}
use Rattle.std.proofs.lemmas.Str.Ascii.{trim_ascii_start_is}
use Rattle.cidr.specs.either.IpAddress.{IsIpText, address_family, plain_bits}
use Rattle.cidr.specs.either.IpHost.{host_at, host_family, host_network, host_parts, ip_host_from}
use Rattle.cidr.specs.either.IpText.{IsIpHostText, IsIpNetworkText}
use Rattle.cidr.specs.model.Errors.{LengthError}
use Rattle.cidr.specs.model.Host.{Host, first_host, host_of}
use Rattle.cidr.specs.model.Network.{ones, width_of, zeros}
use Rattle.cidr.specs.texts.AddressText.{IsAddressText}
use Rattle.cidr.specs.texts.Ipv4Text.{dot}
use Rattle.cidr.specs.texts.Ipv6Text.{colon}
use Rattle.cidr.specs.texts.NetworkText.{IsLengthText, IsNetworkText, slash}
use Rattle.cidr.specs.texts.HostText.{IsHostText}
use Rattle.cidr.specs.texts.Refusal.{Lacks}
use Rattle.cidr.specs.declared.addr.ip.IpAddr.{IpAddr}
use Rattle.cidr.specs.declared.addr.ip.IpAddr.TheVariants as address
use Rattle.cidr.specs.declared.cidr.combined.IpCidr.{IpCidr}
use Rattle.cidr.specs.declared.cidr.combined.IpCidr.TheVariants.{V4, V6}
use Rattle.cidr.specs.declared.family.Family.{Family}
use Rattle.cidr.specs.declared.family.Family.TheVariants.{Ipv4, Ipv6}
use Rattle.cidr.specs.declared.inet.combined.IpInet.{IpInet}
use Rattle.cidr.specs.declared.inet.combined.IpInet.TheVariants as host
use Rattle.cidr.proofs.Cuts.{Lacks-length, not_lacking, one_first_cut}
use Rattle.cidr.proofs.EitherAddresses.{one_family}
use Rattle.cidr.proofs.LooseGrammar.{has_colon}
use Rattle.cidr.proofs.NetworkTexts.{address_grammar}
use Rattle.cidr.proofs.OctetReading.{four_joined}
use Rattle.cidr_ext.specs.texts.MaskText.{IsLengthOfMask}
use Rattle.cidr_lists.specs.Masks.{AreAddressAndMask, AreParts, IsClearedHost, IsLengthBeside, IsMaskedHost}
use Rattle.cidr_lists.specs.declared.lines.HostBits.TheVariants.{Refused, Cleared}
use Rattle.cidr_lists.proofs.LineFeeds.{uncut}
use Rattle.cidr_lists.proofs.PlainTexts.{unspaced}
use Rattle.cidr_lists.proofs.ShortTexts.{empty_address}

-- ---- a mask has one length
-- how many bits are set
abbrev set_bits : List Bool → ℕ
set_bits [] = 0
set_bits (true ∷ bits) = suc (set_bits bits)
set_bits (false ∷ bits) = set_bits bits

set_in_zeros : (n : ℕ) → set_bits (zeros n) ≡ 0
set_in_zeros zero = refl
set_in_zeros (suc n) = set_in_zeros n

set_in_ones : (n : ℕ) → set_bits (ones n) ≡ n
set_in_ones zero = refl
set_in_ones (suc n) = ap (λ (k : ℕ). suc k) (set_in_ones n)

set_in_mask : (n k : ℕ) → set_bits (ones n ++ zeros k) ≡ n
set_in_mask zero k = set_in_zeros k
set_in_mask (suc n) k = ap (λ (k : ℕ). suc k) (set_in_mask n k)

set_in_host_mask : (n k : ℕ) → set_bits (zeros n ++ ones k) ≡ k
set_in_host_mask zero k = set_in_ones k
set_in_host_mask (suc n) k = set_in_host_mask n k

pub mask_fits : (w n : ℕ) (a : List Bool) → IsLengthOfMask w n a → n ≤ w
mask_fits w n a (inl h) = h.0
mask_fits w n a (inr h) = h.1.0

one_length : (w m n : ℕ) (a : List Bool) → IsLengthOfMask w m a → IsLengthOfMask w n a → m ≡ n
one_length w m n a (inl h) (inl k) = sym (ap set_bits h.1 ∙ set_in_mask m (w - m)) ∙ (ap set_bits k.1 ∙ set_in_mask n (w - n))
one_length w m n a (inl h) (inr k) = absurd (k.0 m h)
one_length w m n a (inr h) (inl k) = absurd (h.0 n k)
one_length w m n a (inr h) (inr k) =
    let first : set_bits a ≡ w - m = ap set_bits h.1.1 ∙ set_in_host_mask m (w - m) in
    let second : set_bits a ≡ w - n = ap set_bits k.1.1 ∙ set_in_host_mask n (w - n) in
    omega (arith, first, second, h.1.0, k.1.0)

-- ---- an address and a mask are one host
one_of : (family : Family) (front back : List ℕ) (h k : Host) (m n : List Bool) → IsAddressText family front h.address → IsAddressText family front k.address
    → IsAddressText family back m → IsAddressText family back n → IsLengthOfMask (width_of family) h.len m → IsLengthOfMask (width_of family) k.len n → h ≡ k
one_of family front back h k m n front_h front_k back_m back_n len_h len_k =
    let address = (address_grammar family).one_value front h.address k.address front_h front_k in
    let mask = (address_grammar family).one_value back m n back_m back_n in
    let len = one_length (width_of family) h.len k.len n (subst (λ (x : List Bool). IsLengthOfMask (width_of family) h.len x) mask len_h) len_k in
    ap₂ host_of address len

one_pair : (front back : List ℕ) (h k : IpInet) → AreAddressAndMask front back h → AreAddressAndMask front back k → h ≡ k
one_pair front back (host.V4 h) (host.V4 k) (front_h, m, back_m, len_h) (front_k, n, back_n, len_k) =
    ap host.V4 (one_of Ipv4 front back h k m n front_h front_k back_m back_n len_h len_k)
one_pair front back (host.V4 h) (host.V6 k) a b = absurd (let same = one_family front Ipv4 Ipv6 h.address k.address a.0 b.0 in cc)
one_pair front back (host.V6 h) (host.V4 k) a b = absurd (let same = one_family front Ipv6 Ipv4 h.address k.address a.0 b.0 in cc)
one_pair front back (host.V6 h) (host.V6 k) (front_h, m, back_m, len_h) (front_k, n, back_n, len_k) =
    ap host.V6 (one_of Ipv6 front back h k m n front_h front_k back_m back_n len_h len_k)

-- ---- a string has one pair of parts whose first one is an address
no_slash : (front back : List ℕ) (h : IpInet) → AreAddressAndMask front back h → Lacks slash front
no_slash front back h is = (address_grammar (host_family h)).no_slash front (host_parts h).address is.0

module _ (text front back : List ℕ) where
  abbrev pub AreOnly : Type 0
  AreOnly = (g d : List ℕ) → AreParts text g d → Lacks slash g → (g ≡ front) × (d ≡ back)

  pub only_slash : text ≡ front ++ slash ∷ back → Lacks slash front → AreOnly
  only_slash spelled none g d (inl also) lacks = one_first_cut slash g d front back (sym also ∙ spelled) lacks none
  only_slash spelled none g d (inr other) lacks = absurd (not_lacking slash front back (subst (λ (k : List ℕ). Lacks slash k) spelled other.0))

  pub only_space : Lacks slash text → front ≡ before_first is_ascii_whitespace text → IsTrimAsciiStart (drop (length front) text) back → AreOnly
  only_space none first trimmed g d (inl also) lacks = absurd (not_lacking slash g d (subst (λ (k : List ℕ). Lacks slash k) also none))
  only_space none first trimmed g d (inr (_, other, trim)) lacks =
      let same : g ≡ front = other ∙ sym first in (
        same,
        trim_ascii_start_is (drop (length g) text) d trim
            ∙ (ap (λ (k : List ℕ). drop (prefix_len is_ascii_whitespace (drop (length k) text)) (drop (length k) text)) same
            ∙ sym (trim_ascii_start_is (drop (length front) text) back trimmed)),
      )

  only_parts : AreParts text front back → Lacks slash front → AreOnly
  only_parts (inl spelled) lacks = only_slash spelled lacks
  only_parts (inr (none, first, trimmed)) lacks = only_space none first trimmed

  pub masked_by : AreParts text front back → AreOnly → (r : Option IpInet)
      → MatchOption r ((h : IpInet) → ¬ (AreAddressAndMask front back h)) (AreAddressAndMask front back)
      → MatchOption r ((h : IpInet) → ¬ (IsMaskedHost text h)) (IsMaskedHost text)
  masked_by cut only (Some h) is = (front, back, cut, is)
  masked_by cut only None none = λ h masked.
      let (g, d, also, is) = masked in
      let same = only g d also (no_slash g d h is) in
      none h (subst (λ (k : List ℕ). AreAddressAndMask k back h) same.0 (subst (λ (k : List ℕ). AreAddressAndMask g k h) same.1 is))

pub one_masked : (text : List ℕ) (h k : IpInet) → IsMaskedHost text h → IsMaskedHost text k → h ≡ k
one_masked text h k (f, b, cut, is) (g, d, also, has) =
    let same = only_parts text f b cut (no_slash f b h is) g d also (no_slash g d k has) in
    one_pair f b h k is (subst (λ (x : List ℕ). AreAddressAndMask x b k) same.0 (subst (λ (x : List ℕ). AreAddressAndMask g x k) same.1 has))

-- a host with a set bit behind a mask of length 0 is none that is cleared
pub not_cleared : (text : List ℕ) (h : IpInet) → IsMaskedHost text h → (host_parts h).len ≡ 0 → host_at first_host (host_network h) ≢ h
    → (k : IpInet) → ¬ (IsClearedHost text k)
not_cleared text h is none differ k (also, same) =
    differ (subst (λ (x : IpInet). (host_parts x).len ≡ 0 → host_at first_host (host_network x) ≡ x) (one_masked text k h also is) same none)

-- ---- the host of an address and a mask
family_of : (text : List ℕ) (a : IpAddr) (family : Family) (b : List Bool) → IsIpText text a → IsAddressText family text b → address_family a ≡ family
family_of text (address.V4 a) family b h k = one_family text Ipv4 family a b h k
family_of text (address.V6 a) family b h k = one_family text Ipv6 family a b h k

text_of : (text : List ℕ) (a : IpAddr) → IsIpText text a → IsAddressText (address_family a) text (plain_bits a)
text_of text (address.V4 a) h = h
text_of text (address.V6 a) h = h

-- a mask of one family
pub beside : (a m : IpAddr) (r : Option ℕ) → address_family a ≡ address_family m
    → MatchOption r ((n : ℕ) → ¬ (IsLengthOfMask (width_of (address_family m)) n (plain_bits m))) (λ n. IsLengthOfMask (width_of (address_family m)) n (plain_bits m))
    → MatchOption r ((n : ℕ) → ¬ (IsLengthBeside a m n)) (IsLengthBeside a m)
beside a m (Some n) same len = (same, len)
beside a m None same none = λ n is. none n is.1

module _ (front back : List ℕ) where
  pub no_front : ((a : IpAddr) → ¬ (IsIpText front a)) → (h : IpInet) → ¬ (AreAddressAndMask front back h)
  no_front none (host.V4 h) is = none (address.V4 h.address) is.0
  no_front none (host.V6 h) is = none (address.V6 h.address) is.0

  pub no_back : ((a : IpAddr) → ¬ (IsIpText back a)) → (h : IpInet) → ¬ (AreAddressAndMask front back h)
  no_back none (host.V4 h) (first, mask, is, len) = none (address.V4 mask) is
  no_back none (host.V6 h) (first, mask, is, len) = none (address.V6 mask) is

  pub no_length : (a m : IpAddr) → IsIpText front a → IsIpText back m → ((n : ℕ) → ¬ (IsLengthBeside a m n)) → (h : IpInet) → ¬ (AreAddressAndMask front back h)
  no_length a m front_is back_is none h (first, mask, second, len) =
      let own : address_family a ≡ host_family h = family_of front a (host_family h) (host_parts h).address front_is first in
      let same : address_family m ≡ host_family h = family_of back m (host_family h) mask back_is second in
      let bits : mask ≡ plain_bits m =
      (address_grammar (host_family h)).one_value back mask (plain_bits m) second
      (subst (λ (f : Family). IsAddressText f back (plain_bits m)) same (text_of back m back_is)) in
      none (host_parts h).len (
        own ∙ sym same,
        subst (λ (f : Family). IsLengthOfMask (width_of f) (host_parts h).len (plain_bits m)) (sym same)
            (subst (λ (x : List Bool). IsLengthOfMask (width_of (host_family h)) (host_parts h).len x) bits len),
      )

  -- the address with the length
  abbrev with_length : IpAddr → ℕ → IpInet
  with_length (address.V4 a) n = host.V4 (host_of a n)
  with_length (address.V6 a) n = host.V6 (host_of a n)

  made : (a : IpAddr) (n : ℕ) → n ≤ width_of (address_family a) → ip_host_from a n ≡ Ok (with_length a n)
  made (address.V4 a) n fits = rw (le-ltb 32 n fits) refl
  made (address.V6 a) n fits = rw (le-ltb 128 n fits) refl

  are : (a m : IpAddr) (n : ℕ) → IsIpText front a → IsIpText back m → address_family a ≡ address_family m
      → IsLengthOfMask (width_of (address_family m)) n (plain_bits m) → AreAddressAndMask front back (with_length a n)
  are (address.V4 a) (address.V4 m) n front_is back_is same len = (front_is, m, back_is, len)
  are (address.V4 a) (address.V6 m) n front_is back_is same len = absurd (cc)
  are (address.V6 a) (address.V4 m) n front_is back_is same len = absurd (cc)
  are (address.V6 a) (address.V6 m) n front_is back_is same len = (front_is, m, back_is, len)

  module _ (a m : IpAddr) (n : ℕ) (front_is : IsIpText front a) (back_is : IsIpText back m) (beside : IsLengthBeside a m n) where
    is_made : ip_host_from a n ≡ Ok (with_length a n)
    is_made = made a n (subst (λ (f : Family). n ≤ width_of f) (sym beside.0) (mask_fits (width_of (address_family m)) n (plain_bits m) beside.1))

    pub made_host : (h : IpInet) → Ok h ≡ ip_host_from a n → AreAddressAndMask front back h
    made_host h is =
        let own : h ≡ with_length a n = (let both : Ok h ≡ Ok (with_length a n) = is ∙ is_made in cc) in
        subst (λ (k : IpInet). AreAddressAndMask front back k) (sym own) (are a m n front_is back_is beside.0 beside.1)

    pub never_refused : (e : LengthError) → Err e ≡ ip_host_from a n → (h : IpInet) → ¬ (AreAddressAndMask front back h)
    never_refused e is h masked = let both : Err e ≡ Ok (with_length a n) = is ∙ is_made in cc

-- ---- the network of a host without set bits
pub network_again : (n : IpCidr) → host_network (host_at first_host n) ≡ n
network_again (V4 p) = ap (λ (k : List Bool). V4 k) (take_at p (zeros (32 - length p)) (length p) refl)
network_again (V6 p) = ap (λ (k : List Bool). V6 k) (take_at p (zeros (128 - length p)) (length p) refl)

pub no_other_network : (text : List ℕ) (h : IpInet) → IsMaskedHost text h → host_at first_host (host_network h) ≢ h
    → (n : IpCidr) → ¬ (IsMaskedHost text (host_at first_host n))
no_other_network text h is differ n also =
    let same : host_at first_host n ≡ h = one_masked text (host_at first_host n) h also is in
    let network : host_network h ≡ n = sym (ap host_network same) ∙ network_again n in
    differ (ap (host_at first_host) network ∙ same)

-- ---- a network or a host without a mask
-- no mask is a prefix length
no_length_text : (family : Family) (back : List ℕ) (mask : List Bool) (n : ℕ) → IsAddressText family back mask → ¬ (IsLengthText back n)
no_length_text Ipv4 back mask n is len =
    let (i, j, k, l, (front, rest, split, octet, more)) = four_joined back mask is in
    not_lacking dot front rest (subst (λ (x : List ℕ). Lacks dot x) split (Lacks-length dot back n (omega arith) (omega arith) len))
no_length_text Ipv6 back mask n is len = has_colon back mask is (Lacks-length colon back n (omega arith) (omega arith) len)

module _ (text : List ℕ) (h : IpInet) where
  no_mask_behind : (front back : List ℕ) (n : ℕ) → text ≡ front ++ slash ∷ back → Lacks slash front → IsLengthText back n → ¬ (IsMaskedHost text h)
  no_mask_behind front back n spelled none len (g, d, cut, is) =
      let same = only_slash text front back spelled none g d cut (no_slash g d h is) in
      let (first, mask, second, length) = is in
      no_length_text (host_family h) d mask n second (subst (λ (k : List ℕ). IsLengthText k n) (sym same.1) len)

  -- an address alone has nothing behind it
  no_mask_alone : (family : Family) (a : List Bool) → IsAddressText family text a
      → ((i : ℕ) → i < length text → is_ascii_whitespace (slice_index_or text i 0) ≡ false) → ¬ (IsMaskedHost text h)
  no_mask_alone family a whole plain (g, d, inl spelled, is) =
      not_lacking slash g d (subst (λ (k : List ℕ). Lacks slash k) spelled ((address_grammar family).no_slash text a whole))
  no_mask_alone family a whole plain (g, d, inr (none, first, trim), is) =
      let all : text ≡ g = uncut is_ascii_whitespace text (length text) plain (omega arith) ∙ sym first in
      let rest : drop (length g) text ≡ [] = drop_all (length g) text (omega (arith, ap length all)) in
      let nothing : d ≡ [] =
      trim_ascii_start_is (drop (length g) text) d trim ∙ ap (λ (k : List ℕ). drop (prefix_len is_ascii_whitespace k) k) rest in
      let (address, mask, second, length) = is in
      empty_address (host_family h) mask (subst (λ (k : List ℕ). IsAddressText (host_family h) k mask) nothing second)

  no_mask_of : (family : Family) (p : List Bool) → IsNetworkText family text p
      → ((i : ℕ) → i < length text → is_ascii_whitespace (slice_index_or text i 0) ≡ false) → ¬ (IsMaskedHost text h)
  no_mask_of family p (inl is) plain = no_mask_alone family p is plain
  no_mask_of family p (inr s) plain =
      no_mask_behind s.front s.back s.len s.spelled ((address_grammar family).no_slash s.front s.address s.front_text) s.back_text

  no_mask_of_host : (family : Family) (k : Host) → IsHostText family text k
      → ((i : ℕ) → i < length text → is_ascii_whitespace (slice_index_or text i 0) ≡ false) → ¬ (IsMaskedHost text h)
  no_mask_of_host family k (inl (is, full)) plain = no_mask_alone family k.address is plain
  no_mask_of_host family k (inr s) plain =
      no_mask_behind s.front s.back k.len s.spelled ((address_grammar family).no_slash s.front k.address s.front_text) s.back_text

  pub no_mask_network : (n : IpCidr) → IsIpNetworkText text n → ¬ (IsMaskedHost text h)
  no_mask_network (V4 p) is = no_mask_of Ipv4 p is (unspaced Refused text (V4 p) is)
  no_mask_network (V6 p) is = no_mask_of Ipv6 p is (unspaced Refused text (V6 p) is)

  pub no_mask_host : (k : IpInet) → IsIpHostText text k → ¬ (IsMaskedHost text h)
  no_mask_host (host.V4 k) is = no_mask_of_host Ipv4 k is (unspaced Cleared text (host_network (host.V4 k)) (host.V4 k, is, refl))
  no_mask_host (host.V6 k) is = no_mask_of_host Ipv6 k is (unspaced Cleared text (host_network (host.V6 k)) (host.V6 k, is, refl))
