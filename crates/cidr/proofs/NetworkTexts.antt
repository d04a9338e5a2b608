-- A host text or a network text spells one value, and one that is refused spells none.
use Rattle.std.proofs.Common.{◌≡◌, ℕ, Bool, List, refl, sym, ap, ap₂, ◌∙◌, subst, arith, inl, inr, Result, Ok, Err}
use Rattle.cidr.specs.model.Host.{Host, network_of}
use Rattle.cidr.specs.model.Network.{width_of}
use Rattle.cidr.specs.texts.AddressText.{IsAddressText}
use Rattle.cidr.specs.texts.NetworkText.{slash, IsLengthText, IsSlashed, IsNetworkText}
use Rattle.cidr.specs.texts.Refusal.{Lacks, CutsAtLastSlash, HasAddress, IsRefused, ReadsNetwork}
use Rattle.cidr.specs.texts.HostText.{IsSlashedHost, IsHostText, IsHostRefused}
use Rattle.cidr.specs.model.Errors.{AddressError}
use Rattle.cidr.specs.declared.errors.NetworkParseError.{NetworkParseError}
use Rattle.cidr.specs.declared.errors.NetworkParseError.TheVariants as parse_error
use Rattle.cidr.specs.declared.family.Family.{Family}
use Rattle.cidr.specs.declared.family.Family.TheVariants.{Ipv4, Ipv6}
use Rattle.cidr.proofs.Cuts.{not_lacking, one_cut, Lacks-length, one_length}
use Rattle.cidr.proofs.Ipv4Grammar.{IsGrammar, ipv4_grammar}
use Rattle.cidr.proofs.Ipv6Grammar.{ipv6_grammar}

-- both families' texts
pub address_grammar : (family : Family) → IsGrammar (IsAddressText family)
address_grammar Ipv4 = ipv4_grammar
address_grammar Ipv6 = ipv6_grammar

module _ (family : Family) where
  g : IsGrammar (IsAddressText family)
  g = address_grammar family

  pub whole_not_cut : (text front back : List ℕ) (p : List Bool) → IsAddressText family text p → CutsAtLastSlash text front back → ⊥
  whole_not_cut text front back p h cut =
      let lacks = g.no_slash text p h in
      not_lacking slash front back (subst (Lacks slash) cut.0 lacks)

  pub same_cut : (text front back : List ℕ) (host : Host) (s : IsSlashedHost family text host) → CutsAtLastSlash text front back → (front ≡ s.front) × (back ≡ s.back)
  same_cut text front back host s cut =
      one_cut slash front back s.front s.back (sym cut.0 ∙ s.spelled) cut.1 (Lacks-length slash s.back host.len (omega arith) (omega arith) s.back_text)

  -- a cut text with this address and length spells no other
  same_address : (text back : List ℕ) (a : List Bool) (host : Host) (h : HasAddress family text back a) (s : IsSlashedHost family text host) → (a ≡ host.address) × (back ≡ s.back)
  same_address text back a host h s =
      let (f, b) = same_cut text h.front back host s h.cut in
      (g.one_value s.front a host.address (subst (λ t. IsAddressText family t a) f h.front_text) s.front_text, b)

  same_length : (text back : List ℕ) (a : List Bool) (host : Host) (n : ℕ) (h : HasAddress family text back a) (s : IsSlashedHost family text host) → IsLengthText back n → n ≡ host.len
  same_length text back a host n h s l =
      one_length s.back n host.len (subst (λ t. IsLengthText t n) (same_address text back a host h s).1 l) s.back_text

  -- a text that is refused for another fault than its host part spells no host
  pub refused_no_host : (error : AddressError) (text : List ℕ) (e : NetworkParseError) (host : Host) → IsHostRefused family error text e → ¬ (IsHostText family text host)
  refused_no_host error text (parse_error.AddrParseError e) host ((_, part, inl (lacks, same), none), _) (inl whole) = none host.address (rw same whole.0)
  refused_no_host error text (parse_error.AddrParseError e) host ((_, part, inl (lacks, same), none), _) (inr s) =
      not_lacking slash s.front s.back (subst (Lacks slash) s.spelled lacks)
  refused_no_host error text (parse_error.AddrParseError e) host ((_, part, inr (back, cut), none), _) (inl whole) = whole_not_cut text part back host.address whole.0 cut
  refused_no_host error text (parse_error.AddrParseError e) host ((_, part, inr (back, cut), none), _) (inr s) =
      none host.address (rw (same_cut text part back host s cut).0 s.front_text)
  refused_no_host error text (parse_error.NetworkLengthParseError e) host ((back, a, h, none), _) (inl whole) = whole_not_cut text h.front back host.address whole.0 h.cut
  refused_no_host error text (parse_error.NetworkLengthParseError e) host ((back, a, h, none), _) (inr s) =
      none host.len (rw (same_address text back a host h s).1 s.back_text)
  refused_no_host error text (parse_error.NetworkLengthTooLongError e) host ((back, a, n, h, l, over, _), _) (inl whole) = whole_not_cut text h.front back host.address whole.0 h.cut
  refused_no_host error text (parse_error.NetworkLengthTooLongError e) host ((back, a, n, h, l, over, _), _) (inr s) =
      let same = same_length text back a host n h s l in
      omega (arith, s.fits)
  refused_no_host error text parse_error.InvalidHostPart host (_, other) k = other refl

  -- a text spells one host
  pub one_host : (text : List ℕ) (h k : Host) → IsHostText family text h → IsHostText family text k → h ≡ k
  one_host text h k (inl s) (inl t) = ap₂ (λ a n. record { address = a; len = n }) (g.one_value text h.address k.address s.0 t.0) (s.1 ∙ sym t.1)
  one_host text h k (inl s) (inr t) = absurd (not_lacking slash t.front t.back (subst (Lacks slash) t.spelled (g.no_slash text h.address s.0)))
  one_host text h k (inr s) (inl t) = absurd (not_lacking slash s.front s.back (subst (Lacks slash) s.spelled (g.no_slash text k.address t.0)))
  one_host text h k (inr s) (inr t) =
      let s_lacks = Lacks-length slash s.back h.len (omega arith) (omega arith) s.back_text in
      let t_lacks = Lacks-length slash t.back k.len (omega arith) (omega arith) t.back_text in
      let (f, b) = one_cut slash s.front s.back t.front t.back (sym s.spelled ∙ t.spelled) s_lacks t_lacks in
      let address = g.one_value t.front h.address k.address (subst (λ x. IsAddressText family x h.address) f s.front_text) t.front_text in
      let len = one_length t.back h.len k.len (subst (λ x. IsLengthText x h.len) b s.back_text) t.back_text in
      ap₂ (λ a n. record { address = a; len = n }) address len

  -- a network text is a host text too
  as_host : (text : List ℕ) (p : List Bool) (s : IsSlashed family text p) → IsSlashedHost family text (record { address = s.address; len = s.len })
  as_host text p s = record { front = s.front; back = s.back; spelled = s.spelled; front_text = s.front_text; back_text = s.back_text; fits = s.fits }

  pub some_host : (text : List ℕ) (p : List Bool) → IsNetworkText family text p → (host : Host) × IsHostText family text host
  some_host text p (inl whole) = (record { address = p; len = width_of family }, inl (whole, refl))
  some_host text p (inr s) = (record { address = s.address; len = s.len }, inr (as_host text p s))

  -- a refused text spells no network
  pub refused_none : (error : AddressError) (text : List ℕ) (e : NetworkParseError) (p : List Bool) → IsRefused family error text e → ¬ (IsNetworkText family text p)
  refused_none error text (parse_error.AddrParseError e) p r k =
      let (host, t) = some_host text p k in refused_no_host error text (parse_error.AddrParseError e) host (r, λ x. cc) t
  refused_none error text (parse_error.NetworkLengthParseError e) p r k =
      let (host, t) = some_host text p k in refused_no_host error text (parse_error.NetworkLengthParseError e) host (r, λ x. cc) t
  refused_none error text (parse_error.NetworkLengthTooLongError e) p r k =
      let (host, t) = some_host text p k in refused_no_host error text (parse_error.NetworkLengthTooLongError e) host (r, λ x. cc) t
  refused_none error text parse_error.InvalidHostPart p (back, a, n, h, l, within, host) (inl whole) = whole_not_cut text h.front back p whole h.cut
  refused_none error text parse_error.InvalidHostPart p (back, a, n, h, l, within, host) (inr s) =
      let t = as_host text p s in
      let same = same_length text back a _ n h t l in
      let address = (same_address text back a _ h t).0 in
      host (rw (same, address) s.host)

-- a text spells one network, and reading gives it
module _ (family : Family) where
  pub one_network : (text : List ℕ) (p q : List Bool) → IsNetworkText family text p → IsNetworkText family text q → p ≡ q
  one_network text p q (inl h) (inl k) = (g family).one_value text p q h k
  one_network text p q (inl h) (inr s) = absurd (not_lacking slash s.front s.back (subst (Lacks slash) s.spelled ((g family).no_slash text p h)))
  one_network text p q (inr s) (inl k) = absurd (not_lacking slash s.front s.back (subst (Lacks slash) s.spelled ((g family).no_slash text q k)))
  one_network text p q (inr s) (inr t) =
      s.value ∙ ap network_of (one_host family text _ _ (inr (as_host family text p s)) (inr (as_host family text q t))) ∙ sym t.value

  pub reads_spelled : (text : List ℕ) (p : List Bool) (r : Result (List Bool) NetworkParseError) → IsNetworkText family text p → ReadsNetwork family text r → r ≡ Ok p
  reads_spelled text p (Ok q) h k = ap Ok (one_network text q p k h)
  reads_spelled text p (Err e) h k = absurd (k.1 p h)
