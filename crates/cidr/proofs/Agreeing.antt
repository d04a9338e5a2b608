-- The order, the addresses, the text and the bytes of a network each tell which network it is.
use Rattle.std.proofs.Common.{◌≡◌, ◌≢◌, ◌↔◌, ℕ, ◌≤◌, Bool, true, false, List, [], ◌∷◌, length, take, refl, sym, ap, ◌∙◌, subst, arith, append-nil, take_at}
use Rattle.std.specs.Bool.{IsTrue, IsFalse}
use Rattle.std.specs.Cmp.{IsTotalOrder}
use Rattle.std.specs.Ordering.{is_eq}
use Rattle.std.specs.declared.cmp.Ordering.{Ordering}
use Rattle.std.specs.declared.cmp.Ordering.TheVariants.{Less, Equal, Greater}
use Rattle.std.proofs.lemmas.Cmp.{tied_itself}
use Rattle.cidr.specs.model.Bits.{bit_cmp}
use Rattle.cidr.specs.model.Network.{width_of, BeginsWith, HasWidth, FitsWidth, HoldsAll}
use Rattle.cidr.specs.either.IpNetwork.{any_of, IsIpNetwork, IsAnyNetwork, IsAddressBits}
use Rattle.cidr.specs.either.IpAddress.{TiesEqual}
use Rattle.cidr.specs.either.IpText.{IsIpNetworkText, IsAnyNetworkText, ip_network_text, any_network_text}
use Rattle.cidr.specs.texts.NetworkText.{IsNetworkText}
use Rattle.cidr.specs.texts.Printed.{plain_text}
use Rattle.cidr.specs.bytes.Compact.{network_bytes, ip_network_bytes, any_network_bytes}
use Rattle.cidr.specs.bytes.CompactRefusal.{Only, Both, IsNetworkBytesRefused, IsAnyBytesRefused}
use Rattle.cidr.specs.bytes.Agreement.{IsAddressOf, IsIpAddressOf, IsAnyAddressOf, SameAddresses, AllAgree, NoneAgrees, TellsNetwork}
use Rattle.cidr.specs.laws.BitLaws.{same_bits, bit_eq_ties}
use Rattle.cidr.specs.declared.cidr.any.AnyIpCidr.{AnyIpCidr}
use Rattle.cidr.specs.declared.cidr.any.AnyIpCidr.TheVariants as any_network
use Rattle.cidr.specs.declared.cidr.combined.IpCidr.{IpCidr}
use Rattle.cidr.specs.declared.cidr.combined.IpCidr.TheVariants.{V4, V6}
use Rattle.cidr.specs.declared.errors.CompactError.{CompactError}
use Rattle.cidr.specs.declared.family.Family.{Family}
use Rattle.cidr.specs.declared.family.Family.TheVariants.{Ipv4, Ipv6}
use Rattle.cidr.proofs.CompactBytes.{IsCode, network_code}
use Rattle.cidr.proofs.CompactEither.{ip_network_code, any_code}
use Rattle.cidr.proofs.EitherHolding.{holds_ipv4, holds_ipv6, ipv4_apart, ipv6_apart, holds_not_all}
use Rattle.cidr.proofs.EitherTexts.{one_ip_network, one_any_network}
use Rattle.cidr.proofs.Holding.{not_longer, holding}
use Rattle.cidr.proofs.NetworkPrinting.{network_plain}
use Rattle.cidr.proofs.NetworkTexts.{one_network}

-- ---- agreeing in one of them is agreeing in all
equal_or_not : (o : Ordering) → is_eq o ≡ true → o ≡ Equal
equal_or_not Less h = cc
equal_or_not Equal h = refl
equal_or_not Greater h = cc

not_equal : (o : Ordering) → is_eq o ≡ false → o ≢ Equal
not_equal Less h e = cc
not_equal Equal h e = cc
not_equal Greater h e = cc

module _ {N : Type 0} (Holds : N → List Bool → Type 0) (text bytes : N → List ℕ) (cmp : N → N → Ordering) (IsNetwork : N → Type 0)
    (total : IsTotalOrder cmp) (tells : TellsNetwork Holds text bytes cmp IsNetwork) (x y : N) (ix : IsNetwork x) (iy : IsNetwork y) where
  all_agree : x ≡ y → AllAgree Holds text bytes cmp x y
  all_agree same = record {
    value = same;
    order = ap (λ (z : N). cmp x z) (sym same) ∙ tied_itself total x;
    addresses = λ a. (subst (λ (z : N). Holds z a) same, subst (λ (z : N). Holds z a) (sym same));
    texts = ap text same;
    compact = ap bytes same;
  }

  none_agrees : x ≢ y → NoneAgrees Holds text bytes cmp x y
  none_agrees other = record {
    value = other;
    order = λ e. other (tells.by_order x y ix iy e);
    addresses = λ s. other (tells.by_addresses x y ix iy s);
    texts = λ e. other (tells.by_text x y ix iy e);
    compact = λ e. other (tells.by_bytes x y ix iy e);
  }

  pub agree_all : (b : Bool) → b ≡ is_eq (cmp x y) → IsTrue b ↔ AllAgree Holds text bytes cmp x y
  agree_all b h = (
    λ t. all_agree (tells.by_order x y ix iy (equal_or_not (cmp x y) (sym h ∙ t))),
    λ a. h ∙ ap is_eq a.order,
  )

  pub agree_none : (b : Bool) → b ≡ is_eq (cmp x y) → IsFalse b ↔ NoneAgrees Holds text bytes cmp x y
  agree_none b h = (
    λ f. none_agrees (λ same. not_equal (cmp x y) (sym h ∙ f) (all_agree same).order),
    λ none. not_true b (λ t. none.order (equal_or_not (cmp x y) (sym h ∙ t))),
  )
    where
      not_true : (c : Bool) → ¬ (c ≡ true) → c ≡ false
      not_true true n = absurd (n refl)
      not_true false n = refl

-- ---- address sets
holds_both : (IsAddress : List Bool → Type 0) (p q : List Bool) → SameAddresses (λ a. IsAddress a × BeginsWith a p) (λ a. IsAddress a × BeginsWith a q)
    → HoldsAll IsAddress p q × HoldsAll IsAddress q p
unfolding HoldsAll
holds_both IsAddress p q s = (λ a is begins. ((s a).1 (is, begins)).1, λ a is begins. ((s a).0 (is, begins)).1)

same_from_holds : (w : ℕ) (p q : List Bool) → length p ≤ w → length q ≤ w → HoldsAll (HasWidth w) p q × HoldsAll (HasWidth w) q p → p ≡ q
same_from_holds w p q lp lq h =
    let begins = (holding w p q lp lq).1 h.0 in
    let back = (holding w q p lq lp).1 h.1 in
    let len : length p ≡ length q = omega (arith, not_longer p q begins, not_longer q p back) in
    sym begins ∙ ap (λ n. take n q) len ∙ ap (take (length q)) (sym (append-nil q)) ∙ take_at q [] (length q) refl

-- ---- one family
by_order : (p q : List Bool) → bit_cmp p q ≡ Equal → p ≡ q
by_order p q h = same_bits p q (bit_eq_ties p q ∙ ap is_eq h)

by_addresses : (f : Family) (p q : List Bool) → FitsWidth (width_of f) p → FitsWidth (width_of f) q → SameAddresses (IsAddressOf f p) (IsAddressOf f q) → p ≡ q
by_addresses f p q lp lq s = same_from_holds (width_of f) p q lp lq (holds_both (HasWidth (width_of f)) p q s)

by_text : (f : Family) (p q : List Bool) → FitsWidth (width_of f) p → FitsWidth (width_of f) q → plain_text f p ≡ plain_text f q → p ≡ q
by_text f p q lp lq e = one_network f (plain_text f q) p q (subst (λ t. IsNetworkText f t p) e (network_plain f p lp)) (network_plain f q lq)

by_code : {V : Type 0} (IsValue : V → Type 0) (bytes_of : V → List ℕ) (IsRefused : List ℕ → CompactError → Type 0) → IsCode IsValue bytes_of IsRefused
    → (u v : V) → IsValue u → IsValue v → bytes_of u ≡ bytes_of v → u ≡ v
by_code IsValue bytes_of IsRefused code u v iu iv e =
    code.one (bytes_of u) u v [] [] iu iv (sym (append-nil (bytes_of u))) (e ∙ sym (append-nil (bytes_of v)))

pub network_tells : (f : Family) → TellsNetwork (IsAddressOf f) (plain_text f) (network_bytes f) bit_cmp (FitsWidth (width_of f))
network_tells f = record {
  by_order = λ x y ix iy. by_order x y;
  by_addresses = by_addresses f;
  by_text = by_text f;
  by_bytes = by_code (FitsWidth (width_of f)) (network_bytes f) (IsNetworkBytesRefused (Only f)) (network_code f);
}

-- ---- either family
ip_by_addresses : (x y : IpCidr) → IsIpNetwork x → IsIpNetwork y → SameAddresses (IsIpAddressOf x) (IsIpAddressOf y) → x ≡ y
ip_by_addresses (V4 p) (V4 q) lp lq s =
    let h = holds_both IsAddressBits (false ∷ p) (false ∷ q) s in
    ap V4 (same_from_holds 32 p q lp lq ((holds_ipv4 p q).1 h.0, (holds_ipv4 q p).1 h.1))
ip_by_addresses (V4 p) (V6 q) lp lq s = absurd ((ipv6_apart p q lq).0 (holds_both IsAddressBits (false ∷ p) (true ∷ q) s).0)
ip_by_addresses (V6 p) (V4 q) lp lq s = absurd ((ipv4_apart p q lq).0 (holds_both IsAddressBits (true ∷ p) (false ∷ q) s).0)
ip_by_addresses (V6 p) (V6 q) lp lq s =
    let h = holds_both IsAddressBits (true ∷ p) (true ∷ q) s in
    ap V6 (same_from_holds 128 p q lp lq ((holds_ipv6 p q).1 h.0, (holds_ipv6 q p).1 h.1))

ip_plain : (x : IpCidr) → IsIpNetwork x → IsIpNetworkText (ip_network_text plain_text x) x
ip_plain (V4 p) fits = network_plain Ipv4 p fits
ip_plain (V6 p) fits = network_plain Ipv6 p fits

ip_by_text : (x y : IpCidr) → IsIpNetwork x → IsIpNetwork y → ip_network_text plain_text x ≡ ip_network_text plain_text y → x ≡ y
ip_by_text x y lx ly e = one_ip_network (ip_network_text plain_text y) x y (subst (λ t. IsIpNetworkText t x) e (ip_plain x lx)) (ip_plain y ly)

pub ip_network_tells : (cmp : IpCidr → IpCidr → Ordering) → TiesEqual cmp → TellsNetwork IsIpAddressOf (ip_network_text plain_text) ip_network_bytes cmp IsIpNetwork
ip_network_tells cmp ties = record {
  by_order = λ x y ix iy e. (ties x y).0 e;
  by_addresses = ip_by_addresses;
  by_text = ip_by_text;
  by_bytes = by_code IsIpNetwork ip_network_bytes (IsNetworkBytesRefused Both) ip_network_code;
}

-- ---- and `any`
any_by_addresses : (x y : AnyIpCidr) → IsAnyNetwork x → IsAnyNetwork y → SameAddresses (IsAnyAddressOf x) (IsAnyAddressOf y) → x ≡ y
any_by_addresses any_network.Any any_network.Any lx ly s = refl
any_by_addresses any_network.Any (any_network.V4 q) lx ly s = absurd ((holds_not_all false q).0 (holds_both IsAddressBits [] (false ∷ q) s).1)
any_by_addresses any_network.Any (any_network.V6 q) lx ly s = absurd ((holds_not_all true q).0 (holds_both IsAddressBits [] (true ∷ q) s).1)
any_by_addresses (any_network.V4 p) any_network.Any lx ly s = absurd ((holds_not_all false p).0 (holds_both IsAddressBits (false ∷ p) [] s).0)
any_by_addresses (any_network.V6 p) any_network.Any lx ly s = absurd ((holds_not_all true p).0 (holds_both IsAddressBits (true ∷ p) [] s).0)
any_by_addresses (any_network.V4 p) (any_network.V4 q) lx ly s = ap any_of (ip_by_addresses (V4 p) (V4 q) lx ly s)
any_by_addresses (any_network.V4 p) (any_network.V6 q) lx ly s = ap any_of (ip_by_addresses (V4 p) (V6 q) lx ly s)
any_by_addresses (any_network.V6 p) (any_network.V4 q) lx ly s = ap any_of (ip_by_addresses (V6 p) (V4 q) lx ly s)
any_by_addresses (any_network.V6 p) (any_network.V6 q) lx ly s = ap any_of (ip_by_addresses (V6 p) (V6 q) lx ly s)

any_plain : (x : AnyIpCidr) → IsAnyNetwork x → IsAnyNetworkText (any_network_text plain_text x) x
any_plain any_network.Any fits = refl
any_plain (any_network.V4 p) fits = network_plain Ipv4 p fits
any_plain (any_network.V6 p) fits = network_plain Ipv6 p fits

any_by_text : (x y : AnyIpCidr) → IsAnyNetwork x → IsAnyNetwork y → any_network_text plain_text x ≡ any_network_text plain_text y → x ≡ y
any_by_text x y lx ly e = one_any_network (any_network_text plain_text y) x y (subst (λ t. IsAnyNetworkText t x) e (any_plain x lx)) (any_plain y ly)

pub any_network_tells : (cmp : AnyIpCidr → AnyIpCidr → Ordering) → TiesEqual cmp → TellsNetwork IsAnyAddressOf (any_network_text plain_text) any_network_bytes cmp IsAnyNetwork
any_network_tells cmp ties = record {
  by_order = λ x y ix iy e. (ties x y).0 e;
  by_addresses = any_by_addresses;
  by_text = any_by_text;
  by_bytes = by_code IsAnyNetwork any_network_bytes IsAnyBytesRefused any_code;
}
