-- A text that is refused has one error, so that reading a text gives one result.
use Rattle.std.proofs.Common.{◌≡◌, ◌≢◌, ℕ, ◌<◌, ◌≤◌, Bool, List, refl, sym, ap, ◌∙◌, subst, arith, inl, inr, Result, Ok, Err, MatchResult}
use Rattle.cidr.specs.bytes.CompactRefusal.{HasOneError}
use Rattle.cidr.specs.either.IpAddress.{SpellsOne}
use Rattle.cidr.specs.either.IpText.{IsIpRefused}
use Rattle.cidr.specs.model.Network.{width_of, too_long}
use Rattle.cidr.specs.texts.AddressText.{IsAddressText}
use Rattle.cidr.specs.texts.NetworkText.{slash, IsLengthText}
use Rattle.cidr.specs.texts.Messages.{ip_error}
use Rattle.cidr.specs.texts.Refusal.{Lacks, CutsAtLastSlash, IsAddressPart, HasAddress, IsRefused}
use Rattle.cidr.proofs.Cuts.{not_lacking, one_cut, one_length}
use Rattle.cidr.proofs.EitherAddresses.{one_family}
use Rattle.cidr.proofs.NetworkTexts.{address_grammar}
use Rattle.cidr.specs.model.Errors.{AddressError}
use Rattle.cidr.specs.declared.errors.NetworkParseError.{NetworkParseError}
use Rattle.cidr.specs.declared.errors.NetworkParseError.TheVariants as parse_error
use Rattle.cidr.specs.declared.family.Family.{Family}
use Rattle.cidr.specs.declared.family.Family.TheVariants.{Ipv4}

-- a text that is cut at its last slash is cut in one way, and has a slash
pub one_last_cut : (text f b g d : List ℕ) → CutsAtLastSlash text f b → CutsAtLastSlash text g d → (f ≡ g) × (b ≡ d)
one_last_cut text f b g d h k = one_cut slash f b g d (sym h.0 ∙ k.0) h.1 k.1

pub cut_has_slash : (text f b : List ℕ) → CutsAtLastSlash text f b → ¬ (Lacks slash text)
cut_has_slash text f b h lacks = not_lacking slash f b (subst (Lacks slash) h.0 lacks)

module _ (family : Family) (text : List ℕ) where
  -- the address before the last slash, and the text after it, are one
  same_parts : (b d : List ℕ) (x y : List Bool) → HasAddress family text b x → HasAddress family text d y → (x ≡ y) × (b ≡ d)
  same_parts b d x y h k =
      let (f, back) = one_last_cut text h.front b k.front d h.cut k.cut in
      ((address_grammar family).one_value k.front x y (subst (λ t. IsAddressText family t x) f h.front_text) k.front_text, back)

  -- where an address stands before the last slash, the part for it spells one
  part_is_address : (b part : List ℕ) (x : List Bool) → HasAddress family text b x → IsAddressPart text part → ((a : List Bool) → ¬ (IsAddressText family part a)) → ⊥
  part_is_address b part x h (inl (lacks, same)) none = cut_has_slash text h.front b h.cut lacks
  part_is_address b part x h (inr (back, cut)) none =
      none x (subst (λ t. IsAddressText family t x) (one_last_cut text h.front b part back h.cut cut).0 h.front_text)

  same_length : (b d : List ℕ) (x y : List Bool) (m n : ℕ) → HasAddress family text b x → HasAddress family text d y → IsLengthText b m → IsLengthText d n → m ≡ n
  same_length b d x y m n h k l s = one_length d m n (subst (λ t. IsLengthText t m) (same_parts b d x y h k).1 l) s

  no_length : (b d : List ℕ) (x y : List Bool) (n : ℕ) → HasAddress family text b x → HasAddress family text d y → ((m : ℕ) → ¬ (IsLengthText b m)) → IsLengthText d n → ⊥
  no_length b d x y n h k none l = none n (subst (λ t. IsLengthText t n) (sym (same_parts b d x y h k).1) l)

  over_and_within : (b d : List ℕ) (x y : List Bool) (m n : ℕ) → HasAddress family text b x → HasAddress family text d y → IsLengthText b m → IsLengthText d n
      → width_of family < m → n ≤ width_of family → ⊥
  over_and_within b d x y m n h k l s over within = let same = same_length b d x y m n h k l s in omega arith

  module _ (error : AddressError) where
    pub one_refusal : (d e : NetworkParseError) → IsRefused family error text d → IsRefused family error text e → d ≡ e
    one_refusal (parse_error.AddrParseError d) (parse_error.AddrParseError e) h k = ap parse_error.AddrParseError (h.0 ∙ sym k.0)
    one_refusal (parse_error.AddrParseError d) (parse_error.NetworkLengthParseError e) (_, part, is, none) (b, x, k, _) = absurd (part_is_address b part x k is none)
    one_refusal (parse_error.AddrParseError d) (parse_error.NetworkLengthTooLongError e) (_, part, is, none) (b, x, n, k, _, _, _) = absurd (part_is_address b part x k is none)
    one_refusal (parse_error.AddrParseError d) parse_error.InvalidHostPart (_, part, is, none) (b, x, n, k, _, _, _) = absurd (part_is_address b part x k is none)
    one_refusal (parse_error.NetworkLengthParseError d) (parse_error.AddrParseError e) (b, x, k, _) (_, part, is, none) = absurd (part_is_address b part x k is none)
    one_refusal (parse_error.NetworkLengthParseError d) (parse_error.NetworkLengthParseError e) h k = refl
    one_refusal (parse_error.NetworkLengthParseError d) (parse_error.NetworkLengthTooLongError e) (b, x, h, none) (c, y, n, k, l, _, _) = absurd (no_length b c x y n h k none l)
    one_refusal (parse_error.NetworkLengthParseError d) parse_error.InvalidHostPart (b, x, h, none) (c, y, n, k, l, _, _) = absurd (no_length b c x y n h k none l)
    one_refusal (parse_error.NetworkLengthTooLongError d) (parse_error.AddrParseError e) (b, x, n, k, _, _, _) (_, part, is, none) = absurd (part_is_address b part x k is none)
    one_refusal (parse_error.NetworkLengthTooLongError d) (parse_error.NetworkLengthParseError e) (c, y, n, k, l, _, _) (b, x, h, none) = absurd (no_length b c x y n h k none l)
    one_refusal (parse_error.NetworkLengthTooLongError d) (parse_error.NetworkLengthTooLongError e) (b, x, m, h, l, over, is) (c, y, n, k, s, _, other) =
        ap parse_error.NetworkLengthTooLongError (is ∙ ap (λ z. too_long z family) (same_length b c x y m n h k l s) ∙ sym other)
    one_refusal (parse_error.NetworkLengthTooLongError d) parse_error.InvalidHostPart (b, x, m, h, l, over, is) (c, y, n, k, s, within, _) =
        absurd (over_and_within b c x y m n h k l s over within)
    one_refusal parse_error.InvalidHostPart (parse_error.AddrParseError e) (b, x, n, k, _, _, _) (_, part, is, none) = absurd (part_is_address b part x k is none)
    one_refusal parse_error.InvalidHostPart (parse_error.NetworkLengthParseError e) (c, y, n, k, l, _, _) (b, x, h, none) = absurd (no_length b c x y n h k none l)
    one_refusal parse_error.InvalidHostPart (parse_error.NetworkLengthTooLongError e) (c, y, n, k, s, within, _) (b, x, m, h, l, over, is) =
        absurd (over_and_within b c x y m n h k l s over within)
    one_refusal parse_error.InvalidHostPart parse_error.InvalidHostPart h k = refl

-- ---- either family
-- an error that is not the address's comes after an address of its family
has_address : (family : Family) (text : List ℕ) (e : NetworkParseError) → ((x : AddressError) → e ≢ parse_error.AddrParseError x)
    → IsRefused family ip_error text e → (b : List ℕ) × (x : List Bool) × HasAddress family text b x
has_address family text (parse_error.AddrParseError e) other h = absurd (other e refl)
has_address family text (parse_error.NetworkLengthParseError e) other (b, x, h, _) = (b, x, h)
has_address family text (parse_error.NetworkLengthTooLongError e) other (b, x, n, h, _, _, _) = (b, x, h)
has_address family text parse_error.InvalidHostPart other (b, x, n, h, _, _, _) = (b, x, h)

in_two_families : (text : List ℕ) (f g : Family) (d e : NetworkParseError) → ((x : AddressError) → d ≢ parse_error.AddrParseError x)
    → ((x : AddressError) → e ≢ parse_error.AddrParseError x) → IsRefused f ip_error text d → IsRefused g ip_error text e → d ≡ e
in_two_families text f g d e other another h k =
    let (b, x, at) = has_address f text d other h in
    let (c, y, also) = has_address g text e another k in
    let front = (one_last_cut text at.front b also.front c at.cut also.cut).0 in
    let same = one_family also.front f g x y (subst (λ t. IsAddressText f t x) front at.front_text) also.front_text in
    one_refusal g text ip_error d e (subst (λ z. IsRefused z ip_error text d) same h) k

pub one_ip_refusal : (text : List ℕ) (d e : NetworkParseError) → IsIpRefused text d → IsIpRefused text e → d ≡ e
one_ip_refusal text (parse_error.AddrParseError d) (parse_error.AddrParseError e) h k = one_refusal Ipv4 text ip_error _ _ (h Ipv4) (k Ipv4)
one_ip_refusal text (parse_error.AddrParseError d) (parse_error.NetworkLengthParseError e) h (f, k) = one_refusal f text ip_error _ _ (h f) k
one_ip_refusal text (parse_error.AddrParseError d) (parse_error.NetworkLengthTooLongError e) h (f, k) = one_refusal f text ip_error _ _ (h f) k
one_ip_refusal text (parse_error.AddrParseError d) parse_error.InvalidHostPart h (f, k) = one_refusal f text ip_error _ _ (h f) k
one_ip_refusal text (parse_error.NetworkLengthParseError d) (parse_error.AddrParseError e) (f, h) k = one_refusal f text ip_error _ _ h (k f)
one_ip_refusal text (parse_error.NetworkLengthParseError d) (parse_error.NetworkLengthParseError e) h k = refl
one_ip_refusal text (parse_error.NetworkLengthParseError d) (parse_error.NetworkLengthTooLongError e) (f, h) (g, k) = in_two_families text f g _ _ (λ x y. cc) (λ x y. cc) h k
one_ip_refusal text (parse_error.NetworkLengthParseError d) parse_error.InvalidHostPart (f, h) (g, k) = in_two_families text f g _ _ (λ x y. cc) (λ x y. cc) h k
one_ip_refusal text (parse_error.NetworkLengthTooLongError d) (parse_error.AddrParseError e) (f, h) k = one_refusal f text ip_error _ _ h (k f)
one_ip_refusal text (parse_error.NetworkLengthTooLongError d) (parse_error.NetworkLengthParseError e) (f, h) (g, k) = in_two_families text f g _ _ (λ x y. cc) (λ x y. cc) h k
one_ip_refusal text (parse_error.NetworkLengthTooLongError d) (parse_error.NetworkLengthTooLongError e) (f, h) (g, k) = in_two_families text f g _ _ (λ x y. cc) (λ x y. cc) h k
one_ip_refusal text (parse_error.NetworkLengthTooLongError d) parse_error.InvalidHostPart (f, h) (g, k) = in_two_families text f g _ _ (λ x y. cc) (λ x y. cc) h k
one_ip_refusal text parse_error.InvalidHostPart (parse_error.AddrParseError e) (f, h) k = one_refusal f text ip_error _ _ h (k f)
one_ip_refusal text parse_error.InvalidHostPart (parse_error.NetworkLengthParseError e) (f, h) (g, k) = in_two_families text f g _ _ (λ x y. cc) (λ x y. cc) h k
one_ip_refusal text parse_error.InvalidHostPart (parse_error.NetworkLengthTooLongError e) (f, h) (g, k) = in_two_families text f g _ _ (λ x y. cc) (λ x y. cc) h k
one_ip_refusal text parse_error.InvalidHostPart parse_error.InvalidHostPart h k = refl

-- ---- what a text spells and its one error are the one result of reading it
pub one_result : {V E : Type 0} (Spells : List ℕ → V → Type 0) (Refused : List ℕ → E → Type 0) → SpellsOne Spells → HasOneError Refused → (text : List ℕ) (r q : Result V E)
    → MatchResult r (Spells text) (λ e. Refused text e × ((v : V) → ¬ (Spells text v))) → MatchResult q (Spells text) (λ e. Refused text e × ((v : V) → ¬ (Spells text v))) → r ≡ q
one_result Spells Refused one none text (Ok v) (Ok w) h k = ap Ok (one text v w h k)
one_result Spells Refused one none text (Ok v) (Err e) h k = absurd (k.1 v h)
one_result Spells Refused one none text (Err d) (Ok w) h k = absurd (h.1 w k)
one_result Spells Refused one none text (Err d) (Err e) h k = ap Err (none text d e h.0 k.0)
