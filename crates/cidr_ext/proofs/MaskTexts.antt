-- Networks as strings with a mask: what is read of their parts, and that what is printed is read.
use Rattle.std.proofs.Common.{◌≡◌, ◌≢◌, ℕ, ◌+◌, ◌-◌, ◌*◌, ◌^◌, ◌<◌, ◌≤◌, Bool, true, false, List, ◌∷◌, ◌++◌, length, take, drop, refl, sym, ap, ap₂, ◌∙◌, subst, arith, inl, inr, nat_lt, Option, Some, None, MatchOption, Result, Ok, Err, IfOk, take_at, drop_at, ok_or, MatchResult}
use Rattle.std.proofs.Math.Pow.{pow-lt, pow_mono}
use Rattle.std.proofs.lemmas.Bool.{cases_Bool, cases_lt, le-ltb}
use Rattle.std.proofs.lemmas.Nat.{pow_pos, pow-add}
use Rattle.std.specs.Result.{result_ok}
use Rattle.cidr.specs.either.ByFamily.{IsKnownBy}
use Rattle.cidr.specs.model.Bits.{number, bit_eq}
use Rattle.cidr.specs.model.Network.{width_of, zeros, ones, first_of, mask_of, network_from}
use Rattle.cidr.specs.model.Views.{seen}
use Rattle.cidr.specs.laws.BitLaws.{bit_eq_Decides}
use Rattle.cidr.specs.laws.NetworkLaws.{first_of-take, length-first_of, length-take-within}
use Rattle.cidr.specs.texts.AddressText.{IsAddressText}
use Rattle.cidr.specs.texts.NetworkText.{slash}
use Rattle.cidr.specs.texts.PrintedAddress.{address_text, longest_address}
use Rattle.cidr.specs.texts.Refusal.{Lacks, CutsAtLastSlash}
use Rattle.cidr.specs.declared.errors.NetworkParseError.{NetworkParseError}
use Rattle.cidr.specs.declared.errors.NetworkParseError.TheVariants as parse_error
use Rattle.cidr.specs.declared.family.Family.{Family}
use Rattle.cidr.specs.declared.family.Family.TheVariants.{Ipv4, Ipv6}
use Rattle.cidr.proofs.Cuts.{not_lacking, one_cut}
use Rattle.cidr.proofs.EitherAddresses.{one_family}
use Rattle.cidr.proofs.NetworkPrinting.{IsAddressText-address_text, pushed_slash}
use Rattle.cidr.proofs.NetworkTexts.{address_grammar}
use Rattle.cidr_ext.specs.model.Inside.{IsMaskOf, IsHostMaskOf, host_mask_of}
use Rattle.cidr_ext.specs.texts.MaskText.{IsLengthOfMask, IsMaskText, ReadsMaskText, mask_text, host_mask_text}
use Rattle.cidr_ext.specs.declared.mask_text.MaskParseError.{MaskParseError}
use Rattle.cidr_ext.specs.declared.mask_text.MaskParseError.TheVariants.{InvalidAddress, InvalidMask, NonContiguousMask, InvalidHostPart}
use Rattle.cidr_ext.proofs.Masks.{number-mask, length-mask, number-host_mask, length-host_mask}

-- ---- the last slash
module _ (f : Family) (text : List ℕ) (p : List Bool) (s : IsMaskText f text p) where
  pub same_parts : (front back : List ℕ) → CutsAtLastSlash text front back → (front ≡ s.front) × (back ≡ s.back)
  same_parts front back cut =
      one_cut slash front back s.front s.back (sym cut.0 ∙ s.spelled) cut.1 ((address_grammar f).no_slash s.back s.mask s.back_text)

  pub has_slash : ¬ (Lacks slash text)
  has_slash lacks = not_lacking slash s.front s.back (subst (Lacks slash) s.spelled lacks)

-- ---- the length of a mask
same_power : (m n : ℕ) → 2 ^ m ≡ 2 ^ n → m ≡ n
same_power m n e = elim (cases_lt m n) [
  | inl less ↦ let more : 2 ^ m < 2 ^ n = pow-lt less in absurd (omega arith)
  | inr least ↦ elim (cases_lt n m) as (λ _. m ≡ n) [
    | inl less ↦ let more : 2 ^ n < 2 ^ m = pow-lt less in absurd (omega arith)
    | inr back ↦ omega arith
  ]
]

one_mask : (w m n : ℕ) (a : List Bool) → IsMaskOf w m a → IsMaskOf w n a → m ≡ n
one_mask w m n a (h, e) (k, g) =
    let x : number a + 2 ^ (w - m) ≡ 2 ^ w = ap (λ t. number t + 2 ^ (w - m)) e ∙ number-mask w m h in
    let y : number a + 2 ^ (w - n) ≡ 2 ^ w = ap (λ t. number t + 2 ^ (w - n)) g ∙ number-mask w n k in
    let same = same_power (w - m) (w - n) (omega arith) in
    omega arith

one_host_mask : (w m n : ℕ) (a : List Bool) → IsHostMaskOf w m a → IsHostMaskOf w n a → m ≡ n
one_host_mask w m n a (h, e) (k, g) =
    let x : number a ≡ 2 ^ (w - m) - 1 = ap number e ∙ number-host_mask w m h in
    let y : number a ≡ 2 ^ (w - n) - 1 = ap number g ∙ number-host_mask w n k in
    let same = same_power (w - m) (w - n) (omega (arith, pow_pos (w - m), pow_pos (w - n))) in
    omega arith

one_length : (w m n : ℕ) (a : List Bool) → IsLengthOfMask w m a → IsLengthOfMask w n a → m ≡ n
one_length w m n a (inl h) (inl k) = one_mask w m n a h k
one_length w m n a (inl h) (inr k) = absurd (k.0 m h)
one_length w m n a (inr h) (inl k) = absurd (h.0 n k)
one_length w m n a (inr h) (inr k) = one_host_mask w m n a h.1 k.1

within : (w n : ℕ) (a : List Bool) → IsLengthOfMask w n a → n ≤ w
within w n a (inl h) = h.0
within w n a (inr h) = h.1.0

length_of : (w n : ℕ) (a : List Bool) → IsLengthOfMask w n a → length a ≡ w
length_of w n a (inl h) = ap length h.1 ∙ length-mask w n h.0
length_of w n a (inr h) = ap length h.1.1 ∙ length-host_mask w n h.1.0

-- where a mask is no network mask, it is what it is as a host mask
pub length_none : (w : ℕ) (a : List Bool) (r : Option ℕ) → ((n : ℕ) → ¬ (IsMaskOf w n a))
    → MatchOption r ((n : ℕ) → ¬ (IsHostMaskOf w n a)) (λ n. IsHostMaskOf w n a)
    → MatchOption r ((n : ℕ) → ¬ (IsLengthOfMask w n a)) (λ n. IsLengthOfMask w n a)
length_none w a None unlike none = λ n. elim [ inl h ↦ unlike n h | inr h ↦ none n h.1 ]
length_none w a (Some n) unlike is = inr (unlike, is)

-- ---- printing
-- a host mask is a network mask only at both ends
no_mask : (w n k : ℕ) → 0 < n → n < w → ¬ (IsMaskOf w k (zeros n ++ ones (w - n)))
no_mask w n k some below (h, e) =
    let sum : number (zeros n ++ ones (w - n)) + 2 ^ (w - k) ≡ 2 ^ w = ap (λ t. number t + 2 ^ (w - k)) e ∙ number-mask w k h in
    let host = number-host_mask w n (omega arith) in
    let left : 1 ≤ w - n = omega arith in
    let two : 2 ^ 1 ≤ 2 ^ (w - n) = pow_mono left in
    let shorter : w - n ≤ w - 1 = omega arith in
    let half : 2 ^ (w - n) ≤ 2 ^ (w - 1) = pow_mono shorter in
    let more : w ≡ (w - 1) + 1 = omega arith in
    let whole : 2 ^ w ≡ 2 ^ (w - 1) * 2 ^ 1 = ap (λ x. 2 ^ x) more ∙ pow-add 2 (w - 1) 1 in
    elim (cases_lt k 1) [
      | inl none ↦ let full : w - k ≡ w = omega arith in omega (arith, ap (λ x. 2 ^ x) full)
      | inr one ↦
          let fewer : w - k ≤ w - 1 = omega arith in
          let less : 2 ^ (w - k) ≤ 2 ^ (w - 1) = pow_mono fewer in
          omega (arith, pow_pos (w - k))
    ]

module _ (f : Family) (p : List Bool) (fits : length p ≤ width_of f) where
  first_read : IsAddressText f (address_text f (first_of (width_of f) p)) (first_of (width_of f) p)
  first_read = IsAddressText-address_text f (first_of (width_of f) p) (length-first_of (width_of f) p fits)

  pub mask_printed : IsMaskText f (mask_text f p) p
  mask_printed = record {
    front = address_text f (first_of (width_of f) p);
    back = address_text f (mask_of (width_of f) p);
    mask = mask_of (width_of f) p;
    spelled = refl;
    front_text = first_read;
    back_text = IsAddressText-address_text f (mask_of (width_of f) p) (length-mask (width_of f) (length p) fits);
    len = inl (fits, refl);
  }

  pub host_mask_printed : 0 < length p → length p < width_of f → IsMaskText f (host_mask_text f p) p
  host_mask_printed some below = record {
    front = address_text f (first_of (width_of f) p);
    back = address_text f (host_mask_of (width_of f) p);
    mask = host_mask_of (width_of f) p;
    spelled = refl;
    front_text = first_read;
    back_text = IsAddressText-address_text f (host_mask_of (width_of f) p) (length-host_mask (width_of f) (length p) fits);
    len = inr ((λ k. no_mask (width_of f) (length p) k some below), (fits, refl));
  }

-- room for two of the longest addresses and a slash
pub longest_room : (f : Family) → longest_address f ≤ 39
longest_room Ipv4 = omega arith
longest_room Ipv6 = omega arith

pub ruleset joined_laws = (longest_room, pushed_slash)

-- both addresses, as a program reaches them
pub printed : (f g h : Family) (a m x y : List Bool) (done : List ℕ) → done ≡ address_text g a ++ slash ∷ address_text h m → g ≡ f → h ≡ f → a ≡ x → m ≡ y
    → done ≡ address_text f x ++ slash ∷ address_text f y
printed f g h a m x y done is same other first mask =
    is ∙ ap₂ (λ k z. address_text k z ++ slash ∷ address_text h m) same first ∙ ap₂ (λ k z. address_text f x ++ slash ∷ address_text k z) other mask

-- ---- reading
drop_first : (w : ℕ) (p : List Bool) → drop (length p) (first_of w p) ≡ zeros (w - length p)
drop_first w p = drop_at p (zeros (w - length p)) (length p) refl

moved : (f g : Family) (s t : List ℕ) (a b : List Bool) → f ≡ g → s ≡ t → a ≡ b → IsAddressText f s a → IsAddressText g t b
moved f g s t a b p q r h = subst (λ x. IsAddressText x t b) p (subst (λ x. IsAddressText f x b) q (subst (λ x. IsAddressText f s x) r h))

module _ (f : Family) (a : List Bool) (n : ℕ) (fits : n ≤ width_of f) where
  not_long : nat_lt (width_of f) n ≡ false
  not_long = le-ltb (width_of f) n fits

  is_made : drop n a ≡ zeros (width_of f - n) → network_from f a n ≡ Ok (take n a)
  is_made z = let zero : bit_eq (drop n a) (zeros (width_of f - n)) ≡ true = (bit_eq_Decides _ _).1 z in rw (not_long, zero) refl

  is_refused : bit_eq (drop n a) (zeros (width_of f - n)) ≡ false → network_from f a n ≡ Err parse_error.InvalidHostPart
  is_refused z = rw (not_long, z) refl

-- an address of a type, as a program parses it
pub address_parsed : {A E : Type 0} (family : A → Family) (bits : A → List Bool) (text : List ℕ) (r : Result A E) (o : Option A) → o ≡ result_ok r
    → MatchResult r (λ a. IsAddressText (family a) text (bits a)) (λ e. (a : A) → ¬ (IsAddressText (family a) text (bits a)))
    → MatchOption o ((a : A) → ¬ (IsAddressText (family a) text (bits a))) (λ a. IsAddressText (family a) text (bits a))
address_parsed family bits text (Ok a) o e h = rw e h
address_parsed family bits text (Err x) o e h = rw e h

-- and one of a family
module _ {A : Type 0} (family : A → Family) (bits : A → List Bool) (f : Family) (text : List ℕ) where
  pub none_in : ((a : A) → ¬ (IsAddressText (family a) text (bits a))) → (a : A) → family a ≡ f → ¬ (IsAddressText f text (bits a))
  none_in none a same h = none a (subst (λ x. IsAddressText x text (bits a)) (sym same) h)

  pub one_in : (a : A) → IsAddressText (family a) text (bits a) → family a ≡ f → (family a ≡ f) × IsAddressText f text (bits a)
  one_in a h same = (same, subst (λ x. IsAddressText x text (bits a)) same h)

  pub other_in : (b : A) → IsAddressText (family b) text (bits b) → family b ≢ f → (a : A) → family a ≡ f → ¬ (IsAddressText f text (bits a))
  other_in b given other a same h = other (one_family text (family b) f (bits b) (bits a) given h)

-- what is read of the parts of a string, in a type of networks C and its addresses A
module _ {A C : Type 0} (fa : A → Family) (bits : A → List Bool) (fc : C → Family) (prefix : C → List Bool) (front back : List ℕ) where
  abbrev pub Reads : Result C MaskParseError → Type 0
  Reads r = (text : List ℕ) → CutsAtLastSlash text front back → ReadsMaskText fc prefix fa bits text r

  abbrev pub Only : Result C MaskParseError → Type 0
  Only r = (text : List ℕ) (network : C) → CutsAtLastSlash text front back → IsMaskText (fc network) text (prefix network) → r ≡ Ok network

  -- each list of bits of the width is an address, of the family of any network
  abbrev pub HasAddresses : Type 0
  HasAddresses = (network : C) (b : List Bool) → length b ≡ width_of (fc network) → (a : A) × (fa a ≡ fc network) × (bits a ≡ b)

  pub no_address : ((a : A) → ¬ (IsAddressText (fa a) front (bits a))) → Reads (Err InvalidAddress)
  no_address none = λ text cut. (front, back, cut, none)

  pub no_address_only : HasAddresses → ((a : A) → ¬ (IsAddressText (fa a) front (bits a))) → Only (Err InvalidAddress)
  no_address_only has none = λ text network cut s.
      let w = width_of (fc network) in
      let fits = within w (length (prefix network)) s.mask s.len in
      let (a, family, is) = has network (first_of w (prefix network)) (length-first_of w (prefix network) fits) in
      let parts = same_parts (fc network) text (prefix network) s front back cut in
      absurd (none a (moved (fc network) (fa a) s.front front (first_of w (prefix network)) (bits a) (sym family) (sym parts.0) (sym is) s.front_text))

  module _ (address : A) (is_text : IsAddressText (fa address) front (bits address)) where
    same_family : (text : List ℕ) (network : C) → CutsAtLastSlash text front back → IsMaskText (fc network) text (prefix network) → fc network ≡ fa address
    same_family text network cut s =
        let w = width_of (fc network) in
        let parts = same_parts (fc network) text (prefix network) s front back cut in
        one_family front (fc network) (fa address) (first_of w (prefix network)) (bits address)
        (subst (λ x. IsAddressText (fc network) x (first_of w (prefix network))) (sym parts.0) s.front_text) is_text

    pub no_mask_text : ((m : A) → fa m ≡ fa address → ¬ (IsAddressText (fa address) back (bits m))) → Reads (Err InvalidMask)
    no_mask_text none = λ text cut. (address, back, record { front = front; cut = cut; front_text = is_text }, none)

    pub no_mask_text_only : HasAddresses → ((m : A) → fa m ≡ fa address → ¬ (IsAddressText (fa address) back (bits m))) → Only (Err InvalidMask)
    no_mask_text_only has none = λ text network cut s.
        let w = width_of (fc network) in
        let (m, family, is) = has network s.mask (length_of w (length (prefix network)) s.mask s.len) in
        let parts = same_parts (fc network) text (prefix network) s front back cut in
        let same = same_family text network cut s in
        absurd (none m (family ∙ same) (moved (fc network) (fa address) s.back back s.mask (bits m) same (sym parts.1) (sym is) s.back_text))

    module _ (m : List Bool) (mask_is : IsAddressText (fa address) back m) where
      same_mask : (text : List ℕ) (network : C) → CutsAtLastSlash text front back → (s : IsMaskText (fc network) text (prefix network))
          → IsLengthOfMask (width_of (fa address)) (length (prefix network)) m
      same_mask text network cut s =
          let parts = same_parts (fc network) text (prefix network) s front back cut in
          let same = same_family text network cut s in
          let is = (address_grammar (fa address)).one_value back s.mask m (moved (fc network) (fa address) s.back back s.mask s.mask same (sym parts.1) refl s.back_text) mask_is in
          subst (λ x. IsLengthOfMask (width_of (fa address)) (length (prefix network)) x) is
          (subst (λ x. IsLengthOfMask (width_of x) (length (prefix network)) s.mask) same s.len)

      pub no_length : ((n : ℕ) → ¬ (IsLengthOfMask (width_of (fa address)) n m)) → Reads (Err NonContiguousMask)
      no_length none = λ text cut. (address, m, (back, record { front = front; cut = cut; front_text = is_text }, mask_is), none)

      pub no_length_only : ((n : ℕ) → ¬ (IsLengthOfMask (width_of (fa address)) n m)) → Only (Err NonContiguousMask)
      no_length_only none = λ text network cut s. absurd (none (length (prefix network)) (same_mask text network cut s))

      module _ (n : ℕ) (len : IsLengthOfMask (width_of (fa address)) n m) (size : length (bits address) ≡ width_of (fa address)) where
        fits : n ≤ width_of (fa address)
        fits = within (width_of (fa address)) n m len

        -- the address and the length of a network that the string represents
        same_address : (text : List ℕ) (network : C) → CutsAtLastSlash text front back → IsMaskText (fc network) text (prefix network)
            → (bits address ≡ first_of (width_of (fa address)) (prefix network)) × (n ≡ length (prefix network))
        same_address text network cut s =
            let parts = same_parts (fc network) text (prefix network) s front back cut in
            let same = same_family text network cut s in
            let w = width_of (fc network) in
            let is = (address_grammar (fa address)).one_value front (bits address) (first_of w (prefix network)) is_text
            (moved (fc network) (fa address) s.front front (first_of w (prefix network)) (first_of w (prefix network)) same (sym parts.0) refl s.front_text) in (
              is ∙ ap (λ x. first_of (width_of x) (prefix network)) same,
              one_length (width_of (fa address)) n (length (prefix network)) m len (same_mask text network cut s),
            )

        set_bit : drop n (bits address) ≢ zeros (width_of (fa address) - n) → Reads (Err InvalidHostPart)
        set_bit set = λ text cut. (address, m, n, (back, record { front = front; cut = cut; front_text = is_text }, mask_is), len, set)

        unset : (text : List ℕ) (network : C) → CutsAtLastSlash text front back → IsMaskText (fc network) text (prefix network)
            → drop n (bits address) ≡ zeros (width_of (fa address) - n)
        unset text network cut s =
            let (is, count) = same_address text network cut s in
            let p = prefix network in
            let w = width_of (fa address) in
            let start : drop n (bits address) ≡ drop (length p) (first_of w p) = ap₂ drop count is in
            start ∙ drop_first w p ∙ ap (λ x. zeros (w - x)) (sym count)

        network_read : (c : C) → fc c ≡ fa address → prefix c ≡ take n (bits address) → drop n (bits address) ≡ zeros (width_of (fa address) - n) → Reads (Ok c)
        network_read c family is zero = λ text cut.
            let w = width_of (fa address) in
            let count : length (prefix c) ≡ n = ap length is ∙ length-take-within w n (bits address) fits size in
            let first : first_of (width_of (fc c)) (prefix c) ≡ bits address = ap₂ (λ x y. first_of (width_of x) y) family is ∙ first_of-take w n (bits address) fits size zero in
            record {
              front = front;
              back = back;
              mask = m;
              spelled = cut.0;
              front_text = moved (fa address) (fc c) front front (bits address) (first_of (width_of (fc c)) (prefix c)) (sym family) refl (sym first) is_text;
              back_text = subst (λ x. IsAddressText x back m) (sym family) mask_is;
              len = subst (λ x. IsLengthOfMask (width_of x) (length (prefix c)) m) (sym family) (subst (λ x. IsLengthOfMask w x m) (sym count) len);
            }

        network_only : IsKnownBy fc prefix → (c : C) → fc c ≡ fa address → prefix c ≡ take n (bits address) → Only (Ok c)
        network_only known c family is = λ text network cut s.
            let same = same_family text network cut s in
            let (first, count) = same_address text network cut s in
            let p = prefix network in
            let w = width_of (fa address) in
            let whole : take n (bits address) ≡ p = ap₂ take count first ∙ take_at p (zeros (w - length p)) (length p) refl in
            ap Ok (known c network (family ∙ sym same) (is ∙ whole))

        -- as the network is made
        pub made : IsKnownBy fc prefix → (r : Result C NetworkParseError) (o : Option C) (q : Result C MaskParseError)
            → seen prefix r ≡ network_from (fa address) (bits address) n → IfOk r (λ c. fc c ≡ fa address) → o ≡ result_ok r → q ≡ ok_or o InvalidHostPart
            → Reads q × Only q
        made known r o q value family ok gives = elim (cases_Bool (bit_eq (drop n (bits address)) (zeros (width_of (fa address) - n)))) [
          | inl clear ↦
              let zero = (bit_eq_Decides (drop n (bits address)) (zeros (width_of (fa address) - n))).0 clear in
              is_ok r value family ok (value ∙ is_made (fa address) (bits address) n fits zero) zero
          | inr set ↦
              is_err r (value ∙ is_refused (fa address) (bits address) n fits set) ok
              (λ e. absurd (let same = (bit_eq_Decides (drop n (bits address)) (zeros (width_of (fa address) - n))).1 e in cc))
        ]
          where
            is_ok : (r : Result C NetworkParseError) → seen prefix r ≡ network_from (fa address) (bits address) n → IfOk r (λ c. fc c ≡ fa address) → o ≡ result_ok r
                → seen prefix r ≡ Ok (take n (bits address)) → drop n (bits address) ≡ zeros (width_of (fa address) - n) → Reads q × Only q
            is_ok (Err e) value family ok is zero = absurd (cc)
            is_ok (Ok c) value family ok is zero =
                let same : prefix c ≡ take n (bits address) = cc in
                let given : q ≡ Ok c = gives ∙ ap (λ x. ok_or x InvalidHostPart) ok in
                rw given (network_read c family same zero, network_only known c family same)

            is_err : (r : Result C NetworkParseError) → seen prefix r ≡ Err parse_error.InvalidHostPart → o ≡ result_ok r
                → drop n (bits address) ≢ zeros (width_of (fa address) - n) → Reads q × Only q
            is_err (Ok c) is ok set = absurd (cc)
            is_err (Err e) is ok set =
                let given : q ≡ Err InvalidHostPart = gives ∙ ap (λ x. ok_or x InvalidHostPart) ok in
                rw given (set_bit set, λ text network cut s. absurd (set (unset text network cut s)))
