-- What reading a network or a host gives, from what reading its parts gave.
use Rattle.std.proofs.Common.{◌≡◌, ◌≢◌, ℕ, ◌-◌, Bool, List, take, drop, Result, Ok, Err, MatchResult, refl, sym, ◌∙◌, inl, inr}
use Rattle.std.proofs.lemmas.Bool.{cases_lt, lt-ltb, le-ltb, cond_both, false≢true}
use Rattle.cidr.specs.model.Bits.{bit_eq}
use Rattle.cidr.specs.model.Host.{Host, host_from}
use Rattle.cidr.specs.model.Network.{width_of, zeros, network_from, too_long}
use Rattle.cidr.specs.model.Views.{seen}
use Rattle.cidr.specs.texts.AddressText.{IsAddressText, Reads}
use Rattle.cidr.specs.texts.NetworkText.{slash, IsLengthText, IsNetworkText}
use Rattle.cidr.specs.texts.Parsing.{ReadsSlashed}
use Rattle.cidr.specs.texts.Refusal.{Lacks, CutsAtLastSlash, HasAddress, IsRefused}
use Rattle.cidr.specs.texts.HostText.{IsHostText, IsHostRefused}
use Rattle.cidr.specs.laws.BitLaws.{bit_eq_Decides}
use Rattle.cidr.proofs.NetworkTexts.{refused_none, refused_no_host}
use Rattle.cidr.specs.model.Errors.{AddressError}
use Rattle.cidr.specs.model.Errors.{LengthError}
use Rattle.cidr.specs.declared.errors.NetworkParseError.{NetworkParseError}
use Rattle.cidr.specs.declared.errors.NetworkParseError.TheVariants as parse_error
use Rattle.cidr.specs.declared.errors.ParseIntError.{ParseIntError}
use Rattle.cidr.specs.declared.family.Family.{Family}

-- the same as `ReadsNetwork`, where the error of a text that spells no address may be that of either family
abbrev pub ReadsNetworkAs : Family → AddressError → List ℕ → Result (List Bool) NetworkParseError → Type 0
ReadsNetworkAs family error text r =
    MatchResult r (IsNetworkText family text) (λ e. IsRefused family error text e × ((p : List Bool) → ¬ (IsNetworkText family text p)))

-- what an address and a length make, by the address's bits
abbrev pub MakesNetwork : {A : Type 0} → Family → (A → List Bool) → A → ℕ → Result (List Bool) NetworkParseError → Type 0
MakesNetwork family bits a n r = r ≡ network_from family (bits a) n

module _ (family : Family) (error : AddressError) where
  refuses : (text : List ℕ) (e : NetworkParseError) → IsRefused family error text e → ReadsNetworkAs family error text (Err e)
  refuses text e h = (h, λ p. refused_none family error text e p h)

  pub reads_no_address : (text : List ℕ) (e : AddressError) → Lacks slash text → Reads (IsAddressText family) error text (Err e)
      → ReadsNetworkAs family error text (Err (parse_error.AddrParseError e))
  reads_no_address text e lacks h = refuses text (parse_error.AddrParseError e) (h.0, text, inl (lacks, refl), h.1)

  pub reads_no_front : (text front back : List ℕ) (e : AddressError) → CutsAtLastSlash text front back
      → Reads (IsAddressText family) error front (Err e) → ReadsNetworkAs family error text (Err (parse_error.AddrParseError e))
  reads_no_front text front back e cut h = refuses text (parse_error.AddrParseError e) (h.0, front, inr (back, cut), h.1)

  pub reads_no_length : (text front back : List ℕ) (a : List Bool) (e : ParseIntError) → CutsAtLastSlash text front back
      → IsAddressText family front a → Reads IsLengthText (record {}) back (Err e)
      → ReadsNetworkAs family error text (Err (parse_error.NetworkLengthParseError e))
  reads_no_length text front back a e cut h l = refuses text (parse_error.NetworkLengthParseError e) (back, a, record { front = front; cut = cut; front_text = h }, l.1)

  pub reads_new : (text front back : List ℕ) (a : List Bool) (n : ℕ) → CutsAtLastSlash text front back → IsAddressText family front a
      → IsLengthText back n → ReadsNetworkAs family error text (network_from family a n)
  reads_new text front back a n cut h l =
      let has : HasAddress family text back a = record { front = front; cut = cut; front_text = h } in
      let host_part = bit_eq (drop n a) (zeros (width_of family - n)) in
      elim (cases_lt (width_of family) n) [
        | inl over ↦ rw (lt-ltb (width_of family) n over) (refuses text (parse_error.NetworkLengthTooLongError (too_long n family)) (back, a, n, has, l, over, refl))
        | inr within ↦ rw (le-ltb (width_of family) n within) (cond_both host_part (Ok (take n a)) (Err parse_error.InvalidHostPart) (ReadsNetworkAs family error text)
            (λ same. inr (record {
              front = front;
              back = back;
              address = a;
              len = n;
              spelled = cut.0;
              front_text = h;
              back_text = l;
              fits = within;
              host = (bit_eq_Decides (drop n a) (zeros (width_of family - n))).0 same;
              value = refl;
            }))
            (λ other. refuses text parse_error.InvalidHostPart (back, a, n, has, l, within, λ e. false≢true (sym other ∙ (bit_eq_Decides (drop n a) (zeros (width_of family - n))).1 e))))
      ]

  -- a text with a slash, by what reading the part before it gave
  pub network_slashed_read : {A : Type 0} (bits : A → List Bool) (Makes : A → ℕ → Result (List Bool) NetworkParseError → Type 0) (text front back : List ℕ)
      (returned : Result A AddressError) (r : Result (List Bool) NetworkParseError) → ((a : A) (n : ℕ) → Makes a n r → MakesNetwork family bits a n r)
      → CutsAtLastSlash text front back → Reads (IsAddressText family) error front (seen bits returned)
      → ReadsSlashed Makes returned back r → ReadsNetworkAs family error text r
  network_slashed_read bits Makes text front back (Err x) r made cut known h = rw h (reads_no_front text front back x cut known)
  network_slashed_read bits Makes text front back (Ok a) r made cut known (inl (n, l, h)) = rw (made a n h) (reads_new text front back (bits a) n cut known l)
  network_slashed_read bits Makes text front back (Ok a) r made cut known (inr (none, h)) =
      rw h (reads_no_length text front back (bits a) (record {}) cut known (refl, none))

-- ---- hosts
-- the same as `ReadsHost`, in the same way
abbrev pub ReadsHostAs : Family → AddressError → List ℕ → Result Host NetworkParseError → Type 0
ReadsHostAs family error text r =
    MatchResult r (IsHostText family text) (λ e. IsHostRefused family error text e × ((host : Host) → ¬ (IsHostText family text host)))

module _ (family : Family) (error : AddressError) where
  refuses_host : (text : List ℕ) (e : NetworkParseError) → IsRefused family error text e → e ≢ parse_error.InvalidHostPart → ReadsHostAs family error text (Err e)
  refuses_host text e h other = ((h, other), λ host. refused_no_host family error text e host (h, other))

  pub host_no_address : (text : List ℕ) (e : AddressError) → Lacks slash text → Reads (IsAddressText family) error text (Err e) → ReadsHostAs family error text (Err (parse_error.AddrParseError e))
  host_no_address text e lacks h = refuses_host text (parse_error.AddrParseError e) (h.0, text, inl (lacks, refl), h.1) (λ x. cc)

  pub host_no_front : (text front back : List ℕ) (e : AddressError) → CutsAtLastSlash text front back
      → Reads (IsAddressText family) error front (Err e) → ReadsHostAs family error text (Err (parse_error.AddrParseError e))
  host_no_front text front back e cut h = refuses_host text (parse_error.AddrParseError e) (h.0, front, inr (back, cut), h.1) (λ x. cc)

  pub host_no_length : (text front back : List ℕ) (a : List Bool) (e : ParseIntError) → CutsAtLastSlash text front back
      → IsAddressText family front a → Reads IsLengthText (record {}) back (Err e)
      → ReadsHostAs family error text (Err (parse_error.NetworkLengthParseError e))
  host_no_length text front back a e cut h l =
      refuses_host text (parse_error.NetworkLengthParseError e) (back, a, record { front = front; cut = cut; front_text = h }, l.1) (λ x. cc)

  pub host_too_long : (text front back : List ℕ) (a : List Bool) (n : ℕ) (e : LengthError) → CutsAtLastSlash text front back
      → IsAddressText family front a → IsLengthText back n → host_from family a n ≡ Err e
      → ReadsHostAs family error text (Err (parse_error.NetworkLengthTooLongError e))
  host_too_long text front back a n e cut h l refused =
      let has : HasAddress family text back a = record { front = front; cut = cut; front_text = h } in
      elim (cases_lt (width_of family) n) [
        | inl over ↦
            let same : Err (too_long n family) ≡ Err e = rw (lt-ltb (width_of family) n over) at refused in
            refuses_host text (parse_error.NetworkLengthTooLongError e) (back, a, n, has, l, over, cc) (λ x. cc)
        | inr within ↦
            let made : Result Host LengthError = Ok (record { address = a; len = n }) in
            let other : made ≡ Err e = rw (le-ltb (width_of family) n within) at refused in
            absurd (cc)
      ]
