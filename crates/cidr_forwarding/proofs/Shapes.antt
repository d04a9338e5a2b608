-- Rows as a forwarding by halves, and that the addresses of a width and those of both families fit it.
use Rattle.std.proofs.Common.{◌≡◌, ℕ, zero, suc, ◌≤◌, Bool, true, false, List, [], ◌∷◌, length, refl, sym, ap, ap₂, ◌∙◌, subst, arith}
use Rattle.cidr_table.specs.model.CoverAddresses.{IsIpAddressBits, IsIpNetworkBits}
use Rattle.cidr_forwarding.proofs.RowParts.{forward, forward_none}
use Rattle.cidr_forwarding.proofs.Regions.{at, Fits}
use Rattle.cidr_forwarding.specs.Trees.{Region, Halves, own, below_step, below, deeper, region, AllFitWidth}

-- a list of as many bits
some_bits : ℕ → List Bool
some_bits zero = []
some_bits (suc n) = false ∷ some_bits n

length_bits : (n : ℕ) → length (some_bits n) ≡ n
unfolding some_bits
length_bits zero = refl
length_bits (suc n) = ap suc (length_bits n)

ip_within_row : (p : List Bool) → IsIpNetworkBits p → length p ≤ 129
ip_within_row [] h = omega arith
ip_within_row (false ∷ p) h = omega arith
ip_within_row (true ∷ p) h = omega arith

module _ {X : Type 0} where
  within_step : (w : ℕ) (b : Bool) (p : List Bool) (x : X) (rest : List (List Bool × X)) → length p ≤ suc w → AllFitWidth w rest → AllFitWidth w (below_step b p x rest)
  within_step w b [] x rest h k = k
  within_step w false (false ∷ p) x rest h k = (omega arith, k)
  within_step w false (true ∷ p) x rest h k = k
  within_step w true (false ∷ p) x rest h k = k
  within_step w true (true ∷ p) x rest h k = (omega arith, k)

  pub within_below : (w : ℕ) (b : Bool) (rows : List (List Bool × X)) → AllFitWidth (suc w) rows → AllFitWidth w (below b rows)
  within_below w b [] h = tt
  within_below w b (r ∷ rows) h = within_step w b r.0 r.1 (below b rows) h.0 (within_below w b rows h.1)

  none_step : (b : Bool) (p : List Bool) (x : X) (rest : List (List Bool × X)) → length p ≤ 0 → rest ≡ [] → below_step b p x rest ≡ []
  none_step b [] x rest h e = e
  none_step b (d ∷ p) x rest h e = absurd (omega arith)

  pub none_below : (b : Bool) (rows : List (List Bool × X)) → AllFitWidth 0 rows → below b rows ≡ []
  none_below b [] h = refl
  none_below b (r ∷ rows) h = none_step b r.0 r.1 (below b rows) h.0 (none_below b rows h.1)

  -- ---- the rows' forwarding is that of the region
  abbrev by_half : X → List (List Bool × X) → List (List Bool × X) → List Bool → X
  by_half o lows highs [] = o
  by_half o lows highs (false ∷ a) = forward o lows a
  by_half o lows highs (true ∷ a) = forward o highs a

  is_by_half : (c : X) (rows : List (List Bool × X)) (a : List Bool) → by_half (own c rows) (below false rows) (below true rows) a ≡ forward c rows a
  is_by_half c rows [] = refl
  is_by_half c rows (false ∷ a) = refl
  is_by_half c rows (true ∷ a) = refl

  empty_halves : (o : X) (a : List Bool) → o ≡ by_half o [] [] a
  empty_halves o [] = refl
  empty_halves o (false ∷ a) = sym (forward_none o a)
  empty_halves o (true ∷ a) = sym (forward_none o a)

  at_halves : (lows highs : List (List Bool × X)) (o : X) (l r : Region X) (IsAddress : List Bool → Type 0) → Fits (Halves l r) IsAddress
      → (Fits l (λ a. IsAddress (false ∷ a)) → (a : List Bool) → IsAddress (false ∷ a) → at l a ≡ forward o lows a)
      → (Fits r (λ a. IsAddress (true ∷ a)) → (a : List Bool) → IsAddress (true ∷ a) → at r a ≡ forward o highs a)
      → (a : List Bool) → IsAddress a → at (Halves l r) a ≡ by_half o lows highs a
  at_halves lows highs o l r IsAddress fits hl hr [] m = absurd (fits.0 m)
  at_halves lows highs o l r IsAddress fits hl hr (false ∷ a) m = hl fits.1 a m
  at_halves lows highs o l r IsAddress fits hl hr (true ∷ a) m = hr fits.2 a m

  at_deeper : (lows highs : List (List Bool × X)) (o : X) (l r : Region X) (IsAddress : List Bool → Type 0) → Fits (deeper lows highs o l r) IsAddress
      → (Fits l (λ a. IsAddress (false ∷ a)) → (a : List Bool) → IsAddress (false ∷ a) → at l a ≡ forward o lows a)
      → (Fits r (λ a. IsAddress (true ∷ a)) → (a : List Bool) → IsAddress (true ∷ a) → at r a ≡ forward o highs a)
      → (a : List Bool) → IsAddress a → at (deeper lows highs o l r) a ≡ by_half o lows highs a
  at_deeper [] [] o l r IsAddress fits hl hr a m = empty_halves o a
  at_deeper [] (x ∷ highs) o l r IsAddress fits hl hr a m = at_halves [] (x ∷ highs) o l r IsAddress fits hl hr a m
  at_deeper (x ∷ lows) highs o l r IsAddress fits hl hr a m = at_halves (x ∷ lows) highs o l r IsAddress fits hl hr a m

  pub at_region : (w : ℕ) (c : X) (rows : List (List Bool × X)) (IsAddress : List Bool → Type 0) → AllFitWidth w rows → Fits (region w c rows) IsAddress
      → (a : List Bool) → IsAddress a → at (region w c rows) a ≡ forward c rows a
  at_region zero c rows IsAddress h fits a m =
      empty_halves (own c rows) a ∙ ap₂ (λ lows highs. by_half (own c rows) lows highs a) (sym (none_below false rows h)) (sym (none_below true rows h))
      ∙ is_by_half c rows a
  at_region (suc w) c rows IsAddress h fits a m =
      at_deeper (below false rows) (below true rows) (own c rows) (region w (own c rows) (below false rows)) (region w (own c rows) (below true rows)) IsAddress fits
      (λ f. at_region w (own c rows) (below false rows) (λ s. IsAddress (false ∷ s)) (within_below w false rows h) f)
      (λ f. at_region w (own c rows) (below true rows) (λ s. IsAddress (true ∷ s)) (within_below w true rows h) f) a m
      ∙ is_by_half c rows a

  -- ---- addresses that fit
  fits_deeper : (lows highs : List (List Bool × X)) (o : X) (l r : Region X) (IsAddress : List Bool → Type 0) → ((a : List Bool) × IsAddress a) → ¬ (IsAddress [])
      → Fits l (λ a. IsAddress (false ∷ a)) → Fits r (λ a. IsAddress (true ∷ a)) → Fits (deeper lows highs o l r) IsAddress
  fits_deeper [] [] o l r IsAddress some n hl hr = some
  fits_deeper [] (x ∷ highs) o l r IsAddress some n hl hr = (n, hl, hr)
  fits_deeper (x ∷ lows) highs o l r IsAddress some n hl hr = (n, hl, hr)

  pub fits_width : (w v : ℕ) (c : X) (rows : List (List Bool × X)) (IsAddress : List Bool → Type 0) → v ≤ w → AllFitWidth v rows
      → ((a : List Bool) → length a ≡ v → IsAddress a) → ((a : List Bool) → IsAddress a → length a ≡ v) → Fits (region w c rows) IsAddress
  fits_width zero v c rows IsAddress l h to from = (some_bits v, to (some_bits v) (length_bits v))
  fits_width (suc w) zero c rows IsAddress l h to from =
      subst (λ lows. Fits (deeper lows (below true rows) (own c rows) (region w (own c rows) (below false rows)) (region w (own c rows) (below true rows))) IsAddress)
      (sym (none_below false rows h))
      (subst (λ highs. Fits (deeper [] highs (own c rows) (region w (own c rows) (below false rows)) (region w (own c rows) (below true rows))) IsAddress)
      (sym (none_below true rows h)) (some_bits 0, to (some_bits 0) (length_bits 0)))
  fits_width (suc w) (suc v) c rows IsAddress l h to from =
      fits_deeper (below false rows) (below true rows) (own c rows) (region w (own c rows) (below false rows)) (region w (own c rows) (below true rows)) IsAddress
      (some_bits (suc v), to (some_bits (suc v)) (length_bits (suc v)))
      (λ m. let e : 0 ≡ suc v = from [] m in omega arith)
      (fits_width w v (own c rows) (below false rows) (λ a. IsAddress (false ∷ a)) (omega arith) (within_below v false rows h)
      (λ a e. to (false ∷ a) (ap suc e)) (λ a m. let e : suc (length a) ≡ suc v = from (false ∷ a) m in omega arith))
      (fits_width w v (own c rows) (below true rows) (λ a. IsAddress (true ∷ a)) (omega arith) (within_below v true rows h)
      (λ a e. to (true ∷ a) (ap suc e)) (λ a m. let e : suc (length a) ≡ suc v = from (true ∷ a) m in omega arith))

  -- ---- of both families
  abbrev pub AreIp : List (List Bool × X) → Type 0
  AreIp [] = Unit {0}
  AreIp (r ∷ rows) = IsIpNetworkBits r.0 × AreIp rows

  low_step : (p : List Bool) (x : X) (rest : List (List Bool × X)) → IsIpNetworkBits p → AllFitWidth 32 rest → AllFitWidth 32 (below_step false p x rest)
  low_step [] x rest h k = k
  low_step (false ∷ p) x rest h k = (h, k)
  low_step (true ∷ p) x rest h k = k

  pub low_within : (rows : List (List Bool × X)) → AreIp rows → AllFitWidth 32 (below false rows)
  low_within [] h = tt
  low_within (r ∷ rows) h = low_step r.0 r.1 (below false rows) h.0 (low_within rows h.1)

  high_step : (p : List Bool) (x : X) (rest : List (List Bool × X)) → IsIpNetworkBits p → AllFitWidth 128 rest → AllFitWidth 128 (below_step true p x rest)
  high_step [] x rest h k = k
  high_step (false ∷ p) x rest h k = k
  high_step (true ∷ p) x rest h k = (h, k)

  pub high_within : (rows : List (List Bool × X)) → AreIp rows → AllFitWidth 128 (below true rows)
  high_within [] h = tt
  high_within (r ∷ rows) h = high_step r.0 r.1 (below true rows) h.0 (high_within rows h.1)

  pub fits_ip : (w : ℕ) (c : X) (rows : List (List Bool × X)) → 128 ≤ w → AreIp rows → Fits (region (suc w) c rows) IsIpAddressBits
  fits_ip w c rows l h =
      fits_deeper (below false rows) (below true rows) (own c rows) (region w (own c rows) (below false rows)) (region w (own c rows) (below true rows)) IsIpAddressBits
      (false ∷ some_bits 32, length_bits 32) (λ m. m)
      (fits_width w 32 (own c rows) (below false rows) (λ a. IsIpAddressBits (false ∷ a)) (omega arith) (low_within rows h) (λ a e. e) (λ a m. m))
      (fits_width w 128 (own c rows) (below true rows) (λ a. IsIpAddressBits (true ∷ a)) l (high_within rows h) (λ a e. e) (λ a m. m))

  pub ip_within : (rows : List (List Bool × X)) → AreIp rows → AllFitWidth 129 rows
  ip_within [] h = tt
  ip_within (r ∷ rows) h = (ip_within_row r.0 h.0, ip_within rows h.1)
