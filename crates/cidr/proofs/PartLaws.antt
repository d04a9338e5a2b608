-- Numbers of k bits in a row, and the bits that they make together.
use Rattle.std.proofs.Common.{◌≡◌, ℕ, zero, suc, ◌+◌, ◌*◌, ◌/◌, ◌%◌, ◌^◌, ◌<◌, ◌≤◌, Bool, List, [], ◌∷◌, ◌++◌, length, get_or, take, drop, flat_map, replicate, refl, sym, zero-add, ap, ap₂, ◌∙◌, subst, arith, append_assoc, append-nil, take_at, drop_at, take-append-drop, length-append, length-drop, length-take-le, lit≤}
use Rattle.std.proofs.lemmas.List.{nil_from_length}
use Rattle.std.proofs.lemmas.Nat.{pow_pos, pow-add, row_fits, mul-le}
use Rattle.std.proofs.Math.Nat.{pow-le-pow_right}
use Rattle.std.proofs.lemmas.Grind.{flat_map-append}
use Rattle.cidr.specs.model.Bits.{bits, number}
use Rattle.cidr.specs.laws.BitLaws.{bits-cat, bits-append, length-bits, number-bits_mod, number-lt, bits-number}
use Rattle.cidr.specs.model.Address.{parts_of}
use Rattle.cidr.specs.internal.Reading.{WritesParts}

-- the number that x and then the parts write
abbrev pub joined_number : ℕ → ℕ → List ℕ → ℕ
joined_number k x [] = x
joined_number k x (d ∷ ds) = joined_number k (x * 2 ^ k + d) ds

-- each is a number of k bits
abbrev pub FitAll : ℕ → List ℕ → Type 0
FitAll k [] = Unit {0}
FitAll k (d ∷ ds) = (d < 2 ^ k) × FitAll k ds

pub all_fit : (k : ℕ) (ds : List ℕ) → ((i : ℕ) → get_or ds i 0 < 2 ^ k) → FitAll k ds
all_fit k [] h = tt
all_fit k (d ∷ ds) h = (h 0, all_fit k ds (λ i. h (suc i)))

pub bits-joined_number : (k w x : ℕ) (ds : List ℕ) → FitAll k ds → bits (w + k * length ds) (joined_number k x ds) ≡ bits w x ++ flat_map (bits k) ds
bits-joined_number k w x [] h = ap (λ n. bits n x) (omega arith) ∙ sym (append-nil (bits w x))
bits-joined_number k w x (d ∷ ds) h =
    let width : w + k * length (d ∷ ds) ≡ (w + k) + k * length ds = omega arith in
    ap (λ n. bits n (joined_number k (x * 2 ^ k + d) ds)) width ∙ bits-joined_number k (w + k) (x * 2 ^ k + d) ds h.1 ∙
    ap (λ t. t ++ flat_map (bits k) ds) (bits-cat w k x d h.0) ∙ append_assoc (bits w x) (bits k d) (flat_map (bits k) ds)

-- with nothing before the parts
pub bits-parts : (k : ℕ) (ds : List ℕ) → FitAll k ds → bits (k * length ds) (joined_number k 0 ds) ≡ flat_map (bits k) ds
unfolding bits
bits-parts k ds h = ap (λ n. bits n (joined_number k 0 ds)) (sym (zero-add (k * length ds))) ∙ bits-joined_number k 0 0 ds h

-- the parts of the bits of a number, one by one
pub parts_of-bits : (k n x : ℕ) → parts_of k (suc n) (bits (k + k * n) x) ≡ x / 2 ^ (k * n) % 2 ^ k ∷ parts_of k n (bits (k * n) x)
unfolding parts_of
parts_of-bits k n x =
    let front = bits k (x / 2 ^ (k * n)) in
    let whole = bits-append k (k * n) x in
    ap₂ (λ a b. a ∷ b)
    (ap number (ap (take k) whole ∙ take_at front (bits (k * n) x) k (length-bits k _)) ∙ number-bits_mod k (x / 2 ^ (k * n)))
    (ap (parts_of k n) (ap (drop k) whole ∙ drop_at front (bits (k * n) x) k (length-bits k _)))

pub parts_of-none : (k : ℕ) (a : List Bool) → parts_of k 0 a ≡ []
unfolding parts_of
parts_of-none k a = refl

-- the parts of a list make it again, and each fits
pub flat_map-parts_of : (k n : ℕ) (a : List Bool) → length a ≡ k * n → flat_map (bits k) (parts_of k n a) ≡ a
unfolding parts_of
flat_map-parts_of k zero a e = sym (nil_from_length a (omega arith))
flat_map-parts_of k (suc n) a e =
    let l = length-take-le k a (omega arith) in
    let front : bits k (number (take k a)) ≡ take k a = rw l at (bits-number (take k a)) in
    ap₂ (λ x y. x ++ y) front (flat_map-parts_of k n (drop k a) (omega (arith, length-drop k a))) ∙ take-append-drop k a

pub length-parts_of : (k n : ℕ) (a : List Bool) → length (parts_of k n a) ≡ n
unfolding parts_of
length-parts_of k zero a = refl
length-parts_of k (suc n) a = ap suc (length-parts_of k n (drop k a))

pub parts_fit : (k n : ℕ) (a : List Bool) → length a ≡ k * n → (i : ℕ) → get_or (parts_of k n a) i 0 < 2 ^ k
unfolding parts_of
parts_fit k zero a e i = omega (arith, pow_pos k)
parts_fit k (suc n) a e i =
    let l = length-take-le k a (omega arith) in
    let first : number (take k a) < 2 ^ k = rw l at (number-lt (take k a)) in
    let later = parts_fit k n (drop k a) (omega (arith, length-drop k a)) in
    elim i as (λ j. get_or (number (take k a) ∷ parts_of k n (drop k a)) j 0 < 2 ^ k) [ zero ↦ first | suc j ↦ later j ]

-- ---- the number that parts write
pub writes-none : (k : ℕ) → WritesParts k [] 0
unfolding bits
writes-none k =
    let e : k * 0 ≡ 0 = omega arith in
    record { fits = rw e (omega arith); value = rw e refl }

pub writes-one : (k v : ℕ) → v < 2 ^ k → WritesParts k (v ∷ []) v
writes-one k v h =
    let e : k * 1 ≡ k = omega arith in
    record { fits = rw e h; value = rw e (sym (append-nil (bits k v))) }

-- parts behind others
pub writes-append : (k : ℕ) (ps qs : List ℕ) (m n : ℕ) → WritesParts k ps m → WritesParts k qs n → WritesParts k (ps ++ qs) (m * 2 ^ (k * length qs) + n)
writes-append k ps qs m n g h =
    let i = k * length ps in
    let j = k * length qs in
    let width : k * length (ps ++ qs) ≡ i + j = rw (length-append ps qs) (omega arith) in
    let room : 2 ^ (i + j) ≡ 2 ^ i * 2 ^ j = pow-add 2 i j in
    let row : m * 2 ^ j + 2 ^ j ≤ 2 ^ i * 2 ^ j = row_fits m (2 ^ j) (2 ^ i) (2 ^ j) g.fits (omega arith) in
    let low = h.fits in
    record {
      fits = rw (width, room) (omega arith);
      value = rw width (bits-cat i j m n low ∙ ap₂ (λ x y. x ++ y) g.value h.value ∙ sym (flat_map-append (bits k) ps qs));
    }

pub writes-push : (k : ℕ) (ps : List ℕ) (m v : ℕ) → WritesParts k ps m → v < 2 ^ k → WritesParts k (ps ++ v ∷ []) (m * 2 ^ k + v)
writes-push k ps m v g h =
    let e : k * 1 ≡ k = omega arith in
    let all : WritesParts k (ps ++ v ∷ []) (m * 2 ^ (k * 1) + v) = writes-append k ps (v ∷ []) m v g (writes-one k v h) in
    rw e at all

-- few parts leave room for more
pub writes-few : (k : ℕ) (ps : List ℕ) (n most : ℕ) → WritesParts k ps n → length ps ≤ most → n < 2 ^ (k * most)
writes-few k ps n most h few =
    let room : 2 ^ (k * length ps) ≤ 2 ^ (k * most) = pow-le-pow_right (lit≤ tt) (mul-le k (length ps) k most (omega arith) few) in
    omega (arith, h.fits)

-- zeros
pub writes-zeros : (k n : ℕ) → WritesParts k (replicate n 0) 0
writes-zeros k zero = writes-none k
writes-zeros k (suc n) =
    let none : 0 * 2 ^ (k * length (replicate {A = ℕ} n 0)) + 0 ≡ 0 = omega arith in
    subst (WritesParts k (0 ∷ replicate n 0)) none (writes-append k (0 ∷ []) (replicate n 0) 0 0 (writes-one k 0 (pow_pos k)) (writes-zeros k n))

pub ruleset part_laws = (flat_map-parts_of)
