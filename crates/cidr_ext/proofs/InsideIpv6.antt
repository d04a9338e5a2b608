-- IPv4 addresses behind the first bits of IPv6 addresses.
use Rattle.std.proofs.Common.{◌≡◌, ℕ, ◌+◌, ◌-◌, ◌*◌, ◌/◌, ◌%◌, ◌^◌, ◌<◌, ◌≤◌, Bool, List, ◌++◌, length, take, drop, refl, sym, ap, ap₂, ◌∙◌, arith, subst, take_at, drop_at, take-append-drop, length-drop, length-append, append_assoc, Result, Ok, Option, Some, None, MatchOption}
use Rattle.std.proofs.lemmas.List.{take-append-le, take_all}
use Rattle.std.proofs.lemmas.Nat.{shr_below}
use Rattle.std.specs.Result.{IsOk, result_ok}
use Rattle.cidr.specs.model.Bits.{bits, number}
use Rattle.cidr.specs.model.Network.{zeros, first_of, BeginsWith, network_from}
use Rattle.cidr.specs.laws.BitLaws.{bits-append, bits-cat, bits_high, bits-number, length-bits, number-bits, number-lt}
use Rattle.cidr.specs.declared.family.Family.TheVariants.{Ipv4, Ipv6}
use Rattle.cidr.specs.declared.errors.NetworkParseError.{NetworkParseError}
use Rattle.cidr_ext.specs.model.InsideIpv6.{IsIpv4Behind, mapped_front, nat64_front}
use Rattle.cidr_ext.proofs.Indexes.{made_of}

-- ---- a list of j + k bits, in front and behind
pub front_bits : (j k : ℕ) (a : List Bool) → length a ≡ j + k → take j a ≡ bits j (number a / 2 ^ k)
front_bits j k a size =
    let parts : a ≡ bits j (number a / 2 ^ k) ++ bits k (number a) = sym (bits-number a) ∙ ap (λ w. bits w (number a)) size ∙ bits-append j k (number a) in
    ap (take j) parts ∙ take_at (bits j (number a / 2 ^ k)) (bits k (number a)) j (length-bits j (number a / 2 ^ k))

back_bits : (j k : ℕ) (a : List Bool) → length a ≡ j + k → drop j a ≡ bits k (number a)
back_bits j k a size =
    let parts : a ≡ bits j (number a / 2 ^ k) ++ bits k (number a) = sym (bits-number a) ∙ ap (λ w. bits w (number a)) size ∙ bits-append j k (number a) in
    ap (drop j) parts ∙ drop_at (bits j (number a / 2 ^ k)) (bits k (number a)) j (length-bits j (number a / 2 ^ k))

low_bits : (n : ℕ) → bits 32 (n % 2 ^ 32) ≡ bits 32 n
low_bits n =
    let e : n ≡ n / 2 ^ 32 * 2 ^ 32 + n % 2 ^ 32 = omega arith in
    sym (ap (bits 32) e ∙ bits_high 32 (n / 2 ^ 32) (n % 2 ^ 32))

module _ (a : List Bool) (front len n : ℕ) (fits : front < 2 ^ len) (within : len ≤ 96) (size : length a ≡ 128) (value : n ≡ number a) where
  first : take len a ≡ bits len (n / 2 ^ (128 - len))
  first = front_bits len (128 - len) a (omega arith) ∙ ap (λ x. bits len (x / 2 ^ (128 - len))) (sym value)

  begins_if : n / 2 ^ (128 - len) ≡ front → take (length (bits len front)) a ≡ bits len front
  begins_if h = ap (λ k. take k a) (length-bits len front) ∙ first ∙ ap (bits len) h

  pub not_behind : ¬ (n / 2 ^ (128 - len) ≡ front) → BeginsWith a (bits len front) → ⊥
  not_behind other h =
      let same : bits len (n / 2 ^ (128 - len)) ≡ bits len front = sym first ∙ ap (λ k. take k a) (sym (length-bits len front)) ∙ h in
      let small : number a < 2 ^ 128 = (let l = number-lt a in rw size at l) in
      let width : len + (128 - len) ≡ 128 = omega arith in
      let top : n / 2 ^ (128 - len) < 2 ^ len = shr_below n len (128 - len) (rw width (omega arith)) in
      other (sym (number-bits len (n / 2 ^ (128 - len)) top) ∙ ap number same ∙ number-bits len front fits)

  pub behind : n / 2 ^ (128 - len) ≡ front → (x : ℕ) → x ≡ n / 2 ^ (96 - len) % 2 ^ 32 → (inner : List Bool) → inner ≡ bits 32 x → IsIpv4Behind (bits len front) a inner
  behind h x e inner is =
      let tail : drop len a ≡ bits (128 - len) n = back_bits len (128 - len) a (omega arith) ∙ ap (bits (128 - len)) (sym value) in
      let wide : 128 - len ≡ 32 + (96 - len) = omega arith in
      let cut : bits (128 - len) n ≡ bits 32 (n / 2 ^ (96 - len)) ++ bits (96 - len) n = ap (λ w. bits w n) wide ∙ bits-append 32 (96 - len) n in
      let taken : take 32 (drop len a) ≡ bits 32 (n / 2 ^ (96 - len)) =
      ap (take 32) (tail ∙ cut) ∙ take_at (bits 32 (n / 2 ^ (96 - len))) (bits (96 - len) n) 32 (length-bits 32 (n / 2 ^ (96 - len))) in
      (begins_if h, is ∙ ap (bits 32) e ∙ low_bits (n / 2 ^ (96 - len)) ∙ sym taken ∙ ap (λ k. take 32 (drop k a)) (sym (length-bits len front)))

-- ---- the prefixes
mapped_bits : bits 96 65535 ≡ mapped_front
unfolding bits
mapped_bits = refl

nat64_bits : bits 96 0x0064_ff9b_0000_0000_0000_0000 ≡ nat64_front
unfolding bits
nat64_bits = refl

-- all that is behind 96 bits
module _ (a front : List Bool) (n : ℕ) (is : bits 96 n ≡ front) (many : length front ≡ 96) (size : length a ≡ 128) where
  pub all_behind : (r : Option (List Bool)) → MatchOption r (¬ (BeginsWith a (bits 96 n))) (IsIpv4Behind (bits 96 n) a) → MatchOption r (¬ (BeginsWith a front)) (λ inner. a ≡ front ++ inner)
  all_behind None h = λ b. h (subst (BeginsWith a) (sym is) b)
  all_behind (Some inner) h =
      let begins : BeginsWith a front = subst (BeginsWith a) is h.0 in
      let rest : inner ≡ take 32 (drop (length front) a) = h.1 ∙ ap (λ f. take 32 (drop (length f) a)) is in
      let whole : take 32 (drop (length front) a) ≡ drop (length front) a = take_all 32 (drop (length front) a) (omega (arith, length-drop (length front) a)) in
      sym (take-append-drop (length front) a) ∙ ap₂ (λ x y. x ++ y) begins (sym (rest ∙ whole))

pub mapped_behind : (a : List Bool) → length a ≡ 128 → (r : Option (List Bool)) → MatchOption r (¬ (BeginsWith a (bits 96 65535))) (IsIpv4Behind (bits 96 65535) a)
    → MatchOption r (¬ (BeginsWith a mapped_front)) (λ inner. a ≡ mapped_front ++ inner)
mapped_behind a size r h = all_behind a mapped_front 65535 mapped_bits refl size r h

pub nat64_behind : (a : List Bool) → length a ≡ 128 → (r : Option (List Bool))
    → MatchOption r (¬ (BeginsWith a (bits 96 0x0064_ff9b_0000_0000_0000_0000))) (IsIpv4Behind (bits 96 0x0064_ff9b_0000_0000_0000_0000) a)
    → MatchOption r (¬ (BeginsWith a nat64_front)) (λ inner. a ≡ nat64_front ++ inner)
nat64_behind a size r h = all_behind a nat64_front 0x0064_ff9b_0000_0000_0000_0000 nat64_bits (nat64_length) size r h
  where
    nat64_length : length nat64_front ≡ 96
    nat64_length = ap length (sym nat64_bits) ∙ length-bits 96 0x0064_ff9b_0000_0000_0000_0000

pub mapped_made : (a : List Bool) (n m : ℕ) → length a ≡ 32 → n ≡ number a → m ≡ n → (r : List Bool) → r ≡ bits 128 (0xffff_0000_0000 + m) → r ≡ mapped_front ++ a
mapped_made a n m size value same r is =
    let small : number a < 2 ^ 32 = (let l = number-lt a in rw size at l) in
    let sum : 0xffff_0000_0000 + m ≡ 65535 * 2 ^ 32 + number a = omega arith in
    let tail : bits 32 (number a) ≡ a = ap (λ w. bits w (number a)) (sym size) ∙ bits-number a in
    is ∙ ap (bits 128) sum ∙ bits-cat 96 32 65535 (number a) small ∙ ap₂ (λ x y. x ++ y) mapped_bits tail

-- ---- networks
module _ (p first4 first6 : List Bool) (l n : ℕ) (r : Result (List Bool) NetworkParseError) (len : l ≡ length p) (within : l ≤ 32) (count : n ≡ 96 + l)
    (four : first4 ≡ first_of 32 p) (six : first6 ≡ mapped_front ++ first4) (made : r ≡ network_from Ipv6 first6 n) where
  made_mapped : r ≡ Ok (mapped_front ++ p)
  made_mapped =
      let q = mapped_front ++ p in
      let size : length q ≡ n = omega (arith, length-append mapped_front p) in
      let left : 32 - length p ≡ 128 - n = omega arith in
      let whole : first6 ≡ q ++ zeros (128 - n) =
      six ∙ ap (λ x. mapped_front ++ x) (four ∙ ap (λ k. p ++ zeros k) left) ∙ sym (append_assoc mapped_front p (zeros (128 - n))) in
      made ∙ ap (λ x. network_from Ipv6 x n) whole ∙ made_of Ipv6 q n size (omega arith)

  pub mapped_is_made : IsOk r
  mapped_is_made = rw made_mapped refl

  pub mapped_network : (x : List Bool) → r ≡ Ok x → x ≡ mapped_front ++ p
  mapped_network x e = let s : ◌≡◌ {A = Result (List Bool) NetworkParseError} (Ok x) (Ok (mapped_front ++ p)) = sym e ∙ made_mapped in cc

pub short_not_mapped : (p : List Bool) → length p < 96 → take 96 p ≡ mapped_front → ⊥
short_not_mapped p h e =
    let whole : take 96 p ≡ p = take_all 96 p (omega arith) in
    let size : length p ≡ 96 = ap length (sym whole ∙ e) in omega arith

module _ (p first6 : List Bool) (six : first6 ≡ first_of 128 p) (long : 96 ≤ length p) where
  same_front : take 96 first6 ≡ take 96 p
  same_front = ap (take 96) six ∙ take-append-le 96 p (zeros (128 - length p)) long

  pub not_mapped : ¬ (take 96 first6 ≡ mapped_front) → take 96 p ≡ mapped_front → ⊥
  not_mapped h e = h (same_front ∙ e)

  pub mapped_out : (first4 : List Bool) (l n : ℕ) (r : Result (List Bool) NetworkParseError) (o : Option (List Bool)) → l ≡ length p → l ≤ 128 → n ≡ l - 96
      → first6 ≡ mapped_front ++ first4 → r ≡ network_from Ipv4 first4 n → o ≡ result_ok r
      → MatchOption o (¬ (take 96 p ≡ mapped_front)) (λ inner. p ≡ mapped_front ++ inner)
  mapped_out first4 l n r o len within rest map made ok =
      let q = drop 96 p in
      let front : take 96 p ≡ mapped_front = sym same_front ∙ ap (take 96) map ∙ take_at mapped_front first4 96 refl in
      let whole : p ≡ mapped_front ++ q = sym (take-append-drop 96 p) ∙ ap (λ t. t ++ drop 96 p) front in
      let size : length q ≡ n = omega (arith, length-drop 96 p) in
      let left : 128 - length p ≡ 32 - n = omega arith in
      let both : mapped_front ++ first4 ≡ mapped_front ++ (q ++ zeros (32 - n)) =
      sym map ∙ six ∙ ap₂ (λ x k. x ++ zeros k) whole left ∙ append_assoc mapped_front q (zeros (32 - n)) in
      let four : first4 ≡ q ++ zeros (32 - n) =
      sym (drop_at mapped_front first4 96 refl) ∙ ap (drop 96) both ∙ drop_at mapped_front (q ++ zeros (32 - n)) 96 refl in
      let done : o ≡ Some q = ok ∙ ap result_ok (made ∙ ap (λ x. network_from Ipv4 x n) four ∙ made_of Ipv4 q n size (omega arith)) in
      rw done whole

pub ruleset mapped_laws = (short_not_mapped, not_mapped)
