-- A text that is cut at a byte is cut in one way, and a length text spells one length.
use Rattle.std.proofs.Common.{◌≡◌, ◌≢◌, ℕ, zero, suc, ◌-◌, ◌<◌, ◌≤◌, List, [], ◌∷◌, ◌++◌, length, get_or, drop, refl, sym, ap, ap₂, ◌∙◌, subst, arith, inl, inr, length-append}
use Rattle.std.proofs.lemmas.Bool.{cases_lt}
use Rattle.std.proofs.lemmas.List.{get_or_append_left, get_or-append_right, get_or_at}
use Rattle.std.proofs.lemmas.Str.Parse.{digit_at}
use Rattle.std.specs.Char.{digit_value}
use Rattle.std.specs.Str.Parse.{AllDigits, IsNumeral, digits_value}
use Rattle.cidr.specs.texts.NetworkText.{IsLengthText}
use Rattle.cidr.specs.texts.Refusal.{Lacks}

pub Lacks-append : (c : ℕ) (xs ys : List ℕ) → Lacks c xs → Lacks c ys → Lacks c (xs ++ ys)
Lacks-append c xs ys h k i l =
    elim (cases_lt i (length xs)) [
      | inl low ↦ rw (get_or_append_left xs ys 0 i low) (h i low)
      | inr high ↦ rw (get_or-append_right xs ys (length xs) i 0 refl high) (k (i - length xs) (omega (arith, length-append xs ys)))
    ]

pub Lacks-cons : (c x : ℕ) (xs : List ℕ) → x ≢ c → Lacks c xs → Lacks c (x ∷ xs)
Lacks-cons c x xs h k zero l = h
Lacks-cons c x xs h k (suc i) l = k i (omega arith)

pub Lacks-tail : (c x : ℕ) (xs : List ℕ) → Lacks c (x ∷ xs) → (x ≢ c) × Lacks c xs
Lacks-tail c x xs h = (h 0 (omega arith), λ i l. h (suc i) (omega arith))

-- digits are no other bytes, as slashes, dots and colons
pub Lacks-digits : (radix c : ℕ) (ds : List ℕ) → radix ≤ digit_value c → AllDigits radix ds → Lacks c ds
Lacks-digits radix c [] other h i l = absurd (omega arith)
Lacks-digits radix c (d ∷ ds) other h zero l = λ e. let digit : digit_value c < radix = subst (λ z. digit_value z < radix) e h.0 in omega arith
Lacks-digits radix c (d ∷ ds) other h (suc i) l = Lacks-digits radix c ds other h.1 i (omega arith)

-- the byte stands there
pub not_lacking : (c : ℕ) (xs ys : List ℕ) → ¬ (Lacks c (xs ++ c ∷ ys))
not_lacking c xs ys h = h (length xs) (omega (arith, length-append xs (c ∷ ys))) (get_or_at xs c ys 0 (length xs) refl)

-- the last one stands in one place, and the first one
pub one_cut : (c : ℕ) (f b g d : List ℕ) → f ++ c ∷ b ≡ g ++ c ∷ d → Lacks c b → Lacks c d → (f ≡ g) × (b ≡ d)
one_cut c [] b [] d e h k = (refl, cc)
one_cut c [] b (x ∷ g) d e h k =
    let tail : b ≡ g ++ c ∷ d = ap (drop 1) e in
    absurd (not_lacking c g d (subst (Lacks c) tail h))
one_cut c (x ∷ f) b [] d e h k =
    let tail : d ≡ f ++ c ∷ b = sym (ap (drop 1) e) in
    absurd (not_lacking c f b (subst (Lacks c) tail k))
one_cut c (x ∷ f) b (y ∷ g) d e h k =
    let head : x ≡ y = ap (λ t. get_or t 0 0) e in
    let tail : f ++ c ∷ b ≡ g ++ c ∷ d = ap (drop 1) e in
    let rest = one_cut c f b g d tail h k in
    (ap₂ (λ a t. a ∷ t) head rest.0, rest.1)

pub one_first_cut : (c : ℕ) (f b g d : List ℕ) → f ++ c ∷ b ≡ g ++ c ∷ d → Lacks c f → Lacks c g → (f ≡ g) × (b ≡ d)
one_first_cut c [] b [] d e h k = (refl, ap (drop 1) e)
one_first_cut c [] b (x ∷ g) d e h k = absurd ((Lacks-tail c x g k).0 (sym (ap (λ t. get_or t 0 0) e)))
one_first_cut c (x ∷ f) b [] d e h k = absurd ((Lacks-tail c x f h).0 (ap (λ t. get_or t 0 0) e))
one_first_cut c (x ∷ f) b (y ∷ g) d e h k =
    let rest = one_first_cut c f b g d (ap (drop 1) e) (Lacks-tail c x f h).1 (Lacks-tail c y g k).1 in
    (ap₂ (λ a t. a ∷ t) (ap (λ t. get_or t 0 0) e) rest.0, rest.1)

-- ---- length texts
pub Lacks-length : (c : ℕ) (text : List ℕ) (n : ℕ) → 10 ≤ digit_value c → 43 ≢ c → IsLengthText text n → Lacks c text
Lacks-length c text n low other (inl h) = Lacks-digits 10 c text low h.0.1
Lacks-length c text n low other (inr (digits, e, h)) = rw e (Lacks-cons c 43 digits other (Lacks-digits 10 c digits low h.0.1))

-- digits begin with no plus
pub no_plus : (ds es : List ℕ) → IsNumeral 10 ds → ds ≢ 43 ∷ es
no_plus ds es h e =
    let first = digit_at ds 0 h.1 h.0 in
    let first_is_plus : get_or ds 0 0 ≡ 43 = ap (λ t. get_or t 0 0) e in
    omega arith

pub one_length : (text : List ℕ) (m n : ℕ) → IsLengthText text m → IsLengthText text n → m ≡ n
one_length text m n (inl h) (inl k) = sym h.1 ∙ k.1
one_length text m n (inl h) (inr (es, f, k)) = absurd (no_plus text es h.0 f)
one_length text m n (inr (ds, e, h)) (inl k) = absurd (no_plus text ds k.0 e)
one_length text m n (inr (ds, e, h)) (inr (es, f, k)) = sym h.1 ∙ ap (λ t. digits_value 10 (drop 1 t)) (sym e ∙ f) ∙ k.1
