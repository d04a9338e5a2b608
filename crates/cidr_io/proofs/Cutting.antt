-- Strings that are cut part by part.
use Rattle.std.proofs.Common.{◌≡◌, ℕ, ◌+◌, ◌-◌, ◌<◌, ◌≤◌, Bool, true, false, cond, List, ◌∷◌, ◌++◌, length, map, drop, get_or, codes, sym, ap, subst, ◌∙◌, arith, append_assoc, nat_le}
use Rattle.std.proofs.lemmas.List.{at_drop_more, at_drop_all, append-nil, length-append}
use Rattle.cidr_io.specs.Shown.{cut_to, AppendsWithin}

-- a text, and what is cut of the items from the n-th on behind it
abbrev pub cut_behind : {X : Type 0} → (X → List ℕ) → List ℕ → ℕ → List X → List ℕ
cut_behind f text n xs = text ++ cut_to (40 - length text) (map f (drop n xs))

-- a step by what the next part does
step : {X : Type 0} (f : X → List ℕ) (text : List ℕ) (xs : List X) (n : ℕ) (x : X) → n < length xs → x ≡ get_or xs n x
    → cut_behind f text n xs
    ≡ text ++ cond (nat_le (length (f x)) (40 - length text)) (f x ++ cut_to (40 - length text - length (f x)) (map f (drop (n + 1) xs))) (codes "..")
step f text xs n x within is =
    ap (λ k. text ++ k) (at_drop_more (λ ys. cut_to (40 - length text) (map f ys)) xs n x within
    ∙ ap (λ y. cut_to (40 - length text) (map f (y ∷ drop (n + 1) xs))) (sym is))

-- the part fits
pub cut_more : {X : Type 0} (f : X → List ℕ) (text new : List ℕ) (xs : List X) (n : ℕ) (x : X) (part : List ℕ) (fits : Bool) → n < length xs → x ≡ get_or xs n x
    → AppendsWithin part text new fits → fits ≡ true → part ≡ f x → cut_behind f new (n + 1) xs ≡ cut_behind f text n xs
cut_more f text new xs n x part fits within is appended fitting same =
    let appends = subst (λ (p : List ℕ). AppendsWithin p text new fits) same appended in
    let room : nat_le (length (f x)) (40 - length text) ≡ true = sym appends.1 ∙ fitting in
    let whole : new ≡ text ++ f x = appends.0 ∙ ap (λ b. text ++ cond b (f x) (codes "..")) fitting in
    let len : 40 - length new ≡ 40 - length text - length (f x) = omega (arith, ap length whole, length-append text (f x)) in
    ap (λ t. t ++ cut_to (40 - length new) (map f (drop (n + 1) xs))) whole
    ∙ (append_assoc text (f x) _
    ∙ (ap (λ r. text ++ (f x ++ cut_to r (map f (drop (n + 1) xs)))) len
    ∙ sym (step f text xs n x within is
    ∙ ap (λ b. text ++ cond b (f x ++ cut_to (40 - length text - length (f x)) (map f (drop (n + 1) xs))) (codes "..")) room)))

-- it does not, and the rest is cut
pub cut_here : {X : Type 0} (f : X → List ℕ) (text new : List ℕ) (xs : List X) (n : ℕ) (x : X) (part : List ℕ) (fits : Bool) → n < length xs → x ≡ get_or xs n x
    → AppendsWithin part text new fits → fits ≡ false → part ≡ f x → new ≡ cut_behind f text n xs
cut_here f text new xs n x part fits within is appended passing same =
    let appends = subst (λ (p : List ℕ). AppendsWithin p text new fits) same appended in
    let room : nat_le (length (f x)) (40 - length text) ≡ false = sym appends.1 ∙ passing in
    appends.0 ∙ ap (λ b. text ++ cond b (f x) (codes "..")) passing
    ∙ sym (step f text xs n x within is
    ∙ ap (λ b. text ++ cond b (f x ++ cut_to (40 - length text - length (f x)) (map f (drop (n + 1) xs))) (codes "..")) room)

-- all parts fitted
pub cut_none : {X : Type 0} (f : X → List ℕ) (text : List ℕ) (xs : List X) (n : ℕ) → length xs ≤ n → cut_behind f text n xs ≡ text
cut_none f text xs n past =
    ap (λ k. text ++ k) (at_drop_all (λ ys. cut_to (40 - length text) (map f ys)) xs n past) ∙ append-nil text
