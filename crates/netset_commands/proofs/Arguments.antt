-- Words of the arguments.
use Rattle.std.proofs.Common.{◌≡◌, refl, sym, ◌∙◌, ap, ℕ, ◌+◌, ◌<◌, ◌≤◌, suc, cond, Bool, true, false, List, [], ◌∷◌, length, take, get_or, map, Bor, nat_eq, arith, ◌||◌}
use Rattle.std.specs.List.{count_by, list_any}
use Rattle.std.specs.Str.{bytes_eq}
use Rattle.std.proofs.lemmas.List.{get_or-map, take_all}
use Rattle.std.proofs.lemmas.List.Folds.{list_any_at, list_any_more}
use Rattle.std.proofs.lemmas.List.Sums.{sum_by-cons}
use Rattle.std.proofs.lemmas.Bool.Decides.{Decides-eqb}
use Rattle.std.specs.Cmp.Lexicographic.{pointwise_decides}
use Rattle.netset_commands.specs.Matching.{is_word}
use lib.Pointwise.{pointwise}

-- the bytes of the words
abbrev pub bytes_of : List (Bor (List ℕ)) → List (List ℕ)
bytes_of words = map (λ (w : Bor (List ℕ)). w.now) words

pub same_length : (words : List (Bor (List ℕ))) → length (bytes_of words) ≡ length words
same_length [] = refl
same_length (w ∷ words) = ap (λ (k : ℕ). suc k) (same_length words)

pub within_bytes : (words : List (Bor (List ℕ))) (i : ℕ) → i < length words → i < length (bytes_of words)
within_bytes words i within = omega (arith, same_length words)

-- a word that passes a test
pub any_at : (p : List ℕ → Bool) (words : List (Bor (List ℕ))) (i : ℕ) (d : Bor (List ℕ)) (b : Bool) → i < length words → b ≡ p (get_or words i d).now → b ≡ true
    → list_any p (bytes_of words) ≡ true
any_at p words i d b within is here =
    list_any_at p (bytes_of words) i [] (within_bytes words i within) (ap p (get_or-map (λ (w : Bor (List ℕ)). w.now) words i d [] within) ∙ (sym is ∙ here))

-- a word that does not, behind others
pub none_passed : (p : List ℕ → Bool) (words : List (Bor (List ℕ))) (i : ℕ) (d : Bor (List ℕ)) (b : Bool) → i < length words → b ≡ p (get_or words i d).now → b ≡ false
    → list_any p (take i (bytes_of words)) ≡ false → list_any p (take (i + 1) (bytes_of words)) ≡ false
none_passed p words i d b within is here before =
    list_any_more p (bytes_of words) i [] (within_bytes words i within)
    ∙ (ap (λ (k : Bool). k || p (get_or (bytes_of words) i [])) before
    ∙ (ap p (get_or-map (λ (w : Bor (List ℕ)). w.now) words i d [] within) ∙ (sym is ∙ here)))

pub none_at_all : (p : List ℕ → Bool) (words : List (Bor (List ℕ))) (i : ℕ) → length words ≤ i → list_any p (take i (bytes_of words)) ≡ false
    → list_any p (bytes_of words) ≡ false
none_at_all p words i past h = ap (list_any p) (sym (take_all i (bytes_of words) (omega (arith, same_length words)))) ∙ h

-- a test of words, by their bytes
pub any_of : (name : List ℕ) (words : List (Bor (List ℕ))) → list_any (λ (w : Bor (List ℕ)). bytes_eq w.now name) words ≡ list_any (is_word name) (bytes_of words)
any_of name [] = refl
any_of name (w ∷ words) = ap (λ (k : Bool). bytes_eq w.now name || k) (any_of name words)

-- how many words pass a test, by their bytes
count_mapped : (p : List ℕ → Bool) (words : List (Bor (List ℕ))) → count_by (λ (w : Bor (List ℕ)). p w.now) words ≡ count_by p (bytes_of words)
count_mapped p [] = refl
count_mapped p (w ∷ words) =
    sum_by-cons (λ (v : Bor (List ℕ)). cond (p v.now) 1 0) w words
    ∙ (ap (λ (n : ℕ). cond (p w.now) 1 0 + n) (count_mapped p words) ∙ sym (sum_by-cons (λ (text : List ℕ). cond (p text) 1 0) w.now (bytes_of words)))

pub count_of_bytes : (p : List ℕ → Bool) (words : List (Bor (List ℕ))) (i n : ℕ) → length words ≤ i
    → n ≡ count_by (λ (w : Bor (List ℕ)). p w.now) (take i words) → n ≡ count_by p (bytes_of words)
count_of_bytes p words i n past is =
    is ∙ (ap (count_by (λ (w : Bor (List ℕ)). p w.now)) (take_all i words past) ∙ count_mapped p words)

-- equal by the test of strings
pub same_text : (a b : List ℕ) → true ≡ pointwise nat_eq a b → a ≡ b
same_text a b h = (pointwise_decides Decides-eqb a b).0 (sym h)
