-- Words that are a command and its arguments, and the lines of an answer.
use Rattle.std.proofs.Common.{◌≡◌, ℕ, List, [], ◌∷◌, length, get_or, map, Bor, nat_eq, refl, sym, arith, true, false, Bool, IsTrue, ◌↔◌, ◌⊎◌, inl, inr, if◌then◌else◌, codes, ◌++◌, append_assoc}
use Rattle.std.proofs.lemmas.Bool.Decides.{Decides-eqb}
use Rattle.std.specs.Cmp.Lexicographic.{pointwise_decides}
use Rattle.cidr_tool.specs.Answer.{named_line, show_lines}
use lib.Pointwise.{pointwise}

-- two words and three
pub two_words : (ws : List (Bor (List ℕ))) (d e : Bor (List ℕ)) → length ws ≡ 2 → map (λ (w : Bor (List ℕ)). w.now) ws ≡ (get_or ws 0 d).now ∷ (get_or ws 1 e).now ∷ []
two_words [] d e l = absurd (omega arith)
two_words (a ∷ []) d e l = absurd (omega arith)
two_words (a ∷ b ∷ []) d e l = refl
two_words (a ∷ b ∷ c ∷ ws) d e l = absurd (omega arith)

pub three_words : (ws : List (Bor (List ℕ))) (d e f : Bor (List ℕ)) → length ws ≡ 3 → map (λ (w : Bor (List ℕ)). w.now) ws ≡ (get_or ws 0 d).now ∷ (get_or ws 1 e).now ∷ (get_or ws 2 f).now ∷ []
three_words [] d e f l = absurd (omega arith)
three_words (a ∷ []) d e f l = absurd (omega arith)
three_words (a ∷ b ∷ []) d e f l = absurd (omega arith)
three_words (a ∷ b ∷ c ∷ []) d e f l = refl
three_words (a ∷ b ∷ c ∷ x ∷ ws) d e f l = absurd (omega arith)

-- equal by the test of texts
pub same_text : (a b : List ℕ) → true ≡ pointwise nat_eq a b → a ≡ b
same_text a b h = (pointwise_decides Decides-eqb a b).0 (sym h)

-- six lines, each appended to those before
six : (a b c d e f : List ℕ) → ((((([] ++ a) ++ b) ++ c) ++ d) ++ e) ++ f ≡ a ++ b ++ c ++ d ++ e ++ f
six a b c d e f = simp (append_assoc)

-- the lines of `show`, each appended to those before
pub lines_appended : (network first last mask len family : List ℕ)
    → ((((([] ++ named_line (codes "network ") network) ++ named_line (codes "first ") first) ++ named_line (codes "last ") last)
    ++ named_line (codes "mask ") mask) ++ named_line (codes "length ") len) ++ named_line (codes "family ") family
    ≡ show_lines network first last mask len family
unfolding show_lines
lines_appended network first last mask len family =
    six (named_line (codes "network ") network) (named_line (codes "first ") first) (named_line (codes "last ") last) (named_line (codes "mask ") mask) (named_line (codes "length ") len)
    (named_line (codes "family ") family)

-- the answer to a question
pub yes_or_no : (b : Bool) (P : Type 0) (agree deny text : List ℕ) → (IsTrue b ↔ P) → text ≡ (if b then agree else deny) → (P × (text ≡ agree)) ⊎ (¬ P × (text ≡ deny))
yes_or_no true P agree deny text h e = inl (h.0 refl, e)
yes_or_no false P agree deny text h e = inr ((λ p. let bad : false ≡ true = h.1 p in cc), e)
