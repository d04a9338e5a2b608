use Rattle.std.proofs.Common.{ℕ, ◌∷◌, ◌++◌, List, take, drop, Option, Some, None, lit<, sym, ap, ◌∙◌, subst}
use denote.Ref.{Bor}
use Rattle.std.specs.Option.{MatchOption}
use Rattle.std.proofs.lemmas.List.{take-append-drop}
use Rattle.std.proofs.lemmas.Str.Pattern.{NoCharPasses-char, drop_at_char}
use Rattle.std.specs.Str.Pattern.{RFindsChar, SplitsAroundMatch}
use Rattle.cidr.specs.texts.NetworkText.{slash}
use Rattle.cidr.specs.texts.Refusal.{Lacks, CutsAtLastSlash}
use Rattle.cidr_ext.proofs.mask_text.cut_at_last_slash.Goals as goal

-- what the last slash parts, if there is one
parts_of : (text : List ℕ) (parts : Option (Bor (List ℕ) × Bor (List ℕ)))
    → MatchOption parts (RFindsChar slash text None) (λ p. SplitsAroundMatch (RFindsChar slash) text p.0.now p.1.now)
    → MatchOption parts (Lacks slash text) (λ p. CutsAtLastSlash text p.0.now p.1.now)
parts_of text None none = λ i within. NoCharPasses-char slash text i none (lit< tt) within
parts_of text (Some p) (i, j, (none, at), front, back, order, width, rest) = (
  sym (take-append-drop i text) ∙ ap (λ (k : List ℕ). take i text ++ k) (drop_at_char slash text i j at (lit< tt)) ∙ ap (λ (k : List ℕ). k ++ slash ∷ drop j text) (sym front) ∙ ap (λ (k : List ℕ). p.0.now ++ slash ∷ k) (sym back),
  subst (Lacks slash) (sym back) (λ k within. NoCharPasses-char slash (drop j text) k none (lit< tt) within),
)

pub returns : goal.returns
returns c = parts_of c.args.text.now c.rsplit_once.result c.rsplit_once.ensures.cases
