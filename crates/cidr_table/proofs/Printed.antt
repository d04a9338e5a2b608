-- Texts that are written one after the other.
use Rattle.std.proofs.Common.{◌≡◌, refl, sym, ◌∙◌, ap, ℕ, List, [], ◌++◌, Option, Some, None, ◌+◌, ◌<◌, length, get_or, drop, append_assoc}
use Rattle.std.specs.Option.{IfSome, unwrap_or}
use Rattle.std.specs.Result.{IsOk}
use Rattle.std.specs.Fmt.{◌++?◌, HasWritten, IsPlainFormatter, DisplaysOnOk, WritesOnOk, debug_items, comma_space}
use Rattle.std.specs.declared.fmt.Formatter.{Formatter}
use Rattle.std.specs.declared.fmt.Error.{Error}
use Rattle.std.specs.declared.result.Result.{Result}
use Rattle.std.proofs.lemmas.Grind.{put_two}
use Rattle.std.proofs.lemmas.List.{drop_more}

pub joined_assoc : (a b c : Option (List ℕ)) → (a ++? b) ++? c ≡ a ++? (b ++? c)
joined_assoc None b c = refl
joined_assoc (Some a) None c = refl
joined_assoc (Some a) (Some b) None = refl
joined_assoc (Some a) (Some b) (Some c) = ap (λ t. Some t) (append_assoc a b c)

module _ {W : Type 0} (took : W → List ℕ → W → Type 0) where
  -- of the text in `all` what was not written is that in `left`; nothing is said of a text that isn't told
  abbrev pub Writes : Formatter W → Option (List ℕ) → Formatter W → Option (List ℕ) → Type 0
  Writes start all now left = IfSome all (λ text. IsPlainFormatter start → (written : List ℕ) × HasWritten took start written now × (Some text ≡ Some written ++? left))

  pub begun : (start : Formatter W) (all : Option (List ℕ)) → Writes start all start all
  begun start None = tt
  begun start (Some text) = λ plain. ([], record { wrote = record { parts = []; calls = refl; whole = refl }; plain = plain }, refl)

  -- the next part is written
  pub more : (start now next : Formatter W) (all part left : Option (List ℕ)) → Writes start all now (part ++? left)
      → IfSome part (λ text. IsPlainFormatter now → HasWritten took now text next) → Writes start all next left
  more start now next None part left h w = tt
  more start now next (Some text) None left h w = λ plain. let none : Some text ≡ None = (h plain).2 in (cc)
  more start now next (Some text) (Some part) None h w = λ plain. let none : Some text ≡ None = (h plain).2 in (cc)
  more start now next (Some text) (Some part) (Some left) h w = λ plain.
      let (written, done, rest) = h plain in (
        written ++ part,
        put_two took start now next written part (written ++ part) done (w done.plain) refl,
        rest ∙ ap (λ t. Some t) (sym (append_assoc written part left)),
      )

  -- what a call that ended well displays
  pub displayed : (now next : Formatter W) (r : Result (Unit {0}) Error) (part : Option (List ℕ)) → DisplaysOnOk took now r part next → IsOk r
      → IfSome part (λ text. IsPlainFormatter now → HasWritten took now text next)
  displayed now next r None w ok = tt
  displayed now next r (Some part) w ok = λ plain. w plain ok

  -- the last part is written
  pub ended : (start now next : Formatter W) (r : Result (Unit {0}) Error) (all : Option (List ℕ)) (part : List ℕ) → Writes start all now (Some part) → WritesOnOk took now r part next
      → DisplaysOnOk took start r all next
  ended start now next r None part h w = tt
  ended start now next r (Some text) part h w = λ plain ok.
      let (written, done, rest) = h plain in
      put_two took start now next written part text done (w done.plain ok) (sym (ap (λ t. unwrap_or t []) rest))

module _ {X : Type 0} (text : X → Option (List ℕ)) where
  -- the next of the items that are left
  pub next_item : (lead : List ℕ) (xs : List X) (i : ℕ) (x : X) (close : Option (List ℕ)) → i < length xs → x ≡ get_or xs i x
      → debug_items text lead (drop i xs) ++? close ≡ (Some lead ++? text x) ++? (debug_items text comma_space (drop (i + 1) xs) ++? close)
  next_item lead xs i x close l e =
      let later = debug_items text comma_space (drop (i + 1) xs) in
      rw (drop_more xs i x l, ← e) (ap (λ t. t ++? close) (sym (joined_assoc (Some lead) (text x) later)) ∙ joined_assoc (Some lead ++? text x) later close)
