-- How far the lines of a text have been read, whatever is made of them: `Done` says what a state has of the lines so far.
use Rattle.std.proofs.Common.{◌≡◌, refl, sym, ◌∙◌, ap, subst, ℕ, ◌+◌, ◌≤◌, Bool, true, false, Decides, List, [], ◌∷◌, ◌++◌, length, arith, Option, Some, None, append_assoc, length-append}
use Rattle.std.specs.Option.{IfSome}
use Rattle.std.proofs.lemmas.Bool.{true≢false}
use Rattle.netset_commands.specs.Causes.{TextFails}
use Rattle.cidr_lists.specs.Lists.{IsTooLong, lines_of}
use Rattle.netset_commands.proofs.Causes.{KnownOf, too_many}
use Rattle.netset_commands.specs.Reading.{IsNextLine}

-- the line is not too long
pub fits : (line : List ℕ) (test : Bool) → Decides test (IsTooLong line) → test ≡ false → ¬ (IsTooLong line)
fits line test d fails h = true≢false (sym (d.1 h) ∙ fails)

module _ {S : Type 0} (Done : List (List ℕ) → S → Type 0) where
  -- the lines before this number were read
  pub record LinesRead (text : List ℕ) (left : Option (List ℕ)) (state : S) (number : ℕ) : Type 0 where
    pub rest : List ℕ
    pub known : left ≡ Some rest
    pub before : List (List ℕ)
    pub lines : lines_of text ≡ before ++ lines_of rest
    pub size : length rest ≤ length text
    pub place : number ≡ length before + 1
    pub done : Done before state

  -- the lines up to one, and that line
  pub record LineAt (text : List ℕ) (state : S) (number : ℕ) (line : List ℕ) : Type 0 where
    pub before : List (List ℕ)
    pub after : List (List ℕ)
    pub lines : lines_of text ≡ before ++ line ∷ after
    pub place : number ≡ length before + 1
    pub done : Done before state

  pub none_read : (contents : Option (List ℕ)) (state : S) → Done [] state → IfSome contents (λ text. LinesRead text contents state 1)
  none_read None state d = tt
  none_read (Some text) state d = record { rest = text; known = refl; before = []; lines = refl; size = omega arith; place = refl; done = d }

  -- a line that has another behind it
  pub line_read : (contents left next : Option (List ℕ)) (state new : S) (number : ℕ) (line : List ℕ) (more : Bool) → more ≡ true
      → IfSome contents (λ text. LinesRead text left state number) → IfSome left (λ text. IsNextLine text line more next)
      → ((before : List (List ℕ)) → number ≡ length before + 1 → Done before state → Done (before ++ line ∷ []) new)
      → IfSome contents (λ text. LinesRead text next new (number + 1))
  line_read None left next state new number line more is p n step = tt
  line_read (Some text) left next state new number line false is p n step = cc
  line_read (Some text) left next state new number line true is p n step =
      let (rest, known, lines, less) = (rw p.known at n) in
      record {
        rest = rest;
        known = known;
        before = p.before ++ line ∷ [];
        lines = p.lines ∙ (ap (λ k. p.before ++ k) lines ∙ sym (append_assoc p.before (line ∷ []) (lines_of rest)));
        size = omega (arith, p.size, less);
        place = omega (arith, p.place, length-append p.before (line ∷ []));
        done = step p.before p.place p.done;
      }

  -- the last line
  pub last_read : (contents left next : Option (List ℕ)) (state new : S) (number : ℕ) (line : List ℕ) (more : Bool) → more ≡ false
      → IfSome contents (λ text. LinesRead text left state number) → IfSome left (λ text. IsNextLine text line more next)
      → ((before : List (List ℕ)) → number ≡ length before + 1 → Done before state → Done (before ++ line ∷ []) new)
      → IfSome contents (λ text. Done (lines_of text) new)
  last_read None left next state new number line more is p n step = tt
  last_read (Some text) left next state new number line true is p n step = cc
  last_read (Some text) left next state new number line false is p n step =
      let lines : lines_of text ≡ p.before ++ line ∷ [] = p.lines ∙ ap (λ k. p.before ++ k) (rw p.known at n) in
      subst (λ (k : List (List ℕ)). Done k new) (sym lines) (step p.before p.place p.done)

  first_of_more : (text line : List ℕ) (more : Bool) (next : Option (List ℕ)) → IsNextLine text line more next
      → (after : List (List ℕ)) × (lines_of text ≡ line ∷ after)
  first_of_more text line true next n = (lines_of n.0, n.2)
  first_of_more text line false next n = ([], n)

  -- a line where reading stops
  pub stops_at : (contents left next : Option (List ℕ)) (state : S) (number : ℕ) (line : List ℕ) (more : Bool)
      → IfSome contents (λ text. LinesRead text left state number) → IfSome left (λ text. IsNextLine text line more next)
      → IfSome contents (λ text. LineAt text state number line)
  stops_at None left next state number line more p n = tt
  stops_at (Some text) left next state number line more p n =
      let (after, lines) = first_of_more p.rest line more next (rw p.known at n) in
      record { before = p.before; after = after; lines = p.lines ∙ ap (λ k. p.before ++ k) lines; place = p.place; done = p.done }

  -- what is left is told too
  pub left_known : (contents left : Option (List ℕ)) (state : S) (number : ℕ) → IfSome contents (λ text. LinesRead text left state number) → KnownOf contents left
  left_known None left state number p = tt
  left_known (Some text) left state number p = (p.rest, p.known, p.size)

  -- there are more lines than numbers
  pub numbers_used : (contents left : Option (List ℕ)) (state : S) (number : ℕ) → IfSome contents (λ text. LinesRead text left state number)
      → 18446744073709551615 ≤ number → TextFails contents
  numbers_used None left state number p most = tt
  numbers_used (Some text) left state number p most = too_many text p.before (lines_of p.rest) number p.lines p.place most
