-- How far a text has been read, by what each of its lines says.
use Rattle.std.proofs.Common.{◌≡◌, refl, sym, ◌∙◌, ℕ, ◌+◌, Bor, Bool, true, false, List, [], ◌∷◌, ◌++◌, Option, Some, append_assoc, append-nil}
use Rattle.std.specs.Option.{IfSome}
use Rattle.std.specs.List.{AllZip}
use Rattle.cidr_lists.specs.Lists.{lines_of}
use Rattle.netset_commands.specs.LookUps.{AreBeforeError, AreFirstSaid}
use Rattle.netset_commands.specs.Reading.{IsNextLine}
use Rattle.netset_commands.specs.Streaming.{IsCut, IsStop}
use Rattle.netset_commands.specs.declared.errors.CommandError.{CommandError}
use Rattle.netset_commands.specs.declared.errors.CommandError.TheVariants as error
use Rattle.cidr_lists.specs.declared.errors.LineError.{LineError}
use Rattle.netset_commands.proofs.LinesRead.{LinesRead, line_read, last_read, none_read, stops_at}
use Rattle.netset_commands.proofs.Zips.{zip_behind}

module _ {S : Type 0} (Says : List ℕ → S → Type 0) where
  -- the lines before this number were read, and say this
  abbrev pub Passed : List ℕ → Option (List ℕ) → List S → ℕ → Type 0
  Passed text left said number = LinesRead (AllZip Says) text left said number

  one_said : (said : List S) (line : List ℕ) (one : S) → Says line one → (before : List (List ℕ)) → AllZip Says before said
      → AllZip Says (before ++ line ∷ []) (said ++ one ∷ [])
  one_said said line one s before fine = zip_behind Says before said line one fine s

  pub none_passed : (text : List ℕ) → Passed text (Some text) [] 1
  none_passed text = none_read (AllZip Says) (Some text) [] tt

  -- a line that has another behind it
  pub one_passed : (text : List ℕ) (left next : Option (List ℕ)) (said : List S) (number : ℕ) (line : List ℕ) (more : Bool) (one : S) → more ≡ true
      → Passed text left said number → IfSome left (λ text. IsNextLine text line more next) → Says line one
      → Passed text next (said ++ one ∷ []) (number + 1)
  one_passed text left next said number line more one is p n s =
      line_read (AllZip Says) (Some text) left next said (said ++ one ∷ []) number line more is p n (λ before _. one_said said line one s before)

  -- the last line
  pub all_passed : (text : List ℕ) (left next : Option (List ℕ)) (said : List S) (number : ℕ) (line : List ℕ) (more : Bool) (one : S) → more ≡ false
      → Passed text left said number → IfSome left (λ text. IsNextLine text line more next) → Says line one
      → AllZip Says (lines_of text) (said ++ one ∷ [])
  all_passed text left next said number line more one is p n s =
      last_read (AllZip Says) (Some text) left next said (said ++ one ∷ []) number line more is p n (λ before _. one_said said line one s before)

  -- a line in error
  pub error_passed : (IsBad : List ℕ → LineError → Type 0) (text : List ℕ) (left next : Option (List ℕ)) (said : List S) (number : ℕ) (line : List ℕ) (more : Bool)
      (n : ℕ) (e : LineError) → Passed text left said number → IfSome left (λ text. IsNextLine text line more next) → n ≡ number → IsBad line e
      → AreBeforeError Says IsBad text said n e
  error_passed IsBad text left next said number line more n e p next_is at bad =
      let here = stops_at (AllZip Says) (Some text) left next said number line more p next_is in
      record {
        before = here.before;
        line = line;
        after = here.after;
        lines = here.lines;
        place = at ∙ here.place;
        fine = here.done;
        fault = bad;
      }

  -- no more lines
  pub first_passed : (text : List ℕ) (left : Option (List ℕ)) (said : List S) (number : ℕ) → Passed text left said number → AreFirstSaid Says text said
  first_passed text left said number p = record { before = p.before; after = lines_of p.rest; lines = p.lines; fine = p.done }

  -- one more line, and no more
  pub one_more_passed : (text : List ℕ) (left next : Option (List ℕ)) (said : List S) (number : ℕ) (line : List ℕ) (more : Bool) (one : S)
      → Passed text left said number → IfSome left (λ text. IsNextLine text line more next) → Says line one → AreFirstSaid Says text (said ++ one ∷ [])
  one_more_passed text left next said number line more one p n s =
      let here = stops_at (AllZip Says) (Some text) left next said number line more p n in
      record {
        before = here.before ++ line ∷ [];
        after = here.after;
        lines = here.lines ∙ sym (append_assoc here.before (line ∷ []) here.after);
        fine = one_said said line one s here.before here.done;
      }

  -- the same up to the lines that are left, and why they are
  pub cut_before : (IsBad : List ℕ → LineError → Type 0) (text : List ℕ) (said : List S) (number : ℕ) (e : LineError) (file : Bor (List ℕ))
      → AreBeforeError Says IsBad text said number e → IsCut (AllZip Says) IsBad (lines_of text) said (error.Line file number e)
  cut_before IsBad text said number e file h = (
    h.before,
    h.line ∷ h.after,
    record { lines = h.lines; are = h.fine },
    (h.place, h.line, h.after, refl, h.fault),
  )

  pub cut_behind : (IsBad : List ℕ → LineError → Type 0) (text : List ℕ) (said : List S) (e : CommandError)
      → ((read left : List (List ℕ)) → IsStop (λ before. IsBad) read left e) → AreFirstSaid Says text said
      → IsCut (AllZip Says) IsBad (lines_of text) said e
  cut_behind IsBad text said e stops h = (h.before, h.after, record { lines = h.lines; are = h.fine }, stops h.before h.after)

  -- all lines are the first ones
  pub all_first : (text : List ℕ) (said : List S) → AllZip Says (lines_of text) said → AreFirstSaid Says text said
  all_first text said h = record { before = lines_of text; after = []; lines = sym (append-nil (lines_of text)); fine = h }
