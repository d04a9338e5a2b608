-- What is read of a file whose first line is a header.
use Rattle.std.proofs.Common.{◌≡◌, sym, ◌∙◌, ap, arith, cond, ℕ, ◌+◌, ◌≤◌, ◌==◌, ◌++◌, Bool, true, false, not, if◌then◌else◌, List, [], length, take, drop, replicate, option_map, Option, Some, None}
use Rattle.std.proofs.lemmas.Grind.{common_steps}
use Rattle.std.proofs.lemmas.List.{append-nil, append_assoc, drop_all, replicate-append-replicate}
use Rattle.std.specs.Io.KnownBytes.{Consumes, IsAtEnd}
use Rattle.std.specs.List.{position_or_len}
use Rattle.std.proofs.lemmas.Bool.{eqb-true}
use Rattle.std.proofs.lemmas.List.Folds.{prefix_len-append}
use Rattle.std.proofs.lemmas.List.Sums.{prefix_len-le-length}
use Rattle.std.proofs.Math.Seq.{drop-append-add}
use Rattle.cidr_io.specs.Lines.{Gives, is_line_feed}
use Rattle.netset_commands.specs.Program.{below_header}

-- how many bytes stand before the first line feed
abbrev len : List ℕ → ℕ
len bytes = position_or_len is_line_feed bytes

len_fits : (bytes : List ℕ) → len bytes ≤ length bytes
len_fits bytes = prefix_len-le-length (λ b. not (is_line_feed b)) bytes

length_below : (bytes : List ℕ) → length (below_header bytes) ≡ length bytes
length_below bytes = let fits : len bytes ≤ length bytes = len_fits bytes in grind (arith, common_steps)

-- bytes behind others: the header goes on in them, or has ended
below_append : (front rest : List ℕ) (on : Bool) → on ≡ (len front == length front)
    → below_header (front ++ rest) ≡ below_header front ++ (if on then below_header rest else rest)
below_append front rest on is =
    let fits : len front ≤ length front = len_fits front in
    let joined : len (front ++ rest) ≡ cond (len front == length front) (length front + len rest) (len front) = prefix_len-append (λ b. not (is_line_feed b)) front rest in
    by on is (ap (λ (k : Bool). cond k (length front + len rest) (len front)) (sym is)) fits joined
  where
    by : (b : Bool) → b ≡ (len front == length front) → cond (len front == length front) (length front + len rest) (len front) ≡ cond b (length front + len rest) (len front)
        → len front ≤ length front → len (front ++ rest) ≡ cond (len front == length front) (length front + len rest) (len front)
        → below_header (front ++ rest) ≡ below_header front ++ (if b then below_header rest else rest)
    by true is same fits joined =
        let long : len front ≡ length front = eqb-true (len front) (length front) (sym is) in
        let at : len (front ++ rest) ≡ length front + len rest = joined ∙ same in
        let all : drop (length front) front ≡ [] = drop_all (length front) front (omega arith) in
        let rest_below : List ℕ = replicate (len rest) 32 ++ drop (len rest) rest in
        rw (at, long) (
        ap (λ (k : List ℕ). k ++ drop (length front + len rest) (front ++ rest)) (sym (replicate-append-replicate (length front) (len rest) 32))
        ∙ ap (λ (k : List ℕ). (replicate (length front) 32 ++ replicate (len rest) 32) ++ k) (drop-append-add front rest (len rest))
        ∙ append_assoc (replicate (length front) 32) (replicate (len rest) 32) (drop (len rest) rest)
        ∙ ap (λ (k : List ℕ). k ++ rest_below) (sym (append-nil (replicate (length front) 32)) ∙ ap (λ (k : List ℕ). replicate (length front) 32 ++ k) (sym all)))
    by false is same fits joined =
        let at : len (front ++ rest) ≡ len front = joined ∙ same in
        rw at (grind (arith, common_steps))

headed_taken : (old new : Option (List ℕ)) (on : Bool) (front : List ℕ) → on ≡ (len front == length front)
    → Consumes old new front → Consumes (option_map below_header old) (if on then option_map below_header new else new) (below_header front)
headed_taken None new on front is h = tt
headed_taken (Some text) None on front is h = absurd h
headed_taken (Some text) (Some rest) true front is h = ap below_header h ∙ below_append front rest true is
headed_taken (Some text) (Some rest) false front is h = ap below_header h ∙ below_append front rest false is

headed_end : (new : Option (List ℕ)) (on : Bool) → IsAtEnd new → IsAtEnd (if on then option_map below_header new else new)
headed_end None true h = tt
headed_end None false h = tt
headed_end (Some rest) true h = ap below_header h
headed_end (Some rest) false h = h

-- what is read of a header, and whether it goes on
pub headed_given : (old new : Option (List ℕ)) (n : ℕ) (buf blanked : List ℕ) (on : Bool) → Gives old new (Some n) buf
    → blanked ≡ below_header (take n buf) → on ≡ (len (take n buf) == length (take n buf))
    → Gives (option_map below_header old) (if on then option_map below_header new else new) (Some n) (blanked ++ drop n buf)
headed_given old new n buf blanked on (fits, taken, end) is ends =
    let long : length blanked ≡ n = ap length is ∙ (length_below (take n buf) ∙ grind (arith, common_steps)) in
    let front : take n (blanked ++ drop n buf) ≡ blanked = grind (arith, common_steps) in
    let all : length (blanked ++ drop n buf) ≡ length buf = grind (arith, common_steps) in (
      omega (arith, all, fits),
      rw (front, is) (headed_taken old new on (take n buf) ends taken),
      λ none room. headed_end new on (end none (omega (arith, all, room))),
    )
