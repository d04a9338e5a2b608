-- Where lines end.
use Rattle.std.proofs.Common.{◌≡◌, ◌<◌, ◌≤◌, refl, sym, ◌∙◌, ap, subst, inl, inr, ℕ, suc, ◌+◌, ◌-◌, take, drop, map, add-one, slice_index, true, false, List, [], ◌∷◌, ◌++◌, length, arith, append_assoc, length-append, length-drop, Option, Some, None}
use Rattle.std.specs.List.{All, onto_first, slice_range, slice_split}
use Rattle.std.specs.Option.{IfSome}
use Rattle.std.specs.Io.KnownBytes.{Consumes, IsAtEnd, prepend_known}
use Rattle.std.proofs.lemmas.Bool.{cases_lt}
use Rattle.std.proofs.lemmas.Grind.{get_or_default_zero}
use Rattle.std.proofs.lemmas.List.{append-nil, get_or-drop, get_or-take, get_or_append_left, length-take, length-take-le, take-append-drop, take-append-le, take-take, drop-append-le, drop-drop, take_all}
use Rattle.std.proofs.lemmas.List.Splits.{length-slice_split, slice_split-cons_no, slice_split_at, slice_split_none}
use Rattle.std.proofs.Math.Seq.{drop-cons, take-append_seam}
use Rattle.cidr_io.specs.Lines.{HasNoFeed, HasTaken, IsFirstFeed, IsNextLine, KeepsLines, MayFail, StaysTold, is_line_feed, kept_of, lines_of}

-- the line up to the first line feed, or the whole text
pub line_cut : (text : List ℕ) (index : ℕ) → ((k : ℕ) → k < index → is_line_feed (slice_index text k) ≡ false)
    → index < length text → is_line_feed (slice_index text index) ≡ true → lines_of text ≡ kept_of (take index text) ∷ lines_of (drop (index + 1) text)
line_cut text index before within here =
    let behind = drop (index + 1) text in
    let y = slice_index text index in
    let tail : drop index text ≡ y ∷ behind = rw add-one (drop-cons text index 0 within) in
    let whole : take index text ++ (y ∷ behind) ≡ text = ap (λ (t : List ℕ). take index text ++ t) (sym tail) ∙ take-append-drop index text in
    let none : All (λ x. is_line_feed x ≡ false) (take index text) =
    λ k d lt.
    let below : k < index = omega (arith, lt, length-take-le index text (omega arith)) in
    let inside : k < length text = omega arith in
    ap is_line_feed (get_or-take index text k d below ∙ get_or_default_zero text k d inside) ∙ before k below in
    ap lines_of (sym whole) ∙ ap (map kept_of) (slice_split_at is_line_feed (take index text) y behind none here)

pub line_whole : (text : List ℕ) → HasNoFeed text → lines_of text ≡ kept_of text ∷ []
line_whole text none =
    ap (map kept_of) (slice_split_none is_line_feed text (λ k d lt. ap is_line_feed (get_or_default_zero text k d lt) ∙ none k lt))

-- ---- a part of a block
-- a text whose front has no line feed
below_seen : (block : List ℕ) (seen k : ℕ) → HasNoFeed (take seen block) → seen ≤ length block → k < seen → is_line_feed (slice_index block k) ≡ false
below_seen block seen k none within h =
    ap is_line_feed (sym (get_or-take seen block k 0 h)) ∙ none k (omega (arith, h, length-take-le seen block within))

from_seen : (block : List ℕ) (seen k : ℕ) → seen ≤ k → slice_index block k ≡ slice_index (drop seen block) (k - seen)
from_seen block seen k h =
    let index : seen + (k - seen) ≡ k = omega (arith, h) in
    ap (slice_index block) (sym index) ∙ sym (get_or-drop seen block (k - seen) 0)

no_feed_before : (block : List ℕ) (seen most : ℕ) → HasNoFeed (take seen block) → seen ≤ length block
    → ((k : ℕ) → k < most → is_line_feed (slice_index (drop seen block) k) ≡ false) → (k : ℕ) → k < seen + most → is_line_feed (slice_index block k) ≡ false
no_feed_before block seen most none within rest k h =
    elim (cases_lt k seen) [
      | inl below ↦ below_seen block seen k none within below
      | inr past ↦ ap is_line_feed (from_seen block seen k past) ∙ rest (k - seen) (omega (arith, h, past))
    ]

pub feed_behind : (block : List ℕ) (seen index : ℕ) → HasNoFeed (take seen block) → seen ≤ length block → IsFirstFeed (drop seen block) index
    → IsFirstFeed block (seen + index)
feed_behind block seen index none within f = record {
  within = omega (arith, f.within, length-drop seen block, within);
  here = ap is_line_feed (sym (get_or-drop seen block index 0)) ∙ f.here;
  before = no_feed_before block seen index none within f.before;
}

pub none_behind : (block : List ℕ) (seen : ℕ) → HasNoFeed (take seen block) → seen ≤ length block → HasNoFeed (drop seen block) → HasNoFeed block
none_behind block seen none within rest k h =
    no_feed_before block seen (length (drop seen block)) none within rest k (omega (arith, h, length-drop seen block, within))

pub no_feed_in : (count : ℕ) (block : List ℕ) → HasNoFeed block → HasNoFeed (take count block)
no_feed_in count block none k h =
    ap is_line_feed (get_or-take count block k 0 (omega (arith, h, length-take count block))) ∙ none k (omega (arith, h, length-take count block))

-- the front of a block that more came behind
pub front_kept : (n : ℕ) (old now part new : List ℕ) → n ≡ length old → now ≡ old → new ≡ now ++ part → take n new ≡ old
front_kept n old now part new long same is =
    ap (λ (k : List ℕ). take n k) (is ∙ ap (λ (k : List ℕ). k ++ part) same)
    ∙ (ap (λ (k : ℕ). take k (old ++ part)) long ∙ take-append_seam old part)

-- the part of a block behind its front
pub part_behind : (block part : List ℕ) (seen : ℕ) → part ≡ block → take (length part - seen) (drop seen part) ≡ drop seen block
part_behind block part seen is = take_all (length part - seen) (drop seen part) (omega (arith, length-drop seen part)) ∙ ap (drop seen) is

-- ---- what is kept of a line
pub kept_whole : (len : ℕ) (text : List ℕ) → len ≤ 1048577 → take len text ≡ kept_of (take len text)
kept_whole len text h = sym (take_all 1048577 (take len text) (omega (arith, h, length-take len text)))

pub kept_front : (len : ℕ) (text : List ℕ) → 1048577 ≤ len → take 1048577 text ≡ kept_of (take len text)
kept_front len text h = sym (take-take 1048577 len text h)

kept_behind : (front part : List ℕ) → kept_of (front ++ part) ≡ kept_of (kept_of front ++ part)
kept_behind front part =
    elim (cases_lt (length front) 1048577) [
      | inl short ↦ ap (λ (k : List ℕ). kept_of (k ++ part)) (sym (take_all 1048577 front (omega (arith, short))))
      | inr long ↦
          let most : 1048577 ≤ length (kept_of front) = omega (arith, length-take-le 1048577 front long) in
          take-append-le 1048577 front part long ∙ sym (take-take 1048577 1048577 front (omega arith))
          ∙ sym (take-append-le 1048577 (kept_of front) part most)
    ]

some_first : (l : List (List ℕ)) → 1 ≤ length l → (part : List ℕ) × (parts : List (List ℕ)) × (l ≡ part ∷ parts)
some_first [] h = absurd (omega (arith, h))
some_first (part ∷ parts) h = (part, parts, refl)

split_behind : (front rest part : List ℕ) (parts : List (List ℕ)) → HasNoFeed front → slice_split is_line_feed rest ≡ part ∷ parts
    → slice_split is_line_feed (front ++ rest) ≡ (front ++ part) ∷ parts
split_behind [] rest part parts none is = is
split_behind (byte ∷ front) rest part parts none is =
    slice_split-cons_no is_line_feed byte (front ++ rest) (none 0 (omega arith))
    ∙ ap (onto_first byte) (split_behind front rest part parts (λ k h. none (suc k) (omega (arith, h))) is)

-- bytes of a line behind those that are kept
lines_without : (block rest : List ℕ) → HasNoFeed block → lines_of (block ++ rest) ≡ lines_of (kept_of block ++ rest)
lines_without block rest none =
    let (part, parts, is) = some_first (slice_split is_line_feed rest) (omega (arith, length-slice_split is_line_feed rest)) in
    let front : HasNoFeed (kept_of block) = no_feed_in 1048577 block none in
    ap (map kept_of) (split_behind block rest part parts none is)
    ∙ (ap (λ (k : List ℕ). k ∷ map kept_of parts) (kept_behind block part)
    ∙ sym (ap (map kept_of) (split_behind (kept_of block) rest part parts front is)))

-- ---- bytes that are told
-- more bytes of a source come behind a block
pub told_on : (old new : Option (List ℕ)) (block more items : List ℕ) → items ≡ block ++ more → Consumes old new more
    → StaysTold (prepend_known block old) (prepend_known items new)
told_on None new block more items is h = tt
told_on (Some xs) None block more items is h = absurd h
told_on (Some xs) (Some ys) block more items is h =
    ap (λ (k : List ℕ). Some (k ++ ys)) is ∙ (ap Some (append_assoc block more ys) ∙ ap (λ (k : List ℕ). Some (block ++ k)) (sym h))

pub stays_told : (known : Option (List ℕ)) → StaysTold known known
stays_told None = tt
stays_told (Some text) = refl

pub stays_on : (old now new : Option (List ℕ)) → StaysTold old now → StaysTold now new → StaysTold old new
stays_on None now new p q = tt
stays_on (Some text) now new p q = subst (λ (k : Option (List ℕ)). IfSome k (λ text. new ≡ Some text)) p q

pub none_told : (old now : Option (List ℕ)) → StaysTold old now → now ≡ None → old ≡ None
none_told None now p h = refl
none_told (Some text) now p h = cc

-- ---- bytes that keep their lines
pub keeps_same : (known : Option (List ℕ)) → KeepsLines known known
keeps_same None = tt
keeps_same (Some text) = (text, refl, refl, omega arith)

pub keeps_on : (old now new : Option (List ℕ)) → KeepsLines old now → StaysTold now new → KeepsLines old new
keeps_on None now new p q = tt
keeps_on (Some text) now new (rest, is, lines, size) q =
    (rest, subst (λ (k : Option (List ℕ)). IfSome k (λ text. new ≡ Some text)) is q, lines, size)

pub keeps_without : (old : Option (List ℕ)) (block : List ℕ) (left : Option (List ℕ)) → KeepsLines old (prepend_known block left) → HasNoFeed block
    → KeepsLines old (prepend_known (kept_of block) left)
keeps_without None block left p none = tt
keeps_without (Some text) block None (rest, is, lines, size) none = cc
keeps_without (Some text) block (Some xs) (rest, is, lines, size) none =
    let same : block ++ xs ≡ rest = cc in (
      kept_of block ++ xs,
      refl,
      lines ∙ (ap lines_of (sym same) ∙ lines_without block xs none),
      omega (arith, size, ap length same, length-append block xs, length-append (kept_of block) xs, length-take 1048577 block),
    )

pub keeps_untold : (old now : Option (List ℕ)) → KeepsLines old now → now ≡ None → MayFail old
keeps_untold None now p h = tt
keeps_untold (Some text) now (rest, is, lines, size) h = cc

-- ---- how many bytes are taken
pub taken_none : (known : Option (List ℕ)) → HasTaken 0 known known
taken_none None = tt
taken_none (Some text) = (text, refl, omega arith)

pub taken_more : (count : ℕ) (old now new : Option (List ℕ)) (block items : List ℕ) → HasTaken count old now
    → StaysTold (prepend_known block now) (prepend_known items new) → length block < length items → HasTaken (count + 1) old new
taken_more count None now new block items p told more = tt
taken_more count (Some text) None new block items (rest, is, most) told more = cc
taken_more count (Some text) (Some xs) None block items (rest, is, most) told more = cc
taken_more count (Some text) (Some xs) (Some ys) block items (rest, is, most) told more =
    let same : items ++ ys ≡ block ++ xs = cc in
    let left : xs ≡ rest = cc in
    (ys, refl, omega (arith, ap length same, length-append items ys, length-append block xs, ap length left, more, most))

pub too_many : (count : ℕ) (old now : Option (List ℕ)) (block : List ℕ) → HasTaken count old now → 18446744073709551615 ≤ count
    → MayFail (prepend_known block old)
too_many count None now block p most = tt
too_many count (Some text) now block (rest, is, taken) most = omega (arith, length-append block text, taken, most)

pub untold : (block : List ℕ) (left : Option (List ℕ)) → left ≡ None → prepend_known block left ≡ None
untold block left h = ap (prepend_known block) h

-- all bytes of a source that is at its end
pub all_read : (left now : Option (List ℕ)) (items : List ℕ) → StaysTold (prepend_known [] left) (prepend_known items now) → IsAtEnd now
    → IfSome left (λ text. items ≡ text)
all_read None now items p h = tt
all_read (Some text) None items p h = cc
all_read (Some text) (Some ys) items p h =
    let same : items ++ ys ≡ text = cc in
    sym (ap (λ (k : List ℕ). items ++ k) h ∙ append-nil items) ∙ same

-- ---- the next line
-- the first line feed of the front of a text is its first one
cut_in_front : (front rest : List ℕ) (len : ℕ) → IsFirstFeed front len
    → lines_of (front ++ rest) ≡ kept_of (take len front) ∷ lines_of (drop (len + 1) front ++ rest)
cut_in_front front rest len f =
    let at : (k : ℕ) → k < length front → slice_index (front ++ rest) k ≡ slice_index front k = λ k h. get_or_append_left front rest 0 k h in
    let whole = line_cut (front ++ rest) len (λ k h. ap is_line_feed (at k (omega (arith, h, f.within))) ∙ f.before k h)
    (omega (arith, f.within, length-append front rest)) (ap is_line_feed (at len f.within) ∙ f.here) in
    whole ∙ ap (λ (k : List ℕ). kept_of k ∷ lines_of (drop (len + 1) (front ++ rest))) (take-append-le len front rest (omega (arith, f.within)))
    ∙ ap (λ (k : List ℕ). kept_of (take len front) ∷ lines_of k) (drop-append-le (len + 1) front rest (omega (arith, f.within)))

next_in : (text : Option (List ℕ)) (left : Option (List ℕ)) (front line behind : List ℕ) (len : ℕ) → KeepsLines text (prepend_known front left)
    → IsFirstFeed front len → line ≡ kept_of (take len front) → behind ≡ drop (len + 1) front
    → IfSome text (λ text. IsNextLine text line true (prepend_known behind left))
next_in None left front line behind len p f is behind_is = tt
next_in (Some text) None front line behind len (rest, known, lines, size) f is behind_is = cc
next_in (Some text) (Some xs) front line behind len (rest, known, lines, size) f is behind_is =
    let same : front ++ xs ≡ rest = cc in (
      behind ++ xs,
      refl,
      lines ∙ (ap lines_of (sym same) ∙ (cut_in_front front xs len f ∙ (ap (λ (k : List ℕ). k ∷ lines_of (drop (len + 1) front ++ xs)) (sym is)
          ∙ ap (λ (k : List ℕ). line ∷ lines_of (k ++ xs)) (sym behind_is)))),
      omega (arith, size, f.within, ap length same, length-append front xs, length-append behind xs, ap length behind_is, length-drop (len + 1) front),
    )

last_in : (text : Option (List ℕ)) (left new : Option (List ℕ)) (front line : List ℕ) → KeepsLines text (prepend_known front left)
    → HasNoFeed front → IsAtEnd left → line ≡ kept_of front → IfSome text (λ text. IsNextLine text line false new)
last_in None left new front line p none at is = tt
last_in (Some text) None new front line (rest, known, lines, size) none at is = cc
last_in (Some text) (Some xs) new front line (rest, known, lines, size) none at is =
    let same : front ++ xs ≡ rest = cc in
    let front_is : front ≡ rest = sym (ap (λ (k : List ℕ). front ++ k) at ∙ append-nil front) ∙ same in
    lines ∙ (ap lines_of (sym front_is) ∙ (line_whole front none ∙ ap (λ (k : List ℕ). k ∷ []) (sym is)))

-- the same by where lines begin and end in a block
behind_of : (block : List ℕ) (start len : ℕ) → drop (start + len + 1) block ≡ drop (len + 1) (drop start block)
behind_of block start len =
    let far : start + len + 1 ≡ start + (len + 1) = omega arith in
    ap (λ (n : ℕ). drop n block) far ∙ sym (drop-drop (len + 1) start block)

line_of : (block : List ℕ) (start len kept : ℕ) → take kept (drop start block) ≡ kept_of (take len (drop start block))
    → slice_range block start (start + kept) ≡ kept_of (take len (drop start block))
line_of block start len kept is =
    let many : start + kept - start ≡ kept = omega arith in
    ap (λ (k : ℕ). take k (drop start block)) many ∙ is

pub next_of_block : (text left : Option (List ℕ)) (block : List ℕ) (start len kept : ℕ) → KeepsLines text (prepend_known (drop start block) left)
    → IsFirstFeed (drop start block) len → take kept (drop start block) ≡ kept_of (take len (drop start block))
    → IfSome text (λ text. IsNextLine text (slice_range block start (start + kept)) true (prepend_known (drop (start + len + 1) block) left))
next_of_block text left block start len kept p f is =
    next_in text left (drop start block) (slice_range block start (start + kept)) (drop (start + len + 1) block) len p f
    (line_of block start len kept is) (behind_of block start len)

pub last_of_block : (text left new : Option (List ℕ)) (block : List ℕ) (start len kept : ℕ) → start + len ≡ length block
    → KeepsLines text (prepend_known (drop start block) left) → HasNoFeed (drop start block) → IsAtEnd left
    → take kept (drop start block) ≡ kept_of (take len (drop start block))
    → IfSome text (λ text. IsNextLine text (slice_range block start (start + kept)) false new)
last_of_block text left new block start len kept all p none at is =
    last_in text left new (drop start block) (slice_range block start (start + kept)) p none at
    (line_of block start len kept is ∙ ap kept_of (take_all len (drop start block) (omega (arith, all, length-drop start block))))
