-- Lines that are read one after another.
use Rattle.std.proofs.Common.{rules, ◌≡◌, ◌≢◌, ℕ, ◌+◌, ◌<◌, ◌≤◌, Bool, true, false, List, [], ◌∷◌, ◌++◌, length, take, drop, set, slice_index_or, slice_get, get_or, map, ◌-◌, Some, inl, inr, refl, sym, ap, ◌∙◌, arith, append_assoc, length-append, length-drop, add-one, subst}
use Rattle.std.specs.List.{AllZip, slice_split, All}
use Rattle.std.proofs.lemmas.List.{take_more, take_more_set, take-set, append-nil, take-append-drop, drop-drop, drop-set-lt, length-set, get_or-take, length-take-le, set-get_or}
use Rattle.std.proofs.lemmas.Grind.{get_or_default_zero}
use Rattle.std.proofs.lemmas.Bool.{cases_eq}
use Rattle.std.proofs.lemmas.List.Splits.{slice_split_at, slice_split_none}
use Rattle.std.proofs.Math.Seq.{take-append_seam, drop-cons, take-length}
use Rattle.cidr.specs.declared.errors.NetworkParseError.{NetworkParseError}
use Rattle.cidr.specs.declared.errors.NetworkParseError.TheVariants as parse_error
use borrow.Rule.Slice.PartMut.{put_mid}
use Rattle.std.proofs.lemmas.Slice.{drop-put_mid, take-put_mid, overwrites}
use Rattle.std.proofs.lemmas.List.Concat.{flat_map-append}
use Rattle.cidr.specs.either.IpText.{any_network_text}
use Rattle.cidr.specs.texts.Printed.{plain_text}
use Rattle.cidr_io.specs.Lines.{is_line_feed}
use Rattle.cidr_c.proofs.NetworkLists.{item_more}
use Rattle.cidr_c.specs.calls.Batches.{AreNetworkValues}
use Rattle.cidr_c.specs.model.Values.{IsNetworkValue, network_in}
use Rattle.cidr_c.specs.model.Codes.{parse_code}
use Rattle.cidr_c.specs.calls.Lines.{lines_between_feeds, SpellsNetwork, IsFirstLine, IsLineRead, AreLinesRead, printed_lines}
use Rattle.cidr_c.specs.declared.values.CValue.{CValue}

-- the lines that are left
abbrev pub lines_left : List ℕ → Bool → List (List ℕ)
lines_left rest true = lines_between_feeds rest
lines_left rest false = []

-- the first n lines are read, and the others are left
pub record AreSoFar (text rest : List ℕ) (more : Bool) (old : List CValue) (n : ℕ) (out : List CValue) : Type 0 where
  pub done : List (List ℕ)
  pub split : lines_between_feeds text ≡ done ++ lines_left rest more
  pub count : n ≡ length done
  pub fits : n ≤ length out
  pub kept : length out ≡ length old
  pub said : AllZip SpellsNetwork done (take n out)
  pub behind : drop n out ≡ drop n old

pub none_yet : (text : List ℕ) (out : List CValue) → AreSoFar text text true out 0 out
none_yet text out = record { done = []; split = refl; count = refl; fits = omega arith; kept = refl; said = tt; behind = refl }

left_behind : (rest line behind : List ℕ) (more : Bool) → IsFirstLine rest line behind more → lines_between_feeds rest ≡ line ∷ lines_left behind more
left_behind rest line behind true first = first.0
left_behind rest line behind false first = first

says_more : (done : List (List ℕ)) (values : List CValue) (line : List ℕ) (value : CValue) → AllZip SpellsNetwork done values → SpellsNetwork line value
    → AllZip SpellsNetwork (done ++ line ∷ []) (values ++ value ∷ [])
says_more [] [] line value said here = (here, tt)
says_more [] (v ∷ values) line value said here = absurd said
says_more (d ∷ done) [] line value said here = absurd said
says_more (d ∷ done) (v ∷ values) line value said here = (said.0, says_more done values line value said.1 here)

below_room : (e : NetworkParseError) → parse_code e < 11
below_room (parse_error.AddrParseError e) = omega arith
below_room (parse_error.NetworkLengthParseError e) = omega arith
below_room (parse_error.NetworkLengthTooLongError e) = omega arith
below_room parse_error.InvalidHostPart = omega arith

line_at : (done : List (List ℕ)) (line : List ℕ) (others : List (List ℕ)) → slice_get (done ++ line ∷ others) (length done) ≡ Some line
line_at [] line others = refl
line_at (d ∷ done) line others = line_at done line others

module _ (text rest : List ℕ) (old : List CValue) (n : ℕ) (out : List CValue) (so_far : AreSoFar text rest true old n out)
    (line behind : List ℕ) (more : Bool) (first : IsFirstLine rest line behind more) where
  next_split : lines_between_feeds text ≡ so_far.done ++ line ∷ lines_left behind more
  next_split = so_far.split ∙ ap (λ (t : List (List ℕ)). so_far.done ++ t) (left_behind rest line behind more first)

  front : take n (lines_between_feeds text) ≡ so_far.done
  front =
      ap (take n) next_split ∙ (ap (λ (k : ℕ). take k (so_far.done ++ line ∷ lines_left behind more)) so_far.count
      ∙ take-append_seam so_far.done (line ∷ lines_left behind more))

  said_so_far : (new : List CValue) → take n new ≡ take n out → AllZip SpellsNetwork (take n (lines_between_feeds text)) (take n new)
  said_so_far new same =
      subst (λ (t : List (List ℕ)). AllZip SpellsNetwork t (take n new)) (sym front) (subst (AllZip SpellsNetwork so_far.done) (sym same) so_far.said)

  -- a line that was read
  pub one_more : (new : List CValue) (code : ℕ) → code ≡ 0 → IsLineRead line n out new code → AreSoFar text behind more old (n + 1) new
  one_more new code ok (inl full) = absurd (omega (arith, ok, full.1))
  one_more new code ok (inr (fits, value, is, read)) =
      let same : length new ≡ length out = ap length is ∙ length-set out n value in record {
        done = so_far.done ++ line ∷ [];
        split = next_split ∙ sym (append_assoc so_far.done (line ∷ []) (lines_left behind more));
        count = omega (arith, so_far.count, length-append so_far.done (line ∷ []));
        fits = omega (arith, same, fits);
        kept = same ∙ so_far.kept;
        said = subst (AllZip SpellsNetwork (so_far.done ++ line ∷ [])) (sym (ap (take (n + 1)) is ∙ take_more_set out n value fits))
            (says_more so_far.done (take n out) line value so_far.said (read.value ok));
        behind =
            ap (drop (n + 1)) is ∙ (drop-set-lt (n + 1) out n value (omega arith)
            ∙ (sym (drop-drop 1 n out) ∙ (ap (drop 1) so_far.behind ∙ drop-drop 1 n old)));
      }

  -- a line in error, or no more room
  pub stopped : (new : List CValue) (code : ℕ) → code ≢ 0 → IsLineRead line n out new code → AreLinesRead text old new n code
  stopped new code other (inl (past, full, same)) = record {
    fits = omega (arith, so_far.fits, so_far.kept);
    said = said_so_far new (ap (take n) same);
    behind = ap (drop n) same ∙ so_far.behind;
    all = λ z. absurd (other z);
    room = λ _. (omega (arith, so_far.fits, so_far.kept, past), rw next_split (omega (arith, so_far.count, length-append so_far.done (line ∷ lines_left behind more))));
    error = λ _ none. absurd (none full);
    before = λ _ none. absurd (none full);
  }
  stopped new code other (inr (fits, value, is, read)) = record {
    fits = omega (arith, so_far.fits, so_far.kept);
    said = said_so_far new (ap (take n) is ∙ take-set out n value);
    behind = ap (drop n) (is ∙ (ap (set out n) (read.stays other) ∙ set-get_or out n value)) ∙ so_far.behind;
    all = λ z. absurd (other z);
    room = λ full. let (e, is_code, _) = read.error (omega (arith, full)) in absurd (omega (arith, full, is_code, below_room e));
    error = λ _ _. (
      line,
      rw (next_split, so_far.count) (line_at so_far.done line (lines_left behind more)),
      elim (cases_eq code 1) [ inl e ↦ inl (e, read.utf8.0 e) | inr ne ↦ inr (read.error (omega (arith, ne, other))) ],
    );
    before = λ _ _. omega (arith, so_far.kept, fits);
  }

pub all_read : (text rest : List ℕ) (old : List CValue) (n : ℕ) (out : List CValue) → AreSoFar text rest false old n out
    → AreLinesRead text old out n 0
all_read text rest old n out so_far =
    let all : lines_between_feeds text ≡ so_far.done = so_far.split ∙ append-nil so_far.done in
    record {
      fits = omega (arith, so_far.fits, so_far.kept);
      said = subst (λ (t : List (List ℕ)). AllZip SpellsNetwork t (take n out))
          (sym (ap (take n) all ∙ (ap (λ (k : ℕ). take k so_far.done) so_far.count ∙ take-length so_far.done))) so_far.said;
      behind = so_far.behind;
      all = λ _. rw all so_far.count;
      room = λ z. absurd (omega (arith, z));
      error = λ other _. absurd (other refl);
      before = λ other _. absurd (other refl);
    }

-- ---- the first line
-- the text is cut at its first line feed
pub cut : (text : List ℕ) (place : ℕ) → ((k : ℕ) → k < place → is_line_feed (slice_index_or text k 0) ≡ false)
    → place < length text → is_line_feed (slice_index_or text place 0) ≡ true
    → IsFirstLine text (take place text) (drop (place + 1) text) true
cut text place before within here =
    let behind = drop (place + 1) text in
    let y = slice_index_or text place 0 in
    let tail : drop place text ≡ y ∷ behind = rw add-one (drop-cons text place 0 within) in
    let whole : take place text ++ (y ∷ behind) ≡ text = ap (λ (t : List ℕ). take place text ++ t) (sym tail) ∙ take-append-drop place text in
    let none : All (λ x. is_line_feed x ≡ false) (take place text) =
    λ k d lt.
    let below : k < place = omega (arith, lt, length-take-le place text (omega arith)) in
    let inside : k < length text = omega arith in
    ap is_line_feed (get_or-take place text k d below ∙ get_or_default_zero text k d inside) ∙ before k below in (
      ap (slice_split is_line_feed) (sym whole) ∙ slice_split_at is_line_feed (take place text) y behind none here,
      omega (arith, length-drop (place + 1) text, within),
    )

pub uncut : (text : List ℕ) (place : ℕ) → ((k : ℕ) → k < place → is_line_feed (slice_index_or text k 0) ≡ false)
    → length text ≤ place → (behind : List ℕ) → IsFirstLine text text behind false
uncut text place before past behind =
    slice_split_none is_line_feed text (λ k d lt. ap is_line_feed (get_or_default_zero text k d lt) ∙ before k (omega (arith, lt, past)))

-- ---- printed lines
put_mid-length : (at n : ℕ) (out ys : List ℕ) (k : ℕ) → k ≡ n → length ys ≡ n → at + n ≤ length out → length (put_mid at k out ys) ≡ length out
put_mid-length at n out ys k e l fits = search (rules, overwrites)

-- a string and a line feed are put to a place
pub line_put : (at : ℕ) (out ys text : List ℕ) → ys ≡ text → at + length text < length out
    → (at + length text + 1 ≤ length (set (put_mid at (at + length text - at) out ys) (at + length text) 10))
    × (take (at + length text + 1) (set (put_mid at (at + length text - at) out ys) (at + length text) 10) ≡ take at out ++ (text ++ 10 ∷ []))
    × (drop (at + length text + 1) (set (put_mid at (at + length text - at) out ys) (at + length text) 10) ≡ drop (at + length text + 1) out)
line_put at out ys text same fits =
    let mid = put_mid at (at + length text - at) out ys in
    let lens : length ys ≡ length text = ap length same in
    let size : length mid ≡ length out = put_mid-length at (length text) out ys (at + length text - at) (omega arith) lens (omega arith) in
    let within : at + length text < length mid = omega (arith, size, fits) in
    let front : take (at + length text) mid ≡ take at out ++ text =
    take-put_mid at (at + length text - at) out ys (at + length text) (omega (arith, lens)) (omega (arith, fits)) ∙ ap (λ (t : List ℕ). take at out ++ t) same in (
      omega (arith, size, fits, length-set mid (at + length text) 10),
      take_more_set mid (at + length text) 10 within ∙ (ap (λ (t : List ℕ). t ++ 10 ∷ []) front ∙ append_assoc (take at out) text (10 ∷ [])),
      drop-set-lt (at + length text + 1) mid (at + length text) 10 (omega arith)
          ∙ drop-put_mid at (at + length text - at) out ys (at + length text + 1) (omega arith) (omega (arith, fits)) (omega (arith, lens)),
    )

line_more : (values : List CValue) (i : ℕ) (d : CValue) → i < length values
    → printed_lines (take (i + 1) values) ≡ printed_lines (take i values) ++ (any_network_text plain_text (network_in (get_or values i d)) ++ 10 ∷ [])
line_more values i d lt =
    let f : CValue → List ℕ = λ v. any_network_text plain_text (network_in v) ++ 10 ∷ [] in
    ap printed_lines (take_more values i d lt) ∙ (flat_map-append f (take i values) (get_or values i d ∷ [])
    ∙ ap (λ (t : List ℕ). printed_lines (take i values) ++ t) (append-nil (f (get_or values i d))))

-- a value more that is no network
pub no_network_more : (values : List CValue) (i : ℕ) (d : CValue) → i < length values → ¬ (IsNetworkValue (get_or values i d))
    → ¬ (AreNetworkValues (take (i + 1) values))
no_network_more values i d lt none all =
    let size : length (take (i + 1) values) ≡ i + 1 = length-take-le (i + 1) values (omega (arith, lt)) in
    none (subst IsNetworkValue (get_or-take (i + 1) values i d (omega arith)) (all i d (omega (arith, size))))

module _ (values : List CValue) (i end : ℕ) (out : List ℕ) (within : end ≤ length out) (so_far : take end out ≡ printed_lines (take i values)) where
  -- the lines that are printed have room
  pub lines_fit : length (printed_lines (take i values)) ≤ length out
  lines_fit = omega (arith, length-take-le end out within, ap length so_far, within)

  -- one line more has none
  pub line_over : (d : CValue) (text : List ℕ) → i < length values → AreNetworkValues (take i values) → IsNetworkValue (get_or values i d)
      → text ≡ any_network_text plain_text (network_in (get_or values i d)) → length out ≤ end + length text
      → AreNetworkValues (take (i + 1) values) × (length out < length (printed_lines (take (i + 1) values)))
  line_over d text lt fine here is past =
      let line : List ℕ = any_network_text plain_text (network_in (get_or values i d)) in (
        (item_more IsNetworkValue network_in values i d (map network_in (take i values)) lt fine refl here).0,
        omega (
          arith,
          past,
          length-take-le end out within,
          ap length so_far,
          ap length is,
          ap length (line_more values i d lt),
          length-append (printed_lines (take i values)) (line ++ 10 ∷ []),
          length-append line (10 ∷ []),
        ),
      )

-- what is behind a place stays behind a later one
pub same_behind : (end next : ℕ) (old out new : List ℕ) → end ≤ next → drop end out ≡ drop end old → drop next new ≡ drop next out
    → drop next new ≡ drop next old
same_behind end next old out new later before put =
    let e : end + (next - end) ≡ next = omega arith in
    let at : (bytes : List ℕ) → drop next bytes ≡ drop (next - end) (drop end bytes) =
    λ bytes. ap (λ k. drop k bytes) (sym e) ∙ sym (drop-drop (next - end) end bytes) in
    put ∙ (at out ∙ (ap (drop (next - end)) before ∙ sym (at old)))

-- one line more
pub line_printed : (values : List CValue) (i : ℕ) (d : CValue) (text out new : List ℕ) (end next : ℕ) → i < length values
    → AreNetworkValues (take i values) → take end out ≡ printed_lines (take i values)
    → IsNetworkValue (get_or values i d) → text ≡ any_network_text plain_text (network_in (get_or values i d))
    → (next ≤ length new) × (take next new ≡ take end out ++ (text ++ 10 ∷ []))
    → (next ≤ length new) × AreNetworkValues (take (i + 1) values) × (take next new ≡ printed_lines (take (i + 1) values))
line_printed values i d text out new end next lt fine so_far here is put =
    let more = item_more IsNetworkValue network_in values i d (map network_in (take i values)) lt fine refl here in
    (put.0, more.0, put.1 ∙ (ap (λ (t : List ℕ). t ++ (text ++ 10 ∷ [])) so_far ∙ (ap (λ (t : List ℕ). printed_lines (take i values) ++ (t ++ 10 ∷ [])) is ∙ sym (line_more values i d lt))))
