-- Lists that are read and told, one after another.
use Rattle.std.proofs.Common.{◌≡◌, refl, sym, ◌∙◌, ap, subst, arith, Bor, cond, ℕ, ◌+◌, ◌<◌, ◌≤◌, Bool, true, false, List, [], ◌∷◌, ◌++◌, length, take, drop, get_or, Option, Some, Ok, Err, ◌||◌}
use Rattle.std.specs.Option.{IfSome}
use Rattle.std.proofs.lemmas.List.{append-nil, take_all, take-append-drop, at_drop_more, get_or-map}
use Rattle.cidr_io.specs.Writing.{State, Tells}
use Rattle.netset_commands.specs.Commands.{AreTold}
use Rattle.netset_commands.specs.Keeping.{AreGoodBytes, AreGoodKept, AreKept, HasTold, IsAny, IsBegun, IsGivenBy, IsLoadError, KeepsList, good_bytes, lined, list_named}
use Rattle.cidr_lists.specs.Faults.{AreTellings}
use Rattle.cidr_lists.specs.Lists.{Text, lines_of}
use Rattle.netset_commands.specs.Loading.{AreListsLoaded, IsUnloaded}
use Rattle.netset_commands.specs.Matching.{is_word}
use Rattle.netset_commands.specs.declared.errors.CommandError.{CommandError}
use Rattle.netset_commands.specs.declared.errors.CommandError.TheVariants as error
use Rattle.netset_commands.specs.declared.input.keeping.Kept.{Kept}
use Rattle.cidr_lists.specs.declared.forms.ListKind.{ListKind}
use Rattle.netset_commands.proofs.Arguments.{bytes_of, same_length, same_text, within_bytes}
use Rattle.netset_commands.proofs.EachFile.{last_told, next_taken}
use Rattle.netset_commands.proofs.Telling.{none_of, tellings_behind, tells_more, tells_nothing}
use Rattle.netset_commands.proofs.Zips.{zip_behind}

nothing_to_tell : (contents : List ℕ → Option Text) (kind : ListKind) (texts : List Text) → AreTold contents [] texts → AreTellings kind [] texts []
nothing_to_tell contents kind [] h = refl
nothing_to_tell contents kind (text ∷ texts) h = absurd h

pub none_told : (contents : List ℕ → Option Text) (kind : ListKind) (s : State) → HasTold contents kind [] s s []
none_told contents kind s = (tells_nothing s, nothing_to_tell contents kind)

pub none_begun : (contents : List ℕ → Option Text) (kind : ListKind) (names : List (List ℕ)) → IsBegun contents kind names []
none_begun contents kind [] = refl
none_begun contents kind (name ∷ names) = λ text is. ([], lines_of text.bytes, refl, [], refl, refl)

pub none_loaded : (takes skips : Bool) (contents : List ℕ → Option Text) (kind : ListKind) (s : State) (lists : List Kept) → lists ≡ []
    → AreListsLoaded takes skips contents kind [] s s lists false
none_loaded takes skips contents kind s lists none = (
  [],
  none_told (lined takes contents) kind s,
  refl,
  λ _. subst (AreKept contents) (sym none) tt,
  λ _. subst (AreGoodKept takes contents kind []) (sym none) tt,
)

any_more : (a b : Bool) (xs ys : List ℕ) → IsAny a xs → IsAny b ys → IsAny (a || b) (xs ++ ys)
any_more true b [] ys h k = absurd (h refl)
any_more true b (x ∷ xs) ys h k = λ e. cc
any_more false true xs ys h k = λ e. k (sym (ap (λ (l : List ℕ). l ++ ys) h) ∙ e)
any_more false false xs ys h k = ap (λ (l : List ℕ). l ++ ys) h ∙ k

-- what is kept of one list more
one_kept : (contents : List ℕ → Option Text) (lists : List Kept) (last : Kept) → AreKept contents lists
    → ((text : Text) → contents last.name.now ≡ Some text → IsGivenBy text last.given) → AreKept contents (lists ++ last ∷ [])
one_kept contents [] last h here = (here, tt)
one_kept contents (first ∷ lists) last h here = (h.0, one_kept contents lists last h.1 here)

-- that of the first list of a name
module _ (contents : List ℕ → Option Text) (name : List ℕ) where
  abbrev IsGiven : Kept → Type 0
  IsGiven list = (text : Text) → contents name ≡ Some text → IsGivenBy text list.given

  here_or_later : (here : Bool) (list : Kept) (later : Option Kept) → (here ≡ true → IsGiven list) → IfSome later IsGiven → IfSome (cond here (Some list) later) IsGiven
  here_or_later true list later this others = this refl
  here_or_later false list later this others = others

  given_first : (lists : List Kept) → AreKept contents lists → IfSome (list_named name lists) IsGiven
  given_first [] h = tt
  given_first (list ∷ lists) h =
      here_or_later (is_word name list.name.now) list (list_named name lists)
      (λ is text at. h.0 text (ap contents (same_text list.name.now name (sym is)) ∙ at)) (given_first lists h.1)

  pub given_named : (lists : List Kept) (list : Kept) → AreKept contents lists → Some list ≡ list_named name lists → (text : Text) → contents name ≡ Some text
      → IsGivenBy text list.given
  given_named lists list h is = subst (λ (k : Option Kept). IfSome k IsGiven) (sym is) (given_first lists h)

-- one list more
module _ (takes skips : Bool) (contents : List ℕ → Option Text) (kind : ListKind) (names : List (List ℕ)) (name : List ℕ) (s t u : State) (lists : List Kept) (found bad : Bool)
    (last : Kept) (loaded : AreListsLoaded takes skips contents kind names s t lists found)
    (kept : KeepsList takes (contents name) kind name skips t u (Ok (last, bad))) where
  told_behind : (texts : List Text) → AreTold (lined takes contents) (names ++ name ∷ []) texts → AreTellings kind (names ++ name ∷ []) texts (loaded.0 ++ kept.0)
  told_behind texts h =
      let (front, text, is, are, here) = last_told (lined takes contents) names name texts h in
      let (errors, are_errors, same) = kept.3 text here in
      subst (λ (k : List Text). AreTellings kind (names ++ name ∷ []) k (loaded.0 ++ kept.0)) (sym is)
      (subst (λ (k : List ℕ). AreTellings kind (names ++ name ∷ []) (front ++ text ∷ []) (loaded.0 ++ k)) (sym same)
      (tellings_behind kind names front name text loaded.0 errors (loaded.1.1 front are) are_errors))

  list_loaded : AreListsLoaded takes skips contents kind (names ++ name ∷ []) s u (lists ++ last ∷ []) (found || bad)
  list_loaded = (
    loaded.0 ++ kept.0,
    (tells_more s t u loaded.0 kept.0 loaded.1.0 kept.1, told_behind),
    any_more found bad loaded.0 kept.0 loaded.2 kept.2,
    λ none.
        let both = none_of found bad none in
        one_kept contents lists last (loaded.3 both.0) (λ text is. kept.4 both.1 text (ap contents (sym kept.6) ∙ is)),
    λ skip.
        zip_behind (λ (n : List ℕ) (list : Kept). (list.name.now ≡ n) × AreGoodBytes takes kind (contents n) (good_bytes list)) names lists name last
        (loaded.4 skip) (kept.6, kept.5 skip),
  )

-- the same of files by their names
module _ (takes skips : Bool) (contents : List ℕ → Option Text) (kind : ListKind) (files : List (Bor (List ℕ))) (i : ℕ) (d : Bor (List ℕ)) (s t : State) (lists : List Kept) (found : Bool)
    (within : i < length files) (loaded : AreListsLoaded takes skips contents kind (take i (bytes_of files)) s t lists found) where
  abbrev names : List (List ℕ)
  names = bytes_of files

  abbrev name : List ℕ
  name = (get_or files i d).now

  is_named : get_or names i name ≡ name
  is_named = get_or-map (λ (w : Bor (List ℕ)). w.now) files i d name within

  pub file_loaded : (u : State) (bad : Bool) (last : Kept) → KeepsList takes (contents name) kind name skips t u (Ok (last, bad))
      → AreListsLoaded takes skips contents kind (take (i + 1) names) s u (lists ++ last ∷ []) (found || bad)
  file_loaded u bad last kept =
      subst (λ (k : List (List ℕ)). AreListsLoaded takes skips contents kind k s u (lists ++ last ∷ []) (found || bad))
      (sym (next_taken names i name (within_bytes files i within) is_named))
      (list_loaded takes skips contents kind (take i names) name s t u lists found bad last loaded kept)

  next_name : drop i names ≡ name ∷ drop (i + 1) names
  next_name =
      at_drop_more (λ k. k) names i name (within_bytes files i within) ∙ ap (λ (k : List ℕ). k ∷ drop (i + 1) names) is_named

  error_at : (e : CommandError) → IsLoadError (name ∷ []) e → IsLoadError (drop i names) e
  error_at (error.Argument text e) h = h
  error_at (error.Line file number e) h = h
  error_at (error.Input file why) (after, is) =
      let same : name ≡ file.now = cc in
      (drop (i + 1) names, next_name ∙ ap (λ (k : List ℕ). k ∷ drop (i + 1) names) same)
  error_at error.NoMemory h = h
  error_at error.Output h = h
  error_at (error.File file why) h = h

  pub file_unread : (u : State) (e : CommandError) → KeepsList takes (contents name) kind name skips t u (Err e) → IsUnloaded (lined takes contents) kind names s u e
  file_unread u e (lines, tells, why, part) = (
    take i names,
    drop i names,
    sym (take-append-drop i names),
    error_at e why,
    loaded.0,
    lines,
    tells_more s t u loaded.0 lines loaded.1.0 tells,
    loaded.1.1,
    subst (λ (k : List (List ℕ)). IsBegun (lined takes contents) kind k lines) (sym next_name) part,
  )

-- there is no memory for a list that was read
pub not_kept : (takes skips : Bool) (contents : List ℕ → Option Text) (kind : ListKind) (files : List (Bor (List ℕ))) (i : ℕ) (s t : State) (lists : List Kept) (found : Bool)
    → AreListsLoaded takes skips contents kind (take i (bytes_of files)) s t lists found → IsUnloaded (lined takes contents) kind (bytes_of files) s t error.NoMemory
not_kept takes skips contents kind files i s t lists found loaded = (
  take i (bytes_of files),
  drop i (bytes_of files),
  sym (take-append-drop i (bytes_of files)),
  tt,
  loaded.0,
  [],
  subst (Tells s t) (sym (append-nil loaded.0)) loaded.1.0,
  loaded.1.1,
  none_begun (lined takes contents) kind (drop i (bytes_of files)),
)

pub all_loaded : (takes skips : Bool) (contents : List ℕ → Option Text) (kind : ListKind) (files : List (Bor (List ℕ))) (i : ℕ) (s t : State) (lists : List Kept) (found : Bool)
    → length files ≤ i → AreListsLoaded takes skips contents kind (take i (bytes_of files)) s t lists found
    → AreListsLoaded takes skips contents kind (bytes_of files) s t lists found
all_loaded takes skips contents kind files i s t lists found past h =
    subst (λ (k : List (List ℕ)). AreListsLoaded takes skips contents kind k s t lists found) (take_all i (bytes_of files) (omega (arith, same_length files))) h
