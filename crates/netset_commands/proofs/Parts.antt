-- Words of a command line in their parts.
use Rattle.std.proofs.Common.{◌≡◌, refl, sym, ◌∙◌, ap, ℕ, ◌+◌, ◌<◌, ◌≤◌, cond, ◌&&◌, Bool, true, false, List, [], ◌∷◌, ◌++◌, length, take, drop, get_or, map, Bor, codes, nat_eq, arith, Result, Ok, Err, subst, MatchResult, ◌≢◌, ne_eqb}
use Rattle.std.proofs.lemmas.List.Sums.{position_or_len_is}
use Rattle.std.specs.List.{after_first, before_first, list_all, position_or_len, starts_with}
use Rattle.std.proofs.lemmas.Bool.{true≢false}
use Rattle.std.proofs.lemmas.List.{append-nil, append_assoc, drop_all, drop_more, get_or-map, length-map, map-append, take_all, take_more}
use Rattle.std.proofs.lemmas.List.Folds.{list_all_at}
use Rattle.netset_commands.specs.Arguments.{Parts, and_then, is_equals, is_option, is_topic, joined_arguments, letter_options, letter_parts, long_parts, misuse_text, named_value, no_option, no_parts, only_operand, only_options, only_value, parts_from, short_option, short_parts, takes, topic_parts, word_parts}
use Rattle.netset_commands.specs.Command.{AddsParts, IsUsageError}
use Rattle.netset_commands.specs.Matching.{is_word}
use Rattle.netset_commands.specs.Table.{name_of, takes_value, texts}
use Rattle.netset_commands.specs.declared.commands.arguments.Next.{Next}
use Rattle.netset_commands.specs.declared.commands.arguments.Next.TheVariants.{Any, Value, Operand}
use Rattle.netset_commands.specs.declared.commands.table.Verb.{Verb}
use Rattle.netset_commands.specs.declared.errors.Misfit.TheVariants.{Missing}
use Rattle.netset_commands.specs.declared.errors.UsageError.{UsageError}
use Rattle.netset_commands.specs.declared.errors.UsageError.TheVariants as wrong

-- ---- parts joined
abbrev parts_by : List (List ℕ) → List (List ℕ) → List (List ℕ) → Parts
parts_by options values operands = record { options = options; values = values; operands = operands }

same_parts : (o v w a b c : List (List ℕ)) → o ≡ a → v ≡ b → w ≡ c → parts_by o v w ≡ parts_by a b c
same_parts o v w a b c x y z =
    ap (λ (k : List (List ℕ)). parts_by k v w) x ∙ (ap (λ (k : List (List ℕ)). parts_by a k w) y ∙ ap (λ (k : List (List ℕ)). parts_by a b k) z)

pub none_behind : (p : Parts) → joined_arguments p no_parts ≡ p
none_behind p =
    same_parts (p.options ++ []) (p.values ++ []) (p.operands ++ []) p.options p.values p.operands (append-nil p.options) (append-nil p.values) (append-nil p.operands)

joined_assoc : (a b c : Parts) → joined_arguments (joined_arguments a b) c ≡ joined_arguments a (joined_arguments b c)
joined_assoc a b c =
    same_parts ((a.options ++ b.options) ++ c.options) ((a.values ++ b.values) ++ c.values) ((a.operands ++ b.operands) ++ c.operands)
    (a.options ++ (b.options ++ c.options)) (a.values ++ (b.values ++ c.values)) (a.operands ++ (b.operands ++ c.operands))
    (append_assoc a.options b.options c.options) (append_assoc a.values b.values c.values) (append_assoc a.operands b.operands c.operands)

-- one word more
texts_pushed : (words more : List (Bor (List ℕ))) (w : Bor (List ℕ)) → more ≡ words ++ w ∷ [] → texts more ≡ texts words ++ w.now ∷ []
texts_pushed words more w is = ap texts is ∙ map-append (λ (k : Bor (List ℕ)). k.now) words (w ∷ [])

module _ (options values operands more : List (Bor (List ℕ))) (w : Bor (List ℕ)) where
  pub option_pushed : more ≡ options ++ w ∷ [] → parts_by (texts more) (texts values) (texts operands) ≡ joined_arguments (parts_by (texts options) (texts values) (texts operands))
      (only_options (w.now ∷ []))
  option_pushed is =
      same_parts (texts more) (texts values) (texts operands) (texts options ++ w.now ∷ []) (texts values ++ []) (texts operands ++ [])
      (texts_pushed options more w is) (sym (append-nil (texts values))) (sym (append-nil (texts operands)))

  pub value_pushed : more ≡ values ++ w ∷ [] → parts_by (texts options) (texts more) (texts operands) ≡ joined_arguments (parts_by (texts options) (texts values) (texts operands)) (only_value w.now)
  value_pushed is =
      same_parts (texts options) (texts more) (texts operands) (texts options ++ []) (texts values ++ w.now ∷ []) (texts operands ++ [])
      (sym (append-nil (texts options))) (texts_pushed values more w is) (sym (append-nil (texts operands)))

  pub operand_pushed : more ≡ operands ++ w ∷ [] → parts_by (texts options) (texts values) (texts more) ≡ joined_arguments
      (parts_by (texts options) (texts values) (texts operands)) (only_operand w.now)
  operand_pushed is =
      same_parts (texts options) (texts values) (texts more) (texts options ++ []) (texts values ++ []) (texts operands ++ w.now ∷ [])
      (sym (append-nil (texts options))) (sym (append-nil (texts values))) (texts_pushed operands more w is)

-- an option and its value
pub pair_pushed : (options values more both operands : List (Bor (List ℕ))) (name value : Bor (List ℕ)) → more ≡ values ++ name ∷ []
    → both ≡ more ++ value ∷ []
    → parts_by (texts options) (texts both) (texts operands) ≡ joined_arguments (parts_by (texts options) (texts values) (texts operands)) (named_value name.now value.now)
pair_pushed options values more both operands name value first second =
    same_parts (texts options) (texts both) (texts operands) (texts options ++ []) (texts values ++ name.now ∷ value.now ∷ []) (texts operands ++ [])
    (sym (append-nil (texts options)))
    (texts_pushed more both value second
    ∙ (ap (λ (k : List (List ℕ)). k ++ value.now ∷ []) (texts_pushed values more name first)
    ∙ append_assoc (texts values) (name.now ∷ []) (value.now ∷ [])))
    (sym (append-nil (texts operands)))

-- ---- what a word adds
pub if_true : {X : Type 0} (b : Bool) (x y : X) → b ≡ true → cond b x y ≡ x
if_true true x y h = refl
if_true false x y h = absurd (true≢false (sym h))

pub if_false : {X : Type 0} (b : Bool) (x y : X) → b ≡ false → cond b x y ≡ y
if_false true x y h = absurd (true≢false h)
if_false false x y h = refl

module _ (verb : Verb) (word : List ℕ) where
  pub end_word : is_word (codes "--") word ≡ true → word_parts verb Any word ≡ Ok (no_parts, Operand)
  end_word is = if_true (is_word (codes "--") word) _ _ is

  pub operand_word : is_word (codes "--") word ≡ false → is_option word ≡ false → word_parts verb Any word ≡ Ok (only_operand word, Any)
  operand_word is none = if_false (is_word (codes "--") word) _ _ is ∙ if_false (is_option word) _ _ none

  pub long_word : is_word (codes "--") word ≡ false → is_option word ≡ true → starts_with nat_eq word (codes "--") ≡ true
      → word_parts verb Any word ≡ long_parts verb word
  long_word is some long =
      if_false (is_word (codes "--") word) _ _ is ∙ (if_true (is_option word) _ _ some ∙ if_true (starts_with nat_eq word (codes "--")) _ _ long)

  pub short_word : is_word (codes "--") word ≡ false → is_option word ≡ true → starts_with nat_eq word (codes "--") ≡ false
      → word_parts verb Any word ≡ short_parts verb word
  short_word is some long =
      if_false (is_word (codes "--") word) _ _ is ∙ (if_true (is_option word) _ _ some ∙ if_false (starts_with nat_eq word (codes "--")) _ _ long)

  pub short_value : takes_value verb word ≡ true → short_parts verb word ≡ Ok (only_value word, Value)
  short_value is = if_true (takes_value verb word) _ _ is

  pub letter_word : takes_value verb word ≡ false → short_parts verb word ≡ letter_parts verb word
  letter_word none = if_false (takes_value verb word) _ _ none

  pub long_option : takes verb word ≡ true → long_parts verb word ≡ Ok (only_options (word ∷ []), Any)
  long_option is = if_true (takes verb word) _ _ is

  pub before_value : takes verb word ≡ false → takes_value verb word ≡ true → long_parts verb word ≡ Ok (only_value word, Value)
  before_value none is = if_false (takes verb word) _ _ none ∙ if_true (takes_value verb word) _ _ is

  pub with_value : takes verb word ≡ false → takes_value verb word ≡ false → takes_value verb (before_first is_equals word) ≡ true
      → long_parts verb word ≡ Ok (named_value (before_first is_equals word) (after_first is_equals word), Any)
  with_value none off is =
      if_false (takes verb word) _ _ none ∙ (if_false (takes_value verb word) _ _ off ∙ if_true (takes_value verb (before_first is_equals word)) _ _ is)

  pub without_value : takes verb word ≡ false → takes_value verb word ≡ false → takes_value verb (before_first is_equals word) ≡ false
      → long_parts verb word ≡ topic_parts verb word
  without_value none off is =
      if_false (takes verb word) _ _ none ∙ (if_false (takes_value verb word) _ _ off ∙ if_false (takes_value verb (before_first is_equals word)) _ _ is)

  pub topic : is_topic verb word ≡ true → topic_parts verb word ≡ Ok (only_operand word, Any)
  topic is = if_true (is_topic verb word) _ _ is

  pub no_topic : is_topic verb word ≡ false → topic_parts verb word ≡ no_option verb word
  no_topic none = if_false (is_topic verb word) _ _ none

  -- without = there is no value
  pub no_equals : position_or_len is_equals word ≡ length word → takes_value verb word ≡ false → takes_value verb (before_first is_equals word) ≡ false
  no_equals none off = ap (takes_value verb) (take_all (position_or_len is_equals word) word (omega (arith, none))) ∙ off

-- a word none of whose bytes is =
pub without_equals : (word : List ℕ) → ((i : ℕ) → i < length word → get_or word i 0 ≢ 61) → position_or_len is_equals word ≡ length word
without_equals word lacks =
    position_or_len_is is_equals word (length word) 0 (omega arith) (λ k within. ne_eqb (get_or word k 0) 61 (lacks k within)) (λ past. absurd (omega (arith, past)))

-- what is promised of other parts that are the same
pub error_of : {A : Type 0} (found other : Result A (List ℕ)) (refused : Bool) (e : UsageError) → found ≡ other → IsUsageError other refused e → IsUsageError found refused e
error_of {A} found other refused e is h = subst (λ (k : Result A (List ℕ)). IsUsageError k refused e) (sym is) h

pub added_as : (found other : Result (Parts × Next) (List ℕ)) (old new : Parts) (refused : Bool) (r : Result Next UsageError) → found ≡ other
    → MatchResult r (AddsParts old new other) (IsUsageError other refused) → MatchResult r (AddsParts old new found) (IsUsageError found refused)
added_as found other old new refused r is h =
    subst (λ (k : Result (Parts × Next) (List ℕ)). MatchResult r (AddsParts old new k) (IsUsageError k refused)) (sym is) h

-- ---- letters
-- these letters are options, and stand behind others
abbrev pub AreAdded : Verb → Parts → Parts → List ℕ → Type 0
AreAdded verb old new letters = (new ≡ joined_arguments old (only_options (map short_option letters))) × (list_all (takes verb) (map short_option letters) ≡ true)

pub no_letters : (verb : Verb) (old : Parts) → AreAdded verb old old []
no_letters verb old = (sym (none_behind old), refl)

pub and_first : (a b : Bool) → (a && b) ≡ true → a ≡ true
and_first true b h = refl
and_first false b h = h

pub and_second : (a b : Bool) → (a && b) ≡ true → b ≡ true
and_second true b h = h
and_second false b h = absurd (true≢false (sym h))

both_true : (a b : Bool) → a ≡ true → b ≡ true → (a && b) ≡ true
both_true a b h k = ap (λ (c : Bool). c && b) h ∙ k

letters_taken : (letters : List ℕ) (i : ℕ) → i < length letters → map short_option (take (i + 1) letters) ≡ map short_option (take i letters) ++ short_option (get_or letters i 0) ∷ []
letters_taken letters i within = ap (map short_option) (take_more letters i 0 within) ∙ map-append short_option (take i letters) (get_or letters i 0 ∷ [])

all_and : {X : Type 0} (p : X → Bool) (xs : List X) (y : X) → list_all p xs ≡ true → p y ≡ true → list_all p (xs ++ y ∷ []) ≡ true
all_and p [] y all here = both_true (p y) true here refl
all_and p (x ∷ xs) y all here =
    both_true (p x) (list_all p (xs ++ y ∷ [])) (and_first (p x) (list_all p xs) all) (all_and p xs y (and_second (p x) (list_all p xs) all) here)

pub letters_more : (verb : Verb) (old now new : Parts) (letters : List ℕ) (i : ℕ) → i < length letters → AreAdded verb old now (take i letters)
    → takes verb (short_option (get_or letters i 0)) ≡ true → new ≡ joined_arguments now (only_options (short_option (get_or letters i 0) ∷ []))
    → AreAdded verb old new (take (i + 1) letters)
letters_more verb old now new letters i within (are, all) here more = (
  more
      ∙ (ap (λ (k : Parts). joined_arguments k (only_options (short_option (get_or letters i 0) ∷ []))) are
      ∙ (joined_assoc old (only_options (map short_option (take i letters))) (only_options (short_option (get_or letters i 0) ∷ []))
      ∙ ap (λ (k : List (List ℕ)). joined_arguments old (only_options k)) (sym (letters_taken letters i within)))),
  ap (list_all (takes verb)) (letters_taken letters i within) ∙ all_and (takes verb) (map short_option (take i letters)) (short_option (get_or letters i 0)) all here,
)

pub letters_end : (verb : Verb) (old new : Parts) (word letters : List ℕ) (i : ℕ) → letters ≡ drop 1 word → length letters ≤ i → AreAdded verb old new (take i letters)
    → AddsParts old new (letter_parts verb word) Any
letters_end verb old new word letters i are past (is, all) =
    let whole : map short_option (take i letters) ≡ letter_options word = ap (map short_option) (take_all i letters past ∙ are) in (
      only_options (letter_options word),
      if_true (list_all (takes verb) (letter_options word)) _ _ (ap (list_all (takes verb)) (sym whole) ∙ all),
      is ∙ ap (λ (k : List (List ℕ)). joined_arguments old (only_options k)) whole,
    )

pub no_letter : (verb : Verb) (word letters : List ℕ) (i : ℕ) → letters ≡ drop 1 word → i < length letters → takes verb (short_option (get_or letters i 0)) ≡ false
    → letter_parts verb word ≡ no_option verb word
no_letter verb word letters i are within none =
    let inside : i < length (map short_option letters) = omega (arith, length-map letters short_option) in
    if_false (list_all (takes verb) (letter_options word)) _ _
    (ap (λ (k : List ℕ). list_all (takes verb) (map short_option k)) (sym are)
    ∙ list_all_at (takes verb) (map short_option letters) i [] inside (ap (takes verb) (get_or-map short_option letters i 0 [] within) ∙ none))

-- ---- words
-- parts before others
abbrev pub behind : Parts → Result Parts (List ℕ) → Result Parts (List ℕ)
behind front found = and_then found (λ rest. Ok (joined_arguments front rest))

pub behind_none : (found : Result Parts (List ℕ)) → found ≡ behind no_parts found
behind_none (Ok parts) = refl
behind_none (Err line) = refl

behind_both : (a b : Parts) (found : Result Parts (List ℕ)) → behind a (behind b found) ≡ behind (joined_arguments a b) found
behind_both a b (Ok parts) = ap (λ (k : Parts). Ok k) (sym (joined_assoc a b parts))
behind_both a b (Err line) = refl

-- the words of a verb, from a place on
abbrev pub Left : Verb → List (Bor (List ℕ)) → ℕ → Parts → Next → Type 0
Left verb words i front next = parts_from verb (texts words) Any ≡ behind front (parts_from verb (texts (drop i words)) next)

pub all_left : (verb : Verb) (words : List (Bor (List ℕ))) (front : Parts) → front ≡ no_parts → Left verb words 0 front Any
all_left verb words front none = behind_none (parts_from verb (texts words) Any) ∙ ap (λ (k : Parts). behind k (parts_from verb (texts words) Any)) (sym none)

module _ (verb : Verb) (words : List (Bor (List ℕ))) (i : ℕ) (d : Bor (List ℕ)) (front : Parts) (next : Next) (within : i < length words) (left : Left verb words i front next) where
  abbrev word_at : List ℕ
  word_at = (get_or words i d).now

  abbrev others : List (List ℕ)
  others = texts (drop (i + 1) words)

  at_word : parts_from verb (texts words) Any ≡ behind front (parts_from verb (word_at ∷ others) next)
  at_word = left ∙ ap (λ (k : List (Bor (List ℕ))). behind front (parts_from verb (texts k) next)) (drop_more words i d within)

  pub word_left : (new : Parts) (then_next : Next) → AddsParts front new (word_parts verb next word_at) then_next → Left verb words (i + 1) new then_next
  word_left new then_next (one, is, added) =
      at_word
      ∙ (ap (λ (r : Result (Parts × Next) (List ℕ)). behind front (and_then r (λ one. and_then (parts_from verb others one.1) (λ rest. Ok (joined_arguments one.0 rest))))) is
      ∙ (behind_both front one (parts_from verb others then_next) ∙ ap (λ (k : Parts). behind k (parts_from verb others then_next)) (sym added)))

  pub word_wrong : (refused : Bool) (e : UsageError) → IsUsageError (word_parts verb next word_at) refused e → IsUsageError (parts_from verb (texts words) Any) refused e
  word_wrong refused (wrong.Misuse misuse) is =
      at_word ∙ ap (λ (r : Result (Parts × Next) (List ℕ)). behind front (and_then r (λ one. and_then (parts_from verb others one.1) (λ rest. Ok (joined_arguments one.0 rest))))) is
  word_wrong refused wrong.NoMemory is = is

module _ (verb : Verb) (words : List (Bor (List ℕ))) (i : ℕ) (front : Parts) (next : Next) (past : length words ≤ i) (left : Left verb words i front next) where
  at_end : parts_from verb (texts words) Any ≡ behind front (parts_from verb [] next)
  at_end = left ∙ ap (λ (k : List (Bor (List ℕ))). behind front (parts_from verb (texts k) next)) (drop_all i words past)

  pub value_missing : next ≡ Value → parts_from verb (texts words) Any ≡ Err (misuse_text (codes "VALUE") Missing (name_of verb))
  value_missing is = at_end ∙ ap (λ (k : Next). behind front (parts_from verb [] k)) is

  pub any_left : next ≡ Any → parts_from verb (texts words) Any ≡ Ok front
  any_left is = at_end ∙ (ap (λ (k : Next). behind front (parts_from verb [] k)) is ∙ ap (λ (k : Parts). Ok k) (none_behind front))

  pub operand_left : next ≡ Operand → parts_from verb (texts words) Any ≡ Ok front
  operand_left is = at_end ∙ (ap (λ (k : Next). behind front (parts_from verb [] k)) is ∙ ap (λ (k : Parts). Ok k) (none_behind front))
