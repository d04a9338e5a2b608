-- Requests as they are typed are read as these requests.
use Rattle.std.proofs.Common.{◌≡◌, ◌⊎◌, refl, sym, ◌∙◌, ap, subst, arith, inl, inr, ℕ, ◌+◌, ◌^◌, ◌<◌, ◌≤◌, decimal, Bool, true, false, if◌then◌else◌, ◌||◌, ◌&&◌, List, [], ◌∷◌, ◌++◌, codes, slice_get, append-nil, Option, Some, None, ok_or, Result, Ok, map}
use Rattle.std.specs.List.{list_all, list_any}
use Rattle.std.proofs.lemmas.Bool.{true≢false}
use Rattle.cidr.specs.declared.family.Family.TheVariants.{Ipv4, Ipv6}
use Rattle.cidr_lists.specs.Forms.{HasNumbers}
use Rattle.cidr_lists.specs.Formats.{IsBare, Style, format_name, line_style}
use Rattle.cidr_lists.specs.Rules.{Question, Permitted, Shadowed, Compared}
use Rattle.cidr_lists.specs.declared.columns.Column.{Column}
use Rattle.cidr_lists.specs.declared.columns.Separator.{Separator}
use Rattle.cidr_lists.specs.declared.columns.Separator.TheVariants.{WhiteSpace, Byte}
use Rattle.cidr_lists.specs.declared.formats.LineFormat.TheVariants as by_line
use Rattle.cidr_lists.specs.declared.formats.LineFormat.{LineFormat}
use Rattle.cidr_lists.specs.declared.forms.RowForm.{RowForm}
use Rattle.cidr_lists.specs.declared.forms.RowLayout.{RowLayout}
use Rattle.cidr_lists.specs.declared.records.ListForm.{ListForm}
use Rattle.cidr_lists.specs.declared.records.ListForm.TheVariants.{Networks}
use Rattle.cidr_lists.specs.declared.forms.RowLayout.TheVariants.{Fields, Columns, Pfx2as, Routes}
use Rattle.netset_commands.specs.Arguments.{Parts, and_then, question_by, asks_help, column_at, column_by, counted_request, extra_operand, field_by, field_in, form_in, is_option, joined_arguments, length_by, line_request, list_form_by, list_form_in, lists_request, match_by, may_keep, misuse_text, most_by, named_verb, only_operand, only_options, only_value, operand_or, part_request, parts_from, read_request, reading_in, reads_tables, style_in_values, takes, target_by, value_behind, option_value, verb_request, word_parts}
use Rattle.netset_commands.specs.Commands.{Request, Lists, Styled, NotIn, Diff, Same, Free, Acl, Split, Check, Which, Match, MatchEach, Look, Compile, Smallest, Describe, Class, Single, Help, Version, bits_of, input_name, reading_of}
use Rattle.netset_commands.specs.Free.{IsMost}
use Rattle.netset_commands.specs.Matching.{has, is_word}
use Rattle.netset_commands.specs.Picking.{IsFieldPlace, picking_of, seeking_of}
use Rattle.netset_commands.specs.Single.{IsNumber, Show, Nth}
use Rattle.netset_commands.specs.Table.{commands, name_of, command_row, takes_value}
use Rattle.netset_commands.specs.Typed.{AreTyped, IsField, IsTyped, field_words, layout_words, separator_words, style_words}
use Rattle.netset_commands.specs.declared.commands.arguments.Next.{Next}
use Rattle.netset_commands.specs.declared.commands.arguments.Next.TheVariants.{Any, Value}
use Rattle.netset_commands.specs.declared.commands.describe.Description.TheVariants.{Zones, Masks}
use Rattle.netset_commands.specs.declared.commands.operations.Operation.{Operation}
use Rattle.netset_commands.specs.declared.commands.operations.Operation.TheVariants.{Merge, Minus, And, Not, Ranges}
use Rattle.netset_commands.specs.declared.commands.operations.Operation.TheVariants as of_lists
use Rattle.netset_commands.specs.declared.commands.picking.Picking.{Picking}
use Rattle.netset_commands.specs.declared.commands.picking.Seeking.{Seeking}
use Rattle.netset_commands.specs.declared.commands.table.Verb.{Verb}
use Rattle.netset_commands.specs.declared.commands.table.Verb.TheVariants as verb
use Rattle.netset_commands.specs.declared.errors.Misfit.TheVariants.{NoCount, NoLength}
use Rattle.netset_commands.proofs.Arguments.{same_text}
use Rattle.netset_commands.proofs.FieldNumbers.{fields_typed, number_some, place_told}
use Rattle.netset_commands.proofs.Parts.{and_first, and_second, before_value, if_false, long_word, operand_word}
use Rattle.netset_commands.proofs.Running.{read_one}
use Rattle.netset_commands.proofs.Telling.{none_of}
use Rattle.netset_commands.proofs.Values.{inside_request, style_found, styled_request}

-- options, values and operands
abbrev parts_with : List (List ℕ) → List (List ℕ) → List (List ℕ) → Parts
parts_with options values operands = record { options = options; values = values; operands = operands }

-- ---- operands
no_end : (word : List ℕ) (b : Bool) → is_word (codes "--") word ≡ b → is_option word ≡ false → b ≡ false
no_end word true same none = absurd (true≢false (sym (ap is_option (same_text word (codes "--") (sym same))) ∙ none))
no_end word false same none = refl

-- a word, and what stands behind it
one_more : (command : Verb) (word : List ℕ) (words : List (List ℕ)) (one rest : Parts) → word_parts command Any word ≡ Ok (one, Any)
    → parts_from command words Any ≡ Ok rest → parts_from command (word ∷ words) Any ≡ Ok (joined_arguments one rest)
one_more command word words one rest is others =
    ap (λ (r : Result (Parts × Next) (List ℕ)). and_then r (λ first. and_then (parts_from command words first.1) (λ more. Ok (joined_arguments first.0 more)))) is
    ∙ ap (λ (r : Result Parts (List ℕ)). and_then r (λ more. Ok (joined_arguments one more))) others

operands_alone : (command : Verb) (words : List (List ℕ)) → list_any is_option words ≡ false → parts_from command words Any ≡ Ok (parts_with [] [] words)
operands_alone command [] none = refl
operands_alone command (word ∷ words) none =
    let (here, others) = none_of (is_option word) (list_any is_option words) none in
    one_more command word words (only_operand word) (parts_with [] [] words) (operand_word command word (no_end word (is_word (codes "--") word) refl here) here)
    (operands_alone command words others)

-- an option with its value before them
behind_value : (command : Verb) (name value : List ℕ) (files : List (List ℕ)) → word_parts command Any name ≡ Ok (only_value name, Value)
    → list_any is_option files ≡ false → parts_from command (name ∷ value ∷ files) Any ≡ Ok (parts_with [] (name ∷ value ∷ []) files)
behind_value command name value files is none =
    ap (λ (r : Result (Parts × Next) (List ℕ)). and_then r (λ one. and_then (parts_from command (value ∷ files) one.1) (λ rest. Ok (joined_arguments one.0 rest)))) is
    ∙ ap (λ (r : Result Parts (List ℕ)). and_then (and_then r (λ more. Ok (joined_arguments (only_value value) more))) (λ more. Ok (joined_arguments (only_value name) more)))
    (operands_alone command files none)

-- the same before another one
behind_values : (command : Verb) (name value : List ℕ) (valued files : List (List ℕ)) → word_parts command Any name ≡ Ok (only_value name, Value)
    → parts_from command (valued ++ files) Any ≡ Ok (parts_with [] valued files)
    → parts_from command (name ∷ value ∷ (valued ++ files)) Any ≡ Ok (parts_with [] (name ∷ value ∷ valued) files)
behind_values command name value valued files is rest =
    ap (λ (r : Result (Parts × Next) (List ℕ)). and_then r (λ one. and_then (parts_from command (value ∷ (valued ++ files)) one.1) (λ more. Ok (joined_arguments one.0 more)))) is
    ∙ ap (λ (r : Result Parts (List ℕ)). and_then (and_then r (λ more. Ok (joined_arguments (only_value value) more))) (λ more. Ok (joined_arguments (only_value name) more))) rest

-- an operation has the option --format
has_format : (operation : Operation) → takes_value (verb.Lists operation) (codes "--format") ≡ true
    → word_parts (verb.Lists operation) Any (codes "--format") ≡ Ok (only_value (codes "--format"), Value)
has_format operation takes =
    long_word (verb.Lists operation) (codes "--format") refl refl refl ∙ before_value (verb.Lists operation) (codes "--format") refl takes

-- a style before them
behind_style : (command : Verb) (style : Option Style) (operands : List (List ℕ))
    → word_parts command Any (codes "--format") ≡ Ok (only_value (codes "--format"), Value) → list_any is_option operands ≡ false
    → parts_from command (style_words style ++ operands) Any ≡ Ok (parts_with [] (style_words style) operands)
behind_style command None operands is none = operands_alone command operands none
behind_style command (Some style) operands is none = behind_value command (codes "--format") (format_name style.format) operands is none

behind_format : (format : LineFormat) (operands : List (List ℕ)) → list_any is_option operands ≡ false
    → parts_from verb.Look (style_words (line_style format) ++ operands) Any ≡ Ok (parts_with [] (style_words (line_style format)) operands)
behind_format format operands none = behind_style verb.Look (line_style format) operands refl none

-- the options that tell a field before them, of a command that has them
abbrev HasFields : Verb → Type 0
HasFields command = (word_parts command Any (codes "--field") ≡ Ok (only_value (codes "--field"), Value))
    × (word_parts command Any (codes "--separator") ≡ Ok (only_value (codes "--separator"), Value))

-- those of a field, with what parts it from others
abbrev parted_words : List ℕ → Separator → List (List ℕ)
parted_words number separator = codes "--field" ∷ number ∷ separator_words (codes "--separator") separator

-- these before other words
behind_parted : (command : Verb) (number : List ℕ) (separator : Separator) (valued operands : List (List ℕ)) → HasFields command
    → parts_from command (valued ++ operands) Any ≡ Ok (parts_with [] valued operands)
    → parts_from command ((parted_words number separator ++ valued) ++ operands) Any ≡ Ok (parts_with [] (parted_words number separator ++ valued) operands)
behind_parted command number WhiteSpace valued operands has is = behind_values command (codes "--field") number valued operands has.0 is
behind_parted command number (Byte byte) valued operands has is =
    behind_values command (codes "--field") number (codes "--separator" ∷ (byte ∷ []) ∷ valued) operands has.0
    (behind_values command (codes "--separator") (byte ∷ []) valued operands has.1 is)

behind_field : (command : Verb) (number : List ℕ) (column : Option Column) (valued operands : List (List ℕ)) → HasFields command
    → parts_from command (valued ++ operands) Any ≡ Ok (parts_with [] valued operands)
    → parts_from command ((field_words number column ++ valued) ++ operands) Any ≡ Ok (parts_with [] (field_words number column ++ valued) operands)
behind_field command number None valued operands has is = is
behind_field command number (Some column) valued operands has is = behind_parted command number column.separator valued operands has is

only_field : (command : Verb) (number : List ℕ) (column : Option Column) (operands : List (List ℕ)) → HasFields command → list_any is_option operands ≡ false
    → parts_from command (field_words number column ++ operands) Any ≡ Ok (parts_with [] (field_words number column) operands)
only_field command number column operands has none =
    subst (λ (k : List (List ℕ)). parts_from command (k ++ operands) Any ≡ Ok (parts_with [] k operands)) (append-nil (field_words number column))
    (behind_field command number column [] operands has (operands_alone command operands none))

-- the options that tell how rows are read, of a command that has them
abbrev HasForms : Verb → Type 0
HasForms command = (word_parts command Any (codes "--form") ≡ Ok (only_value (codes "--form"), Value))
    × (word_parts command Any (codes "--table-separator") ≡ Ok (only_value (codes "--table-separator"), Value))
    × (word_parts command Any (codes "--table-fields") ≡ Ok (only_value (codes "--table-fields"), Value))

-- the words that tell two fields
abbrev columns_words : Separator → List ℕ → List (List ℕ)
columns_words separator numbers = separator_words (codes "--table-separator") separator ++ codes "--table-fields" ∷ numbers ∷ []

behind_columns : (command : Verb) (separator : Separator) (numbers : List ℕ) (valued operands : List (List ℕ)) → HasForms command
    → parts_from command (valued ++ operands) Any ≡ Ok (parts_with [] valued operands)
    → parts_from command ((columns_words separator numbers ++ valued) ++ operands) Any ≡ Ok (parts_with [] (columns_words separator numbers ++ valued) operands)
behind_columns command WhiteSpace numbers valued operands has is = behind_values command (codes "--table-fields") numbers valued operands has.2 is
behind_columns command (Byte c) numbers valued operands has is =
    behind_values command (codes "--table-separator") (c ∷ []) (codes "--table-fields" ∷ numbers ∷ valued) operands has.1
    (behind_values command (codes "--table-fields") numbers valued operands has.2 is)

behind_layout : (command : Verb) (layout : RowLayout) (valued operands : List (List ℕ)) → HasForms command
    → parts_from command (valued ++ operands) Any ≡ Ok (parts_with [] valued operands)
    → parts_from command ((layout_words layout ++ valued) ++ operands) Any ≡ Ok (parts_with [] (layout_words layout ++ valued) operands)
behind_layout command (Fields WhiteSpace) valued operands has is = is
behind_layout command (Fields (Byte c)) valued operands has is = behind_values command (codes "--table-separator") (c ∷ []) valued operands has.1 is
behind_layout command (Columns columns) valued operands has is =
    behind_columns command columns.separator (decimal (columns.network + 1) ++ 44 ∷ decimal (columns.value + 1)) valued operands has is
behind_layout command Pfx2as valued operands has is = behind_values command (codes "--form") (codes "pfx2as") valued operands has.0 is
behind_layout command (Routes Ipv4) valued operands has is = behind_values command (codes "--form") (codes "routes") valued operands has.0 is
behind_layout command (Routes Ipv6) valued operands has is = behind_values command (codes "--form") (codes "routes6") valued operands has.0 is

only_layout : (command : Verb) (layout : RowLayout) (operands : List (List ℕ)) → HasForms command → list_any is_option operands ≡ false
    → parts_from command (layout_words layout ++ operands) Any ≡ Ok (parts_with [] (layout_words layout) operands)
only_layout command layout operands has none =
    subst (λ (k : List (List ℕ)). parts_from command (k ++ operands) Any ≡ Ok (parts_with [] k operands)) (append-nil (layout_words layout))
    (behind_layout command layout [] operands has (operands_alone command operands none))

-- ---- options
-- the word is an option of the command
abbrev Has : Verb → List ℕ → Type 0
Has command word = word_parts command Any word ≡ Ok (only_options (word ∷ []), Any)

abbrev HasEach : Verb → List (List ℕ) → Type 0
HasEach command words = map (word_parts command Any) words ≡ map (λ word. Ok (only_options (word ∷ []), Any)) words

here_or_later : (command : Verb) (name word : List ℕ) (here later : Bool) → is_word word name ≡ here → Has command name → (later ≡ true → Has command word)
    → (here || later) ≡ true → Has command word
here_or_later command name word true later same first others is = subst (Has command) (same_text name word (sym same)) first
here_or_later command name word false later same first others is = others is

among : (command : Verb) (names : List (List ℕ)) (word : List ℕ) → HasEach command names → has word names ≡ true → Has command word
among command [] word each is = absurd (true≢false (sym is))
among command (name ∷ names) word each is =
    let first : Has command name = cc in
    let others : HasEach command names = cc in
    here_or_later command name word (is_word word name) (has word names) refl first (λ later. among command names word others later) is

its_options : (command : Verb) → HasEach command (command_row command).options
its_options (verb.Lists Merge) = refl
its_options (verb.Lists Minus) = refl
its_options (verb.Lists And) = refl
its_options (verb.Lists Not) = refl
its_options (verb.Lists Ranges) = refl
its_options (verb.Lists of_lists.Count) = refl
its_options verb.Diff = refl
its_options verb.Same = refl
its_options verb.Free = refl
its_options verb.Acl = refl
its_options verb.Check = refl
its_options verb.Which = refl
its_options verb.Match = refl
its_options verb.Look = refl
its_options verb.Compile = refl
its_options verb.Smallest = refl
its_options (verb.Describe what) = refl
its_options verb.Class = refl
its_options verb.Show = refl
its_options verb.Split = refl
its_options verb.Nth = refl
its_options verb.Help = refl
its_options verb.Version = refl

options_first : (command : Verb) (options words values operands : List (List ℕ)) → list_all (takes command) options ≡ true
    → parts_from command words Any ≡ Ok (parts_with [] values operands) → parts_from command (options ++ words) Any ≡ Ok (parts_with options values operands)
options_first command [] words values operands all is = is
options_first command (option ∷ options) words values operands all is =
    one_more command option (options ++ words) (only_options (option ∷ [])) (parts_with options values operands)
    (among command (command_row command).options option (its_options command) (and_first (takes command option) (list_all (takes command) options) all))
    (options_first command options words values operands (and_second (takes command option) (list_all (takes command) options) all) is)

-- ---- the command
named : (command : Verb) → named_verb (name_of command) ≡ Ok command
unfolding commands
named (verb.Lists Merge) = refl
named (verb.Lists Minus) = refl
named (verb.Lists And) = refl
named (verb.Lists Not) = refl
named (verb.Lists Ranges) = refl
named (verb.Lists of_lists.Count) = refl
named verb.Diff = refl
named verb.Same = refl
named verb.Free = refl
named verb.Acl = refl
named verb.Check = refl
named verb.Which = refl
named verb.Match = refl
named verb.Look = refl
named verb.Compile = refl
named verb.Smallest = refl
named (verb.Describe Zones) = refl
named (verb.Describe Masks) = refl
named verb.Class = refl
named verb.Show = refl
named verb.Split = refl
named verb.Nth = refl
named verb.Help = refl
named verb.Version = refl

without_value : (operation : Operation) (files : List (List ℕ)) → lists_request operation [] files ≡ Ok (Lists operation files)
without_value Merge files = refl
without_value Minus files = refl
without_value And files = refl
without_value Not files = refl
without_value Ranges files = refl
without_value of_lists.Count files = refl

-- the style that the options say, and neither a file nor a count
style_told : (command : Verb) (style : Option Style) → IsBare style → style_in_values command (style_words style) ≡ Ok style
style_told command None plain = refl
style_told command (Some style) plain = style_found command style plain

-- no file is named by these values, and no form of lists
abbrev IsUnset : Verb → List (List ℕ) → Type 0
IsUnset command values = (option_value command (codes "-o") values ≡ Ok None)
    × ((reads_tables command ≡ true) ⊎ (option_value command (codes "--form") values ≡ Ok None))

no_file_told : (command : Verb) (style : Option Style) → IsUnset command (style_words style)
no_file_told command None = (refl, inr refl)
no_file_told command (Some style) = (refl, inr refl)

no_count_told : (style : Option Style) → option_value verb.Free (codes "--count") (style_words style) ≡ Ok None
no_count_told None = refl
no_count_told (Some style) = refl

-- the same behind a count
module _ (count : List ℕ) where
  abbrev counted_words : Option Style → List (List ℕ)
  counted_words style = codes "--count" ∷ count ∷ style_words style

  counted_style : (style : Option Style) → IsBare style → style_in_values verb.Free (counted_words style) ≡ Ok style
  counted_style None plain = refl
  counted_style (Some style) plain = style_found verb.Free style plain

  counted_file : (style : Option Style) → IsUnset verb.Free (counted_words style)
  counted_file None = (refl, inr refl)
  counted_file (Some style) = (refl, inr refl)

  count_told : (style : Option Style) → option_value verb.Free (codes "--count") (counted_words style) ≡ Ok (Some count)
  count_told None = refl
  count_told (Some style) = refl

-- as many networks as the options say, in the style that they say
most_told : (every : Bool) (count : Option (List ℕ)) (most : Option ℕ) → IsMost every count most → most_by every count ≡ Ok most
most_told false None most is = ap (λ (k : Option ℕ). Ok k) (sym is)
most_told false (Some text) most (m, number, small, is) =
    ap (λ (k : Option ℕ). and_then (ok_or k (misuse_text text NoCount [])) (λ (count : ℕ). Ok (Some count))) (number_some (2 ^ 64) text m number small) ∙ ap (λ (k : Option ℕ). Ok k) (sym is)
most_told true None most is = ap (λ (k : Option ℕ). Ok k) (sym is)
most_told true (Some text) most is = absurd is

length_told : (len : List ℕ) (n : ℕ) → IsNumber len n × (n ≤ 128) → length_by len ≡ Ok n
length_told len n (number, short) = ap (λ (k : Option ℕ). ok_or k (misuse_text len NoLength [])) (number_some 129 len n number (omega (arith, short)))

free_asks : (values : List (List ℕ)) (count : Option (List ℕ)) (most : Option ℕ) (style : Option Style) (options : List (List ℕ)) (pool len : List ℕ) (n : ℕ)
    (used : List (List ℕ)) → IsNumber len n × (n ≤ 128) → option_value verb.Free (codes "--count") values ≡ Ok count → IsMost (has (codes "--all") options) count most
    → style_in_values verb.Free values ≡ Ok style
    → verb_request verb.Free (parts_with options values (pool ∷ len ∷ used)) ≡ Ok (Free style most pool n used)
free_asks values count most style options pool len n used number given is told =
    let behind : ℕ → Option ℕ → Result Request (List ℕ) = λ k one. and_then (style_in_values verb.Free values) (λ s. Ok (Free s one pool k used)) in
    let counted : ℕ → Option (List ℕ) → Result Request (List ℕ) = λ k c. and_then (most_by (has (codes "--all") options) c) (behind k) in
    ap (λ (r : Result ℕ (List ℕ)). and_then r (λ k. and_then (option_value verb.Free (codes "--count") values) (counted k))) (length_told len n number)
    ∙ (ap (λ (r : Result (Option (List ℕ)) (List ℕ)). and_then r (counted n)) given
    ∙ (ap (λ (r : Result (Option ℕ) (List ℕ)). and_then r (behind n)) (most_told (has (codes "--all") options) count most is)
    ∙ ap (λ (r : Result (Option Style) (List ℕ)). and_then r (λ s. Ok (Free s most pool n used))) told))

-- what is asked of an access list
abbrev json_words : List (List ℕ)
json_words = codes "--format" ∷ codes "json" ∷ []

no_list_told : (style : Option Style) → option_value verb.Acl (codes "--diff") (style_words style) ≡ Ok None
no_list_told None = refl
no_list_told (Some style) = refl

question_asks : (shadowed : Bool) (values : List (List ℕ)) (found : Option (List ℕ)) (asked : Question) (options : List (List ℕ)) (file : List ℕ)
    → has (codes "--shadowed") options ≡ shadowed → option_value verb.Acl (codes "--diff") values ≡ Ok found → question_by shadowed found values ≡ Ok asked
    → verb_request verb.Acl (parts_with options values (file ∷ [])) ≡ Ok (Acl asked file)
question_asks shadowed values found asked options file is given by =
    let behind : Question → Result Request (List ℕ) = λ one. Ok (Acl one file) in
    ap (λ (r : Result (Option (List ℕ)) (List ℕ)). and_then r (λ old. and_then (question_by (has (codes "--shadowed") options) old values) behind)) given
    ∙ ap (λ (r : Result Question (List ℕ)). and_then r behind) (ap (λ (b : Bool). question_by b found values) is ∙ by)

-- the field that match and look read
no_output_at : (command : Verb) (number : List ℕ) (separator : Separator) → IsUnset command (parted_words number separator)
no_output_at command number WhiteSpace = (refl, inr refl)
no_output_at command number (Byte byte) = (refl, inr refl)

no_output : (command : Verb) (number : List ℕ) (column : Option Column) → IsUnset command (field_words number column)
no_output command number None = (refl, inr refl)
no_output command number (Some column) = no_output_at command number column.separator

-- the value of the option that tells what parts fields
abbrev parted_by : Separator → Option (List ℕ)
parted_by WhiteSpace = None
parted_by (Byte byte) = Some (byte ∷ [])

column_told : (number : List ℕ) (column : Column) → IsFieldPlace number column.place → column_by number (parted_by column.separator) ≡ Ok column
column_told number column is = ap (λ (k : Option ℕ). column_at number k (parted_by column.separator)) (place_told number column.place is) ∙ parted_told column.separator
  where
    parted_told : (separator : Separator) → column_at number (Some column.place) (parted_by separator) ≡ Ok (record { place = column.place; separator = separator })
    parted_told WhiteSpace = refl
    parted_told (Byte byte) = refl

field_told : (command : Verb) (number : List ℕ) (column : Column) (any : Bool) → any ≡ false → IsFieldPlace number column.place
    → field_by command (Some number) any (parted_by column.separator) ≡ Ok (Some column)
field_told command number column any goes is =
    ap (λ (b : Bool). field_by command (Some number) b (parted_by column.separator)) goes
    ∙ ap (λ (r : Result Column (List ℕ)). and_then r (λ one. Ok (Some one))) (column_told number column is)

-- of the values of both options the field is told
field_found : (command : Verb) (column : Option Column) (options values operands : List (List ℕ)) (number separator : Option (List ℕ))
    → option_value command (codes "--field") values ≡ Ok number → option_value command (codes "--separator") values ≡ Ok separator
    → field_by command number (has (codes "--any") options) separator ≡ Ok column → field_in command (parts_with options values operands) ≡ Ok column
field_found command column options values operands number separator first second is =
    let behind : Option (List ℕ) → Option (List ℕ) → Result (Option Column) (List ℕ) = λ n s. field_by command n (has (codes "--any") options) s in
    ap (λ (r : Result (Option (List ℕ)) (List ℕ)). and_then r (λ n. and_then (option_value command (codes "--separator") values) (behind n))) first
    ∙ (ap (λ (r : Result (Option (List ℕ)) (List ℕ)). and_then r (behind number)) second ∙ is)

separator_found : (command : Verb) (number : List ℕ) (separator : Separator) → option_value command (codes "--separator") (parted_words number separator) ≡ Ok (parted_by separator)
separator_found command number WhiteSpace = refl
separator_found command number (Byte byte) = refl

number_found : (command : Verb) (number : List ℕ) (separator : Separator) → option_value command (codes "--field") (parted_words number separator) ≡ Ok (Some number)
number_found command number WhiteSpace = refl
number_found command number (Byte byte) = refl

field_asks : (command : Verb) (number : List ℕ) (column : Option Column) (options operands : List (List ℕ)) → IsField options number column
    → field_in command (parts_with options (field_words number column) operands) ≡ Ok column
field_asks command number None options operands goes = refl
field_asks command number (Some column) options operands (goes, is) =
    field_found command (Some column) options (field_words number (Some column)) operands (Some number) (parted_by column.separator) (number_found command number column.separator)
    (separator_found command number column.separator) (field_told command number column (has (codes "--any") options) goes is)

-- how the rows of a table are read: their layout, and the format of their values
abbrev form_values : RowLayout → LineFormat → List (List ℕ)
form_values layout format = layout_words layout ++ style_words (line_style format)

-- by two fields
columns_told : (command : Verb) (separator : Separator) (network value : ℕ) (format : LineFormat) → network + 1 < 2 ^ 64 → value + 1 < 2 ^ 64
    → form_in command (form_values (Columns (record { separator = separator; network = network; value = value })) format)
    ≡ Ok (record { layout = Columns (record { separator = separator; network = network; value = value }); values = format })
columns_told command WhiteSpace network value by_line.Plain first second =
    ap (λ (r : Result RowLayout (List ℕ)). and_then r (λ layout. Ok (record { layout = layout; values = by_line.Plain })))
    (fields_typed command WhiteSpace network value first second)
columns_told command WhiteSpace network value by_line.Json first second =
    ap (λ (r : Result RowLayout (List ℕ)). and_then r (λ layout. Ok (record { layout = layout; values = by_line.Json })))
    (fields_typed command WhiteSpace network value first second)
columns_told command (Byte c) network value by_line.Plain first second =
    ap (λ (r : Result RowLayout (List ℕ)). and_then r (λ layout. Ok (record { layout = layout; values = by_line.Plain })))
    (fields_typed command (Byte c) network value first second)
columns_told command (Byte c) network value by_line.Json first second =
    ap (λ (r : Result RowLayout (List ℕ)). and_then r (λ layout. Ok (record { layout = layout; values = by_line.Json })))
    (fields_typed command (Byte c) network value first second)

form_told : (command : Verb) (layout : RowLayout) (format : LineFormat) → HasNumbers layout → form_in command (form_values layout format) ≡ Ok (record { layout = layout; values = format })
form_told command (Fields WhiteSpace) by_line.Plain numbers = refl
form_told command (Fields WhiteSpace) by_line.Json numbers = refl
form_told command (Fields (Byte c)) by_line.Plain numbers = refl
form_told command (Fields (Byte c)) by_line.Json numbers = refl
form_told command Pfx2as by_line.Plain numbers = refl
form_told command Pfx2as by_line.Json numbers = refl
form_told command (Routes Ipv4) by_line.Plain numbers = refl
form_told command (Routes Ipv4) by_line.Json numbers = refl
form_told command (Routes Ipv6) by_line.Plain numbers = refl
form_told command (Routes Ipv6) by_line.Json numbers = refl
form_told command (Columns columns) format numbers = columns_told command columns.separator columns.network columns.value format numbers.0 numbers.1

layout_told : (command : Verb) (layout : RowLayout) → HasNumbers layout → form_in command (layout_words layout) ≡ Ok (record { layout = layout; values = by_line.Plain })
layout_told command layout numbers = ap (form_in command) (sym (append-nil (layout_words layout))) ∙ form_told command layout by_line.Plain numbers

-- no other value is told by it
no_file_in_at : (command : Verb) (separator : Separator) (numbers : List ℕ) (format : LineFormat)
    → option_value command (codes "-o") (columns_words separator numbers ++ style_words (line_style format)) ≡ Ok None
no_file_in_at command WhiteSpace numbers by_line.Plain = refl
no_file_in_at command WhiteSpace numbers by_line.Json = refl
no_file_in_at command (Byte c) numbers by_line.Plain = refl
no_file_in_at command (Byte c) numbers by_line.Json = refl

no_file_in : (command : Verb) (layout : RowLayout) (format : LineFormat)
    → option_value command (codes "-o") (form_values layout format) ≡ Ok None
no_file_in command (Fields WhiteSpace) by_line.Plain = refl
no_file_in command (Fields WhiteSpace) by_line.Json = refl
no_file_in command (Fields (Byte c)) by_line.Plain = refl
no_file_in command (Fields (Byte c)) by_line.Json = refl
no_file_in command Pfx2as by_line.Plain = refl
no_file_in command Pfx2as by_line.Json = refl
no_file_in command (Routes Ipv4) by_line.Plain = refl
no_file_in command (Routes Ipv4) by_line.Json = refl
no_file_in command (Routes Ipv6) by_line.Plain = refl
no_file_in command (Routes Ipv6) by_line.Json = refl
no_file_in command (Columns columns) format =
    no_file_in_at command columns.separator (decimal (columns.network + 1) ++ 44 ∷ decimal (columns.value + 1)) format

no_file_of : (command : Verb) (layout : RowLayout) → option_value command (codes "-o") (layout_words layout) ≡ Ok None
no_file_of command layout = ap (option_value command (codes "-o")) (sym (append-nil (layout_words layout))) ∙ no_file_in command layout by_line.Plain

no_field_in_at : (command : Verb) (separator : Separator) (numbers : List ℕ) (format : LineFormat) (found : Option (List ℕ))
    → value_behind command (codes "--field") found (columns_words separator numbers ++ style_words (line_style format)) ≡ Ok found
no_field_in_at command WhiteSpace numbers by_line.Plain found = refl
no_field_in_at command WhiteSpace numbers by_line.Json found = refl
no_field_in_at command (Byte c) numbers by_line.Plain found = refl
no_field_in_at command (Byte c) numbers by_line.Json found = refl

no_field_in : (command : Verb) (layout : RowLayout) (format : LineFormat) (found : Option (List ℕ))
    → value_behind command (codes "--field") found (form_values layout format) ≡ Ok found
no_field_in command (Fields WhiteSpace) by_line.Plain found = refl
no_field_in command (Fields WhiteSpace) by_line.Json found = refl
no_field_in command (Fields (Byte c)) by_line.Plain found = refl
no_field_in command (Fields (Byte c)) by_line.Json found = refl
no_field_in command Pfx2as by_line.Plain found = refl
no_field_in command Pfx2as by_line.Json found = refl
no_field_in command (Routes Ipv4) by_line.Plain found = refl
no_field_in command (Routes Ipv4) by_line.Json found = refl
no_field_in command (Routes Ipv6) by_line.Plain found = refl
no_field_in command (Routes Ipv6) by_line.Json found = refl
no_field_in command (Columns columns) format found =
    no_field_in_at command columns.separator (decimal (columns.network + 1) ++ 44 ∷ decimal (columns.value + 1)) format found

no_separator_in_at : (command : Verb) (separator : Separator) (numbers : List ℕ) (format : LineFormat) (found : Option (List ℕ))
    → value_behind command (codes "--separator") found (columns_words separator numbers ++ style_words (line_style format)) ≡ Ok found
no_separator_in_at command WhiteSpace numbers by_line.Plain found = refl
no_separator_in_at command WhiteSpace numbers by_line.Json found = refl
no_separator_in_at command (Byte c) numbers by_line.Plain found = refl
no_separator_in_at command (Byte c) numbers by_line.Json found = refl

no_separator_in : (command : Verb) (layout : RowLayout) (format : LineFormat) (found : Option (List ℕ))
    → value_behind command (codes "--separator") found (form_values layout format) ≡ Ok found
no_separator_in command (Fields WhiteSpace) by_line.Plain found = refl
no_separator_in command (Fields WhiteSpace) by_line.Json found = refl
no_separator_in command (Fields (Byte c)) by_line.Plain found = refl
no_separator_in command (Fields (Byte c)) by_line.Json found = refl
no_separator_in command Pfx2as by_line.Plain found = refl
no_separator_in command Pfx2as by_line.Json found = refl
no_separator_in command (Routes Ipv4) by_line.Plain found = refl
no_separator_in command (Routes Ipv4) by_line.Json found = refl
no_separator_in command (Routes Ipv6) by_line.Plain found = refl
no_separator_in command (Routes Ipv6) by_line.Json found = refl
no_separator_in command (Columns columns) format found =
    no_separator_in_at command columns.separator (decimal (columns.network + 1) ++ 44 ∷ decimal (columns.value + 1)) format found

-- both, of `look`
abbrev look_values : List ℕ → Option Column → RowForm → List (List ℕ)
look_values number column form = field_words number column ++ form_values form.layout form.values

module _ (number : List ℕ) (form : RowForm) where
  abbrev parted_values : Separator → List (List ℕ)
  parted_values separator = parted_words number separator ++ form_values form.layout form.values

  form_at : (separator : Separator) → HasNumbers form.layout → form_in verb.Look (parted_values separator) ≡ Ok form
  form_at WhiteSpace numbers = form_told verb.Look form.layout form.values numbers
  form_at (Byte byte) numbers = form_told verb.Look form.layout form.values numbers

  file_at : (separator : Separator) → option_value verb.Look (codes "-o") (parted_values separator) ≡ Ok None
  file_at WhiteSpace = no_file_in verb.Look form.layout form.values
  file_at (Byte byte) = no_file_in verb.Look form.layout form.values

  number_at : (separator : Separator) → option_value verb.Look (codes "--field") (parted_values separator) ≡ Ok (Some number)
  number_at WhiteSpace = no_field_in verb.Look form.layout form.values (Some number)
  number_at (Byte byte) = no_field_in verb.Look form.layout form.values (Some number)

  separator_at : (separator : Separator) → option_value verb.Look (codes "--separator") (parted_values separator) ≡ Ok (parted_by separator)
  separator_at WhiteSpace = no_separator_in verb.Look form.layout form.values None
  separator_at (Byte byte) = no_separator_in verb.Look form.layout form.values (Some (byte ∷ []))

  look_form : (column : Option Column) → HasNumbers form.layout → form_in verb.Look (look_values number column form) ≡ Ok form
  look_form None numbers = form_told verb.Look form.layout form.values numbers
  look_form (Some column) numbers = form_at column.separator numbers

  look_file : (column : Option Column) → option_value verb.Look (codes "-o") (look_values number column form) ≡ Ok None
  look_file None = no_file_in verb.Look form.layout form.values
  look_file (Some column) = file_at column.separator

  look_field : (column : Option Column) (options operands : List (List ℕ)) → IsField options number column
      → field_in verb.Look (parts_with options (look_values number column form) operands) ≡ Ok column
  look_field None options operands goes =
      field_found verb.Look None options (look_values number None form) operands None None (no_field_in verb.Look form.layout form.values None)
      (no_separator_in verb.Look form.layout form.values None) refl
  look_field (Some column) options operands (goes, is) =
      field_found verb.Look (Some column) options (look_values number (Some column) form) operands (Some number) (parted_by column.separator) (number_at column.separator)
      (separator_at column.separator) (field_told verb.Look number column (has (codes "--any") options) goes is)

-- its lines are kept in text alone
keeps_told : (format : LineFormat) (keeps : Bool) → (format ≡ by_line.Json → keeps ≡ false) → may_keep format keeps ≡ Ok tt
keeps_told by_line.Plain keeps goes = refl
keeps_told by_line.Json false goes = refl
keeps_told by_line.Json true goes = absurd (true≢false (goes refl))

-- no file, where -k and --skip-bad are not both given
none_by : (command : Verb) (keeps skips : Bool) → (keeps && skips) ≡ false → target_by command keeps skips None ≡ Ok None
none_by command keeps false fine = refl
none_by command false true fine = refl
none_by command true true fine = absurd (true≢false fine)

no_target : (command : Verb) (options values : List (List ℕ)) → (has (codes "-k") options && has (codes "--skip-bad") options) ≡ false → option_value command (codes "-o") values ≡ Ok None
    → and_then (option_value command (codes "-o") values) (target_by command (has (codes "-k") options) (has (codes "--skip-bad") options)) ≡ Ok None
no_target command options values fine none =
    ap (λ (r : Result (Option (List ℕ)) (List ℕ)). and_then r (target_by command (has (codes "-k") options) (has (codes "--skip-bad") options))) none
    ∙ none_by command (has (codes "-k") options) (has (codes "--skip-bad") options) fine

-- the lists have networks, where no form is told
either_way : {X : Type 0} (b : Bool) (x y : X) → y ≡ x → (if b then x else y) ≡ x
either_way true x y is = refl
either_way false x y is = is

networks_told : (command : Verb) (parts : Parts) → asks_help parts.options ≡ false
    → (reads_tables command ≡ true) ⊎ (option_value command (codes "--form") parts.values ≡ Ok None) → list_form_in command parts ≡ Ok (Networks (bits_of parts.options))
networks_told command parts no_page (inl tables) =
    let found = and_then (option_value command (codes "--form") parts.values) (λ name. list_form_by command parts.options name) in
    let lists : Result ListForm (List ℕ) = Ok (Networks (bits_of parts.options)) in
    ap (λ (b : Bool). if b || reads_tables command then lists else found) no_page ∙ ap (λ (b : Bool). if false || b then lists else found) tables
networks_told command parts no_page (inr none) =
    either_way (asks_help parts.options || reads_tables command) _ _
    (ap (λ (r : Result (Option (List ℕ)) (List ℕ)). and_then r (λ name. list_form_by command parts.options name)) none)

networks_read : (command : Verb) (parts : Parts) → asks_help parts.options ≡ false
    → (reads_tables command ≡ true) ⊎ (option_value command (codes "--form") parts.values ≡ Ok None)
    → reading_in command parts ≡ Ok (reading_of (Networks (bits_of parts.options)) parts.options)
networks_read command parts no_page unformed =
    ap (λ (r : Result ListForm (List ℕ)). and_then r (λ form. Ok (reading_of form parts.options))) (networks_told command parts no_page unformed)

-- ---- a command line
-- a command with the parts of its words
abbrev with_parts : Verb → Result Parts (List ℕ) → Result (Verb × Parts) (List ℕ)
with_parts command found = and_then found (λ parts. Ok (command, parts))

module _ (words options : List (List ℕ)) where
  abbrev Asks : Request → Type 0
  Asks request = line_request words ≡ Ok (reading_of (Networks (bits_of options)) options, (None, request))

  module _ (command : Verb) (valued values operands : List (List ℕ)) (typed : AreTyped command options valued operands words)
      (parts : parts_from command (valued ++ operands) Any ≡ Ok (parts_with [] values operands)) (fits : extra_operand command operands ≡ None)
      (unset : IsUnset command values) where
    abbrev all_parts : Parts
    all_parts = parts_with options values operands

    line_asks : (request : Request) → verb_request command all_parts ≡ Ok request → Asks request
    line_asks request made =
        let (is, all, fine, none, enough) = typed in
        let (no_page, one_way) = none_of (asks_help options) (has (codes "-k") options && has (codes "--skip-bad") options) fine in
        let asked : part_request command all_parts ≡ Ok request =
        if_false (asks_help options) _ _ no_page
        ∙ (ap (λ (k : Option (List ℕ)). counted_request command all_parts k (extra_operand command operands)) enough
        ∙ (ap (λ (k : Option (List ℕ)). counted_request command all_parts None k) fits ∙ made)) in
        ap line_request is
        ∙ (ap (λ (r : Result Verb (List ℕ)). and_then (and_then r (λ one. with_parts one (parts_from one (options ++ (valued ++ operands)) Any))) (λ line. read_request line.0 line.1)) (named command)
        ∙ (ap (λ (r : Result Parts (List ℕ)). and_then (with_parts command r) (λ line. read_request line.0 line.1))
        (options_first command options (valued ++ operands) values operands all parts)
        ∙ read_one command all_parts (reading_of (Networks (bits_of options)) options) None request asked
        (if_false (asks_help options) _ _ no_page ∙ no_target command options values one_way unset.0) (networks_read command all_parts no_page unset.1)))

  plain_asks : (command : Verb) (operands : List (List ℕ)) (request : Request) → AreTyped command options [] operands words → extra_operand command operands ≡ None
      → verb_request command (parts_with options [] operands) ≡ Ok request → Asks request
  plain_asks command operands request (is, all, no_page, none, enough) fits made =
      line_asks command [] [] operands (is, all, no_page, none, enough) (operands_alone command operands none) fits (refl, inr refl) request made

  match_asks : (number : List ℕ) (column : Option Column) (operands : List (List ℕ)) (request : Request) → IsField options number column
      → AreTyped verb.Match options (field_words number column) operands words
      → match_by (picking_of options column) operands (slice_get operands 2) ≡ request → Asks request
  match_asks number column operands request goes (is, all, no_page, none, enough) made =
      line_asks verb.Match (field_words number column) (field_words number column) operands (is, all, no_page, none, enough) (only_field verb.Match number column operands (refl, refl) none) refl
      (no_output verb.Match number column) request
      (ap (λ (r : Result (Option Column) (List ℕ)). and_then r (λ one. Ok (match_by (picking_of options one) operands (slice_get operands 2))))
      (field_asks verb.Match number column options operands goes)
      ∙ ap (λ (k : Request). Ok k) made)

  look_asks : (number : List ℕ) (column : Option Column) (form : RowForm) (operands : List (List ℕ)) (request : Request) → IsField options number column
      → (form.values ≡ by_line.Json → has (codes "--keep") options ≡ false) → HasNumbers form.layout
      → AreTyped verb.Look options (look_values number column form) operands words → extra_operand verb.Look operands ≡ None
      → Look (seeking_of options column form) (operand_or operands 0 []) (operand_or operands 1 input_name) ≡ request → Asks request
  look_asks number column form operands request goes keeps numbers (is, all, no_page, none, enough) fits made =
      let values = look_values number column form in
      let kept : Option Column → RowForm → Result Request (List ℕ) = λ one f. and_then (may_keep f.values (has (codes "--keep") options))
      (λ _. Ok (Look (seeking_of options one f) (operand_or operands 0 []) (operand_or operands 1 input_name))) in
      line_asks verb.Look values values operands (is, all, no_page, none, enough)
      (behind_field verb.Look number column (form_values form.layout form.values) operands (refl, refl)
      (behind_layout verb.Look form.layout (style_words (line_style form.values)) operands (refl, refl, refl) (behind_format form.values operands none))) fits
      (look_file number form column, inl refl) request
      (ap (λ (r : Result (Option Column) (List ℕ)). and_then r (λ one. and_then (form_in verb.Look values) (kept one))) (look_field number form column options operands goes)
      ∙ (ap (λ (r : Result RowForm (List ℕ)). and_then r (kept column)) (look_form number form column numbers)
      ∙ (ap (λ (r : Result (Unit {0}) (List ℕ)). and_then r (λ _. Ok (Look (seeking_of options column form) (operand_or operands 0 []) (operand_or operands 1 input_name))))
      (keeps_told form.values (has (codes "--keep") options) keeps)
      ∙ ap (λ (k : Request). Ok k) made)))

  pub typed_asks : (request : Request) → IsTyped words options request → Asks request
  typed_asks (Lists operation files) typed = plain_asks (verb.Lists operation) files (Lists operation files) typed refl (without_value operation files)
  typed_asks (Styled style operation files) (plain, takes, (is, all, no_page, none, enough)) =
      let values = codes "--format" ∷ format_name style.format ∷ [] in
      line_asks (verb.Lists operation) values values files (is, all, no_page, none, enough)
      (behind_value (verb.Lists operation) (codes "--format") (format_name style.format) files (has_format operation takes) none) refl (refl, inr refl)
      (Styled style operation files) (styled_request operation style files plain)
  typed_asks (NotIn None net files) (no_style, (is, all, no_page, none, enough)) =
      line_asks (verb.Lists Not) (codes "--in" ∷ net ∷ []) (codes "--in" ∷ net ∷ []) files (is, all, no_page, none, enough)
      (behind_value (verb.Lists Not) (codes "--in") net files refl none) refl (refl, inr refl) (NotIn None net files) refl
  typed_asks (NotIn (Some style) net files) (plain, (is, all, no_page, none, enough)) =
      let format = codes "--format" ∷ format_name style.format ∷ [] in
      let values = codes "--in" ∷ net ∷ format in
      line_asks (verb.Lists Not) values values files (is, all, no_page, none, enough)
      (behind_values (verb.Lists Not) (codes "--in") net format files refl
      (behind_value (verb.Lists Not) (codes "--format") (format_name style.format) files refl none)) refl (refl, inr refl)
      (NotIn (Some style) net files) (inside_request style net files plain)
  typed_asks (Diff by_line.Plain old new) typed = plain_asks verb.Diff (old ∷ new ∷ []) (Diff by_line.Plain old new) typed refl refl
  typed_asks (Diff by_line.Json old new) (is, all, no_page, none, enough) =
      line_asks verb.Diff json_words json_words (old ∷ new ∷ []) (is, all, no_page, none, enough)
      (behind_value verb.Diff (codes "--format") (codes "json") (old ∷ new ∷ []) refl none) refl (refl, inr refl) (Diff by_line.Json old new) refl
  typed_asks (Free style most pool n used) (plain, None, of_these, len, number, (is, all, no_page, none, enough)) =
      line_asks verb.Free (style_words style) (style_words style) (pool ∷ len ∷ used) (is, all, no_page, none, enough)
      (behind_style verb.Free style (pool ∷ len ∷ used) refl none) refl (no_file_told verb.Free style) (Free style most pool n used)
      (free_asks (style_words style) None most style options pool len n used number (no_count_told style) of_these (style_told verb.Free style plain))
  typed_asks (Free style most pool n used) (plain, Some count, of_these, len, number, (is, all, no_page, none, enough)) =
      line_asks verb.Free (counted_words count style) (counted_words count style) (pool ∷ len ∷ used) (is, all, no_page, none, enough)
      (behind_values verb.Free (codes "--count") count (style_words style) (pool ∷ len ∷ used) refl (behind_style verb.Free style (pool ∷ len ∷ used) refl none)) refl
      (counted_file count style) (Free style most pool n used)
      (free_asks (counted_words count style) (Some count) most style options pool len n used number (count_told count style) of_these (counted_style count style plain))
  typed_asks (Acl (Permitted style) file) (of_these, plain, (is, all, no_page, none, enough)) =
      line_asks verb.Acl (style_words style) (style_words style) (file ∷ []) (is, all, no_page, none, enough)
      (behind_style verb.Acl style (file ∷ []) refl none) refl (no_file_told verb.Acl style) (Acl (Permitted style) file)
      (question_asks false (style_words style) None (Permitted style) options file of_these (no_list_told style)
      (ap (λ (r : Result (Option Style) (List ℕ)). and_then r (λ s. Ok (Permitted s))) (style_told verb.Acl style plain)))
  typed_asks (Acl Shadowed file) (of_these, plain, typed) =
      plain_asks verb.Acl (file ∷ []) (Acl Shadowed file) typed refl (question_asks true [] None Shadowed options file of_these refl refl)
  typed_asks (Acl (Compared by_line.Plain old) file) (of_these, plain, (is, all, no_page, none, enough)) =
      let values = codes "--diff" ∷ old ∷ [] in
      line_asks verb.Acl values values (file ∷ []) (is, all, no_page, none, enough)
      (behind_value verb.Acl (codes "--diff") old (file ∷ []) refl none) refl (refl, inr refl) (Acl (Compared by_line.Plain old) file)
      (question_asks false values (Some old) (Compared by_line.Plain old) options file of_these refl refl)
  typed_asks (Acl (Compared by_line.Json old) file) (of_these, plain, (is, all, no_page, none, enough)) =
      let values = codes "--diff" ∷ old ∷ json_words in
      line_asks verb.Acl values values (file ∷ []) (is, all, no_page, none, enough)
      (behind_values verb.Acl (codes "--diff") old json_words (file ∷ []) refl
      (behind_value verb.Acl (codes "--format") (codes "json") (file ∷ []) refl none)) refl (refl, inr refl) (Acl (Compared by_line.Json old) file)
      (question_asks false values (Some old) (Compared by_line.Json old) options file of_these refl refl)
  typed_asks (Split style operand len n) (plain, number, (is, all, no_page, none, enough)) =
      line_asks verb.Split (style_words style) (style_words style) (operand ∷ len ∷ []) (is, all, no_page, none, enough)
      (behind_style verb.Split style (operand ∷ len ∷ []) refl none) refl (no_file_told verb.Split style) (Split style operand len n)
      (ap (λ (r : Result (Option Style) (List ℕ)). and_then r (λ s. and_then (length_by len) (λ m. Ok (Split s operand len m)))) (style_told verb.Split style plain)
      ∙ ap (λ (r : Result ℕ (List ℕ)). and_then r (λ m. Ok (Split style operand len m))) (length_told len n number))
  typed_asks (Check files) typed = plain_asks verb.Check files (Check files) typed refl refl
  typed_asks (Which address files) typed = plain_asks verb.Which (address ∷ files) (Which address files) typed refl refl
  typed_asks (Match picking list file) (number, column, same, goes, inl typed) =
      match_asks number column (list ∷ file ∷ []) (Match picking list file) goes typed (ap (λ (k : Picking). Match k list file) (sym same))
  typed_asks (Match picking list file) (number, column, same, goes, inr (input, typed)) =
      match_asks number column (list ∷ []) (Match picking list file) goes typed
      (ap (λ (k : Picking). Match k list input_name) (sym same) ∙ ap (λ (k : List ℕ). Match picking list k) (sym input))
  typed_asks (MatchEach picking list []) typed = absurd typed
  typed_asks (MatchEach picking list (first ∷ [])) typed = absurd typed
  typed_asks (MatchEach picking list (first ∷ second ∷ files)) (number, column, same, goes, typed) =
      match_asks number column (list ∷ first ∷ second ∷ files) (MatchEach picking list (first ∷ second ∷ files)) goes typed
      (ap (λ (k : Picking). MatchEach k list (first ∷ second ∷ files)) (sym same))
  typed_asks (Look seeking table file) (number, column, same, goes, keeps, numbers, inl typed) =
      look_asks number column seeking.form (table ∷ file ∷ []) (Look seeking table file) goes keeps numbers typed refl (ap (λ (k : Seeking). Look k table file) (sym same))
  typed_asks (Look seeking table file) (number, column, same, goes, keeps, numbers, inr (input, typed)) =
      look_asks number column seeking.form (table ∷ []) (Look seeking table file) goes keeps numbers typed refl
      (ap (λ (k : Seeking). Look k table input_name) (sym same) ∙ ap (λ (k : List ℕ). Look seeking table k) (sym input))
  typed_asks (Compile form table name) (plain, numbers, (is, all, no_page, none, enough)) =
      line_asks verb.Compile (layout_words form.layout) (layout_words form.layout) (table ∷ name ∷ []) (is, all, no_page, none, enough)
      (only_layout verb.Compile form.layout (table ∷ name ∷ []) (refl, refl, refl) none) refl (no_file_of verb.Compile form.layout, inl refl) (Compile form table name)
      (ap (λ (r : Result RowForm (List ℕ)). and_then r (λ f. Ok (Compile f table name))) (layout_told verb.Compile form.layout numbers)
      ∙ ap (λ (format : LineFormat). Ok (Compile (record { layout = form.layout; values = format }) table name)) (sym plain))
  typed_asks (Same form old new) (plain, numbers, (is, all, no_page, none, enough)) =
      line_asks verb.Same (layout_words form.layout) (layout_words form.layout) (old ∷ new ∷ []) (is, all, no_page, none, enough)
      (only_layout verb.Same form.layout (old ∷ new ∷ []) (refl, refl, refl) none) refl (no_file_of verb.Same form.layout, inl refl) (Same form old new)
      (ap (λ (r : Result RowForm (List ℕ)). and_then r (λ f. Ok (Same f old new))) (layout_told verb.Same form.layout numbers)
      ∙ ap (λ (format : LineFormat). Ok (Same (record { layout = form.layout; values = format }) old new)) (sym plain))
  typed_asks (Smallest holes form table) (given, plain, numbers, (is, all, no_page, none, enough)) =
      let given_holes : Bool = has (codes "--holes") options in
      line_asks verb.Smallest (layout_words form.layout) (layout_words form.layout) (table ∷ []) (is, all, no_page, none, enough)
      (only_layout verb.Smallest form.layout (table ∷ []) (refl, refl, refl) none) refl (no_file_of verb.Smallest form.layout, inl refl) (Smallest holes form table)
      (ap (λ (r : Result RowForm (List ℕ)). and_then r (λ f. Ok (Smallest given_holes f table))) (layout_told verb.Smallest form.layout numbers)
      ∙ (ap (λ (format : LineFormat). Ok (Smallest given_holes (record { layout = form.layout; values = format }) table)) (sym plain)
      ∙ ap (λ (b : Bool). Ok (Smallest b form table)) given))
  typed_asks (Describe what operand) typed = plain_asks (verb.Describe what) (operand ∷ []) (Describe what operand) typed refl refl
  typed_asks (Class operand) typed = plain_asks verb.Class (operand ∷ []) (Class operand) typed refl refl
  typed_asks (Single (Show host)) typed = plain_asks verb.Show (host ∷ []) (Single (Show host)) typed refl refl
  typed_asks (Single (Nth net place)) typed = plain_asks verb.Nth (net ∷ place ∷ []) (Single (Nth net place)) typed refl refl
  typed_asks (Help None) typed = plain_asks verb.Help [] (Help None) typed refl refl
  typed_asks (Help (Some command)) typed =
      plain_asks verb.Help (name_of command ∷ []) (Help (Some command)) typed refl
      (ap (λ (r : Result Verb (List ℕ)). and_then r (λ one. Ok (Help (Some one)))) (named command))
  typed_asks Version typed = plain_asks verb.Version [] Version typed refl refl
