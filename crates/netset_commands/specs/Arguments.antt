-- The words of a command line as options and operands, and the request that they are. Options are those of POSIX.1-2024,
-- XBD 12.2, guidelines 4 to 6 and 10, and long ones, which begin with --; they may also stand behind operands.
use Rattle.std.specs.Prelude.{ℕ, zero, suc, ◌^◌, ◌==◌, nat_eq, nat_lt, Bool, true, false, not, if◌then◌else◌, ◌&&◌, ◌||◌, List, [], ◌∷◌, ◌++◌, length, drop, map, codes, Option, Some, None, Result, Ok, Err, slice_get, slice_index, ok_or, unwrap_or, option_and_then}
use Rattle.std.specs.Char.{digit_value}
use Rattle.std.specs.List.{after_first, before_first, find, list_all, starts_with}
use Rattle.std.specs.Str.Parse.{digits_value, without_leading_plus}
use Rattle.cidr_io.specs.Shown.{excerpt}
use Rattle.cidr_lists.specs.Formats.{Style, bare, format_of}
use Rattle.cidr_lists.specs.Rules.{Question, Permitted, Shadowed, Compared}
use Rattle.cidr.specs.declared.family.Family.TheVariants.{Ipv4, Ipv6}
use Rattle.cidr_lists.specs.declared.columns.Column.{Column}
use Rattle.cidr_lists.specs.declared.columns.Separator.{Separator}
use Rattle.cidr_lists.specs.declared.columns.Separator.TheVariants.{WhiteSpace, Byte}
use Rattle.cidr_lists.specs.declared.forms.RowForm.{RowForm}
use Rattle.cidr_lists.specs.declared.records.ListForm.{ListForm}
use Rattle.cidr_lists.specs.declared.records.ListForm.TheVariants.{Networks, Rir}
use Rattle.cidr_lists.specs.declared.forms.RowLayout.{RowLayout}
use Rattle.cidr_lists.specs.declared.forms.RowLayout.TheVariants.{Fields, Columns, Pfx2as, Routes}
use Rattle.cidr_lists.specs.declared.formats.Format.{Format}
use Rattle.cidr_lists.specs.declared.formats.Format.TheVariants as format
use Rattle.cidr_lists.specs.declared.formats.LineFormat.{LineFormat}
use Rattle.cidr_lists.specs.declared.formats.LineFormat.TheVariants as by_line
use Rattle.netset_commands.specs.Commands.{Request, Lists, Styled, NotIn, Diff, Same, Free, Acl, Split, Check, Which, Match, MatchEach, Look, Compile, Smallest, Describe, Class, Single, Help, Version, bits_of, input_name, reading_of}
use Rattle.netset_commands.specs.Matching.{has, is_word}
use Rattle.netset_commands.specs.Picking.{picking_of, seeking_of}
use Rattle.netset_commands.specs.Single.{Show, Nth}
use Rattle.netset_commands.specs.Table.{commands, name_of, command_row, takes_value}
use Rattle.netset_commands.specs.declared.commands.Reading.{Reading}
use Rattle.netset_commands.specs.declared.commands.arguments.Next.{Next}
use Rattle.netset_commands.specs.declared.commands.arguments.Next.TheVariants.{Any, Value, Operand}
use Rattle.netset_commands.specs.declared.commands.operations.Operation.{Operation}
use Rattle.netset_commands.specs.declared.commands.picking.Picking.{Picking}
use Rattle.netset_commands.specs.declared.commands.table.Verb.{Verb}
use Rattle.netset_commands.specs.declared.commands.table.Verb.TheVariants as verb
use Rattle.netset_commands.specs.declared.errors.Misfit.{Misfit}
use Rattle.netset_commands.specs.declared.errors.Misfit.TheVariants.{Unnamed, NoCommand, NoOption, Missing, Extra, NoFormat, NotPlain, NoField, Anywhere, Skipping, NoLineFormat, WithShadowed, WithDiff, NoForm, NoListForm, NotOneByte, NoFields, WithForm, WithJson, NoLength, NoCount, NoNumber, NoByte}

-- ---- the line of a word that is wrong
abbrev pub misfit_text : Misfit → List ℕ
misfit_text Unnamed = codes " is missing, see: netset help"
misfit_text NoCommand = codes ": no such command, see: netset help"
misfit_text NoOption = codes ": no such option, see: netset help "
misfit_text Missing = codes " is missing, see: netset help "
misfit_text Extra = codes ": one argument too many, see: netset help "
misfit_text NoFormat = codes ": no such format, but plain, json, nft, ipset, iptables, cisco, juniper and bird, see: netset help "
misfit_text NoLineFormat = codes ": no such format, but plain and json, see: netset help "
misfit_text NotPlain = codes ": for the format plain alone, see: netset help "
misfit_text NoField = codes ": only with --field, see: netset help "
misfit_text Anywhere = codes ": not with --any, see: netset help "
misfit_text Skipping = codes ": not with --skip-bad, see: netset help "
misfit_text WithShadowed = codes ": not with --shadowed, see: netset help "
misfit_text WithDiff = codes ": not with --diff, see: netset help "
misfit_text NoForm = codes ": no such form, but pfx2as, routes and routes6, see: netset help "
misfit_text NoListForm = codes ": no such form of lists, but rir, see: netset help "
misfit_text NotOneByte = codes ": more or less than one byte, see: netset help "
misfit_text NoFields = codes ": not the numbers of two fields, see: netset help "
misfit_text WithForm = codes ": not with --form, see: netset help "
misfit_text WithJson = codes ": not with the format json, see: netset help "
misfit_text NoLength = codes ": no prefix length inside the network"
misfit_text NoCount = codes ": no count below 2^64"
misfit_text NoNumber = codes ": no number of a field, from 1 on"
misfit_text NoByte = codes ": more or less than one byte"

-- the word or what is missing, what is wrong with it, and the command whose page is to be seen, if one is
abbrev pub misuse_text : List ℕ → Misfit → List ℕ → List ℕ
misuse_text word why command = excerpt word ++ (misfit_text why ++ (command ++ codes "\n"))

-- what is made of a value, or the line that stands for it
abbrev pub and_then : {A B : Type 0} → Result A (List ℕ) → (A → Result B (List ℕ)) → Result B (List ℕ)
and_then (Ok value) made = made value
and_then (Err line) made = Err line

-- ---- options and operands
-- of some words: options without a value, each as -v or --any; the others, each with its value behind it; operands
pub record Parts : Type 0 where
  pub options : List (List ℕ)
  pub values : List (List ℕ)
  pub operands : List (List ℕ)

abbrev pub no_parts : Parts
no_parts = record { options = []; values = []; operands = [] }

abbrev pub only_options : List (List ℕ) → Parts
only_options words = record { options = words; values = []; operands = [] }

abbrev pub only_value : List ℕ → Parts
only_value word = record { options = []; values = word ∷ []; operands = [] }

abbrev pub named_value : List ℕ → List ℕ → Parts
named_value name value = record { options = []; values = name ∷ value ∷ []; operands = [] }

abbrev pub only_operand : List ℕ → Parts
only_operand word = record { options = []; values = []; operands = word ∷ [] }

-- the parts of some words and of those behind them
abbrev pub joined_arguments : Parts → Parts → Parts
joined_arguments a b = record { options = a.options ++ b.options; values = a.values ++ b.values; operands = a.operands ++ b.operands }

-- - and something behind it
abbrev pub is_option : List ℕ → Bool
is_option word = nat_lt 1 (length word) && (slice_index word 0 == 45)

-- the option of a letter
abbrev pub short_option : ℕ → List ℕ
short_option letter = 45 ∷ letter ∷ []

-- the command has the option
abbrev pub takes : Verb → List ℕ → Bool
takes command option = has option (command_row command).options

-- = parts a long option from its value
abbrev pub is_equals : ℕ → Bool
is_equals byte = byte == 61

-- the options of a word of letters, as -v and -c of -vc
abbrev pub letter_options : List ℕ → List (List ℕ)
letter_options word = map short_option (drop 1 word)

-- the line of a word that is no option of the command
abbrev pub no_option : Verb → List ℕ → Result (Parts × Next) (List ℕ)
no_option command word = Err (misuse_text word NoOption (name_of command))

-- what a word of letters adds
abbrev pub letter_parts : Verb → List ℕ → Result (Parts × Next) (List ℕ)
letter_parts command word =
    if list_all (takes command) (letter_options word) then Ok (only_options (letter_options word), Any) else no_option command word

-- behind help the command --version is no option
abbrev pub is_topic : Verb → List ℕ → Bool
is_topic verb.Help word = is_word (codes "--version") word
is_topic command word = false

-- what a word adds that is no option: behind help an operand
abbrev pub topic_parts : Verb → List ℕ → Result (Parts × Next) (List ℕ)
topic_parts command word = if is_topic command word then Ok (only_operand word, Any) else no_option command word

-- what a word that begins with -- adds: --any, --in before its value, or --in=NET
abbrev pub long_parts : Verb → List ℕ → Result (Parts × Next) (List ℕ)
long_parts command word =
    if takes command word then Ok (only_options (word ∷ []), Any)
    else if takes_value command word then Ok (only_value word, Value)
    else if takes_value command (before_first is_equals word) then Ok (named_value (before_first is_equals word) (after_first is_equals word), Any)
    else topic_parts command word

-- what a word adds that begins with one -: -o before its value, or letters
abbrev pub short_parts : Verb → List ℕ → Result (Parts × Next) (List ℕ)
short_parts command word = if takes_value command word then Ok (only_value word, Value) else letter_parts command word

-- what a word adds, and what the next one is: an option or an operand, the value of this option, or behind -- an operand
abbrev pub word_parts : Verb → Next → List ℕ → Result (Parts × Next) (List ℕ)
word_parts command Operand word = Ok (only_operand word, Operand)
word_parts command Value word = Ok (only_value word, Any)
word_parts command Any word =
    if is_word (codes "--") word then Ok (no_parts, Operand)
    else if is_option word then (if starts_with nat_eq word (codes "--") then long_parts command word else short_parts command word)
    else Ok (only_operand word, Any)

-- the parts of words
abbrev pub parts_from : Verb → List (List ℕ) → Next → Result Parts (List ℕ)
parts_from command [] Value = Err (misuse_text (codes "VALUE") Missing (name_of command))
parts_from command [] next = Ok no_parts
parts_from command (word ∷ words) next =
    and_then (word_parts command next word) (λ one. and_then (parts_from command words one.1) (λ rest. Ok (joined_arguments one.0 rest)))

-- ---- the command
-- -h and --help are other names of the command help, and nets of merge
abbrev pub full_name : List ℕ → List ℕ
full_name word = if is_word (codes "-h") word || is_word (codes "--help") word then codes "help"
    else if is_word (codes "nets") word then codes "merge" else word

-- the command of a name
abbrev pub verb_of : List ℕ → Option Verb
verb_of word = find (λ (command : Verb). is_word (full_name word) (name_of command)) commands

-- the same, or the line of a word that is no command
abbrev pub named_verb : List ℕ → Result Verb (List ℕ)
named_verb word = ok_or (verb_of word) (misuse_text word NoCommand [])

-- the command, and the parts of the words behind it
abbrev pub line_parts : List (List ℕ) → Result (Verb × Parts) (List ℕ)
line_parts [] = Err (misuse_text (codes "COMMAND") Unnamed [])
line_parts (word ∷ words) = and_then (named_verb word) (λ command. and_then (parts_from command words Any) (λ parts. Ok (command, parts)))

-- ---- the request
-- the operand at an index, counted from 0, or what stands for it
abbrev pub operand_or : List (List ℕ) → ℕ → List ℕ → List ℕ
operand_or operands place otherwise = unwrap_or (slice_get operands place) otherwise

-- a value of an option, if it has none yet
abbrev pub fresh : Verb → Option (List ℕ) → List ℕ → Result (Option (List ℕ)) (List ℕ)
fresh command None value = Ok (Some value)
fresh command (Some old) value = Err (misuse_text value Extra (name_of command))

-- the same of an option with its value, if it is the one of this name
abbrev pub taken_value : Verb → List ℕ → Option (List ℕ) → List ℕ → List ℕ → Result (Option (List ℕ)) (List ℕ)
taken_value command name found option value = if is_word name option then fresh command found value else Ok found

-- the value of an option among options with their values, behind those before
abbrev pub value_behind : Verb → List ℕ → Option (List ℕ) → List (List ℕ) → Result (Option (List ℕ)) (List ℕ)
value_behind command name found (option ∷ value ∷ rest) =
    and_then (taken_value command name found option value) (λ now. value_behind command name now rest)
value_behind command name found words = Ok found

-- the value of an option, if it is given; it may be given once
abbrev pub option_value : Verb → List ℕ → List (List ℕ) → Result (Option (List ℕ)) (List ℕ)
option_value command name values = value_behind command name None values

-- the format of a name
abbrev pub named_format : Verb → List ℕ → Result Format (List ℕ)
named_format command name = ok_or (format_of name) (misuse_text name NoFormat (name_of command))

-- a format with a prefix and a suffix, which only the plain one has
abbrev pub is_plain : Format → Bool
is_plain format.Plain = true
is_plain format = false

abbrev pub style_by : Verb → Format → Bool → Option (List ℕ) → Option (List ℕ) → Result Style (List ℕ)
style_by command format true prefix suffix = Ok (record { format = format; prefix = unwrap_or prefix []; suffix = unwrap_or suffix [] })
style_by command format false (Some prefix) suffix = Err (misuse_text (codes "--prefix") NotPlain (name_of command))
style_by command format false None (Some suffix) = Err (misuse_text (codes "--suffix") NotPlain (name_of command))
style_by command format false None None = Ok (bare format)

abbrev pub style_of : Verb → Format → Option (List ℕ) → Option (List ℕ) → Result Style (List ℕ)
style_of command format prefix suffix = style_by command format (is_plain format) prefix suffix

abbrev pub some_style : Verb → Format → Option (List ℕ) → Option (List ℕ) → Result (Option Style) (List ℕ)
some_style command format prefix suffix = and_then (style_of command format prefix suffix) (λ style. Ok (Some style))

-- how networks are written, if one of the options says it
abbrev pub chosen_style : Verb → Option (List ℕ) → Option (List ℕ) → Option (List ℕ) → Result (Option Style) (List ℕ)
chosen_style command None None None = Ok None
chosen_style command None prefix suffix = some_style command format.Plain prefix suffix
chosen_style command (Some name) prefix suffix = and_then (named_format command name) (λ format. some_style command format prefix suffix)

abbrev pub style_in_values : Verb → List (List ℕ) → Result (Option Style) (List ℕ)
style_in_values command values = and_then (option_value command (codes "--format") values)
    (λ name. and_then (option_value command (codes "--prefix") values)
    (λ prefix. and_then (option_value command (codes "--suffix") values) (λ suffix. chosen_style command name prefix suffix)))

-- how lines are written: as text, unless the option says otherwise
abbrev pub chosen_line_format : Verb → Option (List ℕ) → Result LineFormat (List ℕ)
chosen_line_format command None = Ok by_line.Plain
chosen_line_format command (Some name) = if is_word (codes "plain") name then Ok by_line.Plain
    else if is_word (codes "json") name then Ok by_line.Json
    else Err (misuse_text name NoLineFormat (name_of command))

abbrev pub line_format_in : Verb → List (List ℕ) → Result LineFormat (List ℕ)
line_format_in command values = and_then (option_value command (codes "--format") values) (λ name. chosen_line_format command name)

-- an operation on lists; not may be inside a network
abbrev pub made_request : Operation → Option (List ℕ) → Option Style → List (List ℕ) → Request
made_request operation None None files = Lists operation files
made_request operation None (Some style) files = Styled style operation files
made_request operation (Some net) style files = NotIn style net files

abbrev pub lists_request : Operation → List (List ℕ) → List (List ℕ) → Result Request (List ℕ)
lists_request operation values files = and_then (option_value (verb.Lists operation) (codes "--in") values)
    (λ net. and_then (style_in_values (verb.Lists operation) values) (λ style. Ok (made_request operation net style files)))

-- the number below a bound that digits are, perhaps with a plus in front
abbrev pub digits_below : ℕ → List ℕ → Option ℕ
digits_below bound digits = if nat_lt 0 (length digits) && list_all (λ c. nat_lt (digit_value c) 10) digits && nat_lt (digits_value 10 digits) bound
    then Some (digits_value 10 digits) else None

abbrev pub number_below : ℕ → List ℕ → Option ℕ
number_below bound text = digits_below bound (without_leading_plus text)

-- a prefix length
abbrev pub length_by : List ℕ → Result ℕ (List ℕ)
length_by text = ok_or (number_below 129 text) (misuse_text text NoLength [])

-- how many networks free is to tell at most: as the value of --count says, or all by --all, or the first
abbrev pub count_by : List ℕ → Result ℕ (List ℕ)
count_by text = ok_or (number_below (2 ^ 64) text) (misuse_text text NoCount [])

abbrev pub most_by : Bool → Option (List ℕ) → Result (Option ℕ) (List ℕ)
most_by false None = Ok (Some 1)
most_by true None = Ok None
most_by false (Some text) = and_then (count_by text) (λ count. Ok (Some count))
most_by true (Some text) = Err (misuse_text (codes "--all") Extra (codes "free"))

-- an option with a value that is not given; else it does not go with another one of acl
abbrev pub not_given : List ℕ → Misfit → Option (List ℕ) → Result (Unit {0}) (List ℕ)
not_given option why None = Ok tt
not_given option why (Some value) = Err (misuse_text option why (codes "acl"))

abbrev pub without_value : List ℕ → Misfit → List (List ℕ) → Result (Unit {0}) (List ℕ)
without_value option why values = and_then (option_value verb.Acl option values) (λ found. not_given option why found)

-- what is asked of an access list, by whether --shadowed is given and by the value of --diff: which addresses are permitted, in a
-- style; the rules that no address reaches, which have no style; or what it permits and another one does not, whose lines have a format
abbrev pub question_by : Bool → Option (List ℕ) → List (List ℕ) → Result Question (List ℕ)
question_by false None values = and_then (style_in_values verb.Acl values) (λ style. Ok (Permitted style))
question_by true None values = and_then (without_value (codes "--format") WithShadowed values)
    (λ _. and_then (without_value (codes "--prefix") WithShadowed values)
    (λ _. and_then (without_value (codes "--suffix") WithShadowed values) (λ _. Ok Shadowed)))
question_by false (Some old) values = and_then (line_format_in verb.Acl values) (λ format. and_then (without_value (codes "--prefix") WithDiff values)
    (λ _. and_then (without_value (codes "--suffix") WithDiff values) (λ _. Ok (Compared format old))))
question_by true (Some old) values = Err (misuse_text (codes "--shadowed") Extra (codes "acl"))

-- the command help, of a command or of all
abbrev pub help_request : List (List ℕ) → Result Request (List ℕ)
help_request [] = Ok (Help None)
help_request (word ∷ words) = and_then (named_verb word) (λ command. Ok (Help (Some command)))

-- what parts the fields of lines: one byte, or white space
abbrev pub separator_by : Misfit → List ℕ → Option (List ℕ) → Result Separator (List ℕ)
separator_by why command None = Ok WhiteSpace
separator_by why command (Some (byte ∷ [])) = Ok (Byte byte)
separator_by why command (Some text) = Err (misuse_text text why command)

-- the index of a field, counted from 0, by its number, from 1 on
abbrev pub before : ℕ → Option ℕ
before zero = None
before (suc n) = Some n

abbrev pub place_by : List ℕ → Option ℕ
place_by number = option_and_then before (number_below (2 ^ 64) number)

-- the field at this index, if the number was one, with what parts it from others
abbrev pub column_at : List ℕ → Option ℕ → Option (List ℕ) → Result Column (List ℕ)
column_at number None separator = Err (misuse_text number NoNumber [])
column_at number (Some place) separator = and_then (separator_by NoByte [] separator) (λ parted. Ok (record { place = place; separator = parted }))

abbrev pub column_by : List ℕ → Option (List ℕ) → Result Column (List ℕ)
column_by number separator = column_at number (place_by number) separator

-- the field that match and look read, if one is told: by the value of --field, whether --any is given, and the value of --separator
abbrev pub field_by : Verb → Option (List ℕ) → Bool → Option (List ℕ) → Result (Option Column) (List ℕ)
field_by command None any None = Ok None
field_by command None any (Some separator) = Err (misuse_text (codes "--separator") NoField (name_of command))
field_by command (Some number) false separator = and_then (column_by number separator) (λ column. Ok (Some column))
field_by command (Some number) true separator = Err (misuse_text (codes "--field") Anywhere (name_of command))

abbrev pub field_in : Verb → Parts → Result (Option Column) (List ℕ)
field_in command parts = and_then (option_value command (codes "--field") parts.values) (λ number. and_then (option_value command (codes "--separator") parts.values)
    (λ separator. field_by command number (has (codes "--any") parts.options) separator))

-- the command match, of several files where there is a third operand, and else of one or of the standard input
abbrev pub match_by : Picking → List (List ℕ) → Option (List ℕ) → Request
match_by picking operands None = Match picking (operand_or operands 0 []) (operand_or operands 1 input_name)
match_by picking operands (Some third) = MatchEach picking (operand_or operands 0 []) (drop 1 operands)

-- the layout of a form of this name
abbrev pub named_layout : Verb → List ℕ → Result RowLayout (List ℕ)
named_layout command name = if is_word (codes "pfx2as") name then Ok Pfx2as
    else if is_word (codes "routes") name then Ok (Routes Ipv4)
    else if is_word (codes "routes6") name then Ok (Routes Ipv6)
    else Err (misuse_text name NoForm (name_of command))

-- that of fields of which two are told
abbrev pub columns_by : Verb → Separator → List ℕ → Option ℕ → Option ℕ → Result RowLayout (List ℕ)
columns_by command separator numbers (Some network) (Some value) = Ok (Columns (record { separator = separator; network = network; value = value }))
columns_by command separator numbers network value = Err (misuse_text numbers NoFields (name_of command))

-- by their numbers, with a comma between them; or else that of a network and the rest
abbrev pub is_comma : ℕ → Bool
is_comma byte = byte == 44

abbrev pub fields_by : Verb → Separator → Option (List ℕ) → Result RowLayout (List ℕ)
fields_by command separator None = Ok (Fields separator)
fields_by command separator (Some numbers) =
    columns_by command separator numbers (place_by (before_first is_comma numbers)) (place_by (after_first is_comma numbers))

-- how the rows of a table are laid out, by the values of --form, --table-separator and --table-fields: the first with none of these
abbrev pub layout_by : Verb → Option (List ℕ) → Option (List ℕ) → Option (List ℕ) → Result RowLayout (List ℕ)
layout_by command None separator numbers = and_then (separator_by NotOneByte (name_of command) separator) (λ parted. fields_by command parted numbers)
layout_by command (Some name) None None = named_layout command name
layout_by command (Some name) (Some separator) numbers = Err (misuse_text (codes "--table-separator") WithForm (name_of command))
layout_by command (Some name) None (Some numbers) = Err (misuse_text (codes "--table-fields") WithForm (name_of command))

-- how they are read, whose values are told in the format that is asked for
abbrev pub form_in : Verb → List (List ℕ) → Result RowForm (List ℕ)
form_in command values = and_then (option_value command (codes "--form") values) (λ name. and_then (option_value command (codes "--table-separator") values)
    (λ separator. and_then (option_value command (codes "--table-fields") values) (λ numbers. and_then (layout_by command name separator numbers)
    (λ layout. and_then (line_format_in command values) (λ format. Ok (record { layout = layout; values = format }))))))

-- lines are kept, if at all, in text alone
abbrev pub may_keep : LineFormat → Bool → Result (Unit {0}) (List ℕ)
may_keep by_line.Plain keeps = Ok tt
may_keep by_line.Json false = Ok tt
may_keep by_line.Json true = Err (misuse_text (codes "--keep") WithJson (codes "look"))

-- the first operand, and the second one
abbrev pub first_of : Parts → List ℕ
first_of parts = operand_or parts.operands 0 []

abbrev pub second_of : Parts → List ℕ
second_of parts = operand_or parts.operands 1 []

-- a command with as many operands as it takes
abbrev pub verb_request : Verb → Parts → Result Request (List ℕ)
verb_request (verb.Lists operation) parts = lists_request operation parts.values parts.operands
verb_request verb.Diff parts = and_then (line_format_in verb.Diff parts.values) (λ format. Ok (Diff format (first_of parts) (second_of parts)))
verb_request verb.Same parts = and_then (form_in verb.Same parts.values) (λ form. Ok (Same form (first_of parts) (second_of parts)))
verb_request verb.Free parts = and_then (length_by (second_of parts)) (λ n. and_then (option_value verb.Free (codes "--count") parts.values)
    (λ count. and_then (most_by (has (codes "--all") parts.options) count) (λ most. and_then (style_in_values verb.Free parts.values)
    (λ style. Ok (Free style most (first_of parts) n (drop 2 parts.operands))))))
verb_request verb.Acl parts = and_then (option_value verb.Acl (codes "--diff") parts.values) (λ old. and_then (question_by (has (codes "--shadowed") parts.options) old parts.values)
    (λ asked. Ok (Acl asked (first_of parts))))
verb_request verb.Check parts = Ok (Check parts.operands)
verb_request verb.Which parts = Ok (Which (first_of parts) (drop 1 parts.operands))
verb_request verb.Match parts = and_then (field_in verb.Match parts) (λ column. Ok (match_by (picking_of parts.options column) parts.operands (slice_get parts.operands 2)))
verb_request verb.Look parts = and_then (field_in verb.Look parts) (λ column. and_then (form_in verb.Look parts.values)
    (λ form. and_then (may_keep form.values (has (codes "--keep") parts.options))
    (λ _. Ok (Look (seeking_of parts.options column form) (first_of parts) (operand_or parts.operands 1 input_name)))))
verb_request verb.Compile parts = and_then (form_in verb.Compile parts.values) (λ form. Ok (Compile form (first_of parts) (second_of parts)))
verb_request verb.Smallest parts = and_then (form_in verb.Smallest parts.values) (λ form. Ok (Smallest (has (codes "--holes") parts.options) form (first_of parts)))
verb_request (verb.Describe what) parts = Ok (Describe what (first_of parts))
verb_request verb.Class parts = Ok (Class (first_of parts))
verb_request verb.Show parts = Ok (Single (Show (first_of parts)))
verb_request verb.Split parts = and_then (style_in_values verb.Split parts.values) (λ style. and_then (length_by (second_of parts))
    (λ n. Ok (Split style (first_of parts) (second_of parts) n)))
verb_request verb.Nth parts = Ok (Single (Nth (first_of parts) (second_of parts)))
verb_request verb.Help parts = help_request parts.operands
verb_request verb.Version parts = Ok Version

-- the first operand that is missing, by its name on the page, and the first one too many
abbrev pub missing_operand : Verb → List (List ℕ) → Option (List ℕ)
missing_operand command operands = slice_get (command_row command).needed (length operands)

abbrev pub extra_operand : Verb → List (List ℕ) → Option (List ℕ)
extra_operand command operands = option_and_then (λ (most : ℕ). slice_get operands most) (command_row command).most

-- a command, where this operand is missing or too many
abbrev pub counted_request : Verb → Parts → Option (List ℕ) → Option (List ℕ) → Result Request (List ℕ)
counted_request command parts (Some name) more = Err (misuse_text name Missing (name_of command))
counted_request command parts None (Some word) = Err (misuse_text word Extra (name_of command))
counted_request command parts None None = verb_request command parts

-- an option asks for the page of the command
abbrev pub asks_help : List (List ℕ) → Bool
asks_help options = has (codes "-h") options || has (codes "--help") options

-- the request of a command and its parts: its page, if that is asked for
abbrev pub part_request : Verb → Parts → Result Request (List ℕ)
part_request command parts = if asks_help parts.options then Ok (Help (Some command))
    else counted_request command parts (missing_operand command parts.operands) (extra_operand command parts.operands)

-- the file that the answer is written to, by whether -k and --skip-bad are given: the latter goes with none
abbrev pub target_by : Verb → Bool → Bool → Option (List ℕ) → Result (Option (List ℕ)) (List ℕ)
target_by command keeps false target = Ok target
target_by command true true target = Err (misuse_text (codes "-k") Skipping (name_of command))
target_by command false true (Some name) = Err (misuse_text (codes "-o") Skipping (name_of command))
target_by command false true None = Ok None

-- the same of these options; a page is written to standard output
abbrev pub target_in : Verb → Parts → Result (Option (List ℕ)) (List ℕ)
target_in command parts = if asks_help parts.options then Ok None else and_then (option_value command (codes "-o") parts.values)
    (λ target. target_by command (has (codes "-k") parts.options) (has (codes "--skip-bad") parts.options) target)

-- the form of lists, by the value of --form: networks, read as other options say, which go with no other form
abbrev pub named_list_form : Verb → List (List ℕ) → List ℕ → Result ListForm (List ℕ)
named_list_form command options name = if not (is_word (codes "rir") name) then Err (misuse_text name NoListForm (name_of command))
    else if has (codes "--host-bits") options then Err (misuse_text (codes "--host-bits") WithForm (name_of command))
    else if has (codes "--masks") options then Err (misuse_text (codes "--masks") WithForm (name_of command))
    else Ok Rir

abbrev pub list_form_by : Verb → List (List ℕ) → Option (List ℕ) → Result ListForm (List ℕ)
list_form_by command options None = Ok (Networks (bits_of options))
list_form_by command options (Some name) = named_list_form command options name

-- the same of these options; of a command that reads tables --form tells that of their rows
abbrev pub reads_tables : Verb → Bool
reads_tables command = takes_value command (codes "--table-separator")

abbrev pub list_form_in : Verb → Parts → Result ListForm (List ℕ)
list_form_in command parts = if asks_help parts.options || reads_tables command then Ok (Networks (bits_of parts.options))
    else and_then (option_value command (codes "--form") parts.values) (λ name. list_form_by command parts.options name)

-- how they are read
abbrev pub reading_in : Verb → Parts → Result Reading (List ℕ)
reading_in command parts = and_then (list_form_in command parts) (λ form. Ok (reading_of form parts.options))

-- how lists are read, the file that the answer is written to, if one is named, and the request
abbrev pub Line : Type 0
Line = Reading × (Option (List ℕ) × Request)

-- these of a command and its parts
abbrev pub read_request : Verb → Parts → Result Line (List ℕ)
read_request command parts = and_then (part_request command parts)
    (λ request. and_then (target_in command parts) (λ target. and_then (reading_in command parts) (λ reading. Ok (reading, (target, request)))))

-- the same of a command line, or the line that says what is wrong with it
abbrev pub line_request : List (List ℕ) → Result Line (List ℕ)
line_request words = and_then (line_parts words) (λ line. read_request line.0 line.1)
