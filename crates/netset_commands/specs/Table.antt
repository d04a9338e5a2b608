-- The table of the commands, and the pages of help that it makes.
use Rattle.std.specs.Prelude.{ℕ, Bool, if◌then◌else◌, ◌||◌, List, [], ◌∷◌, ◌++◌, map, codes, Option, Some, None}
use Rattle.std.specs.List.{concat, flat_map}
use Rattle.netset_commands.specs.Matching.{has}
use Rattle.netset_commands.specs.declared.commands.describe.Description.{Description}
use Rattle.netset_commands.specs.declared.commands.describe.Description.TheVariants.{Zones, Masks}
use Rattle.netset_commands.specs.declared.commands.operations.Operation.{Operation}
use Rattle.netset_commands.specs.declared.commands.operations.Operation.TheVariants.{Merge, Minus, And, Not, Ranges, Count}
use Rattle.netset_commands.specs.declared.commands.table.TheConstants.{COMMANDS, MERGE, MINUS, AND, NOT, RANGES, COUNT, DIFF, SAME, FREE, ACL, CHECK, WHICH, MATCH, LOOK, COMPILE, SMALLEST, REVERSE, MASK, CLASS, SHOW, SPLIT, NTH, HELP, VERSION, OPTIONS, HOST_BITS, KEEP_GOING, SKIP_BAD, FORMS, TABLE_SEPARATOR, FORMAT, OUTPUT, LISTS}
use Rattle.netset_commands.specs.declared.commands.table.Verb.{Verb}
use Rattle.netset_commands.specs.declared.commands.table.Verb.TheVariants.{Lists, Diff, Same, Free, Acl, Check, Which, Match, Look, Compile, Smallest, Describe, Class, Show, Split, Nth, Help, Version}
use denote.Ref.{Bor}

-- the bytes of some words
abbrev pub texts : List (Bor (List ℕ)) → List (List ℕ)
texts words = map (λ (word : Bor (List ℕ)). word.now) words

-- the commands
unfoldable pub commands : List Verb
commands = COMMANDS

-- ---- the row of a command
-- its name, its options without a value and those with one, the operands that it needs, by their names on the page, how many it
-- takes at most, and what the page says of it
pub record Row : Type 0 where
  pub name : List ℕ
  pub options : List (List ℕ)
  pub values : List (List ℕ)
  pub needed : List (List ℕ)
  pub most : Option ℕ
  pub about : List ℕ

abbrev pub row : List ℕ → List (List ℕ) → List (List ℕ) → List (List ℕ) → Option ℕ → List ℕ → Row
row name options values needed most about = record { name = name; options = options; values = values; needed = needed; most = most; about = about }

-- the options without a value: of the commands that read lists of networks, of the others that read lists, and of all others
abbrev pub list_options : List (List ℕ)
list_options = codes "--host-bits" ∷ codes "--masks" ∷ codes "-k" ∷ codes "--skip-bad" ∷ codes "-h" ∷ codes "--help" ∷ []

abbrev pub keep_options : List (List ℕ)
keep_options = codes "-k" ∷ codes "--skip-bad" ∷ codes "-h" ∷ codes "--help" ∷ []

abbrev pub help_options : List (List ℕ)
help_options = codes "-h" ∷ codes "--help" ∷ []

-- the options with a value: how networks are written, and the file that the answer is written to, or the file alone
abbrev pub style_values : List (List ℕ)
style_values = codes "--format" ∷ codes "--prefix" ∷ codes "--suffix" ∷ codes "-o" ∷ []

abbrev pub output_values : List (List ℕ)
output_values = codes "-o" ∷ []

-- the same with the form of lists
abbrev pub list_values : List (List ℕ)
list_values = codes "--form" ∷ style_values

-- the operands of the commands that need two lists
abbrev pub two_lists : List (List ℕ)
two_lists = codes "A" ∷ codes "B" ∷ []

-- of an operation on lists its name, the options with a value, the operands that it needs and what the page says
abbrev pub lists_row : Operation → List ℕ × (List (List ℕ) × (List (List ℕ) × List ℕ))
lists_row Merge = (codes "merge", (list_values, ([], MERGE.now)))
lists_row Minus = (codes "minus", (list_values, (two_lists, MINUS.now)))
lists_row And = (codes "and", (list_values, (two_lists, AND.now)))
lists_row Not = (codes "not", (codes "--in" ∷ list_values, ([], NOT.now)))
lists_row Ranges = (codes "ranges", (codes "--form" ∷ output_values, ([], RANGES.now)))
lists_row Count = (codes "count", (codes "--form" ∷ output_values, ([], COUNT.now)))

-- of what is told of networks its name, the operand that it needs and what the page says
abbrev pub told_row : Description → List ℕ × (List (List ℕ) × List ℕ)
told_row Zones = (codes "reverse", (codes "NET|FILE" ∷ [], REVERSE.now))
told_row Masks = (codes "mask", (codes "NET|LEN|MASK|FILE" ∷ [], MASK.now))

abbrev pub command_row : Verb → Row
command_row (Lists op) = row (lists_row op).0 list_options (lists_row op).1.0 (lists_row op).1.1.0 None (lists_row op).1.1.1
command_row (Describe what) = row (told_row what).0 list_options (codes "--form" ∷ output_values) (told_row what).1.0 (Some 1) (told_row what).1.1
command_row Diff = row (codes "diff") list_options (codes "--form" ∷ codes "--format" ∷ output_values) two_lists (Some 2) DIFF.now
command_row Same = row (codes "same") (codes "--table-header" ∷ list_options) (codes "--form" ∷ codes "--table-separator" ∷ codes "--table-fields" ∷ output_values) two_lists (Some 2) SAME.now
command_row Free = row (codes "free") (codes "--all" ∷ list_options) (codes "--count" ∷ list_values) (codes "POOL" ∷ codes "LEN" ∷ []) None FREE.now
command_row Acl = row (codes "acl") (codes "--shadowed" ∷ codes "--host-bits" ∷ codes "--masks" ∷ help_options) (codes "--diff" ∷ style_values) (codes "RULES" ∷ []) (Some 1) ACL.now
command_row Check = row (codes "check") keep_options [] [] None CHECK.now
command_row Which = row (codes "which") keep_options [] (codes "ADDR" ∷ []) None WHICH.now
command_row Match = row (codes "match") (codes "--any" ∷ codes "--header" ∷ codes "-v" ∷ codes "-c" ∷ codes "-q" ∷ list_options) (codes "--field" ∷ codes "--separator" ∷ codes "--form" ∷ []) (codes "LIST" ∷ []) None MATCH.now
command_row Look = row (codes "look") (codes "--any" ∷ codes "--header" ∷ codes "--keep" ∷ codes "--table-header" ∷ list_options) (codes "--field" ∷ codes "--separator" ∷ codes "--form" ∷ codes "--table-separator" ∷ codes "--table-fields" ∷ codes "--format" ∷ []) (codes "TABLE" ∷ []) (Some 2) LOOK.now
command_row Compile = row (codes "compile") (codes "--table-header" ∷ codes "--host-bits" ∷ codes "--masks" ∷ codes "-k" ∷ help_options) (codes "--form" ∷ codes "--table-separator" ∷ codes "--table-fields" ∷ []) (codes "TABLE" ∷ codes "OUT" ∷ []) (Some 2) COMPILE.now
command_row Smallest = row (codes "smallest") (codes "--holes" ∷ codes "--table-header" ∷ list_options) (codes "--form" ∷ codes "--table-separator" ∷ codes "--table-fields" ∷ output_values) (codes "TABLE" ∷ []) (Some 1) SMALLEST.now
command_row Class = row (codes "class") help_options [] (codes "ADDR|FILE" ∷ []) (Some 1) CLASS.now
command_row Show = row (codes "show") help_options [] (codes "HOST" ∷ []) (Some 1) SHOW.now
command_row Split = row (codes "split") list_options list_values (codes "NET|FILE" ∷ codes "LEN" ∷ []) (Some 2) SPLIT.now
command_row Nth = row (codes "nth") help_options [] (codes "NET" ∷ codes "INDEX" ∷ []) (Some 2) NTH.now
command_row Help = row (codes "help") help_options [] [] (Some 1) HELP.now
command_row Version = row (codes "--version") help_options [] [] (Some 0) VERSION.now

abbrev pub name_of : Verb → List ℕ
name_of command = (command_row command).name

abbrev pub about_of : Verb → List ℕ
about_of command = (command_row command).about

-- it has this option with a value
abbrev pub takes_value : Verb → List ℕ → Bool
takes_value command option = has option (command_row command).values

-- a note on an option, if the command has the option
abbrev pub note_of : Verb → List ℕ → List ℕ → List ℕ
note_of command option note = if has option (command_row command).options || takes_value command option then note else []

-- the page of a command, or of all
abbrev pub help_text : Option Verb → List ℕ
help_text (Some command) =
    concat (about_of command ∷ note_of command (codes "--host-bits") HOST_BITS.now ∷ note_of command (codes "-k") KEEP_GOING.now ∷ note_of command (codes "--skip-bad") SKIP_BAD.now
    ∷ note_of command (codes "--form") FORMS.now ∷ note_of command (codes "--table-separator") TABLE_SEPARATOR.now ∷ note_of command (codes "--prefix") FORMAT.now ∷ note_of command (codes "-o") OUTPUT.now ∷ [])
help_text None = flat_map about_of commands ++ concat (OPTIONS.now ∷ HOST_BITS.now ∷ KEEP_GOING.now ∷ SKIP_BAD.now ∷ FORMS.now ∷ TABLE_SEPARATOR.now ∷ FORMAT.now ∷ OUTPUT.now ∷ LISTS.now ∷ [])
