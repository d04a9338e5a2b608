-- Requests as they are mostly typed, and what a run of one has written that ends with status 0 or 1: its answer, and nothing
-- else.
use Rattle.std.specs.Prelude.{◌≡◌, ◌⊎◌, ◌&&◌, ◌||◌, ℕ, ◌+◌, ◌≤◌, decimal, true, false, List, [], ◌∷◌, ◌++◌, codes, Option, Some, None}
use Rattle.std.specs.List.{flat_map, list_all, list_any}
use Rattle.cidr.specs.declared.family.Family.TheVariants.{Ipv4, Ipv6}
use Rattle.cidr_io.specs.Writing.{State, Whole, Tells}
use Rattle.cidr_lists.specs.declared.columns.Column.{Column}
use Rattle.cidr_lists.specs.declared.columns.Separator.{Separator}
use Rattle.cidr_lists.specs.declared.columns.Separator.TheVariants.{WhiteSpace, Byte}
use Rattle.cidr_lists.specs.declared.formats.LineFormat.TheVariants.{Plain, Json}
use Rattle.cidr_lists.specs.declared.forms.RowLayout.{RowLayout}
use Rattle.cidr_lists.specs.declared.forms.RowLayout.TheVariants.{Fields, Columns, Pfx2as, Routes}
use Rattle.cidr_lists.specs.declared.records.ListForm.TheVariants.{Networks}
use Rattle.cidr_lists.specs.Forms.{HasNumbers}
use Rattle.cidr_lists.specs.Formats.{IsBare, Style, format_name, line_style}
use Rattle.cidr_lists.specs.Rules.{compared_with, is_shadowed, style_asked}
use Rattle.netset_commands.specs.Arguments.{asks_help, is_option, missing_operand, takes}
use Rattle.netset_commands.specs.Commands.{Request, Lists, Styled, NotIn, Diff, Same, Free, Acl, Split, Check, Which, Match, MatchEach, Look, Compile, Smallest, Describe, Class, Single, Help, Version, IsAnswer, bits_of, headed_tables, input_name}
use Rattle.netset_commands.specs.Free.{IsMost}
use Rattle.netset_commands.specs.Matching.{has}
use Rattle.netset_commands.specs.Picking.{IsFieldPlace, picking_of, seeking_of}
use Rattle.netset_commands.specs.Program.{answer_status, contents_in, headed}
use Rattle.netset_commands.specs.Single.{IsNumber, Show, Nth}
use Rattle.netset_commands.specs.Table.{name_of, takes_value}
use Rattle.netset_commands.specs.declared.commands.operations.Operation.TheVariants.{Not}
use Rattle.netset_commands.specs.declared.commands.table.Verb.{Verb}
use Rattle.netset_commands.specs.declared.commands.table.Verb.TheVariants as verb
use Rattle.netset_commands.specs.declared.output.answers.Verdict.{Verdict}

-- the words are a command, options that it has, none of which asks for its page, and not both -k and --skip-bad, an option with
-- its value or none, and as many operands as it needs: words that don't begin with -, or - itself
abbrev pub AreTyped : Verb → List (List ℕ) → List (List ℕ) → List (List ℕ) → List (List ℕ) → Type 0
AreTyped command options valued operands words = (words ≡ name_of command ∷ (options ++ (valued ++ operands)))
    × (list_all (takes command) options ≡ true) × ((asks_help options || (has (codes "-k") options && has (codes "--skip-bad") options)) ≡ false)
    × (list_any is_option operands ≡ false) × (missing_operand command operands ≡ None)

-- the same of a list and a file, or without the file of a list and the standard input
abbrev pub AreTypedFor : Verb → List (List ℕ) → List (List ℕ) → List ℕ → List ℕ → List (List ℕ) → Type 0
AreTypedFor command options valued list file words = AreTyped command options valued (list ∷ file ∷ []) words ⊎ ((file ≡ input_name) × AreTyped command options valued (list ∷ []) words)

-- the option that tells what parts fields, with its value
abbrev pub separator_words : List ℕ → Separator → List (List ℕ)
separator_words name WhiteSpace = []
separator_words name (Byte separator) = name ∷ (separator ∷ []) ∷ []

-- the options of `match` and `look` that tell the field, with their values, the number of the field among them; --any goes with none of
-- them
abbrev pub field_words : List ℕ → Option Column → List (List ℕ)
field_words number None = []
field_words number (Some column) = codes "--field" ∷ number ∷ separator_words (codes "--separator") column.separator

abbrev pub IsField : List (List ℕ) → List ℕ → Option Column → Type 0
IsField options number None = Unit {0}
IsField options number (Some column) = (has (codes "--any") options ≡ false) × IsFieldPlace number column.place

-- the option of `free` that tells how many networks, with its value
abbrev pub count_words : Option (List ℕ) → List (List ℕ)
count_words None = []
count_words (Some count) = codes "--count" ∷ count ∷ []

-- the options of `look`, `compile`, `same` and `smallest` that tell how the rows of a table are laid out, with their values
abbrev pub layout_words : RowLayout → List (List ℕ)
layout_words (Fields separator) = separator_words (codes "--table-separator") separator
layout_words (Columns columns) = separator_words (codes "--table-separator") columns.separator ++ codes "--table-fields" ∷ (decimal (columns.network + 1) ++ 44 ∷ decimal (columns.value + 1)) ∷ []
layout_words Pfx2as = codes "--form" ∷ codes "pfx2as" ∷ []
layout_words (Routes Ipv4) = codes "--form" ∷ codes "routes" ∷ []
layout_words (Routes Ipv6) = codes "--form" ∷ codes "routes6" ∷ []

-- the option that tells a style, with its value
abbrev pub style_words : Option Style → List (List ℕ)
style_words None = []
style_words (Some style) = codes "--format" ∷ format_name style.format ∷ []

-- these words, with these options, are a request
abbrev pub IsTyped : List (List ℕ) → List (List ℕ) → Request → Type 0
IsTyped words options (Lists operation files) = AreTyped (verb.Lists operation) options [] files words
IsTyped words options (Styled style operation files) = IsBare (Some style) × (takes_value (verb.Lists operation) (codes "--format") ≡ true)
    × AreTyped (verb.Lists operation) options (style_words (Some style)) files words
IsTyped words options (NotIn style net files) = IsBare style × AreTyped (verb.Lists Not) options (codes "--in" ∷ net ∷ style_words style) files words
IsTyped words options (Diff format old new) = AreTyped verb.Diff options (style_words (line_style format)) (old ∷ new ∷ []) words
IsTyped words options (Same form old new) = (form.values ≡ Plain) × HasNumbers form.layout × AreTyped verb.Same options (layout_words form.layout) (old ∷ new ∷ []) words
IsTyped words options (Free style most pool n used) = IsBare style × (count : Option (List ℕ)) × IsMost (has (codes "--all") options) count most
    × (len : List ℕ) × (IsNumber len n × (n ≤ 128)) × AreTyped verb.Free options (count_words count ++ style_words style) (pool ∷ len ∷ used) words
IsTyped words options (Acl asked file) = (has (codes "--shadowed") options ≡ is_shadowed asked) × IsBare (style_asked asked)
    × AreTyped verb.Acl options (flat_map (λ old. codes "--diff" ∷ old ∷ []) (compared_with asked) ++ style_words (style_asked asked)) (file ∷ []) words
IsTyped words options (Split style operand len n) = IsBare style × (IsNumber len n × (n ≤ 128)) × AreTyped verb.Split options (style_words style) (operand ∷ len ∷ []) words
IsTyped words options (Check files) = AreTyped verb.Check options [] files words
IsTyped words options (Which address files) = AreTyped verb.Which options [] (address ∷ files) words
IsTyped words options (Match picking list file) = (number : List ℕ) × (column : Option Column) × (picking ≡ picking_of options column) × IsField options number column
    × AreTypedFor verb.Match options (field_words number column) list file words
IsTyped words options (MatchEach picking list (first ∷ second ∷ files)) = (number : List ℕ) × (column : Option Column) × (picking ≡ picking_of options column) × IsField options number column
    × AreTyped verb.Match options (field_words number column) (list ∷ first ∷ second ∷ files) words
IsTyped words options (MatchEach picking list files) = ⊥
IsTyped words options (Look seeking table file) = (number : List ℕ) × (column : Option Column) × (seeking ≡ seeking_of options column seeking.form) × IsField options number column
    × (seeking.form.values ≡ Json → has (codes "--keep") options ≡ false) × HasNumbers seeking.form.layout
    × AreTypedFor verb.Look options (field_words number column ++ (layout_words seeking.form.layout ++ style_words (line_style seeking.form.values))) table file words
IsTyped words options (Compile form table name) = (form.values ≡ Plain) × HasNumbers form.layout × AreTyped verb.Compile options (layout_words form.layout) (table ∷ name ∷ []) words
IsTyped words options (Smallest holes form table) = (has (codes "--holes") options ≡ holes) × (form.values ≡ Plain) × HasNumbers form.layout × AreTyped verb.Smallest options (layout_words form.layout) (table ∷ []) words
IsTyped words options (Describe what operand) = AreTyped (verb.Describe what) options [] (operand ∷ []) words
IsTyped words options (Class operand) = AreTyped verb.Class options [] (operand ∷ []) words
IsTyped words options (Single (Show host)) = AreTyped verb.Show options [] (host ∷ []) words
IsTyped words options (Single (Nth net place)) = AreTyped verb.Nth options [] (net ∷ place ∷ []) words
IsTyped words options (Help None) = AreTyped verb.Help options [] [] words
IsTyped words options (Help (Some command)) = AreTyped verb.Help options [] (name_of command ∷ []) words
IsTyped words options Version = AreTyped verb.Version options [] [] words

-- a run with these arguments, whose status is that of an answer, has written this answer whole, its lists read as the options
-- say, and told nothing of an error
abbrev pub AnswersTyped : Option (List (List ℕ)) → (List ℕ → Option (List ℕ)) → State → State → State → State → ℕ → Type 0
AnswersTyped words contents out new_out err new_err status = (given options : List (List ℕ)) (request : Request) (verdict : Verdict)
    → words ≡ Some given → IsTyped given options request → status ≡ answer_status verdict
    → (answer : List ℕ) × IsAnswer (contents_in (Networks (bits_of options)) (headed (headed_tables request (has (codes "--table-header") options)) contents)) request answer verdict
    × Whole out new_out answer × Tells err new_err []
