-- The request that a command of the program is.
use Rattle.std.specs.Prelude.{◌≡◌, ℕ, Bool, true, List, map, Option, option_map, Result, Ok, Err, MatchResult}
use Rattle.cidr_lists.specs.Formats.{style_in}
use Rattle.cidr_lists.specs.Rules.{Question, Permitted, Shadowed, Compared}
use Rattle.netset_commands.specs.Arguments.{Line, Parts, joined_arguments, misuse_text}
use Rattle.netset_commands.specs.Commands.{Request, Lists, Styled, NotIn, Diff, Same, Free, Acl, Split, Check, Which, Match, MatchEach, Look, Compile, Smallest, Describe, Class, Single as ASingle, Help, Version}
use Rattle.netset_commands.specs.Table.{texts}
use Rattle.netset_commands.specs.declared.commands.acl.Question.{Question as GivenQuestion}
use Rattle.netset_commands.specs.declared.commands.acl.Question.TheVariants as question
use Rattle.netset_commands.specs.declared.commands.arguments.Given.{Given}
use Rattle.netset_commands.specs.declared.commands.arguments.Line.{Line as GivenLine}
use Rattle.netset_commands.specs.declared.commands.arguments.Next.{Next}
use Rattle.netset_commands.specs.declared.commands.arguments.Parts.{Parts as GivenParts}
use Rattle.netset_commands.specs.declared.errors.Misuse.{Misuse}
use Rattle.netset_commands.specs.declared.errors.UsageError.{UsageError}
use Rattle.netset_commands.specs.declared.errors.UsageError.TheVariants as wrong
use Rattle.netset_commands.specs.Single.{SingleRequest, Show, Nth}
use Rattle.netset_commands.specs.declared.commands.Command.{Command}
use Rattle.netset_commands.specs.declared.commands.Command.TheVariants as command
use Rattle.netset_commands.specs.declared.commands.single.Single.{Single}
use Rattle.netset_commands.specs.declared.commands.single.Single.TheVariants as single
use denote.Ref.{Bor}

-- the same command on one host or network with the bytes of its arguments
abbrev pub single_request : Single → SingleRequest
single_request (single.Show host) = Show host.now
single_request (single.Nth net place) = Nth net.now place.now

-- a value that is given, by its bytes
abbrev pub given : Option (Bor (List ℕ)) → Option (List ℕ)
given word = option_map (λ (w : Bor (List ℕ)). w.now) word

-- what is asked of an access list, with the bytes of the arguments
abbrev pub question_of : GivenQuestion → Question
question_of (question.Permitted style) = Permitted (option_map (λ s. style_in s) style)
question_of question.Shadowed = Shadowed
question_of (question.Compared format old) = Compared format old.now

-- the same command with the bytes of its arguments
abbrev pub request_of : Command → Request
request_of (command.Lists operation files) = Lists operation (map (λ file. file.now) files.now)
request_of (command.Styled style operation files) = Styled (style_in style) operation (map (λ file. file.now) files.now)
request_of (command.NotIn style net files) = NotIn (option_map (λ s. style_in s) style) net.now (map (λ file. file.now) files.now)
request_of (command.Diff format old new) = Diff format old.now new.now
request_of (command.Same form old new) = Same form old.now new.now
request_of (command.Free style most pool n used) = Free (option_map (λ s. style_in s) style) most pool.now n (map (λ file. file.now) used.now)
request_of (command.Acl asked file) = Acl (question_of asked) file.now
request_of (command.Split style operand len n) = Split (option_map (λ s. style_in s) style) operand.now len.now n
request_of (command.Check files) = Check (map (λ file. file.now) files.now)
request_of (command.Which address files) = Which address.now (map (λ file. file.now) files.now)
request_of (command.Match picking list file) = Match picking list.now file.now
request_of (command.MatchEach picking list files) = MatchEach picking list.now (map (λ file. file.now) files.now)
request_of (command.Look seeking table file) = Look seeking table.now file.now
request_of (command.Compile form table name) = Compile form table.now name.now
request_of (command.Smallest holes form table) = Smallest holes form table.now
request_of (command.Describe what operand) = Describe what operand.now
request_of (command.Class operand) = Class operand.now
request_of (command.Single single) = ASingle (single_request single)
request_of (command.Help topic) = Help topic
request_of command.Version = Version

-- ---- what private functions promise of arguments
-- the same line with the bytes of its arguments
abbrev pub line_in : GivenLine → Line
line_in line = (line.reading, (given line.target, request_of line.command))

-- the parts of words by their bytes
abbrev pub given_parts : GivenParts → Parts
given_parts parts = record { options = texts parts.options.items; values = texts parts.values.items; operands = texts parts.operands.items }

abbrev pub parts_in : Given → Parts
parts_in parts = record { options = texts parts.options.now; values = texts parts.values.now; operands = texts parts.operands.now }

-- the line of a word that is wrong
abbrev pub misuse_line : Misuse → List ℕ
misuse_line misuse = misuse_text misuse.word.now misuse.why misuse.command.now

-- this was made of words that mean something, or it is told what is wrong with them
abbrev pub Means : {A B : Type 0} → Result B (List ℕ) → (A → B) → Result A Misuse → Type 0
Means meant view r = MatchResult r (λ made. meant ≡ Ok (view made)) (λ misuse. meant ≡ Err (misuse_line misuse))

-- arguments have an error: this line, or an allocation was refused
abbrev pub IsUsageError : {A : Type 0} → Result A (List ℕ) → Bool → UsageError → Type 0
IsUsageError found refused (wrong.Misuse misuse) = found ≡ Err (misuse_line misuse)
IsUsageError found refused wrong.NoMemory = refused ≡ true

-- what was to be added to parts stands behind them
abbrev pub AddsParts : Parts → Parts → Result (Parts × Next) (List ℕ) → Next → Type 0
AddsParts old new found next = (one : Parts) × (found ≡ Ok (one, next)) × (new ≡ joined_arguments old one)
