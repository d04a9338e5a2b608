-- What a run of the program does with its arguments, the files, standard output and standard error.
use Rattle.std.specs.Prelude.{◌≡◌, ◌≢◌, ℕ, ◌≤◌, max, Bool, true, false, if◌then◌else◌, List, [], ◌∷◌, ◌++◌, ◌⊎◌, drop, replicate, codes, Option, Some, None, option_map, Result, Ok, Err, IfErr}
use Rattle.std.specs.List.{AllZip, position_or_len}
use Rattle.cidr.specs.texts.Messages.{parse_message}
use Rattle.cidr.specs.either.IpText.{IsIpNetworkText}
use Rattle.cidr.specs.declared.cidr.combined.IpCidr.{IpCidr}
use Rattle.cidr.specs.declared.family.Family.{Family}
use Rattle.cidr_io.specs.Arguments.{AreArguments, IsNotText}
use Rattle.cidr_io.specs.Shown.{excerpt, shown}
use Rattle.cidr_io.specs.Writing.{State, Answered, Tells}
use Rattle.cidr_io.specs.declared.sink.OutputFailed.{OutputFailed}
use Rattle.cidr_lists.specs.Lists.{Text, text_in, ListSays, IsFirstError, is_line_feed}
use Rattle.netset_commands.specs.Arguments.{Line, line_request}
use Rattle.netset_commands.specs.Commands.{Request, Lists, Styled, NotIn, Diff, Same, Free, Acl, Split, Check, Which, Match, MatchEach, Look, Compile, Smallest, Describe, Class, Single, ReadsInputTwice, headed_tables, input_name, read_files, AreLists, AreTold, HoldsOf, IsAnswer}
use Rattle.cidr_lists.specs.Rules.{compared_with}
use Rattle.netset_commands.specs.Acl.{IsUnreadAcl}
use Rattle.netset_commands.specs.Causes.{Cause, FileFails, Refusals}
use Rattle.netset_commands.specs.Class.{IsClassUntil, IsUnclassed}
use Rattle.netset_commands.specs.Compiled.{IsTooLarge, SaysTable}
use Rattle.netset_commands.specs.Describing.{IsNoLength}
use Rattle.netset_commands.specs.Operands.{IsNoNetworkText, IsUnlisted, IsUnreadOperand, OfOperand}
use Rattle.cidr_lists.specs.Faults.{AreTellings}
use Rattle.netset_commands.specs.Keeping.{IsBegun, IsGoodFile, IsSameReason, reasons_beside, IsLoadError, good_files, kind_of, lined, takes_file}
use Rattle.cidr_lists.specs.Messages.{fault_line, wrong_words}
use Rattle.cidr_lists.specs.Tables.{IsTable}
use Rattle.netset_commands.specs.Look.{IsLookCut, IsUnreadTable}
use Rattle.netset_commands.specs.Smallest.{IsNoHole}
use Rattle.netset_commands.specs.Stored.{HasUnfitRow, IsNoTable, IsNotGiven}
use Rattle.netset_commands.specs.Matching.{has, IsEndedBy, IsEndedIn}
use Rattle.netset_commands.specs.Streaming.{IsCutShort}
use Rattle.netset_commands.specs.Picking.{PicksOf}
use Rattle.netset_commands.specs.Same.{AreUnreadTables}
use Rattle.netset_commands.specs.Single.{HasNone, IsBadSingle, IsNoNetwork}
use Rattle.netset_commands.specs.Unchecked.{IsUnchecked}
use Rattle.netset_commands.specs.Which.{IsNoAddressArgument}
use Rattle.cidr.specs.either.IpAddress.{IsIpText}
use Rattle.cidr.specs.declared.addr.ip.IpAddr.{IpAddr}
use Rattle.netset_commands.specs.declared.errors.ArgumentError.{ArgumentError}
use Rattle.netset_commands.specs.declared.errors.ArgumentError.TheVariants as bad
use Rattle.netset_commands.specs.declared.errors.Unsaved.{Unsaved}
use Rattle.netset_commands.specs.declared.errors.Unsaved.TheVariants as unsaved
use Rattle.netset_commands.specs.declared.errors.FileError.{FileError}
use Rattle.netset_commands.specs.declared.errors.FileError.TheVariants.{TooLarge, NotSaved, Hole, Unlike, Old, Version, Short, Long, Changed}
use Rattle.netset_commands.specs.declared.commands.AtFault.{AtFault}
use Rattle.netset_commands.specs.declared.commands.AtFault.TheVariants.{Stop, Tell, Skip}
use Rattle.netset_commands.specs.declared.commands.Reading.{Reading}
use Rattle.netset_commands.specs.declared.commands.picking.Picking.{Picking}
use Rattle.netset_commands.specs.declared.commands.picking.Seeking.{Seeking}
use Rattle.cidr_lists.specs.declared.forms.RowForm.{RowForm}
use Rattle.cidr_lists.specs.declared.lines.HostBits.{HostBits}
use Rattle.cidr_lists.specs.declared.records.ListForm.{ListForm}
use Rattle.cidr_lists.specs.declared.records.ListForm.TheVariants.{Networks}
use Rattle.netset_commands.specs.declared.output.answers.Verdict.{Verdict}
use Rattle.netset_commands.specs.declared.output.answers.Verdict.TheVariants.{Yes, No}
use Rattle.netset_commands.specs.declared.input.keeping.Kept.{Kept}
use Rattle.netset_commands.specs.declared.errors.Reason.{Reason}
use Rattle.netset_commands.specs.declared.errors.Reason.TheVariants.{NotFound, Denied, Directory, Unknown}
use Rattle.netset_commands.specs.declared.errors.CommandError.{CommandError}
use Rattle.netset_commands.specs.declared.errors.CommandError.TheVariants as error

-- one of these files is the first whose list is not read: those before it say their networks
abbrev pub StopsAt : (List ℕ → Option Text) → List (List ℕ) → List ℕ → Type 0
StopsAt contents names name = (before : List (List ℕ)) × (after : List (List ℕ)) × (names ≡ before ++ name ∷ after)
    × ((texts : List Text) → AreTold contents before texts → (said : List (List (List IpCidr))) × AllZip ListSays texts said)

-- why the lists of these names are not read: the first line in error of the first list that is not read, that its file
-- can't be read, or memory
abbrev pub IsUnread : (List ℕ → Option Text) → List (List ℕ) → CommandError → Type 0
IsUnread contents names (error.Line name number e) = StopsAt contents names name.now × ((text : Text) → contents name.now ≡ Some text → IsFirstError text number e)
IsUnread contents names (error.Input name why) = StopsAt contents names name.now
IsUnread contents names error.NoMemory = Unit {0}
IsUnread contents names e = ⊥

-- the error is that of an argument
abbrev pub IsBadArgument : (List ℕ → ArgumentError → Type 0) → CommandError → Type 0
IsBadArgument IsBad (error.Argument text e) = IsBad text.now e
IsBadArgument IsBad e = ⊥

-- the error is that the file of this name is not written, for this reason
abbrev pub IsNotSaved : List ℕ → Unsaved → CommandError → Type 0
IsNotSaved name why (error.File file (NotSaved reason)) = (file.now ≡ name) × (reason ≡ why)
IsNotSaved name why e = ⊥

-- the error is that the file to be written is the table that is read
abbrev pub IsSameFile : List ℕ → List ℕ → CommandError → Type 0
IsSameFile table name e = (table ≡ name) × IsNotSaved name unsaved.Same e

-- an argument that is wrong whatever the lists say
abbrev pub IsWrong : Request → CommandError → Type 0
IsWrong (NotIn style net files) e = IsBadArgument (λ text bad. (text ≡ net) × IsNoNetwork net bad) e
IsWrong (Which text files) e = IsBadArgument (IsNoAddressArgument text) e
IsWrong (Compile form table name) e = IsSameFile table name e
IsWrong request e = ⊥

-- the error is that this file can't be read
abbrev pub IsInputError : List ℕ → CommandError → Type 0
IsInputError file (error.Input name why) = name.now ≡ file
IsInputError file e = ⊥

-- why a pool and the lists of what is used are not read: the pool, or else the first list that is not read
abbrev pub IsUnreadPool : (List ℕ → Option Text) → List ℕ → List (List ℕ) → CommandError → Type 0
IsUnreadPool contents pool used e = IsUnreadOperand contents pool e ⊎ (OfOperand contents pool (λ said. Unit {0}) × IsUnread contents used e)

-- the argument is no prefix length of networks inside a network
abbrev pub HasNoSubnets : IpCidr → List ℕ → ℕ → List ℕ → ArgumentError → Type 0
HasNoSubnets network len n text bad.Length = (text ≡ len) × HasNone network n
HasNoSubnets network len n text e = ⊥

-- why a request is not answered, and nothing is written
abbrev pub IsRequestRefused : (List ℕ → Option Text) → Request → Result Verdict CommandError → Type 0
IsRequestRefused contents request (Ok verdict) = ⊥
IsRequestRefused contents (Lists operation files) (Err e) = IsUnread contents (read_files files) e
IsRequestRefused contents (Styled style operation files) (Err e) = IsUnread contents (read_files files) e
IsRequestRefused contents (NotIn style net files) (Err e) = IsWrong (NotIn style net files) e
    ⊎ ((network : IpCidr) × IsIpNetworkText net network × IsUnread contents (read_files files) e)
IsRequestRefused contents (Diff format old new) (Err e) = IsUnread contents (old ∷ new ∷ []) e
IsRequestRefused contents (Same form old new) (Err e) = AreUnreadTables form contents old new e
IsRequestRefused contents (Free style most pool n used) (Err e) = IsUnreadPool contents pool used e
IsRequestRefused contents (Acl asked file) (Err e) = IsUnreadAcl contents (compared_with asked ++ file ∷ []) e
IsRequestRefused contents (Split style operand len n) (Err e) = ((network : IpCidr) × IsIpNetworkText operand network × IsBadArgument (HasNoSubnets network len n) e)
    ⊎ (IsNoNetworkText operand × IsUnlisted contents operand e)
IsRequestRefused contents (Check files) (Err e) = IsUnchecked contents (read_files files) e
IsRequestRefused contents (Which text files) (Err e) = IsBadArgument (IsNoAddressArgument text) e
    ⊎ ((address : IpAddr) × IsIpText text address × IsUnchecked contents (read_files files) e)
IsRequestRefused contents (Match picking list file) (Err e) = IsNotGiven (IsUnread contents (list ∷ [])) (contents list) list e
    ⊎ (IsInputError file e × ((text : Text) → contents list ≡ Some text → HoldsOf text (λ IsIn. Unit {0})))
IsRequestRefused contents (MatchEach picking list files) (Err e) = IsNotGiven (IsUnread contents (list ∷ [])) (contents list) list e
IsRequestRefused contents (Look seeking table file) (Err e) = IsNoTable seeking.form (contents table) table e ⊎ (HasUnfitRow seeking.form (contents table) table e
    ⊎ (IsInputError file e × ((text : Text) → contents table ≡ Some text → (rows : Family → List (List Bool × List ℕ)) × SaysTable seeking.form text rows)))
IsRequestRefused contents (Smallest holes form table) (Err e) = IsUnreadTable form (contents table) table e ⊎ IsNoHole holes form (contents table) table e
IsRequestRefused contents (Describe what operand) (Err e) = IsNoLength what operand × IsUnreadOperand contents operand e
IsRequestRefused contents (Class operand) (Err e) = IsUnclassed contents operand e
IsRequestRefused contents (Single request) (Err e) = IsBadArgument (IsBadSingle request) e
IsRequestRefused contents request (Err e) = ⊥

-- an output that failed is the error
abbrev pub by_output : Verdict → Result (Unit {0}) OutputFailed → Result Verdict CommandError
by_output verdict (Ok _) = Ok verdict
by_output verdict (Err e) = Err error.Output

-- What becomes of a request and of the sink: nothing is written where its lists are not read. Else its answer is
-- written whole, or the sink has failed and a beginning of the answer was written, none if it had failed before.
abbrev pub AnswersWhole : (List ℕ → Option Text) → Request → State → State → Result Verdict CommandError → Type 0
AnswersWhole contents request old new r =
    ((new ≡ old) × IsRequestRefused contents request r)
    ⊎ ((answer : List ℕ) × (verdict : Verdict) × (written : Result (Unit {0}) OutputFailed) × IsAnswer contents request answer verdict
    × Answered old new answer written × (r ≡ by_output verdict written))

-- what belongs to the lines that `match` has read of its file, if it was not read to its end, or has lines that are too long
abbrev pub IsMatchUntil : (List ℕ → Option Text) → Picking → List ℕ → List ℕ → List ℕ → CommandError → Type 0
IsMatchUntil contents picking list file answer e = (networks text : Text) → contents list ≡ Some networks → contents file ≡ Some text
    → HoldsOf networks (λ IsIn. IsEndedBy picking.headed (PicksOf picking IsIn) [] picking.written text.bytes answer e)

-- the same of several files, of which those before this one were read to their ends
abbrev pub IsMatchEachUntil : (List ℕ → Option Text) → Picking → List ℕ → List (List ℕ) → List ℕ → List ℕ → CommandError → Type 0
IsMatchEachUntil contents picking list before file answer e = (networks : Text) → contents list ≡ Some networks
    → HoldsOf networks (λ IsIn. IsEndedIn contents picking.headed (PicksOf picking IsIn) picking.written before file answer e)

-- the same of `look`
abbrev pub IsLookUntil : (List ℕ → Option Text) → Seeking → List ℕ → List ℕ → List ℕ → CommandError → Type 0
IsLookUntil contents seeking table file answer e = (rows text : Text) → contents table ≡ Some rows → contents file ≡ Some text
    → IsLookCut seeking.headed seeking.telling seeking.asked seeking.form rows text.bytes answer e

-- the error is that the table that a text says is too large for a file, or that the file can't be written
abbrev pub IsNoFile : RowForm → Option Text → List ℕ → List ℕ → CommandError → Type 0
IsNoFile form contents table name (error.File file TooLarge) = (file.now ≡ table)
    × ((text : Text) → contents ≡ Some text → (rows : Family → List (List Bool × List ℕ)) × IsTable form text rows × IsTooLarge rows)
IsNoFile form contents table name (error.File file (NotSaved why)) = file.now ≡ name
IsNoFile form contents table name e = ⊥

-- what `compile` answers: yes, or the first of these errors; what it leaves in the folder is said in `Leaving`
abbrev pub IsCompiled : (List ℕ → Option Text) → RowForm → List ℕ → List ℕ → Result Verdict CommandError → Type 0
IsCompiled contents form table name (Ok verdict) = (table ≢ name) × (verdict ≡ Yes)
IsCompiled contents form table name (Err e) =
    IsSameFile table name e ⊎ ((table ≢ name) × (IsUnreadTable form (contents table) table e ⊎ IsNoFile form (contents table) table name e))

-- what becomes of a request and of the sink
abbrev pub AnswersRequest : (List ℕ → Option Text) → Request → State → State → Result Verdict CommandError → Type 0
AnswersRequest contents (Match picking list file) old new r =
    AnswersWhole contents (Match picking list file) old new r ⊎ IsCutShort (IsMatchUntil contents picking list file) file old new r
AnswersRequest contents (MatchEach picking list files) old new r = AnswersWhole contents (MatchEach picking list files) old new r
    ⊎ ((before after : List (List ℕ)) × (file : List ℕ) × (files ≡ before ++ file ∷ after)
    × IsCutShort (IsMatchEachUntil contents picking list before file) file old new r)
AnswersRequest contents (Look seeking table file) old new r =
    AnswersWhole contents (Look seeking table file) old new r ⊎ IsCutShort (IsLookUntil contents seeking table file) file old new r
AnswersRequest contents (Compile form table name) old new r = (new ≡ old) × IsCompiled contents form table name r
AnswersRequest contents (Class operand) old new r =
    AnswersWhole contents (Class operand) old new r ⊎ IsCutShort (IsClassUntil contents operand) operand old new r
AnswersRequest contents request old new r = AnswersWhole contents request old new r

-- a request is given up only for its cause; `compile` alone writes a file, and not over its table
abbrev pub IsCaused : (List ℕ → Option Text) → Refusals → Request → Result Verdict CommandError → Type 0
IsCaused contents refused (Compile form table name) (Err (error.File file (NotSaved why))) = ((table ≡ name) × (why ≡ unsaved.Same)) ⊎ (refused.folder ≡ Some why)
IsCaused contents refused request r = IfErr r (Cause (FileFails contents refused.files) refused.memory)

-- the lists of the files, read this way
abbrev pub contents_in : ListForm → (List ℕ → Option (List ℕ)) → List ℕ → Option Text
contents_in form contents name = option_map (text_in form) (contents name)

-- the same of lists of networks
abbrev pub contents_by : HostBits → (List ℕ → Option (List ℕ)) → List ℕ → Option Text
contents_by bits contents name = contents_in (Networks bits) contents name

-- these bytes, of which the first line is a header and says nothing: those before the first line feed, or all where there is none, are
-- spaces
abbrev pub below_header : List ℕ → List ℕ
below_header bytes = replicate (position_or_len is_line_feed bytes) 32 ++ drop (position_or_len is_line_feed bytes) bytes

-- the files, of which those of these names begin with a header. It goes by the name: a file that `look` looks up is read so too if
-- it has the name of the table.
abbrev pub headed : List (List ℕ) → (List ℕ → Option (List ℕ)) → List ℕ → Option (List ℕ)
headed tables contents name = if has name tables then option_map below_header (contents name) else contents name

-- the message of an argument that is wrong
abbrev pub argument_message : ArgumentError → List ℕ
argument_message (bad.Network wrong e) = wrong_words wrong (parse_message e)
argument_message bad.Length = codes "no prefix length inside the network"
argument_message bad.Index = codes "no index below 2^128"
argument_message bad.NoAddress = codes "no address"
argument_message bad.AddressOrFile = codes "no address, and no file that can be read"
argument_message bad.Operand = codes "no network and no address, and no file that can be read"
argument_message bad.ReadTwice = codes "standard input can be read only once"

-- the message of a file that is not written, as the system tells it
abbrev pub unsaved_message : Unsaved → List ℕ
unsaved_message unsaved.Full = codes ": cannot be written: no space left\n"
unsaved_message unsaved.Denied = codes ": cannot be written: permission denied\n"
unsaved_message unsaved.ReadOnly = codes ": cannot be written: read-only file system\n"
unsaved_message unsaved.NoDirectory = codes ": cannot be written: no such directory\n"
unsaved_message unsaved.Directory = codes ": cannot be written: is a directory\n"
unsaved_message unsaved.Same = codes ": the same file as TABLE\n"
unsaved_message unsaved.Unknown = codes ": cannot be written\n"

-- the message of a file of look-ups that is not written, or not read
abbrev pub file_message : FileError → List ℕ
file_message TooLarge = codes ": too large for a file of look-ups\n"
file_message (NotSaved why) = unsaved_message why
file_message Hole = codes ": a value is -, which with --holes stands for none\n"
file_message Unlike = codes ": no lines, and no file of look-ups\n"
file_message Old = codes ": a file of look-ups of an older version, which an older netset made: compile the table anew\n"
file_message Version = codes ": a file of look-ups of another version\n"
file_message Short = codes ": a file of look-ups that is cut short\n"
file_message Long = codes ": a file of look-ups with bytes behind its end\n"
file_message Changed = codes ": a file of look-ups that was changed\n"

-- why a file is not read, as the system tells it where it can't be opened
abbrev pub reason_words : Reason → List ℕ
reason_words NotFound = codes "no such file"
reason_words Denied = codes "permission denied"
reason_words Directory = codes "is a directory"
reason_words Unknown = codes "cannot be read"

-- the line that is written to standard error: an argument as its beginning is shown, and the name of a file in whole
abbrev pub error_line : CommandError → List ℕ
error_line (error.Argument text e) = excerpt text.now ++ (codes ": " ++ (argument_message e ++ codes "\n"))
error_line (error.Line name number e) = fault_line name.now (number, e)
error_line (error.Input name why) = shown name.now ++ (codes ": " ++ (reason_words why ++ codes "\n"))
error_line (error.File name e) = shown name.now ++ file_message e
error_line error.NoMemory = codes "no memory\n"
error_line error.Output = codes "output failed\n"

-- the output has failed since nobody reads it any more, which is no news to anybody
abbrev pub is_closed_pipe : Bool → CommandError → Bool
is_closed_pipe closed error.Output = closed
is_closed_pipe closed e = false

-- the line of an error, but for a pipe that was closed
abbrev pub ReportsUnless : Bool → CommandError → State → State → Type 0
ReportsUnless true e old new = new ≡ old
ReportsUnless false e old new = Tells old new (error_line e)

-- nothing for an answer, and else one line; `closed` tells whether the output has failed since nobody reads it any more
abbrev pub Reports : Bool → Result Verdict CommandError → State → State → Type 0
Reports closed (Ok verdict) old new = new ≡ old
Reports closed (Err e) old new = ReportsUnless (is_closed_pipe closed e) e old new

-- the exit status of an answer: 0 done or yes, 1 none, no or findings
abbrev pub answer_status : Verdict → ℕ
answer_status Yes = 0
answer_status No = 1

-- the exit status: that of an answer, 2 usage, reading or a line in error, 3 output or memory
abbrev pub status_of : Result Verdict CommandError → ℕ
status_of (Ok verdict) = answer_status verdict
status_of (Err error.NoMemory) = 3
status_of (Err error.Output) = 3
status_of (Err (error.File name (NotSaved unsaved.Same))) = 2
status_of (Err (error.File name (NotSaved why))) = 3
status_of (Err e) = 2

-- the run ends with this error, and nothing is written to standard output
abbrev pub EndsWith : CommandError → Bool → State → State → State → State → ℕ → Type 0
EndsWith e closed out new_out err new_err status = (new_out ≡ out) × Reports closed (Err e) err new_err × (status ≡ status_of (Err e))

-- a request is answered, or given up for its cause, and the error is told
abbrev pub RunsAnswer : (List ℕ → Option Text) → Refusals → Request → Bool → State → State → State → State → ℕ → Type 0
RunsAnswer contents refused request closed out new_out err new_err status = (r : Result Verdict CommandError)
    × AnswersRequest contents request out new_out r × IsCaused contents refused request r × Reports closed r err new_err × (status ≡ status_of r)

-- a request, in whose lists of these names are lines in error, that were told: nothing is written, or it is answered by the
-- other lines where the former are skipped, and no file is written; the status is at least 2
abbrev pub RunsFaulty : Bool → List (List ℕ) → (List ℕ → Option Text) → Refusals → Request → Bool → State → State → State → State → ℕ → Type 0
RunsFaulty false names contents refused request closed out new_out err new_err status = (new_out ≡ out) × (new_err ≡ err) × (status ≡ 2)
RunsFaulty true names contents refused request closed out new_out err new_err status = (read : List ℕ → Option Text) × (answered : ℕ)
    × ((name : List ℕ) → IsGoodFile (has name names) request (contents name) (read name)) × (reasons : List ℕ → Option Reason)
    × ((name : List ℕ) → IsSameReason (has name names) (refused.files name) (reasons name))
    × RunsAnswer read (record { memory = refused.memory; folder = Some unsaved.Denied; files = reasons }) request closed out new_out err new_err answered × (status ≡ max answered 2)

-- a request of whose lists each line in error is told, up to a list that can't be read, and then nothing is written; where
-- there is none, the request is answered
abbrev pub TellsFaults : Bool → (List ℕ → Option Text) → Refusals → Request → Bool → State → State → State → State → ℕ → Type 0
TellsFaults skips contents refused request closed out new_out err new_err status = (names : List (List ℕ)) × AreLists request names × (lines : List ℕ) × (mid : State) × Tells err mid lines
    × ((((texts : List Text) → AreTold (lined (takes_file request) contents) names texts → AreTellings (kind_of request) names texts lines)
    × (((lines ≢ []) × RunsFaulty skips names contents refused request closed out new_out mid new_err status)
    ⊎ ((lines ≡ []) × RunsAnswer contents refused request closed out new_out mid new_err status)))
    ⊎ ((before after : List (List ℕ)) × (names ≡ before ++ after) × (front rest : List ℕ) × (lines ≡ front ++ rest)
    × ((texts : List Text) → AreTold (lined (takes_file request) contents) before texts → AreTellings (kind_of request) before texts front)
    × IsBegun (lined (takes_file request) contents) (kind_of request) after rest × (e : CommandError) × IsLoadError after e × Cause (FileFails contents refused.files) refused.memory e
    × EndsWith e closed out new_out mid new_err status))

-- the same, where no argument is wrong, and there is memory for the names of the lists
abbrev pub KeepsGoing : Bool → (List ℕ → Option Text) → Refusals → Request → Bool → State → State → State → State → ℕ → Type 0
KeepsGoing skips contents refused request closed out new_out err new_err status =
    ((e : CommandError) × IsWrong request e × EndsWith e closed out new_out err new_err status)
    ⊎ ((((e : CommandError) → ¬ (IsWrong request e)) × TellsFaults skips contents refused request closed out new_out err new_err status)
    ⊎ ((refused.memory ≡ true) × EndsWith error.NoMemory closed out new_out err new_err status))

-- what becomes of a request, by what is done at a line in error
abbrev pub RunsRequest : AtFault → (List ℕ → Option Text) → Refusals → Request → Bool → State → State → State → State → ℕ → Type 0
RunsRequest Stop contents refused request closed out new_out err new_err status = RunsAnswer contents refused request closed out new_out err new_err status
RunsRequest Tell contents refused request closed out new_out err new_err status = KeepsGoing false contents refused request closed out new_out err new_err status
RunsRequest Skip contents refused request closed out new_out err new_err status = KeepsGoing true contents refused request closed out new_out err new_err status

-- the error is that the standard input is read already
abbrev pub IsReadTwice : CommandError → Type 0
IsReadTwice e = IsBadArgument (λ text why. (text ≡ input_name) × (why ≡ bad.ReadTwice)) e

-- the lists of the files of a request, read this way
abbrev pub contents_of : Reading → Request → (List ℕ → Option (List ℕ)) → List ℕ → Option Text
contents_of reading request contents = contents_in reading.list_form (headed (headed_tables request reading.table_header) contents)

-- what becomes of a request by itself: one that reads the standard input more than once is not answered
abbrev pub RunsOnce : Reading → (List ℕ → Option (List ℕ)) → Refusals → Request → Bool → State → State → State → State → ℕ → Type 0
RunsOnce reading contents refused request closed out new_out err new_err status =
    (ReadsInputTwice request × (e : CommandError) × IsReadTwice e × EndsWith e closed out new_out err new_err status)
    ⊎ (¬ (ReadsInputTwice request) × RunsRequest reading.at_fault (contents_of reading request contents) refused request closed out new_out err new_err status)

-- an output that nothing was written to yet
abbrev pub empty : State
empty = record { taken = Some []; failed = false }

-- what becomes of a request whose answer goes to the file of this name: nothing is written to standard output, and a text in
-- memory takes the answer. Where there is memory for it, the run ends as the request does, or the file is not written; else
-- that there is none is the error, and not that the output failed. What the file is then is said in `Leaving`. `before` tells
-- what was refused before the text was there; `compile`, which writes a file itself, has no `-o`.
abbrev pub RunsInto : List ℕ → Reading → (List ℕ → Option (List ℕ)) → Refusals → Request → State → State → State → State → ℕ → Type 0
RunsInto name reading contents refused request out new_out err new_err status = (new_out ≡ out)
    × ((before : Refusals) × (text mid : State) × (answered : ℕ) × RunsOnce reading contents before request text.failed empty text err mid answered
    × (before.files ≡ refused.files) × (((text.failed ≡ false) × (before.memory ≡ refused.memory) × (new_err ≡ mid) × (status ≡ answered))
    ⊎ (((text.failed ≡ false) × (answered ≤ 1) × (why : Unsaved) × (refused.folder ≡ Some why) × (e : CommandError) × IsNotSaved name why e × Reports false (Err e) mid new_err
    × (status ≡ status_of (Err e)))
    ⊎ ((text.failed ≡ true) × (refused.memory ≡ true) × Tells mid new_err (codes "no memory\n") × (status ≡ 3)))))

-- the same where a file is named, or none
abbrev pub RunsTo : Option (List ℕ) → Reading → (List ℕ → Option (List ℕ)) → Refusals → Request → Bool → State → State → State → State → ℕ → Type 0
RunsTo None reading contents refused request closed out new_out err new_err status =
    RunsOnce reading contents refused request closed out new_out err new_err status
RunsTo (Some name) reading contents refused request closed out new_out err new_err status =
    RunsInto name reading contents refused request out new_out err new_err status

-- the words are no request: this line says why, and nothing else is written
abbrev pub IsMisused : List ℕ → State → State → State → State → ℕ → Type 0
IsMisused line out new_out err new_err status = (new_out ≡ out) × Tells err new_err line × (status ≡ 2)

-- what becomes of a line of arguments, or of words that are none
abbrev pub RunsLine : Result Line (List ℕ) → (List ℕ → Option (List ℕ)) → Refusals → Bool → State → State → State → State → ℕ → Type 0
RunsLine (Ok (reading, (target, request))) contents refused closed out new_out err new_err status =
    RunsTo target reading contents refused request closed out new_out err new_err status
RunsLine (Err line) contents refused closed out new_out err new_err status = IsMisused line out new_out err new_err status

-- the line of an argument that is not UTF-8, by its beginning as it is shown
abbrev pub not_text_line : List ℕ → List ℕ
not_text_line shown = shown ++ codes ": not UTF-8\n"

-- A run, from the arguments and the files to the exit status. `refused` tells whether an allocation or the writing of a file was
-- refused, and `closed` whether the output has failed since nobody reads it any more.
abbrev pub Runs : Option (List (List ℕ)) → (List ℕ → Option (List ℕ)) → Refusals → Bool → State → State → State → State → ℕ → Type 0
Runs words contents refused closed out new_out err new_err status =
    ((given : List (List ℕ)) × AreArguments words given × RunsLine (line_request given) contents refused closed out new_out err new_err status)
    ⊎ (((shown : List ℕ) × IsNotText words shown × IsMisused (not_text_line shown) out new_out err new_err status)
    ⊎ ((refused.memory ≡ true) × EndsWith error.NoMemory closed out new_out err new_err status))

-- ---- what private functions promise
-- what becomes of words, or there was no memory for them
abbrev pub RunsFound : Result Line (List ℕ) → (List ℕ → Option (List ℕ)) → Refusals → Bool → State → State → State → State → ℕ → Type 0
RunsFound found contents refused closed out new_out err new_err status =
    RunsLine found contents refused closed out new_out err new_err status
    ⊎ ((refused.memory ≡ true) × EndsWith error.NoMemory closed out new_out err new_err status)

-- what becomes of a request whose answer goes to a file, or there was no memory for it, whatever the standard output is
abbrev pub IntoFound : List ℕ → Reading → (List ℕ → Option (List ℕ)) → Refusals → Request → State → State → ℕ → Type 0
IntoFound name reading contents refused request err new_err status = (closed : Bool) (out : State)
    → RunsFound (Ok (reading, (Some name, request))) contents refused closed out out err new_err status

-- of lists in which lines are in error this is kept, and a request was answered by the other lines
abbrev pub RunsGood : List Kept → (List ℕ → Option Text) → Refusals → Request → Bool → State → State → State → State → ℕ → Type 0
RunsGood lists contents refused request closed out new_out err new_err status = (bits : ListForm) × (answered : ℕ)
    × ((name : List ℕ) (text : Text) → contents name ≡ Some text → text.form ≡ bits)
    × RunsAnswer (good_files bits lists contents) (record { memory = refused.memory; folder = Some unsaved.Denied; files = reasons_beside lists refused.files }) request closed out new_out err new_err answered
    × (status ≡ max answered 2)
