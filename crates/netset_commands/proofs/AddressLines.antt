-- The lines of lists that have an address.
use Rattle.std.proofs.Common.{◌≡◌, ◌↔◌, refl, sym, ap, subst, inr, ℕ, Bool, true, false, List, [], length, take, IsTrue, cond, Option, Result, Ok}
use Rattle.std.specs.List.{flat_map, list_any}
use Rattle.std.proofs.lemmas.Bool.{true≢false}
use Rattle.cidr.specs.either.IpAddress.{IsIpText}
use Rattle.cidr.specs.laws.BitLaws.{bit_eq_Decides}
use Rattle.cidr.specs.model.Network.{BeginsWith}
use Rattle.cidr.specs.declared.addr.ip.IpAddr.{IpAddr}
use Rattle.cidr_table.specs.internal.Places.{begins_with}
use Rattle.cidr_io.specs.Collecting.{Collects}
use Rattle.cidr_io.specs.Writing.{State, Answered}
use Rattle.cidr_io.specs.declared.sink.OutputFailed.{OutputFailed}
use Rattle.cidr_io.proofs.Collected.{none_collected}
use Rattle.cidr_lists.specs.Lists.{Text}
use Rattle.cidr_lists.specs.declared.entries.Entry.{Entry}
use Rattle.netset_commands.specs.Commands.{Which, read_files}
use Rattle.netset_commands.specs.Look.{verdict_of}
use Rattle.netset_commands.specs.Program.{AnswersRequest, IsBadArgument, by_output}
use Rattle.netset_commands.specs.Unchecked.{AreToldEntries}
use Rattle.netset_commands.specs.Which.{IsNoAddressArgument, has_address, which_line, which_text}
use Rattle.netset_commands.specs.declared.errors.ArgumentError.TheVariants as bad
use Rattle.netset_commands.specs.declared.errors.CommandError.{CommandError}
use Rattle.netset_commands.specs.declared.errors.CommandError.TheVariants as error
use Rattle.netset_commands.specs.declared.output.answers.Verdict.{Verdict}

-- whether the bits begin with others
never : (c : Bool) (a n : List Bool) → begins_with a n ≡ c → ¬ (BeginsWith a n) → c ≡ false
never true a n same not = absurd (not ((bit_eq_Decides (take (length n) a) n).0 same))
never false a n same not = refl

pub same_answer : (b : Bool) (a n : List Bool) → IsTrue b ↔ BeginsWith a n → b ≡ begins_with a n
same_answer true a n is = sym ((bit_eq_Decides (take (length n) a) n).1 (is.0 refl))
same_answer false a n is = sym (never (begins_with a n) a n refl (λ begins. true≢false (sym (is.1 begins))))

-- the line of an entry, or none
pub line_told : (address : IpAddr) (entry : Entry) (s t : State) (b d : List ℕ) (r : Result (Unit {0}) OutputFailed) → has_address address entry ≡ true
    → Collects s t b d (which_text entry) r → Collects s t b d (which_line address entry) r
line_told address entry s t b d r has h =
    subst (λ (k : List ℕ). Collects s t b d k r) (sym (ap (λ (c : Bool). cond c (which_text entry) []) has)) h

pub line_skipped : (address : IpAddr) (entry : Entry) (s : State) (b : List ℕ) → has_address address entry ≡ false
    → Collects s s b b (which_line address entry) (Ok tt)
line_skipped address entry s b none =
    subst (λ (k : List ℕ). Collects s s b b k (Ok tt)) (sym (ap (λ (c : Bool). cond c (which_text entry) []) none)) (none_collected s b)

-- ---- the answer
pub lines_answered : (contents : List ℕ → Option Text) (text : List ℕ) (files : List (List ℕ)) (address : IpAddr) (entries : List Entry) (s t : State)
    (w : Result (Unit {0}) OutputFailed) (r : Result Verdict CommandError) → IsIpText text address → AreToldEntries contents (read_files files) entries
    → Answered s t (flat_map (which_line address) entries) w → r ≡ by_output (verdict_of (list_any (has_address address) entries)) w
    → AnswersRequest contents (Which text files) s t r
lines_answered contents text files address entries s t w r reads are written is =
    inr (
      flat_map (which_line address) entries,
      verdict_of (list_any (has_address address) entries),
      w,
      (address, reads, λ texts told. (entries, are texts told, refl, refl)),
      written,
      is,
    )

-- the argument is an address
pub address_right : (text : List ℕ) (address : IpAddr) (e : CommandError) → IsIpText text address → ¬ (IsBadArgument (IsNoAddressArgument text) e)
address_right text address (error.Argument given bad.NoAddress) reads (same, none) = none address reads
address_right text address e reads h = h
