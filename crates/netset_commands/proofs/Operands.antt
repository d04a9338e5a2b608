-- Operands that are networks, addresses or names of files.
use Rattle.std.proofs.Common.{◌≡◌, refl, sym, ◌∙◌, subst, arith, inl, inr, ℕ, ◌<◌, ◌≤◌, Bor, Bool, true, false, List, [], ◌∷◌, Option, Ok}
use Rattle.std.specs.Bool.{Decides}
use Rattle.std.proofs.lemmas.Bool.{true≢false}
use Rattle.std.proofs.lemmas.List.{append-nil}
use Rattle.std.proofs.lemmas.Grind.{common_steps}
use Rattle.cidr.specs.either.IpText.{IsIpNetworkText}
use Rattle.cidr.specs.declared.cidr.combined.IpCidr.{IpCidr}
use Rattle.cidr.specs.declared.family.Family.{Family}
use Rattle.cidr_table.specs.model.Cover.{Covers}
use Rattle.cidr_sets.specs.model.Sets.{IsSetOf}
use Rattle.cidr_lists.specs.Lists.{Text, line_networks}
use Rattle.cidr_lists.specs.Sets.{networks_of}
use Rattle.cidr_lists.specs.declared.sets.Sets.{Sets}
use Rattle.netset_commands.specs.Answering.{IsFileError, ReadsOperand, operand_error}
use Rattle.netset_commands.specs.Causes.{Cause, FileFails, FileMayFail}
use Rattle.netset_commands.specs.Commands.{AreLists, HasNoFirstList, IsNoList, Request, lists_of}
use Rattle.netset_commands.specs.Operands.{IsUnlisted, OfOperand, ReadsAsNetwork}
use Rattle.netset_commands.specs.Single.{IsNumber}
use Rattle.netset_commands.specs.declared.commands.describe.Description.TheVariants.{Masks}
use Rattle.netset_commands.specs.declared.errors.CommandError.{CommandError}
use Rattle.netset_commands.specs.declared.errors.CommandError.TheVariants as error
use Rattle.netset_commands.specs.declared.errors.Reason.{Reason}

-- what follows of what an operand says is so too
pub operand_weaker : (contents : List ℕ → Option Text) (operand : List ℕ) (P Q : List (List IpCidr) → Type 0)
    → ((said : List (List IpCidr)) → P said → Q said) → OfOperand contents operand P → OfOperand contents operand Q
operand_weaker contents operand P Q more (inl (network, reads, is)) = inl (network, reads, more ((network ∷ []) ∷ []) is)
operand_weaker contents operand P Q more (inr (none, list)) =
    inr (none, λ text at. let (said, says, is) = list text at in (said, says, more said is))

-- the set of a network has the addresses that the network says
pub network_read : (contents : List ℕ → Option Text) (operand : List ℕ) (network : IpCidr) (sets : Sets) → IsIpNetworkText operand network
    → ((family : Family) → IsSetOf 129 (Covers (line_networks family (network ∷ []))) (networks_of sets family)) → ReadsOperand contents operand (Ok sets)
network_read contents operand network sets reads has =
    inl (
      network,
      reads,
      λ family.
          subst (λ (k : List (List Bool)). IsSetOf 129 (Covers k) (networks_of sets family)) (sym (append-nil (line_networks family (network ∷ [])))) (has family),
    )

-- a file that is not read is the error of an operand
pub unlisted : (contents : List ℕ → Option Text) (reasons : List ℕ → Option Reason) (operand : Bor (List ℕ)) (refused : Bool) (e : CommandError) → IsFileError (contents operand.now) operand.now e
    → Cause (FileFails contents reasons) refused e → IsUnlisted contents operand.now (operand_error operand e)
unlisted contents reasons operand refused (error.Argument text why) is fails = absurd is
unlisted contents reasons operand refused (error.Line name number e) is fails = is
unlisted contents reasons operand refused (error.Input name why) is fails = (refl, refl, subst (FileMayFail contents) is fails.0)
unlisted contents reasons operand refused error.NoMemory is fails = tt
unlisted contents reasons operand refused error.Output is fails = absurd is
unlisted contents reasons operand refused (error.File name e) is fails = absurd is

pub operand_cause : (F : List ℕ → Reason → Type 0) (operand : Bor (List ℕ)) (refused : Bool) (e : CommandError) → Cause F refused e
    → Cause F refused (operand_error operand e)
operand_cause F operand refused e h = grind (arith, common_steps)

-- ---- whether an operand is a list
pub reads_so : (operand : List ℕ) (network : IpCidr) → IsIpNetworkText operand network → Decides true (ReadsAsNetwork operand)
reads_so operand network reads = (λ yes. (network, reads), λ so. refl)

pub reads_not : (operand : List ℕ) → ((network : IpCidr) → ¬ (IsIpNetworkText operand network)) → Decides false (ReadsAsNetwork operand)
reads_not operand none = (λ no. absurd (true≢false (sym no)), λ so. absurd (none so.0 so.1))

pub length_so : (operand : List ℕ) (n : ℕ) → IsNumber operand n × (n ≤ 128) → Decides true (IsNoList Masks operand)
length_so operand n number = (λ yes. inl (n, number.0, number.1), λ so. refl)

pub length_not : (operand : List ℕ) (b : Bool) → ((n : ℕ) → IsNumber operand n → 128 < n) → Decides b (ReadsAsNetwork operand) → Decides b (IsNoList Masks operand)
length_not operand b none decides = (
  λ yes. inr (decides.0 yes),
  elim [ inl number ↦ absurd (let long = none number.0 number.1 in omega (arith, long, number.2)) | inr reads ↦ decides.1 reads ],
)

-- no list but those that are named
pub all_lists : (request : Request) (b : Bool) (names : List (List ℕ)) → Decides b (HasNoFirstList request) → b ≡ false → names ≡ lists_of request → AreLists request names
all_lists request b names decides none are = inr (λ first. true≢false (sym (decides.1 first) ∙ none), are)
