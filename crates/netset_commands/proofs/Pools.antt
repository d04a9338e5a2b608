-- The free networks of a pool, and those inside the networks of a list.
use Rattle.std.proofs.Common.{◌↔◌, refl, sym, subst, inl, inr, ℕ, ◌<◌, ◌≤◌, ◌≡◌, Bool, true, false, nat_lt, List, [], ◌∷◌, length, Option, None, Result, Ok, IfErr}
use Rattle.std.proofs.lemmas.Bool.{ltb-true, ltb-false}
use Rattle.cidr.specs.either.IpNetwork.{network_family, network_prefix}
use Rattle.cidr.specs.either.IpText.{IsIpNetworkText}
use Rattle.cidr.specs.declared.cidr.combined.IpCidr.{IpCidr}
use Rattle.cidr.specs.declared.family.Family.{Family}
use Rattle.cidr.specs.model.Network.{width_of}
use Rattle.cidr_io.specs.Writing.{State, Answered}
use Rattle.cidr_io.specs.declared.sink.OutputFailed.{OutputFailed}
use Rattle.cidr_lists.specs.Formats.{Style, printed_walk}
use Rattle.cidr_lists.specs.Lists.{Text}
use Rattle.cidr_lists.specs.Sets.{IsInSets, networks_of}
use Rattle.cidr_lists.specs.declared.sets.Sets.{Sets}
use Rattle.cidr_lists.proofs.SetSteps.{set_same}
use Rattle.cidr_sets.specs.model.Sets.{IsSetOf}
use Rattle.netset_commands.specs.Answering.{AreRead, HasAddresses, ReadsListed, ReadsOperand, SplitsList, SplitsNetwork, TellsFree, split_text}
use Rattle.netset_commands.specs.Combining.{IsMade}
use Rattle.cidr_lists.specs.Texts.{SaysAddress}
use Rattle.netset_commands.specs.Commands.{AreTold, Free, IsFree, OfLists, Split}
use Rattle.netset_commands.specs.Free.{inside_of}
use Rattle.netset_commands.specs.Operands.{IsNoNetworkText, OfOperand}
use Rattle.netset_commands.specs.Program.{AnswersRequest}
use Rattle.netset_commands.specs.Single.{HasNone}
use Rattle.netset_commands.specs.declared.commands.operations.Operation.TheVariants.{Minus}
use Rattle.netset_commands.specs.Causes.{Cause}
use Rattle.netset_commands.specs.declared.errors.CommandError.{CommandError}
use Rattle.netset_commands.specs.declared.output.answers.Verdict.{Verdict}
use Rattle.netset_commands.specs.declared.output.answers.Verdict.TheVariants.{Yes}
use Rattle.netset_commands.proofs.Causes.{argument_cause, output_cause}
use Rattle.netset_commands.proofs.Combining.{has_same, made_same}
use Rattle.netset_commands.proofs.Operands.{operand_weaker}
use Rattle.netset_commands.proofs.Taken.{inside_some}
use Rattle.netset_commands.specs.declared.errors.Reason.{Reason}

-- what is free of the sets is free of the lists
pub free_written : (contents : List ℕ → Option Text) (style : Option Style) (most : Option ℕ) (pool : List ℕ) (n : ℕ) (used : List (List ℕ)) (first : Sets)
    (others : List Sets) (rest : Sets) (s t : State) (r : Result Verdict CommandError)
    → ReadsOperand contents pool (Ok first) → AreRead contents used others
    → ((family : Family) → IsSetOf 129 (IsMade IsInSets Minus (first ∷ others) family) (networks_of rest family))
    → TellsFree style (networks_of rest) n most s t r → AnswersRequest contents (Free style most pool n used) s t r
free_written contents style most pool n used first others rest s t r reads are made (answer, verdict, w, free, written, is) =
    inr (
      answer,
      verdict,
      w,
      operand_weaker contents pool (λ said. HasAddresses said first)
          (λ said. (texts : List Text) → AreTold contents used texts → OfLists texts (λ all. IsFree style n most (said ∷ all) answer verdict))
          (λ said has texts told_so.
          let (all, says, hass) = are texts told_so in (
            all,
            says,
            (
              networks_of rest,
              λ family. set_same _ _ (networks_of rest family) (made family) (λ a wide.
                  made_same IsInSets SaysAddress Minus (first ∷ others) (said ∷ all) family a
                  (has_same (said ∷ all) (first ∷ others) family a wide (has, hass))),
              free,
            ),
          )) reads,
      written,
      is,
    )

-- the pool says something, whatever that is
pub pool_read : (contents : List ℕ → Option Text) (pool : List ℕ) (first : Sets) → ReadsOperand contents pool (Ok first) → OfOperand contents pool (λ said. Unit {0})
pool_read contents pool first reads = operand_weaker contents pool (λ said. HasAddresses said first) (λ said. Unit {0}) (λ said has. tt) reads

-- an address of a list, and of none beside it
alone : {X : Type 0} (In : X → Family → List Bool → Type 0) (x : X) (family : Family) (a : List Bool) → In x family a ↔ IsMade In Minus (x ∷ []) family a
alone In x family a = (λ h. (h, λ none. none), λ h. h.0)

-- what is inside the networks of a set is inside those of the list
pub list_split : (contents : List ℕ → Option Text) (style : Option Style) (file : List ℕ) (n : ℕ) (sets : Sets) (s t : State) (r : Result Verdict CommandError)
    → ReadsListed contents file (Ok sets) → TellsFree style (networks_of sets) n None s t r → SplitsList contents style file n s t r
list_split contents style file n sets s t r reads (answer, verdict, w, free, written, is) =
    inr (
      answer,
      verdict,
      w,
      λ text at.
          let (said, says, has) = reads text at in (
            said,
            says,
            (networks_of sets, λ family. set_same _ _ (networks_of sets family) (has family) (λ a wide. alone SaysAddress said family a), free),
          ),
      written,
      is,
    )

pub split_in_list : (contents : List ℕ → Option Text) (style : Option Style) (operand len : List ℕ) (n : ℕ) (s t : State) (r : Result Verdict CommandError)
    → IsNoNetworkText operand → SplitsList contents style operand n s t r → AnswersRequest contents (Split style operand len n) s t r
split_in_list contents style operand len n s t r none (inl (same, e, is, why)) =
    subst (AnswersRequest contents (Split style operand len n) s t) (sym is) (inl (same, inr (none, why)))
split_in_list contents style operand len n s t r none (inr (answer, verdict, w, list, written, is)) = inr (answer, verdict, w, inr (none, list), written, is)

pub split_in_network : (contents : List ℕ → Option Text) (style : Option Style) (operand len : List ℕ) (n : ℕ) (network : IpCidr) (s t : State) (r : Result Verdict CommandError)
    → IsIpNetworkText operand network → SplitsNetwork style network len n s t r → AnswersRequest contents (Split style operand len n) s t r
split_in_network contents style operand len n network s t r reads (inl (same, e, is, why)) =
    subst (AnswersRequest contents (Split style operand len n) s t) (sym is) (inl (same, inl (network, reads, why)))
split_in_network contents style operand len n network s t r reads (inr (some, w, written, is)) =
    inr (split_text style network n, Yes, w, inl (network, reads, some, refl, refl), written, is)

-- the networks inside one are those that there are
not_less : (a b : ℕ) (less : Bool) → nat_lt a b ≡ less → ¬ (a < b) → b ≤ a
not_less a b true is none = absurd (none (ltb-true a b is))
not_less a b false is none = ltb-false a b is

pub subnets_written : (style : Option Style) (network : IpCidr) (n : ℕ) (s t : State) (w : Result (Unit {0}) OutputFailed) → ¬ (HasNone network n)
    → Answered s t (printed_walk style (inside_of n network)) w → Answered s t (split_text style network n) w
subnets_written style network n s t w some written =
    subst (λ (k : List (Family × List Bool)). Answered s t (printed_walk style k) w)
    (inside_some n network (not_less n (length (network_prefix network)) (nat_lt n (length (network_prefix network))) refl (λ low. some (inl low)))
    (not_less (width_of (network_family network)) n (nat_lt (width_of (network_family network)) n) refl (λ high. some (inr high)))) written

-- what they are given up for
pub free_cause : (F : List ℕ → Reason → Type 0) (refused : Bool) (style : Option Style) (sets : Family → List (List Bool)) (n : ℕ) (most : Option ℕ) (s t : State) (r : Result Verdict CommandError)
    → TellsFree style sets n most s t r → IfErr r (Cause F refused)
free_cause F refused style sets n most s t r (answer, verdict, w, free, written, is) = output_cause F refused verdict w r is

pub network_cause : (F : List ℕ → Reason → Type 0) (refused : Bool) (style : Option Style) (network : IpCidr) (len : List ℕ) (n : ℕ) (s t : State) (r : Result Verdict CommandError)
    → SplitsNetwork style network len n s t r → IfErr r (Cause F refused)
network_cause F refused style network len n s t r (inl (same, e, is, why)) =
    subst (λ (k : Result Verdict CommandError). IfErr k (Cause F refused)) (sym is) (argument_cause F refused _ e why)
network_cause F refused style network len n s t r (inr (some, w, written, is)) = output_cause F refused Yes w r is
