-- What is told of networks and of prefix lengths.
use Rattle.std.proofs.Common.{◌≡◌, refl, sym, ◌∙◌, ap, subst, arith, inl, inr, ℕ, ◌≤◌, List, decimal, length, Option, Some, None, MatchOption, Result, Ok}
use Rattle.cidr.specs.either.IpAddress.{IsIpText, address_family, plain_bits}
use Rattle.cidr.specs.either.IpNetwork.{network_family, network_prefix}
use Rattle.cidr.specs.model.Network.{width_of}
use Rattle.cidr.specs.declared.addr.ip.IpAddr.{IpAddr}
use Rattle.cidr.specs.declared.cidr.combined.IpCidr.{IpCidr}
use Rattle.cidr.specs.declared.family.Family.{Family}
use Rattle.cidr.specs.declared.family.Family.TheVariants.{Ipv4, Ipv6}
use Rattle.cidr.proofs.EitherAddresses.{one_ip_address}
use Rattle.cidr_ext.specs.texts.MaskText.{IsLengthOfMask}
use Rattle.cidr_ext.specs.texts.Zones.{IsZoneLength, zones_of}
use Rattle.cidr_io.specs.Writing.{State, Answered}
use Rattle.cidr_io.specs.declared.sink.OutputFailed.{OutputFailed}
use Rattle.cidr_lists.specs.Lists.{Text}
use Rattle.cidr_lists.specs.Sets.{networks_of}
use Rattle.cidr_lists.specs.declared.sets.Sets.{Sets}
use Rattle.netset_commands.specs.Answering.{DescribesNetworks, HasAddresses, ReadsOperand}
use Rattle.netset_commands.specs.Commands.{Describe, IsTold}
use Rattle.cidr_lists.specs.Descriptions.{length_lines}
use Rattle.cidr_lists.specs.Printing.{line}
use Rattle.netset_commands.specs.Describing.{IsMaskOfLength, IsNoLength, told_of, zone_length}
use Rattle.netset_commands.specs.Free.{all_told}
use Rattle.netset_commands.specs.Program.{AnswersRequest, by_output}
use Rattle.netset_commands.specs.Single.{IsNumber}
use Rattle.netset_commands.specs.declared.commands.describe.Description.{Description}
use Rattle.netset_commands.specs.declared.commands.describe.Description.TheVariants.{Masks}
use Rattle.netset_commands.specs.declared.errors.CommandError.{CommandError}
use Rattle.netset_commands.specs.declared.output.answers.Verdict.{Verdict}
use Rattle.netset_commands.specs.declared.output.answers.Verdict.TheVariants.{Yes}
use Rattle.netset_commands.proofs.Operands.{operand_weaker}

-- ---- zones
zone_length_is : (family : Family) (n len : ℕ) → IsZoneLength family n len → len ≡ zone_length family n
zone_length_is Ipv4 n len (whole, low, high) = omega (arith, whole, low, high)
zone_length_is Ipv6 n len (whole, low, high) = omega (arith, whole, low, high)

-- the names of the zones of a network
abbrev pub zone_names : IpCidr → List (List ℕ)
zone_names n = zones_of (network_family n) (network_prefix n) (zone_length (network_family n) (length (network_prefix n)))

pub zones_are : (n : IpCidr) (len : ℕ) (zones : List (List ℕ)) → IsZoneLength (network_family n) (length (network_prefix n)) len
    → zones ≡ zones_of (network_family n) (network_prefix n) len → zone_names n ≡ zones
zones_are n len zones is are =
    sym (are ∙ ap (λ (k : ℕ). zones_of (network_family n) (network_prefix n) k) (zone_length_is (network_family n) (length (network_prefix n)) len is))

-- ---- the answer
pub networks_told : (contents : List ℕ → Option Text) (what : Description) (operand : List ℕ) (sets : Sets) (s t : State) (w : Result (Unit {0}) OutputFailed)
    (r : Result Verdict CommandError) → ReadsOperand contents operand (Ok sets) → Answered s t (all_told (told_of what) (networks_of sets)) w → r ≡ by_output Yes w
    → DescribesNetworks contents what operand s t r
networks_told contents what operand sets s t w r reads written is =
    let answer : List ℕ = all_told (told_of what) (networks_of sets) in
    inr (
      answer,
      w,
      operand_weaker contents operand (λ said. HasAddresses said sets) (λ said. IsTold (told_of what) said answer) (λ said has. (networks_of sets, has, refl)) reads,
      written,
      is,
    )

pub networks_described : (contents : List ℕ → Option Text) (what : Description) (operand : List ℕ) (s t : State) (r : Result Verdict CommandError) → IsNoLength what operand
    → DescribesNetworks contents what operand s t r → AnswersRequest contents (Describe what operand) s t r
networks_described contents what operand s t r none (inl (same, e, is, unread)) =
    subst (AnswersRequest contents (Describe what operand) s t) (sym is) (inl (same, (none, unread)))
networks_described contents what operand s t r none (inr (answer, w, of, written, is)) = inr (answer, Yes, w, (inr (none, of), refl), written, is)

pub length_described : (contents : List ℕ → Option Text) (operand : List ℕ) (n : ℕ) (s t : State) (w : Result (Unit {0}) OutputFailed) (r : Result Verdict CommandError)
    → IsNumber operand n × (n ≤ 128) → Answered s t (length_lines n) w → r ≡ by_output Yes w → AnswersRequest contents (Describe Masks operand) s t r
length_described contents operand n s t w r number written is = inr (length_lines n, Yes, w, (inl (n, inl (number.0, number.1, refl)), refl), written, is)

pub mask_described : (contents : List ℕ → Option Text) (operand : List ℕ) (n : ℕ) (s t : State) (w : Result (Unit {0}) OutputFailed) (r : Result Verdict CommandError)
    → IsMaskOfLength operand n → Answered s t (line (decimal n)) w → r ≡ by_output Yes w → AnswersRequest contents (Describe Masks operand) s t r
mask_described contents operand n s t w r mask written is = inr (line (decimal n), Yes, w, (inl (n, inr (mask, refl)), refl), written, is)

-- ---- a mask
pub no_mask : (text : List ℕ) → ((a : IpAddr) → ¬ (IsIpText text a)) → (n : ℕ) → ¬ (IsMaskOfLength text n)
no_mask text none n (mask, is, len) = none mask is

pub of_mask : (text : List ℕ) (mask : IpAddr) (r : Option ℕ) → IsIpText text mask
    → MatchOption r ((n : ℕ) → ¬ (IsLengthOfMask (width_of (address_family mask)) n (plain_bits mask))) (λ n. IsLengthOfMask (width_of (address_family mask)) n (plain_bits mask))
    → MatchOption r ((n : ℕ) → ¬ (IsMaskOfLength text n)) (IsMaskOfLength text)
of_mask text mask (Some n) is len = (mask, is, len)
of_mask text mask None is none = λ n (other, also, len).
    none n (subst (λ (a : IpAddr). IsLengthOfMask (width_of (address_family a)) n (plain_bits a)) (one_ip_address text other mask also is) len)
