-- What a record says, by its fields.
use Rattle.std.proofs.Common.{inr, List, ℕ, Result, Ok, Err}
use Rattle.std.specs.Result.{MatchResult}
use Rattle.cidr.specs.declared.family.Family.{Family}
use Rattle.cidr.specs.declared.family.Family.TheVariants.{Ipv4, Ipv6}
use Rattle.cidr_lists.specs.Records.{HasBadFields, IsBadDelegation, IsDelegated, IsDelegation, IsRecordContent}
use Rattle.cidr_lists.specs.declared.errors.LineError.{LineError}
use Rattle.cidr_lists.specs.declared.lines.Content.{Content}
use Rattle.cidr_lists.specs.declared.lines.Content.TheVariants.{Blank, Network, Ipv4Range, Ipv6Range}

delegated : (line : List ℕ) (family : Family) (start value : List ℕ) (content : Content) → IsDelegation line family start value
    → IsDelegated family start value content → IsRecordContent line content
delegated line Ipv4 start value Blank of is = absurd is
delegated line Ipv4 start value (Network network) of is = absurd is
delegated line Ipv4 start value (Ipv4Range first last) of is = (Ipv4, start, value, of, is)
delegated line Ipv4 start value (Ipv6Range first last) of is = absurd is
delegated line Ipv6 start value Blank of is = absurd is
delegated line Ipv6 start value (Network network) of is = (Ipv6, start, value, of, is)
delegated line Ipv6 start value (Ipv4Range first last) of is = absurd is
delegated line Ipv6 start value (Ipv6Range first last) of is = absurd is

pub record_read : (line : List ℕ) (family : Family) (start value : List ℕ) (r : Result Content LineError) → IsDelegation line family start value
    → MatchResult r (IsDelegated family start value) (IsBadDelegation family start value) → MatchResult r (IsRecordContent line) (HasBadFields line)
record_read line family start value (Ok content) of h = delegated line family start value content of h
record_read line family start value (Err e) of h = inr (inr (family, start, value, of, h))
