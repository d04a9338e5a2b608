-- The parsers around the strict reader of addresses of either family.
use Rattle.std.proofs.Common.{◌≢◌, ℕ, List, Result, Ok, Err, inl, inr, codes}
use Rattle.cidr.specs.model.Views.{seen}
use Rattle.cidr.specs.either.IpNetwork.{any_of}
use Rattle.cidr.specs.either.IpText.{IsAnyNetworkText, IsIpNetworkText, ReadsAny, ReadsAnyNetwork, ReadsIpNetwork}
use Rattle.cidr.specs.declared.cidr.any.AnyIpCidr.{AnyIpCidr}
use Rattle.cidr.specs.declared.cidr.any.AnyIpCidr.TheVariants as any_network
use Rattle.cidr.specs.declared.cidr.combined.IpCidr.{IpCidr}
use Rattle.cidr.specs.declared.cidr.combined.IpCidr.TheVariants.{V4, V6}
use Rattle.cidr.specs.declared.errors.NetworkParseError.{NetworkParseError}

no_network : (text : List ℕ) → text ≢ codes "any" → ((n : IpCidr) → ¬ (IsIpNetworkText text n)) → (n : AnyIpCidr) → ¬ (IsAnyNetworkText text n)
no_network text other none any_network.Any h = other h
no_network text other none (any_network.V4 p) h = none (V4 p) h
no_network text other none (any_network.V6 p) h = none (V6 p) h

seen_read : (text : List ℕ) → text ≢ codes "any" → (r : Result IpCidr NetworkParseError) → ReadsIpNetwork text r → ReadsAnyNetwork text (seen any_of r)
seen_read text other (Ok (V4 p)) h = h
seen_read text other (Ok (V6 p)) h = h
seen_read text other (Err e) h = (h.0, no_network text other h.1)

-- `any` is `Any`, and any other text is read as a network of either family
pub any_read : (Parses : List ℕ → Result IpCidr NetworkParseError → Type 0) → ((text : List ℕ) (r : Result IpCidr NetworkParseError) → Parses text r → ReadsIpNetwork text r)
    → (text : List ℕ) (r : Result AnyIpCidr NetworkParseError) → ReadsAny Parses text r → ReadsAnyNetwork text r
any_read Parses known text r (inl (named, made)) = rw made named
any_read Parses known text r (inr (other, network, parsed, made)) = rw made (seen_read text other network (known text network parsed))
