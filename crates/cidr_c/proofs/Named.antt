-- Reading names.
use Rattle.std.proofs.Common.{◌≡◌, ℕ, List, Option, Some, None, inl, inr, arith, subst, sym}
use Rattle.std.specs.Prelude.{IfSome, IsUtf8}
use Rattle.cidr.specs.either.IpNetwork.{network_family, network_prefix}
use Rattle.cidr.specs.declared.cidr.combined.IpCidr.{IpCidr}
use Rattle.cidr_ext.specs.texts.Reverse.{IsReverseName}
use Rattle.cidr_c.specs.calls.Calls.{IsFoundOrNone}
use Rattle.cidr_c.specs.model.Networks.{IsNameRead}
use Rattle.cidr_c.specs.model.Values.{IsIpNetworkValue, ip_network_in}
use Rattle.cidr_c.specs.declared.values.CValue.{CValue}

-- the network has the name
abbrev pub HasNameOf : List ℕ → IpCidr → Type 0
HasNameOf name n = IsReverseName (network_family n) name (network_prefix n)

pub name_read : (text name : List ℕ) (r : Option IpCidr) (old new : CValue) (code : ℕ) → IsUtf8 text → name ≡ text
    → IfSome r (HasNameOf name) → ((n : IpCidr) → HasNameOf name n → r ≡ Some n) → IsFoundOrNone IsIpNetworkValue ip_network_in r old new code
    → IsNameRead text old new code
name_read text name (Some n) old new code utf8 same found only put = record {
  named = λ _. (utf8, put.1, subst (λ (m : IpCidr). HasNameOf text m) (sym put.2) (subst (λ (t : List ℕ). HasNameOf t n) same found));
  utf8 = (λ z. absurd (omega (arith, z, put.0)), λ none. absurd (none utf8));
  none = λ z. absurd (omega (arith, z, put.0));
  codes = inl put.0;
  stays = λ other. absurd (other put.0);
}
name_read text name None old new code utf8 same found only put = record {
  named = λ z. absurd (omega (arith, z, put.0));
  utf8 = (λ z. absurd (omega (arith, z, put.0)), λ none. absurd (none utf8));
  none = λ _ n has. cc (only n (subst (λ (t : List ℕ). HasNameOf t n) (sym same) has));
  codes = inr (inr put.0);
  stays = λ _. put.1;
}
