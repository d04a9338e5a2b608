-- Lists of networks as texts, in the caller's room.
use Rattle.std.proofs.Common.{◌≡◌, ℕ, ◌+◌, ◌<◌, Bool, List, length, [], ◌∷◌, ◌++◌, map, take, get_or, set, Some, inl, inr, arith, ap, ap₂, ◌∙◌, sym, subst}
use Rattle.std.specs.Prelude.{slice_get}
use Rattle.std.proofs.lemmas.List.{map-append, take_more, take_more_set}
use Rattle.std.proofs.lemmas.List.Elements.{All-push}
use Rattle.std.proofs.lemmas.Option.{get_or_from_slice_get}
use Rattle.cidr.specs.declared.cidr.any.AnyIpCidr.{AnyIpCidr}
use Rattle.cidr.specs.declared.cidr.any.AnyIpCidr.TheVariants.{V4, V6}
use Rattle.cidr.specs.declared.family.Family.TheVariants.{Ipv4, Ipv6}
use Rattle.cidr_lists.specs.Lists.{Text}
use Rattle.cidr_lists.specs.Reading.{listed}
use Rattle.cidr_lists.specs.Texts.{HaveNetworks}
use Rattle.cidr_lists.specs.declared.lists.Lists.{Lists}
use Rattle.cidr_c.specs.calls.Batches.{AreNetworkValues, IsListInRoom, IsNetworksPut}
use Rattle.cidr_c.specs.calls.Lists.{AreListNetworks, of_both}
use Rattle.cidr_c.specs.model.Values.{IsNetworkValue, network_in}
use Rattle.cidr_c.specs.declared.values.CValue.{CValue}

-- one network more
pub one_put : (networks : List AnyIpCidr) (out : List CValue) (i : ℕ) (v : CValue) → i < length out → i < length networks
    → AreNetworkValues (take i out) → map network_in (take i out) ≡ take i networks → IsNetworkValue v
    → slice_get networks i ≡ Some (network_in v)
    → AreNetworkValues (take (i + 1) (set out i v)) × (map network_in (take (i + 1) (set out i v)) ≡ take (i + 1) networks)
one_put networks out i v fits lt fine same is here =
    let e = take_more_set out i v fits in
    let n : get_or networks i (network_in v) ≡ network_in v = get_or_from_slice_get networks i (network_in v) (network_in v) here in (
      subst AreNetworkValues (sym e) (All-push IsNetworkValue (take i out) v fine is),
      ap (map network_in) e ∙ (map-append network_in (take i out) (v ∷ [])
          ∙ (ap₂ (λ (xs : List AnyIpCidr) (x : AnyIpCidr). xs ++ x ∷ []) same (sym n) ∙ sym (take_more networks i (network_in v) lt))),
    )

pub networks_said : (text : Text) (lists : Lists) → HaveNetworks text lists → AreListNetworks text (of_both (listed lists))
networks_said text lists h =
    (h.0, h.1, ap₂ (λ (a b : List (List Bool)). map (λ p. V4 p) a ++ map (λ p. V6 p) b) (h.2 Ipv4) (h.2 Ipv6))

pub networks_read : (Holds : List AnyIpCidr → Type 0) (networks : List AnyIpCidr) (old new : List CValue) (count made code : ℕ) → Holds networks
    → IsNetworksPut networks old new made code
    → IsListInRoom (Unit {0}) IsNetworkValue network_in Holds old new count made code
networks_read Holds networks old new count made code holds (is, inl done) = record {
  taken = λ _. tt;
  fits = λ _. omega (arith, is, done.1);
  left = λ _. done.2;
  holds = λ _. subst Holds (sym done.3) holds;
  value = λ z. absurd (omega (arith, z, done.0));
  behind = λ _. done.4;
  room = λ z. absurd (omega (arith, z, done.0));
  asked = λ _. tt;
  codes = inl done.0;
  stays = λ other. absurd (other done.0);
  count_stays = λ other _. absurd (other done.0);
}
networks_read Holds networks old new count made code holds (is, inr short) = record {
  taken = λ _. tt;
  fits = λ z. absurd (omega (arith, z, short.0));
  left = λ z. absurd (omega (arith, z, short.0));
  holds = λ z. absurd (omega (arith, z, short.0));
  value = λ z. absurd (omega (arith, z, short.0));
  behind = λ z. absurd (omega (arith, z, short.0));
  room = λ _. (omega (arith, is, short.1), networks, holds, is);
  asked = λ _. tt;
  codes = inr (inr (inl short.0));
  stays = λ _. short.2;
  count_stays = λ _ other. absurd (other short.0);
}
