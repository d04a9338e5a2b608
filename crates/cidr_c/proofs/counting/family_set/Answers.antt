use Rattle.std.proofs.Common.{◌≡◌, ◌+◌, [], ◌∷◌, ◌++◌, Bool, List, map, take, refl, sym, ap, ◌∙◌, subst, arith}
use Rattle.std.proofs.lemmas.List.{map-append, take_all}
use Rattle.std.proofs.lemmas.List.Elements.{All-nil}
use Rattle.cidr.specs.either.IpNetwork.{any_bits}
use Rattle.cidr.specs.declared.cidr.any.AnyIpCidr.{AnyIpCidr}
use Rattle.cidr_c.specs.calls.Batches.{AreNetworkValues, bits_in}
use Rattle.cidr_c.specs.model.Values.{IsNetworkValue, network_in}
use Rattle.cidr_c.specs.declared.values.CValue.{CValue}
use Rattle.cidr_c.proofs.Counted.{IsTaken, apart_more, nothing_taken, part_more, set_part}
use Rattle.cidr_c.proofs.NetworkLists.{item_more}
use Rattle.cidr_c.proofs.counting.family_set.Goals as goal
use Rattle.cidr_c.proofs.counting.family_set.Goals.{in-Some-part_of+in-Ok-push, in_default-part_of}

pub loop-value-init : goal.loop-value-init
loop-value-init g c = (All-nil IsNetworkValue, rw c.in-Ok.ensures.items (nothing_taken g.C.FamilyCidr.FAMILY))

pub loop-value-preserved : goal.loop-value-preserved
loop-value-preserved g c =
    let f = g.C.BitString.bits in
    let family = g.C.FamilyCidr.FAMILY in
    let l = c.loop-value in
    let i = l.value-index in
    let values = c.args.values.now in
    let told = c.in-Some.ensures in
    let ns = bits_in (take i values) in
    let own = map f l.networks.items in
    let p = any_bits c.in-Some.network in
    let more =
    item_more IsNetworkValue (λ (v : CValue). any_bits (network_in v)) values i (record { high = 0; low = 0; tag = 0; zero_17 = 0; zero_18 = 0; zero_20 = 0 }) ns c.loop-value-test.true
    l.invariant.0 refl told.0 in
    let same : ns ++ p ∷ [] ≡ bits_in (take (i + 1) values) = ap (λ (n : AnyIpCidr). ns ++ any_bits n ∷ []) told.1 ∙ more.1 in
    let Taken : List (List Bool) → Type 0 = IsTaken family (bits_in (take (i + 1) values)) in
    elim c.match-part_of.branch [
      | in-Some-part_of+in-Ok-push w ↦
          let all : map f c.match-part_of.networks.items ≡ own ++ f w.in-Some-part_of.part ∷ [] =
          rw (w.networks-is, w.in-Ok-push.ensures.items) (map-append f l.networks.items (w.in-Some-part_of.part ∷ [])) in (
            more.0,
            subst Taken (sym all) (subst (λ (qs : List (List Bool)). IsTaken family qs (own ++ f w.in-Some-part_of.part ∷ [])) same
                (part_more family ns own l.invariant.1 p (f w.in-Some-part_of.part) w.in-Some-part_of.ensures)),
          )
      | in_default-part_of w ↦
          (more.0, rw w.networks-is (subst (λ (qs : List (List Bool)). IsTaken family qs own) same (apart_more family ns own l.invariant.1 p w.in_default-part_of.ensures)))
    ]

pub returns : goal.returns
returns g c =
    let f = g.C.BitString.bits in
    let l = c.loop-value in
    let values = c.args.values.now in
    let whole = take_all l.value-index values (omega (arith, c.loop-value-test.false)) in
    let told = l.invariant in (
      subst AreNetworkValues whole told.0,
      set_part g.C.FamilyCidr.FAMILY (bits_in values) (map f l.networks.items)
          (subst (λ (vs : List CValue). IsTaken g.C.FamilyCidr.FAMILY (bits_in vs) (map f l.networks.items)) whole told.1)
          (map f c.from_vec.result) c.from_vec.ensures.set,
    )
