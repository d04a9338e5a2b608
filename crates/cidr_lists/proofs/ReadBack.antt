-- What is printed of the set of lists, read as a list and put together again.
use Rattle.std.proofs.Common.{◌≡◌, ◌↔◌, sym, ap₂, subst, inl, inr, Bool, List, [], ◌∷◌, ◌++◌}
use Rattle.std.specs.List.{AllZip}
use Rattle.cidr.specs.declared.cidr.combined.IpCidr.{IpCidr}
use Rattle.cidr.specs.declared.family.Family.{Family}
use Rattle.cidr.specs.declared.family.Family.TheVariants.{Ipv4, Ipv6}
use Rattle.cidr_table.specs.model.Cover.{Covers}
use Rattle.cidr_sets.proofs.Addresses.{one_list}
use Rattle.cidr_lists.specs.Lists.{ListSays, Text, networks_in, text_by}
use Rattle.cidr_lists.specs.ReadBack.{AreUnions, SaysJust}
use Rattle.cidr_lists.specs.Sets.{printed_networks, printed_sets}
use Rattle.cidr_lists.specs.declared.lines.HostBits.{HostBits}
use Rattle.cidr_lists.proofs.PrintedLines.{printed_read}
use Rattle.cidr_lists.proofs.SaidWidths.{unions_fit}

pub union_read : (bits : HostBits) (texts : List Text) (lists : List (List (List IpCidr))) (networks : Family → List (List Bool)) → AllZip ListSays texts lists
    → AreUnions lists networks → SaysJust (text_by bits (printed_sets networks)) networks
union_read bits texts lists networks says are = printed_read bits networks (unions_fit texts lists networks says are)

-- the set of one list that says a set's networks
same_set : (lists : List (List (List IpCidr))) (said : List (List IpCidr)) (networks again : Family → List (List Bool)) → AreUnions lists networks
    → AreUnions (said ∷ []) again → ((family : Family) → networks_in family said ≡ networks family) → (family : Family) → again family ≡ networks family
same_set lists said networks again are those same family =
    let covers : (a : List Bool) → Covers (networks_in family said) a ↔ Covers (networks family) a = λ a. (
      subst (λ (k : List (List Bool)). Covers k a) (same family),
      subst (λ (k : List (List Bool)). Covers k a) (sym (same family)),
    ) in
    one_list 129 (again family) (networks family) (those family).reduced (are family).reduced (λ a la. (
      λ c. elim (((those family).exact a la).0 c) [ inl here ↦ (covers a).0 here | inr none ↦ absurd none ],
      λ c. ((those family).exact a la).1 (inl ((covers a).1 c)),
    ))

pub merged_again : (bits : HostBits) (texts : List Text) (lists : List (List (List IpCidr))) (networks again : Family → List (List Bool))
    (said : List (List IpCidr)) → AllZip ListSays texts lists → AreUnions lists networks
    → ListSays (text_by bits (printed_sets networks)) said → AreUnions (said ∷ []) again → printed_sets again ≡ printed_sets networks
merged_again bits texts lists networks again said says are read those =
    let same = same_set lists said networks again are those ((union_read bits texts lists networks says are).1 said read) in
    ap₂ (λ (a b : List (List Bool)). printed_networks Ipv4 a ++ printed_networks Ipv6 b) (same Ipv4) (same Ipv6)
