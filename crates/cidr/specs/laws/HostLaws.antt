-- The order of hosts.
use Rattle.std.proofs.Common.{◌≡◌, ◌&&◌, ◌==◌, sym, ap, ap₂, ◌∙◌}
use Rattle.std.proofs.lemmas.Bool.{eqb-true}
use Rattle.std.proofs.lemmas.Cmp.{on_total, then_total, nat_cmp_total, on_equiv, and_equiv, nat_eq_equiv}
use Rattle.std.specs.Bool.{IsTrue}
use Rattle.std.specs.Cmp.{IsTotalOrder, IsEquivalence, IsPartialOrder, po, first_so, second_so}
use Rattle.std.specs.Ordering.{eq_by_cmp, as_partial_cmp}
use Rattle.cidr.specs.model.Bits.{bit_cmp, bit_eq}
use Rattle.cidr.specs.laws.BitLaws.{bit_cmp_total, bit_eq_equiv, bit_eq_ties, bit_eq_Decides, then_tie}
use Rattle.cidr.specs.model.Host.{Host, host_cmp, host_eq}

pub host_cmp_total : IsTotalOrder host_cmp
host_cmp_total = then_total (on_total (λ (h : Host). h.address) bit_cmp_total) (on_total (λ (h : Host). h.len) nat_cmp_total)

pub host_eq_equiv : IsEquivalence host_eq
host_eq_equiv = and_equiv (on_equiv (λ (h : Host). h.address) bit_eq_equiv) (on_equiv (λ (h : Host). h.len) nat_eq_equiv)

pub host_eq_ties : (a b : Host) → host_eq a b ≡ eq_by_cmp host_cmp a b
host_eq_ties a b = ap (λ t. t && (a.len == b.len)) (bit_eq_ties a.address b.address) ∙ sym (then_tie (bit_cmp a.address b.address) a.len b.len)

pub host_cmp_po : IsPartialOrder host_eq (as_partial_cmp host_cmp)
host_cmp_po = po host_cmp_total host_eq_ties

-- equal hosts have equal images, as what is hashed
pub same_host_image : {X : Type 0} (f : Host → X) (a b : Host) → IsTrue (host_eq a b) → f a ≡ f b
same_host_image f a b h =
    let address = (bit_eq_Decides a.address b.address).0 (first_so (bit_eq a.address b.address) (a.len == b.len) h) in
    let len = eqb-true a.len b.len (second_so (bit_eq a.address b.address) (a.len == b.len) h) in
    ap₂ (λ x n. f (record { address = x; len = n })) address len
