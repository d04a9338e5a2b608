-- Networks of which a relation to another one holds, by their index.
use Rattle.std.proofs.Common.{◌≡◌, ◌↔◌, ℕ, ◌<◌, Bool, List, length, get_or, ◌∙◌, sym, subst, ap, inl, inr}
use Rattle.std.proofs.lemmas.Bool.{cases_lt}
use Rattle.std.specs.declared.cmp.Ordering.TheVariants.{Less}
use Rattle.std.proofs.lemmas.Option.{get_or_from_slice_get, slice_get_within, slice_get-get_or}
use Rattle.cidr.specs.either.IpNetwork.{any_bits}
use Rattle.cidr.specs.declared.cidr.any.AnyIpCidr.{AnyIpCidr}
use Rattle.cidr.specs.model.Bits.{bit_cmp}
use Rattle.cidr.specs.model.Network.{BeginsWith}
use Rattle.cidr_table.proofs.Beginnings.{not_before}
use Rattle.cidr_table.proofs.Halves.{begins_both}
use Rattle.cidr_c.specs.calls.Lookups.{IsRelatedAt}
use Rattle.cidr_c.specs.model.Values.{network_in}
use Rattle.cidr_c.specs.declared.values.CValue.{CValue}

module _ (Holds : List Bool → List Bool → Type 0) (networks : List CValue) (p : List Bool) where
  pub within_list : (i : ℕ) → IsRelatedAt Holds networks p i → i < length networks
  within_list i s = slice_get_within networks i s.0 s.1

  -- the network at an index
  pub at_index : (i : ℕ) (d : CValue) (n : AnyIpCidr) → i < length networks → n ≡ network_in (get_or networks i d)
      → IsRelatedAt Holds networks p i ↔ Holds (any_bits n) p
  at_index i d n lt e = (
    λ s.
        let here : get_or networks i d ≡ s.0 = get_or_from_slice_get networks i s.0 d s.1 in
        subst (λ (m : AnyIpCidr). Holds (any_bits m) p) (sym (e ∙ ap network_in here)) s.2,
    λ h. (get_or networks i d, slice_get-get_or networks i d lt, subst (λ (m : AnyIpCidr). Holds (any_bits m) p) e h),
  )

-- of two networks that contain a third one, the first is the shorter
pub shorter_first : (p q a : List Bool) → bit_cmp p q ≡ Less → BeginsWith a p → BeginsWith a q → length p < length q
shorter_first p q a before first second = elim (cases_lt (length p) (length q)) [
  | inl lt ↦ lt
  | inr le ↦ absurd (not_before p q (begins_both a p q first second le) before)
]
