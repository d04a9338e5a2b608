-- Free networks of a pool.
use Rattle.std.proofs.Common.{ℕ, ◌+◌, Bool, List, Option, Some, None, inl, inr, arith, sym, subst}
use Rattle.std.specs.Option.{option_map}
use Rattle.cidr.specs.either.IpNetwork.{any_bits}
use Rattle.cidr.specs.declared.cidr.any.AnyIpCidr.{AnyIpCidr}
use Rattle.cidr_table.specs.model.Cover.{Covers}
use Rattle.cidr_sets.specs.model.Sets.{IsSetOf}
use Rattle.cidr_c.specs.calls.Batches.{AreNetworkValues, bits_in}
use Rattle.cidr_c.specs.calls.Calls.{IsFoundOrNone}
use Rattle.cidr_c.specs.model.Pools.{IsFreeSought}
use Rattle.cidr_c.specs.model.Values.{IsNetworkValue, network_in}
use Rattle.cidr_c.specs.declared.values.CValue.{CValue}

pub free_sought : (IsFree : List (List Bool) → ℕ → Option (List Bool) → Type 0) (networks : List CValue) (len : ℕ) (set : List (List Bool))
    (r : Option AnyIpCidr) (old new : CValue) (code : ℕ) → AreNetworkValues networks → IsSetOf 129 (Covers (bits_in networks)) set
    → IsFree set (len + 1) (option_map any_bits r) → IsFoundOrNone IsNetworkValue network_in r old new code
    → IsFreeSought IsFree networks len old new code
free_sought IsFree networks len set (Some n) old new code fine is_set free put = record {
  networks_of = λ _. fine;
  value = λ _. put.1;
  free = λ _. (set, is_set, subst (λ (m : AnyIpCidr). IsFree set (len + 1) (Some (any_bits m))) (sym put.2) free);
  none = λ z. absurd (omega (arith, z, put.0));
  refused = λ z. absurd (omega (arith, z, put.0));
  codes = inl put.0;
  stays = λ other. absurd (other put.0);
}
free_sought IsFree networks len set None old new code fine is_set free put = record {
  networks_of = λ z. absurd (omega (arith, z, put.0));
  value = λ z. absurd (omega (arith, z, put.0));
  free = λ z. absurd (omega (arith, z, put.0));
  none = λ _. (fine, (set, is_set, free));
  refused = λ z. absurd (omega (arith, z, put.0));
  codes = inr (inl put.0);
  stays = λ _. put.1;
}
