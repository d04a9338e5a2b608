use Rattle.std.proofs.Common.{◌≡◌, ◌↔◌, ℕ, ◌≤◌, true}
use Rattle.cidr.specs.model.Network.{HasWidth}
use Rattle.cidr_table.specs.model.CoverAddresses.{IsIpAddressBits}
use Rattle.cidr_forwarding.specs.Forwarding.{AreNetworksOf, AreIpRows, ForwardSame}
use Rattle.cidr_forwarding.proofs.Agreement.{decided_width, decided_ip}
use Rattle.cidr_forwarding.proofs.Calls.{of_same}
use Rattle.cidr_forwarding.proofs.same.forwards_same.Goals as goal

pub returns-clause-width : goal.returns-clause-width
returns-clause-width g c =
    let f = g.C.BitString.bits in
    of_same (λ these those. (w : ℕ) → w ≤ 129 → AreNetworksOf f w these → AreNetworksOf f w those → (c.agree.result ≡ true) ↔ ForwardSame f (HasWidth w) these those)
    c.rows_of-rows.result.now c.args.one.now.rows c.rows_of-others.result.now c.args.other.now.rows c.rows_of-rows.ensures.rows c.rows_of-others.ensures.rows
    (decided_width f g.V.PartialEq.eq c.requires c.rows_of-rows.result.now c.rows_of-others.result.now c.keys_ascend_within_129_bits.ensures c.keys_ascend_within_129_bits-2.ensures c.agree.result c.agree.ensures)

pub returns-clause-ip : goal.returns-clause-ip
returns-clause-ip g c =
    let f = g.C.BitString.bits in
    of_same (λ these those. AreIpRows f these → AreIpRows f those → (c.agree.result ≡ true) ↔ ForwardSame f IsIpAddressBits these those)
    c.rows_of-rows.result.now c.args.one.now.rows c.rows_of-others.result.now c.args.other.now.rows c.rows_of-rows.ensures.rows c.rows_of-others.ensures.rows
    (decided_ip f g.V.PartialEq.eq c.requires c.rows_of-rows.result.now c.rows_of-others.result.now c.keys_ascend_within_129_bits.ensures c.keys_ascend_within_129_bits-2.ensures c.agree.result c.agree.ensures)
