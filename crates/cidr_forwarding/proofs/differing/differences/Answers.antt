use Rattle.std.proofs.Common.{ℕ, ◌≤◌}
use Rattle.cidr.specs.model.Network.{HasWidth}
use Rattle.cidr_table.specs.model.CoverAddresses.{IsIpAddressBits}
use Rattle.cidr_forwarding.specs.Differences.{AreDifferences}
use Rattle.cidr_forwarding.specs.Forwarding.{in_bits, AreNetworksOf, AreIpRows}
use Rattle.cidr_forwarding.proofs.Final.{of_nothing}
use Rattle.cidr_forwarding.proofs.Apart.{told_width, told_ip, told_kept, told_kept_ip}
use Rattle.cidr_forwarding.proofs.Calls.{of_same}
use Rattle.cidr_forwarding.proofs.differing.differences.Goals as goal

pub differ-requires-clause-of : goal.differ-requires-clause-of
differ-requires-clause-of g c = of_nothing g.C.BitString.bits (g.C.BitString.bits c.null.result) c.rows_of-rows.result.now c.null.ensures.bits

pub differ-requires-clause-other_of : goal.differ-requires-clause-other_of
differ-requires-clause-other_of g c = of_nothing g.C.BitString.bits (g.C.BitString.bits c.null.result) c.rows_of-others.result.now c.null.ensures.bits

pub returns-clause-width : goal.returns-clause-width
returns-clause-width g c =
    let f = g.C.BitString.bits in
    of_same (λ these those. (w : ℕ) → w ≤ 129 → AreNetworksOf f w these → AreNetworksOf f w those
    → AreDifferences (in_bits f these) (in_bits f those) (HasWidth w) (in_bits f c.differ.new.out.items))
    c.rows_of-rows.result.now c.args.one.now.rows c.rows_of-others.result.now c.args.other.now.rows c.rows_of-rows.ensures.rows c.rows_of-others.ensures.rows
    (told_width f g.V.PartialEq.eq c.requires c.rows_of-rows.result.now c.rows_of-others.result.now c.keys_ascend_within_129_bits.ensures c.keys_ascend_within_129_bits-2.ensures
    c.new-out.result.items (f c.null.result) c.new-out.ensures.items c.null.ensures.bits c.differ.new.out.items c.in_ok-differ.ensures.rows)

pub returns-clause-ip : goal.returns-clause-ip
returns-clause-ip g c =
    let f = g.C.BitString.bits in
    of_same (λ these those. AreIpRows f these → AreIpRows f those
    → AreDifferences (in_bits f these) (in_bits f those) IsIpAddressBits (in_bits f c.differ.new.out.items))
    c.rows_of-rows.result.now c.args.one.now.rows c.rows_of-others.result.now c.args.other.now.rows c.rows_of-rows.ensures.rows c.rows_of-others.ensures.rows
    (told_ip f g.V.PartialEq.eq c.requires c.rows_of-rows.result.now c.rows_of-others.result.now c.keys_ascend_within_129_bits.ensures c.keys_ascend_within_129_bits-2.ensures
    c.new-out.result.items (f c.null.result) c.new-out.ensures.items c.null.ensures.bits c.differ.new.out.items c.in_ok-differ.ensures.rows)

pub returns-clause-kept : goal.returns-clause-kept
returns-clause-kept g c =
    let f = g.C.BitString.bits in
    of_same (λ these those. (w : ℕ) → AreNetworksOf f w these → AreNetworksOf f w those → AreNetworksOf f w c.differ.new.out.items)
    c.rows_of-rows.result.now c.args.one.now.rows c.rows_of-others.result.now c.args.other.now.rows c.rows_of-rows.ensures.rows c.rows_of-others.ensures.rows
    (told_kept f g.V.PartialEq.eq c.requires c.rows_of-rows.result.now c.rows_of-others.result.now c.keys_ascend_within_129_bits.ensures c.keys_ascend_within_129_bits-2.ensures
    c.new-out.result.items (f c.null.result) c.new-out.ensures.items c.null.ensures.bits c.differ.new.out.items c.in_ok-differ.ensures.rows)

pub returns-clause-kept_ip : goal.returns-clause-kept_ip
returns-clause-kept_ip g c =
    let f = g.C.BitString.bits in
    of_same (λ these those. AreIpRows f these → AreIpRows f those → AreIpRows f c.differ.new.out.items)
    c.rows_of-rows.result.now c.args.one.now.rows c.rows_of-others.result.now c.args.other.now.rows c.rows_of-rows.ensures.rows c.rows_of-others.ensures.rows
    (told_kept_ip f g.V.PartialEq.eq c.requires c.rows_of-rows.result.now c.rows_of-others.result.now c.keys_ascend_within_129_bits.ensures c.keys_ascend_within_129_bits-2.ensures
    c.new-out.result.items (f c.null.result) c.new-out.ensures.items c.null.ensures.bits c.differ.new.out.items c.in_ok-differ.ensures.rows)
