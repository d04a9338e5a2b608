-- Networks in strict order agree in nothing, and so not in their bytes.
use Rattle.std.proofs.Common.{◌∙◌, ap, sym}
use Rattle.cidr.specs.bytes.Compact.{ip_network_bytes}
use Rattle.cidr_uses.proofs.Agreements.{bytes_tell, bytes_differ, same_item, sorted_items}
use Rattle.cidr_uses.proofs.consequences.bytes_differ.Goals as goal

pub returns-clause-value : goal.returns-clause-value
returns-clause-value c =
    let here = c.as_slice.ensures.value ∙ c.to_compact.ensures.bytes in
    let there = c.as_slice-2.ensures.value ∙ c.to_compact-2.ensures.bytes in
    let less = sorted_items _ c.args.networks.now c.args.i c.args.j c.index-networks-i.result c.index-networks-j.result
    c.index-networks-i.is c.index-networks-j.is c.requires.sorted c.requires.order c.requires.within in
    rw c.ne.ensures (bytes_tell _ _ _ _ c.index-networks-i.result c.index-networks-j.result c.agree-same.result
    c.agree-same.ensures.all c.agree-same.ensures.none c.as_slice.result.now c.as_slice-2.result.now here there less)

pub returns-clause-bytes : goal.returns-clause-bytes
returns-clause-bytes c one other first second same =
    let less = sorted_items _ c.args.networks.now c.args.i c.args.j c.index-networks-i.result c.index-networks-j.result
    c.index-networks-i.is c.index-networks-j.is c.requires.sorted c.requires.order c.requires.within in
    let one_is = same_item c.args.networks.now c.args.i c.index-networks-i.result one c.index-networks-i.is first in
    let other_is = same_item c.args.networks.now c.args.j c.index-networks-j.result other c.index-networks-j.is second in
    bytes_differ _ _ _ _ c.index-networks-i.result c.index-networks-j.result c.agree-same.result c.agree-same.ensures.all c.agree-same.ensures.none
    less (sym (ap ip_network_bytes one_is) ∙ same ∙ ap ip_network_bytes other_is)
