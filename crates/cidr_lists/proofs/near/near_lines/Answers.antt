use Rattle.std.proofs.Common.{◌≡◌, ◌∙◌, ◌++◌, ap, subst, sym, map, arith, length, take, drop}
use Rattle.std.proofs.lemmas.List.{length-map, take_at}
use Rattle.cidr.specs.declared.cidr.combined.IpCidr.TheVariants.{V4, V6}
use Rattle.cidr_lists.specs.Findings.{entry_network}
use Rattle.cidr_lists.specs.Nearness.{AreNear, AreOthersSame, AreRowsOf}
use Rattle.cidr_lists.proofs.NumberedRows.{moved_rows, near_found, rows_of_lines, v4_family, v6_family}
use Rattle.cidr_lists.proofs.near.near_lines.Goals as goal

pub keep-requires-clause-rows : goal.keep-requires-clause-rows
keep-requires-clause-rows c =
    let networks = map entry_network c.args.entries.now in
    let are : AreRowsOf V4 networks c.as_slice.result.now =
    subst (AreRowsOf V4 networks) (sym c.as_slice.ensures.value)
    (moved_rows V4 networks c.in_ok-rows.rows.v4.items c.sorted-v4.result.items c.sorted-v4.ensures.same c.in_ok-rows.ensures.0) in
    rows_of_lines V4 v4_family networks c.as_slice.result.now are (length c.deref_mut.result.now)
    (ap length c.deref_mut.ensures.value ∙ (c.in_ok-near.ensures ∙ sym (length-map c.args.entries.now entry_network)))

pub keep-requires-clause-ascending : goal.keep-requires-clause-ascending
keep-requires-clause-ascending c = rw c.as_slice.ensures.value c.sorted-v4.ensures.ascending

pub keep-requires-2-clause-rows : goal.keep-requires-2-clause-rows
keep-requires-2-clause-rows c =
    let networks = map entry_network c.args.entries.now in
    let are : AreRowsOf V6 networks c.as_slice-2.result.now =
    subst (AreRowsOf V6 networks) (sym c.as_slice-2.ensures.value)
    (moved_rows V6 networks c.in_ok-rows.rows.v6.items c.sorted-v6.result.items c.sorted-v6.ensures.same c.in_ok-rows.ensures.1) in
    let len : c.in_ok-near.near.len ≡ length c.in_ok-near.near.items = omega arith in
    let size : length c.keep.new.near ≡ c.in_ok-near.near.len = omega (arith, c.in_ok-keep.ensures.others.size, ap length c.deref_mut.ensures.value, len) in
    let first = take_at c.keep.new.near (drop (length c.keep.new.near) c.in_ok-near.near.items) c.in_ok-near.near.len size in
    rows_of_lines V6 v6_family networks c.as_slice-2.result.now are (length c.deref_mut-2.result.now)
    (ap length (c.deref_mut-2.ensures.value ∙ first) ∙ (size ∙ (len ∙ (c.in_ok-near.ensures ∙ sym (length-map c.args.entries.now entry_network)))))

pub keep-requires-2-clause-ascending : goal.keep-requires-2-clause-ascending
keep-requires-2-clause-ascending c = rw c.as_slice-2.ensures.value c.sorted-v6.ensures.ascending

pub returns : goal.returns
returns c =
    let networks = map entry_network c.args.entries.now in
    let are_v4 : AreRowsOf V4 networks c.as_slice.result.now =
    subst (AreRowsOf V4 networks) (sym c.as_slice.ensures.value)
    (moved_rows V4 networks c.in_ok-rows.rows.v4.items c.sorted-v4.result.items c.sorted-v4.ensures.same c.in_ok-rows.ensures.0) in
    let are_v6 : AreRowsOf V6 networks c.as_slice-2.result.now =
    subst (AreRowsOf V6 networks) (sym c.as_slice-2.ensures.value)
    (moved_rows V6 networks c.in_ok-rows.rows.v6.items c.sorted-v6.result.items c.sorted-v6.ensures.same c.in_ok-rows.ensures.1) in
    let len : c.in_ok-near.near.len ≡ length c.in_ok-near.near.items = omega arith in
    let size : length c.keep.new.near ≡ c.in_ok-near.near.len = omega (arith, c.in_ok-keep.ensures.others.size, ap length c.deref_mut.ensures.value, len) in
    let first = take_at c.keep.new.near (drop (length c.keep.new.near) c.in_ok-near.near.items) c.in_ok-near.near.len size in
    let middle : c.deref_mut-2.result.now ≡ c.keep.new.near = c.deref_mut-2.ensures.value ∙ first in
    let others : AreOthersSame c.as_slice-2.result.now c.keep.new.near c.keep-2.new.near =
    subst (λ k. AreOthersSame c.as_slice-2.result.now k c.keep-2.new.near) middle c.in_ok-keep-2.ensures.others in
    let size_v6 : length c.keep-2.new.near ≡ c.in_ok-near.near.len = omega (arith, others.size, size) in
    let second = take_at c.keep-2.new.near
    (drop (length c.keep-2.new.near) (take c.in_ok-near.near.len (c.keep.new.near ++ drop (length c.keep.new.near) c.in_ok-near.near.items))) c.in_ok-near.near.len size_v6 in
    subst (AreNear networks) (sym second)
    (near_found networks c.as_slice.result.now c.as_slice-2.result.now c.deref_mut.result.now c.keep.new.near c.keep-2.new.near
    (ap length c.deref_mut.ensures.value ∙ (c.in_ok-near.ensures ∙ sym (length-map c.args.entries.now entry_network))) are_v4 are_v6
    c.in_ok-keep.ensures.kept c.in_ok-keep.ensures.others c.in_ok-keep-2.ensures.kept others)
