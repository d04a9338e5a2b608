use Rattle.std.proofs.Common.{◌∙◌, ap, ap₂, append_assoc, ◌++◌}
use Rattle.cidr_files.specs.Spelling.{wide_bytes}
use Rattle.cidr_files.proofs.address.ArrayArrayU882FileAddress.put.Goals as goal

pub returns : goal.returns
unfolding wide_bytes
returns c =
    let old = c.args.out.now.items in
    let high = c.to_le_bytes.result in
    let low = c.to_le_bytes-2.result in
    c.in_ok-extend_from_slice-2.ensures.items
    ∙ (ap (λ xs. xs ++ low) c.in_ok-extend_from_slice.ensures.items
    ∙ (append_assoc old high low ∙ ap₂ (λ a b. old ++ (a ++ b)) c.to_le_bytes.ensures c.to_le_bytes-2.ensures))
