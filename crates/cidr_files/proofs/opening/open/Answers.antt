use Rattle.std.proofs.Common.{◌∙◌, ap, ap₂, List, ℕ}
use Rattle.std.proofs.lemmas.List.{take_rest}
use Rattle.cidr_files.specs.Layout.{bytes_behind, parts_by_size, sizes_of}
use Rattle.cidr_files.specs.declared.layout.Counts.{Counts}
use Rattle.cidr_files.proofs.opening.open.Goals as goal

pub returns-clause-cut : goal.returns-clause-cut
returns-clause-cut c =
    let rest = take_rest c.args.bytes.now 64 in
    let ipv4 = c.in-Some.ensures in
    let ipv6 = c.in-Some-part_of.ensures in
    record {
      ipv4 = ipv4.parts ∙ ap₂ (λ (k : Counts) (bs : List ℕ). parts_by_size (sizes_of 4 k) bs) c.counts_at.ensures rest;
      ipv4_steps = ipv4.steps ∙ ap (λ (k : Counts). k.steps) c.counts_at.ensures;
      ipv6 =
          ipv6.parts
          ∙ ap₂ (λ (k : Counts) (bs : List ℕ). parts_by_size (sizes_of 16 k) bs) c.counts_at-2.ensures
          (ipv4.rest ∙ ap₂ (λ (k : Counts) (bs : List ℕ). bytes_behind (sizes_of 4 k) bs) c.counts_at.ensures rest);
      ipv6_steps = ipv6.steps ∙ ap (λ (k : Counts). k.steps) c.counts_at-2.ensures;
    }
