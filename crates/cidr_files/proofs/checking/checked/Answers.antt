use Rattle.std.proofs.Common.{subst, List, ℕ}
use Rattle.cidr_files.specs.Faults.{IsTableFault}
use Rattle.cidr_files.specs.Layout.{ipv4_counts, ipv6_counts, wide_words, words}
use Rattle.cidr_files.specs.Tables.{IsStoredTable, parts_in}
use Rattle.cidr_files.proofs.checking.checked.Goals as goal

pub returns-in-Err-clause-refused : goal.returns-in-Err-clause-refused
returns-in-Err-clause-refused c =
    let t = c.in_ok-table.table in
    let cut = c.in_ok-table.ensures.cut in
    let bytes = c.args.bytes.now in
    let fault = c.in-Err.fault in (
      c.in_ok-table.ensures.laid_out,
      subst (λ (ps : List (List ℕ)). IsTableFault 32 4 words ps (ipv4_counts bytes).steps fault) cut.ipv4
          (subst (λ (n : ℕ). IsTableFault 32 4 words (parts_in t.ipv4) n fault) cut.ipv4_steps c.in-Err.ensures.refused),
    )

pub returns-in-Err-check-clause-refused : goal.returns-in-Err-check-clause-refused
returns-in-Err-check-clause-refused c =
    let t = c.in_ok-table.table in
    let cut = c.in_ok-table.ensures.cut in
    let bytes = c.args.bytes.now in
    let fault = c.in-Err-check.fault in (
      c.in_ok-table.ensures.laid_out,
      subst (λ (ps : List (List ℕ)). IsStoredTable 32 4 words ps (ipv4_counts bytes).steps) cut.ipv4
          (subst (λ (n : ℕ). IsStoredTable 32 4 words (parts_in t.ipv4) n) cut.ipv4_steps c.in_default.ensures.table),
      subst (λ (ps : List (List ℕ)). IsTableFault 128 2 wide_words ps (ipv6_counts bytes).steps fault) cut.ipv6
          (subst (λ (n : ℕ). IsTableFault 128 2 wide_words (parts_in t.ipv6) n fault) cut.ipv6_steps c.in-Err-check.ensures.refused),
    )
