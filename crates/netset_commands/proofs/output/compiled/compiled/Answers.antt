use Rattle.std.proofs.Common.{◌≡◌, ◌∙◌, ap, subst, sym, inl, inr, Bool, List, length}
use Rattle.std.specs.Int.{from_le_bytes, w32}
use Rattle.cidr_files.specs.Contents.{IsWriteRefused}
use Rattle.cidr_files.specs.declared.faults.WriteError.{WriteError}
use Rattle.cidr_files.specs.declared.faults.WriteError.TheVariants.{Table, Values}
use Rattle.cidr_files.specs.Layout.{ipv4_parts, ipv6_parts, wide_word, wide_words, words}
use Rattle.cidr_lookup.proofs.Numbers.{length_networks}
use Rattle.cidr_lookup.specs.Tables.{ipv4_steps, ipv6_steps}
use Rattle.netset_commands.specs.Columns.{AreColumns}
use Rattle.netset_commands.proofs.Compiling.{has_the_rows}
use Rattle.netset_commands.proofs.Large.{long_values, only_large, only_long}
use Rattle.netset_commands.proofs.output.compiled.compiled.Goals as goal

pub returns-in-Ok-clause-file : goal.returns-in-Ok-clause-file
returns-in-Ok-clause-file c =
    let ipv4 : c.as_slice.result.now ≡ c.args.table.now.v4.rows = c.as_slice.ensures.value ∙ c.iter.ensures.rest in
    let ipv6 : c.as_slice-2.result.now ≡ c.args.table.now.v6.rows = c.as_slice-2.ensures.value ∙ c.iter-2.ensures.rest in
    let are4 : AreColumns 32 (from_le_bytes w32) (λ (p : List Bool). p) c.args.table.now.values.items c.args.table.now.v4.rows c.in-Some.ipv4 =
    rw (c.in-Some.is, c.as_slice-all.ensures.value, ipv4) at c.in_ok-made.ensures.made in
    let are6 : AreColumns 128 wide_word (λ (p : List Bool). p) c.args.table.now.values.items c.args.table.now.v6.rows c.in-Some-others.ipv6 =
    rw (c.in-Some-others.is, c.as_slice-all.ensures.value, ipv6) at c.in_ok-others.ensures.made in
    let has4 =
    has_the_rows 32 (from_le_bytes w32) (λ (p : List Bool). p) c.args.table.now.values.items words (ipv4_parts c.in-Ok.bytes.items) c.args.table.now.v4.rows
    c.in-Some.ipv4 c.rows.result are4 c.rows.ensures.keys c.rows.ensures.offsets c.rows.ensures.values c.in-Ok.ensures.ipv4 in
    let has6 =
    has_the_rows 128 wide_word (λ (p : List Bool). p) c.args.table.now.values.items wide_words (ipv6_parts c.in-Ok.bytes.items) c.args.table.now.v6.rows
    c.in-Some-others.ipv6 c.rows-2.result are6 c.rows-2.ensures.keys c.rows-2.ensures.offsets c.rows-2.ensures.values c.in-Ok.ensures.ipv6 in
    record {
      has = record { file = c.in-Ok.ensures.file; ipv4 = has4; ipv6 = has6 };
      small = c.in-Ok.ensures.small;
      ipv4_own =
          c.in-Ok.ensures.ipv4_steps
          ∙ ap ipv4_steps (sym (length_networks (from_le_bytes w32) c.rows.result.keys.now) ∙ (sym (ap length c.in-Ok.ensures.ipv4.networks_are) ∙ has4.many));
      ipv6_own =
          c.in-Ok.ensures.ipv6_steps
          ∙ ap ipv6_steps (sym (length_networks wide_word c.rows-2.result.keys.now) ∙ (sym (ap length c.in-Ok.ensures.ipv6.networks_are) ∙ has6.many));
    }

pub returns-in_default-clause-large : goal.returns-in_default-clause-large
returns-in_default-clause-large c =
    let ipv4 : c.as_slice.result.now ≡ c.args.table.now.v4.rows = c.as_slice.ensures.value ∙ c.iter.ensures.rest in
    inl (long_values 32 4 ipv4_steps c.args.table.now.values.items c.args.table.now.v4.rows
    (rw (c.in_default.is, c.as_slice-all.ensures.value, ipv4) at c.in_ok-made.ensures.large))

pub returns-in_default-others-clause-large : goal.returns-in_default-others-clause-large
returns-in_default-others-clause-large c =
    let ipv6 : c.as_slice-2.result.now ≡ c.args.table.now.v6.rows = c.as_slice-2.ensures.value ∙ c.iter-2.ensures.rest in
    inr (long_values 128 2 ipv6_steps c.args.table.now.values.items c.args.table.now.v6.rows
    (rw (c.in_default-others.is, c.as_slice-all.ensures.value, ipv6) at c.in_ok-others.ensures.large))

pub returns-in-Values-clause-large : goal.returns-in-Values-clause-large
returns-in-Values-clause-large c =
    let ipv4 : c.as_slice.result.now ≡ c.args.table.now.v4.rows = c.as_slice.ensures.value ∙ c.iter.ensures.rest in
    let ipv6 : c.as_slice-2.result.now ≡ c.args.table.now.v6.rows = c.as_slice-2.ensures.value ∙ c.iter-2.ensures.rest in
    let are4 : AreColumns 32 (from_le_bytes w32) (λ (p : List Bool). p) c.args.table.now.values.items c.args.table.now.v4.rows c.in-Some.ipv4 =
    rw (c.in-Some.is, c.as_slice-all.ensures.value, ipv4) at c.in_ok-made.ensures.made in
    let are6 : AreColumns 128 wide_word (λ (p : List Bool). p) c.args.table.now.values.items c.args.table.now.v6.rows c.in-Some-others.ipv6 =
    rw (c.in-Some-others.is, c.as_slice-all.ensures.value, ipv6) at c.in_ok-others.ensures.made in
    let refused : IsWriteRefused c.rows.result c.rows-2.result Values =
    subst (λ (e : WriteError). IsWriteRefused c.rows.result c.rows-2.result e) c.in-Values.is c.in-Err.ensures.refused in
    elim refused [
      | inl why ↦
          inl (only_long 32 4 ipv4_steps (from_le_bytes w32) c.args.table.now.values.items c.args.table.now.v4.rows c.in-Some.ipv4 c.rows.result are4 c.rows.ensures.keys
          c.rows.ensures.offsets c.rows.ensures.values c.iter.ensures.sorted why)
      | inr (fine, why) ↦
          inr (only_long 128 2 ipv6_steps wide_word c.args.table.now.values.items c.args.table.now.v6.rows c.in-Some-others.ipv6 c.rows-2.result are6 c.rows-2.ensures.keys
          c.rows-2.ensures.offsets c.rows-2.ensures.values c.iter-2.ensures.sorted why)
    ]

pub returns-clause-large : goal.returns-clause-large
returns-clause-large c =
    let ipv4 : c.as_slice.result.now ≡ c.args.table.now.v4.rows = c.as_slice.ensures.value ∙ c.iter.ensures.rest in
    let ipv6 : c.as_slice-2.result.now ≡ c.args.table.now.v6.rows = c.as_slice-2.ensures.value ∙ c.iter-2.ensures.rest in
    let are4 : AreColumns 32 (from_le_bytes w32) (λ (p : List Bool). p) c.args.table.now.values.items c.args.table.now.v4.rows c.in-Some.ipv4 =
    rw (c.in-Some.is, c.as_slice-all.ensures.value, ipv4) at c.in_ok-made.ensures.made in
    let are6 : AreColumns 128 wide_word (λ (p : List Bool). p) c.args.table.now.values.items c.args.table.now.v6.rows c.in-Some-others.ipv6 =
    rw (c.in-Some-others.is, c.as_slice-all.ensures.value, ipv6) at c.in_ok-others.ensures.made in
    let refused : IsWriteRefused c.rows.result c.rows-2.result (Table c.in-Table.e) =
    subst (λ (e : WriteError). IsWriteRefused c.rows.result c.rows-2.result e) c.in-Table.is c.in-Err.ensures.refused in
    elim refused [
      | inl why ↦
          inl (only_large 32 4 ipv4_steps (from_le_bytes w32) c.args.table.now.values.items c.args.table.now.v4.rows c.in-Some.ipv4 c.rows.result are4 c.rows.ensures.keys
          c.rows.ensures.offsets c.rows.ensures.values c.iter.ensures.sorted c.in-Table.e c.in_default-e.not-NoMemory why)
      | inr (fine, why) ↦
          inr (only_large 128 2 ipv6_steps wide_word c.args.table.now.values.items c.args.table.now.v6.rows c.in-Some-others.ipv6 c.rows-2.result are6 c.rows-2.ensures.keys
          c.rows-2.ensures.offsets c.rows-2.ensures.values c.iter-2.ensures.sorted c.in-Table.e c.in_default-e.not-NoMemory why)
    ]
