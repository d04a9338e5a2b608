use Rattle.std.proofs.Common.{◌≢◌, refl, sym, ap, subst, ◌∙◌, arith, Some, length, slice_get, take, take_all}
use Rattle.cidr_lookup.specs.Keys.{key_networks}
use Rattle.cidr_lookup.specs.Faults.{IsFirstOther}
use Rattle.cidr_lookup.specs.Putting.{IsStopped, StopsBefore}
use Rattle.cidr_lookup.specs.Tables.{IsLookupTable}
use Rattle.cidr_lookup.proofs.Tables.{first_other, longer, one_table}
use Rattle.cidr_lookup.proofs.checking.check.Goals as goal

pub returns-then-entries-len-clause-refused : goal.returns-then-entries-len-clause-refused
returns-then-entries-len-clause-refused g c = (
  (c.if-not-are_steps.ensures.0 refl, omega (arith, c.len.ensures, c.if-len.false), omega (arith, c.len-2.ensures, c.if-len-2.false)),
  c.in-Ok.ensures.keys,
  λ all_first all_words table.
      let first = g.T.Words.words c.args.first.now in
      let words = g.T.Words.words c.args.words.now in
      let index = c.put_table.new.first.index in
      let both = one_table g.A.Address.width g.A.Address.padding c.args.steps (key_networks g.A.Address.value c.args.keys.now) all_first all_words _ _ table c.in-Ok-put_table.ensures.table in
      longer first all_first index (omega (arith, c.if-entries-len.true, c.len-in-Ok-put_table.ensures)) (both.0 ∙ ap (take index) c.put_table.ensures.kept_first),
)

pub returns-then-nodes-len-clause-refused : goal.returns-then-nodes-len-clause-refused
returns-then-nodes-len-clause-refused g c = (
  (c.if-not-are_steps.ensures.0 refl, omega (arith, c.len.ensures, c.if-len.false), omega (arith, c.len-2.ensures, c.if-len-2.false)),
  c.in-Ok.ensures.keys,
  λ all_first all_words table.
      let words = g.T.Words.words c.args.words.now in
      let index = c.put_table.new.words.index in
      let both = one_table g.A.Address.width g.A.Address.padding c.args.steps (key_networks g.A.Address.value c.args.keys.now) all_first all_words _ _ table c.in-Ok-put_table.ensures.table in
      longer words all_words index (omega (arith, c.if-nodes-len.true, c.len-in-Ok-put_table-2.ensures)) (both.1 ∙ ap (take index) c.put_table.ensures.kept_words),
)

pub returns-in-Ok-put_table-clause-table : goal.returns-in-Ok-put_table-clause-table
returns-in-Ok-put_table-clause-table g c =
    let w = g.A.Address.width in
    let padding = g.A.Address.padding in
    let networks = key_networks g.A.Address.value c.args.keys.now in
    let first = g.T.Words.words c.args.first.now in
    let words = g.T.Words.words c.args.words.now in
    let firsts = ap (take c.put_table.new.first.index) c.put_table.ensures.kept_first ∙ take_all c.put_table.new.first.index first (omega (arith, c.if-entries-len.false, c.len-in-Ok-put_table.ensures)) in
    let nodes = ap (take c.put_table.new.words.index) c.put_table.ensures.kept_words ∙ take_all c.put_table.new.words.index words (omega (arith, c.if-nodes-len.false, c.len-in-Ok-put_table-2.ensures)) in
    subst (λ xs. IsLookupTable w padding c.args.steps networks xs words) firsts
    (subst (λ xs. IsLookupTable w padding c.args.steps networks (take c.put_table.new.first.index (g.T.Words.words c.put_table.new.first.words.now)) xs) nodes c.in-Ok-put_table.ensures.table)

pub returns-in-Err-First-clause-refused : goal.returns-in-Err-First-clause-refused
returns-in-Err-First-clause-refused g c = (
  (c.if-not-are_steps.ensures.0 refl, omega (arith, c.len.ensures, c.if-len.false), omega (arith, c.len-2.ensures, c.if-len-2.false)),
  c.in-Ok.ensures.keys,
  λ all_first all_words table.
      let given = g.T.Words.words c.put_table.new.first.words.now in
      let put = take c.put_table.new.first.index given in
      let nodes = g.T.Words.words c.put_table.new.words.words.now in
      let put_nodes = take c.put_table.new.words.index nodes in
      let stopped : StopsBefore put (λ word. slice_get given (length put) ≢ Some word) all_first =
      subst (λ s. IsStopped s put (λ word. slice_get given (length put) ≢ Some word) all_first put_nodes (λ word. slice_get nodes (length put_nodes) ≢ Some word) all_words)
      c.in-Err-First.field-0-is (c.in-Err-First.ensures.stopped all_first all_words table) in
      let other = first_other given all_first c.put_table.new.first.index (omega (arith, c.if-len.false, c.len.ensures, ap length c.put_table.ensures.kept_first)) stopped in
      subst (λ xs. IsFirstOther xs all_first c.len-in-Err-First.result) c.put_table.ensures.kept_first (subst (λ n. IsFirstOther given all_first n) (sym c.len-in-Err-First.ensures) other),
)

pub returns-clause-refused : goal.returns-clause-refused
returns-clause-refused g c = (
  (c.if-not-are_steps.ensures.0 refl, omega (arith, c.len.ensures, c.if-len.false), omega (arith, c.len-2.ensures, c.if-len-2.false)),
  c.in-Ok.ensures.keys,
  λ all_first all_words table.
      let first = g.T.Words.words c.put_table.new.first.words.now in
      let put_first = take c.put_table.new.first.index first in
      let given = g.T.Words.words c.put_table.new.words.words.now in
      let put = take c.put_table.new.words.index given in
      let stopped : StopsBefore put (λ word. slice_get given (length put) ≢ Some word) all_words =
      subst (λ s. IsStopped s put_first (λ word. slice_get first (length put_first) ≢ Some word) all_first put (λ word. slice_get given (length put) ≢ Some word) all_words)
      c.in-Err-Words.field-0-is (c.in-Err-Words.ensures.stopped all_first all_words table) in
      let other = first_other given all_words c.put_table.new.words.index (omega (arith, c.if-len-2.false, c.len-2.ensures, ap length c.put_table.ensures.kept_words)) stopped in
      subst (λ xs. IsFirstOther xs all_words c.len-in-Err-Words.result) c.put_table.ensures.kept_words (subst (λ n. IsFirstOther given all_words n) (sym c.len-in-Err-Words.ensures) other),
)
