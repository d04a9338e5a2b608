use Rattle.std.proofs.Common.{◌≡◌, ◌∙◌, ap, arith, List, [], ◌∷◌, ◌++◌, ℕ, length}
use Rattle.netset_commands.proofs.Compiling.{all_columns, next, none_yet, too_long}
use Rattle.netset_commands.proofs.output.compiled.columns_of.Goals as goal

pub loop-row-init : goal.loop-row-init
loop-row-init g c =
    none_yet g.W.Address.width g.W.Address.value g.C.BitString.bits c.args.all.now c.args.rows.now c.in_ok-keys.keys.items c.push.new.self.items c.new-values.result.items
    c.in_ok-keys.ensures.items (c.in_ok-push.ensures.items ∙ ap (λ (xs : List ℕ). xs ++ 0 ∷ []) c.in_ok-offsets.ensures.items) c.new-values.ensures.items

pub loop-row-preserved : goal.loop-row-preserved
loop-row-preserved g c =
    next g.W.Address.width g.W.Address.value g.C.BitString.bits c.args.all.now c.args.rows.now c.loop-row.keys.items c.push-in-loop-row.new.self.items
    c.loop-row.offsets.items c.push-in-loop-row-2.new.self.items c.loop-row.values.items c.extend_from_slice.new.self.items c.loop-row.row-index c.row-item.result
    c.of-key.result c.value_at_span.result.now c.len-end.result c.in_ok-push-2.ensures.items c.in_ok-extend_from_slice.ensures.items c.in_ok-push-3.ensures.items
    (c.len-end.ensures ∙ c.extend_from_slice.new.self.ok.0) c.loop-row-test.true c.row-item.is c.of-key.ensures.address c.of-key.ensures.len c.of-key.ensures.fits c.value_at_span.ensures c.loop-row.invariant

pub returns-clause-made : goal.returns-clause-made
returns-clause-made g c =
    all_columns g.W.Address.width g.W.Address.value g.C.BitString.bits c.args.all.now c.args.rows.now
    (record { keys = c.loop-row.keys; offsets = c.loop-row.offsets; values = c.loop-row.values }) c.loop-row.row-index c.loop-row-test.false
    (omega (arith, c.loop-row.auto.row-index-end)) c.loop-row.invariant

pub returns-then-end-clause-large : goal.returns-then-end-clause-large
returns-then-end-clause-large g c =
    let ends : c.len-end.result ≡ length c.extend_from_slice.new.self.items = c.len-end.ensures ∙ c.extend_from_slice.new.self.ok.0 in
    too_long g.W.Address.width g.W.Address.value g.C.BitString.bits c.args.all.now c.args.rows.now c.loop-row.values.items c.extend_from_slice.new.self.items
    c.value_at_span.result.now c.loop-row.row-index c.row-item.result c.in_ok-extend_from_slice.ensures.items (omega (arith, ends, c.if-end.true)) c.loop-row-test.true
    c.row-item.is c.value_at_span.ensures c.loop-row.invariant.total
