use Rattle.std.proofs.Common.{◌∙◌, sym, refl, inl, inr}
use Rattle.cidr_ext.specs.internal.Entries.{has_block}
use Rattle.cidr_ext.proofs.Matches.{takes, keeps}
use Rattle.cidr_ext.proofs.special.longest_match.Goals.{then-contains+then-is_longer, else-contains, else-contains-via-then-contains+else-is_longer, else-contains-via-else-contains}
use Rattle.cidr_ext.proofs.special.longest_match.Goals as goal

pub loop-entry-preserved : goal.loop-entry-preserved
loop-entry-preserved c =
    let p = has_block c.args.width c.args.number in
    elim c.if-contains.branch [
      | then-contains+then-is_longer w ↦
          takes p c.args.entries.now c.loop-entry.entry-index _ c.loop-entry-test.true c.loop-entry.longest c.if-contains.longest _ w.longest-is refl c.loop-entry.invariant
          (sym c.contains.ensures ∙ w.if-contains.true) w.is_longer.result w.if-is_longer.true w.is_longer.ensures
      | else-contains w ↦
          keeps p c.args.entries.now c.loop-entry.entry-index _ c.loop-entry-test.true c.loop-entry.longest c.if-contains.longest w.longest-is c.loop-entry.invariant
          (elim w.else-contains.branch [
            | else-contains-via-then-contains+else-is_longer u ↦ inr (u.is_longer.result, u.if-is_longer.false, u.is_longer.ensures)
            | else-contains-via-else-contains u ↦ inl (sym c.contains.ensures ∙ u.if-contains.false)
          ])
    ]
