use Rattle.std.proofs.Common.{◌∙◌, sym, refl, inl, inr}
use Rattle.std.proofs.lemmas.List.Elements.{Contains-get_or}
use Rattle.cidr_ext.proofs.Distinct.{fits}
use Rattle.cidr_ext.proofs.Matches.{takes, keeps}
use Rattle.cidr_c.specs.model.Special.{has_network}
use Rattle.cidr_c.proofs.entries.longest_of.Goals.{then-lies_in+then-is_longer, else-lies_in, else-lies_in-via-then-lies_in+else-is_longer, else-lies_in-via-else-lies_in}
use Rattle.cidr_c.proofs.entries.longest_of.Goals as goal

pub lies_in-requires-clause-first : goal.lies_in-requires-clause-first
lies_in-requires-clause-first g c = (fits g.N.Number.width c.args.entries.now c.requires _ (Contains-get_or c.args.entries.now c.loop-entry.entry-index _ c.loop-entry-test.true)).0

pub lies_in-requires-clause-len : goal.lies_in-requires-clause-len
lies_in-requires-clause-len g c = (fits g.N.Number.width c.args.entries.now c.requires _ (Contains-get_or c.args.entries.now c.loop-entry.entry-index _ c.loop-entry-test.true)).1

pub loop-entry-preserved : goal.loop-entry-preserved
loop-entry-preserved g c =
    let p = has_network g.N.Number.width (g.N.Number.value c.args.number) c.args.len in
    elim c.if-lies_in.branch [
      | then-lies_in+then-is_longer w ↦
          takes p c.args.entries.now c.loop-entry.entry-index _ c.loop-entry-test.true c.loop-entry.longest c.if-lies_in.longest _ w.longest-is refl c.loop-entry.invariant
          (sym c.lies_in.ensures ∙ w.if-lies_in.true) w.is_longer.result w.if-is_longer.true w.is_longer.ensures
      | else-lies_in w ↦
          keeps p c.args.entries.now c.loop-entry.entry-index _ c.loop-entry-test.true c.loop-entry.longest c.if-lies_in.longest w.longest-is c.loop-entry.invariant
          (elim w.else-lies_in.branch [
            | else-lies_in-via-then-lies_in+else-is_longer u ↦ inr (u.is_longer.result, u.if-is_longer.false, u.is_longer.ensures)
            | else-lies_in-via-else-lies_in u ↦ inl (sym c.lies_in.ensures ∙ u.if-lies_in.false)
          ])
    ]
