use Rattle.std.proofs.Common.{refl}
use Rattle.netset_commands.proofs.EntriesRead.{all_copied, none_copied, one_copied}
use Rattle.netset_commands.proofs.input.entries.add_kept.Goals as goal

pub loop-entry-init : goal.loop-entry-init
loop-entry-init g c = none_copied c.args.file.now c.args.entries.now.items

pub loop-entry-preserved : goal.loop-entry-preserved
loop-entry-preserved g c =
    one_copied c.args.file.now c.args.entries.now.items c.loop-entry.entries.items _ c.args.kept.now c.loop-entry.entry-index c.entry-item.result _ c.loop-entry-test.true
    c.loop-entry.invariant c.entry-item.is (refl, refl, refl, refl) c.in_ok-push.ensures.pushed

pub returns-clause-added : goal.returns-clause-added
returns-clause-added g c =
    all_copied c.args.file.now c.args.entries.now.items c.loop-entry.entries.items c.args.kept.now c.loop-entry.entry-index c.loop-entry-test.false c.loop-entry.invariant
