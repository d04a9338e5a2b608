use Rattle.cidr_lists.specs.Findings.{entry_network, kind_rank}
use Rattle.netset_commands.proofs.Checked.{note_told, nothing_told}
use Rattle.cidr_lists.proofs.Found.{network_of}
use Rattle.netset_commands.proofs.LineFindings.{kind_below}
use Rattle.netset_commands.proofs.commands.check.tell.Goals as goal

pub find-requires : goal.find-requires
find-requires g c =
    c.near_at.ensures (entry_network c.entry_at-entry.result.now) (network_of c.args.entries.now c.args.index c.entry_at-entry.result.now c.entry_at-entry.ensures)

pub returns-in_default : goal.returns-in_default
returns-in_default g c start bound at noted =
    nothing_told c.args.entries.now c.args.near.now c.requires.near c.args.index c.entry_at-entry.result.now c.entry_at-entry.ensures (kind_rank c.args.kind)
    (kind_below c.args.kind) bound at start (g.S.Sink.state c.args.out.now) (g.S.Sink.state c.args.out.now) c.args.messages.now.block c.args.messages.now.block
    c.args.messages.now.verdict noted c.in_default.ensures

pub returns : goal.returns
returns g c start bound at noted =
    note_told c.args.entries.now c.args.near.now c.requires.near c.args.index c.entry_at-entry.result.now c.entry_at-entry.ensures (kind_rank c.args.kind)
    (kind_below c.args.kind) bound at start (g.S.Sink.state c.args.out.now) (g.S.Sink.state c.push_note.new.out) c.args.messages.now.block c.push_note.new.block
    c.args.messages.now.verdict noted c.in-Some.note c.push_note.result c.in-Some.ensures c.push_note.ensures
