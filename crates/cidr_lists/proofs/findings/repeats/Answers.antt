use Rattle.std.proofs.Common.{refl}
use Rattle.cidr_lists.specs.Findings.{entry_network}
use Rattle.cidr_lists.proofs.Found.{first_repeats, index_within, repeats_first}
use Rattle.cidr_lists.proofs.findings.repeats.Goals as goal

pub returns-then-first-index : goal.returns-then-first-index
returns-then-first-index c = first_repeats c.args.entries.now c.args.index c.args.entry.now c.args.near.first c.requires.0 c.if-first-index.true

pub entry_at-requires : goal.entry_at-requires
entry_at-requires c = index_within c.args.entries.now (entry_network c.args.entry.now) c.args.near.first c.requires.0

pub returns : goal.returns
returns c = (
  refl,
  refl,
  repeats_first c.args.entries.now c.args.index c.args.entry.now c.args.near.first c.entry_at.result.now c.requires.0 c.if-first-index.false c.entry_at.ensures,
)
