use Rattle.std.proofs.Common.{map, refl, subst}
use Rattle.cidr_lists.specs.Findings.{entry_network}
use Rattle.cidr_lists.specs.Nearness.{IsHalfAt}
use Rattle.cidr_lists.proofs.Found.{earlier_merges, index_within, later_merges, nothing_merges}
use Rattle.cidr_lists.proofs.findings.mergeable.Goals as goal

pub returns-in-None : goal.returns-in-None
returns-in-None c =
    nothing_merges c.args.entries.now c.args.index c.args.entry.now
    (subst (IsHalfAt (map entry_network c.args.entries.now) (entry_network c.args.entry.now)) c.in-None.is c.requires.2)

pub returns-then-first-index : goal.returns-then-first-index
returns-then-first-index c =
    later_merges c.args.entries.now c.args.index c.args.entry.now c.in-Some.first
    (subst (IsHalfAt (map entry_network c.args.entries.now) (entry_network c.args.entry.now)) c.in-Some.is c.requires.2) c.if-first-index.true

pub entry_at-requires : goal.entry_at-requires
entry_at-requires c =
    let (other, halves, first) =
    subst (IsHalfAt (map entry_network c.args.entries.now) (entry_network c.args.entry.now)) c.in-Some.is c.requires.2 in
    index_within c.args.entries.now other c.in-Some.first first

pub returns-else-first-index : goal.returns-else-first-index
returns-else-first-index c = (
  refl,
  refl,
  earlier_merges c.args.entries.now c.args.index c.args.entry.now c.in-Some.first c.entry_at.result.now
      (subst (IsHalfAt (map entry_network c.args.entries.now) (entry_network c.args.entry.now)) c.in-Some.is c.requires.2) c.if-first-index.false c.entry_at.ensures,
)
