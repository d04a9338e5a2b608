use Rattle.std.proofs.Common.{map, refl, subst}
use Rattle.cidr_lists.specs.Findings.{entry_network}
use Rattle.cidr_lists.specs.Nearness.{IsAroundAt}
use Rattle.cidr_lists.proofs.Found.{index_within, none_around, some_around}
use Rattle.cidr_lists.proofs.findings.inside.Goals as goal

pub returns-in-None : goal.returns-in-None
returns-in-None c =
    none_around c.args.entries.now c.args.index c.args.entry.now
    (subst (IsAroundAt (map entry_network c.args.entries.now) (entry_network c.args.entry.now)) c.in-None.is c.requires.1)

pub entry_at-outer-requires : goal.entry_at-outer-requires
entry_at-outer-requires c =
    let (outer, first, within, longest) =
    subst (IsAroundAt (map entry_network c.args.entries.now) (entry_network c.args.entry.now)) c.in-Some.is c.requires.1 in
    index_within c.args.entries.now outer c.in-Some.first first

pub returns-in-Some : goal.returns-in-Some
returns-in-Some c =
    rw c.network.ensures (
      refl,
      refl,
      some_around c.args.entries.now c.args.index c.args.entry.now c.in-Some.first c.entry_at-outer.result.now c.entry_at-outer.ensures
          (subst (IsAroundAt (map entry_network c.args.entries.now) (entry_network c.args.entry.now)) c.in-Some.is c.requires.1),
    )
