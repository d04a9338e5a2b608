use Rattle.std.proofs.Common.{sym, ◌∙◌, arith}
use Rattle.cidr_mmdb.specs.Metadata.{end_at}
use Rattle.cidr_mmdb.proofs.Ends.{all_more}
use Rattle.cidr_mmdb.proofs.metadata.+end.Goals as goal

pub end_of_all-loop-left-preserved : goal.end_of_all-loop-left-preserved
end_of_all-loop-left-preserved t c =
    all_more (end_at c.args.section.now c.args.depth) c.loop-left.left c.loop-left.place c.in_ok-place.place (omega arith) (sym c.in_ok-place.ensures)
    ∙ c.loop-left.invariant
