use Rattle.cidr_files.proofs.Joined.{aligned_part, filled_part}
use Rattle.cidr_files.proofs.writing.put_part.Goals as goal

pub returns-clause-part : goal.returns-clause-part
returns-clause-part c =
    filled_part c.args.out.now.items c.args.part.now c.extend_from_slice.new.self.items c.fill.new.out.items c.requires c.in_ok-extend_from_slice.ensures.items c.in_ok-fill.ensures

pub returns-clause-aligned : goal.returns-clause-aligned
returns-clause-aligned c =
    aligned_part c.args.out.now.items c.args.part.now c.fill.new.out.items c.requires
    (filled_part c.args.out.now.items c.args.part.now c.extend_from_slice.new.self.items c.fill.new.out.items c.requires c.in_ok-extend_from_slice.ensures.items c.in_ok-fill.ensures)
