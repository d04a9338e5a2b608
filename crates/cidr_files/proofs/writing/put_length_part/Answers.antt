use Rattle.cidr_files.specs.Contents.{lengths_of}
use Rattle.cidr_files.proofs.Joined.{aligned_part, filled_part}
use Rattle.cidr_files.proofs.writing.put_length_part.Goals as goal

pub returns-clause-part : goal.returns-clause-part
returns-clause-part g c =
    filled_part c.args.out.now.items (lengths_of c.args.keys.now) c.put_lengths.new.out.items c.fill.new.out.items c.requires.aligned c.in_ok-put_lengths.ensures c.in_ok-fill.ensures

pub returns-clause-aligned : goal.returns-clause-aligned
returns-clause-aligned g c =
    aligned_part c.args.out.now.items (lengths_of c.args.keys.now) c.fill.new.out.items c.requires.aligned
    (filled_part c.args.out.now.items (lengths_of c.args.keys.now) c.put_lengths.new.out.items c.fill.new.out.items c.requires.aligned c.in_ok-put_lengths.ensures c.in_ok-fill.ensures)
