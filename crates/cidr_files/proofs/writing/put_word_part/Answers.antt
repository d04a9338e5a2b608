use Rattle.cidr_files.specs.Spelling.{word_bytes}
use Rattle.cidr_files.specs.Written.{spelled}
use Rattle.cidr_files.proofs.Joined.{aligned_part, filled_part}
use Rattle.cidr_files.proofs.writing.put_word_part.Goals as goal

pub returns-clause-part : goal.returns-clause-part
returns-clause-part c =
    filled_part c.args.out.now.items (spelled word_bytes c.args.words.now) c.put_words.new.out.items c.fill.new.out.items c.requires c.in_ok-put_words.ensures c.in_ok-fill.ensures

pub returns-clause-aligned : goal.returns-clause-aligned
returns-clause-aligned c =
    aligned_part c.args.out.now.items (spelled word_bytes c.args.words.now) c.fill.new.out.items c.requires
    (filled_part c.args.out.now.items (spelled word_bytes c.args.words.now) c.put_words.new.out.items c.fill.new.out.items c.requires c.in_ok-put_words.ensures c.in_ok-fill.ensures)
