use Rattle.cidr_lists.proofs.PushedWords.{word_pushed}
use Rattle.cidr_lists.proofs.row_lines.push_word.Goals as goal

pub returns : goal.returns
returns c =
    word_pushed c.args.text.now.items c.push.new.self.items c.extend_from_slice.new.self.items c.args.word.now
    c.in_ok-push.ensures.items c.in_ok-extend_from_slice.ensures.items
