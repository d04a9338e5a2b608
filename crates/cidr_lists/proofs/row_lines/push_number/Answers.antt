use Rattle.std.proofs.Common.{◌∷◌, [], decimal}
use Rattle.cidr_lists.proofs.PushedWords.{words_pushed}
use Rattle.cidr_lists.proofs.row_lines.push_number.Goals as goal

pub returns : goal.returns
returns c =
    words_pushed c.args.text.now.items c.push_word.new.text.items c.push_word-2.new.text.items (c.args.word.now ∷ []) (decimal c.args.number ∷ [])
    c.in_ok-push_word.ensures (rw (c.as_bytes.ensures.value, c.as_str.ensures.value, c.decimal_text.ensures.text, c.from.ensures) at c.in_ok-push_word-2.ensures)
