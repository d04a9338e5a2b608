use Rattle.std.proofs.Common.{◌∷◌, [], ◌++◌, codes, length}
use Rattle.cidr.specs.model.Network.{width_of}
use Rattle.cidr.specs.texts.Printed.{forced_text}
use Rattle.cidr_lists.specs.PrefixLists.{family_word}
use Rattle.cidr_lists.specs.RowLines.{bits_row, joined, length_words, row_words}
use Rattle.cidr_lists.specs.Rules.{action_text}
use Rattle.cidr_lists.proofs.PrintedTexts.{line_pushed}
use Rattle.cidr_lists.proofs.PushedWords.{behind_first, first_pushed}
use Rattle.cidr_lists.proofs.row_lines.push_row.Goals as goal

pub returns : goal.returns
returns g c =
    let old = c.args.text.now.items in
    let family = g.C.FamilyCidr.FAMILY in
    let row = bits_row g.C.BitString.bits c.args.row.now in
    let first = family_word family in
    let list = codes "prefix-list" ∷ [] in
    let name = list ++ c.args.name.now ∷ [] in
    let action = name ++ action_text row.action ∷ [] in
    let network = action ++ forced_text family row.network ∷ [] in
    let lengths = length_words (length row.network) (width_of family) row.low row.high in
    let a = first_pushed old c.extend_from_slice.new.self.items first (rw (c.family_word.ensures, c.FAMILY.ensures) at c.in_ok-extend_from_slice.ensures.items) in
    let b = behind_first old first c.extend_from_slice.new.self.items c.push_word.new.text.items [] list a c.in_ok-push_word.ensures in
    let d = behind_first old first c.push_word.new.text.items c.push_word-2.new.text.items list (c.args.name.now ∷ []) b c.in_ok-push_word-2.ensures in
    let e = behind_first old first c.push_word-2.new.text.items c.push_word-3.new.text.items name (action_text row.action ∷ []) d
    (rw c.action_word.ensures at c.in_ok-push_word-3.ensures) in
    let f = behind_first old first c.push_word-3.new.text.items c.push_word-4.new.text.items action (forced_text family row.network ∷ []) e
    (rw (c.as_bytes.ensures.value, c.as_str.ensures.value, c.to_text_with_length.ensures.text) at c.in_ok-push_word-4.ensures) in
    let h = behind_first old first c.push_word-4.new.text.items c.push_lengths.new.text.items network lengths f
    (rw (c.network_length.ensures.value, c.len.ensures, c.FAMILY-2.ensures) at c.in_ok-push_lengths.ensures) in
    line_pushed old c.push_lengths.new.text.items c.push.new.self.items (joined (row_words family c.args.name.now row)) h c.in_ok-push.ensures.items
