use Rattle.std.proofs.Common.{sym, List, [], ◌∷◌, ℕ}
use Rattle.std.proofs.lemmas.List.{append-nil}
use Rattle.cidr_files.specs.Contents.{key_addresses, lengths_of}
use Rattle.cidr_files.specs.Spelling.{word_bytes}
use Rattle.cidr_files.specs.Written.{filled, joined_parts, spelled}
use Rattle.cidr_files.proofs.Joined.{then_others}
use Rattle.cidr_files.proofs.writing.put_contents.Goals as goal

pub returns-clause-parts : goal.returns-clause-parts
returns-clause-parts g c =
    let bytes = g.W.FileAddress.bytes_of in
    let value = g.W.Address.value in
    let t = c.args.contents.now in
    let p1 = spelled word_bytes t.first.now in
    let p2 = spelled word_bytes t.words.now in
    let p3 = spelled bytes (key_addresses value t.rows.now.keys.now) in
    let p4 = lengths_of t.rows.now.keys.now in
    let p5 = spelled word_bytes t.rows.now.offsets.now in
    let p6 : List ℕ = t.rows.now.values.now in
    let o0 = c.args.out.now.items in
    let o1 = c.put_word_part.new.out.items in
    let o2 = c.put_word_part-2.new.out.items in
    let o3 = c.put_key_part.new.out.items in
    let o4 = c.put_length_part.new.out.items in
    let o5 = c.put_word_part-3.new.out.items in
    let o6 = c.put_part.new.out.items in
    then_others o0 (filled p1) (joined_parts (p2 ∷ p3 ∷ p4 ∷ p5 ∷ p6 ∷ [])) o1 o6 c.in_ok-put_word_part.ensures.part
    (then_others o1 (filled p2) (joined_parts (p3 ∷ p4 ∷ p5 ∷ p6 ∷ [])) o2 o6 c.in_ok-put_word_part-2.ensures.part
    (then_others o2 (filled p3) (joined_parts (p4 ∷ p5 ∷ p6 ∷ [])) o3 o6 c.in_ok-put_key_part.ensures.part
    (then_others o3 (filled p4) (joined_parts (p5 ∷ p6 ∷ [])) o4 o6 c.in_ok-put_length_part.ensures.part
    (then_others o4 (filled p5) (joined_parts (p6 ∷ [])) o5 o6 c.in_ok-put_word_part-3.ensures.part
    (then_others o5 (filled p6) [] o6 o6 c.in_ok-put_part.ensures.part (sym (append-nil o6)))))))
