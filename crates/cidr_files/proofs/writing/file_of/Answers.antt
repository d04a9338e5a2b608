use Rattle.std.proofs.Common.{◌≡◌, ◌∙◌, ap, ap₂, append_assoc, arith, List, ℕ, ◌++◌}
use Rattle.std.specs.Int.{from_le_bytes, w32}
use Rattle.cidr_files.specs.Contents.{counts_of, head_of, parts_written}
use Rattle.cidr_files.specs.Layout.{wide_word}
use Rattle.cidr_files.specs.Spelling.{wide_bytes, word_bytes}
use Rattle.cidr_files.specs.Written.{joined_parts, spelled}
use Rattle.cidr_files.specs.declared.layout.Counts.{Counts}
use Rattle.cidr_files.proofs.Files.{is_file, lengths_below}
use Rattle.cidr_files.proofs.writing.file_of.Goals as goal

pub put_contents-requires-clause-lengths : goal.put_contents-requires-clause-lengths
put_contents-requires-clause-lengths c = lengths_below 32 4 (from_le_bytes w32) c.args.ipv4.now c.requires.ipv4 (omega arith)

pub put_contents-requires-2-clause-lengths : goal.put_contents-requires-2-clause-lengths
put_contents-requires-2-clause-lengths c = lengths_below 128 2 wide_word c.args.ipv6.now c.requires.ipv6 (omega arith)

pub returns : goal.returns
returns c =
    let a = c.args.ipv4.now in
    let b = c.args.ipv6.now in
    let head = spelled word_bytes (head_of (counts_of a) (counts_of b)) in
    let p4 = joined_parts (parts_written (from_le_bytes w32) word_bytes a) in
    let p6 = joined_parts (parts_written wide_word wide_bytes b) in
    let o1 = c.put_head.new.out.items in
    let o2 = c.put_contents.new.out.items in
    let o3 = c.put_contents-2.new.out.items in
    let first : o1 ≡ head =
    c.in_ok-put_head.ensures.words
    ∙ (ap (λ (xs : List ℕ). xs ++ spelled word_bytes (head_of c.counts_of.result c.counts_of-2.result)) c.new-out.ensures.items
    ∙ ap₂ (λ (x : Counts) (y : Counts). spelled word_bytes (head_of x y)) c.counts_of.ensures c.counts_of-2.ensures) in
    let second : o2 ≡ o1 ++ p4 = c.in_ok-put_contents.ensures.parts in
    let third : o3 ≡ o2 ++ p6 = c.in_ok-put_contents-2.ensures.parts in
    let is : o3 ≡ head ++ (p4 ++ p6) =
    third ∙ (ap (λ (xs : List ℕ). xs ++ p6) second ∙ (append_assoc o1 p4 p6 ∙ ap (λ (xs : List ℕ). xs ++ (p4 ++ p6)) first)) in
    let all = is_file (from_le_bytes w32) wide_word a b c.requires.ipv4 c.requires.ipv6 o3 is in
    record { file = all.0; small = all.1; zeros = all.4; ipv4 = all.2; ipv6 = all.3; ipv4_steps = all.5; ipv6_steps = all.6; all = is }
