use Rattle.std.proofs.Common.{◌≡◌, ◌+◌, ◌-◌, ap, arith, drop, subst, List, ℕ, Option, true, false}
use Rattle.std.specs.List.{slice_range}
use Rattle.std.specs.Option.{IfSome}
use Rattle.std.specs.Io.KnownBytes.{prepend_known}
use Rattle.cidr_io.specs.Lines.{IsNextLine, Lines}
use Rattle.cidr_io.proofs.Feeds.{last_of_block, next_of_block}
use Rattle.cidr_io.proofs.lines.LineReader.read_line.Goals as goal

pub returns-in_default-clause-line : goal.returns-in_default-clause-line
returns-in_default-clause-line g c =
    let block = c.find_line.new.block.items in
    let start = c.in_ok-start.start in
    let end = c.len-end.result in
    let text = prepend_known (drop c.self.inside.next c.self.inside.block.items) (g.S.Source.left c.self.inside.source) in
    let found = rw c.in_default.is at c.in_ok-start.ensures.found in
    let same : text ≡ c.args.self.now.left = ap (λ (v : Lines). v.left) c.self.view_is in
    let left = prepend_known (drop end block) (g.S.Source.left c.find_line.new.source) in
    subst (λ (k : Option (List ℕ)). IfSome k (λ text. IsNextLine text (slice_range block start (start + c.kept-last.result)) false left)) same
    (last_of_block text (g.S.Source.left c.find_line.new.source) left block start (end - start) c.kept-last.result
    (omega (arith, c.len-end.ensures, c.find_line.new.block.ok.0, c.in_ok-start.ensures.within)) c.in_ok-start.ensures.lines found.0 found.1
    (c.kept-last.ensures.kept (drop start block)))

pub returns-clause-line : goal.returns-clause-line
returns-clause-line g c =
    let block = c.find_line.new.block.items in
    let start = c.in_ok-start.start in
    let len = c.in-Some.len in
    let text = prepend_known (drop c.self.inside.next c.self.inside.block.items) (g.S.Source.left c.self.inside.source) in
    let found = rw c.in-Some.is at c.in_ok-start.ensures.found in
    let same : text ≡ c.args.self.now.left = ap (λ (v : Lines). v.left) c.self.view_is in
    let left = prepend_known (drop (start + len + 1) block) (g.S.Source.left c.find_line.new.source) in
    subst (λ (k : Option (List ℕ)). IfSome k (λ text. IsNextLine text (slice_range block start (start + c.kept-line.result)) true left)) same
    (next_of_block text (g.S.Source.left c.find_line.new.source) block start len c.kept-line.result c.in_ok-start.ensures.lines found
    (c.kept-line.ensures.kept (drop start block)))
