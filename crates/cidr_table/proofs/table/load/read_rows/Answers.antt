-- One prefix more in each round.
use Rattle.std.proofs.Common.{◌≡◌, ◌+◌, ◌==◌, [], ◌∷◌, ◌++◌, length, sym, ap, ◌∙◌, arith, rules}
use Rattle.std.proofs.lemmas.Bool.{false≢true}
use Rattle.cidr_table.specs.model.Loading.{placed}
use Rattle.cidr_table.proofs.PrefixLists.{used_within, shorter, one_more, begun}
use Rattle.cidr_table.proofs.LastPlaces.{placed_push, length-placed}
use Rattle.cidr_table.proofs.table.load.read_rows.Goals as goal

pub slice_bounds-rest-count : goal.slice_bounds-rest-count
slice_bounds-rest-count g c = used_within g.C.BitString.bits g.C.PrefixBytes.width c.loop-rest.rest.now c.in-Ok.read.0 c.in-Ok.read.1 c.in-Ok.ensures

pub slice_bounds-rest-start : goal.slice_bounds-rest-start
slice_bounds-rest-start g c = let h = used_within g.C.BitString.bits g.C.PrefixBytes.width c.loop-rest.rest.now c.in-Ok.read.0 c.in-Ok.read.1 c.in-Ok.ensures in search (rules, h)

pub returns-in-Err : goal.returns-in-Err
returns-in-Err g c =
    let (keys, listed, rows) = c.loop-rest.invariant in (
      keys,
      c.loop-rest.rest.now,
      listed,
      omega (arith, c.len-index.ensures, ap length rows, length-placed 0 keys),
      λ none. false≢true (c.loop-rest-test.ensures ∙ ap (λ t. length t == 0) none),
      c.in-Err.ensures.refused,
    )

pub returns-then-is_err : goal.returns-then-is_err
returns-then-is_err g c =
    let (keys, listed, rows) = c.loop-rest.invariant in
    begun g.C.BitString.bits g.C.PrefixBytes.width keys c.in-Ok.read.0 _ c.args.bytes.now
    (one_more g.C.BitString.bits g.C.PrefixBytes.width c.loop-rest.rest.now c.in-Ok.read.0 c.in-Ok.read.1 c.in-Ok.ensures keys c.args.bytes.now listed)

pub loop-rest-smaller : goal.loop-rest-smaller
loop-rest-smaller g c = shorter g.C.BitString.bits g.C.PrefixBytes.width c.loop-rest.rest.now c.in-Ok.read.0 c.in-Ok.read.1 c.in-Ok.ensures

pub loop-rest-preserved : goal.loop-rest-preserved
loop-rest-preserved g c =
    let (keys, listed, rows) = c.loop-rest.invariant in
    let index : c.len-index.result ≡ 0 + length keys = omega (arith, c.len-index.ensures, ap length rows, length-placed 0 keys) in
    let items : c.push.new.self.items ≡ c.loop-rest.rows.items ++ (c.in-Ok.read.0, c.len-index.result) ∷ [] = rw c.if-is_err.ensures.negation at c.push.ensures.items in (
      keys ++ c.in-Ok.read.0 ∷ [],
      one_more g.C.BitString.bits g.C.PrefixBytes.width c.loop-rest.rest.now c.in-Ok.read.0 c.in-Ok.read.1 c.in-Ok.ensures keys c.args.bytes.now listed,
      items ∙ ap (λ t. t ++ (c.in-Ok.read.0, c.len-index.result) ∷ []) rows ∙ ap (λ n. placed 0 keys ++ (c.in-Ok.read.0, n) ∷ []) index ∙ sym (placed_push 0 keys c.in-Ok.read.0),
    )
