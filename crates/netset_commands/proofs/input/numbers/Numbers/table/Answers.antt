use Rattle.std.proofs.Common.{◌≡◌, ◌∙◌, ◌≤◌, ◌<◌, ℕ, get_or, length, map, ap, arith, subst, sym}
use Rattle.std.specs.List.{All}
use Rattle.std.specs.List.Sorted.{IsStrictlySortedBy}
use Rattle.std.specs.Map.{keys_of}
use Rattle.std.proofs.lemmas.List.{take_all}
use Rattle.std.proofs.lemmas.List.Elements.{All-push}
use Rattle.cidr.specs.model.Network.{width_of}
use Rattle.cidr_forwarding.specs.Forwarding.{AreNetworksOf}
use Rattle.netset_commands.proofs.Numbering.{keys_numbered, networks_of_width, numbered_more}
use Rattle.netset_commands.specs.Numbers.{numbered}
use Rattle.cidr_lists.specs.Tables.{resolved}
use Rattle.netset_commands.proofs.input.numbers.Numbers.table.Goals as goal

pub loop-row-preserved : goal.loop-row-preserved
loop-row-preserved g c =
    let rows = c.args.table.now.rows in
    let same : c.as_slice-row-items.result.now ≡ rows = c.as_slice-row-items.ensures.value ∙ c.iter.ensures.rest in
    let P : g.row.C.Denot × ℕ → Type 0 = λ row. length (g.C.BitString.bits row.0) ≤ width_of g.C.FamilyCidr.FAMILY in
    record {
      rows = numbered_more c.args.self.now c.args.all.now rows c.loop-row.row-index c.number-number.result c.row-item.result c.value_at_span.result.now c.loop-row.rows.items
          c.push.new.self.items (subst (λ l. c.loop-row.row-index < length l) same c.loop-row-test.true)
          (subst (λ l. c.row-item.result ≡ get_or l c.loop-row.row-index c.row-item.result) same c.row-item.is) c.value_at_span.ensures c.number-number.ensures
          c.in_ok-push.ensures.items c.loop-row.invariant.rows;
      fit = subst (All P) (sym c.in_ok-push.ensures.items)
          (All-push P c.loop-row.rows.items (c.row-item.result.0, c.number-number.result) c.loop-row.invariant.fit
          (omega (arith, c.network_length.ensures.value, c.network_length.ensures.fits)));
    }

pub returns-clause-rows : goal.returns-clause-rows
returns-clause-rows g c =
    let made = numbered c.args.self.now (map (resolved c.args.all.now) c.args.table.now.rows) in
    let rows = c.args.table.now.rows in
    let same : c.as_slice-row-items.result.now ≡ rows = c.as_slice-row-items.ensures.value ∙ c.iter.ensures.rest in
    let done : length rows ≤ c.loop-row.row-index = subst (λ l. length l ≤ c.loop-row.row-index) same c.loop-row-test.false in
    let all : c.loop-row.rows.items ≡ made =
    c.loop-row.invariant.rows ∙ ap (λ l. numbered c.args.self.now (map (resolved c.args.all.now) l)) (take_all c.loop-row.row-index rows done) in
    let keys = keys_numbered c.args.self.now c.args.all.now c.args.table.now.rows in
    let sorted : IsStrictlySortedBy g.C.Ord.cmp (keys_of c.loop-row.rows.items) =
    subst (λ rows. IsStrictlySortedBy g.C.Ord.cmp (keys_of rows)) (sym all) (subst (IsStrictlySortedBy g.C.Ord.cmp) (sym keys) c.iter.ensures.sorted) in
    c.from_rows.ensures.whole sorted ∙ all

pub returns-clause-fit : goal.returns-clause-fit
returns-clause-fit g c =
    let made = numbered c.args.self.now (map (resolved c.args.all.now) c.args.table.now.rows) in
    let rows = c.args.table.now.rows in
    let same : c.as_slice-row-items.result.now ≡ rows = c.as_slice-row-items.ensures.value ∙ c.iter.ensures.rest in
    let done : length rows ≤ c.loop-row.row-index = subst (λ l. length l ≤ c.loop-row.row-index) same c.loop-row-test.false in
    let all : c.loop-row.rows.items ≡ made =
    c.loop-row.invariant.rows ∙ ap (λ l. numbered c.args.self.now (map (resolved c.args.all.now) l)) (take_all c.loop-row.row-index rows done) in
    subst (AreNetworksOf g.C.BitString.bits (width_of g.C.FamilyCidr.FAMILY)) (all ∙ sym (returns-clause-rows g c))
    (networks_of_width g.C.BitString.bits (width_of g.C.FamilyCidr.FAMILY) c.loop-row.rows.items c.loop-row.invariant.fit)
