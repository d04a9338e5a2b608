use Rattle.std.proofs.Common.{sym, ◌∙◌, arith}
use Rattle.std.proofs.lemmas.Bool.{true≢false}
use Rattle.std.proofs.lemmas.List.{take_all}
use Rattle.std.proofs.lemmas.List.Elements.{All-more, All-nil}
use Rattle.cidr.specs.either.IpNetwork.{any_bits}
use Rattle.cidr_table.proofs.MapLaws.{contains_nothing}
use Rattle.cidr_sets.proofs.FirstRules.{index_ascending, index_pushed, index_skipped}
use Rattle.cidr_c.specs.calls.Lookups.{IsRelatedAt}
use Rattle.cidr_c.specs.model.Values.{IsNetworkValue}
use Rattle.cidr_c.proofs.Related.{at_index, within_list}
use Rattle.cidr_c.proofs.covering.indexes_of.Goals as goal
use Rattle.cidr_c.proofs.covering.indexes_of.Goals.{then-holds+in-Ok, else-holds}

pub loop-i-init : goal.loop-i-init
loop-i-init g c = record {
  networks = All-nil IsNetworkValue;
  indexes = λ j. (
    λ d. absurd (contains_nothing j (rw c.new-indexes.ensures.items at d)),
    λ k. absurd (omega (arith, k.0)),
  );
  ascending = rw c.new-indexes.ensures.items (λ k lt. absurd (omega (arith, lt)));
}

pub loop-i-preserved : goal.loop-i-preserved
loop-i-preserved g c =
    let l = c.loop-i in
    let h = l.invariant in
    let networks = c.args.networks.now in
    let p = any_bits c.args.asked.now in
    let Holds = g.R.Relation.Holds in
    let told = c.in-Some.ensures in
    let same = at_index Holds networks p l.i (record { high = 0; low = 0; tag = 0; zero_17 = 0; zero_18 = 0; zero_20 = 0 }) c.in-Some.network c.loop-i-test.true told.1 in
    let fine = All-more IsNetworkValue networks l.i (record { high = 0; low = 0; tag = 0; zero_17 = 0; zero_18 = 0; zero_20 = 0 }) c.loop-i-test.true h.networks told.0 in
    elim c.if-holds.branch [
      | then-holds+in-Ok w ↦ record {
        networks = fine;
        indexes = rw (w.indexes-is, w.in-Ok.ensures.items)
            (index_pushed (IsRelatedAt Holds networks p) l.i l.indexes.items h.indexes (same.1 (c.holds.ensures.0 w.if-holds.true)));
        ascending = rw (w.indexes-is, w.in-Ok.ensures.items) (index_ascending (IsRelatedAt Holds networks p) l.i l.indexes.items h.indexes h.ascending);
      }
      | else-holds w ↦ record {
        networks = fine;
        indexes = rw w.indexes-is
            (index_skipped (IsRelatedAt Holds networks p) l.i l.indexes.items h.indexes
            (λ s. true≢false (sym (c.holds.ensures.1 (same.0 s)) ∙ w.if-holds.false)));
        ascending = rw w.indexes-is h.ascending;
      }
    ]

pub returns : goal.returns
returns g c =
    let l = c.loop-i in
    let h = l.invariant in
    let networks = c.args.networks.now in (
      rw (sym (take_all l.i networks (omega (arith, c.loop-i-test.false)))) h.networks,
      λ i. (
        λ d. ((h.indexes i).0 d).1,
        λ s. (h.indexes i).1 (omega (arith, within_list g.R.Relation.Holds networks (any_bits c.args.asked.now) i s, c.loop-i-test.false), s),
      ),
      h.ascending,
    )
